-- The turns of the stream that alone has anything to do.
use Rattle.abt_waves.proofs.fleet.Fleet.alone.Goals as goal

pub lone-requires : goal.lone-requires
lone-requires g c = c.requires.fleet.fleet_is.workload
