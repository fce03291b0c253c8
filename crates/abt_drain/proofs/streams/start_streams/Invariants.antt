use Rattle.abt_drain.specs.Crews.{AllKeep, AreStarted}
use Rattle.abt_drain.proofs.streams.start_streams.Given as goal

abbrev pub invariant-streams : goal.invariant-streams
invariant-streams l = AreStarted l.w l.steps l.s l.streams.items × AllKeep l.keeps l.streams.items
