use Rattle.std.proofs.Common.{◌≡◌, drop}
use Rattle.std.specs.List.{list_all}
use Rattle.abt_machine.specs.Canonical.{has_unit}
use Rattle.abt_workload.proofs.writing.has_units.Given as goal

abbrev pub invariant-loop-u : goal.invariant-loop-u
invariant-loop-u l = list_all (has_unit l.format) (drop l.u l.w.units) ≡ list_all (has_unit l.format) l.w.units
