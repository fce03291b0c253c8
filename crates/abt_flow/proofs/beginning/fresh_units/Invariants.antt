use Rattle.abt_flow.specs.Tables.{AreFresh}
use Rattle.abt_flow.proofs.beginning.fresh_units.Given as goal

abbrev pub invariant-loop-u : goal.invariant-loop-u
invariant-loop-u l = AreFresh l.w l.units.items l._u
