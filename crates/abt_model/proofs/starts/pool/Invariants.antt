use Rattle.std.proofs.Common.{◌≡◌, length}
use Rattle.std.specs.List.{filter}
use Rattle.abt_calls.specs.Starts.{first_units, starts_in}
use Rattle.abt_model.proofs.starts.pool.Given as goal

abbrev pub invariant-loop-u : goal.invariant-loop-u
invariant-loop-u l = record { own : l.units.items ≡ filter (starts_in l.w l.p.0) (first_units l.w l.u); many : l.u-end ≡ length l.w.units }
