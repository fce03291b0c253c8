-- The unit waits at none of the things before.
use Rattle.std.proofs.Common.{ℕ, ◌≡◌, ◌<◌, length, None}
use Rattle.std.specs.List.{find}
use Rattle.abt_machine.specs.Pools.{is_unit}
use Rattle.abt_commons.specs.Reading.{waiters_at_thing}
use Rattle.abt_commons.proofs.objects.Objects.at_things.Given as goal

abbrev pub invariant-loop-x : goal.invariant-loop-x
invariant-loop-x l = ((y : ℕ) → y < l.x → find (is_unit l.u.0) (waiters_at_thing l.self y) ≡ None) × (l.x-end ≡ length l.self.workload.objects)
