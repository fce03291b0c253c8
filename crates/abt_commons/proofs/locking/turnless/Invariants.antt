-- The passes before are made.
use Rattle.std.proofs.Common.{◌≡◌, ◌≤◌, [], vec_capacity, vec_len}
use Rattle.abt_commons.specs.Locking.{AreDealt}
use Rattle.abt_commons.proofs.locking.turnless.Given as goal

abbrev pub invariant-loop-stream : goal.invariant-loop-stream
invariant-loop-stream l = AreDealt [] l.count l.stream l.passes.items × (vec_len l.passes ≡ l.stream) × (l.streams ≤ vec_capacity l.passes)
