-- Bounds on a tally while it is counted.
use Rattle.std.specs.Prelude.{ℕ, ◌≤◌}
use Rattle.abt_machine.specs.Texts.{Tally}

-- no count is above n
pub record IsAtMost (n : ℕ) (t : Tally) : Type 0 where
  pub unborn : t.unborn ≤ n
  pub pool : t.pool ≤ n
  pub stream : t.stream ≤ n
  pub blocked : t.blocked ≤ n
  pub done : t.done ≤ n
  pub asked : t.asked ≤ n
  pub access : t.access ≤ n
