-- What the command `self` leaves.
use Rattle.std.specs.Prelude.{ℕ, ◌≡◌, ◌≢◌}
use Rattle.abt_adders.specs.Texts.{adders_text}
use Rattle.abt_shell.specs.Calls.{Left}
use Rattle.abt_shell.specs.Told.{Gained, GainedPrefix}

-- n is the status of a call of `self` with this number of units, which left this: no run is stuck, none runs out of steps, and each prints the same text
pub record SelfAdds (n units : ℕ) (left : Left) : Type 0 where
  pub not_stuck : n ≢ 1
  pub not_spent : n ≢ 4
  pub whole : n ≡ 0 → Gained left.out (adders_text units)
  pub begun : n ≡ 6 → GainedPrefix left.out (adders_text units)
