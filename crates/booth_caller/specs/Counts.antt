-- What a count leaves.
use Rattle.std.specs.Prelude.{◌≡◌, ℕ, ◌*◌, ◌%◌, ◌^◌, ◌<◌, ◌⊎◌, List, length}
use Rattle.std.specs.List.{All, sum_by}
use Rattle.abt_interleave.specs.declared.entries.Entry.{Entry}
use Rattle.abt_interleave.specs.Histories.{last_stamp, RisesAbove, entry_stamps}

-- One history, of calls of seats below the number of threads, each call adding 1, whose stamps are 1, 2, .. and whose acts add up to
-- the sum. It has as many calls as the threads were to make, or the clock is worn.
pub record IsCounted (threads times sum clock : ℕ) : Type 0 where
  pub history : List (Entry ℕ ℕ)
  pub rises : RisesAbove 0 (entry_stamps history)
  pub last : clock ≡ last_stamp (entry_stamps history)
  pub of_threads : All (λ e. e.caller < threads) history
  pub ones : All (λ e. e.act ≡ 1) history
  pub total : sum ≡ sum_by (λ e. e.act) history % 2 ^ 64
  pub stamped : clock ≡ length history
  pub many : (length history ≡ threads * times) ⊎ (clock ≡ 2 ^ 62)
