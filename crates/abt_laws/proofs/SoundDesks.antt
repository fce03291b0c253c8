-- Steps that ask something of a unit keep a sound state sound. Unit u, in the hand of stream s, makes the step.
use Rattle.std.proofs.Common.{◌≡◌, ℕ, ◌<◌, true, length, Some, inr}
use Rattle.abt_machine.specs.Stored.{Stored}
use Rattle.abt_machine.specs.declared.workload.Parts.{Parts}
use Rattle.abt_machine.specs.State.{State}
use Rattle.abt_machine.specs.Codes.{is_alive}
use Rattle.abt_machine.specs.Steps.{asks}
use Rattle.abt_laws.proofs.SoundChanges.{Keeps}
use Rattle.abt_laws.proofs.SoundSteps.{IsStepping, keeps-asks}

module _ (W : Parts) (Z : Stored) (S : State) (s u : ℕ) (step : IsStepping W Z S s u) where
  pub keeps-cancels : (v : ℕ) → is_alive (S.place v) ≡ true → Keeps W Z S (asks S u v (record (S.desk v) { cancel = true }))
  keeps-cancels v alive = keeps-asks W Z S s u step v (record (S.desk v) { cancel = true }) (record { asks = inr alive; request = step.sound.requests v })

  pub keeps-migrates : (v p : ℕ) → is_alive (S.place v) ≡ true → p < length W.pools → Keeps W Z S (asks S u v (record (S.desk v) { migrate = Some p }))
  keeps-migrates v p alive l = keeps-asks W Z S s u step v (record (S.desk v) { migrate = Some p }) (record { asks = inr alive; request = l })
