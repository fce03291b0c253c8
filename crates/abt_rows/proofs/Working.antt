-- How a computed run shows a row with a journal.
use Rattle.std.proofs.Common.{ℕ, ◌≡◌, List, [], ◌∷◌, true}
use Rattle.std.specs.Prelude.{is_some, map}
use Rattle.abt_machine.specs.declared.events.Event.{Event}
use Rattle.abt_machine.specs.declared.events.Outcome.{Outcome}
use Rattle.abt_machine.specs.Stored.{Stored}
use Rattle.abt_machine.specs.declared.workload.Parts.{Parts}
use Rattle.abt_machine.specs.Canonical.{canonical_text}
use Rattle.abt_machine.specs.Outcomes.{steps_in}
use Rattle.abt_machine.specs.Runs.{RunFrom, last_state}
use Rattle.abt_machine.specs.Stamps.{Lamport}
use Rattle.abt_machine.specs.Start.{start}
use Rattle.abt_machine.specs.State.{State}
use Rattle.abt_machine.specs.Texts.{journal_text, report_text}
use Rattle.abt_machine.specs.Words.{Text}
use Rattle.abt_rows.specs.Rows.{IsWorked}
use Rattle.abt_rows.proofs.Deciding.{holds}
use Rattle.abt_rows.proofs.Ending.{ending}
use Rattle.abt_rows.proofs.Reporting.{ran, reported}
use Rattle.abt_rows.proofs.Running.{Ran, ran_by}
use Rattle.abt_rows.proofs.Stamping.{lamport, lone}
use Rattle.abt_rows.proofs.Validity.{validity}

-- a run with Lamport's stamps, of which the validity, the end and the texts are computed
pub shown : (W : Parts) (Z : Stored) (n : ℕ) (R : Ran W Z (start W)) (o : Outcome) (text journal report : Text) → Lamport W R.0 →
    journal_text R.0 ≡ journal → is_some (validity W) ≡ true → is_some (ending W n R.0 o) ≡ true → canonical_text W ≡ text → report_text W (last_state W R.0) (steps_in R.0) o ≡ report →
    IsWorked Z n text journal report
unfolding reported
shown W Z n R o text journal report stamps is_journal valid ends is_text is_report = (
  R.0,
  is_journal,
  reported W Z n R o text report valid ends is_text is_report,
  stamps,
)

-- the run of the first events of stream 0, so many
pub worked : (W : Parts) (Z : Stored) (n count : ℕ) (o : Outcome) (text journal report : Text) →
    journal_text (ran W Z count).0 ≡ journal → is_some (validity W) ≡ true → is_some (ending W n (ran W Z count).0 o) ≡ true → canonical_text W ≡ text →
    report_text W (last_state W (ran W Z count).0) (steps_in (ran W Z count).0) o ≡ report → IsWorked Z n text journal report
worked W Z n count o text journal report is_journal valid ends is_text is_report = shown W Z n (ran W Z count) o text journal report (lone W Z count) is_journal valid ends is_text is_report

-- Runs of more streams.

-- a journal with these stamps
abbrev restamped : List ℕ → List Event → List Event
restamped [] J = J
restamped (t ∷ ts) [] = []
restamped (t ∷ ts) (e ∷ es) = record e { stamp = t } ∷ restamped ts es

-- a run is one whatever its stamps
pub restamped-run : (W : Parts) (Z : Stored) (ts : List ℕ) (J : List Event) (S : State) → RunFrom W Z S J → RunFrom W Z S (restamped ts J)
restamped-run W Z [] J S h = h
restamped-run W Z (t ∷ ts) [] S h = tt
restamped-run W Z (t ∷ ts) (e ∷ es) S h = (h.0, h.1, restamped-run W Z ts es _ h.2)

-- the run of the events that streams make in turn, each turn a stamp and a stream
abbrev pub ran_at : (W : Parts) (Z : Stored) → List (ℕ × ℕ) → Ran W Z (start W)
ran_at W Z turns =
    let R : Ran W Z (start W) = ran_by W Z (map (λ t. t.1) turns) 1 (start W) in
    (restamped (map (λ t. t.0) turns) R.0, restamped-run W Z (map (λ t. t.0) turns) R.0 (start W) R.1)

-- such a run, of which the stamps are decided
pub worked-at : (W : Parts) (Z : Stored) (n : ℕ) (turns : List (ℕ × ℕ)) (o : Outcome) (text journal report : Text) → is_some (lamport W (ran_at W Z turns).0) ≡ true →
    journal_text (ran_at W Z turns).0 ≡ journal → is_some (validity W) ≡ true → is_some (ending W n (ran_at W Z turns).0 o) ≡ true → canonical_text W ≡ text →
    report_text W (last_state W (ran_at W Z turns).0) (steps_in (ran_at W Z turns).0) o ≡ report → IsWorked Z n text journal report
worked-at W Z n turns o text journal report stamps is_journal valid ends is_text is_report =
    shown W Z n (ran_at W Z turns) o text journal report (holds (lamport W (ran_at W Z turns).0) stamps) is_journal valid ends is_text is_report
