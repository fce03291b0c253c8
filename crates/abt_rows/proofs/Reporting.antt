-- How a computed run shows a row.
use Rattle.std.proofs.Common.{ℕ, ◌≡◌, List, replicate, true}
use Rattle.std.specs.Prelude.{is_some}
use Rattle.abt_machine.specs.declared.events.Outcome.{Outcome}
use Rattle.abt_machine.specs.Stored.{Stored}
use Rattle.abt_machine.specs.declared.workload.Parts.{Parts}
use Rattle.abt_machine.specs.Canonical.{canonical_text}
use Rattle.abt_machine.specs.Outcomes.{steps_in}
use Rattle.abt_machine.specs.Runs.{last_state}
use Rattle.abt_machine.specs.Start.{start}
use Rattle.abt_machine.specs.Texts.{report_text}
use Rattle.abt_machine.specs.Words.{Text}
use Rattle.abt_rows.specs.Rows.{Reports}
use Rattle.abt_rows.proofs.Deciding.{holds}
use Rattle.abt_rows.proofs.Ending.{ending}
use Rattle.abt_rows.proofs.Running.{Ran, ran_by}
use Rattle.abt_rows.proofs.Validity.{validity}

-- the run of the first events of stream 0, so many
abbrev pub ran : (W : Parts) (Z : Stored) → ℕ → Ran W Z (start W)
ran W Z count = ran_by W Z (replicate count 0) 1 (start W)

-- the run of the events that these streams make in turn
abbrev pub ran_in_turn : (W : Parts) (Z : Stored) → List ℕ → Ran W Z (start W)
ran_in_turn W Z streams = ran_by W Z streams 1 (start W)

-- a run, of which the validity, the end and the texts are computed
unfoldable pub reported : (W : Parts) (Z : Stored) (n : ℕ) (R : Ran W Z (start W)) (o : Outcome) (text report : Text) →
    is_some (validity W) ≡ true → is_some (ending W n R.0 o) ≡ true → canonical_text W ≡ text → report_text W (last_state W R.0) (steps_in R.0) o ≡ report →
    Reports Z n text report R.0
reported W Z n R o text report valid ends is_text is_report = record {
  workload = W;
  outcome = o;
  is_valid = holds (validity W) valid;
  is_text = is_text;
  is_run = R.1;
  is_outcome = holds (ending W n R.0 o) ends;
  is_report = is_report;
}
