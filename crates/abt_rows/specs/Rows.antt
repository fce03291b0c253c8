-- Worked rows: the text of a workload, a run of it, and what the program prints of that run.
use Rattle.std.specs.Prelude.{ℕ, zero, suc, ◌≡◌, ◌+◌, List, [], ◌∷◌, sum, Option, Some, None}
use Rattle.abt_machine.specs.declared.events.Event.{Event}
use Rattle.abt_machine.specs.declared.events.Outcome.{Outcome}
use Rattle.abt_machine.specs.declared.operations.OrderShape.TheVariants as shape
use Rattle.abt_machine.specs.declared.workload.Parts.{Parts}
use Rattle.abt_machine.specs.Canonical.{canonical_text}
use Rattle.abt_machine.specs.Outcomes.{EndsAs, steps_in}
use Rattle.abt_machine.specs.Runs.{Run, last_state}
use Rattle.abt_machine.specs.Stamps.{Lamport}
use Rattle.abt_machine.specs.Stored.{Stored}
use Rattle.abt_machine.specs.Texts.{journal_text, report_text}
use Rattle.abt_machine.specs.Valid.{IsValid}
use Rattle.abt_machine.specs.Words.{Text}

-- function 0 returns the sum of its unit's number, accumulator and keys, and each other function any word
abbrev pub returned : ℕ → ℕ → ℕ → List ℕ → Option ℕ
returned zero u acc keys = Some (u + acc + sum keys)
returned (suc f) u acc keys = None

-- what is stored beside the workloads: two orders, and these functions
abbrev pub stored : Stored
stored = record { orders = shape.Rotate ∷ shape.Mirror ∷ []; returns = returned }

-- the valid workload of this text, with these stored orders and functions and n steps for each stream, has this run, and this is the report on it
pub record Reports (Z : Stored) (n : ℕ) (text report : Text) (J : List Event) : Type 0 where
  pub workload : Parts
  pub outcome : Outcome
  pub is_valid : IsValid workload
  pub is_text : canonical_text workload ≡ text
  pub is_run : Run workload Z J
  pub is_outcome : EndsAs workload n J outcome
  pub is_report : report_text workload (last_state workload J) (steps_in J) outcome ≡ report

-- the workload of this text has a run of which this is the report
abbrev pub IsReported : Stored → ℕ → Text → Text → Type 0
IsReported Z n text report = (J : List Event) × Reports Z n text report J

-- the workload of this text has a run with this journal, with Lamport's stamps, of which this is the report
abbrev pub IsWorked : Stored → ℕ → Text → Text → Text → Type 0
IsWorked Z n text journal report = (J : List Event) × (journal_text J ≡ journal) × (r : Reports Z n text report J) × Lamport r.workload J
