-- What a run prints and keeps, by what it leaves.
use Rattle.std.proofs.Common.{◌≡◌, ◌∙◌, ◌++◌, append-nil, ◌<◌, ℕ, Bool, true, false, List, [], length, Option, Some, None, ap, arith, refl, subst, sym}
use Rattle.std.specs.Prelude.{IfSome, if◌then◌else◌}
use Rattle.std.proofs.lemmas.List.{length-map}
use Rattle.std.proofs.lemmas.List.FromFn.{length-map-range_with_len}
use Rattle.abt_machine.specs.declared.events.Event.{Event}
use Rattle.abt_machine.specs.declared.events.Outcome.{Outcome}
use Rattle.abt_machine.specs.declared.workload.Parts.{Parts}
use Rattle.abt_machine.specs.Outcomes.{EndsAs, steps_in}
use Rattle.abt_machine.specs.Rounds.{OrdersStored}
use Rattle.abt_machine.specs.Runs.{Run as IsRun, last_state}
use Rattle.abt_machine.specs.Stored.{Stored}
use Rattle.abt_machine.specs.Texts.{journal_text, report_of, report_text, short_of, short_text, shown_units}
use Rattle.abt_machine.specs.Valid.{IsValid}
use Rattle.abt_machine.specs.Words.{Text}
use Rattle.abt_drain.specs.declared.run.Run.{Run}
use Rattle.abt_drain.specs.Ends.{IsLeftOf, LeavesRotation, LeavesRun}
use Rattle.abt_drain.specs.Runs.{IsRunOf}
use Rattle.abt_record.specs.Records.{IsKept}
use Rattle.abt_report.specs.Pictures.{IsPictureOf, unit_in_row, units_in_rows}
use Rattle.abt_schedule.proofs.Determined.{one-run}
use Rattle.abt_schedule.specs.Runs.{LeavesSeeded}
use Rattle.abt_schedule.specs.declared.scheduled.Scheduled.{Scheduled}
use Rattle.abt_why.specs.Texts.{why_text}
use Rattle.abt_words.specs.declared.commands.Schedule.{Schedule}
use Rattle.abt_words.specs.declared.commands.Schedule.TheVariants as schedule
use Rattle.abt_run.specs.Kept.{either, keeps}
use Rattle.abt_run.specs.Printed.{HasRunBy, IsShownIn, LeavesScheduled}
use Rattle.abt_run.specs.declared.keeping.Keep.{Keep}
use Rattle.abt_run.specs.declared.keeping.Keep.TheVariants as keep

-- a journal that is kept is there
is-there : (J : List Event) (kept : Option (List Event)) → IsKept true J kept → kept ≡ Some J
is-there J (Some list) is = ap Some is
is-there J None is = absurd is

-- what holds of the journal holds of what is kept of it
pub kept-has : (P : List Event → Type 0) (b : Bool) (J : List Event) (kept : Option (List Event)) → IsKept b J kept → P J → IfSome kept P
kept-has P true J (Some list) is holds = subst P (sym is) holds
kept-has P true J None is holds = tt
kept-has P false J (Some list) is holds = absurd is
kept-has P false J None is holds = tt

-- of two that are asked for, either is
either-first : (a b : Bool) → a ≡ true → either a b ≡ true
either-first true b asked = refl
either-first false b asked = cc

either-second : (a b : Bool) → b ≡ true → either a b ≡ true
either-second true b asked = refl
either-second false b asked = asked

-- one that is needed is kept
pub printed-there : (k : Keep) (prints : Bool) (J : List Event) (kept : Option (List Event)) → IsKept (keeps k prints) J kept → prints ≡ true → kept ≡ Some J
printed-there keep.Always prints J kept is asked = is-there J kept is
printed-there keep.IfPrinted prints J kept is asked = is-there J kept (subst (λ (b : Bool). IsKept b J kept) asked is)

module _ (W : Parts) (J : List Event) (left : Run) where
  -- the report on what is left is that on the last state of the journal
  report-shown : (prints : Bool) (o : Outcome) → IsShownIn W prints J left → report_of W (units_in_rows left.picture) left.steps o ≡ report_text W (last_state W J) (steps_in J) o
  report-shown prints o shown =
      ap (λ us. report_of W us left.steps o) (sym shown.picture.shown) ∙ ap (λ n. report_of W (shown_units W (last_state W J)) n o) shown.steps

  -- and so is the short one
  pub short-shown : (prints : Bool) (o : Outcome) → IsShownIn W prints J left → short_of W (units_in_rows left.picture) left.steps o ≡ short_text W (last_state W J) (steps_in J) o
  short-shown prints o shown =
      ap (λ us. short_of W us left.steps o) (sym shown.picture.shown) ∙ ap (λ n. short_of W (shown_units W (last_state W J)) n o) shown.steps

  -- what is printed of the journal is its text, if it is asked for
  asked-text : (needs prints : Bool) (front : Text) → IsShownIn W needs J left → (prints ≡ true → needs ≡ true) → (prints ≡ true → IfSome left.journal (λ journal. front ≡ journal_text journal))
      → (prints ≡ false → front ≡ []) → front ≡ (if prints then journal_text J else [])
  asked-text needs true front shown needed asked unasked = subst (λ (kept : Option (List Event)). IfSome kept (λ journal. front ≡ journal_text journal)) (shown.journal (needed refl)) (asked refl)
  asked-text needs false front shown needed asked unasked = unasked refl

  -- what units wait for follows, if it is asked for
  said-text : (needs says : Bool) (front text : Text) → IsShownIn W needs J left → (says ≡ true → needs ≡ true)
      → (says ≡ true → IfSome left.journal (λ journal. text ≡ front ++ why_text W (last_state W journal))) → (says ≡ false → text ≡ front) → text ≡ front ++ (if says then why_text W (last_state W J) else [])
  said-text needs true front text shown needed asked unasked =
      subst (λ (kept : Option (List Event)). IfSome kept (λ journal. text ≡ front ++ why_text W (last_state W journal))) (shown.journal (needed refl)) (asked refl)
  said-text needs false front text shown needed asked unasked = unasked refl ∙ sym (append-nil front)

  -- and the report stands between both
  pub output-shown : (prints says : Bool) (o : Outcome) (front report text : Text) → IsShownIn W (either prints says) J left → (prints ≡ true → IfSome left.journal (λ journal. front ≡ journal_text journal)) → (prints ≡ false → front ≡ [])
      → report ≡ front ++ report_of W (units_in_rows left.picture) left.steps o
      → (says ≡ true → IfSome left.journal (λ journal. text ≡ report ++ why_text W (last_state W journal))) → (says ≡ false → text ≡ report)
      → text ≡ ((if prints then journal_text J else []) ++ report_text W (last_state W J) (steps_in J) o) ++ (if says then why_text W (last_state W J) else [])
  output-shown prints says o front report text shown asked unasked is said unsaid =
      said-text (either prints says) says report text shown (either-second prints says) said unsaid
      ∙ ap (λ xs. xs ++ (if says then why_text W (last_state W J) else []))
      (is ∙ (ap (λ xs. xs ++ report_of W (units_in_rows left.picture) left.steps o) (asked-text (either prints says) prints front shown (either-first prints says) asked unasked)
      ∙ ap (λ xs. (if prints then journal_text J else []) ++ xs) (report-shown (either prints says) o shown)))

-- a picture has a row for each unit
pub some-row : (W : Parts) (J : List Event) (left : Run) → IsPictureOf W J left.picture → 0 < length W.units → 0 < length left.picture
some-row W J left pictured some =
    let same : length W.units ≡ length left.picture = sym (length-map-range_with_len _ 0 (length W.units)) ∙ (ap length pictured.shown ∙ length-map left.picture unit_in_row) in
    omega arith

-- what a run leaves shows its journal
pub shown-in : (W : Parts) (k : Keep) (prints kept : Bool) (Property : List Event → Type 0) (left : Run) → kept ≡ keeps k prints → (is : IsLeftOf W kept Property left)
    → IsShownIn W prints is.events left
shown-in W k prints kept Property left e is = record {
  picture = is.pictured;
  steps = is.counted;
  journal = printed-there k prints is.events left.journal (subst (λ (b : Bool). IsKept b is.events left.journal) e is.kept);
}

-- what each schedule leaves is a run that ended so
module _ (W : Parts) (Z : Stored) (n : ℕ) (J : List Event) (o : Outcome) where
  pub run-is-run : (s : Schedule) → HasRunBy s W Z n J o → IsRun W Z J
  run-is-run schedule.Threads has = has.run
  run-is-run schedule.InTurn has = has.run
  run-is-run (schedule.Seed seed) has = has.run

  pub run-ended : (s : Schedule) → HasRunBy s W Z n J o → EndsAs W n J o
  run-ended schedule.Threads has = has.ended
  run-ended schedule.InTurn has = has.ended
  run-ended (schedule.Seed seed) has = has.ended

-- streams on threads take any turns
pub by_threads : (W : Parts) (Z : Stored) (Answered : ℕ → ℕ → List ℕ → Type 0) (n : ℕ) (kept : Bool) (left : Run) → LeavesRun W Z Answered n kept left → LeavesScheduled schedule.Threads W Z n kept left
by_threads W Z Answered n kept left is = record { events = is.events; holds = (is.holds.0, tt); kept = is.kept; pictured = is.pictured; counted = is.counted }

-- in rotation they take them in order of number
pub by_turns : (W : Parts) (Z : Stored) (Answered : ℕ → ℕ → List ℕ → Type 0) (n : ℕ) (kept : Bool) (left : Run) → LeavesRotation W Z Answered n kept left → LeavesScheduled schedule.InTurn W Z n kept left
by_turns W Z Answered n kept left is = record { events = is.events; holds = (is.holds.0, is.holds.2); kept = is.kept; pictured = is.pictured; counted = is.counted }

-- and those of a seeded run the turns of its seed, which are one run
pub by_seed : (W : Parts) (Z : Stored) (seed n : ℕ) (kept : Bool) (scheduled : Scheduled) (left : Run) → IsValid W → OrdersStored W Z.orders → LeavesSeeded W Z seed n scheduled
    → IsKept kept scheduled.journal left.journal → left.picture ≡ scheduled.picture → left.steps ≡ scheduled.steps → left.outcome ≡ scheduled.outcome
    → LeavesScheduled (schedule.Seed seed) W Z n kept left
by_seed W Z seed n kept scheduled left valid stored is keeps picture steps ended = record {
  events = scheduled.journal;
  holds = (
    subst (IsRunOf W Z n scheduled.journal) (sym ended) is.run,
    record {
      seeded = is.seeded;
      only = λ none K run seeded. one-run W Z valid stored none seed n K scheduled.journal run is.run.run seeded is.seeded;
    },
  );
  kept = keeps;
  pictured = subst (IsPictureOf W scheduled.journal) (sym picture) is.pictured;
  counted = steps ∙ is.counted;
}
