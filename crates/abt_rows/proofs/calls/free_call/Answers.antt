use Rattle.std.proofs.Common.{ℕ, ◌≡◌, ◌<◌, ◌^◌, ◌++◌, ◌∙◌, List, [], ◌∷◌, codes, decimal, flat_map, refl, ap, arith, append_assoc}
use Rattle.std.specs.Fmt.{digits}
use Rattle.std.proofs.lemmas.List.{append-nil}
use Rattle.abt_machine.specs.declared.events.Cause.TheVariants as cause
use Rattle.abt_machine.specs.declared.events.Code.TheVariants as code
use Rattle.abt_machine.specs.declared.events.Event.{Event}
use Rattle.abt_machine.specs.declared.events.Outcome.TheVariants as outcome
use Rattle.abt_machine.specs.declared.events.Piece.TheVariants as piece
use Rattle.abt_machine.specs.declared.events.Shown.TheVariants as shows
use Rattle.abt_machine.specs.declared.events.What.TheVariants as what
use Rattle.abt_machine.specs.declared.operations.Op.TheVariants as op
use Rattle.abt_machine.specs.declared.workload.Parts.{Parts}
use Rattle.abt_machine.specs.Numbers.{pool_no, unit_no}
use Rattle.abt_machine.specs.Outcomes.{steps_in}
use Rattle.abt_machine.specs.Runs.{RunFrom, last_state}
use Rattle.abt_machine.specs.Start.{start}
use Rattle.abt_machine.specs.Texts.{ShownUnit, journal_text, report_of, report_text, shown_units, tally_and_outcome, unit_line}
use Rattle.abt_machine.specs.Words.{Text, ended, numbered, spaced}
use Rattle.abt_rows.specs.Calls.{events_from, free_call_journal, free_call_report, free_call_text}
use Rattle.abt_rows.specs.Rows.{stored}
use Rattle.abt_rows.proofs.Deciding.{holds}
use Rattle.abt_rows.proofs.Stamping.{lamport}
use Rattle.abt_rows.proofs.Working.{shown}
use Rattle.abt_rows.proofs.Workloads.{based, ult_at}
use Rattle.abt_rows.proofs.calls.free_call.Goals as goal

abbrev workload : Parts
workload = based 2 [] (ult_at 0 (op.Call 1 ∷ op.Print ∷ []) ∷ []) []

abbrev journal : ℕ → List Event
journal n = events_from 1 (
    what.Take (pool_no 0) (unit_no 0) ∷ what.Look (unit_no 0) ∷ what.Call (unit_no 0) 0 n ∷ what.Step (unit_no 0) 1 code.Ok ∷ what.End (unit_no 0) cause.Done ∷ what.Miss (pool_no 0) ∷ [])

one : 0 < 1
one = omega arith

run : (n : ℕ) → n < 2 ^ 64 → RunFrom workload stored (start workload) (journal n)
run n below = (one, (refl, refl, (_, refl, ([], refl))), (one, (refl, refl), (one, (refl, refl, refl, below), (one, (refl, refl, refl, refl, tt), (one, (refl, refl), (one, (refl, refl, (_, refl, ([], refl))), tt))))))

-- the last word of a line, and what follows
last-word : (word rest : Text) → ((word ++ []) ++ 10 ∷ []) ++ rest ≡ word ++ 10 ∷ rest
last-word word rest = ap (λ t. (t ++ 10 ∷ []) ++ rest) (append-nil word) ∙ append_assoc word (10 ∷ []) rest

is-journal : (n : ℕ) → journal_text (journal n) ≡ free_call_journal n
unfolding digits
is-journal n = ap (λ t. codes "1 0 take 0 0\n2 0 look 0\n3 0 call 0 0 " ++ t) (last-word (decimal n) (codes "4 0 step 0 1 ok\n5 0 end 0 done\n6 0 miss 0\n"))

-- the same of a line that ends its text
last-line : (word rest : Text) → (((word ++ []) ++ 10 ∷ []) ++ []) ++ rest ≡ word ++ 10 ∷ rest
last-line word rest = ap (λ t. t ++ rest) (append-nil ((word ++ []) ++ 10 ∷ [])) ∙ last-word word rest

abbrev shown_unit : ℕ → ShownUnit
shown_unit n = record { shown = shows.Ended cause.Done; output = piece.Number n ∷ [] }

are-shown : (n : ℕ) → shown_units workload (last_state workload (journal n)) ≡ shown_unit n ∷ []
are-shown n = refl

front : (d : Text) → flat_map ended ((codes "unit 0 done:" ++ spaced (d ∷ [])) ∷ []) ≡ codes "unit 0 done: " ++ (((d ++ []) ++ 10 ∷ []) ++ [])
front d = refl

line : (n : ℕ) → numbered (unit_line workload) (shown_unit n ∷ []) ≡ (codes "unit 0 done:" ++ spaced (decimal n ∷ [])) ∷ []
unfolding digits
line n = refl

tail : (n : ℕ) → tally_and_outcome (shown_unit n ∷ []) 2 outcome.Finished ≡ codes "tally units 1 unborn 0 pool 0 stream 0 blocked 0 done 1 asked 0 access 0 steps 2\nfinished\n"
unfolding digits
tail n = refl

report-of : (n : ℕ) → report_of workload (shown_unit n ∷ []) 2 outcome.Finished ≡ free_call_report n
report-of n =
    ap (λ lines. flat_map ended lines ++ tally_and_outcome (shown_unit n ∷ []) 2 outcome.Finished) (line n) ∙
    (ap (λ t. t ++ tally_and_outcome (shown_unit n ∷ []) 2 outcome.Finished) (front (decimal n)) ∙
    (ap (λ t. (codes "unit 0 done: " ++ (((decimal n ++ []) ++ 10 ∷ []) ++ [])) ++ t) (tail n) ∙
    ap (λ t. codes "unit 0 done: " ++ t) (last-line (decimal n) (codes "tally units 1 unborn 0 pool 0 stream 0 blocked 0 done 1 asked 0 access 0 steps 2\nfinished\n"))))

is-report : (n : ℕ) → report_text workload (last_state workload (journal n)) (steps_in (journal n)) outcome.Finished ≡ free_call_report n
is-report n = ap (λ units. report_of workload units 2 outcome.Finished) (are-shown n) ∙ report-of n

pub returns : goal.returns
unfolding digits
returns c n below = shown workload stored 10000 (journal n, run n below) outcome.Finished free_call_text (free_call_journal n) (free_call_report n) (holds (lamport workload (journal n)) refl) (is-journal n) refl refl refl (is-report n)
