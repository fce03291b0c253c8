-- The faults that are looked for once a line's form and numbers are known.
use Rattle.std.specs.Prelude.{ℕ, ◌≡◌, find, ◌||◌, true, false, if◌then◌else◌, List, not, Option, Some, None}
use Rattle.std.specs.List.{list_all}
use Rattle.std.specs.Str.{is_utf8}
use Rattle.abt_machine.specs.declared.grammar.Form.{Form}
use Rattle.abt_machine.specs.declared.grammar.Number.{Number}
use Rattle.abt_machine.specs.declared.program.Fault.{Fault}
use Rattle.abt_machine.specs.declared.program.Fault.TheVariants as fault
use Rattle.abt_machine.specs.Declaring.{Above}
use Rattle.abt_machine.specs.Forms.{form_of}
use Rattle.abt_machine.specs.Faults.{faults, has, numbers_of, blocks_task, is_barred, is_beyond, is_early, is_misplaced, is_no_version, is_past_limit, is_there, is_twice, is_within, values}
use Rattle.abt_machine.specs.Spelling.{has_control}
use Rattle.abt_machine.specs.Words.{Text}
use Rattle.abt_workload.specs.declared.judge.Verdict.{Verdict}
use Rattle.abt_workload.specs.declared.judge.Verdict.TheVariants as verdict

-- the first of the faults after `number`
abbrev pub later_fault : Above → Form → List Text → List (Number × ℕ) → Option Fault
later_fault a f words numbers =
    if is_twice a f (values numbers) then Some fault.Twice
    else (if not (list_all (λ p. is_there a p.0 p.1) numbers) || is_beyond a f (values numbers) then Some fault.Undeclared
    else (if not (list_all (λ p. is_within a.format p.0 p.1) numbers) || is_past_limit a f words (values numbers) then Some fault.Limit
    else (if blocks_task a f then Some fault.TaskBlocks
    else (if is_barred a f (values numbers) then Some fault.Access
    else (if is_early a f then Some fault.Missing else None)))))

-- the line's words have this form, and it has none of the faults up to `shape`
pub record HasForm (a : Above) (line : Text) (words : List Text) (form : Form) : Type 0 where
  pub utf8 : is_utf8 line ≡ true
  pub version : is_no_version a words ≡ false
  pub form_is : form_of a.format words ≡ Some form
  pub control : has_control line ≡ false
  pub placed : is_misplaced a form ≡ false

-- the first fault of a line of these words, looked for up to `shape`
abbrev pub IsShaped : Above → Text → List Text → Verdict → Type 0
IsShaped a line words (verdict.Faulty f) = find (has a line words (form_of a.format words)) faults ≡ Some f
IsShaped a line words (verdict.Sound form) = HasForm a line words form

-- the first fault of a line of these words; if it has none, its numbers are these
abbrev pub IsJudged : Above → Text → List Text → Verdict → List (Number × ℕ) → Type 0
IsJudged a line words (verdict.Faulty f) numbers = find (has a line words (form_of a.format words)) faults ≡ Some f
IsJudged a line words (verdict.Sound form) numbers = (find (has a line words (form_of a.format words)) faults ≡ None) × (form_of a.format words ≡ Some form) × (numbers ≡ numbers_of form words)
