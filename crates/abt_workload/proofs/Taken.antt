-- A sound line that is taken.
use Rattle.std.proofs.Common.{◌≡◌, ◌∙◌, ℕ, Bool, true, false, List, Option, Some, None, ap, cond, find, subst, sym, if◌then◌else◌}
use Rattle.abt_machine.specs.declared.grammar.Form.{Form}
use Rattle.abt_machine.specs.declared.grammar.Number.{Number}
use Rattle.abt_machine.specs.declared.program.Fault.{Fault}
use Rattle.abt_machine.specs.Declaring.{Above}
use Rattle.abt_machine.specs.Faults.{faults, has, has_skipped, is_skipped, line_fault, numbers_of, values, values_of}
use Rattle.abt_machine.specs.Forms.{form_of}
use Rattle.abt_machine.specs.Grammar.{and_form, and_line, and_words}
use Rattle.abt_machine.specs.Spelling.{words_of}
use Rattle.abt_machine.specs.Words.{Text}
use Rattle.abt_workload.specs.Declarable.{with_line}
use Rattle.abt_workload.specs.Judging.{IsJudged}
use Rattle.abt_workload.specs.declared.judge.Verdict.{Verdict}
use Rattle.abt_workload.specs.declared.judge.Verdict.TheVariants as verdict

-- the fault of a line that is not skipped
pub line_fault-of : (a : Above) (line : Text) → is_skipped (words_of line) ≡ false → line_fault a line ≡ find (has a line (words_of line) (form_of a.format (words_of line))) faults
line_fault-of a line e = ap (λ (b : Bool). find (λ f. if b then has_skipped line f else has a line (words_of line) (form_of a.format (words_of line)) f) faults) e

-- what is declared with a sound line
and_line-of : (a : Above) (line : Text) (f : Form) → is_skipped (words_of line) ≡ false → line_fault a line ≡ None → form_of a.format (words_of line) ≡ Some f → and_line a line ≡ with_line a f (words_of line) (values_of f (words_of line))
and_line-of a line f es ef eo =
    ap (λ (b : Bool). cond b a (record (and_words a (words_of line) (line_fault a line)) { begun = true })) es
    ∙ (ap (λ (o : Option Fault). record (and_words a (words_of line) o) { begun = true }) ef
    ∙ ap (λ (o : Option Form). record (and_form a (words_of line) o) { begun = true }) eo)

-- the verdict's fact
pub judged : (a : Above) (line : Text) (words : List Text) (f : Form) (numbers : List (Number × ℕ)) (v : Verdict) → v ≡ verdict.Sound f → IsJudged a line words v numbers
    → (find (has a line words (form_of a.format words)) faults ≡ None) × (form_of a.format words ≡ Some f) × (numbers ≡ numbers_of f words)
judged a line words f numbers v e h = subst (λ (w : Verdict). IsJudged a line words w numbers) e h

module _ (a new : Above) (line : Text) (words : List Text) (f : Form) (numbers : List (Number × ℕ)) (ew : words ≡ words_of line) (es : is_skipped words ≡ false)
    (sound : find (has a line words (form_of a.format words)) faults ≡ None) (ef : form_of a.format words ≡ Some f) (en : numbers ≡ numbers_of f words) where
  skips : is_skipped (words_of line) ≡ false
  skips = sym (ap is_skipped ew) ∙ es

  pub none : line_fault a line ≡ None
  none = line_fault-of a line skips ∙ (sym (ap (λ (ws : List Text). find (has a line ws (form_of a.format ws)) faults) ew) ∙ sound)

  -- what is declared with it is what the grammar says
  pub taken : new ≡ with_line a f words (values numbers) → new ≡ and_line a line
  taken is =
      is ∙ (ap (λ (ns : List (Number × ℕ)). with_line a f words (values ns)) en
      ∙ (ap (λ (ws : List Text). with_line a f ws (values_of f ws)) ew
      ∙ sym (and_line-of a line f skips none (sym (ap (form_of a.format) ew) ∙ ef))))
