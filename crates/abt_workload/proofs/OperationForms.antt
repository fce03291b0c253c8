-- What an operation's line is in the table of forms.
use Rattle.std.proofs.Common.{◌≡◌, ℕ, true, false, List, [], All, Option, ap, arith, length, map, refl, sym}
use Rattle.std.specs.Fmt.{digits}
use Rattle.std.proofs.lemmas.Bool.{le-ltb}
use Rattle.std.proofs.lemmas.List.Elements.{All-head}
use Rattle.abt_machine.specs.declared.grammar.Form.TheVariants as form
use Rattle.abt_machine.specs.declared.grammar.Format.{Format}
use Rattle.abt_machine.specs.declared.operations.Calc.TheVariants as calc
use Rattle.abt_machine.specs.declared.operations.Op.{Op}
use Rattle.abt_machine.specs.declared.operations.Op.TheVariants as op
use Rattle.abt_machine.specs.declared.workload.Parts.{Parts}
use Rattle.abt_machine.specs.declared.workload.UnitPart.{UnitPart}
use Rattle.abt_machine.specs.Canonical.{op_numbers, op_word, op_words, word_of}
use Rattle.abt_machine.specs.Declaring.{op_with, said_in}
use Rattle.abt_machine.specs.Faults.{is_long_word, values}
use Rattle.abt_machine.specs.Forms.{computes, op_slots}
use Rattle.abt_machine.specs.Limits.{word_limit}
use Rattle.abt_machine.specs.Operations.{IsDeclared, may_block, said_by}
use Rattle.abt_machine.specs.Valid.{IsValid}
use Rattle.abt_workload.proofs.Filled.{IsWritten, given}
use Rattle.abt_workload.proofs.Fitting.{AreMet}
use Rattle.abt_workload.proofs.Reaching.{reached}

-- f stands for the lines of operations such as o, and o's line is written of it
pub record IsFormed (W : Parts) (o f : Op) : Type 0 where
  pub written : IsWritten (form.Operation f) (op_word W o) (op_numbers o) (op_words W o)
  pub said : said_in f (op_words W o) ≡ map (word_of W) (said_by o)
  pub blocks : may_block f ≡ may_block o
  pub computing : computes f ≡ computes o
  pub short : is_long_word f (op_words W o) ≡ false
  -- a word's number is the count of the words said above
  pub made : (k : ℕ) → All (λ w. w ≡ k) (said_by o) → op_with f k (values (given (op_slots f) (op_numbers o))) ≡ o

-- each operation has a form
pub formed : (W : Parts) → IsValid W → (o : Op) → IsDeclared W o → IsFormed W o (op_with o 0 [])
unfolding digits
formed W v (op.Say w) h = record {
  written = record { words_are = refl; form_is = refl; skipped = refl; plain = refl; chosen = λ _. v.words w [] h };
  said = refl;
  blocks = refl;
  computing = refl;
  short = le-ltb word_limit (length (word_of W w)) (v.words w [] h).few_bytes;
  made = λ k all. ap op.Say (sym (All-head (λ n. n ≡ k) w [] all));
}
formed W v (op.Migratable u true) h = record {
  written = record { words_are = refl; form_is = refl; skipped = refl; plain = refl; chosen = λ e. cc };
  said = refl;
  blocks = refl;
  computing = refl;
  short = refl;
  made = λ k all. refl;
}
formed W v (op.Calc calc.Add k) h = record {
  written = record { words_are = refl; form_is = refl; skipped = refl; plain = refl; chosen = λ e. cc };
  said = refl;
  blocks = refl;
  computing = refl;
  short = refl;
  made = λ n all. refl;
}
formed W v o h = record {
  written = record { words_are = refl; form_is = refl; skipped = refl; plain = refl; chosen = λ e. cc };
  said = refl;
  blocks = refl;
  computing = refl;
  short = refl;
  made = λ k all. refl;
}

-- the numbers of an operation name what is declared
pub op-met : (F : Format) (W : Parts) (units : List UnitPart) (last : Option UnitPart) (before said : List ℕ) (o : Op) → IsDeclared W o
    → AreMet (reached F W 9 units last before said) (given (op_slots (op_with o 0 [])) (op_numbers o))
unfolding digits
op-met F W units last before said (op.Set n) h = (h.0, h.1, omega (arith, h.1))
op-met F W units last before said (op.Add n) h = (h.0, h.1, omega (arith, h.1))
op-met F W units last before said (op.Say w) h = tt
op-met F W units last before said (op.Migratable v true) h = (h.0, (omega arith, omega arith, omega arith))
op-met F W units last before said (op.Migratable v false) h = (h.0, (omega arith, omega arith, omega arith))
op-met F W units last before said (op.Call f) h = let high = h.1 in (h.0, h.1, omega arith)
op-met F W units last before said o h = h
