-- The line of a repeated operation.
use Rattle.std.proofs.Common.{◌≡◌, ℕ, true, false, List, [], ◌∷◌, codes, drop, refl}
use Rattle.std.specs.List.{list_all}
use Rattle.abt_machine.specs.declared.grammar.Form.TheVariants as form
use Rattle.abt_machine.specs.declared.grammar.Number.{Number}
use Rattle.abt_machine.specs.declared.grammar.Number.TheVariants as number
use Rattle.abt_machine.specs.declared.operations.Op.{Op}
use Rattle.abt_machine.specs.Declaring.{Above, at}
use Rattle.abt_machine.specs.Faults.{is_there, is_within, numbers_of, valued, values_of}
use Rattle.abt_machine.specs.Forms.{Fixed, fits, numerals, op_slots, slots, suits}
use Rattle.abt_machine.specs.Spelling.{value_of}
use Rattle.abt_machine.specs.Words.{Text}
use Rattle.abt_workload.proofs.Naming.{IsSoundOp, op_values}
use Rattle.abt_workload.proofs.Places.{and-left, and-right}
use Rattle.abt_workload.proofs.Soundness.{IsSound}

-- what is known of a `repeat` line's operation and count
abbrev IsRepeated : Above → Op → List Text → Type 0
IsRepeated a o words = IsSoundOp a o (drop 2 words) × (drop 1 (values_of (form.Repeat o) words) ≡ op_values o (drop 2 words))
    × (is_within a.format number.Times (at (values_of (form.Repeat o) words) 0) ≡ true)

of-words : (a : Above) (o : Op) (words : List Text) → fits (slots (form.Repeat o)) words ≡ true → list_all (λ p. is_there a p.0 p.1) (numbers_of (form.Repeat o) words) ≡ true
    → list_all (λ p. is_within a.format p.0 p.1) (numbers_of (form.Repeat o) words) ≡ true → IsRepeated a o words
of-words a o [] f t w = cc
of-words a o (x ∷ []) f t w = let bad = and-right (suits (Fixed (codes "repeat")) x) false f in cc
of-words a o (x ∷ y ∷ ws) f t w = (
  record { op_fits = and-right (suits (Fixed (codes "repeat")) x) _ f; there = t; within = and-right (is_within a.format number.Times (value_of y)) _ w },
  refl,
  and-left (is_within a.format number.Times (value_of y)) (list_all (λ (p : Number × ℕ). is_within a.format p.0 p.1) (valued (numerals (op_slots o) ws))) w,
)

pub repeated-op : {a : Above} {line : Text} {words : List Text} (o : Op) → IsSound a line words (form.Repeat o) → IsRepeated a o words
repeated-op {a} {line} {words} o s = of-words a o words s.form_fits s.there s.within
