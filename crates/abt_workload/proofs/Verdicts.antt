-- The first fault of a line, by the faults that it has.
use Rattle.std.proofs.Common.{◌≡◌, ◌∙◌, ◌&&◌, ◌||◌, ℕ, Bool, true, false, not, List, [], ◌∷◌, Option, Some, None, find, refl, ap, sym, is_none, if◌then◌else◌}
use Rattle.std.specs.Bool.{OnTrue}
use Rattle.std.specs.List.{list_all, list_any}
use Rattle.std.specs.Str.{is_utf8}
use Rattle.std.proofs.lemmas.Bool.{and_from}
use Rattle.abt_machine.specs.declared.grammar.Form.{Form}
use Rattle.abt_machine.specs.declared.grammar.Format.{Format}
use Rattle.abt_machine.specs.declared.grammar.Format.TheVariants as format
use Rattle.abt_machine.specs.declared.grammar.Form.TheVariants as form
use Rattle.abt_machine.specs.declared.grammar.Number.{Number}
use Rattle.abt_machine.specs.declared.operations.Op.{Op}
use Rattle.abt_machine.specs.declared.operations.Op.TheVariants as op
use Rattle.abt_machine.specs.declared.program.Fault.{Fault}
use Rattle.abt_machine.specs.declared.program.Fault.TheVariants as fault
use Rattle.abt_machine.specs.Declaring.{Above}
use Rattle.abt_machine.specs.Faults.{faults, has, is_misplaced, is_no_version, is_unknown, numbers_of, of_form}
use Rattle.abt_machine.specs.Forms.{Slot, PoolList, begins_with, fits, form_of, forms, is_in, numerals, op_slots, slots, suits}
use Rattle.abt_machine.specs.Spelling.{has_control, is_number}
use Rattle.abt_machine.specs.Words.{Text}
use Rattle.abt_workload.specs.Judging.{HasForm, later_fault}
use Rattle.abt_workload.proofs.Places.{and-left, and-right}

-- The order of the faults.

module _ (test : Fault → Bool) where
  pub first-shape : test fault.Utf8 ≡ false → test fault.Version ≡ false → test fault.Unknown ≡ false → test fault.Shape ≡ true → find test faults ≡ Some fault.Shape
  first-shape u v k e = rw (u, v, k, e) refl

  pub first-number : test fault.Utf8 ≡ false → test fault.Version ≡ false → test fault.Unknown ≡ false → test fault.Shape ≡ false → test fault.Number ≡ true → find test faults ≡ Some fault.Number
  first-number u v k s e = rw (u, v, k, s, e) refl

  -- the first of the faults after `number`
  abbrev pub later : Option Fault
  later =
      if test fault.Twice then Some fault.Twice
      else (if test fault.Undeclared then Some fault.Undeclared
      else (if test fault.Limit then Some fault.Limit
      else (if test fault.TaskBlocks then Some fault.TaskBlocks
      else (if test fault.Access then Some fault.Access
      else (if test fault.Missing then Some fault.Missing else None)))))

  pub first-later : test fault.Utf8 ≡ false → test fault.Version ≡ false → test fault.Unknown ≡ false → test fault.Shape ≡ false → test fault.Number ≡ false → test fault.NoEnd ≡ false → find test faults ≡ later
  first-later u v k s n e = rw (u, v, k, s, n, e) refl

-- A line that has a form begins as that form's lines do.

pub has-slot : List Slot → Bool
has-slot [] = false
has-slot (slot ∷ places) = true

pub fitting-begins : (places : List Slot) (words : List Text) → has-slot places ≡ true → fits places words ≡ true → begins_with places words ≡ true
unfolding has-slot
fitting-begins [] words some e = cc
fitting-begins (slot ∷ places) [] some e = cc
fitting-begins (PoolList ∷ places) (word ∷ words) some e = refl
fitting-begins (slot ∷ places) (word ∷ words) some e = front (suits slot word) (fits places words) e
  where
    front : (x y : Bool) → (x && y) ≡ true → x ≡ true
    front true y e = refl
    front false y e = e

op_slots-some : (o : Op) → has-slot (op_slots o) ≡ true
unfolding has-slot
op_slots-some (op.Set n) = refl
op_slots-some _ = refl

pub slots-some : (f : Form) → has-slot (slots f) ≡ true
unfolding has-slot
slots-some (form.Version format.One) = refl
slots-some (form.Version format.Two) = refl
slots-some (form.Version format.Three) = refl
slots-some (form.Operation o) = op_slots-some o
slots-some _ = refl

or-true : (b : Bool) → (b || true) ≡ true
or-true true = refl
or-true false = refl

module _ (F : Format) where
  known-in : (fs : List Form) (words : List Text) (f : Form) → find (λ g. is_in F g && fits (slots g) words) fs ≡ Some f → list_any (λ g. is_in F g && begins_with (slots g) words) fs ≡ true
  known-in [] words f e = cc
  known-in (g ∷ gs) words f e = by (is_in F g && fits (slots g) words) refl (λ rest. known-in gs words f rest)
    where
      by : (b : Bool) → (is_in F g && fits (slots g) words) ≡ b → (find (λ h. is_in F h && fits (slots h) words) gs ≡ Some f → list_any (λ h. is_in F h && begins_with (slots h) words) gs ≡ true)
          → list_any (λ h. is_in F h && begins_with (slots h) words) (g ∷ gs) ≡ true
      by true is rest =
          let here : begins_with (slots g) words ≡ true = fitting-begins (slots g) words (slots-some g) (and-right (is_in F g) _ is) in
          let both : (is_in F g && begins_with (slots g) words) ≡ true = and_from (is_in F g) _ (and-left (is_in F g) _ is) here in
          rw both refl
      by false is rest = let there : list_any (λ h. is_in F h && begins_with (slots h) words) gs ≡ true = rest (rw is at e) in rw there (or-true (is_in F g && begins_with (slots g) words))

  -- a line that has a form is known
  pub known : (words : List Text) (f : Form) → form_of F words ≡ Some f → is_unknown F words ≡ false
  known words f e = ap not (known-in forms words f e)

-- Lines that have a form.

shape-no : (o : Option Form) (f : Form) (a : Above) (c : Bool) → o ≡ Some f → c ≡ false → is_misplaced a f ≡ false → (is_none o || c || of_form (is_misplaced a) o) ≡ false
shape-no o f a c e ec em = ap (λ (p : Option Form). is_none p || c || of_form (is_misplaced a) p) e ∙ rw (ec, em) refl

module _ (a : Above) (line : Text) (words : List Text) (f : Form) (h : HasForm a line words f) where
  pub line-number : (all : Bool) → all ≡ list_all (λ p. is_number p.1) (numerals (slots f) words) → all ≡ false → find (has a line words (form_of a.format words)) faults ≡ Some fault.Number
  line-number all is e = ap (λ (o : Option Form). find (has a line words o) faults) h.form_is ∙ first-number (has a line words (Some f)) (ap not h.utf8) h.version (known a.format words f h.form_is) (shape-no (Some f) f a (has_control line) refl h.control h.placed) (ap not (sym is ∙ e))

  line-later : list_all (λ p. is_number p.1) (numerals (slots f) words) ≡ true → find (has a line words (form_of a.format words)) faults ≡ later_fault a f words (numbers_of f words)
  line-later e = ap (λ (o : Option Form). find (has a line words o) faults) h.form_is ∙ first-later (has a line words (Some f)) (ap not h.utf8) h.version (known a.format words f h.form_is) (shape-no (Some f) f a (has_control line) refl h.control h.placed) (ap not e) refl

  pub line-judged : (numbers : List (Number × ℕ)) (r : Option Fault) → list_all (λ p. is_number p.1) (numerals (slots f) words) ≡ true → numbers ≡ numbers_of f words → r ≡ later_fault a f words numbers → find (has a line words (form_of a.format words)) faults ≡ r
  line-judged numbers r e same is = line-later e ∙ sym (is ∙ ap (later_fault a f words) same)

-- what holds where a test is true
pub on-true : {P : Type 0} (b : Bool) → b ≡ true → OnTrue b P → P
on-true true e h = h
on-true false e h = cc

-- What the first tests of a line find.

or-false : (b : Bool) → (b || false) ≡ b
or-false true = refl
or-false false = refl

module _ (a : Above) (line : Text) (words : List Text) (f : Form) (o : Option Form) {u v : Bool} (is_u : u ≡ is_utf8 line) (yes_u : u ≡ true) (is_v : v ≡ is_no_version a words) (no_v : v ≡ false) (is_o : o ≡ form_of a.format words) (some : o ≡ Some f) where
  shape-of : (is_none (Some f) || has_control line || is_misplaced a f) ≡ true → find (has a line words (form_of a.format words)) faults ≡ Some fault.Shape
  shape-of e =
      let here : form_of a.format words ≡ Some f = sym is_o ∙ some in
      ap (λ (p : Option Form). find (has a line words p) faults) here ∙ first-shape (has a line words (Some f)) (ap not (sym is_u ∙ yes_u)) (sym is_v ∙ no_v) (known a.format words f here) e

  pub line-control : {t : Bool} → t ≡ has_control line → t ≡ true → find (has a line words (form_of a.format words)) faults ≡ Some fault.Shape
  line-control is e = shape-of (let h : has_control line ≡ true = sym is ∙ e in rw h refl)

  pub line-misplaced : {t : Bool} → t ≡ is_misplaced a f → t ≡ true → find (has a line words (form_of a.format words)) faults ≡ Some fault.Shape
  line-misplaced is e = shape-of (ap (λ (m : Bool). false || has_control line || m) (sym is ∙ e) ∙ or-true (has_control line))
