-- What is known of a line without a fault.
use Rattle.std.proofs.Common.{◌≡◌, ◌<◌, ◌&&◌, ◌∙◌, ℕ, zero, suc, Bool, true, false, not, List, [], ◌∷◌, Option, Some, None, ap, cond, find, get_or, length, refl, subst, sym, arith}
use Rattle.std.specs.List.{list_all}
use Rattle.std.specs.Str.{is_utf8}
use Rattle.std.proofs.lemmas.Bool.{not-false}
use Rattle.abt_machine.specs.declared.grammar.Form.{Form}
use Rattle.abt_machine.specs.declared.program.Fault.{Fault}
use Rattle.abt_machine.specs.declared.program.Fault.TheVariants as fault
use Rattle.abt_machine.specs.Declaring.{Above}
use Rattle.abt_machine.specs.Faults.{blocks_task, faults, has, is_barred, is_beyond, is_early, is_misplaced, is_no_version, is_past_limit, is_there, is_twice, is_within, numbers_of, values_of}
use Rattle.abt_machine.specs.Forms.{fits, form_of, forms, is_in, numerals, slots}
use Rattle.abt_machine.specs.Spelling.{has_control, is_number}
use Rattle.abt_machine.specs.Words.{Text}
use Rattle.abt_workload.proofs.Places.{and-left, and-right, or-left, or-right}

-- where nothing is found, no element passes
pub none-passes : (p : Fault → Bool) (fs : List Fault) (d : Fault) (k : ℕ) → find p fs ≡ None → k < length fs → p (get_or fs k d) ≡ false
none-passes p [] d k e lt = absurd (omega arith)
none-passes p (f ∷ fs) d k e lt = by k (p f) refl e lt (λ j g h. none-passes p fs d j g h)
  where
    by : (i : ℕ) (b : Bool) → p f ≡ b → cond (p f) (Some f) (find p fs) ≡ None → i < length (f ∷ fs) → ((j : ℕ) → find p fs ≡ None → j < length fs → p (get_or fs j d) ≡ false) → p (get_or (f ∷ fs) i d) ≡ false
    by i true is e lt rest = let bad = rw is at e in cc
    by zero false is e lt rest = is
    by (suc i) false is e lt rest = rest i (rw is at e) (omega arith)

-- what is found passes
pub found-passes : (p : Form → Bool) (fs : List Form) (f : Form) → find p fs ≡ Some f → p f ≡ true
found-passes p [] f e = cc
found-passes p (g ∷ gs) f e = by (p g) refl (λ h. found-passes p gs f h)
  where
    by : (b : Bool) → p g ≡ b → (find p gs ≡ Some f → p f ≡ true) → p f ≡ true
    by true is rest = let same : Some g ≡ Some f = rw is at e in subst (λ x. p x ≡ true) (let s : g ≡ f = cc in s) is
    by false is rest = rest (rw is at e)

-- a line of these words, of this form, without a fault
pub record IsSound (a : Above) (line : Text) (words : List Text) (f : Form) : Type 0 where
  pub utf8 : is_utf8 line ≡ true
  pub version : is_no_version a words ≡ false
  pub of_format : is_in a.format f ≡ true
  pub form_fits : fits (slots f) words ≡ true
  pub control : has_control line ≡ false
  pub placed : is_misplaced a f ≡ false
  pub numbers : list_all (λ p. is_number p.1) (numerals (slots f) words) ≡ true
  pub once : is_twice a f (values_of f words) ≡ false
  pub there : list_all (λ p. is_there a p.0 p.1) (numbers_of f words) ≡ true
  pub beyond : is_beyond a f (values_of f words) ≡ false
  pub within : list_all (λ p. is_within a.format p.0 p.1) (numbers_of f words) ≡ true
  pub limit : is_past_limit a f words (values_of f words) ≡ false
  pub task : blocks_task a f ≡ false
  pub access : is_barred a f (values_of f words) ≡ false
  pub early : is_early a f ≡ false

module _ (a : Above) (line : Text) (words : List Text) (f : Form) (e : find (has a line words (form_of a.format words)) faults ≡ None) (is : form_of a.format words ≡ Some f) where
  no : (k : ℕ) → k < 12 → has a line words (Some f) (get_or faults k fault.Utf8) ≡ false
  no k lt = none-passes (has a line words (Some f)) faults fault.Utf8 k (sym (ap (λ (o : Option Form). find (has a line words o) faults) is) ∙ e) lt

  pub sound-of : IsSound a line words f
  sound-of = record {
    utf8 = not-false (is_utf8 line) (no 0 (omega arith));
    version = no 1 (omega arith);
    of_format = and-left (is_in a.format f) _ (found-passes (λ g. is_in a.format g && fits (slots g) words) forms f is);
    form_fits = and-right (is_in a.format f) _ (found-passes (λ g. is_in a.format g && fits (slots g) words) forms f is);
    control = or-left (has_control line) _ (no 3 (omega arith));
    placed = or-right (has_control line) _ (no 3 (omega arith));
    numbers = not-false _ (no 4 (omega arith));
    once = no 5 (omega arith);
    there = not-false _ (or-left (not (list_all (λ p. is_there a p.0 p.1) (numbers_of f words))) _ (no 6 (omega arith)));
    beyond = or-right (not (list_all (λ p. is_there a p.0 p.1) (numbers_of f words))) _ (no 6 (omega arith));
    within = not-false _ (or-left (not (list_all (λ p. is_within a.format p.0 p.1) (numbers_of f words))) _ (no 7 (omega arith)));
    limit = or-right (not (list_all (λ p. is_within a.format p.0 p.1) (numbers_of f words))) _ (no 7 (omega arith));
    task = no 8 (omega arith);
    access = no 9 (omega arith);
    early = no 11 (omega arith);
  }
