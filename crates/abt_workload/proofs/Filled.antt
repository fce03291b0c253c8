-- Lines that are written of their form's words and of numbers are taken.
use Rattle.std.proofs.Common.{◌≡◌, ◌&&◌, ◌∙◌, ℕ, All, Bool, true, false, List, [], ◌∷◌, Some, ap, decimal, find, map, refl, subst, sym}
use Rattle.std.proofs.lemmas.List.Elements.{All-cons}
use Rattle.abt_machine.specs.declared.grammar.Form.{Form}
use Rattle.abt_machine.specs.declared.grammar.Form.TheVariants as form
use Rattle.abt_machine.specs.declared.grammar.Format.{Format}
use Rattle.abt_machine.specs.declared.grammar.Format.TheVariants as format
use Rattle.abt_machine.specs.declared.grammar.Number.{Number}
use Rattle.abt_machine.specs.declared.grammar.Number.TheVariants as number
use Rattle.abt_machine.specs.Canonical.{filled}
use Rattle.abt_machine.specs.Declaring.{Above, access_with, op_with, rule_with, start_with, thing_with}
use Rattle.abt_machine.specs.Faults.{is_skipped, values}
use Rattle.abt_machine.specs.Forms.{Slot, Fixed, Numeral, PoolList, fits, form_of, forms, is_in, numerals, slots}
use Rattle.abt_machine.specs.Valid.{IsWord}
use Rattle.abt_machine.specs.Words.{Text}
use Rattle.abt_workload.specs.Declarable.{with_line}
use Rattle.abt_workload.proofs.Fitting.{AreFit}
use Rattle.abt_workload.proofs.NumberedLines.{IsFine, line-taken, spelled}
use Rattle.abt_workload.proofs.Places.{and-left, and-right}
use Rattle.abt_workload.proofs.Proper.{none-of}
use Rattle.abt_workload.proofs.Taking.{Takes, decimal-word, is_plain, plain-word}

-- the fixed words of these places are words
abbrev pub plain_places : List Slot → Bool
plain_places [] = true
plain_places (Fixed t ∷ places) = is_plain t && plain_places places
plain_places (slot ∷ places) = plain_places places

-- there is a choice of words at one of these places
abbrev pub has_choice : List Slot → Bool
has_choice [] = false
has_choice (Fixed t ∷ places) = has_choice places
has_choice (Numeral n ∷ places) = has_choice places
has_choice (PoolList ∷ places) = false
has_choice (choice ∷ places) = true

-- these numbers as pools
abbrev pub as_pools : List ℕ → List (Number × ℕ)
as_pools = map (λ (n : ℕ). (number.Pool, n))

-- the numbers at these places, each with what it is
abbrev pub given : List Slot → List ℕ → List (Number × ℕ)
given [] ns = []
given (Numeral n ∷ places) [] = []
given (Numeral n ∷ places) (m ∷ ms) = (n, m) ∷ given places ms
given (PoolList ∷ places) ns = as_pools ns
given (slot ∷ places) ns = given places ns

-- the digits of pools stand for their numbers
pools-spelled : (ns : List ℕ) → map (λ w. (number.Pool, w)) (map decimal ns) ≡ spelled (as_pools ns)
pools-spelled [] = refl
pools-spelled (n ∷ ns) = ap (λ (ps : List (Number × Text)). (number.Pool, decimal n) ∷ ps) (pools-spelled ns)

-- a line's numbers are spelled in their places
numerals-filled : (places : List Slot) (word : Text) (ns : List ℕ) → numerals places (filled places word ns) ≡ spelled (given places ns)
numerals-filled [] word ns = refl
numerals-filled (Numeral n ∷ places) word [] = refl
numerals-filled (Numeral n ∷ places) word (m ∷ ms) = ap (λ (ps : List (Number × Text)). (n, decimal m) ∷ ps) (numerals-filled places word ms)
numerals-filled (PoolList ∷ places) word ns = pools-spelled ns
numerals-filled (slot ∷ places) word ns = numerals-filled places word ns

module _ (a : Above) where
  -- the digits of pools are words
  pools-words : (ns : List ℕ) → AreFit a (as_pools ns) → All IsWord (map decimal ns)
  pools-words [] h = none-of _
  pools-words (n ∷ ns) h = All-cons IsWord (decimal n) (map decimal ns) (decimal-word n h.0.small) (pools-words ns h.1)

  -- the words of a line are words
  words-filled : (places : List Slot) (word : Text) (ns : List ℕ) → plain_places places ≡ true → (has_choice places ≡ true → IsWord word) → AreFit a (given places ns)
      → All IsWord (filled places word ns)
  words-filled [] word ns e w h = none-of _
  words-filled (Fixed t ∷ places) word ns e w h =
      All-cons IsWord t (filled places word ns) (plain-word t (and-left (is_plain t) _ e)) (words-filled places word ns (and-right (is_plain t) _ e) w h)
  words-filled (Numeral n ∷ places) word [] e w h = none-of _
  words-filled (Numeral n ∷ places) word (m ∷ ms) e w h =
      All-cons IsWord (decimal m) (filled places word ms) (decimal-word m h.0.small) (words-filled places word ms e w h.1)
  words-filled (PoolList ∷ places) word ns e w h = pools-words ns h
  words-filled (slot ∷ places) word ns e w h = All-cons IsWord word (filled places word ns) (w refl) (words-filled places word ns e (λ _. w refl) h)

-- a form of format 1 is one of each format
pub in-each : (F : Format) (f : Form) → is_in format.One f ≡ true → is_in F f ≡ true
in-each format.One f e = e
in-each format.Two (form.Operation o) e = e
in-each format.Two (form.Repeat o) e = cc
in-each format.Two f e = refl
in-each format.Three f e = refl

-- a form that a line has in format 3 is its form in each format that has it
form-in : (F : Format) (words : List Text) (f : Form) → is_in F f ≡ true → form_of format.Three words ≡ Some f → form_of F words ≡ Some f
form-in F words f mine e = among forms e
  where
    and-no : (b : Bool) → (b && false) ≡ false
    and-no true = refl
    and-no false = refl

    among : (fs : List Form) → find (λ g. is_in format.Three g && fits (slots g) words) fs ≡ Some f → find (λ g. is_in F g && fits (slots g) words) fs ≡ Some f
    among [] h = cc
    among (g ∷ gs) h = by (fits (slots g) words) refl (among gs)
      where
        by : (b : Bool) → fits (slots g) words ≡ b → (find (λ h. is_in format.Three h && fits (slots h) words) gs ≡ Some f → find (λ h. is_in F h && fits (slots h) words) gs ≡ Some f)
            → find (λ h. is_in F h && fits (slots h) words) (g ∷ gs) ≡ Some f
        by true is rest =
            let first : Some g ≡ Some f = rw is at h in
            let same : g ≡ f = cc in
            let has : is_in F g ≡ true = subst (λ (x : Form). is_in F x ≡ true) (sym same) mine in
            rw (has, is) first
        by false is rest =
            let others : find (λ h. is_in format.Three h && fits (slots h) words) gs ≡ Some f = rw is at h in
            let none : (is_in F g && false) ≡ false = and-no (is_in F g) in
            rw (is, none) (rest others)

-- a form as the table has it: each of its numbers is 0
abbrev pub blank : Form → Form
blank (form.Pool a) = form.Pool (access_with a [])
blank (form.Sched r) = form.Sched (rule_with r [])
blank (form.Object t) = form.Object (thing_with t [] [])
blank (form.Unit r start) = form.Unit r (start_with r start [])
blank (form.Many r start) = form.Many r (start_with r start [])
blank (form.Operation o) = form.Operation (op_with o 0 [])
blank (form.Repeat o) = form.Repeat (op_with o 0 [])
blank f = f

-- words that are written for a line of this form, of this word where there is a choice, and of these numbers
pub record IsWritten (f : Form) (word : Text) (ns : List ℕ) (words : List Text) : Type 0 where
  pub words_are : words ≡ filled (slots f) word ns
  pub form_is : form_of format.Three words ≡ Some f
  pub skipped : is_skipped words ≡ false
  pub plain : plain_places (slots f) ≡ true
  pub chosen : has_choice (slots f) ≡ true → IsWord word

-- a line that is written is taken if its format has the form, and it has no fault
pub takes : (a b : Above) (f : Form) (word : Text) (ns : List ℕ) (words : List Text) → IsWritten f word ns words → is_in a.format f ≡ true → AreFit a (given (slots f) ns)
    → IsFine a f words (values (given (slots f) ns)) → with_line a f words (values (given (slots f) ns)) ≡ b → Takes a words b
takes a b f word ns words w mine fit =
    line-taken a b words f (given (slots f) ns) (subst (All IsWord) (sym w.words_are) (words-filled a (slots f) word ns w.plain w.chosen fit))
    w.skipped (form-in a.format words f mine w.form_is) (ap (numerals (slots f)) w.words_are ∙ numerals-filled (slots f) word ns) fit
