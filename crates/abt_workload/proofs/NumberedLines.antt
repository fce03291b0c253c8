-- Lines whose numbers are in order are taken.
use Rattle.std.proofs.Common.{◌≡◌, ◌∙◌, ℕ, Bool, true, false, List, [], ◌∷◌, All, Some, None, ap, decimal, map, refl, subst}
use Rattle.std.specs.List.{list_all}
use Rattle.std.proofs.lemmas.Bool.{and_from}
use Rattle.abt_machine.specs.declared.grammar.Form.{Form}
use Rattle.abt_machine.specs.declared.grammar.Number.{Number}
use Rattle.abt_machine.specs.Declaring.{Above}
use Rattle.abt_machine.specs.Faults.{blocks_task, is_barred, is_beyond, is_early, is_misplaced, is_no_version, is_past_limit, is_skipped, is_there, is_twice, is_within, numbers_of, valued, values, values_of}
use Rattle.abt_machine.specs.Forms.{form_of, numerals, slots}
use Rattle.abt_machine.specs.Spelling.{is_number, value_of}
use Rattle.abt_machine.specs.Valid.{IsWord}
use Rattle.abt_machine.specs.Words.{Text}
use Rattle.abt_workload.specs.Declarable.{with_line}
use Rattle.abt_workload.specs.Judging.{later_fault}
use Rattle.abt_workload.proofs.Fitting.{AreFit, IsFit}
use Rattle.abt_workload.proofs.Taking.{Takes, decimal-number, decimal-value, taken}

-- numbers as their digits
abbrev pub spelled : List (Number × ℕ) → List (Number × Text)
spelled = map (λ (p : Number × ℕ). (p.0, decimal p.1))

-- a line of this form, these words and these numbers has no fault but in a number
pub record IsFine (a : Above) (f : Form) (words : List Text) (ns : List ℕ) : Type 0 where
  pub version : is_no_version a words ≡ false
  pub placed : is_misplaced a f ≡ false
  pub once : is_twice a f ns ≡ false
  pub beyond : is_beyond a f ns ≡ false
  pub limit : is_past_limit a f words ns ≡ false
  pub task : blocks_task a f ≡ false
  pub access : is_barred a f ns ≡ false
  pub early : is_early a f ≡ false

module _ (a : Above) where
  -- the digits of numbers that may stand in a line are numbers
  all-numbers : (ps : List (Number × ℕ)) → AreFit a ps → list_all (λ (p : Number × Text). is_number p.1) (spelled ps) ≡ true
  all-numbers [] h = refl
  all-numbers (p ∷ ps) h = and_from (is_number (decimal p.1)) _ (decimal-number p.1 h.0.small) (all-numbers ps h.1)

  -- their digits say them
  all-read : (ps : List (Number × ℕ)) → AreFit a ps → valued (spelled ps) ≡ ps
  all-read [] h = refl
  all-read (p ∷ ps) h =
      let here : value_of (decimal p.1) ≡ p.1 = decimal-value p.1 h.0.small in
      let rest : valued (spelled ps) ≡ ps = all-read ps h.1 in
      ap (λ (n : ℕ). (p.0, n) ∷ valued (spelled ps)) here ∙ ap (λ (qs : List (Number × ℕ)). p ∷ qs) rest

  -- what holds of each holds of all
  all-hold : (P : Number → ℕ → Bool) → ((kind : Number) (n : ℕ) → IsFit a kind n → P kind n ≡ true) → (ps : List (Number × ℕ)) → AreFit a ps
      → list_all (λ (p : Number × ℕ). P p.0 p.1) ps ≡ true
  all-hold P each [] h = refl
  all-hold P each (p ∷ ps) h = and_from (P p.0 p.1) _ (each p.0 p.1 h.0) (all-hold P each ps h.1)

  -- a line of these numbers is taken if it has a form, and no other fault
  pub line-taken : (b : Above) (words : List Text) (f : Form) (ps : List (Number × ℕ)) → All IsWord words → is_skipped words ≡ false
      → form_of a.format words ≡ Some f → numerals (slots f) words ≡ spelled ps → AreFit a ps → IsFine a f words (values ps)
      → with_line a f words (values ps) ≡ b → Takes a words b
  line-taken b words f ps written kept formed numbers fit fine is =
      let there = all-hold (is_there a) (λ kind n h. h.there) ps fit in
      let within = all-hold (is_within a.format) (λ kind n h. h.within) ps fit in
      let read : numbers_of f words ≡ ps = ap valued numbers ∙ all-read ps fit in
      let digits : list_all (λ (p : Number × Text). is_number p.1) (numerals (slots f) words) ≡ true =
      ap (list_all (λ (p : Number × Text). is_number p.1)) numbers ∙ all-numbers ps fit in
      let sound : later_fault a f words ps ≡ None = rw (fine.once, there, fine.beyond, within, fine.limit, fine.task, fine.access, fine.early) refl in
      let took : Takes a words (with_line a f words (values_of f words)) =
      taken a words f written kept fine.version formed fine.placed digits (ap (later_fault a f words) read ∙ sound) in
      subst (Takes a words) (ap (λ (qs : List (Number × ℕ)). with_line a f words (values qs)) read ∙ is) took
