-- Walks from unit to unit, and the lines of cycles.
use Rattle.std.proofs.Common.{◌≡◌, ◌≢◌, ◌∙◌, ◌+◌, ◌-◌, ◌<◌, ◌≤◌, ◌==◌, ℕ, suc, if◌then◌else◌, List, [], ◌∷◌, ◌++◌, Option, None, Some, ap, ap₂, arith, flat_map, option_map, refl, sym}
use Rattle.std.proofs.lemmas.Bool.{eq-eqb, le-ltb, ne_eqb}
use Rattle.std.proofs.lemmas.Grind.{flat_map-append}
use Rattle.std.proofs.lemmas.List.{append-nil, append_assoc}
use Rattle.std.proofs.lemmas.List.Elements.{filter_map-append}
use Rattle.std.specs.List.{cons_option, filter_map, range_with_len}
use Rattle.std.specs.Option.{option_to_list}
use Rattle.abt_machine.specs.Words.{Text}
use Rattle.abt_why.specs.Cycles.{waits_for, way_to}
use Rattle.abt_why.specs.Texts.{cycle_line}
use Rattle.abt_why.proofs.Numbers.{numbers-more}

module _ (awaited : List (Option ℕ)) (u v : ℕ) where
  -- a step to unit v, which is not below u
  step : (m : ℕ) → u ≤ v → way_to awaited u (suc m) (Some v) ≡ (if v == u then Some [] else option_map (λ vs. v ∷ vs) (way_to awaited u m (waits_for awaited v)))
  step m up = ap (λ b. if b then None else if v == u then Some [] else option_map (λ vs. v ∷ vs) (way_to awaited u m (waits_for awaited v))) (le-ltb v u up)

  -- unit u has come again
  pub comes-again : (n k : ℕ) (units : List ℕ) (next : Option ℕ) (cycle : Option (List ℕ)) → next ≡ Some v → k < n → u ≤ v → v ≡ u
      → option_map (λ vs. units ++ vs) (way_to awaited u (n - k) next) ≡ cycle → Some units ≡ cycle
  comes-again n k units next cycle is lt up same h =
      let more : n - k ≡ suc (n - (k + 1)) = omega arith in
      let here : way_to awaited u (n - k) next ≡ Some [] =
      ap₂ (λ m o. way_to awaited u m o) more is ∙ step (n - (k + 1)) up ∙ ap (λ b. if b then Some [] else option_map (λ vs. v ∷ vs) (way_to awaited u (n - (k + 1)) (waits_for awaited v))) (eq-eqb v u same) in
      ap Some (sym (append-nil units)) ∙ sym (ap (option_map (λ vs. units ++ vs)) here) ∙ h

  -- a unit of a list behind others
  behind : (units : List ℕ) (o : Option (List ℕ)) → option_map (λ vs. (units ++ v ∷ []) ++ vs) o ≡ option_map (λ vs. units ++ vs) (option_map (λ vs. v ∷ vs) o)
  behind units None = refl
  behind units (Some vs) = ap Some (append_assoc units (v ∷ []) vs)

  -- another unit has come
  pub goes-on : (n k : ℕ) (units : List ℕ) (next : Option ℕ) (cycle : Option (List ℕ)) → next ≡ Some v → k < n → u ≤ v → v ≢ u
      → option_map (λ vs. units ++ vs) (way_to awaited u (n - k) next) ≡ cycle → option_map (λ vs. (units ++ v ∷ []) ++ vs) (way_to awaited u (n - (k + 1)) (waits_for awaited v)) ≡ cycle
  goes-on n k units next cycle is lt up other h =
      let more : n - k ≡ suc (n - (k + 1)) = omega arith in
      let here : way_to awaited u (n - k) next ≡ option_map (λ vs. v ∷ vs) (way_to awaited u (n - (k + 1)) (waits_for awaited v)) =
      ap₂ (λ m o. way_to awaited u m o) more is ∙ step (n - (k + 1)) up ∙ ap (λ b. if b then Some [] else option_map (λ vs. v ∷ vs) (way_to awaited u (n - (k + 1)) (waits_for awaited v))) (ne_eqb v u other) in
      behind units (way_to awaited u (n - (k + 1)) (waits_for awaited v)) ∙ sym (ap (option_map (λ vs. units ++ vs)) here) ∙ h

-- the lines of the cycles from the units below n + 1

same-list : {A : Type 0} (o : Option A) → cons_option o [] ≡ option_to_list o
same-list None = refl
same-list (Some a) = refl

pub one-cycle-more : (f : ℕ → Option (List ℕ)) (n : ℕ) (o : Option (List ℕ)) (old mid new : Text) → mid ≡ old ++ flat_map cycle_line (filter_map f (range_with_len 0 n)) → o ≡ f n
    → new ≡ mid ++ flat_map cycle_line (option_to_list o) → new ≡ old ++ flat_map cycle_line (filter_map f (range_with_len 0 (n + 1)))
one-cycle-more f n o old mid new before is here =
    let last : filter_map f (range_with_len 0 (n + 1)) ≡ filter_map f (range_with_len 0 n) ++ option_to_list o =
    ap (filter_map f) (numbers-more n) ∙ filter_map-append f (range_with_len 0 n) (n ∷ []) ∙ ap (λ xs. filter_map f (range_with_len 0 n) ++ xs) (same-list (f n) ∙ ap option_to_list (sym is)) in
    here ∙ ap (λ text. text ++ flat_map cycle_line (option_to_list o)) before ∙ append_assoc old (flat_map cycle_line (filter_map f (range_with_len 0 n))) (flat_map cycle_line (option_to_list o))
    ∙ ap (λ text. old ++ text) (sym (flat_map-append cycle_line (filter_map f (range_with_len 0 n)) (option_to_list o)) ∙ ap (flat_map cycle_line) (sym last))
