-- Texts, cut at a byte.
use Rattle.std.proofs.Common.{◌≡◌, ◌≢◌, ◌==◌, ◌∙◌, ℕ, false, ◌∷◌, ◌++◌, get_or, ap, refl, sym, arith}
use Rattle.std.specs.List.{All, slice_split}
use Rattle.std.proofs.lemmas.Bool.{eq-eqb}
use Rattle.std.proofs.lemmas.Bool.Decides.{nat_tests}
use Rattle.std.proofs.lemmas.List.{append_cancel_left}
use Rattle.std.proofs.lemmas.List.Splits.{slice_split_at}
use Rattle.abt_machine.specs.Words.{Text}

-- no byte is the mark
abbrev pub Lacks : ℕ → Text → Type 0
Lacks mark = All (λ b. b ≢ mark)

other : (mark b : ℕ) → b ≢ mark → (b == mark) ≡ false
other mark b apart = grind (arith, nat_tests)

-- the first part of a text that is split at each mark
pub first-part : (mark : ℕ) (xs us : Text) → Lacks mark xs → slice_split (λ b. b == mark) (xs ++ mark ∷ us) ≡ xs ∷ slice_split (λ b. b == mark) us
first-part mark xs us lacks =
    slice_split_at (λ b. b == mark) xs mark us (λ k d lt. other mark (get_or xs k d) (lacks k d lt)) (eq-eqb mark mark refl)

-- what stands before the first mark, and after it, is one pair
pub cut-same : (mark : ℕ) (xs ys us vs : Text) → Lacks mark xs → Lacks mark ys → xs ++ mark ∷ us ≡ ys ++ mark ∷ vs → (xs ≡ ys) × (us ≡ vs)
cut-same mark xs ys us vs hx hy e =
    let parts : xs ∷ slice_split (λ b. b == mark) us ≡ ys ∷ slice_split (λ b. b == mark) vs =
    sym (first-part mark xs us hx) ∙ (ap (slice_split (λ b. b == mark)) e ∙ first-part mark ys vs hy) in
    let same : xs ≡ ys = cc in
    let rest : mark ∷ us ≡ mark ∷ vs = append_cancel_left xs (mark ∷ us) (mark ∷ vs) (e ∙ ap (λ (text : Text). text ++ mark ∷ vs) (sym same)) in
    let tails : us ≡ vs = cc in
    (same, tails)
