-- Tables of marks.
use Rattle.std.proofs.Common.{◌≡◌, ◌≢◌, ℕ, ◌<◌, Bool, true, false, List, length, replicate, Some, set, length-set, sym, ◌∙◌, ap, subst, inl, inr}
use Rattle.std.proofs.lemmas.Bool.{cases_eq, true≢false}
use Rattle.std.proofs.lemmas.List.{get_or-replicate, get_or-set_other, get_or-set_same, length-replicate}
use Rattle.std.proofs.lemmas.Option.{get_or_from_slice_get, slice_get-get_or, slice_get_within}
use Rattle.std.specs.Prelude.{slice_get}

-- the number that is marked is marked
pub marked-here : (marks : List Bool) (y : ℕ) → y < length marks → slice_get (set marks y true) y ≡ Some true
marked-here marks y below = slice_get-get_or (set marks y true) y false (subst (λ m. y < m) (sym (length-set marks y true)) below) ∙ ap (λ b. Some b) (get_or-set_same marks y true false below)

-- what was marked is
pub marked-still : (marks : List Bool) (y : ℕ) → y < length marks → (x : ℕ) → slice_get marks x ≡ Some true → slice_get (set marks y true) x ≡ Some true
marked-still marks y below x e =
    let l : x < length marks = slice_get_within marks x true e in
    let long : x < length (set marks y true) = subst (λ m. x < m) (sym (length-set marks y true)) l in
    elim (cases_eq x y) [
      | inl same ↦ subst (λ z. slice_get (set marks y true) z ≡ Some true) (sym same) (marked-here marks y below)
      | inr other ↦ slice_get-get_or (set marks y true) x false long ∙ ap (λ b. Some b) (get_or-set_other marks y x true false other ∙ get_or_from_slice_get marks x true false e)
    ]

-- and nothing else is
pub was-marked : (marks : List Bool) (y x : ℕ) → x ≢ y → slice_get (set marks y true) x ≡ Some true → slice_get marks x ≡ Some true
was-marked marks y x other e =
    let l : x < length marks = subst (λ m. x < m) (length-set marks y true) (slice_get_within (set marks y true) x true e) in
    slice_get-get_or marks x false l ∙ ap (λ b. Some b) (sym (get_or-set_other marks y x true false other) ∙ get_or_from_slice_get (set marks y true) x true false e)

-- in a new table nothing is marked
pub none-marked : (n x : ℕ) → slice_get (replicate n false) x ≡ Some true → ⊥
none-marked n x e =
    let l : x < n = subst (λ m. x < m) (length-replicate n false) (slice_get_within (replicate n false) x true e) in
    true≢false (sym (get_or_from_slice_get (replicate n false) x true false e) ∙ get_or-replicate n x false false l)
