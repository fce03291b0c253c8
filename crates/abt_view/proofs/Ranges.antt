-- Lists that are made number by number of a range, or element by element of a list.
use Rattle.std.proofs.Common.{◌≡◌, ◌∙◌, ◌+◌, ◌<◌, ℕ, List, [], ◌∷◌, ◌++◌, flat_map, take, get_or, length, ap, append_assoc, sym}
use Rattle.std.specs.List.{range_with_len}
use Rattle.std.proofs.lemmas.Grind.{flat_map-append}
use Rattle.std.proofs.lemmas.List.{append-nil, map-id, take_more}
use Rattle.std.proofs.lemmas.List.FromFn.{map-range_with_len_more}

-- a range with one number more
range-more : (a n j : ℕ) → a + n ≡ j → range_with_len a (n + 1) ≡ range_with_len a n ++ j ∷ []
range-more a n j is =
    sym (map-id (range_with_len a (n + 1))) ∙ (map-range_with_len_more (λ (x : ℕ). x) a n j is ∙ ap (λ (xs : List ℕ). xs ++ j ∷ []) (map-id (range_with_len a n)))

-- what f makes of it
flat-more : {A : Type 0} (f : ℕ → List A) (a n j : ℕ) → a + n ≡ j → flat_map f (range_with_len a (n + 1)) ≡ flat_map f (range_with_len a n) ++ f j
flat-more f a n j is =
    ap (flat_map f) (range-more a n j is) ∙ (flat_map-append f (range_with_len a n) (j ∷ []) ∙ ap (λ ys. flat_map f (range_with_len a n) ++ ys) (append-nil (f j)))

-- a list with what f makes of one number more
pub one-more : {A : Type 0} (f : ℕ → List A) (before now next : List A) (a n j : ℕ) → a + n ≡ j → now ≡ before ++ flat_map f (range_with_len a n) → next ≡ now ++ f j →
    next ≡ before ++ flat_map f (range_with_len a (n + 1))
one-more f before now next a n j at is grown =
    grown ∙ (ap (λ xs. xs ++ f j) is ∙ (append_assoc before (flat_map f (range_with_len a n)) (f j) ∙ ap (λ xs. before ++ xs) (sym (flat-more f a n j at))))

-- what f makes of the first elements and one more
taken-more : {A B : Type 0} (f : A → List B) (xs : List A) (i : ℕ) (d : A) → i < length xs → flat_map f (take (i + 1) xs) ≡ flat_map f (take i xs) ++ f (get_or xs i d)
taken-more f xs i d lt =
    ap (flat_map f) (take_more xs i d lt) ∙ (flat_map-append f (take i xs) (get_or xs i d ∷ []) ∙ ap (λ ys. flat_map f (take i xs) ++ ys) (append-nil (f (get_or xs i d))))

-- a list with what f makes of one element more
pub one-further : {A B : Type 0} (f : A → List B) (before now next : List B) (xs : List A) (i : ℕ) (d : A) → i < length xs → now ≡ before ++ flat_map f (take i xs) →
    next ≡ now ++ f (get_or xs i d) → next ≡ before ++ flat_map f (take (i + 1) xs)
one-further f before now next xs i d lt is grown =
    grown ∙ (ap (λ ys. ys ++ f (get_or xs i d)) is ∙ (append_assoc before (flat_map f (take i xs)) (f (get_or xs i d)) ∙ ap (λ ys. before ++ ys) (sym (taken-more f xs i d lt))))
