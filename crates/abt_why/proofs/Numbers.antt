-- The first numbers, and one more.
use Rattle.std.proofs.Common.{◌≡◌, ◌∙◌, ◌+◌, ◌<◌, ◌||◌, ℕ, zero, suc, if◌then◌else◌, Bool, true, false, List, [], ◌∷◌, ◌++◌, ap, ap₂, arith, length, map, refl, sym}
use Rattle.std.proofs.lemmas.List.{map-append}
use Rattle.std.proofs.lemmas.List.Elements.{filter-append}
use Rattle.std.proofs.lemmas.List.Folds.{list_any-append, list_any_at}
use Rattle.std.proofs.lemmas.List.FromFn.{get_or-range_with_len, length-range_with_len, map-range_with_len_more}
use Rattle.std.specs.List.{filter, list_any, range_with_len}

more-from : (a n : ℕ) → range_with_len a (suc n) ≡ range_with_len a n ++ (a + n) ∷ []
more-from a zero = ap (λ x. x ∷ []) (omega arith)
more-from a (suc n) =
    let last : a + 1 + n ≡ a + suc n = omega arith in
    ap (λ l. a ∷ l) (more-from (a + 1) n ∙ ap (λ x. range_with_len (a + 1) n ++ x ∷ []) last)

pub numbers-more : (n : ℕ) → range_with_len 0 (n + 1) ≡ range_with_len 0 n ++ n ∷ []
numbers-more n =
    let plus : n + 1 ≡ suc n = omega arith in
    let last : 0 + n ≡ n = omega arith in
    ap (range_with_len 0) plus ∙ more-from 0 n ∙ ap (λ x. range_with_len 0 n ++ x ∷ []) last

-- a test that fails below n and at n
pub none-more : (p : ℕ → Bool) (n : ℕ) → list_any p (range_with_len 0 n) ≡ false → p n ≡ false → list_any p (range_with_len 0 (n + 1)) ≡ false
none-more p n none here = ap (list_any p) (numbers-more n) ∙ list_any-append p (range_with_len 0 n) (n ∷ []) ∙ ap₂ (λ a b. a || (b || false)) none here

-- a test that passes at a number below m
pub some-found : (p : ℕ → Bool) (n m : ℕ) → n < m → p n ≡ true → true ≡ list_any p (range_with_len 0 m)
some-found p n m lt is =
    let long : length (range_with_len 0 m) ≡ m = length-range_with_len 0 m in
    let e : 0 + n ≡ n = omega arith in
    sym (list_any_at p (range_with_len 0 m) n 0 (omega arith) (ap p (get_or-range_with_len 0 m n 0 lt ∙ e) ∙ is))

-- what is kept of one number
kept : {A : Type 0} (f : ℕ → A) (n : ℕ) (b : Bool) → map f (if b then n ∷ [] else []) ≡ (if b then f n ∷ [] else [])
kept f n true = refl
kept f n false = refl

-- the numbers that pass a test, with one number more
pub filtered-more : {A : Type 0} (f : ℕ → A) (p : ℕ → Bool) (n : ℕ) → map f (filter p (range_with_len 0 (n + 1))) ≡ map f (filter p (range_with_len 0 n)) ++ (if p n then f n ∷ [] else [])
filtered-more f p n =
    ap (map f) (ap (filter p) (numbers-more n) ∙ filter-append p (range_with_len 0 n) (n ∷ [])) ∙ map-append f (filter p (range_with_len 0 n)) (filter p (n ∷ []))
    ∙ ap (λ xs. map f (filter p (range_with_len 0 n)) ++ xs) (kept f n (p n))

-- a function of one number more
pub mapped-more : {A : Type 0} (f : ℕ → A) (n : ℕ) (old new : List A) (x : A) → old ≡ map f (range_with_len 0 n) → x ≡ f n → new ≡ old ++ x ∷ [] → new ≡ map f (range_with_len 0 (n + 1))
mapped-more f n old new x before here is = is ∙ ap₂ (λ xs y. xs ++ y ∷ []) before here ∙ sym (map-range_with_len_more f 0 n n (omega arith))
