-- What holds of each item of a list, and what is among its items.
use Rattle.std.proofs.Common.{◌≡◌, ℕ, List, [], ◌∷◌, ◌++◌, map, Some, None, refl, sym, ◌∙◌, ap, subst, ◌⊎◌, inl, inr}
use Rattle.abt_machine.specs.Queues.{first, last, first_alone}
use Rattle.abt_laws.proofs.Options.{none≢some, some-injective}

-- P holds of each item
abbrev pub EachOf : {A : Type 0} → (A → Type 0) → List A → Type 0
EachOf P [] = Unit {0}
EachOf P (x ∷ xs) = P x × EachOf P xs

-- an item in the middle
pub nil≢middle : {A : Type 0} (before rest : List A) (x : A) → [] ≡ before ++ x ∷ rest → ⊥
nil≢middle [] rest x h = cc
nil≢middle (y ∷ before) rest x h = cc

-- an item of a list with one more at its end is that one or is in the list
pub last-or-within : {A : Type 0} (xs before rest : List A) (v w : A) → xs ++ v ∷ [] ≡ before ++ w ∷ rest → (rest ≡ []) ⊎ ((r : List A) × (xs ≡ before ++ w ∷ r))
last-or-within [] [] rest v w h = inl cc
last-or-within [] (b ∷ before) rest v w h = let t : [] ≡ before ++ w ∷ rest = cc in absurd (nil≢middle before rest w t)
last-or-within (x ∷ xs) [] rest v w h = inr (xs, cc)
last-or-within (x ∷ xs) (b ∷ before) rest v w h =
    let t : xs ++ v ∷ [] ≡ before ++ w ∷ rest = cc in
    let same : x ≡ b = cc in
    elim (last-or-within xs before rest v w t) [ inl end ↦ inl end | inr p ↦ inr (p.0, ap (λ ys. x ∷ ys) p.1 ∙ ap (λ y. y ∷ before ++ w ∷ p.0) same) ]

-- the one at the end is the last
pub last-push : {A : Type 0} (xs : List A) (x : A) → last (xs ++ x ∷ []) ≡ Some x
last-push [] x = refl
last-push (y ∷ []) x = refl
last-push (y ∷ z ∷ ys) x = last-push (z ∷ ys) x

pub EachOf-all : {A : Type 0} (P : A → Type 0) (xs : List A) → ((x : A) → P x) → EachOf P xs
EachOf-all P [] f = tt
EachOf-all P (x ∷ xs) f = (f x, EachOf-all P xs f)

pub EachOf-then : {A : Type 0} (P Q : A → Type 0) (xs : List A) → ((x : A) → P x → Q x) → EachOf P xs → EachOf Q xs
EachOf-then P Q [] f a = tt
EachOf-then P Q (x ∷ xs) f a = (f x a.0, EachOf-then P Q xs f a.1)

pub EachOf-map : {A B : Type 0} (P : B → Type 0) (Q : A → Type 0) (f : A → B) (xs : List A) → ((x : A) → Q x → P (f x)) → EachOf Q xs → EachOf P (map f xs)
EachOf-map P Q f [] h a = tt
EachOf-map P Q f (x ∷ xs) h a = (h x a.0, EachOf-map P Q f xs h a.1)

pub EachOf-append : {A : Type 0} (P : A → Type 0) (xs ys : List A) → EachOf P xs → EachOf P ys → EachOf P (xs ++ ys)
EachOf-append P [] ys a b = b
EachOf-append P (x ∷ xs) ys a b = (a.0, EachOf-append P xs ys a.1 b)

-- what holds of each item holds of each item of a prefix
pub EachOf-prefix : {A : Type 0} (P : A → Type 0) (xs ys : List A) → EachOf P (xs ++ ys) → EachOf P xs
EachOf-prefix P [] ys a = tt
EachOf-prefix P (x ∷ xs) ys a = (a.0, EachOf-prefix P xs ys a.1)

pub EachOf-first : {A : Type 0} (P : A → Type 0) (xs : List A) (x : A) → EachOf P xs → first xs ≡ Some x → P x
EachOf-first P [] x a e = absurd (none≢some e)
EachOf-first P (y ∷ ys) x a e = subst P (some-injective e) a.0

pub EachOf-last : {A : Type 0} (P : A → Type 0) (xs : List A) (x : A) → EachOf P xs → last xs ≡ Some x → P x
EachOf-last P [] x a e = absurd (none≢some e)
EachOf-last P (y ∷ []) x a e = subst P (some-injective e) a.0
EachOf-last P (y ∷ z ∷ ys) x a e = EachOf-last P (z ∷ ys) x a.1 e

pub EachOf-first_alone : {A : Type 0} (P : A → Type 0) (xs : List A) → EachOf P xs → EachOf P (first_alone xs)
EachOf-first_alone P [] a = tt
EachOf-first_alone P (x ∷ xs) a = (a.0, tt)

-- what follows for each item from two lists that are the same, made of it by f and g
pub EachOf-made : {A B : Type 0} (P : A → Type 0) (f g : A → B) (xs : List A) → ((x : A) → f x ≡ g x → P x) → map f xs ≡ map g xs → EachOf P xs
EachOf-made P f g [] h same = tt
EachOf-made P f g (x ∷ xs) h same = (h x cc, EachOf-made P f g xs h cc)

pub EachOf-same : {A B : Type 0} (f g : A → B) (xs : List A) → map f xs ≡ map g xs → EachOf (λ x. f x ≡ g x) xs
EachOf-same f g xs same = EachOf-made (λ x. f x ≡ g x) f g xs (λ x e. e) same

-- v is one of the items
abbrev pub Among : ℕ → List ℕ → Type 0
Among v [] = ⊥
Among v (u ∷ us) = (v ≡ u) ⊎ Among v us

-- if there is no first item, none is among them
pub Among-none : (us : List ℕ) (v : ℕ) → first us ≡ None → Among v us → ⊥
Among-none [] v e m = m
Among-none (u ∷ us) v e m = none≢some (sym e)
