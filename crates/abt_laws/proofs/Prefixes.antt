-- Lists in two parts: a prefix and the rest.
use Rattle.std.proofs.Common.{◌≡◌, ℕ, Bool, false, List, [], ◌∷◌, ◌++◌, refl, ◌∙◌, subst, inl, inr}
use Rattle.std.specs.Prelude.{filter}
use Rattle.std.proofs.lemmas.Bool.{cond-false}
use Rattle.abt_laws.proofs.Lists.{EachOf, Among}
use Rattle.abt_laws.proofs.Pushes.{IsDistinct}

-- what holds of each item holds of each item of the rest
pub EachOf-suffix : {A : Type 0} (P : A → Type 0) (xs ys : List A) → EachOf P (xs ++ ys) → EachOf P ys
EachOf-suffix P [] ys a = a
EachOf-suffix P (x ∷ xs) ys a = EachOf-suffix P xs ys a.1

pub among-prefix : (v : ℕ) (xs ys : List ℕ) → Among v xs → Among v (xs ++ ys)
among-prefix v [] ys m = absurd m
among-prefix v (x ∷ xs) ys m = elim m [ inl e ↦ inl e | inr n ↦ inr (among-prefix v xs ys n) ]

pub among-suffix : (v : ℕ) (xs ys : List ℕ) → Among v ys → Among v (xs ++ ys)
among-suffix v [] ys m = m
among-suffix v (x ∷ xs) ys m = inr (among-suffix v xs ys m)

pub distinct-prefix : (xs ys : List ℕ) → IsDistinct (xs ++ ys) → IsDistinct xs
distinct-prefix [] ys d = tt
distinct-prefix (x ∷ xs) ys d = ((λ m. d.0 (among-prefix x xs ys m)), distinct-prefix xs ys d.1)

pub distinct-suffix : (xs ys : List ℕ) → IsDistinct (xs ++ ys) → IsDistinct ys
distinct-suffix [] ys d = d
distinct-suffix (x ∷ xs) ys d = distinct-suffix xs ys d.1

-- nobody is in both parts
pub distinct-apart : (v : ℕ) (xs ys : List ℕ) → IsDistinct (xs ++ ys) → Among v xs → Among v ys → ⊥
distinct-apart v [] ys d m n = m
distinct-apart v (x ∷ xs) ys d m n = elim m [ inl e ↦ d.0 (subst (λ w. Among w (xs ++ ys)) e (among-suffix v xs ys n)) | inr k ↦ distinct-apart v xs ys d.1 k n ]

-- a filter that keeps nothing of a prefix
pub filter-drop : (test : ℕ → Bool) (xs ys : List ℕ) → EachOf (λ v. test v ≡ false) xs → filter test (xs ++ ys) ≡ filter test ys
filter-drop test [] ys a = refl
filter-drop test (x ∷ xs) ys a = cond-false (test x) _ _ a.0 ∙ filter-drop test xs ys a.1
