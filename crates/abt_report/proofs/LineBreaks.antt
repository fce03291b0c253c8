-- Texts that are cut at their first line feed.
use Rattle.std.proofs.Common.{◌≡◌, ◌==◌, false, ap, ℕ, [], ◌∷◌, ◌++◌, refl, subst, sym}
use Rattle.std.specs.List.{All}
use Rattle.std.proofs.lemmas.Bool.{eqb-false}
use Rattle.std.proofs.lemmas.List.Elements.{All-head, All-tail}
use Rattle.abt_bounds.proofs.Solid.{IsNoFeed}
use Rattle.abt_machine.specs.Words.{Text}

-- no byte is a line feed
abbrev pub IsUnbroken : Text → Type 0
IsUnbroken = All IsNoFeed

-- the first byte
first-or : ℕ → Text → ℕ
first-or d [] = d
first-or d (x ∷ xs) = x

-- texts that are the same begin with the same byte
pub heads-same : (a b : ℕ) (xs ys : Text) → a ∷ xs ≡ b ∷ ys → a ≡ b
unfolding first-or
heads-same a b xs ys e = ap (first-or a) e

-- texts differ if their first bytes differ
pub apart : (a b : ℕ) (xs ys : Text) → (a == b) ≡ false → a ∷ xs ≡ b ∷ ys → ⊥
apart a b xs ys differ e = eqb-false a b differ (heads-same a b xs ys e)

-- the text without its first byte
rest-of : Text → Text
rest-of [] = []
rest-of (x ∷ xs) = xs

-- texts that are the same go on the same
pub tails-same : (a b : ℕ) (xs ys : Text) → a ∷ xs ≡ b ∷ ys → xs ≡ ys
unfolding rest-of
tails-same a b xs ys e = ap rest-of e

-- what stands before the first line feed, and after it, is one pair
pub cut-same : (xs ys us vs : Text) → IsUnbroken xs → IsUnbroken ys → xs ++ 10 ∷ us ≡ ys ++ 10 ∷ vs → (xs ≡ ys) × (us ≡ vs)
cut-same [] [] us vs hx hy e = (refl, cc)
cut-same [] (y ∷ ys) us vs hx hy e = absurd (All-head IsNoFeed y ys hy cc)
cut-same (x ∷ xs) [] us vs hx hy e = absurd (All-head IsNoFeed x xs hx cc)
cut-same (x ∷ xs) (y ∷ ys) us vs hx hy e =
    let same : x ≡ y = heads-same x y (xs ++ 10 ∷ us) (ys ++ 10 ∷ vs) e in
    let rest = tails-same x y (xs ++ 10 ∷ us) (ys ++ 10 ∷ vs) e in
    let cut = cut-same xs ys us vs (All-tail IsNoFeed x xs hx) (All-tail IsNoFeed y ys hy) rest in
    let tails : xs ≡ ys = cut.0 in
    (cc, cut.1)

-- a text with a line feed is not unbroken
pub broken : (xs us text : Text) → xs ++ 10 ∷ us ≡ text → IsUnbroken text → ⊥
broken [] us text e h = let e' : 10 ∷ us ≡ text = e in All-head IsNoFeed 10 us (subst IsUnbroken (sym e') h) refl
broken (x ∷ xs) us text e h = broken xs us (xs ++ 10 ∷ us) refl (All-tail IsNoFeed x (xs ++ 10 ∷ us) (subst IsUnbroken (sym e) h))
