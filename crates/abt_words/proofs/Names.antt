-- Tests of names.
use Rattle.std.proofs.Common.{◌≡◌, ◌∙◌, Bool, true, false, true≢false, refl, sym}
use Rattle.std.specs.Str.{bytes_eq}
use Rattle.std.proofs.lemmas.Slice.Eq.{bytes_eq-Decides}
use Rattle.abt_machine.specs.Words.{Text}

pub same-name : (a b : Text) → bytes_eq a b ≡ true → a ≡ b
same-name a b e = (bytes_eq-Decides a b).0 e

pub name-itself : (a : Text) → bytes_eq a a ≡ true
name-itself a = (bytes_eq-Decides a a).1 refl

pub no-name : (a b : Text) → (a ≡ b → ⊥) → bytes_eq a b ≡ false
no-name a b h = by (bytes_eq a b) refl
  where
    by : (t : Bool) → bytes_eq a b ≡ t → t ≡ false
    by true e = absurd (h (same-name a b e))
    by false e = refl

pub not-same : (a b : Text) → bytes_eq a b ≡ false → a ≡ b → ⊥
not-same a b differs same = true≢false (sym ((bytes_eq-Decides a b).1 same) ∙ differs)

pub either-way : (a b : Text) → bytes_eq a b ≡ false → bytes_eq b a ≡ false
either-way a b differs = no-name b a (λ same. not-same a b differs (sym same))
