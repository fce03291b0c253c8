-- A key more in a set.
use Rattle.std.proofs.Common.{◌≡◌, ◌∙◌, ℕ, Bool, true, false, not, ◌||◌, List, ◌∷◌, ◌⊎◌, inl, inr, ap, refl, sym}
use Rattle.std.specs.Bool.{MatchBool, nat_eq}
use Rattle.std.specs.Cmp.Lexicographic.{pointwise}
use Rattle.std.specs.List.{list_any}
use Rattle.std.specs.List.Sorted.{IsPermutation}
use Rattle.std.proofs.lemmas.List.Sorted.{list_any-IsPermutation}
use Rattle.std.proofs.lemmas.Slice.Eq.{bytes_eq-Decides}

module _ {K : Type 0} (items : K → List ℕ) where
  -- whether the list has a key of these bytes
  abbrev pub any : List ℕ → List K → Bool
  any key ks = list_any (λ k. pointwise nat_eq key (items k)) ks

  -- what a list has once a key is added that it lacked, and else stays
  pub record Adds (k : K) (ks ls : List K) : Type 0 where
    pub added : any (items k) ls ≡ true
    pub kept : (other : List ℕ) → any other ks ≡ true → any other ls ≡ true
    pub only : (other : List ℕ) → any other ls ≡ true → (any other ks ≡ true) ⊎ (other ≡ items k)

  -- one of two tests that hold together
  first-or : (a b : Bool) → (a || b) ≡ true → (a ≡ true) ⊎ (b ≡ true)
  first-or true b h = inl refl
  first-or false b h = inr h

  -- a test that holds, behind another
  right-or : (a b : Bool) → b ≡ true → (a || b) ≡ true
  right-or true b h = refl
  right-or false b h = h

  -- a test that holds, before another
  left-or : (a b : Bool) → a ≡ true → (a || b) ≡ true
  left-or true b h = refl
  left-or false b h = cc

  -- a test that does not fail
  from-not : (b : Bool) → false ≡ not b → b ≡ true
  from-not true h = refl
  from-not false h = cc

  -- what the insertion of a key says of the list
  pub adds-by : (k : K) (ks ls : List K) (b : Bool) → b ≡ not (any (items k) ks) → MatchBool b (IsPermutation (k ∷ ks) ls) (ls ≡ ks) → Adds k ks ls
  adds-by k ks ls true new moved =
      let same : (other : List ℕ) → any other (k ∷ ks) ≡ any other ls = λ other. list_any-IsPermutation (λ x. pointwise nat_eq other (items x)) (k ∷ ks) ls moved in
      record {
        added = sym (same (items k)) ∙ left-or _ (any (items k) ks) ((bytes_eq-Decides (items k) (items k)).1 refl);
        kept = λ other h. sym (same other) ∙ right-or (pointwise nat_eq other (items k)) (any other ks) h;
        only = λ other h. elim (first-or (pointwise nat_eq other (items k)) (any other ks) (same other ∙ h)) [
          | inl here ↦ inr ((bytes_eq-Decides other (items k)).0 here)
          | inr there ↦ inl there
        ];
      }
  adds-by k ks ls false old same = record {
    added = ap (any (items k)) same ∙ from-not (any (items k) ks) old;
    kept = λ other h. ap (any other) same ∙ h;
    only = λ other h. inl (ap (any other) (sym same) ∙ h);
  }
