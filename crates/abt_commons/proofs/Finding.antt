-- The first row of a unit.
use Rattle.std.proofs.Common.{◌≡◌, Bool, true, false, List, [], ◌∷◌, map, Some, None, refl, sym, subst, arith}
use Rattle.std.specs.Prelude.{Contains, cond, option_map}
use Rattle.std.specs.List.{All, find}
use Rattle.std.proofs.lemmas.List.Elements.{All-nil, All-cons, Contains-get_or, Contains-append_right}
use Rattle.abt_laws.proofs.Options.{none≢some, some-injective}

module _ {A : Type 0} (p : A → Bool) where
  some-by : (b : Bool) (y x : A) (ys : List A) → p y ≡ b → cond b (Some y) (find p ys) ≡ Some x → (find p ys ≡ Some x → Contains ys x × (p x ≡ true)) → Contains (y ∷ ys) x × (p x ≡ true)
  some-by true y x ys t e later =
      let is : y ≡ x = some-injective e in
      (subst (Contains (y ∷ ys)) is (Contains-get_or (y ∷ ys) 0 y (omega arith)), subst (λ z. p z ≡ true) is t)
  some-by false y x ys f e later = let r = later e in (Contains-append_right (y ∷ []) ys x r.0, r.1)

  pub find-some : (xs : List A) (x : A) → find p xs ≡ Some x → Contains xs x × (p x ≡ true)
  find-some [] x e = absurd (none≢some e)
  find-some (y ∷ ys) x e = some-by (p y) y x ys refl e (find-some ys x)

  none-by : (b : Bool) (y : A) (ys : List A) → p y ≡ b → cond b (Some y) (find p ys) ≡ None → (find p ys ≡ None → All (λ x. p x ≡ false) ys) → All (λ x. p x ≡ false) (y ∷ ys)
  none-by true y ys t e later = absurd (none≢some (sym e))
  none-by false y ys f e later = All-cons (λ x. p x ≡ false) y ys f (later e)

  pub find-none : (xs : List A) → find p xs ≡ None → All (λ x. p x ≡ false) xs
  find-none [] e = All-nil (λ x. p x ≡ false)
  find-none (y ∷ ys) e = none-by (p y) y ys refl e (find-none ys)

pub find-map : {A B : Type 0} (p : B → Bool) (f : A → B) (xs : List A) → find p (map f xs) ≡ option_map f (find (λ x. p (f x)) xs)
find-map p f [] = refl
find-map p f (x ∷ xs) = by (p (f x)) (find-map p f xs) where
  by : (b : Bool) → find p (map f xs) ≡ option_map f (find (λ x. p (f x)) xs)
      → cond b (Some (f x)) (find p (map f xs)) ≡ option_map f (cond b (Some x) (find (λ x. p (f x)) xs))
  by true e = refl
  by false e = e
