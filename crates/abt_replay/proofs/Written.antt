-- Bytes of values that stand in others as numbers.
use Rattle.std.proofs.Common.{◌≡◌, ◌++◌, ℕ, List, [], ◌∷◌, Option, Some, None, option_map, map, refl, ap, ap₂}
use Rattle.std.specs.List.{flat_map}
use Rattle.std.proofs.lemmas.List.{length-map, reverse-reverse}
use Rattle.abt_replay.specs.Keys.{list_key, number_key, option_key}

-- the bytes of what is made of the elements
flat-map : {A B : Type 0} (key : B → List ℕ) (f : A → B) (xs : List A) → flat_map key (map f xs) ≡ flat_map (λ x. key (f x)) xs
flat-map key f [] = refl
flat-map key f (x ∷ xs) = ap (λ ys. key (f x) ++ ys) (flat-map key f xs)

-- a list of what is made of the elements is written as the list
pub list-map : {A B : Type 0} (key : B → List ℕ) (f : A → B) (xs : List A) → list_key key (map f xs) ≡ list_key (λ x. key (f x)) xs
unfolding list_key
list-map key f xs = ap₂ (λ n ys. number_key n ++ ys) (length-map xs f) (flat-map key f xs)

-- and so is an option
pub option-map : {A B : Type 0} (key : B → List ℕ) (f : A → B) (o : Option A) → option_key key (option_map f o) ≡ option_key (λ x. key (f x)) o
option-map key f None = refl
option-map key f (Some a) = refl

pub ruleset written = (list-map, option-map, reverse-reverse)
