-- Finding a unit in a chain, and leaving it out.
use Rattle.std.proofs.Common.{◌≡◌, ◌∙◌, ℕ, List, [], ◌∷◌, ◌++◌, Bool, true, false, Option, None, Some, cond, reverse, refl, sym, ap, rules}
use Rattle.std.proofs.lemmas.List.{reverse-append, reverse-reverse, append-nil}
use Rattle.std.proofs.lemmas.List.Folds.{find-append}
use Rattle.std.proofs.lemmas.Grind.{common_steps, reverse_onto}
use Rattle.std.specs.List.{find}
use Rattle.std.specs.Option.{option_or}
use Rattle.abt_machine.specs.Pools.{is_unit, without}
use Rattle.abt_machine.specs.Values.{Owned}

-- a list turned over twice is that list
pub mirrored : (xs ys : List Owned) → ys ≡ reverse xs ++ [] → xs ≡ reverse ys
mirrored xs ys h = sym (reverse-reverse xs) ∙ ap reverse (sym (append-nil (reverse xs)) ∙ sym h)

front-by : (b : Bool) (x o : Owned) (f : Option Owned) (xs ys w v : List Owned) → cond b (Some x) f ≡ Some o → (f ≡ Some o → w ≡ v ++ ys) → cond b (xs ++ ys) (x ∷ w) ≡ cond b xs (x ∷ v) ++ ys
front-by true x o f xs ys w v e go = refl
front-by false x o f xs ys w v e go = ap (λ zs. x ∷ zs) (go e)

-- a unit that the first list has is left out of that list
pub without-front : (u : ℕ) (xs ys : List Owned) (o : Owned) → find (is_unit u) xs ≡ Some o → without u (xs ++ ys) ≡ without u xs ++ ys
without-front u [] ys o e = grind rules
without-front u (x ∷ xs) ys o e = front-by (is_unit u x) x o _ xs ys _ _ e (without-front u xs ys o)

back-by : (b : Bool) (x : Owned) (f : Option Owned) (xs ys w v : List Owned) → cond b (Some x) f ≡ None → (f ≡ None → w ≡ xs ++ v) → cond b (xs ++ ys) (x ∷ w) ≡ x ∷ xs ++ v
back-by true x f xs ys w v e go = grind rules
back-by false x f xs ys w v e go = ap (λ zs. x ∷ zs) (go e)

-- a unit that the first list lacks is left out of the second
pub without-back : (u : ℕ) (xs ys : List Owned) → find (is_unit u) xs ≡ None → without u (xs ++ ys) ≡ xs ++ without u ys
without-back u [] ys e = refl
without-back u (x ∷ xs) ys e = back-by (is_unit u x) x _ xs ys _ _ e (without-back u xs ys)

absent-by : (b : Bool) (x : Owned) (f : Option Owned) (xs w : List Owned) → cond b (Some x) f ≡ None → (f ≡ None → w ≡ xs) → cond b xs (x ∷ w) ≡ x ∷ xs
absent-by true x f xs w e go = grind rules
absent-by false x f xs w e go = ap (λ zs. x ∷ zs) (go e)

-- a list that lacks a unit is that list without it
pub without-absent : (u : ℕ) (xs : List Owned) → find (is_unit u) xs ≡ None → without u xs ≡ xs
without-absent u [] e = refl
without-absent u (x ∷ xs) e = absent-by (is_unit u x) x _ xs _ e (without-absent u xs)

option-or-assoc : {A : Type 0} (a b c : Option A) → option_or (option_or a b) c ≡ option_or a (option_or b c)
option-or-assoc None b c = refl
option-or-assoc (Some x) b c = refl

option-or-one : (b : Bool) (x : Owned) (c : Option Owned) → option_or (cond b (Some x) None) c ≡ cond b (Some x) c
option-or-one true x c = refl
option-or-one false x c = refl

-- of a list that is read backwards, the first that passes is among the others, else its own first, else what is found behind it
pub found-before : (u : ℕ) (x : Owned) (xs : List Owned) (c : Option Owned) → option_or (find (is_unit u) (reverse (x ∷ xs))) c ≡ option_or (find (is_unit u) (reverse xs)) (cond (is_unit u x) (Some x) c)
found-before u x xs c =
    ap (λ o. option_or o c) (ap (find (is_unit u)) (reverse-append (x ∷ []) xs) ∙ find-append (is_unit u) (reverse xs) (x ∷ []))
    ∙ option-or-assoc (find (is_unit u) (reverse xs)) _ c
    ∙ ap (option_or (find (is_unit u) (reverse xs))) (option-or-one (is_unit u x) x c)

pub ruleset leaving = (common_steps, reverse_onto, find-append, without-front, without-back, without-absent, found-before)
