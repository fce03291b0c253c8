-- Schedulers are placed one after the other exactly if they are apart.
use Rattle.std.proofs.Common.{◌≡◌, ◌≢◌, ◌<◌, ◌&&◌, ◌∙◌, ◌↔◌, ℕ, zero, suc, Bool, true, false, not, List, [], ◌∷◌, ◌++◌, Option, Some, None, IsTrue, ap, arith, cond, get_or, is_some, length, length-set, nat_lt, refl, replicate, set, subst, sym, get_or-set_other, get_or-set_same}
use Rattle.std.specs.Prelude.{All, AllPairs, option_and_then}
use Rattle.std.proofs.lemmas.Bool.{and_from, and_parts, lt-ltb, ltb-true, not-true, not_from_false}
use Rattle.std.proofs.lemmas.List.Elements.{All-cons}
use Rattle.std.proofs.lemmas.List.Kept.{AllPairs-cons}
use Rattle.abt_machine.specs.declared.grammar.Format.TheVariants as format
use Rattle.abt_machine.specs.Checks.{place, places}
use Rattle.abt_machine.specs.Limits.{sched_limit}

-- a relation of each pair holds of the first and each later one
pub pairs-head : {A : Type 0} (R : A → A → Type 0) (x : A) (xs : List A) → AllPairs R (x ∷ xs) → All (R x) xs
pairs-head R x xs h = λ k d within. h 0 (suc k) d (omega arith) (omega arith)

-- and of each pair of those after the first
pub pairs-tail : {A : Type 0} (R : A → A → Type 0) (x : A) (xs : List A) → AllPairs R (x ∷ xs) → AllPairs R xs
pairs-tail R x xs h = λ i j d before within. h (suc i) (suc j) d (omega arith) (omega arith)

-- schedulers of the table, apart, and none with a place
record ArePlaceable (taken : List Bool) (xs : List ℕ) : Type 0 where
  pub below : All (λ g. g < length taken) xs
  pub apart : AllPairs (λ a b. a ≢ b) xs
  pub free : All (λ g. get_or taken g false ≡ false) xs

-- schedulers that were placed are apart and had no place
placed-free : (xs : List ℕ) (taken new : List Bool) → places xs taken ≡ Some new → ArePlaceable taken xs
placed-free [] taken new e = record {
  below = λ k d within. absurd (omega arith);
  apart = λ i j d before within. absurd (omega arith);
  free = λ k d within. absurd (omega arith);
}
placed-free (g ∷ gs) taken new e = by (nat_lt g (length taken) && not (get_or taken g false)) refl (placed-free gs (set taken g true) new) e
  where
    by : (t : Bool) → (nat_lt g (length taken) && not (get_or taken g false)) ≡ t → (places gs (set taken g true) ≡ Some new → ArePlaceable (set taken g true) gs)
        → option_and_then (places gs) (cond t (Some (set taken g true)) None) ≡ Some new → ArePlaceable taken (g ∷ gs)
    by false test later h = cc
    by true test later h =
        let rest = later h in
        let parts = and_parts (nat_lt g (length taken)) (not (get_or taken g false)) test in
        let inside : g < length taken = ltb-true g (length taken) parts.0 in
        let none : get_or taken g false ≡ false = not-true (get_or taken g false) parts.1 in
        let size : length (set taken g true) ≡ length taken = length-set taken g true in
        let other : All (λ a. g ≢ a) gs = λ k d within same.
        let now : get_or (set taken g true) (get_or gs k d) false ≡ false = rest.free k d within in
        let there : get_or (set taken g true) (get_or gs k d) false ≡ true = subst (λ (a : ℕ). get_or (set taken g true) a false ≡ true) same (get_or-set_same taken g true false inside) in
        cc in
        record {
          below = All-cons (λ a. a < length taken) g gs inside (λ k d within. let b = rest.below k d within in omega arith);
          apart = AllPairs-cons (λ a b. a ≢ b) g gs other rest.apart;
          free = All-cons (λ a. get_or taken a false ≡ false) g gs none
              (λ k d within. sym (get_or-set_other taken g (get_or gs k d) true false (λ same. other k d within (sym same))) ∙ rest.free k d within);
        }

-- schedulers that are apart and have no place are placed
free-placed : (xs : List ℕ) (taken : List Bool) → ArePlaceable taken xs → is_some (places xs taken) ≡ true
free-placed [] taken h = refl
free-placed (g ∷ gs) taken h =
    let inside : g < length taken = h.below 0 0 (omega arith) in
    let none : get_or taken g false ≡ false = h.free 0 0 (omega arith) in
    let test : (nat_lt g (length taken) && not (get_or taken g false)) ≡ true = and_from (nat_lt g (length taken)) (not (get_or taken g false)) (lt-ltb g (length taken) inside) (not_from_false (get_or taken g false) none) in
    let size : length (set taken g true) ≡ length taken = length-set taken g true in
    let apart = pairs-head (λ a b. a ≢ b) g gs h.apart in
    let rest : ArePlaceable (set taken g true) gs = record {
      below = λ k d within. let b = h.below (suc k) d (omega arith) in omega arith;
      apart = pairs-tail (λ a b. a ≢ b) g gs h.apart;
      free = λ k d within. get_or-set_other taken g (get_or gs k d) true false (λ same. apart k d within (sym same)) ∙ h.free (suc k) d (omega arith);
    } in
    subst (λ (t : Bool). is_some (option_and_then (places gs) (cond t (Some (set taken g true)) None)) ≡ true) (sym test) (free-placed gs (set taken g true) rest)

-- places are taken by the first and then by the others
places-append : (xs ys : List ℕ) (taken : List Bool) → places (xs ++ ys) taken ≡ option_and_then (places ys) (places xs taken)
places-append [] ys taken = refl
places-append (g ∷ gs) ys taken = by (place g taken) (places-append gs ys)
  where
    by : (o : Option (List Bool)) → ((t : List Bool) → places (gs ++ ys) t ≡ option_and_then (places ys) (places gs t))
        → option_and_then (places (gs ++ ys)) o ≡ option_and_then (places ys) (option_and_then (places gs) o)
    by None later = refl
    by (Some t) later = later t

-- a table in which none has a place
never : (n k : ℕ) → get_or (replicate n false) k false ≡ false
never zero k = refl
never (suc n) zero = refl
never (suc n) (suc k) = never n k

-- schedulers of a table of as many as there may be, apart
abbrev pub HaveOwnPlaces : List ℕ → Type 0
HaveOwnPlaces xs = All (λ g. g < sched_limit format.Three) xs × AllPairs (λ a b. a ≢ b) xs

-- a test that says whether all were placed says whether they are apart
pub own-places : (b : Bool) (xs : List ℕ) (o : Option (List Bool)) → o ≡ places xs (replicate (sched_limit format.Three) false) → b ≡ is_some o → IsTrue b ↔ HaveOwnPlaces xs
own-places b xs None is e = (
  λ t. cc,
  λ h. absurd
      (let some = free-placed xs (replicate (sched_limit format.Three) false) (record { below = h.0; apart = h.1; free = λ k d within. never (sched_limit format.Three) (get_or xs k d) }) in
      let none : is_some (places xs (replicate (sched_limit format.Three) false)) ≡ false = ap is_some (sym is) in
      let P : ⊥ = cc in P),
)
own-places b xs (Some new) is e = (λ t. let h = placed-free xs (replicate (sched_limit format.Three) false) new (sym is) in (h.below, h.apart), λ h. e)

-- the second test decides, if the first passed
pub own-then : (m b : Bool) (t1 t2 : List Bool) (xs ys : List ℕ) → m ≡ true → cond m (Some t1) None ≡ places xs (replicate (sched_limit format.Three) false) → cond b (Some t2) None ≡ places ys t1 → IsTrue b ↔ HaveOwnPlaces (xs ++ ys)
own-then m b t1 t2 xs ys was first then =
    own-places b (xs ++ ys) (cond b (Some t2) None)
    (then ∙ ap (option_and_then (places ys)) (sym (ap (λ (t : Bool). cond t (Some t1) None) was) ∙ first) ∙ sym (places-append xs ys (replicate (sched_limit format.Three) false)))
    (by b)
  where
    by : (c : Bool) → c ≡ is_some (cond c (Some t2) None)
    by true = refl
    by false = refl

-- the first test decides, if it failed
pub own-else : (m : Bool) (t : List Bool) (xs ys : List ℕ) → m ≡ false → cond m (Some t) None ≡ places xs (replicate (sched_limit format.Three) false) → IsTrue m ↔ HaveOwnPlaces (xs ++ ys)
own-else m t xs ys was first =
    own-places m (xs ++ ys) None
    (ap (option_and_then (places ys)) (sym (ap (λ (c : Bool). cond c (Some t) None) was) ∙ first) ∙ sym (places-append xs ys (replicate (sched_limit format.Three) false)))
    was
