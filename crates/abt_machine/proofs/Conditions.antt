-- One object more is seen, and the conditions stay counted.
use Rattle.std.proofs.Common.{◌≡◌, ◌≢◌, ◌<◌, ◌≤◌, ◌+◌, ◌∙◌, ◌⊎◌, ℕ, false, true, List, Some, ap, arith, get_or, inl, inr, length, length-set, nat_eq, refl, set, slice_get, sym, take, get_or-set_other, get_or-set_same}
use Rattle.std.specs.Prelude.{count_by}
use Rattle.std.proofs.lemmas.Bool.{eq-eqb, ne_eqb}
use Rattle.std.proofs.lemmas.Bool.Decides.{eqb_tells}
use Rattle.std.proofs.lemmas.List.{length-take-le}
use Rattle.std.proofs.lemmas.List.Sums.{count_by-le-length, count_by_more_no, count_by_more_yes}
use Rattle.std.proofs.lemmas.Option.{get_or_from_slice_get, slice_get_within}
use Rattle.abt_machine.specs.declared.numbers.ObjectNo.{ObjectNo}
use Rattle.abt_machine.specs.declared.operations.Thing.{Thing}
use Rattle.abt_machine.specs.declared.operations.Thing.TheVariants as thing
use Rattle.abt_machine.specs.Counting.{AreCounted}
use Rattle.abt_machine.specs.Valid.{IsThing}
use Rattle.abt_machine.specs.Workloads.{is_condition_of}

module _ (things : List Thing) (n : ℕ) (counts : List ℕ) (old : AreCounted things n counts) where
  -- object n is no condition
  pub none-counted : (t : Thing) → slice_get things n ≡ Some t → ((m : ObjectNo) → t ≢ thing.Cond m) → AreCounted things (n + 1) counts
  none-counted t is other = record {
    each = old.each;
    mutexes = λ x mutex. old.mutexes x mutex ∙ sym (count_by_more_no (is_condition_of x) things n t (slice_get_within things n t is) (ap (is_condition_of x) (get_or_from_slice_get things n t t is) ∙ no-condition x t other));
    conditions = λ x m below condition. by x m below condition (eqb_tells x n);
  } where
    no-condition : (x : ℕ) (t : Thing) → ((m : ObjectNo) → t ≢ thing.Cond m) → is_condition_of x t ≡ false
    no-condition x thing.Mutex other = refl
    no-condition x (thing.Cond m) other = absurd (other m refl)
    no-condition x thing.Eventual other = refl
    no-condition x (thing.Future k c) other = refl
    no-condition x (thing.Barrier k) other = refl
    no-condition x thing.RwLock other = refl

    by : (x : ℕ) (m : ObjectNo) → x < n + 1 → slice_get things x ≡ Some (thing.Cond m) → ((nat_eq x n ≡ true) × (x ≡ n)) ⊎ ((nat_eq x n ≡ false) × (x ≢ n))
        → get_or counts x 0 ≡ count_by (is_condition_of m.0) (take x things)
    by x m below condition (inl same) = let h : Some t ≡ Some (thing.Cond m) = sym is ∙ ap (slice_get things) (sym same.1) ∙ condition in absurd (other m cc)
    by x m below condition (inr apart) = old.conditions x m (omega (arith, apart.1)) condition

  -- object n is a condition
  module _ (valid : (x : ℕ) (t : Thing) → slice_get things x ≡ Some t → IsThing things x t) (m : ObjectNo) (is : slice_get things n ≡ Some (thing.Cond m)) where
    within : n < length counts
    within = let w = slice_get_within things n (thing.Cond m) is in let e = old.each in omega arith

    mutex-before : m.0 < n
    mutex-before = (valid n (thing.Cond m) is).0

    pub mutex-within : m.0 < length counts
    mutex-within = let w = within in let b = mutex-before in omega arith

    counted-there : get_or counts m.0 0 ≡ count_by (is_condition_of m.0) (take n things)
    counted-there = old.mutexes m.0 (valid n (thing.Cond m) is).1

    pub few-counted : length things ≤ 65536 → get_or counts m.0 0 + 1 < 4294967296
    few-counted few =
        let most : count_by (is_condition_of m.0) (take n things) ≤ length (take n things) = count_by-le-length (is_condition_of m.0) (take n things) in
        let taken : length (take n things) ≡ n = length-take-le n things (let w = slice_get_within things n (thing.Cond m) is in omega arith) in
        let w : n < length things = slice_get_within things n (thing.Cond m) is in
        let there = counted-there in
        omega arith

    here : get_or things n (thing.Cond m) ≡ thing.Cond m
    here = get_or_from_slice_get things n (thing.Cond m) (thing.Cond m) is

    pub one-counted : AreCounted things (n + 1) (set (set counts n (get_or counts m.0 0)) m.0 (get_or counts m.0 0 + 1))
    one-counted =
        record {
          each = length-set kept m.0 (v + 1) ∙ length-set counts n v ∙ old.each;
          mutexes = λ x mutex. mutexes x mutex (eqb_tells x m.0);
          conditions = λ x k below condition. conditions x k below condition (eqb_tells x n);
        } where
          v : ℕ
          v = get_or counts m.0 0

          kept : List ℕ
          kept = set counts n v

          new : List ℕ
          new = set kept m.0 (v + 1)

          inside : n < length things
          inside = slice_get_within things n (thing.Cond m) is

          in-kept : m.0 < length kept
          in-kept = let size : length kept ≡ length counts = length-set counts n v in let w = mutex-within in omega arith

          mutexes : (x : ℕ) → slice_get things x ≡ Some thing.Mutex → ((nat_eq x m.0 ≡ true) × (x ≡ m.0)) ⊎ ((nat_eq x m.0 ≡ false) × (x ≢ m.0))
              → get_or new x 0 ≡ count_by (is_condition_of x) (take (n + 1) things)
          mutexes x mutex (inl same) =
              let there : get_or new x 0 ≡ v + 1 = ap (λ (y : ℕ). get_or new y 0) same.1 ∙ get_or-set_same kept m.0 (v + 1) 0 in-kept in
              let before : v ≡ count_by (is_condition_of x) (take n things) = ap (λ (y : ℕ). get_or counts y 0) (sym same.1) ∙ old.mutexes x mutex in
              there ∙ ap (λ (k : ℕ). k + 1) before ∙ sym (count_by_more_yes (is_condition_of x) things n (thing.Cond m) inside (ap (is_condition_of x) here ∙ eq-eqb m.0 x (sym same.1)))
          mutexes x mutex (inr apart) =
              let other : x ≢ n = λ e. let h : Some thing.Mutex ≡ Some (thing.Cond m) = sym mutex ∙ ap (slice_get things) e ∙ is in cc in
              get_or-set_other kept m.0 x (v + 1) 0 apart.1 ∙ get_or-set_other counts n x v 0 other ∙ old.mutexes x mutex
              ∙ sym (count_by_more_no (is_condition_of x) things n (thing.Cond m) inside (ap (is_condition_of x) here ∙ ne_eqb m.0 x (λ e. apart.1 (sym e))))

          conditions : (x : ℕ) (k : ObjectNo) → x < n + 1 → slice_get things x ≡ Some (thing.Cond k) → ((nat_eq x n ≡ true) × (x ≡ n)) ⊎ ((nat_eq x n ≡ false) × (x ≢ n))
              → get_or new x 0 ≡ count_by (is_condition_of k.0) (take x things)
          conditions x k below condition (inl same) =
              let other : x ≢ m.0 = λ e. let b = mutex-before in absurd (omega (arith, same.1, e)) in
              let h : Some (thing.Cond m) ≡ Some (thing.Cond k) = sym is ∙ ap (slice_get things) (sym same.1) ∙ condition in
              let one : m ≡ k = cc in
              get_or-set_other kept m.0 x (v + 1) 0 other ∙ ap (λ (y : ℕ). get_or kept y 0) same.1 ∙ get_or-set_same counts n v 0 within ∙ counted-there
              ∙ ap (λ (o : ObjectNo). count_by (is_condition_of o.0) (take n things)) one ∙ ap (λ (y : ℕ). count_by (is_condition_of k.0) (take y things)) (sym same.1)
          conditions x k below condition (inr apart) =
              let other : x ≢ m.0 = λ e. let h : Some (thing.Cond k) ≡ Some thing.Mutex = sym condition ∙ ap (slice_get things) e ∙ (valid n (thing.Cond m) is).1 in cc in
              get_or-set_other kept m.0 x (v + 1) 0 other ∙ get_or-set_other counts n x v 0 apart.1 ∙ old.conditions x k (omega (arith, apart.1)) condition
