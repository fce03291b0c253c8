-- Who waits for each need, as it is found operation by operation.
use Rattle.std.proofs.Common.{Vec, ◌≡◌, ◌≢◌, ℕ, ◌+◌, ◌<◌, ◌≤◌, List, [], ◌∷◌, ◌++◌, length, Option, Some, None, set, length-set, sym, ◌∙◌, subst, arith, inl, inr, refl}
use Rattle.std.specs.declared.alloc.Global.{Global}
use Rattle.std.specs.Prelude.{Contains, slice_get}
use Rattle.std.proofs.lemmas.Bool.{cases_eq}
use Rattle.std.proofs.lemmas.List.Elements.{Contains-append_left, Contains-push, Contains-push_cases}
use Rattle.std.proofs.lemmas.Option.{slice_get_within}
use Rattle.abt_machine.specs.declared.numbers.UnitNo.{UnitNo}
use Rattle.abt_machine.specs.declared.workload.Parts.{Parts}
use Rattle.abt_machine.specs.Numbers.{unit_no}
use Rattle.abt_laws.proofs.Options.{none≢some, some-injective}
use Rattle.abt_flow.specs.Finishing.{op_count}
use Rattle.abt_orderly.specs.Needs.{need_at, needs_in}
use Rattle.abt_orderly.specs.Passing.{items_from, waiters}
use Rattle.abt_orderly.specs.Scanning.{HasUnits, HasWaited, HasWaitedAll}
use Rattle.abt_orderly.proofs.Before.{before-cases, before-on, none-before}
use Rattle.abt_orderly.proofs.Entries.{get-here, get-other}
use Rattle.abt_orderly.proofs.Needing.{need-there}

-- Before any operation.

empty-from : (o : Option (Vec UnitNo Global)) (u : UnitNo) → ((us : Vec UnitNo Global) → o ≡ Some us → us.items ≡ []) → Contains (items_from o) u → ⊥
empty-from None u empty has = let l = has.1 in absurd (omega arith)
empty-from (Some us) u empty has = let none : Contains [] u = subst (λ (zs : List UnitNo). Contains zs u) (empty us refl) has in let l = none.1 in absurd (omega arith)

pub begin-waiting : (W : Parts) (waiting : List (Vec UnitNo Global)) → length waiting ≡ needs_in W → ((i : ℕ) (us : Vec UnitNo Global) → slice_get waiting i ≡ Some us → us.items ≡ []) →
    HasWaited W 0 0 waiting
begin-waiting W waiting all empty = record {
  lists = record { all = all; declared = λ i u has. absurd (empty-from (slice_get waiting i) u (empty i) has) };
  waits = λ v j i prior need. absurd (none-before v j prior);
}

-- From operation to operation.

module _ (W : Parts) (u : UnitNo) (k : ℕ) (waiting : List (Vec UnitNo Global)) (has : HasWaited W u.0 k waiting) where
  pub wait-none : need_at W u.0 k ≡ None → HasWaited W u.0 (k + 1) waiting
  wait-none none = record {
    lists = has.lists;
    waits = λ v j i prior need. elim (before-cases v j u.0 k prior) [
      | inl before ↦ has.waits v j i before need
      | inr now ↦ absurd (none≢some (sym none ∙ subst (λ n. need_at W u.0 n ≡ Some i) now.1 (subst (λ n. need_at W n j ≡ Some i) now.0 need)))
    ];
  }

  module _ (n : ℕ) (is : need_at W u.0 k ≡ Some n) (declared : u.0 < length W.units) (us vs : Vec UnitNo Global) (at : slice_get waiting n ≡ Some us) (more : vs.items ≡ us.items ++ u ∷ []) where
    abbrev new : List (Vec UnitNo Global)
    new = set waiting n vs

    here : waiters new n ≡ us.items ++ u ∷ []
    here = subst (λ o. items_from o ≡ us.items ++ u ∷ []) (sym (get-here waiting n vs (slice_get_within waiting n us at))) more

    there : (i : ℕ) → i ≢ n → waiters new i ≡ waiters waiting i
    there i other = subst (λ o. items_from o ≡ waiters waiting i) (sym (get-other waiting n i vs other)) refl

    was : waiters waiting n ≡ us.items
    was = subst (λ o. items_from o ≡ us.items) (sym at) refl

    in-here : (v : UnitNo) → Contains (waiters new n) v → v.0 < length W.units
    in-here v h =
        elim (Contains-push_cases us.items u v (subst (λ (zs : List UnitNo). Contains zs v) here h)) [
          | inl old ↦ has.lists.declared n v (subst (λ (zs : List UnitNo). Contains zs v) (sym was) old)
          | inr same ↦ subst (λ (w : UnitNo). w.0 < length W.units) same declared
        ]

    still-here : (v : UnitNo) → Contains (waiters waiting n) v → Contains (waiters new n) v
    still-here v h = subst (λ (zs : List UnitNo). Contains zs v) (sym here) (Contains-append_left us.items (u ∷ []) v (subst (λ (zs : List UnitNo). Contains zs v) was h))

    still : (i : ℕ) (v : UnitNo) → Contains (waiters waiting i) v → Contains (waiters new i) v
    still i v h =
        elim (cases_eq i n) [
          | inl same ↦ subst (λ j. Contains (waiters new j) v) (sym same) (still-here v (subst (λ j. Contains (waiters waiting j) v) same h))
          | inr other ↦ subst (λ (zs : List UnitNo). Contains zs v) (sym (there i other)) h
        ]

    now-here : (v j i : ℕ) → v ≡ u.0 → j ≡ k → need_at W v j ≡ Some i → Contains (waiters new i) (unit_no v)
    now-here v j i e f need =
        let same : n ≡ i = some-injective (sym is ∙ subst (λ m. need_at W u.0 m ≡ Some i) f (subst (λ m. need_at W m j ≡ Some i) e need)) in
        subst (λ m. Contains (waiters new i) (unit_no m)) (sym e)
        (subst (λ m. Contains (waiters new m) u) same (subst (λ (zs : List UnitNo). Contains zs u) (sym here) (Contains-push us.items u)))

    pub wait-some : HasWaited W u.0 (k + 1) new
    wait-some = record {
      lists = record {
        all = length-set waiting n vs ∙ has.lists.all;
        declared = λ i v h. elim (cases_eq i n) [
          | inl same ↦ in-here v (subst (λ j. Contains (waiters new j) v) same h)
          | inr other ↦ has.lists.declared i v (subst (λ (zs : List UnitNo). Contains zs v) (there i other) h)
        ];
      };
      waits = λ v j i prior need. elim (before-cases v j u.0 k prior) [
        | inl before ↦ still i (unit_no v) (has.waits v j i before need)
        | inr now ↦ now-here v j i now.0 now.1 need
      ];
    }

  pub wait-next : op_count W u.0 ≤ k → HasWaited W (u.0 + 1) 0 waiting
  wait-next over = record { lists = has.lists; waits = λ v j i prior need. has.waits v j i (before-on (op_count W) v j u.0 k over (need-there W v j i need).1 prior) need }

pub wait-all : (W : Parts) (n : ℕ) (waiting : List (Vec UnitNo Global)) → length W.units ≤ n → HasWaited W n 0 waiting → HasWaitedAll W waiting
wait-all W n waiting over has = record {
  lists = has.lists;
  waits = λ v j i need. (let l : v < length W.units = (need-there W v j i need).0 in has.waits v j i (inl (omega arith)) need);
}

-- All units.

pub more-units : (n : ℕ) (us new : List UnitNo) → new ≡ us ++ unit_no n ∷ [] → HasUnits n us → HasUnits (n + 1) new
more-units n us new more has = record {
  only = λ u h. elim (Contains-push_cases us (unit_no n) u (subst (λ (zs : List UnitNo). Contains zs u) more h)) [
    | inl old ↦ (let l : u.0 < n = has.only u old in omega arith)
    | inr same ↦ subst (λ (v : UnitNo). v.0 < n + 1) same (omega arith)
  ];
  every = λ u l. subst (λ (zs : List UnitNo). Contains zs (unit_no u)) (sym more) (elim (cases_eq u n) [
    | inl same ↦ subst (λ m. Contains (us ++ unit_no n ∷ []) (unit_no m)) (sym same) (Contains-push us (unit_no n))
    | inr other ↦ Contains-append_left us (unit_no n ∷ []) (unit_no u) (has.every u (omega arith))
  ]);
}
