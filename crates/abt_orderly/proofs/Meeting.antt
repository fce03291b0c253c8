-- What is met, and who waits, after one more operation.
use Rattle.std.proofs.Common.{Vec, ◌≡◌, ◌≢◌, ℕ, ◌<◌, Bool, true, List, [], length, Option, None, Some, set, get_or, length-set, sym, ◌∙◌, ap, subst, arith, ◌⊎◌, inl, inr}
use Rattle.std.specs.declared.alloc.Global.{Global}
use Rattle.std.specs.Prelude.{Contains, MatchOption, slice_get}
use Rattle.std.proofs.lemmas.Bool.{cases_eq}
use Rattle.abt_machine.specs.declared.numbers.UnitNo.{UnitNo}
use Rattle.abt_machine.specs.declared.workload.Parts.{Parts}
use Rattle.abt_machine.specs.Numbers.{unit_no}
use Rattle.abt_laws.proofs.Options.{none≢some, some-injective}
use Rattle.abt_flow.specs.Flow.{IsReached}
use Rattle.abt_orderly.specs.declared.passing.Passing.{Passing}
use Rattle.abt_orderly.specs.declared.scanning.Standing.{Standing}
use Rattle.abt_orderly.specs.declared.scanning.Standing.TheVariants as standing
use Rattle.abt_orderly.specs.Listing.{IsMarked}
use Rattle.abt_orderly.specs.Needs.{meets_at, need_at}
use Rattle.abt_orderly.specs.Passing.{AreLists, AreMet, Halts, HasMet, MayPass, MeetsNeed, MeetsNone, Passes, Stands, Wait, done_at, items_from, one_more, waiters}
use Rattle.abt_orderly.proofs.Entries.{get-here, get-other, marked-here, marked-still, read-at, read-is, was-marked}
use Rattle.abt_orderly.proofs.Ordering.{now-done, still-met, was-done}

module _ (W : Parts) (done : List ℕ) (u : ℕ) (below : u < length done) (met : List Bool) (are : AreMet W done met) where
  -- nothing more
  pub met-same : ((i : ℕ) → IsReached W u → meets_at W u (done_at done u) ≡ Some i → ⊥) → AreMet W (one_more done u) met
  met-same none = record {
    all = are.all;
    only = λ i m. still-met W done u below i (are.only i m);
    every = λ i h. elim (was-done W done u below h.0 h.1 h.4) [
      | inl old ↦ are.every i (h.0, h.1, h.2, h.3, old)
      | inr now ↦ absurd (none i (subst (IsReached W) now.0 h.2) (subst (λ j. meets_at W u j ≡ Some i) now.1 (subst (λ v. meets_at W v h.1 ≡ Some i) now.0 h.3)))
    ];
  }

  -- one more
  module _ (reached : IsReached W u) (n : ℕ) (meets : meets_at W u (done_at done u) ≡ Some n) (there : n < length met) where
    pub met-more : AreMet W (one_more done u) (set met n true)
    met-more = record {
      all = length-set met n true ∙ are.all;
      only = λ i m. elim (cases_eq i n) [
        | inl same ↦ subst (HasMet W (one_more done u)) (sym same) (u, done_at done u, reached, meets, now-done W done u below)
        | inr other ↦ still-met W done u below i (are.only i (was-marked met n i other m))
      ];
      every = λ i h. elim (was-done W done u below h.0 h.1 h.4) [
        | inl old ↦ marked-still met n i there (are.every i (h.0, h.1, h.2, h.3, old))
        | inr now ↦ (let is : meets_at W u (done_at done u) ≡ Some i = subst (λ j. meets_at W u j ≡ Some i) now.1 (subst (λ v. meets_at W v h.1 ≡ Some i) now.0 h.3) in
            subst (IsMarked (set met n true)) (some-injective (sym meets ∙ is)) (marked-here met n there))
      ];
    }

-- Who waits for a need that is met.

module _ (W : Parts) (met : List Bool) (waiting : List (Vec UnitNo Global)) (n : ℕ) (there : n < length met) (us : Vec UnitNo Global) (cleared : us.items ≡ []) where
  pub wait-more : Wait W met waiting → Wait W (set met n true) (set waiting n us)
  wait-more wait v k i need not =
      let other : i ≢ n = λ same. not (subst (IsMarked (set met n true)) (sym same) (marked-here met n there)) in
      let has : Contains (waiters waiting i) (unit_no v) = wait v k i need (λ m. not (marked-still met n i there m)) in
      subst (λ o. Contains (items_from o) (unit_no v)) (sym (get-other waiting n i us other)) has

  pub lists-more : n < length waiting → AreLists W waiting → AreLists W (set waiting n us)
  lists-more inside lists = record {
    all = length-set waiting n us ∙ lists.all;
    declared = λ i v has. elim (cases_eq i n) [
      | inl same ↦ (let h : Contains (waiters (set waiting n us) n) v = subst (λ j. Contains (waiters (set waiting n us) j) v) same has in
          let e : Contains us.items v = subst (λ o. Contains (items_from o) v) (get-here waiting n us inside) h in
          let z : Contains [] v = subst (λ (zs : List UnitNo). Contains zs v) cleared e in
          let l = z.1 in absurd (omega arith))
      | inr other ↦ lists.declared i v (subst (λ o. Contains (items_from o) v) (get-other waiting n i us other) has)
    ];
  }

-- an operation that can't be done can't be done, or needs what is met now
pub halts-cases : (W : Parts) (met : List Bool) (n v k : ℕ) (s : Standing) → Halts W met v k s → Halts W (set met n true) v k s ⊎ ((need_at W v k ≡ Some n) × (IsMarked met n → ⊥))
halts-cases W met n v k s (inl over) = inl (inl over)
halts-cases W met n v k s (inr (inl unborn)) = inl (inr (inl unborn))
halts-cases W met n v k s (inr (inr (i, need, not))) =
    elim (cases_eq i n) [
      | inl same ↦ inr (subst (λ j. need_at W v k ≡ Some j) same need, subst (λ j. IsMarked met j → ⊥) same not)
      | inr other ↦ inl (inr (inr (i, need, λ m. not (was-marked met n i other m))))
    ]

-- what an operation of a reached unit meets is what it meets
pub meets-option : (W : Parts) (p : Passing) (u : ℕ) → IsReached W u → (o : Option ℕ) → o ≡ meets_at W u (done_at p.done.items u) → MatchOption o (MeetsNone W p u) (MeetsNeed W p u)
meets-option W p u reached None e = λ i r is. none≢some (e ∙ is)
meets-option W p u reached (Some i) e = (reached, sym e)

-- a unit that stands anywhere but among the reached isn't reached
pub not-reached : (W : Parts) (p : Passing) (u : ℕ) → u < length p.standing.items → Passes W p → MayPass W p u → (s : Standing) → s ≡ get_or p.standing.items u s →
    (s ≡ standing.Unborn) ⊎ (s ≡ standing.Unreached) → IsReached W u → ⊥
not-reached W p u l passes may s at (inl unborn) reached = absurd (may.born (read-is p.standing.items u s standing.Unborn l at ∙ unborn))
not-reached W p u l passes may s at (inr unreached) reached =
    let is : slice_get p.standing.items u ≡ Some standing.Unreached = read-at p.standing.items u s l at ∙ ap (λ x. Some x) unreached in
    let stands : Stands W p.done.items u standing.Unreached = passes.standing.each u standing.Unreached is in
    stands.1 reached
