-- The pools that the main scheduler of a stream lists.
use Rattle.std.proofs.Common.{◌≡◌, ℕ, zero, suc, ◌+◌, ◌<◌, ◌≤◌, Bool, true, List, [], ◌∷◌, length, map, Some, set, length-set, sym, ◌∙◌, ap, subst, arith, inl, inr}
use Rattle.std.specs.Prelude.{Contains, slice_get}
use Rattle.std.proofs.lemmas.Bool.{cases_eq}
use Rattle.std.proofs.lemmas.Option.{slice_get-get_or, slice_get_within}
use Rattle.abt_machine.specs.declared.numbers.PoolNo.{PoolNo}
use Rattle.abt_machine.specs.declared.numbers.SchedNo.{SchedNo}
use Rattle.abt_machine.specs.declared.workload.Parts.{Parts}
use Rattle.abt_machine.specs.declared.workload.SchedPart.{SchedPart}
use Rattle.abt_machine.specs.Valid.{IsValid}
use Rattle.abt_machine.proofs.Declared.{listed-declared}
use Rattle.abt_machine.specs.Workloads.{main_from, main_of, pools_from, pools_of}
use Rattle.abt_laws.proofs.Options.{none≢some, some-injective}
use Rattle.abt_flow.specs.Finishing.{IsListed}
use Rattle.abt_flow.proofs.Outputs.{get-map}
use Rattle.abt_orderly.specs.Listing.{AreListed, HasListed, IsMarked}
use Rattle.abt_orderly.proofs.Entries.{marked-here, marked-still, was-marked}

pub listed-in : (W : Parts) (s : ℕ) (g : SchedNo) (part : SchedPart) → slice_get W.mains s ≡ Some g → slice_get W.scheds g.0 ≡ Some part → pools_of W (main_of W s) ≡ map (λ (p : PoolNo). p.0) part.pools
listed-in W s g part main sched = ap (λ o. pools_of W (main_from o)) main ∙ ap pools_from sched

at-contains : (ps : List PoolNo) (k : ℕ) (p : PoolNo) → slice_get ps k ≡ Some p → Contains (map (λ (q : PoolNo). q.0) ps) p.0
at-contains [] k p e = absurd (none≢some e)
at-contains (q ∷ ps) zero p e = (0, omega arith, ap (λ (r : PoolNo). r.0) (some-injective e))
at-contains (q ∷ ps) (suc k) p e = let h = at-contains ps k p e in (suc h.0, (let l = h.1 in omega arith), h.2)

module _ (W : Parts) (s : ℕ) (stream : s < W.streams) (pools : List PoolNo) (is : pools_of W (main_of W s) ≡ map (λ (p : PoolNo). p.0) pools) (listed : List Bool) (has : HasListed W s listed) where
  contained : (k : ℕ) (p : PoolNo) → slice_get pools k ≡ Some p → Contains (pools_of W (main_of W s)) p.0
  contained k p at = subst (λ (ns : List ℕ). Contains ns p.0) (sym is) (at-contains pools k p at)

  pub listed-below : IsValid W → (k : ℕ) (p : PoolNo) → slice_get pools k ≡ Some p → p.0 < length listed
  listed-below valid k p at =
      let c : Contains (pools_of W (main_of W s)) p.0 = contained k p at in
      let l : p.0 < length W.pools = subst (λ n. n < length W.pools) c.2 (listed-declared W (main_of W s) valid c.0 p.0 c.1) in
      let e = has.all in omega arith

  -- one more pool
  module _ (k : ℕ) (p : PoolNo) (at : slice_get pools k ≡ Some p) (below : p.0 < length listed) where
    is-listed : IsListed W p.0
    is-listed = (s, stream, contained k p at)

    pub one-listed : HasListed W s (set listed p.0 true)
    one-listed = record {
      all = length-set listed p.0 true ∙ has.all;
      only = λ q m. elim (cases_eq q p.0) [ inl same ↦ subst (IsListed W) (sym same) is-listed | inr other ↦ has.only q (was-marked listed p.0 q other m) ];
      every = λ r q l c. marked-still listed p.0 q below (has.every r q l c);
    }

    pub one-marked : ((i : ℕ) (q : PoolNo) → i < k → slice_get pools i ≡ Some q → IsMarked listed q.0) → (i : ℕ) (q : PoolNo) → i < k + 1 → slice_get pools i ≡ Some q → IsMarked (set listed p.0 true) q.0
    one-marked more i q l e =
        elim (cases_eq i k) [
          | inl same ↦ subst (λ (r : PoolNo). IsMarked (set listed p.0 true) r.0) (some-injective (sym at ∙ subst (λ j. slice_get pools j ≡ Some q) same e)) (marked-here listed p.0 below)
          | inr other ↦ marked-still listed p.0 q.0 below (more i q (omega arith) e)
        ]

  -- all of them
  pub all-listed : (k : ℕ) → length pools ≤ k → ((i : ℕ) (q : PoolNo) → i < k → slice_get pools i ≡ Some q → IsMarked listed q.0) → HasListed W (s + 1) listed
  all-listed k over more = record {
    all = has.all;
    only = has.only;
    every = λ r q l c. elim (cases_eq r s) [
      | inl same ↦ (let m : Contains (map (λ (p : PoolNo). p.0) pools) q = subst (λ (ns : List ℕ). Contains ns q) is (subst (λ n. Contains (pools_of W (main_of W n)) q) same c) in in-all k over more q m)
      | inr other ↦ has.every r q (omega arith) c
    ];
  } where
    in-all : (k : ℕ) → length pools ≤ k → ((i : ℕ) (q : PoolNo) → i < k → slice_get pools i ≡ Some q → IsMarked listed q.0) → (q : ℕ) → Contains (map (λ (p : PoolNo). p.0) pools) q → IsMarked listed q
    in-all k over more q m =
        let f : (p : PoolNo) × (slice_get pools m.0 ≡ Some p) × (p.0 ≡ q) = get-map (λ (p : PoolNo). p.0) pools m.0 q (slice_get-get_or (map (λ (p : PoolNo). p.0) pools) m.0 q m.1 ∙ ap (λ n. Some n) m.2) in
        let l : m.0 < length pools = slice_get_within pools m.0 f.0 f.1 in
        subst (IsMarked listed) f.2 (more m.0 f.0 (omega arith) f.1)

pub streams-listed : (W : Parts) (n : ℕ) (listed : List Bool) → W.streams ≤ n → HasListed W n listed → AreListed W listed
streams-listed W n listed over has = record { all = has.all; only = has.only; every = λ p is. (let l = is.1 in has.every is.0 p (omega arith) is.2) }
