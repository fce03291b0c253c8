-- Where units stand, after one more operation.
use Rattle.std.proofs.Common.{◌≡◌, ◌≢◌, ℕ, ◌<◌, List, length, Some, None, set, length-set, refl, sym, ◌∙◌, ap, subst, inl, inr}
use Rattle.std.specs.Prelude.{slice_get}
use Rattle.std.proofs.lemmas.Bool.{cases_eq}
use Rattle.abt_machine.specs.declared.numbers.PoolNo.{PoolNo}
use Rattle.abt_machine.specs.declared.numbers.UnitNo.{UnitNo}
use Rattle.abt_machine.specs.declared.operations.Op.TheVariants as op
use Rattle.abt_machine.specs.declared.workload.Parts.{Parts}
use Rattle.abt_machine.specs.Numbers.{unit_no}
use Rattle.abt_machine.specs.Workloads.{op_at}
use Rattle.abt_laws.proofs.Options.{none≢some, some-injective}
use Rattle.abt_flow.specs.Confluent.{Confluent}
use Rattle.abt_flow.specs.Flow.{Created, IsReached, Starts}
use Rattle.abt_orderly.specs.declared.scanning.Standing.{Standing}
use Rattle.abt_orderly.specs.declared.scanning.Standing.TheVariants as standing
use Rattle.abt_orderly.specs.Needs.{creates_at}
use Rattle.abt_orderly.specs.Passing.{AreStanding, IsBorn, IsDone, Stands, done_at, one_more}
use Rattle.abt_orderly.proofs.Entries.{get-here, get-other}
use Rattle.abt_orderly.proofs.Needing.{create-of, creates-once}
use Rattle.abt_orderly.proofs.Ordering.{now-done, still-done, was-done}

-- a unit that stands anywhere but unborn is born
pub stands-born : (W : Parts) (done : List ℕ) (u : ℕ) (s : Standing) → s ≢ standing.Unborn → Stands W done u s → IsBorn W done u
stands-born W done u standing.Unborn not h = absurd (not refl)
stands-born W done u standing.Reached not h = h.0
stands-born W done u standing.Unreached not h = h.0

module _ (W : Parts) (done : List ℕ) (u : ℕ) (below : u < length done) where
  -- a unit that the operation does not create
  stands-other : (t : ℕ) (s : Standing) → (creates_at W u (done_at done u) ≡ Some (unit_no t) → ⊥) → Stands W done t s → Stands W (one_more done u) t s
  stands-other t standing.Unborn not h = (
    h.0,
    h.1,
    h.2,
    λ d. elim (was-done W done u below h.0 h.1 d) [
      | inl old ↦ h.3 old
      | inr now ↦ not (subst (λ n. creates_at W u n ≡ Some (unit_no t)) now.1 (subst (λ n. creates_at W n h.1 ≡ Some (unit_no t)) now.0 h.2))
    ],
  )
  stands-other t standing.Reached not h = (λ v j is. still-done W done u below v j (h.0 v j is), h.1)
  stands-other t standing.Unreached not h = (λ v j is. still-done W done u below v j (h.0 v j is), h.1)

  pub standing-same : (ss : List Standing) → creates_at W u (done_at done u) ≡ None → AreStanding W done ss → AreStanding W (one_more done u) ss
  standing-same ss none h = record { all = h.all; each = λ t s at. stands-other t s (λ is. none≢some (sym none ∙ is)) (h.each t s at) }

  module _ (confluent : Confluent W) (t : UnitNo) (is : creates_at W u (done_at done u) ≡ Some t) where
    born-now : IsBorn W (one_more done u) t.0
    born-now v j creates =
        let same : (u ≡ v) × (done_at done u ≡ j) = creates-once W u (done_at done u) v j t confluent is creates in
        subst (λ n. IsDone (one_more done u) n j) same.0 (subst (IsDone (one_more done u) u) same.1 (now-done W done u below))

    by-creator : IsReached W t.0 → IsReached W u
    by-creator (Starts _ p start) =
        let op : (p : PoolNo) × (op_at W u (done_at done u) ≡ Some (op.Create t p)) = create-of W u (done_at done u) t is in
        absurd (none≢some (sym (confluent.creates_later u (done_at done u) t op.0 op.1) ∙ start))
    by-creator (Created _ v j p reached creates) =
        let op : (p : PoolNo) × (op_at W u (done_at done u) ≡ Some (op.Create t p)) = create-of W u (done_at done u) t is in
        let same : (v ≡ u) × (j ≡ done_at done u) = confluent.creates_once v u j (done_at done u) t p op.0 creates op.1 in subst (IsReached W) same.0 reached

    stands-created : (s : Standing) → s ≢ standing.Unborn → Stands W done u s → Stands W (one_more done u) t.0 s
    stands-created standing.Unborn not h = absurd (not refl)
    stands-created standing.Reached not h =
        let op : (p : PoolNo) × (op_at W u (done_at done u) ≡ Some (op.Create t p)) = create-of W u (done_at done u) t is in
        (born-now, Created t.0 u (done_at done u) op.0 h.1 op.1)
    stands-created standing.Unreached not h = (born-now, λ reached. h.1 (by-creator reached))

    pub standing-more : (ss : List Standing) (s : Standing) → t.0 < length ss → slice_get ss u ≡ Some s → s ≢ standing.Unborn → AreStanding W done ss →
        AreStanding W (one_more done u) (set ss t.0 s)
    standing-more ss s there at not h = record {
      all = length-set ss t.0 s ∙ h.all;
      each = λ v x e. elim (cases_eq v t.0) [
        | inl same ↦ (let f : slice_get (set ss t.0 s) t.0 ≡ Some x = subst (λ n. slice_get (set ss t.0 s) n ≡ Some x) same e in
            subst (λ n. Stands W (one_more done u) n x) (sym same)
            (subst (Stands W (one_more done u) t.0) (some-injective (sym (get-here ss t.0 s there) ∙ f)) (stands-created s not (h.each u s at))))
        | inr other ↦ stands-other v x (λ creates. other (sym (ap (λ (n : UnitNo). n.0) (some-injective (sym is ∙ creates))))) (h.each v x (sym (get-other ss t.0 v s other) ∙ e))
      ];
    }
