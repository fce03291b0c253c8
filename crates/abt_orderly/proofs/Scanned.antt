-- Where units stand before any operation is done, as it is found operation by operation.
use Rattle.std.proofs.Common.{◌≡◌, ℕ, zero, suc, ◌+◌, ◌<◌, ◌≤◌, List, [], ◌∷◌, ◌++◌, length, replicate, Some, None, set, length-set, sym, ◌∙◌, ap, subst, arith, ◌⊎◌, inl, inr, refl}
use Rattle.std.specs.Prelude.{slice_get}
use Rattle.std.proofs.lemmas.Bool.{cases_eq}
use Rattle.std.proofs.lemmas.List.{length_push}
use Rattle.abt_machine.specs.declared.numbers.UnitNo.{UnitNo}
use Rattle.abt_machine.specs.declared.workload.Parts.{Parts}
use Rattle.abt_machine.specs.Numbers.{unit_no}
use Rattle.abt_machine.specs.Workloads.{start_of}
use Rattle.abt_laws.proofs.Options.{none≢some, some-injective}
use Rattle.abt_flow.specs.Finishing.{op_count}
use Rattle.abt_flow.specs.Flow.{Created, IsReached, Starts}
use Rattle.abt_orderly.specs.declared.scanning.Standing.{Standing}
use Rattle.abt_orderly.specs.declared.scanning.Standing.TheVariants as standing
use Rattle.abt_orderly.specs.Needs.{creates_at, creates_from}
use Rattle.abt_orderly.specs.Passing.{AreStanding, Stands, done_at}
use Rattle.abt_orderly.specs.Scanning.{HasScanned, IsNotCreated, IsScanned}
use Rattle.abt_orderly.proofs.Before.{before-cases, before-on}
use Rattle.abt_orderly.proofs.Entries.{all-same, get-here, get-other}
use Rattle.abt_orderly.proofs.Needing.{creates-there}

-- a new bound, below which no operation creates the unit that didn't before
rescanned : (W : Parts) (u k w j v : ℕ) (s : Standing) → (IsNotCreated W u k v → IsNotCreated W w j v) → IsScanned W u k v s → IsScanned W w j v s
rescanned W u k w j v standing.Unborn f h = h
rescanned W u k w j v standing.Reached f h = (f h.0, h.1)
rescanned W u k w j v standing.Unreached f h = (f h.0, h.1)

module _ (W : Parts) (u k n : ℕ) (ss : List Standing) (has : HasScanned W u k n ss) where
  one-further : (v : ℕ) → (creates_at W u k ≡ Some (unit_no v) → ⊥) → IsNotCreated W u k v → IsNotCreated W u (k + 1) v
  one-further v not none w j prior creates =
      elim (before-cases w j u k prior) [
        | inl before ↦ none w j before creates
        | inr now ↦ not (subst (λ i. creates_at W u i ≡ Some (unit_no v)) now.1 (subst (λ x. creates_at W x j ≡ Some (unit_no v)) now.0 creates))
      ]

  pub scan-none : creates_at W u k ≡ None → HasScanned W u (k + 1) n ss
  scan-none none = record { all = has.all; each = λ v s at. rescanned W u k u (k + 1) v s (one-further v (λ creates. none≢some (sym none ∙ creates))) (has.each v s at) }

  pub scan-some : (t : UnitNo) → creates_at W u k ≡ Some t → t.0 < length ss → HasScanned W u (k + 1) n (set ss t.0 standing.Unborn)
  scan-some t is there = record {
    all = length-set ss t.0 standing.Unborn ∙ has.all;
    each = λ v s e. elim (cases_eq v t.0) [
      | inl same ↦ (let f : slice_get (set ss t.0 standing.Unborn) t.0 ≡ Some s = subst (λ i. slice_get (set ss t.0 standing.Unborn) i ≡ Some s) same e in
          subst (λ i. IsScanned W u (k + 1) i s) (sym same)
          (subst (IsScanned W u (k + 1) t.0) (some-injective (sym (get-here ss t.0 standing.Unborn there) ∙ f)) (u, k, is)))
      | inr other ↦ rescanned W u k u (k + 1) v s (one-further v (λ creates. other (sym (ap (λ (i : UnitNo). i.0) (some-injective (sym is ∙ creates))))))
          (has.each v s (sym (get-other ss t.0 v standing.Unborn other) ∙ e))
    ];
  }

  pub scan-next : op_count W u ≤ k → HasScanned W (u + 1) 0 n ss
  scan-next over = record {
    all = has.all;
    each = λ v s at. rescanned W u k (u + 1) 0 v s
        (λ none w j prior creates. none w j (before-on (op_count W) w j u k over (creates-there W w j (unit_no v) creates).1 prior) creates) (has.each v s at);
  }

-- In the end.

module _ (W : Parts) (n : ℕ) (over : length W.units ≤ n) where
  never : (v : ℕ) → IsNotCreated W n 0 v → (w j : ℕ) → creates_at W w j ≡ Some (unit_no v) → ⊥
  never v none w j creates = let l : w < length W.units = (creates-there W w j (unit_no v) creates).0 in none w j (inl (omega arith)) creates

  not-reached : (v : ℕ) → start_of W v ≡ None → IsNotCreated W n 0 v → IsReached W v → ⊥
  not-reached v start none (Starts _ p is) = none≢some (sym start ∙ is)
  not-reached v start none (Created _ w j p reached is) = never v none w j (ap creates_from is)

  stands-first : (v : ℕ) (s : Standing) → IsScanned W n 0 v s → Stands W (replicate (length W.units) 0) v s
  stands-first v standing.Unborn h = (h.0, h.1, h.2, λ d. (let e : done_at (replicate (length W.units) 0) h.0 ≡ 0 = all-same (length W.units) h.0 0 in absurd (omega arith)))
  stands-first v standing.Reached h = (λ w j creates. absurd (never v h.0 w j creates), Starts v h.1.0 h.1.1)
  stands-first v standing.Unreached h = (λ w j creates. absurd (never v h.0 w j creates), not-reached v h.1 h.0)

  pub scan-all : (ss : List Standing) → HasScanned W n 0 (length W.units) ss → AreStanding W (replicate (length W.units) 0) ss
  scan-all ss has = record { all = has.all; each = λ v s at. stands-first v s (has.each v s at) }

-- One more unit.

push-cases : (xs : List Standing) (y x : Standing) (k : ℕ) → slice_get (xs ++ y ∷ []) k ≡ Some x → (slice_get xs k ≡ Some x) ⊎ ((k ≡ length xs) × (y ≡ x))
push-cases [] y x zero e = inr (refl, some-injective e)
push-cases [] y x (suc k) e = absurd (none≢some e)
push-cases (z ∷ xs) y x zero e = inl e
push-cases (z ∷ xs) y x (suc k) e = elim (push-cases xs y x k e) [ inl old ↦ inl old | inr last ↦ inr (ap (λ n. suc n) last.0, last.1) ]

pub more-standings : (W : Parts) (n : ℕ) (ss new : List Standing) (s : Standing) → new ≡ ss ++ s ∷ [] → HasScanned W 0 0 n ss → IsScanned W 0 0 n s → HasScanned W 0 0 (n + 1) new
more-standings W n ss new s more has is = record {
  all = (let e : length new ≡ length (ss ++ s ∷ []) = ap (λ (zs : List Standing). length zs) more in let f = length_push ss s in let a = has.all in omega arith);
  each = λ v x at. elim (push-cases ss s x v (subst (λ (zs : List Standing). slice_get zs v ≡ Some x) more at)) [
    | inl old ↦ has.each v x old
    | inr last ↦ subst (λ m. IsScanned W 0 0 m x) (sym (last.0 ∙ has.all)) (subst (IsScanned W 0 0 n) last.1 is)
  ];
}
