-- Which operations need, meet and create.
use Rattle.std.proofs.Common.{◌≡◌, ℕ, ◌<◌, ◌≤◌, length, Option, Some, None, refl, sym, ◌∙◌, ap, arith, ◌⊎◌, inl, inr}
use Rattle.std.specs.Prelude.{slice_get}
use Rattle.std.proofs.lemmas.Bool.{cases_lt}
use Rattle.std.proofs.lemmas.Option.{slice_get_past, slice_get_within}
use Rattle.abt_machine.specs.declared.numbers.ObjectNo.{ObjectNo}
use Rattle.abt_machine.specs.declared.numbers.PoolNo.{PoolNo}
use Rattle.abt_machine.specs.declared.numbers.UnitNo.{UnitNo}
use Rattle.abt_machine.specs.declared.operations.Op.{Op}
use Rattle.abt_machine.specs.declared.operations.Op.TheVariants as op
use Rattle.abt_machine.specs.declared.operations.Thing.TheVariants as thing
use Rattle.abt_machine.specs.declared.workload.Parts.{Parts}
use Rattle.abt_machine.specs.Operations.{IsEventual}
use Rattle.abt_machine.specs.Valid.{IsValid}
use Rattle.abt_machine.specs.Workloads.{body_at, body_from, op_at, ops_of}
use Rattle.abt_machine.proofs.Declared.{op-declared}
use Rattle.abt_laws.proofs.Options.{none≢some, some-injective}
use Rattle.abt_flow.specs.Confluent.{Confluent}
use Rattle.abt_flow.specs.Finishing.{op_count}
use Rattle.abt_orderly.specs.Needs.{creates_at, creates_from, meets_at, meets_from, need_at, need_from, needs_in, unit_need}
use Rattle.abt_orderly.proofs.Entries.{get-some}

-- Operations that there are.

pub op-unit : (W : Parts) (u k : ℕ) (o : Op) → op_at W u k ≡ Some o → u < length W.units
op-unit W u k o is =
    elim (cases_lt u (length W.units)) [
      | inl l ↦ l
      | inr l ↦ absurd (none≢some (sym (ap (λ p. slice_get (ops_of (body_from p)) k) (slice_get_past W.units u l)) ∙ is))
    ]

pub op-inside : (W : Parts) (u k : ℕ) (o : Op) → op_at W u k ≡ Some o → k < op_count W u
op-inside W u k o is = slice_get_within (ops_of (body_at W u)) k o is

-- a unit that has an operation is declared
pub count-unit : (W : Parts) (u k : ℕ) → k < op_count W u → u < length W.units
count-unit W u k l = (let is = get-some (ops_of (body_at W u)) k l in op-unit W u k is.0 is.1)

pub none-past : (W : Parts) (u k : ℕ) → op_at W u k ≡ None → op_count W u ≤ k
none-past W u k none = elim (cases_lt k (op_count W u)) [ inl l ↦ (let is = get-some (ops_of (body_at W u)) k l in absurd (none≢some (sym none ∙ is.1))) | inr l ↦ l ]

-- What they need.

pub need-cases : (W : Parts) (o : Option Op) (i : ℕ) → need_from W o ≡ Some i → ((x : ObjectNo) × (o ≡ Some (op.EvWait x)) × (x.0 ≡ i)) ⊎ ((v : UnitNo) × (o ≡ Some (op.Join v)) ×
    (unit_need W v.0 ≡ i))
need-cases W None i e = absurd (none≢some e)
need-cases W (Some (op.EvWait x)) i e = inl (x, refl, some-injective e)
need-cases W (Some (op.Join v)) i e = inr (v, refl, some-injective e)
need-cases W (Some _) i e = absurd (none≢some e)

eventual-declared : (W : Parts) (x : ℕ) → IsEventual W x → x < length W.objects
eventual-declared W x is = slice_get_within W.objects x thing.Eventual is

need-below : (W : Parts) (u k i : ℕ) → IsValid W → ((x : ObjectNo) × (op_at W u k ≡ Some (op.EvWait x)) × (x.0 ≡ i)) ⊎ ((v : UnitNo) × (op_at W u k ≡ Some (op.Join v)) × (unit_need W v.0 ≡ i)) →
    i < needs_in W
need-below W u k i valid (inl (x, is, e)) = let l : x.0 < length W.objects = eventual-declared W x.0 (op-declared W u k (op.EvWait x) valid is) in omega arith
need-below W u k i valid (inr (v, is, e)) = let l : v.0 < length W.units = op-declared W u k (op.Join v) valid is in omega arith

pub need-declared : (W : Parts) (u k i : ℕ) → IsValid W → need_at W u k ≡ Some i → i < needs_in W
need-declared W u k i valid e = need-below W u k i valid (need-cases W (op_at W u k) i e)

need-op : (W : Parts) (u k i : ℕ) → ((x : ObjectNo) × (op_at W u k ≡ Some (op.EvWait x)) × (x.0 ≡ i)) ⊎ ((v : UnitNo) × (op_at W u k ≡ Some (op.Join v)) × (unit_need W v.0 ≡ i)) → (u < length W.units) ×
    (k < op_count W u)
need-op W u k i (inl (x, is, e)) = (op-unit W u k (op.EvWait x) is, op-inside W u k (op.EvWait x) is)
need-op W u k i (inr (v, is, e)) = (op-unit W u k (op.Join v) is, op-inside W u k (op.Join v) is)

pub need-there : (W : Parts) (u k i : ℕ) → need_at W u k ≡ Some i → (u < length W.units) × (k < op_count W u)
need-there W u k i e = need-op W u k i (need-cases W (op_at W u k) i e)

-- What they meet.

pub meets-cases : (W : Parts) (u : ℕ) (o : Option Op) (i : ℕ) → meets_from W u o ≡ Some i → ((x : ObjectNo) × (o ≡ Some (op.EvSet x)) × (x.0 ≡ i)) ⊎ ((o ≡ None) × (unit_need W u ≡ i))
meets-cases W u None i e = inr (refl, some-injective e)
meets-cases W u (Some (op.EvSet x)) i e = inl (x, refl, some-injective e)
meets-cases W u (Some _) i e = absurd (none≢some e)

set-declared : (W : Parts) (u k : ℕ) (x : ObjectNo) → IsValid W → op_at W u k ≡ Some (op.EvSet x) → x.0 < length W.objects
set-declared W u k x valid is = eventual-declared W x.0 (op-declared W u k (op.EvSet x) valid is)

meets-below : (W : Parts) (u k i : ℕ) → IsValid W → u < length W.units → ((x : ObjectNo) × (op_at W u k ≡ Some (op.EvSet x)) × (x.0 ≡ i)) ⊎ ((op_at W u k ≡ None) × (unit_need W u ≡ i)) →
    i < needs_in W
meets-below W u k i valid l (inl (x, is, e)) = let m : x.0 < length W.objects = set-declared W u k x valid is in omega arith
meets-below W u k i valid l (inr (none, e)) = omega arith

pub meets-declared : (W : Parts) (u k i : ℕ) → IsValid W → u < length W.units → meets_at W u k ≡ Some i → i < needs_in W
meets-declared W u k i valid l e = meets-below W u k i valid l (meets-cases W u (op_at W u k) i e)

-- that an eventual is set is met by an operation that sets it
pub met-by-set : (W : Parts) (u k : ℕ) (x : ObjectNo) → x.0 < length W.objects → meets_at W u k ≡ Some x.0 → op_at W u k ≡ Some (op.EvSet x)
met-by-set W u k x l e =
    elim (meets-cases W u (op_at W u k) x.0 e) [
      | inl (y, is, same) ↦ is ∙ ap (λ n. Some (op.EvSet (record { 0 = n }))) same
      | inr (none, same) ↦ absurd (omega arith)
    ]

-- that a unit is at its end is met by its end
pub met-by-end : (W : Parts) (u k v : ℕ) → IsValid W → meets_at W u k ≡ Some (unit_need W v) → (u ≡ v) × (op_at W u k ≡ None)
met-by-end W u k v valid e =
    elim (meets-cases W u (op_at W u k) (unit_need W v) e) [
      | inl (y, is, same) ↦ (let l : y.0 < length W.objects = set-declared W u k y valid is in absurd (omega arith))
      | inr (none, same) ↦ ((let s : u ≡ v = omega arith in s), none)
    ]

pub end-meets : (W : Parts) (u : ℕ) → meets_at W u (op_count W u) ≡ Some (unit_need W u)
end-meets W u = ap (meets_from W u) (slice_get_past (ops_of (body_at W u)) (op_count W u) (omega arith))

-- What they create.

create-from : (o : Option Op) (t : UnitNo) → creates_from o ≡ Some t → (p : PoolNo) × (o ≡ Some (op.Create t p))
create-from None t e = absurd (none≢some e)
create-from (Some (op.Create v p)) t e = (p, ap (λ n. Some (op.Create n p)) (some-injective e))
create-from (Some _) t e = absurd (none≢some e)

pub create-of : (W : Parts) (u k : ℕ) (t : UnitNo) → creates_at W u k ≡ Some t → (p : PoolNo) × (op_at W u k ≡ Some (op.Create t p))
create-of W u k t e = create-from (op_at W u k) t e

pub creates-declared : (W : Parts) (u k : ℕ) (t : UnitNo) → IsValid W → creates_at W u k ≡ Some t → t.0 < length W.units
creates-declared W u k t valid e = (let is = create-of W u k t e in (op-declared W u k (op.Create t is.0) valid is.1).0)

pub creates-there : (W : Parts) (u k : ℕ) (t : UnitNo) → creates_at W u k ≡ Some t → (u < length W.units) × (k < op_count W u)
creates-there W u k t e = (let is = create-of W u k t e in (op-unit W u k (op.Create t is.0) is.1, op-inside W u k (op.Create t is.0) is.1))

pub creates-once : (W : Parts) (u k v j : ℕ) (t : UnitNo) → Confluent W → creates_at W u k ≡ Some t → creates_at W v j ≡ Some t → (u ≡ v) × (k ≡ j)
creates-once W u k v j t confluent one two = (let a = create-of W u k t one in let b = create-of W v j t two in confluent.creates_once u v k j t a.0 b.0 a.1 b.1)
