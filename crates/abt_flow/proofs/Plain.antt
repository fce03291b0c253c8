-- From operations that are plain to a confluent workload.
use Rattle.std.proofs.Common.{◌≡◌, ℕ, Option, Some, None, ap}
use Rattle.std.specs.Prelude.{IfOk, Result, Ok, Err}
use Rattle.abt_machine.specs.declared.numbers.PoolNo.{PoolNo}
use Rattle.abt_machine.specs.declared.operations.Op.{Op}
use Rattle.abt_machine.specs.declared.operations.Op.TheVariants as op
use Rattle.abt_machine.specs.declared.workload.Parts.{Parts}
use Rattle.abt_machine.specs.Numbers.{object_no, unit_no}
use Rattle.abt_machine.specs.Workloads.{op_at}
use Rattle.abt_laws.proofs.Options.{none≢some, some-injective}
use Rattle.abt_flow.specs.declared.naming.Naming.TheVariants.{Sets, Creates}
use Rattle.abt_flow.specs.Checks.{CreatesWell, IsPlainAt, NamesOnce, named_from}
use Rattle.abt_flow.specs.Confluent.{Confluent}

-- plain operations, of which no two set one eventual or create one unit, make a confluent workload
pub plain-confluent : (W : Parts) → ((u k : ℕ) → IsPlainAt W u k) → NamesOnce W Sets → NamesOnce W Creates → Confluent W
plain-confluent W plain sets creates = record {
  ops = λ u k o is. (plain u k o is).0;
  sets_once = λ u v k j x a b. sets u v k j x.0 (ap (named_from Sets) a) (ap (named_from Sets) b);
  creates_once = λ u v k j t p q a b. creates u v k j t.0 (ap (named_from Creates) a) (ap (named_from Creates) b);
  creates_later = λ u k t p is. (plain u k (op.Create t p) is).1.0;
  creates_open = λ u k t p is. (plain u k (op.Create t p) is).1.1;
}

-- And a confluent workload has these.

creates-well : (W : Parts) → Confluent W → (u k : ℕ) (o : Op) → op_at W u k ≡ Some o → CreatesWell W o
creates-well W confluent u k (op.Create v p) is = (confluent.creates_later u k v p is, confluent.creates_open u k v p is)
creates-well W confluent u k _ is = tt

pub confluent-plain : (W : Parts) → Confluent W → (u k : ℕ) → IsPlainAt W u k
confluent-plain W confluent u k o is = (confluent.ops u k o is, creates-well W confluent u k o is)

-- the operation that names x by this naming
is-set : (o : Option Op) (x : ℕ) → named_from Sets o ≡ Some x → o ≡ Some (op.EvSet (object_no x))
is-set None x e = absurd (none≢some e)
is-set (Some (op.EvSet y)) x e = ap (λ n. Some (op.EvSet (object_no n))) (some-injective e)
is-set (Some _) x e = absurd (none≢some e)

is-create : (o : Option Op) (x : ℕ) → named_from Creates o ≡ Some x → (p : PoolNo) × (o ≡ Some (op.Create (unit_no x) p))
is-create None x e = absurd (none≢some e)
is-create (Some (op.Create v p)) x e = (p, ap (λ n. Some (op.Create (unit_no n) p)) (some-injective e))
is-create (Some _) x e = absurd (none≢some e)

pub confluent-sets : (W : Parts) → Confluent W → NamesOnce W Sets
confluent-sets W confluent u v k j x a b = confluent.sets_once u v k j (object_no x) (is-set (op_at W u k) x a) (is-set (op_at W v j) x b)

pub confluent-creates : (W : Parts) → Confluent W → NamesOnce W Creates
confluent-creates W confluent u v k j x a b =
    let first : (p : PoolNo) × (op_at W u k ≡ Some (op.Create (unit_no x) p)) = is-create (op_at W u k) x a in
    let second : (p : PoolNo) × (op_at W v j ≡ Some (op.Create (unit_no x) p)) = is-create (op_at W v j) x b in
    confluent.creates_once u v k j (unit_no x) first.0 second.0 first.1 second.1

-- What is known of an answer, if there is one, may be said in another way.
pub ok-then : {T E : Type 0} (P Q : T → Type 0) (r : Result T E) → ((x : T) → P x → Q x) → IfOk r P → IfOk r Q
ok-then P Q (Ok x) f h = f x h
ok-then P Q (Err e) f h = h

pub ok-both : {T E : Type 0} (P Q R : T → Type 0) (r : Result T E) → ((x : T) → P x → Q x → R x) → IfOk r P → IfOk r Q → IfOk r R
ok-both P Q R (Ok x) f g h = f x g h
ok-both P Q R (Err e) f g h = h
