-- Each operation keeps the number of keys, and an operation that is left to compute is computed.
use Rattle.std.proofs.Common.{◌≡◌, ℕ, zero, suc, List, length, Option, Some, None, length-set, sym, ◌∙◌, ap, subst}
use Rattle.std.proofs.lemmas.List.{length-replicate}
use Rattle.abt_machine.specs.declared.operations.Op.{Op}
use Rattle.abt_machine.specs.declared.operations.Op.TheVariants as op
use Rattle.abt_machine.specs.declared.workload.Parts.{Parts}
use Rattle.abt_machine.specs.Operations.{IsDeclared}
use Rattle.abt_machine.specs.Workloads.{op_at}
use Rattle.abt_machine.specs.Numbers.{object_no}
use Rattle.abt_flow.specs.Confluent.{IsSettled}
use Rattle.abt_flow.specs.Effects.{Memory, FlowEffect, Computes, Calls, Awaits, Depends, effect}
use Rattle.abt_flow.specs.Flow.{AtPoint, Becomes, Executes, Functions, Made, SetsTo}
use Rattle.abt_flow.specs.Tables.{ComputesTo, HasKey, IsComputed, IsOther}

-- the keys after an operation of this effect
abbrev keys_after : FlowEffect → Memory → List ℕ
keys_after (Computes f) m = (f m).keys
keys_after (Calls f) m = m.keys
keys_after (Awaits x) m = m.keys
keys_after Depends m = m.keys

module _ (R : Functions) (Found : ℕ → ℕ → Type 0) where
  leads-keys : (u : ℕ) (e : FlowEffect) (old new : Memory) → Becomes R u Found e old new → length new.keys ≡ length (keys_after e old)
  leads-keys u (Computes f) old new h = ap (λ (m : Memory). length m.keys) h
  leads-keys u (Calls f) old new h = ap (λ (m : Memory). length m.keys) h.2
  leads-keys u (Awaits x) old new h = ap (λ (m : Memory). length m.keys) h.2
  leads-keys u Depends old new h = absurd h

  keys-kept : (u : ℕ) (o : Op) (old new : Memory) → Becomes R u Found (effect o) old new → length new.keys ≡ length old.keys
  keys-kept u (op.KeySet k) old new h = leads-keys u (effect (op.KeySet k)) old new h ∙ length-set old.keys k old.acc
  keys-kept u o old new h = leads-keys u (effect o) old new h

  does-keys : (u : ℕ) (o : Option Op) (old new : Memory) → Executes R u Found o old new → length new.keys ≡ length old.keys
  does-keys u None old new h = absurd h
  does-keys u (Some o) old new h = keys-kept u o old new h

  made-keys : (W : Parts) (u k : ℕ) (m : Memory) → Made W R Found u k m → length m.keys ≡ W.keys
  made-keys W u zero m h = ap (λ (n : Memory). length n.keys) h ∙ length-replicate W.keys 0
  made-keys W u (suc k) m h = does-keys u (op_at W u k) h.0 m h.2 ∙ made-keys W u k h.0 h.1

pub point-keys : (W : Parts) (R : Functions) (f u k : ℕ) (m : Memory) → AtPoint W R f u k m → length m.keys ≡ W.keys
point-keys W R zero u k m h = absurd h
point-keys W R (suc f) u k m h = made-keys R (SetsTo W (λ v j c. AtPoint W R f v j c)) W u k m h

-- an operation that names a key names a declared one
has-declared : (W : Parts) (o : Op) → IsDeclared W o → HasKey o W.keys
has-declared W (op.KeySet k) declared = declared
has-declared W o declared = search

pub has-key : (W : Parts) (o : Op) (n : ℕ) → IsDeclared W o → n ≡ W.keys → HasKey o n
has-key W o n declared e = subst (HasKey o) (sym e) (has-declared W o declared)

pub computed-other : (o : Op) → IsSettled (effect o) → IsOther o → IsComputed (effect o)
computed-other (op.EvWait x) settled other = absurd other
computed-other (op.Call f) settled other = absurd other
computed-other _ settled other = settled

-- what is computed is what becomes of a memory
pub computes-becomes : (R : Functions) (u : ℕ) (Found : ℕ → ℕ → Type 0) (e : FlowEffect) (old new : Memory) → ComputesTo e old new → Becomes R u Found e old new
computes-becomes R u Found (Computes f) old new h = h
computes-becomes R u Found (Calls f) old new h = absurd h
computes-becomes R u Found (Awaits x) old new h = absurd h
computes-becomes R u Found Depends old new h = absurd h

pub other-sets : (o : Op) (x : ℕ) → IsOther o → o ≡ op.EvSet (object_no x) → ⊥
other-sets o x other e = subst IsOther e other
