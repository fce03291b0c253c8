-- What the place of each unit says of its program, in a state of a run of a confluent workload.
use Rattle.std.proofs.Common.{◌≡◌, ℕ, suc, ◌<◌, ◌≤◌, false, length, Some, None, sym, ◌∙◌, subst, arith, ◌⊎◌, inl, inr}
use Rattle.abt_machine.specs.declared.events.Place.{Place}
use Rattle.abt_machine.specs.declared.events.Place.TheVariants as place
use Rattle.abt_machine.specs.declared.events.Spot.TheVariants as spot
use Rattle.abt_machine.specs.declared.numbers.PoolNo.{PoolNo}
use Rattle.abt_machine.specs.declared.operations.Op.TheVariants as op
use Rattle.abt_machine.specs.declared.workload.Parts.{Parts}
use Rattle.abt_machine.specs.Numbers.{object_no, unit_no}
use Rattle.abt_machine.specs.Operations.{IsEventual}
use Rattle.abt_machine.specs.State.{State, Carried, Mark, Plain, Asked, Left, Exited}
use Rattle.abt_machine.specs.Workloads.{body_at, op_at, ops_of, start_of}
use Rattle.abt_flow.specs.Effects.{Memory, fresh}
use Rattle.abt_flow.specs.Flow.{AtPoint, Functions, IsReached}
use Rattle.abt_flow.proofs.Points.{points-within}

abbrev pub memory_of : Carried → Memory
memory_of c = record { acc = c.acc; keys = c.keys; output = c.output }

-- unit u is reached, and has made what its operations before its position make
abbrev pub Before : Parts → Functions → ℕ → ℕ → Carried → Type 0
Before W R t u c = IsReached W u × AtPoint W R (suc t) u c.position (memory_of c)

-- unit u has gone past its wait for eventual x, and has no value yet
pub record Awaiting (W : Parts) (R : Functions) (t u x : ℕ) (c : Carried) : Type 0 where
  pub at : ℕ
  pub position : c.position ≡ suc at
  pub waits : op_at W u at ≡ Some (op.EvWait (object_no x))
  pub reached : IsReached W u
  pub made : AtPoint W R (suc t) u at (memory_of c)

abbrev pub Waits : Parts → Functions → ℕ → ℕ → ℕ → Carried → Type 0
Waits W R t u x c = ((IsEventual W x → ⊥) × Before W R t u c) ⊎ Awaiting W R t u x c

abbrev pub Tells : Parts → Functions → ℕ → ℕ → Carried → Place → Type 0
Tells W R t u c place.Unborn = (start_of W u ≡ None) × (c.position ≡ 0) × (memory_of c ≡ fresh W)
Tells W R t u c (place.Blocked (spot.Object x) k) = Waits W R t u x.0 c
Tells W R t u c (place.Ended e) = Before W R t u c × (length (ops_of (body_at W u)) ≤ c.position)
Tells W R t u c _ = Before W R t u c

-- alive, and not waiting at an object
abbrev pub IsPlain : Place → Type 0
IsPlain place.Unborn = ⊥
IsPlain (place.Blocked (spot.Object x) k) = ⊥
IsPlain (place.Ended e) = ⊥
IsPlain _ = Unit {0}

pub tells-plain : (W : Parts) (R : Functions) (t u : ℕ) (c : Carried) (pl : Place) → IsPlain pl → Before W R t u c → Tells W R t u c pl
tells-plain W R t u c place.Unborn h b = absurd h
tells-plain W R t u c (place.Blocked (spot.Object x) k) h b = absurd h
tells-plain W R t u c (place.Ended e) h b = absurd h
tells-plain W R t u c _ h b = b

pub plain-tells : (W : Parts) (R : Functions) (t u : ℕ) (c : Carried) (pl : Place) → IsPlain pl → Tells W R t u c pl → Before W R t u c
plain-tells W R t u c place.Unborn h b = absurd h
plain-tells W R t u c (place.Blocked (spot.Object x) k) h b = absurd h
plain-tells W R t u c (place.Ended e) h b = absurd h
plain-tells W R t u c _ h b = b

-- What is said through at most so many points is said through more.

pub before-more : (W : Parts) (R : Functions) (t u : ℕ) (c : Carried) → Before W R t u c → Before W R (suc t) u c
before-more W R t u c b = (b.0, points-within W R (suc t) (suc (suc t)) u c.position (memory_of c) (omega arith) b.1)

awaiting-more : (W : Parts) (R : Functions) (t u x : ℕ) (c : Carried) → Awaiting W R t u x c → Awaiting W R (suc t) u x c
awaiting-more W R t u x c a = record {
  at = a.at;
  position = a.position;
  waits = a.waits;
  reached = a.reached;
  made = points-within W R (suc t) (suc (suc t)) u a.at (memory_of c)
      (omega arith) a.made;
}

waits-more : (W : Parts) (R : Functions) (t u x : ℕ) (c : Carried) → Waits W R t u x c → Waits W R (suc t) u x c
waits-more W R t u x c (inl h) = inl (h.0, before-more W R t u c h.1)
waits-more W R t u x c (inr h) = inr (awaiting-more W R t u x c h)

pub tells-more : (W : Parts) (R : Functions) (t u : ℕ) (c : Carried) (pl : Place) → Tells W R t u c pl → Tells W R (suc t) u c pl
tells-more W R t u c place.Unborn h = h
tells-more W R t u c (place.Blocked (spot.Object x) k) h = waits-more W R t u x.0 c h
tells-more W R t u c (place.Ended e) h = (before-more W R t u c h.0, h.1)
tells-more W R t u c _ h = before-more W R t u c h

-- What carried things say depends on position and memory alone.

pub before-same : (W : Parts) (R : Functions) (t u : ℕ) (c d : Carried) → d.position ≡ c.position → memory_of d ≡ memory_of c → Before W R t u c → Before W R t u d
before-same W R t u c d p m b = (b.0, subst (λ k. AtPoint W R (suc t) u k (memory_of d)) (sym p) (subst (AtPoint W R (suc t) u c.position) (sym m) b.1))

waits-same : (W : Parts) (R : Functions) (t u x : ℕ) (c d : Carried) → d.position ≡ c.position → memory_of d ≡ memory_of c → Waits W R t u x c → Waits W R t u x d
waits-same W R t u x c d p m (inl h) = inl (h.0, before-same W R t u c d p m h.1)
waits-same W R t u x c d p m (inr h) = inr (record { at = h.at; position = p ∙ h.position; waits = h.waits; reached = h.reached; made = subst (AtPoint W R (suc t) u h.at) (sym m) h.made })

pub tells-same : (W : Parts) (R : Functions) (t u : ℕ) (c d : Carried) (pl : Place) → d.position ≡ c.position → memory_of d ≡ memory_of c → Tells W R t u c pl → Tells W R t u d pl
tells-same W R t u c d place.Unborn p m h = (h.0, p ∙ h.1, m ∙ h.2)
tells-same W R t u c d (place.Blocked (spot.Object x) k) p m h = waits-same W R t u x.0 c d p m h
tells-same W R t u c d (place.Ended e) p m h = (before-same W R t u c d p m h.0, omega arith)
tells-same W R t u c d _ p m h = before-same W R t u c d p m h

-- Values.

-- eventual x was set to n by an operation that is behind its unit
pub record IsSet (W : Parts) (R : Functions) (t : ℕ) (S : State) (x n : ℕ) : Type 0 where
  pub setter : ℕ
  pub at : ℕ
  pub memory : Memory
  pub reached : IsReached W setter
  pub sets : op_at W setter at ≡ Some (op.EvSet (object_no x))
  pub made : AtPoint W R t setter at memory
  pub value : memory.acc ≡ n
  pub behind : at < (S.carried setter).position

-- an operation that creates unit u is behind its unit
pub record IsCreated (W : Parts) (S : State) (u : ℕ) : Type 0 where
  pub creator : ℕ
  pub at : ℕ
  pub pool : PoolNo
  pub creates : op_at W creator at ≡ Some (op.Create (unit_no u) pool)
  pub behind : at < (S.carried creator).position

-- a unit in hand with this mark is not asked to cancel and has not ended itself
abbrev pub GoesOn : Mark → Type 0
GoesOn Plain = Unit {0}
GoesOn Asked = ⊥
GoesOn Left = Unit {0}
GoesOn Exited = ⊥

-- what holds of each state of a run, after t steps
pub record Flowing (W : Parts) (R : Functions) (t : ℕ) (S : State) : Type 0 where
  pub units : (u : ℕ) → Tells W R t u (S.carried u) (S.place u)
  pub values : (x n : ℕ) → S.eventual x ≡ Some n → IsSet W R t S x n
  pub born : (u : ℕ) → IsCreated W S u → S.place u ≡ place.Unborn → ⊥
  pub created : (u : ℕ) → (S.place u ≡ place.Unborn → ⊥) → start_of W u ≡ None → IsCreated W S u
  -- no unit is asked to cancel
  pub calm : (u : ℕ) → (S.desk u).cancel ≡ false
  pub marks : (s : ℕ) → GoesOn (S.stream s).mark
