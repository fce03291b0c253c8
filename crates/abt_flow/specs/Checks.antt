-- What the test for confluence finds, operation by operation.
use Rattle.std.specs.Prelude.{ℕ, ◌≡◌, ◌<◌, ◌⊎◌, Bool, true, List, length, Option, Some, None, slice_get, ⊤}
use Rattle.abt_machine.specs.declared.operations.Op.{Op}
use Rattle.abt_machine.specs.declared.operations.Op.TheVariants as op
use Rattle.abt_machine.specs.declared.workload.Parts.{Parts}
use Rattle.abt_machine.specs.Workloads.{access_of, op_at, start_of}
use Rattle.abt_flow.specs.declared.naming.Naming.{Naming}
use Rattle.abt_flow.specs.declared.naming.Naming.TheVariants.{Sets, Creates}
use Rattle.abt_flow.specs.Confluent.{IsOpen, IsSettled}
use Rattle.abt_flow.specs.Effects.{effect}

-- a unit that is created has no start, and its pool is open
abbrev pub CreatesWell : Parts → Op → Type 0
CreatesWell W (op.Create v p) = (start_of W v.0 ≡ None) × IsOpen (access_of W p.0)
CreatesWell W _ = ⊤

abbrev pub IsPlainOp : Parts → Op → Type 0
IsPlainOp W o = IsSettled (effect o) × CreatesWell W o

abbrev pub IsPlainAt : Parts → ℕ → ℕ → Type 0
IsPlainAt W u k = (o : Op) → op_at W u k ≡ Some o → IsPlainOp W o

-- the eventual that an operation sets, or the unit that it creates
abbrev pub named_by : Naming → Op → Option ℕ
named_by Sets (op.EvSet x) = Some x.0
named_by Sets _ = None
named_by Creates (op.Create v p) = Some v.0
named_by Creates _ = None

abbrev pub named_from : Naming → Option Op → Option ℕ
named_from n None = None
named_from n (Some o) = named_by n o

abbrev pub named_at : Parts → Naming → ℕ → ℕ → Option ℕ
named_at W n u k = named_from n (op_at W u k)

-- at most one operation names each
abbrev pub NamesOnce : Parts → Naming → Type 0
NamesOnce W n = (u v k j x : ℕ) → named_at W n u k ≡ Some x → named_at W n v j ≡ Some x → (u ≡ v) × (k ≡ j)

-- operation j of unit v comes before operation k of unit u, in order of unit and then of position
abbrev pub Prior : ℕ → ℕ → ℕ → ℕ → Type 0
Prior v j u k = (v < u) ⊎ ((v ≡ u) × (j < k))

-- operation k of unit u names a number that an operation before it names
abbrev pub NamesAgain : Parts → Naming → ℕ → ℕ → Type 0
NamesAgain W n u k = (x v j : ℕ) × (named_at W n u k ≡ Some x) × Prior v j u k × (named_at W n v j ≡ Some x)

-- operation o at position k of unit u isn't plain, or it sets an eventual or creates a unit that an operation before it sets or creates
abbrev pub Violates : Parts → ℕ → ℕ → Op → Type 0
Violates W u k o = (IsPlainOp W o → ⊥) ⊎ NamesAgain W Sets u k ⊎ NamesAgain W Creates u k

-- how many numbers may be named
abbrev pub names_in : Parts → Naming → ℕ
names_in W Sets = length W.objects
names_in W Creates = length W.units

-- of the operations before operation k of unit u no two name one number, and the table has true at those that are named
pub record HasNamed (W : Parts) (n : Naming) (u k : ℕ) (seen : List Bool) : Type 0 where
  pub all : length seen ≡ names_in W n
  pub marked : (v j x : ℕ) → Prior v j u k → named_at W n v j ≡ Some x → slice_get seen x ≡ Some true
  pub from : (x : ℕ) → slice_get seen x ≡ Some true → (v : ℕ) × (j : ℕ) × Prior v j u k × (named_at W n v j ≡ Some x)
  pub once : (v w j i x : ℕ) → Prior v j u k → Prior w i u k → named_at W n v j ≡ Some x → named_at W n w i ≡ Some x → (v ≡ w) × (j ≡ i)
