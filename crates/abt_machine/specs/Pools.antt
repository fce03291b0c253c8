-- What a pool answers, and what it is afterwards.
use Rattle.std.specs.Prelude.{ℕ, ◌≡◌, ◌==◌, if◌then◌else◌, Bool, List, [], ◌∷◌, ◌++◌, Some, None}
use Rattle.std.specs.List.{find}
use Rattle.abt_machine.specs.declared.events.Code.TheVariants as code
use Rattle.abt_machine.specs.declared.operations.Kind.{Kind}
use Rattle.abt_machine.specs.declared.operations.Kind.TheVariants as kind
use Rattle.abt_machine.specs.declared.operations.Side.{Side}
use Rattle.abt_machine.specs.declared.operations.Side.TheVariants as side
use Rattle.abt_machine.specs.Values.{Owned, PoolValue}
use Rattle.abt_machine.specs.Acts.{Act, Put, Take, Remove, Answer, Given, Rested, Miss, Coded}

-- a FIFO pool is asked for its front alone
abbrev pub HasSide : Kind → Side → Type 0
HasSide kind.Fifo side.Front = Unit {0}
HasSide kind.Fifo side.Back = ⊥
HasSide kind.Deque d = Unit {0}

-- the units with o at that end
abbrev pub with_end : Side → Owned → List Owned → List Owned
with_end side.Front o os = o ∷ os
with_end side.Back o os = os ++ o ∷ []

abbrev pub is_unit : ℕ → Owned → Bool
is_unit u o = o.number == u

-- the first unit of that number is gone, and the others stay in order
abbrev pub without : ℕ → List Owned → List Owned
without u [] = []
without u (o ∷ os) = if is_unit u o then os else o ∷ without u os

abbrev pub with_units : List Owned → PoolValue → PoolValue
with_units os pool = record pool { units = os }

-- a pool's answer, and the pool afterwards
abbrev pub PoolGives : PoolValue → Act → Answer → PoolValue → Type 0
PoolGives old (Put o) Rested new = new ≡ with_units (old.units ++ o ∷ []) old
PoolGives old (Take d) (Given o) new = HasSide old.kind d × (old.units ≡ with_end d o new.units) × (new.kind ≡ old.kind)
PoolGives old (Take d) Miss new = HasSide old.kind d × (old.units ≡ []) × (new ≡ old)
PoolGives old (Remove u) (Given o) new = (find (is_unit u) old.units ≡ Some o) × (new ≡ with_units (without u old.units) old)
PoolGives old (Remove u) (Coded code.Absent) new = (find (is_unit u) old.units ≡ None) × (new ≡ old)
PoolGives old act answer new = ⊥
