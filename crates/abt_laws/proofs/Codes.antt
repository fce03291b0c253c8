-- What it says of the tests of a code that the operation goes through.
use Rattle.std.proofs.Common.{◌≡◌, ℕ, Bool, true, false, Option, Some, None, refl, subst}
use Rattle.std.specs.Prelude.{IsSome}
use Rattle.abt_machine.specs.declared.events.Code.{Code}
use Rattle.abt_machine.specs.declared.events.Code.TheVariants as code
use Rattle.abt_machine.specs.declared.operations.Op.{Op}
use Rattle.abt_machine.specs.declared.workload.Parts.{Parts}
use Rattle.abt_machine.specs.Access.{may_reach}
use Rattle.abt_machine.specs.Fronts.{is_some_of}
use Rattle.abt_machine.specs.State.{State}
use Rattle.abt_machine.specs.Codes.{code_of, owned_by, reached_code, unless}

-- every code but Ok
abbrev pub IsRefusal : Code → Type 0
IsRefusal code.Ok = ⊥
IsRefusal _ = Unit {0}

-- an operation goes through if each of its tests holds
pub unless-ok : (test : Bool) (c rest : Code) → IsRefusal c → unless test c rest ≡ code.Ok → (test ≡ true) × (rest ≡ code.Ok)
unless-ok true c rest r h = (refl, h)
unless-ok false c rest r h = absurd (subst IsRefusal h r)

-- it may reach the pool that it names, and its own tests hold
pub reached-ok : (W : Parts) (S : State) (s u : ℕ) (o : Op) → code_of W S s u o ≡ code.Ok → (may_reach W s o ≡ true) × (reached_code W S u o ≡ code.Ok)
reached-ok W S s u o h = unless-ok (may_reach W s o) code.PoolAccess (reached_code W S u o) tt h

-- what is u is something
pub some-by : (u : ℕ) (o : Option ℕ) → is_some_of u o ≡ true → IsSome o
some-by u None e = cc
some-by u (Some v) e = refl

-- a mutex that u owns has an owner
pub owned-some : (S : State) (u x : ℕ) → owned_by S u x ≡ true → IsSome (S.mutex x).owner
owned-some S u x e = some-by u (S.mutex x).owner e
