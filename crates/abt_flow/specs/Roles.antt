-- What each operation is to the flow of its unit.
use Rattle.std.specs.Prelude.{◌≡◌, Some}
use Rattle.abt_machine.specs.declared.operations.Op.{Op}
use Rattle.abt_machine.specs.declared.operations.Op.TheVariants as op
use Rattle.abt_flow.specs.declared.role.Role.{Role}
use Rattle.abt_flow.specs.declared.role.Role.TheVariants as role
use Rattle.abt_flow.specs.Effects.{Computes, Depends, effect, unchanged}
use Rattle.abt_flow.specs.Tables.{CreatesNone, IsOther}

-- an operation that passes leaves the memory as it is, sets no eventual and waits for none, and creates no unit
abbrev pub IsRole : Op → Role → Type 0
IsRole o (role.Set n) = o ≡ op.Set n
IsRole o (role.Add n) = o ≡ op.Add n
IsRole o (role.Say w) = o ≡ op.Say w
IsRole o role.Print = o ≡ op.Print
IsRole o (role.KeySet k) = o ≡ op.KeySet k
IsRole o (role.KeyGet k) = o ≡ op.KeyGet k
IsRole o (role.Calc c k) = o ≡ op.Calc c k
IsRole o (role.Call f) = o ≡ op.Call f
IsRole o (role.Create v p) = o ≡ op.Create v p
IsRole o (role.AwaitValue x) = o ≡ op.EvWait x
IsRole o (role.SetValue x) = o ≡ op.EvSet x
IsRole o role.Pass = (effect o ≡ Computes unchanged) × IsOther o × CreatesNone (Some o)
IsRole o role.Depend = effect o ≡ Depends
