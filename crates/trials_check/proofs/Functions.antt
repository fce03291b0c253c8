-- Validity says that each call names one of eight functions.
use Rattle.std.proofs.Common.{◌<◌, ◌≤◌, ℕ, arith}
use Rattle.abt_machine.specs.declared.operations.Op.TheVariants as op
use Rattle.abt_machine.specs.declared.workload.Parts.{Parts}
use Rattle.abt_machine.specs.Operations.{IsDeclared}
use Rattle.abt_machine.specs.Stored.{CallsStored}
use Rattle.abt_machine.specs.Valid.{IsValid}
use Rattle.abt_machine.proofs.Declared.{op-declared}

pub calls_stored : (W : Parts) (n : ℕ) → IsValid W → 8 ≤ n → CallsStored W n
calls_stored W n valid eight u k f is =
    let named : IsDeclared W (op.Call f) = op-declared W u k (op.Call f) valid is in
    let few : f ≤ 7 = named.1 in omega arith
