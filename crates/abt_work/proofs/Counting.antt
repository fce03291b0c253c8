-- Who stores as many functions as a workload may call stores those that it calls.
use Rattle.std.proofs.Common.{◌≤◌, ◌-◌, ℕ, arith}
use Rattle.abt_machine.specs.declared.operations.Op.TheVariants as op
use Rattle.abt_machine.specs.declared.workload.Parts.{Parts}
use Rattle.abt_machine.specs.Limits.{function_limit}
use Rattle.abt_machine.specs.Operations.{IsDeclared}
use Rattle.abt_machine.specs.Stored.{CallsStored}
use Rattle.abt_machine.specs.Valid.{IsValid}
use Rattle.abt_machine.proofs.Declared.{op-declared}

pub calls_stored : (W : Parts) (count : ℕ) → IsValid W → function_limit ≤ count → CallsStored W count
calls_stored W count valid most u k f is =
    let named : IsDeclared W (op.Call f) = op-declared W u k (op.Call f) valid is in
    let few : f ≤ function_limit - 1 = named.1 in
    omega arith
