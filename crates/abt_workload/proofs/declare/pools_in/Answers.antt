use Rattle.std.proofs.Common.{◌<◌, ℕ, List, All, arith, get_or, length, subst}
use Rattle.std.proofs.lemmas.List.{length-map}
use Rattle.std.proofs.Math.ListN.{get_or-map}
use Rattle.abt_machine.specs.declared.grammar.Number.{Number}
use Rattle.abt_machine.specs.Faults.{values}
use Rattle.abt_workload.specs.Declarable.{IsSmall}
use Rattle.abt_workload.proofs.declare.pools_in.Goals as goal

small-at : (ns : List (Number × ℕ)) (i : ℕ) (d : Number × ℕ) → All IsSmall (values ns) → i < length ns → IsSmall (get_or ns i d).1
small-at ns i d all lt =
    let lt' : i < length (values ns) = rw length-map lt in
    subst IsSmall (get_or-map (λ (p : Number × ℕ). p.1) ns i d) (all i d.1 lt')

pub small-requires : goal.small-requires
small-requires c = small-at c.args.numbers.now c.loop-n.n-index _ c.requires (omega arith)
