use Rattle.std.proofs.Common.{List, None, [], ◌∷◌, ap, ◌∙◌}
use Rattle.abt_machine.specs.declared.operations.Body.TheVariants as body
use Rattle.abt_machine.specs.declared.operations.Op.{Op}
use Rattle.abt_machine.specs.declared.workload.UnitPart.{UnitPart}
use Rattle.abt_generate.specs.Generated.{adder, first_unit}
use Rattle.abt_generate.proofs.Lists.{map-range_more}
use Rattle.abt_generate.proofs.generated.units.Goals as goal

pub loop-k-preserved : goal.loop-k-preserved
loop-k-preserved c =
    let unit = λ (ops : List Op). (let part : UnitPart = record { body = body.Ult ops; start = None } in part) in
    map-range_more adder (first_unit c.args.n ∷ []) c.loop-k.units.items c.push-in-loop-k.new.self.items c.loop-k.k (unit c.in_ok-new-2.field-0) c.loop-k.invariant c.in_ok-push-2.ensures.items (ap unit (c.in_ok-new-2.ensures ∙ c.in_ok-adder_ops.ensures))
