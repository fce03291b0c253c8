use Rattle.std.proofs.Common.{◌≡◌, drop}
use Rattle.std.specs.List.{list_all}
use Rattle.abt_machine.specs.declared.grammar.Form.TheVariants as form
use Rattle.abt_machine.specs.Forms.{is_in}
use Rattle.abt_workload.proofs.writing.has_ops.Given as goal

abbrev pub invariant-loop-op : goal.invariant-loop-op
invariant-loop-op l = list_all (λ o. is_in l.format (form.Operation o)) (drop l.op-index l.ops) ≡ list_all (λ o. is_in l.format (form.Operation o)) l.ops
