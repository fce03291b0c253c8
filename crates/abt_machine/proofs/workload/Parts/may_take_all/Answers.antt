use Rattle.std.proofs.Common.{◌∙◌, ap, sym}
use Rattle.std.specs.List.{list_all}
use Rattle.std.proofs.lemmas.List.Folds.{list_all-map}
use Rattle.abt_machine.specs.Access.{may_take}
use Rattle.abt_machine.specs.declared.numbers.PoolNo.{PoolNo}
use Rattle.abt_machine.proofs.workload.Parts.may_take_all.Goals as goal

pub returns : goal.returns
returns c =
    let may = may_take c.args.self.now c.args.s.0 in
    c.may_take_each.ensures ∙ sym (list_all-map may (λ (p : PoolNo). p.0) c.listed.result.now) ∙ ap (list_all may) c.listed.ensures
