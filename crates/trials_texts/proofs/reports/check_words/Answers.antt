use Rattle.std.proofs.Common.{◌≡◌, Some}
use Rattle.abt_machine.specs.declared.operations.Op.TheVariants as op
use Rattle.abt_machine.specs.Workloads.{op_at}
use Rattle.abt_machine.proofs.Declared.{op-declared}
use Rattle.trials_texts.proofs.reports.check_words.Goals as goal

pub returns : goal.returns
returns g c =
    let says : op_at c.args.w.now 0 1 ≡ Some (op.Say 1) = cc in
    op-declared c.args.w.now 0 1 (op.Say 1) c.known.ensures says
