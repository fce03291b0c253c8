use Rattle.abt_run.proofs.Texts.{refused-by}
use Rattle.abt_run.proofs.fetching.workload_in.Goals as goal

pub returns-in_ok-said-in-Err-Refused-clause-stop : goal.returns-in_ok-said-in-Err-Refused-clause-stop
returns-in_ok-said-in-Err-Refused-clause-stop c = λ faults.
    (refused-by c.args.bytes.now c.in-Err-Refused.field-0 c.in-Err-Refused.line _ c.in-Err-Refused.fault _ c.in-Err-Refused.field-0-is c.in-Err-Refused.line-is c.in-Err-Refused.fault-is c.in-Err-Refused.ensures.refused, c.in_ok-said-in-Err-Refused.ensures)
