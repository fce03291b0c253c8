use Rattle.abt_shell.proofs.Fetched.{passed}
use Rattle.abt_compute.proofs.Fetching.{texts-prevent}
use Rattle.abt_compute.proofs.answers.answer_of_two.Goals as goal

pub returns-in_err-a-clause-stop : goal.returns-in_err-a-clause-stop
returns-in_err-a-clause-stop g c = λ file_of agree.
    passed c.from_residual.result c.in_err-a.field-0.0 _ c.from_residual.ensures.1 (texts-prevent file_of c.args.first.now c.args.second.now c.in_err-a.field-0.0 _
    (c.in_err-a.ensures.stop file_of agree))
