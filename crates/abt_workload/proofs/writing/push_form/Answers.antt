use Rattle.abt_workload.proofs.WritingLines.{headed}
use Rattle.abt_workload.proofs.writing.push_form.Goals as goal

pub push_words-requires : goal.push_words-requires
push_words-requires c = rw c.slots.ensures (headed c.args.form)
