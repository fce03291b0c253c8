use Rattle.abt_workload.proofs.Answering.{not-both, read-or-refused, reads-once, refuses-once}
use Rattle.abt_workload.proofs.laws.each_text_has_one_answer.Goals as goal

pub returns : goal.returns
returns c = record { one_of_both = read-or-refused; not_both = not-both; one_workload = reads-once; one_refusal = refuses-once }
