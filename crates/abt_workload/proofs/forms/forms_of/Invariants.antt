use Rattle.abt_workload.proofs.forms.forms_of.Given as goal

abbrev pub invariant-loop-head : goal.invariant-loop-head
invariant-loop-head l = Unit {0}
