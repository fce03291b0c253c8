use Rattle.std.proofs.Common.{subst, sym}
use Rattle.std.specs.Prelude.{IfSome}
use Rattle.abt_shell.proofs.Calls.{if-unread}
use Rattle.abt_compute.specs.Questions.{Names, question_of}
use Rattle.abt_compute.proofs.answers.answer.Goals as goal

pub returns-in-Subsequence-clause-named : goal.returns-in-Subsequence-clause-named
returns-in-Subsequence-clause-named g c =
    if-unread c.answer_of_two.result _
    (subst (λ asked. IfSome (g.F.Files.begun c.answer_of_two.new.files) (Names (question_of asked))) (sym c.in-Subsequence.is) c.answer_of_two.ensures.begun)

pub returns-in-Sort-clause-named : goal.returns-in-Sort-clause-named
returns-in-Sort-clause-named g c =
    if-unread c.answer_of_list.result _
    (subst (λ asked. IfSome (g.F.Files.begun c.answer_of_list.new.files) (Names (question_of asked))) (sym c.in-Sort.is) c.answer_of_list.ensures.begun)
