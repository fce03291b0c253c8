use Rattle.std.proofs.Common.{◌≤◌, length, take, vec_capacity}
use Rattle.abt_callbacks.specs.Ending.{AnswersAgree}
use Rattle.abt_callbacks.proofs.ringing.call_each.Given as goal

abbrev pub invariant-loop-key : goal.invariant-loop-key
invariant-loop-key g l = record {
  few : length l.answers.items ≤ l.key;
  room : length l.ends ≤ vec_capacity l.answers;
  answered : AnswersAgree g.E.End.may_answer (take l.key l.ends) (take l.key l.values) l.answers.items;
}
