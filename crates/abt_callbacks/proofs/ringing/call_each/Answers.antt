use Rattle.std.proofs.Common.{◌≡◌, ◌<◌, ◌+◌, List, [], ◌∷◌, ◌++◌, ℕ, get_or, length, length-append, take, arith, rules, subst, sym, ◌∙◌, ap}
use Rattle.abt_callbacks.specs.Ending.{AnswersAgree}
use Rattle.abt_callbacks.proofs.Rounds.{next-none, next-some}
use Rattle.abt_callbacks.proofs.ringing.call_each.Goals as goal
use Rattle.abt_callbacks.proofs.ringing.call_each.Goals.{in-Some, in_default}

pub loop-key-preserved : goal.loop-key-preserved
loop-key-preserved g c =
    let ends = c.args.ends.now in
    let values = c.args.values.now in
    let k = c.loop-key.key in
    let i = c.loop-key.invariant in
    let lt : k < length ends = search rules in
    let many : k < length values = omega arith in
    let end = c.index-ends-key.result in
    let there : get_or ends k end ≡ end = sym c.index-ends-key.is in
    let R : List ℕ → Type 0 = λ l. AnswersAgree g.E.End.may_answer (take (k + 1) ends) (take (k + 1) values) l in
    elim c.match-values-key.branch [
      | in-Some w ↦
          let pushed : c.match-values-key.answers.items ≡ c.loop-key.answers.items ++ w.answer.result ∷ [] = ap (λ v. v.items) w.answers-is ∙ w.push_reserved.ensures.items in record {
            few = let n = ap length pushed in let m = length-append c.loop-key.answers.items (w.answer.result ∷ []) in omega arith;
            room = search rules;
            answered = subst R (sym pushed) (next-some g.E.End.may_answer ends values c.loop-key.answers.items k lt many i.answered end there w.in-Some.value w.answer.result w.in-Some.is w.answer.ensures);
          }
      | in_default w ↦
          let kept : c.match-values-key.answers.items ≡ c.loop-key.answers.items = ap (λ v. v.items) w.answers-is in record {
            few = let n = ap length kept in omega arith;
            room = search rules;
            answered = subst R (sym kept) (next-none g.E.End.may_answer ends values c.loop-key.answers.items k lt many i.answered end there w.in_default.is);
          }
    ]
