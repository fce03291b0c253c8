use Rattle.std.proofs.Common.{◌∙◌, sym}
use Rattle.abt_workload.proofs.Verdicts.{line-judged, line-number, on-true}
use Rattle.abt_workload.proofs.draft.Draft.judge.Goals as goal

pub returns-then-not-branch : goal.returns-then-not-branch
returns-then-not-branch c = line-number _ _ _ _ c.in-Sound.ensures _ c.in_ok-find_numbers.ensures.all c.if-not-branch.true

pub returns-in-Some : goal.returns-in-Some
returns-in-Some c =
    let all = c.in_ok-find_numbers.ensures in
    line-judged _ _ _ _ c.in-Sound.ensures c.deref.result.now _ (sym all.all ∙ c.if-not-branch.false) (c.deref.ensures.value ∙ on-true _ c.if-not-branch.false all.numbers) (sym c.in-Some.is ∙ c.in_ok-fault.ensures)

pub returns-in-None : goal.returns-in-None
returns-in-None c =
    let all = c.in_ok-find_numbers.ensures in
    (line-judged _ _ _ _ c.in-Sound.ensures c.deref.result.now _ (sym all.all ∙ c.if-not-branch.false) (c.deref.ensures.value ∙ on-true _ c.if-not-branch.false all.numbers) (sym c.in-None.is ∙ c.in_ok-fault.ensures), c.in-Sound.ensures.form_is, on-true _ c.if-not-branch.false all.numbers)
