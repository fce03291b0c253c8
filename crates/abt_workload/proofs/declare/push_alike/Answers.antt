use Rattle.std.proofs.Common.{◌∙◌, ◌-◌, ◌++◌, ◌∷◌, [], List, ap, arith, sym}
use Rattle.abt_machine.specs.Declaring.{alike}
use Rattle.abt_machine.specs.declared.workload.UnitPart.{UnitPart}
use Rattle.abt_workload.proofs.Copies.{alike-more, later-words, more-ops}
use Rattle.abt_workload.proofs.declare.push_alike.Goals as goal

pub loop-left-preserved : goal.loop-left-preserved
loop-left-preserved c =
    let i = c.loop-left.invariant in
    let n = c.loop-left.left in
    let m = c.args.said in
    let some = c.loop-left-test.true in
    let later = c.in_ok-later.ensures in
    let pushed = c.in_ok-push.ensures in
    let same = ap (λ (us : List UnitPart). us ++ alike (n - 1) m c.in_ok-later.later) pushed ∙ (ap (λ (p : UnitPart). (c.loop-left.units ++ c.loop-left.part ∷ []) ++ alike (n - 1) m p) later ∙ sym (alike-more n m c.loop-left.units c.loop-left.part (omega arith))) in
    record {
      units = same ∙ i.units;
      few_ops = more-ops c.push.new.self (alike (n - 1) m c.in_ok-later.later) c.loop-left.units (alike n m c.loop-left.part) same i.few_ops;
      words = later-words n m c.loop-left.part c.in_ok-later.later (omega arith) later i.words;
    }
