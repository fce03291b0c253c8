use Rattle.std.proofs.Common.{◌≡◌, ◌<◌, ◌∙◌, Bool, true, false, not, arith, sym}
use Rattle.abt_workload.proofs.Repeats.{found-again, seen-here, single-here}
use Rattle.abt_workload.proofs.numbers.has_repeated.Goals as goal

was-in : (b c : Bool) → b ≡ not c → b ≡ false → c ≡ true
was-in b true e f = cc
was-in b false e f = cc

was-new : (b c : Bool) → b ≡ not c → b ≡ true → c ≡ false
was-new b true e f = cc
was-new b false e f = cc

pub returns-then-not-branch : goal.returns-then-not-branch
returns-then-not-branch c =
    let here = was-in _ _ c.in_ok-insert.ensures.added c.if-not-branch.true in
    found-again c.args.numbers.now c.loop-left.left _ (omega arith) c.loop-left.invariant.within (sym (c.loop-left.invariant.seen _) ∙ here)

pub loop-left-preserved : goal.loop-left-preserved
loop-left-preserved c =
    let some : 0 < c.loop-left.left = omega arith in
    let within = c.loop-left.invariant.within in
    record {
      within = omega arith;
      seen = λ q. seen-here c.args.numbers.now c.loop-left.left _ q _ _ some within (c.in_ok-insert.ensures.updates.0 q) (c.loop-left.invariant.seen q);
      single = single-here c.args.numbers.now c.loop-left.left _ some within (sym (c.loop-left.invariant.seen _) ∙ was-new _ _ c.in_ok-insert.ensures.added c.if-not-branch.false) c.loop-left.invariant.single;
    }
