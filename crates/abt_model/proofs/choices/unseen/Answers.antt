use Rattle.std.proofs.Common.{◌∙◌, ap, arith, sym}
use Rattle.abt_machine.specs.Numbers.{pool_no}
use Rattle.abt_model.proofs.Hinting.{all-unseen, seen-more, unseen-more}
use Rattle.abt_model.proofs.choices.unseen.Goals.{then-not-lists+in_ok-push, else-not-lists}
use Rattle.abt_model.proofs.choices.unseen.Goals as goal

pub loop-p-preserved : goal.loop-p-preserved
loop-p-preserved c =
    let pools = c.args.pools.now in
    let seen = c.args.seen.now in
    let hints = c.loop-p.hints.items in
    let more = c.if-not-lists.hints.items in
    let at = c.loop-p.p-index in
    elim c.if-not-lists.branch [
      | then-not-lists+in_ok-push w ↦ unseen-more pools seen hints at (pool_no 0) c.loop-p-test.true c.loop-p.invariant more (ap (λ hs. hs.items) w.hints-is ∙ w.in_ok-push.ensures.items)
      | else-not-lists w ↦ seen-more pools seen hints at (pool_no 0) c.loop-p-test.true c.loop-p.invariant more (ap (λ hs. hs.items) w.hints-is) (sym c.lists.ensures ∙ w.if-not-lists.false)
    ]

pub returns : goal.returns
returns c = all-unseen c.args.pools.now c.args.seen.now c.loop-p.hints.items c.loop-p.p-index (omega (arith, c.loop-p-test.false, c.loop-p.auto.p-index-end)) c.loop-p.invariant
