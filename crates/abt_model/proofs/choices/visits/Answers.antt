use Rattle.std.proofs.Common.{◌≡◌, ◌∙◌, Some, ap, slice_get, sym}
use Rattle.std.proofs.lemmas.Result.{IfOk-weaker}
use Rattle.abt_machine.specs.State.{Frame}
use Rattle.abt_order.specs.Schedulers.{pool_numbers}
use Rattle.abt_model.proofs.Hinting.{any-visits, one-visits}
use Rattle.abt_model.proofs.Visiting.{pools-are}
use Rattle.abt_model.proofs.choices.visits.Goals as goal

pub returns-in-One : goal.returns-in-One
returns-in-One c =
    IfOk-weaker c.one.result _ _ (λ hints is. one-visits c.args.w.now c.args.z.now c.args.frame.now c.next_pool.result c.in-One.p hints.items c.next_pool.ensures c.in-One.is is) c.one.ensures

pub returns-in-Any : goal.returns-in-Any
returns-in-Any c =
    let W = c.args.w.now in
    let f = c.args.frame.now in
    let seen = ap pool_numbers c.as_slice.ensures.value ∙ ap (λ (f : Frame). f.seen) c.frame.view_is in
    let there : slice_get W.scheds f.sched ≡ Some c.sched.result.now = sym (ap (λ (f : Frame). slice_get W.scheds f.sched) c.frame.view_is) ∙ c.sched.ensures in
    IfOk-weaker c.unseen.result _ _ (λ hints tell. any-visits W c.args.z.now f c.items.result.now c.as_slice.result.now hints.items c.requires.valid
    (pools-are W c.args.z.now f c.sched.result.now c.items.result.now there c.items.ensures) seen tell) c.unseen.ensures
