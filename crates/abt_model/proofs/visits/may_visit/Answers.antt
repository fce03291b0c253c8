use Rattle.std.proofs.Common.{◌≡◌, Some, ap, slice_get, sym, ◌∙◌}
use Rattle.abt_machine.specs.State.{Frame}
use Rattle.abt_order.specs.Schedulers.{pool_numbers}
use Rattle.abt_model.proofs.Visiting.{one-visit, open-visit, pools-are}
use Rattle.abt_model.proofs.visits.may_visit.Goals as goal

pub returns-in-One : goal.returns-in-One
returns-in-One c = one-visit c.args.w.now c.args.z.now c.args.frame.now c.next_pool.result c.in-One.next c.args.p.0 c.requires.under_way c.next_pool.ensures c.in-One.is

pub returns-in-Any : goal.returns-in-Any
returns-in-Any c =
    let W = c.args.w.now in
    let f = c.args.frame.now in
    let there : slice_get W.scheds f.sched ≡ Some c.sched.result.now = sym (ap (λ (f : Frame). slice_get W.scheds f.sched) c.frame.view_is) ∙ c.sched.ensures in
    open-visit W c.args.z.now f c.next_pool.result (pool_numbers c.items.result.now) (pool_numbers c.as_slice.result.now) c.is_open.result c.args.p.0 c.requires.valid c.requires.under_way c.next_pool.ensures c.in-Any.is
    (pools-are W c.args.z.now f c.sched.result.now c.items.result.now there c.items.ensures) (ap pool_numbers c.as_slice.ensures.value ∙ ap (λ (f : Frame). f.seen) c.frame.view_is) c.is_open.ensures
