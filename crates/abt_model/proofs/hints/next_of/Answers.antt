use Rattle.std.proofs.Common.{◌≡◌, ◌∙◌, Some, ap, slice_get, sym}
use Rattle.abt_machine.specs.State.{Frame}
use Rattle.abt_model.proofs.Hinting.{some-listed}
use Rattle.abt_model.proofs.Visiting.{pools-are}
use Rattle.abt_model.proofs.hints.next_of.Goals as goal

pub unreachable-requires : goal.unreachable-requires
unreachable-requires c =
    let W = c.args.w.now in
    let f = c.args.frame.now in
    let there : slice_get W.scheds f.sched ≡ Some c.sched.result.now = sym (ap (λ (f : Frame). slice_get W.scheds f.sched) c.frame.view_is) ∙ c.sched.ensures in
    some-listed W c.args.z.now f c.items.result.now (pools-are W c.args.z.now f c.sched.result.now c.items.result.now there c.items.ensures) c.requires.under_way c.in-None.ensures.none
