use Rattle.std.proofs.Common.{◌<◌, ◌∙◌, ap, get_or, length, rules, slice_set}
use Rattle.std.proofs.lemmas.List.Edits.{map_over_more}
use Rattle.abt_replay.specs.Unnumbered.{unnumbered_frame}
use Rattle.abt_replay.proofs.frames.forget_rounds.Goals as goal

pub loop-frame-preserved : goal.loop-frame-preserved
loop-frame-preserved c =
    let lt : c.loop-frame.frame-index < length c.args.frames.now.items = search rules in
    let frame = get_or c.loop-frame.frame-items c.loop-frame.frame-index c.frame-item.result in
    let same = ap (get_or c.loop-frame.frame-items c.loop-frame.frame-index) c.frame-item.is in
    ap (slice_set c.loop-frame.frame-items c.loop-frame.frame-index) c.forget_round.ensures
    ∙ map_over_more unnumbered_frame c.args.frames.now.items c.loop-frame.frame-items c.loop-frame.frame-index frame lt c.loop-frame.invariant same
