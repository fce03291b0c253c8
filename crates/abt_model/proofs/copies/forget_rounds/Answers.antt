use Rattle.std.proofs.Common.{◌<◌, ◌∙◌, ap, get_or, length, rules, slice_set}
use Rattle.std.proofs.lemmas.List.Edits.{map_over_more}
use Rattle.abt_replay.specs.Unnumbered.{unnumbered_held}
use Rattle.abt_model.proofs.copies.forget_rounds.Goals as goal

pub loop-lane-preserved : goal.loop-lane-preserved
loop-lane-preserved c =
    let lt : c.loop-lane.lane-index < length c.args.lanes.now.items = search rules in
    let lane = get_or c.loop-lane.lane-items c.loop-lane.lane-index c.lane-item.result in
    let same = ap (get_or c.loop-lane.lane-items c.loop-lane.lane-index) c.lane-item.is in
    ap (slice_set c.loop-lane.lane-items c.loop-lane.lane-index) c.forget_rounds.ensures
    ∙ map_over_more unnumbered_held c.args.lanes.now.items c.loop-lane.lane-items c.loop-lane.lane-index lane lt c.loop-lane.invariant same
