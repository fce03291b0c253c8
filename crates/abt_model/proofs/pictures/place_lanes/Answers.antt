-- One stream more.
use Rattle.std.proofs.Common.{◌≡◌, ◌∙◌, ap, option_copied, slice_get}
use Rattle.abt_model.specs.Pictures.{placed, rows_of_lane}
use Rattle.abt_model.proofs.Placing.{below-placed, looked-up}
use Rattle.abt_model.proofs.pictures.place_lanes.Goals as goal

pub loop-s-preserved : goal.loop-s-preserved
loop-s-preserved c =
    let at = c.loop-s in
    let there : option_copied c.get.result ≡ slice_get c.args.lanes.now at.s = looked-up c.args.lanes.now at.s c.get.result _ c.get.ensures.lookup.3 c.get.ensures.lookup.1 in
    record {
      rows =
          below-placed (λ s. rows_of_lane s (slice_get c.args.lanes.now s)) at.s c.args.rows.now.items at.rows.items c.place_lane.new.rows.items at.invariant.rows
          (c.in_ok-place_lane.ensures ∙ ap (λ held. placed (rows_of_lane at.s held) at.rows.items) there);
      end = at.invariant.end;
    }
