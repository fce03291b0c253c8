use Rattle.std.proofs.Common.{◌≡◌, slice_get}
use Rattle.abt_model.specs.Pictures.{placed, rows_below, rows_of_lane}
use Rattle.abt_model.proofs.pictures.place_lanes.Given as goal

abbrev pub invariant-loop-s : goal.invariant-loop-s
invariant-loop-s l = record {
  rows : l.rows.items ≡ placed (rows_below (λ s. rows_of_lane s (slice_get l.lanes s)) l.s) l.fn.rows.items;
  end : l.s-end ≡ l.w.streams;
}
