use Rattle.std.proofs.Common.{◌≡◌, length, slice_get}
use Rattle.abt_model.specs.Pictures.{placed, rows_below, rows_of_desk}
use Rattle.abt_model.proofs.pictures.place_desks.Given as goal

abbrev pub invariant-loop-u : goal.invariant-loop-u
invariant-loop-u l = record {
  rows : l.rows.items ≡ placed (rows_below (λ u. rows_of_desk u (slice_get l.desks u)) l.u) l.fn.rows.items;
  end : l.u-end ≡ length l.w.units;
}
