use Rattle.std.proofs.Common.{◌≡◌, length, slice_get}
use Rattle.abt_model.specs.Pictures.{placed, rows_below, rows_of_pool}
use Rattle.abt_model.proofs.pictures.place_pools.Given as goal

abbrev pub invariant-loop-p : goal.invariant-loop-p
invariant-loop-p l = record {
  rows : l.rows.items ≡ placed (rows_below (λ p. rows_of_pool p (slice_get l.pools p)) l.p) l.fn.rows.items;
  end : l.p-end ≡ length l.w.pools;
}
