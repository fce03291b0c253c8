-- One pool more.
use Rattle.std.proofs.Common.{◌≡◌, ◌∙◌, ap, option_copied, slice_get}
use Rattle.abt_model.specs.Pictures.{placed, rows_of_pool}
use Rattle.abt_model.proofs.Placing.{below-placed, looked-up}
use Rattle.abt_model.proofs.pictures.place_pools.Goals as goal

pub loop-p-preserved : goal.loop-p-preserved
loop-p-preserved c =
    let at = c.loop-p in
    let there : option_copied c.get.result ≡ slice_get c.args.pools.now at.p = looked-up c.args.pools.now at.p c.get.result _ c.get.ensures.lookup.3 c.get.ensures.lookup.1 in
    record {
      rows =
          below-placed (λ p. rows_of_pool p (slice_get c.args.pools.now p)) at.p c.args.rows.now.items at.rows.items c.place_pool.new.rows.items at.invariant.rows
          (c.in_ok-place_pool.ensures ∙ ap (λ held. placed (rows_of_pool at.p held) at.rows.items) there);
      end = at.invariant.end;
    }
