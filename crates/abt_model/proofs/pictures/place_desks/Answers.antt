-- One desk more.
use Rattle.std.proofs.Common.{◌≡◌, ◌∙◌, ap, option_copied, slice_get}
use Rattle.abt_model.specs.Pictures.{placed, rows_of_desk}
use Rattle.abt_model.proofs.Placing.{below-placed, looked-up}
use Rattle.abt_model.proofs.pictures.place_desks.Goals as goal

pub loop-u-preserved : goal.loop-u-preserved
loop-u-preserved c =
    let at = c.loop-u in
    let there : option_copied c.get.result ≡ slice_get c.args.desks.now at.u = looked-up c.args.desks.now at.u c.get.result _ c.get.ensures.lookup.3 c.get.ensures.lookup.1 in
    record {
      rows =
          below-placed (λ u. rows_of_desk u (slice_get c.args.desks.now u)) at.u c.args.rows.now.items at.rows.items c.place_desk.new.rows.items at.invariant.rows
          (c.in_ok-place_desk.ensures ∙ ap (λ held. placed (rows_of_desk at.u held) at.rows.items) there);
      end = at.invariant.end;
    }
