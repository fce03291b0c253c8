-- One thing more.
use Rattle.std.proofs.Common.{◌≡◌, ◌∙◌, ap, option_copied, slice_get}
use Rattle.abt_machine.specs.Workloads.{thing_at}
use Rattle.abt_model.specs.Pictures.{placed, rows_of_thing}
use Rattle.abt_model.proofs.Placing.{below-placed, looked-up}
use Rattle.abt_model.proofs.pictures.place_things.Goals as goal

pub loop-x-preserved : goal.loop-x-preserved
loop-x-preserved c =
    let at = c.loop-x in
    let W = c.args.w.now in
    let there : option_copied c.get.result ≡ slice_get c.args.slots.now at.x = looked-up c.args.slots.now at.x c.get.result _ c.get.ensures.lookup.3 c.get.ensures.lookup.1 in
    record {
      rows =
          below-placed (λ x. rows_of_thing W x (thing_at W x) (slice_get c.args.slots.now x)) at.x c.args.rows.now.items at.rows.items c.place_thing.new.rows.items at.invariant.rows
          (c.in_ok-place_thing.ensures ∙ ap (λ held. placed (rows_of_thing W at.x (thing_at W at.x) held) at.rows.items) there);
      end = at.invariant.end;
    }
