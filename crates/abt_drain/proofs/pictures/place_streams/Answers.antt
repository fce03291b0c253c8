-- One stream more.
use Rattle.std.proofs.Common.{◌≡◌, ◌+◌, ◌∷◌, length, suc, sym, ◌∙◌, ap, subst, arith}
use Rattle.std.specs.List.{All}
use Rattle.std.specs.Vec.Iter.{into_iter_items}
use Rattle.std.proofs.lemmas.List.Elements.{All-tail}
use Rattle.abt_machine.specs.declared.events.Shown.TheVariants as shows
use Rattle.abt_machine.specs.Numbers.{stream_no}
use Rattle.abt_calls.specs.Showing.{rows_as}
use Rattle.abt_drain.specs.Pictures.{LeavesWhatFits, placed, rows_left, units_in_parts}
use Rattle.abt_drain.proofs.Placing.{some-length, some-put}
use Rattle.abt_drain.proofs.pictures.place_streams.Goals as goal

pub loop-parts-preserved : goal.loop-parts-preserved
loop-parts-preserved c =
    let at = c.loop-parts in
    let parts = c.in-Some.parts in
    let left = into_iter_items c.next.new.self in
    let is : into_iter_items at.parts-iterator ≡ parts ∷ left = c.in-Some.ensures.steps.0 in
    let xs = rows_as (shows.Stream (stream_no at.s)) (units_in_parts parts) in
    let more : at.s + 1 ≡ suc at.s = omega arith in
    record {
      next = tt;
      finite = tt;
      rows = ap (λ s. placed (rows_left s left) c.place_parts.new.rows.items) more
          ∙ some-put xs at.rows.items c.place_parts.new.rows.items c.place_parts.ensures (rows_left (suc at.s) left) _ (ap (λ ps. placed (rows_left at.s ps) at.rows.items) (sym is) ∙ at.invariant.rows);
      fits = All-tail (LeavesWhatFits c.args.w.now) parts left (subst (All (LeavesWhatFits c.args.w.now)) is at.invariant.fits);
      units = some-length xs at.rows.items c.place_parts.new.rows.items c.place_parts.ensures ∙ at.invariant.units;
      many = (let were = at.invariant.many in let fewer = ap (λ ps. length ps) is in omega (arith, were, fewer));
      left = (let were = at.invariant.left in let gone = c.in-Some.ensures.steps.1 in let fewer = ap (λ ps. length ps) is in omega (arith, were, gone, fewer));
    }
