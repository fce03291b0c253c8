-- One unit more.
use Rattle.std.proofs.Common.{◌≡◌, ◌∙◌, ◌+◌, [], ◌∷◌, ◌++◌, ap, sym, take}
use Rattle.std.proofs.lemmas.List.{take_more}
use Rattle.abt_calls.specs.Showing.{rows_as}
use Rattle.abt_model.specs.Pictures.{placed}
use Rattle.abt_model.proofs.Placing.{alike-placed}
use Rattle.abt_model.proofs.pictures.place_all.Goals as goal

pub loop-unit-preserved : goal.loop-unit-preserved
loop-unit-preserved c =
    let at = c.loop-unit in
    let units = c.args.units.now in
    let unit = c.unit-item.result in
    let more : take at.unit-index units ++ unit ∷ [] ≡ take (at.unit-index + 1) units =
    ap (λ u. take at.unit-index units ++ u ∷ []) c.unit-item.is ∙ sym (take_more units at.unit-index unit c.loop-unit-test.true) in
    alike-placed c.args.shown (take at.unit-index units) (unit ∷ []) c.args.rows.now.items at.rows.items c.place.new.rows.items at.invariant c.in_ok-place.ensures
    ∙ ap (λ os. placed (rows_as c.args.shown os) c.args.rows.now.items) more
