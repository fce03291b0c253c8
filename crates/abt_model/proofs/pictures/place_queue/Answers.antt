-- The two parts of a queue.
use Rattle.std.proofs.Common.{◌∙◌, ap}
use Rattle.std.proofs.lemmas.Result.{IfOk-weaker}
use Rattle.abt_calls.specs.Showing.{rows_as}
use Rattle.abt_model.specs.Pictures.{placed}
use Rattle.abt_model.proofs.Placing.{alike-placed}
use Rattle.abt_model.proofs.pictures.place_queue.Goals as goal

pub returns : goal.returns
returns c =
    let old = c.args.rows.now.items in
    let parts = c.as_slices.result in
    IfOk-weaker c.place_all-2.result _ _ (λ _ put. alike-placed c.args.shown parts.0.now parts.1.now old _ _ c.in_ok-place_all.ensures put
    ∙ ap (λ os. placed (rows_as c.args.shown os) old) c.as_slices.ensures.items) c.place_all-2.ensures
