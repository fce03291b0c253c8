-- The four kinds of units that a stream holds.
use Rattle.std.proofs.Common.{◌≡◌, ◌∙◌, ◌++◌, List, Option, ap}
use Rattle.std.proofs.lemmas.Result.{IfOk-weaker}
use Rattle.abt_machine.specs.Values.{Owned}
use Rattle.abt_calls.specs.Effects.{unit_in}
use Rattle.abt_calls.specs.Showing.{rows_as}
use Rattle.abt_report.specs.declared.pictures.Row.{Row}
use Rattle.abt_model.specs.Pictures.{placed}
use Rattle.abt_model.proofs.Placing.{alike-placed}
use Rattle.abt_model.proofs.pictures.place_parts.Goals as goal

pub returns : goal.returns
returns c =
    let x = c.args.shown in
    let lane = c.args.lane.now in
    let old = c.args.rows.now.items in
    let one = c.place_some.new.rows.items in
    let two = c.place_some-2.new.rows.items in
    let three = c.place_queue.new.rows.items in
    let some : List Row → Option Owned → List Row = λ rows o. placed (rows_as x (unit_in o)) rows in
    let all : List Row → List Owned → List Row = λ rows os. placed (rows_as x os) rows in
    let hand : one ≡ all old (unit_in lane.hand) = c.in_ok-place_some.ensures ∙ ap (some old) c.hand.ensures in
    let next : two ≡ all one (unit_in lane.next) = c.in_ok-place_some-2.ensures ∙ ap (some one) c.next.ensures in
    let tray : three ≡ all two lane.tray = c.in_ok-place_queue.ensures ∙ ap (all two) c.tray.ensures in
    let both : two ≡ all old (unit_in lane.hand ++ unit_in lane.next) = alike-placed x (unit_in lane.hand) (unit_in lane.next) old one two hand next in
    let most : three ≡ all old (unit_in lane.hand ++ unit_in lane.next ++ lane.tray) = alike-placed x (unit_in lane.hand ++ unit_in lane.next) lane.tray old two three both tray in
    IfOk-weaker c.place_all.result _ _ (λ _ put. alike-placed x (unit_in lane.hand ++ unit_in lane.next ++ lane.tray) lane.framed old three c.place_all.new.rows.items most
    (put ∙ ap (all three) c.framed.ensures)) c.place_all.ensures
