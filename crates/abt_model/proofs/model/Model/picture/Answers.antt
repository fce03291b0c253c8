-- All units are put in.
use Rattle.std.proofs.Common.{◌≡◌, ◌∙◌, List, ap, length, replicate, slice_get, subst, sym}
use Rattle.abt_machine.specs.Values.{DeskValue, Held, Object, PoolValue}
use Rattle.abt_machine.specs.Workloads.{thing_at}
use Rattle.abt_model.specs.Models.{ModelValue}
use Rattle.abt_model.specs.Pictures.{SaysWords, ShowsUnits, blank, placed, rows_below, rows_of_desk, rows_of_lane, rows_of_pool, rows_of_thing}
use Rattle.abt_model.proofs.Picturing.{all-placed, model_rows, says-words, shows-units}
use Rattle.abt_model.proofs.model.Model.picture.Goals as goal

-- what the picture is made of
put : (c : goal.After-new) → c.new.result ≡ placed (model_rows c.args.w.now c.args.self.now) (replicate (length c.args.w.now.units) blank)
put c =
    let W = c.args.w.now in
    let inside : ModelValue = record { lanes = c.self.inside.lanes.items; objects = c.self.inside.objects } in
    let blanks = c.in_ok-rows.rows.items in
    let one = c.place_lanes.new.rows.items in
    let two = c.place_pools.new.rows.items in
    let three = c.place_desks.new.rows.items in
    let all = all-placed W inside blanks one two three c.place_things.new.rows.items
    (c.in_ok-place_lanes.ensures ∙ ap (λ (xs : List Held). placed (rows_below (λ s. rows_of_lane s (slice_get xs s)) W.streams) blanks) c.deref.ensures.value)
    (c.in_ok-place_pools.ensures ∙ ap (λ (xs : List PoolValue). placed (rows_below (λ p. rows_of_pool p (slice_get xs p)) (length W.pools)) one) c.pools.ensures)
    (c.in_ok-place_desks.ensures ∙ ap (λ (xs : List DeskValue). placed (rows_below (λ u. rows_of_desk u (slice_get xs u)) (length W.units)) two) c.desks.ensures)
    (c.in_ok-place_things.ensures ∙ ap (λ (xs : List Object). placed (rows_below (λ x. rows_of_thing W x (thing_at W x) (slice_get xs x)) (length W.objects)) three) c.slots.ensures) in
    c.new.ensures
    ∙ (all
    ∙ (ap (λ (model : ModelValue). placed (model_rows W model) blanks) c.self.view_is
    ∙ ap (placed (model_rows W c.args.self.now)) (c.in_ok-rows.ensures ∙ ap (λ n. replicate n blank) c.units.ensures)))

pub returns-clause-shown : goal.returns-clause-shown
returns-clause-shown c = subst (ShowsUnits c.args.w.now c.args.self.now) (sym (put c)) (shows-units c.args.w.now c.args.self.now c.known.ensures)

pub returns-clause-words : goal.returns-clause-words
returns-clause-words c = subst (SaysWords c.args.w.now c.args.self.now) (sym (put c)) (says-words c.args.w.now c.args.self.now (length c.args.w.now.units))
