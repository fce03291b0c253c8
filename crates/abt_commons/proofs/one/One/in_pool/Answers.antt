-- A unit in a pool, as a row.
use Rattle.std.proofs.Common.{sym, ◌∙◌, ap}
use Rattle.std.specs.Prelude.{option_map}
use Rattle.std.specs.List.{find}
use Rattle.abt_machine.specs.declared.events.Shown.TheVariants as shows
use Rattle.abt_machine.specs.declared.events.Site.TheVariants as site
use Rattle.abt_machine.specs.Values.{Owned}
use Rattle.abt_calls.specs.Showing.{rows_of_object}
use Rattle.abt_commons.specs.Held.{OneValue}
use Rattle.abt_commons.specs.Kinds.{object_in}
use Rattle.abt_commons.specs.Reading.{is_row_of}
use Rattle.abt_commons.proofs.Rows.{found-as}
use Rattle.abt_commons.proofs.one.One.in_pool.Goals as goal

pub returns-in-Some : goal.returns-in-Some
returns-in-Some c =
    let rows = ap (λ (one : OneValue). rows_of_object one.workload (site.Pool c.args.p) one.object) (sym c.self.view_is) ∙ ap (λ s. rows_of_object c.self.inside.w.now (site.Pool c.args.p) (object_in s)) (sym c.deref.ensures ∙ c.in-Pool.is) in
    ap (find (is_row_of c.args.u.0)) rows ∙ (found-as c.args.u.0 (shows.Pool c.args.p) c.in-Pool.pool.units ∙ ap (option_map (λ (o : Owned). (shows.Pool c.args.p, o))) c.in-Some.ensures)

pub returns-in-None : goal.returns-in-None
returns-in-None c =
    let rows = ap (λ (one : OneValue). rows_of_object one.workload (site.Pool c.args.p) one.object) (sym c.self.view_is) ∙ ap (λ s. rows_of_object c.self.inside.w.now (site.Pool c.args.p) (object_in s)) (sym c.deref.ensures ∙ c.in-Pool.is) in
    ap (find (is_row_of c.args.u.0)) rows ∙ (found-as c.args.u.0 (shows.Pool c.args.p) c.in-Pool.pool.units ∙ ap (option_map (λ (o : Owned). (shows.Pool c.args.p, o))) c.in-None.ensures)
