-- One thing more.
use Rattle.std.proofs.Common.{◌∙◌, ◌+◌, ap, ap₂, drop, length, sym}
use Rattle.std.proofs.lemmas.Bool.{eqb-true}
use Rattle.std.proofs.lemmas.List.{nil_from_length}
use Rattle.abt_machine.specs.declared.events.Shown.TheVariants as shows
use Rattle.abt_machine.specs.Monitors.{list_from}
use Rattle.abt_machine.specs.Numbers.{object_no}
use Rattle.abt_machine.specs.Queues.{first}
use Rattle.abt_machine.specs.Values.{conditions_from}
use Rattle.abt_calls.specs.Showing.{rows_as, rows_at}
use Rattle.abt_model.specs.Pictures.{placed}
use Rattle.abt_model.proofs.Placing.{first-rows, met, passed, placed-append, rows-nowhere}
use Rattle.abt_model.proofs.pictures.place_conditions.Goals as goal

pub returns-then-is_empty : goal.returns-then-is_empty
returns-then-is_empty c =
    let at = c.loop-y in
    let cs = conditions_from c.args.x.0 at.y (drop at.y c.args.w.now.objects) in
    let none = nil_from_length at.left.now (eqb-true (length at.left.now) 0 (sym c.is_empty.ensures ∙ c.if-is_empty.true)) in
    sym (ap (λ rs. placed rs at.rows.items) (ap (rows_at cs) none ∙ rows-nowhere cs)) ∙ at.invariant.rows

pub loop-y-preserved-then-not-is_condition_of : goal.loop-y-preserved-then-not-is_condition_of
loop-y-preserved-then-not-is_condition_of c =
    let at = c.loop-y in
    let none = passed c.args.x.0 at.y c.args.w.now.objects c.thing.result c.thing.ensures (sym c.is_condition_of.ensures ∙ c.if-not-is_condition_of.true) in
    record { rows = ap (λ cs. placed (rows_at cs at.left.now) at.rows.items) (sym none) ∙ at.invariant.rows; end = at.invariant.end }

pub loop-y-preserved : goal.loop-y-preserved
loop-y-preserved c =
    let at = c.loop-y in
    let cs = conditions_from c.args.x.0 (at.y + 1) (drop (at.y + 1) c.args.w.now.objects) in
    let next = met c.args.x.0 at.y c.args.w.now.objects c.thing.result c.thing.ensures (sym c.is_condition_of.ensures ∙ c.if-not-is_condition_of.false) in
    let here = rows_as (shows.Object (object_no at.y)) (list_from (first at.left.now)) in
    record {
      rows =
          ap₂ (λ conds rows. placed (rows_at cs conds) rows) c.in_ok-left.ensures.left c.in_ok-left.ensures.rows
          ∙ (sym (placed-append here (rows_at cs (drop 1 at.left.now)) at.rows.items)
          ∙ (ap (λ rs. placed rs at.rows.items) (sym (first-rows at.y cs at.left.now))
          ∙ (ap (λ ds. placed (rows_at ds at.left.now) at.rows.items) (sym next)
          ∙ at.invariant.rows)));
      end = at.invariant.end;
    }
