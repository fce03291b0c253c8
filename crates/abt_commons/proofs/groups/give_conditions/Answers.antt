-- One thing more.
use Rattle.std.proofs.Common.{◌≡◌, ◌+◌, ◌++◌, [], drop, length, set, slice_get, sym, ◌∙◌, ap, ap₂, arith, append-nil, append_assoc}
use Rattle.std.proofs.lemmas.Bool.{ltb-false}
use Rattle.abt_machine.specs.declared.events.Shown.TheVariants as shows
use Rattle.abt_machine.specs.Monitors.{list_from}
use Rattle.abt_machine.specs.Numbers.{object_no}
use Rattle.abt_machine.specs.Values.{MonitorValue, conditions_from}
use Rattle.abt_calls.specs.Showing.{rows_as, rows_at}
use Rattle.abt_commons.specs.Groups.{rows_in}
use Rattle.abt_commons.proofs.Giving.{met, passed, rows-past, rows-taken}
use Rattle.abt_commons.proofs.groups.give_conditions.Goals as goal

pub returns-then-not-has_condition : goal.returns-then-not-has_condition
returns-then-not-has_condition c =
    let at = c.loop-number in
    let cs = conditions_from c.args.x.0 at.number (drop at.number c.args.w.now.objects) in
    let past = ltb-false at.cond (length at.monitor.conds) (sym c.has_condition.ensures ∙ c.if-not-has_condition.true) in
    sym (ap (λ rs. rows_in at.groups.items ++ rs) (rows-past cs at.cond at.monitor.conds past) ∙ append-nil (rows_in at.groups.items)) ∙ at.invariant.rows

pub loop-number-preserved-then-not-is_condition_of : goal.loop-number-preserved-then-not-is_condition_of
loop-number-preserved-then-not-is_condition_of c =
    let at = c.loop-number in
    let none = passed c.args.x.0 at.number c.args.w.now.objects c.thing.result c.thing.ensures (sym c.is_condition_of.ensures ∙ c.if-not-is_condition_of.true) in
    record {
      rows = ap (λ cs. rows_in at.groups.items ++ rows_at cs (drop at.cond at.monitor.conds)) (sym none) ∙ at.invariant.rows;
      few = (let few = at.invariant.few in omega (arith, few));
      end = at.invariant.end;
    }

pub loop-number-preserved : goal.loop-number-preserved
loop-number-preserved c =
    let at = c.loop-number in
    let cs = conditions_from c.args.x.0 (at.number + 1) (drop (at.number + 1) c.args.w.now.objects) in
    let next = met c.args.x.0 at.number c.args.w.now.objects c.thing.result c.thing.ensures (sym c.is_condition_of.ensures ∙ c.if-not-is_condition_of.false) in
    let left : c.take_waiters.new.self.conds ≡ set at.monitor.conds at.cond [] = ap (λ (m : MonitorValue). m.conds) c.take_waiters.ensures.left in
    let here = rows_as (shows.Object (object_no at.number)) (list_from (slice_get at.monitor.conds at.cond)) in
    let gave : rows_in c.give_alike.new.groups.items ≡ rows_in at.groups.items ++ here =
    c.in_ok-give_alike.ensures ∙ ap (λ os. rows_in at.groups.items ++ rows_as (shows.Object (object_no at.number)) os) c.take_waiters.ensures.units in
    record {
      rows =
          ap₂ (λ rs conds. rs ++ rows_at cs (drop (at.cond + 1) conds)) gave left
          ∙ (append_assoc (rows_in at.groups.items) here (rows_at cs (drop (at.cond + 1) (set at.monitor.conds at.cond [])))
          ∙ (ap (λ rs. rows_in at.groups.items ++ rs) (sym (rows-taken at.number cs at.cond at.monitor.conds))
          ∙ (ap (λ ds. rows_in at.groups.items ++ rows_at ds (drop at.cond at.monitor.conds)) (sym next)
          ∙ at.invariant.rows)));
      few = (let few = at.invariant.few in omega (arith, few));
      end = at.invariant.end;
    }
