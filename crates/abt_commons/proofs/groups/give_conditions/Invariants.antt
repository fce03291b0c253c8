-- The conditions that are left.
use Rattle.std.proofs.Common.{◌≡◌, ◌≤◌, ◌++◌, drop, length}
use Rattle.abt_machine.specs.Values.{conditions_from, conditions_of}
use Rattle.abt_calls.specs.Showing.{rows_at}
use Rattle.abt_commons.specs.Groups.{rows_in}
use Rattle.abt_commons.proofs.groups.give_conditions.Given as goal

abbrev pub invariant-loop-number : goal.invariant-loop-number
invariant-loop-number l = record {
  rows : rows_in l.groups.items ++ rows_at (conditions_from l.x.0 l.number (drop l.number l.w.objects)) (drop l.cond l.monitor.conds) ≡ rows_in l.fn.groups.items ++ rows_at (conditions_of l.w l.x.0) l.fn.monitor.conds;
  few : l.cond ≤ l.number;
  end : l.number-end ≡ length l.w.objects;
}
