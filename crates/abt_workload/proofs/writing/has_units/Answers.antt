use Rattle.std.proofs.Common.{◌≡◌, ◌+◌, ◌&&◌, ◌∙◌, Bool, true, false, ap, drop, sym}
use Rattle.std.specs.List.{list_all}
use Rattle.abt_machine.specs.Canonical.{has_unit}
use Rattle.abt_workload.proofs.WritingLines.{all-from}
use Rattle.abt_workload.proofs.writing.has_units.Goals as goal

pub returns-then-not-has_unit : goal.returns-then-not-has_unit
returns-then-not-has_unit c =
    let units = c.args.w.now.units in
    let no : has_unit c.args.format c.unit.result.now ≡ false = sym c.has_unit.ensures ∙ c.if-not-has_unit.true in
    let here = all-from (has_unit c.args.format) units c.loop-u.u c.unit.result.now c.unit.ensures in
    sym (here ∙ ap (λ (b : Bool). b && list_all (has_unit c.args.format) (drop (c.loop-u.u + 1) units)) no) ∙ c.loop-u.invariant

pub loop-u-preserved : goal.loop-u-preserved
loop-u-preserved c =
    let units = c.args.w.now.units in
    let yes : has_unit c.args.format c.unit.result.now ≡ true = sym c.has_unit.ensures ∙ c.if-not-has_unit.false in
    let here = all-from (has_unit c.args.format) units c.loop-u.u c.unit.result.now c.unit.ensures in
    sym (here ∙ ap (λ (b : Bool). b && list_all (has_unit c.args.format) (drop (c.loop-u.u + 1) units)) yes) ∙ c.loop-u.invariant
