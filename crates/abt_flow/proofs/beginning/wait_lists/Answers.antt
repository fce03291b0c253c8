use Rattle.std.proofs.Common.{◌≡◌, ◌<◌, length, get_or, Some, sym, ◌∙◌, ap, subst, arith, inl, inr}
use Rattle.std.specs.Prelude.{slice_get}
use Rattle.std.proofs.lemmas.Bool.{cases_eq}
use Rattle.std.proofs.lemmas.List.Elements.{Contains-get_or}
use Rattle.std.proofs.lemmas.Option.{slice_get-get_or}
use Rattle.abt_machine.specs.declared.numbers.UnitNo.{UnitNo}
use Rattle.abt_machine.specs.Numbers.{unit_no}
use Rattle.abt_laws.proofs.Options.{some-injective}
use Rattle.abt_flow.specs.Tables.{HasWaitedAll}
use Rattle.abt_flow.proofs.Finds.{reached-declared}
use Rattle.abt_flow.proofs.Waiting.{all-longer}
use Rattle.abt_flow.proofs.beginning.wait_lists.Goals as goal

pub wait_unit-requires-clause-unit : goal.wait_unit-requires-clause-unit
wait_unit-requires-clause-unit c =
    let l : c.loop-u.u-index < length c.args.reached.now = omega arith in
    reached-declared c.args.w.now (get_or c.args.reached.now c.loop-u.u-index (unit_no 0)).0 c.known.ensures
    (c.requires (get_or c.args.reached.now c.loop-u.u-index (unit_no 0)) (Contains-get_or c.args.reached.now c.loop-u.u-index (unit_no 0) l))

pub loop-u-preserved : goal.loop-u-preserved
loop-u-preserved c =
    let l : c.loop-u.u-index < length c.args.reached.now = omega arith in
    record {
      listed = c.in_ok-wait_unit.ensures.listed;
      waited = λ i v below at. elim (cases_eq i c.loop-u.u-index) [
        | inl same ↦ (let e : get_or c.args.reached.now c.loop-u.u-index (unit_no 0) ≡ v = some-injective
            (sym (slice_get-get_or c.args.reached.now c.loop-u.u-index (unit_no 0) l) ∙ subst (λ j. slice_get c.args.reached.now j ≡ Some v) same at) in
            subst (λ (z : UnitNo). HasWaitedAll c.args.w.now c.wait_unit.new.waiting.items z.0) e c.in_ok-wait_unit.ensures.waited)
        | inr other ↦ all-longer c.args.w.now c.loop-u.waiting.items c.wait_unit.new.waiting.items v.0 c.in_ok-wait_unit.ensures.longer (c.loop-u.invariant.waited i v (omega arith) at)
      ];
    }

pub returns-clause-waited : goal.returns-clause-waited
returns-clause-waited c v has =
    let m = has.1 in
    c.loop-u.invariant.waited has.0 v (omega arith) (slice_get-get_or c.args.reached.now has.0 v has.1 ∙ ap (λ x. Some x) has.2)
