use Rattle.std.proofs.Common.{◌≡◌, ◌<◌, ◌≤◌, length, Some, ap, inl, sym, ◌∙◌, subst, arith, false, nat_le, get_or}
use Rattle.std.specs.Prelude.{slice_get}
use Rattle.std.proofs.lemmas.Bool.{leb-false, leb-true}
use Rattle.std.proofs.lemmas.Option.{slice_get-get_or}
use Rattle.abt_machine.specs.Workloads.{body_at, ops_of}
use Rattle.abt_laws.proofs.Options.{some-injective}
use Rattle.abt_flow.specs.declared.memory.Progress.{Progress}
use Rattle.abt_flow.specs.Flow.{IsReached}
use Rattle.abt_flow.specs.Tables.{IsDone, IsStuck}
use Rattle.abt_flow.proofs.Running.{read-at}
use Rattle.abt_flow.proofs.Stuck.{decided}
use Rattle.abt_flow.proofs.finding.is_done_at.Goals as goal

pub returns : goal.returns
returns c =
    let l : c.args.u < length c.args.units.now = (let e = c.requires.all in let d = c.requires.unit in omega arith) in
    let m : c.args.u < length c.args.marks.now = (let e = c.requires.marks.all in let d = c.requires.unit in omega arith) in
    let at : slice_get c.args.units.now c.args.u ≡ Some c.index-units-u.result = read-at c.args.units.now c.args.u c.index-units-u.result l c.index-units-u.is in
    let same : (get_or c.args.units.now c.args.u c.index-units-u.result).position ≡ c.index-units-u.result.position = ap (λ (p : Progress). p.position) (sym c.index-units-u.is) in
    let reached : IsReached c.args.w.now c.args.u = c.requires.marks.only c.args.u (slice_get-get_or c.args.marks.now c.args.u false m ∙ ap (λ b. Some b) c.if-not-marks-u.false) in
    let count = c.ops_count.ensures in
    decided (nat_le c.ops_count.result (get_or c.args.units.now c.args.u c.index-units-u.result).position) (IsDone c.args.w.now c.args.units.now c.args.u)
    (IsStuck c.args.w.now c.args.units.now c.args.u)
    (λ yes p here. inl (
      reached,
      (let le : c.ops_count.result ≤ (get_or c.args.units.now c.args.u c.index-units-u.result).position = leb-true c.ops_count.result
          (get_or c.args.units.now c.args.u c.index-units-u.result).position yes in
          let e : c.index-units-u.result ≡ p = some-injective (sym at ∙ here) in
          subst (λ (q : Progress). length (ops_of (body_at c.args.w.now c.args.u)) ≤ q.position) e
          (let r : length (ops_of (body_at c.args.w.now c.args.u)) ≤ c.index-units-u.result.position = omega arith in r)),
    ))
    (λ no. (
      reached,
      (
        c.index-units-u.result,
        at,
        (let lt : (get_or c.args.units.now c.args.u c.index-units-u.result).position < c.ops_count.result = leb-false c.ops_count.result
            (get_or c.args.units.now c.args.u c.index-units-u.result).position no in
            let r : c.index-units-u.result.position < length (ops_of (body_at c.args.w.now c.args.u)) = omega arith in r),
      ),
    ))
