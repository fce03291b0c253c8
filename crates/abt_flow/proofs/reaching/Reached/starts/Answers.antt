use Rattle.std.proofs.Common.{◌≡◌, ◌∙◌, [], length, replicate, false, ap, subst, sym, arith}
use Rattle.std.proofs.lemmas.Bool.{cases_lt}
use Rattle.abt_laws.proofs.Options.{none≢some}
use Rattle.abt_flow.specs.Tables.{Finds}
use Rattle.abt_flow.proofs.Finds.{none-found}
use Rattle.std.proofs.Common.{inl, inr}
use Rattle.abt_machine.proofs.Declared.{undeclared-start}
use Rattle.abt_flow.proofs.reaching.Reached.starts.Goals as goal

pub loop-u-init : goal.loop-u-init
loop-u-init c =
    let marks : c.in_ok-vec.field-0.items ≡ replicate (length c.args.w.now.units) false = c.in_ok-vec.ensures.items_if_clones_equal (λ y e. e) ∙ ap (λ n. replicate n false) c.units.ensures in
    record {
      finds = subst (λ us. Finds c.args.w.now us c.in_ok-vec.field-0.items) (sym c.new.ensures.items) (subst (Finds c.args.w.now []) (sym marks) (none-found c.args.w.now));
      marked = λ v l. absurd (omega arith);
    }

pub returns-clause-marked : goal.returns-clause-marked
returns-clause-marked c u p start =
    elim (cases_lt u (length c.args.w.now.units)) [
      | inl l ↦ (let m = c.units-u-end.ensures in let n = c.loop-u-test.false in c.loop-u.invariant.marked u (omega arith) p start)
      | inr l ↦ absurd (none≢some (sym (undeclared-start c.args.w.now u l) ∙ start))
    ]
