use Rattle.std.proofs.Common.{◌≡◌, ◌≢◌, ◌<◌, ◌≤◌, ◌∙◌, length, List, arith, ap, subst, sym}
use Rattle.std.specs.Prelude.{slice_index_or}
use Rattle.abt_machine.specs.declared.grammar.Format.TheVariants as format
use Rattle.abt_machine.specs.Limits.{unit_operation_limit}
use Rattle.abt_machine.proofs.Declared.{few-unit-ops}
use Rattle.abt_flow.specs.Finishing.{op_count}
use Rattle.abt_orderly.specs.declared.scanning.Standing.{Standing}
use Rattle.abt_orderly.specs.declared.scanning.Standing.TheVariants as standing
use Rattle.abt_orderly.specs.Passing.{AreStanding, done_at}
use Rattle.abt_orderly.proofs.Entries.{read-is}
use Rattle.abt_orderly.proofs.Keeping.{looks}
use Rattle.abt_orderly.proofs.passing.Passing.pass.Goals as goal

pub create-requires-clause-all : goal.create-requires-clause-all
create-requires-clause-all c = ap length c.in_ok-meet.ensures.done ∙ c.requires.passes.all

pub create-requires-clause-standing : goal.create-requires-clause-standing
create-requires-clause-standing c =
    subst (λ ss. AreStanding c.args.w.now c.meet.new.self.done.items ss) (sym c.in_ok-meet.ensures.standing)
    (subst (λ ds. AreStanding c.args.w.now ds c.args.self.now.standing.items) (sym c.in_ok-meet.ensures.done) c.requires.passes.standing)

pub create-requires-clause-born : goal.create-requires-clause-born
create-requires-clause-born c = subst (λ (ss : List Standing). slice_index_or ss c.args.u.0 standing.Unborn ≢ standing.Unborn) (sym c.in_ok-meet.ensures.standing) c.requires.may.born

pub overflow_add-index_mut : goal.overflow_add-index_mut
overflow_add-index_mut c =
    let e : c.create.new.self.done.items ≡ c.args.self.now.done.items = c.in_ok-create.ensures.done ∙ c.in_ok-meet.ensures.done in
    let below : c.args.u.0 < length c.create.new.self.done.items = (let l = ap length e in let a = c.requires.passes.all in let u = c.requires.unit in omega arith) in
    let at : done_at c.create.new.self.done.items c.args.u.0 ≡ c.index_mut.result.now = read-is c.create.new.self.done.items c.args.u.0 c.index_mut.result.now 0 below c.index_mut.ensures.value in
    let same : done_at c.create.new.self.done.items c.args.u.0 ≡ done_at c.args.self.now.done.items c.args.u.0 = ap (λ ds. done_at ds c.args.u.0) e in
    let few : op_count c.args.w.now c.args.u.0 ≤ unit_operation_limit format.Three = few-unit-ops c.args.w.now c.args.u.0 c.known.ensures in
    let there = c.requires.may.there in omega arith

pub returns : goal.returns
returns c =
    looks c.args.w.now c.args.self.now c.meet.new.self c.create.new.self c.args.u c.requires.unit c.requires.passes c.requires.may c.in_ok-meet.ensures c.in_ok-create.ensures
    c.index_mut.result.now c.index_mut.ensures.value c.push.new.self c.in_ok-push.ensures.items
