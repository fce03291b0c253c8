use Rattle.std.proofs.Common.{◌≡◌, ◌+◌, ◌<◌, length, Some, refl, subst, sym}
use Rattle.abt_machine.specs.declared.numbers.PoolNo.{PoolNo}
use Rattle.abt_machine.specs.declared.operations.Op.TheVariants as op
use Rattle.abt_machine.specs.Workloads.{op_at}
use Rattle.abt_flow.specs.Flow.{Created}
use Rattle.abt_flow.specs.Tables.{AddsUnit, Finds, Grows, HasMarked}
use Rattle.abt_flow.proofs.Finds.{added, create-declared, creates-unit, marked-grown, marked-unit}
use Rattle.abt_flow.proofs.Plain.{ok-then}
use Rattle.abt_flow.proofs.reaching.Reached.add_created.Goals as goal

pub add-requires : goal.add-requires
add-requires c =
    let is : (p : PoolNo) × (op_at c.args.w.now c.args.u.0 c.args.k ≡ Some (op.Create c.in-Some.v p)) = creates-unit c.args.w.now c.args.u.0 c.args.k c.in-Some.v
    (op_at c.args.w.now c.args.u.0 c.args.k) refl c.in-Some.ensures in
    subst (λ n. c.in-Some.v.0 < n) (sym c.requires.finds.all) (create-declared c.args.w.now c.args.u.0 c.args.k c.in-Some.v is.0 c.known.ensures is.1)

pub returns-in-Some-clause-finds : goal.returns-in-Some-clause-finds
returns-in-Some-clause-finds c =
    let is : (p : PoolNo) × (op_at c.args.w.now c.args.u.0 c.args.k ≡ Some (op.Create c.in-Some.v p)) = creates-unit c.args.w.now c.args.u.0 c.args.k c.in-Some.v
    (op_at c.args.w.now c.args.u.0 c.args.k) refl c.in-Some.ensures in
    let declared : c.in-Some.v.0 < length c.args.w.now.units = create-declared c.args.w.now c.args.u.0 c.args.k c.in-Some.v is.0 c.known.ensures is.1 in
    ok-then (λ _. AddsUnit c.in-Some.v c.args.self.now.units.items c.args.self.now.marks.items c.add.new.self.units.items c.add.new.self.marks.items)
    (λ _. Finds c.args.w.now c.add.new.self.units.items c.add.new.self.marks.items) c.add.result
    (λ _ adds. let now = added c.args.w.now c.in-Some.v c.args.self.now.units.items c.add.new.self.units.items c.args.self.now.marks.items c.add.new.self.marks.items c.requires.finds declared
    (Created c.in-Some.v.0 c.args.u.0 c.args.k is.0 c.requires.reached is.1) adds in now.finds) c.add.ensures

pub returns-in-Some-clause-grows : goal.returns-in-Some-clause-grows
returns-in-Some-clause-grows c =
    let is : (p : PoolNo) × (op_at c.args.w.now c.args.u.0 c.args.k ≡ Some (op.Create c.in-Some.v p)) = creates-unit c.args.w.now c.args.u.0 c.args.k c.in-Some.v
    (op_at c.args.w.now c.args.u.0 c.args.k) refl c.in-Some.ensures in
    let declared : c.in-Some.v.0 < length c.args.w.now.units = create-declared c.args.w.now c.args.u.0 c.args.k c.in-Some.v is.0 c.known.ensures is.1 in
    ok-then (λ _. AddsUnit c.in-Some.v c.args.self.now.units.items c.args.self.now.marks.items c.add.new.self.units.items c.add.new.self.marks.items)
    (λ _. Grows c.args.self.now.units.items c.args.self.now.marks.items c.add.new.self.units.items c.add.new.self.marks.items) c.add.result
    (λ _ adds. let now = added c.args.w.now c.in-Some.v c.args.self.now.units.items c.add.new.self.units.items c.args.self.now.marks.items c.add.new.self.marks.items c.requires.finds declared
    (Created c.in-Some.v.0 c.args.u.0 c.args.k is.0 c.requires.reached is.1) adds in now.grows) c.add.ensures

pub returns-in-Some-clause-marked : goal.returns-in-Some-clause-marked
returns-in-Some-clause-marked c =
    let is : (p : PoolNo) × (op_at c.args.w.now c.args.u.0 c.args.k ≡ Some (op.Create c.in-Some.v p)) = creates-unit c.args.w.now c.args.u.0 c.args.k c.in-Some.v
    (op_at c.args.w.now c.args.u.0 c.args.k) refl c.in-Some.ensures in
    let declared : c.in-Some.v.0 < length c.args.w.now.units = create-declared c.args.w.now c.args.u.0 c.args.k c.in-Some.v is.0 c.known.ensures is.1 in
    ok-then (λ _. AddsUnit c.in-Some.v c.args.self.now.units.items c.args.self.now.marks.items c.add.new.self.units.items c.add.new.self.marks.items)
    (λ _. HasMarked c.args.w.now c.add.new.self.marks.items c.args.u.0 (c.args.k + 1)) c.add.result
    (λ _ adds. let now = added c.args.w.now c.in-Some.v c.args.self.now.units.items c.add.new.self.units.items c.args.self.now.marks.items c.add.new.self.marks.items c.requires.finds declared
    (Created c.in-Some.v.0 c.args.u.0 c.args.k is.0 c.requires.reached is.1) adds in marked-unit c.args.w.now c.add.new.self.marks.items c.args.u.0 c.args.k c.in-Some.v
    (marked-grown c.args.w.now c.args.self.now.units.items c.add.new.self.units.items c.args.self.now.marks.items
    c.add.new.self.marks.items c.args.u.0 c.args.k now.grows c.requires.marked) c.in-Some.ensures now.marked) c.add.ensures
