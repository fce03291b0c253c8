use Rattle.std.proofs.Common.{◌≡◌, ℕ, Some}
use Rattle.abt_machine.specs.Workloads.{start_of}
use Rattle.abt_flow.specs.Flow.{Starts}
use Rattle.abt_flow.specs.Tables.{AddsUnit, Finds, Grows, IsMarked}
use Rattle.abt_flow.proofs.Finds.{added}
use Rattle.abt_flow.proofs.Plain.{ok-then}
use Rattle.abt_flow.proofs.reaching.Reached.add_start.Goals as goal

pub returns-then-has_start-clause-finds : goal.returns-then-has_start-clause-finds
returns-then-has_start-clause-finds c =
    let start : (p : ℕ) × (start_of c.args.w.now c.args.u.0 ≡ Some p) = c.if-has_start.ensures in
    ok-then (λ _. AddsUnit c.args.u c.args.self.now.units.items c.args.self.now.marks.items c.add.new.self.units.items c.add.new.self.marks.items)
    (λ _. Finds c.args.w.now c.add.new.self.units.items c.add.new.self.marks.items) c.add.result
    (λ _ adds. let now = added c.args.w.now c.args.u c.args.self.now.units.items c.add.new.self.units.items c.args.self.now.marks.items c.add.new.self.marks.items c.requires.finds c.requires.unit
    (Starts c.args.u.0 start.0 start.1) adds in now.finds) c.add.ensures

pub returns-then-has_start-clause-grows : goal.returns-then-has_start-clause-grows
returns-then-has_start-clause-grows c =
    let start : (p : ℕ) × (start_of c.args.w.now c.args.u.0 ≡ Some p) = c.if-has_start.ensures in
    ok-then (λ _. AddsUnit c.args.u c.args.self.now.units.items c.args.self.now.marks.items c.add.new.self.units.items c.add.new.self.marks.items)
    (λ _. Grows c.args.self.now.units.items c.args.self.now.marks.items c.add.new.self.units.items c.add.new.self.marks.items) c.add.result
    (λ _ adds. let now = added c.args.w.now c.args.u c.args.self.now.units.items c.add.new.self.units.items c.args.self.now.marks.items c.add.new.self.marks.items c.requires.finds c.requires.unit
    (Starts c.args.u.0 start.0 start.1) adds in now.grows) c.add.ensures

pub returns-then-has_start-clause-marked : goal.returns-then-has_start-clause-marked
returns-then-has_start-clause-marked c =
    let start : (p : ℕ) × (start_of c.args.w.now c.args.u.0 ≡ Some p) = c.if-has_start.ensures in
    ok-then (λ _. AddsUnit c.args.u c.args.self.now.units.items c.args.self.now.marks.items c.add.new.self.units.items c.add.new.self.marks.items)
    (λ _. (p : ℕ) → start_of c.args.w.now c.args.u.0 ≡ Some p → IsMarked c.add.new.self.marks.items c.args.u.0) c.add.result
    (λ _ adds. let now = added c.args.w.now c.args.u c.args.self.now.units.items c.add.new.self.units.items c.args.self.now.marks.items c.add.new.self.marks.items c.requires.finds c.requires.unit
    (Starts c.args.u.0 start.0 start.1) adds in (λ p start. now.marked)) c.add.ensures
