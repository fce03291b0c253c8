use Rattle.std.proofs.Common.{flat_map, map}
use Rattle.abt_machine.specs.Valid.{sched_in}
use Rattle.abt_machine.specs.declared.numbers.SchedNo.{SchedNo}
use Rattle.abt_machine.specs.declared.workload.UnitPart.{UnitPart}
use Rattle.abt_machine.proofs.Placing.{own-else, own-then}
use Rattle.abt_machine.proofs.workload.Parts.has_own_places.Goals as goal

pub returns-then-take_main_places : goal.returns-then-take_main_places
returns-then-take_main_places c =
    let xs = map (λ (g : SchedNo). g.0) c.args.self.now.mains in
    let ys = flat_map (λ (part : UnitPart). sched_in part.body) c.args.self.now.units in
    let first = rw c.items.ensures at c.take_main_places.ensures in
    let later = rw c.items-then-take_main_places.ensures at c.take_body_places.ensures in
    own-then c.take_main_places.result c.take_body_places.result c.take_main_places.new.taken c.take_body_places.new.taken xs ys c.if-take_main_places.true first later

pub returns-else-take_main_places : goal.returns-else-take_main_places
returns-else-take_main_places c =
    let xs = map (λ (g : SchedNo). g.0) c.args.self.now.mains in
    let ys = flat_map (λ (part : UnitPart). sched_in part.body) c.args.self.now.units in
    own-else c.take_main_places.result c.take_main_places.new.taken xs ys c.if-take_main_places.false (rw c.items.ensures at c.take_main_places.ensures)
