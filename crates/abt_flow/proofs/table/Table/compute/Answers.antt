use Rattle.std.proofs.Common.{◌≡◌, ◌+◌, ◌<◌, ◌≤◌, length, arith, set, suc}
use Rattle.std.specs.Vec.{with_item}
use Rattle.abt_machine.specs.declared.grammar.Format.TheVariants as format
use Rattle.abt_machine.proofs.Declared.{op-declared}
use Rattle.abt_machine.specs.Limits.{unit_operation_limit}
use Rattle.abt_flow.specs.Effects.{effect}
use Rattle.abt_flow.specs.Tables.{ComputesTo, UnitRuns, executed, memory_in}
use Rattle.abt_flow.proofs.Keys.{computed-other, computes-becomes, has-key, other-sets, point-keys}
use Rattle.abt_flow.proofs.Plain.{ok-both, ok-then}
use Rattle.abt_flow.proofs.Points.{HasValue}
use Rattle.abt_flow.proofs.Running.{goes-same, one-more, others-same, position-few, unit-read, unit-there}
use Rattle.abt_flow.proofs.table.Table.compute.Goals as goal

pub index_mut-requires : goal.index_mut-requires
index_mut-requires g c =
    let below : c.args.u.0 < length c.args.self.now.units.items = unit-there c.known.ensures c.requires.reached c.requires.runs in
    omega arith

pub compute-requires-clause-room : goal.compute-requires-clause-room
compute-requires-clause-room g c =
    let at = unit-read c.known.ensures c.requires.reached c.requires.runs c.index_mut.ensures.value in
    let few : c.index_mut.result.now.position ≤ unit_operation_limit format.Three = position-few c.known.ensures c.requires.reached c.requires.runs at in omega arith

pub compute-requires-clause-computed : goal.compute-requires-clause-computed
compute-requires-clause-computed g c =
    let at = unit-read c.known.ensures c.requires.reached c.requires.runs c.index_mut.ensures.value in
    computed-other c.args.op (c.requires.confluent.ops c.args.u.0 c.index_mut.result.now.position c.args.op (c.requires.here c.index_mut.result.now at)) c.requires.other

pub compute-requires-clause-key : goal.compute-requires-clause-key
compute-requires-clause-key g c =
    let at = unit-read c.known.ensures c.requires.reached c.requires.runs c.index_mut.ensures.value in
    has-key c.args.w.now c.args.op (length c.index_mut.result.now.keys.items)
    (op-declared c.args.w.now c.args.u.0 c.index_mut.result.now.position c.args.op c.known.ensures (c.requires.here c.index_mut.result.now at))
    (point-keys c.args.w.now (g.P.Work.returns c.args.work.now) (suc (executed c.args.self.now.units.items)) c.args.u.0 c.index_mut.result.now.position (memory_in c.index_mut.result.now)
    (c.requires.runs.follows.made c.args.u.0 c.index_mut.result.now at))

pub returns-clause-runs : goal.returns-clause-runs
returns-clause-runs g c =
    let at = unit-read c.known.ensures c.requires.reached c.requires.runs c.index_mut.ensures.value in
    ok-both (λ _. ComputesTo (effect c.args.op) (memory_in c.index_mut.result.now) (memory_in c.compute.new.self)) (λ _. c.compute.new.self.position ≡ c.index_mut.result.now.position + 1)
    (λ _. UnitRuns c.args.w.now (g.P.Work.returns c.args.work.now) c.args.u.0 (record c.args.self.now { units = with_item c.args.self.now.units c.args.u.0 c.compute.new.self })) c.compute.result
    (λ _ leads pos. record {
      follows = goes-same c.requires.reached c.requires.runs.follows c.compute.new.self at (c.requires.here c.index_mut.result.now at) pos
          (λ x e. other-sets c.args.op x c.requires.other e)
          (computes-becomes (g.P.Work.returns c.args.work.now) c.args.u.0 (HasValue c.args.w.now (g.P.Work.returns c.args.work.now) (executed c.args.self.now.units.items)) (effect c.args.op)
          (memory_in c.index_mut.result.now) (memory_in c.compute.new.self) leads);
      waits = c.requires.runs.waits;
      ready = c.requires.runs.ready;
      others = others-same c.requires.reached c.requires.runs.follows c.compute.new.self at (c.requires.here c.index_mut.result.now at) pos
          c.args.self.now.ready.items c.requires.runs.others;
    }) c.compute.ensures.memory c.compute.ensures.position

pub returns-clause-more : goal.returns-clause-more
returns-clause-more g c =
    let at = unit-read c.known.ensures c.requires.reached c.requires.runs c.index_mut.ensures.value in
    ok-then (λ _. c.compute.new.self.position ≡ c.index_mut.result.now.position + 1)
    (λ _. executed (set c.args.self.now.units.items c.args.u.0 c.compute.new.self) ≡ executed c.args.self.now.units.items + 1) c.compute.result
    (λ _ pos. one-more c.requires.reached c.requires.runs.follows c.compute.new.self at (c.requires.here c.index_mut.result.now at) pos) c.compute.ensures.position
