use Rattle.std.proofs.Common.{◌≡◌, ◌+◌, ◌<◌, ◌≤◌, length, Some, None, sym, ◌∙◌, ap, subst, arith}
use Rattle.std.specs.Prelude.{slice_get}
use Rattle.abt_machine.specs.declared.grammar.Format.TheVariants as format
use Rattle.abt_machine.specs.Limits.{unit_operation_limit}
use Rattle.abt_flow.specs.declared.memory.Progress.{Progress}
use Rattle.abt_flow.specs.Tables.{Halts, memory_in}
use Rattle.abt_flow.proofs.Running.{goes-same, one-more, others-same, position-few, read-at, unit-read, unit-there, wait-there}
use Rattle.abt_flow.proofs.table.Table.await_value.Goals as goal

pub index-requires : goal.index-requires
index-requires g c =
    let l : c.args.x.0 < length c.args.w.now.objects = wait-there c.known.ensures c.requires.reached c.requires.runs c.requires.here in
    let e = c.requires.runs.follows.values_all in omega arith

pub index_mut-requires : goal.index_mut-requires
index_mut-requires g c = let l : c.args.u.0 < length c.args.self.now.units.items = unit-there c.known.ensures c.requires.reached c.requires.runs in omega arith

pub receive-requires : goal.receive-requires
receive-requires g c =
    let at = unit-read c.known.ensures c.requires.reached c.requires.runs c.index_mut.ensures.value in
    let few : c.index_mut.result.now.position ≤ unit_operation_limit format.Three = position-few c.known.ensures c.requires.reached c.requires.runs at in omega arith

pub returns-in-None-clause-more : goal.returns-in-None-clause-more
returns-in-None-clause-more g c p at =
    let l : c.args.x.0 < length c.args.self.now.values.items =
    (let m : c.args.x.0 < length c.args.w.now.objects = wait-there c.known.ensures c.requires.reached c.requires.runs c.requires.here in let e = c.requires.runs.follows.values_all in omega arith) in
    let none : slice_get c.args.self.now.values.items c.args.x.0 ≡ Some None = read-at c.args.self.now.values.items c.args.x.0 c.index.result.now l c.index.ensures ∙ ap (λ v. Some v) c.in-None.is in
    subst (Halts (g.P.Work.returns c.args.work.now) c.args.self.now.values.items c.args.u.0 p) (sym (c.requires.here p at)) none

pub returns-in-Some-clause-runs : goal.returns-in-Some-clause-runs
returns-in-Some-clause-runs g c =
    let l : c.args.x.0 < length c.args.self.now.values.items =
    (let m : c.args.x.0 < length c.args.w.now.objects = wait-there c.known.ensures c.requires.reached c.requires.runs c.requires.here in let e = c.requires.runs.follows.values_all in omega arith) in
    let value : slice_get c.args.self.now.values.items c.args.x.0 ≡ Some (Some c.in-Some.value) = read-at c.args.self.now.values.items c.args.x.0 c.index.result.now l c.index.ensures ∙ ap
    (λ v. Some v) c.in-Some.is in
    let at = unit-read c.known.ensures c.requires.reached c.requires.runs c.index_mut.ensures.value in
    let pos : c.receive.new.self.position ≡ c.index_mut.result.now.position + 1 = ap (λ (p : Progress). p.position) c.receive.ensures in
    record {
      follows = goes-same c.requires.reached c.requires.runs.follows c.receive.new.self at (c.requires.here c.index_mut.result.now at) pos
          (λ x e. cc) (c.in-Some.value, c.requires.runs.follows.found c.args.x.0 c.in-Some.value value, ap memory_in c.receive.ensures);
      waits = c.requires.runs.waits;
      ready = c.requires.runs.ready;
      others = others-same c.requires.reached c.requires.runs.follows c.receive.new.self at (c.requires.here c.index_mut.result.now at) pos
          c.args.self.now.ready.items c.requires.runs.others;
    }

pub returns-in-Some-clause-more : goal.returns-in-Some-clause-more
returns-in-Some-clause-more g c =
    let at = unit-read c.known.ensures c.requires.reached c.requires.runs c.index_mut.ensures.value in
    let pos : c.receive.new.self.position ≡ c.index_mut.result.now.position + 1 = ap (λ (p : Progress). p.position) c.receive.ensures in
    one-more c.requires.reached c.requires.runs.follows c.receive.new.self at (c.requires.here c.index_mut.result.now at) pos
