use Rattle.std.proofs.Common.{◌≡◌, ◌+◌, ◌<◌, ◌≤◌, ◌%◌, ◌^◌, length, ℕ, Some, None, sym, ◌∙◌, ap, subst, arith}
use Rattle.abt_machine.specs.declared.grammar.Format.TheVariants as format
use Rattle.abt_machine.specs.Limits.{unit_operation_limit}
use Rattle.abt_laws.proofs.Options.{some-injective}
use Rattle.abt_flow.specs.declared.memory.Progress.{Progress}
use Rattle.abt_flow.specs.Effects.{with_acc}
use Rattle.abt_flow.specs.Tables.{Halts, memory_in}
use Rattle.abt_flow.proofs.Running.{goes-same, one-more, others-same, position-few, unit-read, unit-there}
use Rattle.abt_flow.proofs.table.Table.call.Goals as goal

pub index-requires : goal.index-requires
index-requires g c = let l : c.args.u.0 < length c.args.self.now.units.items = unit-there c.known.ensures c.requires.reached c.requires.runs in omega arith

pub returned-requires : goal.returned-requires
returned-requires g c =
    let at = unit-read c.known.ensures c.requires.reached c.requires.runs c.index.ensures in
    c.requires.stored c.args.u.0 c.index.result.now.position c.args.f (c.requires.here c.index.result.now at)

pub index_mut-requires : goal.index_mut-requires
index_mut-requires g c = let l : c.args.u.0 < length c.args.self.now.units.items = unit-there c.known.ensures c.requires.reached c.requires.runs in omega arith

pub receive-requires : goal.receive-requires
receive-requires g c =
    let at = unit-read c.known.ensures c.requires.reached c.requires.runs c.index_mut.ensures.value in
    let few : c.index_mut.result.now.position ≤ unit_operation_limit format.Three = position-few c.known.ensures c.requires.reached c.requires.runs at in omega arith

pub returns-in-None-clause-more : goal.returns-in-None-clause-more
returns-in-None-clause-more g c p at =
    let read = unit-read c.known.ensures c.requires.reached c.requires.runs c.index.ensures in
    let same : c.index.result.now ≡ p = some-injective (sym read ∙ at) in
    let none : g.P.Work.returns c.args.work.now c.args.f c.args.u.0 p.acc p.keys.items ≡ None = subst
    (λ (q : Progress). g.P.Work.returns c.args.work.now c.args.f c.args.u.0 q.acc q.keys.items ≡ None) same c.in-None.ensures in
    subst (Halts (g.P.Work.returns c.args.work.now) c.args.self.now.values.items c.args.u.0 p) (sym (c.requires.here p at)) none

pub returns-in-Some-clause-runs : goal.returns-in-Some-clause-runs
returns-in-Some-clause-runs g c =
    let read = unit-read c.known.ensures c.requires.reached c.requires.runs c.index.ensures in
    let at = unit-read c.known.ensures c.requires.reached c.requires.runs c.index_mut.ensures.value in
    let same : c.index.result.now ≡ c.index_mut.result.now = some-injective (sym read ∙ at) in
    let word : (m : ℕ) × (g.P.Work.returns c.args.work.now c.args.f c.args.u.0 c.index_mut.result.now.acc c.index_mut.result.now.keys.items ≡ Some m) × (c.in-Some.word ≡ m % 2 ^ 64) =
    subst (λ (q : Progress). (m : ℕ) × (g.P.Work.returns c.args.work.now c.args.f c.args.u.0 q.acc q.keys.items ≡ Some m) × (c.in-Some.word ≡ m % 2 ^ 64)) same c.in-Some.ensures in
    let pos : c.receive.new.self.position ≡ c.index_mut.result.now.position + 1 = ap (λ (p : Progress). p.position) c.receive.ensures in
    record {
      follows = goes-same c.requires.reached c.requires.runs.follows c.receive.new.self at (c.requires.here c.index_mut.result.now at) pos
          (λ x e. cc) (word.0, word.1, ap memory_in c.receive.ensures ∙ ap (λ n. with_acc n (memory_in c.index_mut.result.now)) word.2);
      waits = c.requires.runs.waits;
      ready = c.requires.runs.ready;
      others = others-same c.requires.reached c.requires.runs.follows c.receive.new.self at (c.requires.here c.index_mut.result.now at) pos
          c.args.self.now.ready.items c.requires.runs.others;
    }

pub returns-in-Some-clause-more : goal.returns-in-Some-clause-more
returns-in-Some-clause-more g c =
    let at = unit-read c.known.ensures c.requires.reached c.requires.runs c.index_mut.ensures.value in
    let pos : c.receive.new.self.position ≡ c.index_mut.result.now.position + 1 = ap (λ (p : Progress). p.position) c.receive.ensures in
    one-more c.requires.reached c.requires.runs.follows c.receive.new.self at (c.requires.here c.index_mut.result.now at) pos
