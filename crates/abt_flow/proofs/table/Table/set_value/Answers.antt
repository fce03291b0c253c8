use Rattle.std.proofs.Common.{Vec, ◌⊎◌, ◌≡◌, ◌+◌, ◌<◌, ◌≤◌, ◌++◌, length, Some, sym, ◌∙◌, ap, subst, arith, set}
use Rattle.std.specs.Prelude.{Contains, slice_get, sum_by}
use Rattle.std.specs.declared.alloc.Global.{Global}
use Rattle.abt_machine.specs.declared.grammar.Format.TheVariants as format
use Rattle.abt_machine.specs.declared.numbers.UnitNo.{UnitNo}
use Rattle.abt_machine.specs.Numbers.{unit_no}
use Rattle.abt_machine.specs.Limits.{unit_operation_limit}
use Rattle.abt_laws.proofs.Options.{some-injective}
use Rattle.abt_flow.specs.declared.memory.Progress.{Progress}
use Rattle.abt_flow.specs.Tables.{FollowsFlow, Rests, Waits, memory_in}
use Rattle.abt_flow.proofs.Running.{one-more, position-few, read-at, set-there, unit-read, unit-there}
use Rattle.abt_flow.proofs.Woken.{set-follows, set-others, set-ready, set-waits, set-work}
use Rattle.abt_flow.proofs.table.Table.set_value.Goals as goal

pub index-requires : goal.index-requires
index-requires g c =
    let there : c.args.x.0 < length c.args.w.now.objects = set-there c.known.ensures c.requires.reached c.requires.runs c.requires.here in
    let e = c.requires.runs.waits.all in omega arith

pub index_mut-requires : goal.index_mut-requires
index_mut-requires g c =
    let there : c.args.x.0 < length c.args.w.now.objects = set-there c.known.ensures c.requires.reached c.requires.runs c.requires.here in
    let e = c.requires.runs.waits.all in omega arith

pub index_mut-requires-2 : goal.index_mut-requires-2
index_mut-requires-2 g c =
    let there : c.args.x.0 < length c.args.w.now.objects = set-there c.known.ensures c.requires.reached c.requires.runs c.requires.here in
    let e = c.requires.runs.follows.values_all in omega arith

pub index-requires-2 : goal.index-requires-2
index-requires-2 g c =
    let below : c.args.u.0 < length c.args.self.now.units.items = unit-there c.known.ensures c.requires.reached c.requires.runs in
    omega arith

pub index_mut-requires-3 : goal.index_mut-requires-3
index_mut-requires-3 g c =
    let below : c.args.u.0 < length c.args.self.now.units.items = unit-there c.known.ensures c.requires.reached c.requires.runs in
    omega arith

pub pass-requires : goal.pass-requires
pass-requires g c =
    let at = unit-read c.known.ensures c.requires.reached c.requires.runs c.index_mut-3.ensures.value in
    let few : c.index_mut-3.result.now.position ≤ unit_operation_limit format.Three = position-few c.known.ensures c.requires.reached c.requires.runs at in omega arith

pub returns : goal.returns
returns g c =
    let at = unit-read c.known.ensures c.requires.reached c.requires.runs c.index_mut-3.ensures.value in
    let there : c.args.x.0 < length c.args.w.now.objects = set-there c.known.ensures c.requires.reached c.requires.runs c.requires.here in
    let listed : c.args.x.0 < length c.args.self.now.waiting.items = (let e = c.requires.runs.waits.all in omega arith) in
    let waited : slice_get c.args.self.now.waiting.items c.args.x.0 ≡ Some c.index.result.now = read-at c.args.self.now.waiting.items c.args.x.0 c.index.result.now listed c.index.ensures in
    let pos : c.pass.new.self.position ≡ c.index_mut-3.result.now.position + 1 = ap (λ (p : Progress). p.position) c.pass.ensures in
    let same : memory_in c.pass.new.self ≡ memory_in c.index_mut-3.result.now = ap memory_in c.pass.ensures in
    let acc : c.index-2.result.now.acc ≡ c.index_mut-3.result.now.acc = ap (λ (p : Progress). p.acc)
    (some-injective (sym (unit-read c.known.ensures c.requires.reached c.requires.runs c.index-2.ensures) ∙ at)) in
    let ready : c.extend_from_slice.new.self.items ≡ c.args.self.now.ready.items ++ c.index.result.now.items = c.in_ok-extend_from_slice.ensures.items ∙ ap
    (λ us. c.args.self.now.ready.items ++ us) c.deref.ensures.value in
    let values : set c.args.self.now.values.items c.args.x.0 (Some c.index-2.result.now.acc) ≡ set c.args.self.now.values.items c.args.x.0 (Some c.index_mut-3.result.now.acc) = ap
    (λ a. set c.args.self.now.values.items c.args.x.0 (Some a)) acc in
    record {
      runs = record {
        follows = subst (FollowsFlow c.args.w.now (g.P.Work.returns c.args.work.now) (set c.args.self.now.units.items c.args.u.0 c.pass.new.self)) (sym values)
            (set-follows c.known.ensures c.requires.reached c.requires.runs c.pass.new.self at
            (c.requires.here c.index_mut-3.result.now at) pos same there c.clear.new.self waited c.clear.ensures.items);
        waits = subst (λ vs. Waits c.args.w.now vs (set c.args.self.now.waiting.items c.args.x.0 c.clear.new.self)) (sym values)
            (set-waits c.known.ensures c.requires.reached c.requires.runs c.pass.new.self at
            (c.requires.here c.index_mut-3.result.now at) pos same there c.clear.new.self waited c.clear.ensures.items);
        ready = λ v has. set-ready c.known.ensures c.requires.reached c.requires.runs c.pass.new.self at
            (c.requires.here c.index_mut-3.result.now at) pos same there c.clear.new.self waited c.clear.ensures.items v (subst (λ us. Contains us v) ready has);
        others = λ v other r. subst (λ us. Contains us (unit_no v) ⊎ Rests c.args.w.now (g.P.Work.returns c.args.work.now) (set c.args.self.now.units.items c.args.u.0 c.pass.new.self)
            (set c.args.self.now.values.items c.args.x.0 (Some c.index-2.result.now.acc)) v) (sym ready)
            (subst (λ vs. Contains (c.args.self.now.ready.items ++ c.index.result.now.items) (unit_no v) ⊎ Rests c.args.w.now (g.P.Work.returns c.args.work.now)
            (set c.args.self.now.units.items c.args.u.0 c.pass.new.self) vs v) (sym values)
            (set-others c.known.ensures c.requires.reached c.requires.runs c.pass.new.self at
            (c.requires.here c.index_mut-3.result.now at) pos same there c.clear.new.self waited c.clear.ensures.items v other r));
      };
      left = ap (λ us. length us + sum_by (λ (ws : Vec UnitNo Global). length ws.items) (set c.args.self.now.waiting.items c.args.x.0 c.clear.new.self)) ready
          ∙ set-work c.known.ensures c.requires.reached c.requires.runs c.pass.new.self at (c.requires.here c.index_mut-3.result.now at) pos same there c.clear.new.self waited c.clear.ensures.items;
      more = one-more c.requires.reached c.requires.runs.follows c.pass.new.self at (c.requires.here c.index_mut-3.result.now at) pos;
    }
