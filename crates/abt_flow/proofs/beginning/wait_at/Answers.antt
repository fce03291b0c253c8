use Rattle.std.proofs.Common.{◌≡◌, ◌<◌, length, set, Some, refl, arith}
use Rattle.std.specs.Prelude.{slice_get}
use Rattle.abt_machine.specs.declared.operations.Op.TheVariants as op
use Rattle.abt_machine.specs.Workloads.{op_at}
use Rattle.abt_flow.proofs.Running.{read-at}
use Rattle.abt_flow.proofs.Waiting.{awaited-declared, awaits-value, push-listed, push-longer, push-waits, waited-more}
use Rattle.abt_flow.proofs.beginning.wait_at.Goals as goal

pub index_mut-requires : goal.index_mut-requires
index_mut-requires c =
    let is : op_at c.args.w.now c.args.u.0 c.args.k ≡ Some (op.EvWait c.in-Some.x) = awaits-value c.args.w.now c.args.u.0 c.args.k c.in-Some.x
    (op_at c.args.w.now c.args.u.0 c.args.k) refl c.in-Some.ensures in
    let there : c.in-Some.x.0 < length c.args.w.now.objects = awaited-declared c.args.w.now c.args.u.0 c.args.k c.in-Some.x c.known.ensures is in
    let l : c.in-Some.x.0 < length c.args.waiting.now.items = (let e = c.requires.listed.all in omega arith) in
    omega arith

pub returns-in_ok-push-in-Some : goal.returns-in_ok-push-in-Some
returns-in_ok-push-in-Some c =
    let is : op_at c.args.w.now c.args.u.0 c.args.k ≡ Some (op.EvWait c.in-Some.x) = awaits-value c.args.w.now c.args.u.0 c.args.k c.in-Some.x
    (op_at c.args.w.now c.args.u.0 c.args.k) refl c.in-Some.ensures in
    let there : c.in-Some.x.0 < length c.args.w.now.objects = awaited-declared c.args.w.now c.args.u.0 c.args.k c.in-Some.x c.known.ensures is in
    let l : c.in-Some.x.0 < length c.args.waiting.now.items = (let e = c.requires.listed.all in omega arith) in
    let at : slice_get c.args.waiting.now.items c.in-Some.x.0 ≡ Some c.index_mut.result.now = read-at c.args.waiting.now.items c.in-Some.x.0 c.index_mut.result.now l c.index_mut.ensures.value in
    let longer = push-longer c.args.w.now c.args.waiting.now.items c.requires.listed c.args.u c.requires.reached c.in-Some.x.0 c.index_mut.result.now
    c.push.new.self at c.in_ok-push-in-Some.ensures.items in
    record {
      listed = push-listed c.args.w.now c.args.waiting.now.items c.requires.listed c.args.u c.requires.reached c.in-Some.x.0 c.index_mut.result.now
          c.push.new.self at c.in_ok-push-in-Some.ensures.items;
      longer = longer;
      waited = waited-more c.args.w.now c.args.waiting.now.items (set c.args.waiting.now.items c.in-Some.x.0 c.push.new.self) c.args.u c.args.k c.in-Some.x longer c.requires.waited is
          (push-waits c.args.w.now c.args.waiting.now.items c.requires.listed c.args.u c.requires.reached c.in-Some.x.0 c.index_mut.result.now c.push.new.self at c.in_ok-push-in-Some.ensures.items);
    }
