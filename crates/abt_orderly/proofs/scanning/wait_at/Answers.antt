use Rattle.std.proofs.Common.{◌≡◌, ◌<◌, length, Some, arith, sym}
use Rattle.std.specs.Prelude.{slice_get}
use Rattle.abt_orderly.specs.Needs.{needs_in}
use Rattle.abt_orderly.proofs.Entries.{read-at}
use Rattle.abt_orderly.proofs.Needing.{need-declared}
use Rattle.abt_orderly.proofs.Waits.{wait-none, wait-some}
use Rattle.abt_orderly.proofs.scanning.wait_at.Goals as goal

pub index_mut-requires : goal.index_mut-requires
index_mut-requires c =
    let l : c.in-Some.i < needs_in c.args.w.now = need-declared c.args.w.now c.args.u.0 c.args.k c.in-Some.i c.known.ensures (sym c.in-Some.ensures) in
    let e = c.requires.waited.lists.all in omega arith

pub returns-in_ok-push-in-Some : goal.returns-in_ok-push-in-Some
returns-in_ok-push-in-Some c =
    let m : c.in-Some.i < needs_in c.args.w.now = need-declared c.args.w.now c.args.u.0 c.args.k c.in-Some.i c.known.ensures (sym c.in-Some.ensures) in
    let l : c.in-Some.i < length c.args.waiting.now.items = (let e = c.requires.waited.lists.all in omega arith) in
    let at : slice_get c.args.waiting.now.items c.in-Some.i ≡ Some c.index_mut.result.now = read-at c.args.waiting.now.items c.in-Some.i c.index_mut.result.now l c.index_mut.ensures.value in
    wait-some c.args.w.now c.args.u c.args.k c.args.waiting.now.items c.requires.waited c.in-Some.i (sym c.in-Some.ensures) c.requires.unit c.index_mut.result.now
    c.push.new.self at c.in_ok-push-in-Some.ensures.items

pub returns-in-None : goal.returns-in-None
returns-in-None c = wait-none c.args.w.now c.args.u c.args.k c.args.waiting.now.items c.requires.waited (sym c.in-None.ensures)
