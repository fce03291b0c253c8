use Rattle.std.proofs.Common.{◌≡◌, length, arith}
use Rattle.abt_orderly.specs.Needs.{needs_in}
use Rattle.abt_orderly.proofs.Waits.{begin-waiting}
use Rattle.abt_orderly.proofs.scanning.no_lists.Goals as goal

pub returns : goal.returns
returns c =
    let all : length c.loop-i.waiting.items ≡ needs_in c.args.w.now =
    (let a = c.loop-i.invariant.all in let b = c.loop-i-test.false in let d = c.loop-i.auto._i-end in let e = c.needs_count-i-end.ensures in omega arith) in
    begin-waiting c.args.w.now c.loop-i.waiting.items all c.loop-i.invariant.empty
