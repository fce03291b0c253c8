use Rattle.std.proofs.Common.{◌≡◌, ◌<◌, Bool, true, false, length, rules, subst}
use Rattle.abt_streams.specs.Texts.{Takes}
use Rattle.abt_streams.proofs.Standing.{bad, goes-on}
use Rattle.abt_streams.proofs.reading.read_lives.Goals as goal

pub returns-then-not-branch-clause-cause : goal.returns-then-not-branch-clause-cause
returns-then-not-branch-clause-cause c =
    let some : 0 < length c.loop-rest.rest.now = search rules in
    let wrong : c.in_ok-take_line.field-0 ≡ false = search rules in
    let takes = subst (λ (right : Bool). Takes c.args.w.now c.loop-rest.lives.items c.first_line-cut.result.line.now c.first_line-cut.result.whole.now right c.take_line.new.lives.items) wrong c.in_ok-take_line.ensures in
    bad c.args.w.now c.args.bytes.now c.loop-rest.lives.items c.loop-rest.line c.loop-rest.rest.now c.first_line-cut.result.line.now c.first_line-cut.result.whole.now c.first_line-cut.result.rest.now
    c.known.ensures c.loop-rest.invariant some c.first_line-cut.ensures takes.0 takes.1

pub loop-rest-preserved : goal.loop-rest-preserved
loop-rest-preserved c =
    let some : 0 < length c.loop-rest.rest.now = search rules in
    let right : c.in_ok-take_line.field-0 ≡ true = search rules in
    let takes = subst (λ (b : Bool). Takes c.args.w.now c.loop-rest.lives.items c.first_line-cut.result.line.now c.first_line-cut.result.whole.now b c.take_line.new.lives.items) right c.in_ok-take_line.ensures in
    goes-on c.args.w.now c.args.bytes.now c.loop-rest.lives.items c.loop-rest.line c.loop-rest.rest.now c.first_line-cut.result.line.now c.first_line-cut.result.whole.now c.first_line-cut.result.rest.now
    c.known.ensures c.loop-rest.invariant some c.first_line-cut.ensures c.take_line.new.lives.items takes
