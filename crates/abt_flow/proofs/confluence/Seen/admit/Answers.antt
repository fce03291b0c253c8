use Rattle.std.proofs.Common.{◌+◌, inr}
use Rattle.std.specs.Vec.{with_items}
use Rattle.abt_flow.specs.declared.confluence.Seen.{Seen}
use Rattle.abt_flow.specs.declared.naming.Naming.TheVariants.{Sets, Creates}
use Rattle.abt_flow.proofs.Clearing.{by-case, clears-more, refilled}
use Rattle.abt_flow.proofs.confluence.Seen.admit.Goals as goal

pub returns : goal.returns
returns c =
    let W = c.args.w.now in
    let u = c.args.u.0 in
    let k = c.args.k in
    let old = c.args.self.now in
    let clear = c.requires.clear in
    let new : Seen = record { set = with_items old.set c.mark.new.seen; created = with_items old.created c.mark-2.new.seen } in
    let plain = c.is_plain.ensures.0 c.if-not-is_plain.false in
    let sets = refilled W Sets u k (k + 1) old.set c.mark.new.seen clear.sets (rw c.if-not-mark.false at c.mark.ensures) in
    by-case c.mark-2.result
    (λ creates. clears-more W u k old clear new c.args.op c.requires.at plain sets (refilled W Creates u k (k + 1) old.created c.mark-2.new.seen clear.creates creates))
    (λ again. inr (inr again))
    c.mark-2.ensures
