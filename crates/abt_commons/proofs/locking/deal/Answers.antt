-- Each pass gets the seat of its number.
use Rattle.std.proofs.Common.{◌≡◌, ◌+◌, ◌-◌, ◌++◌, [], ◌∷◌, length, ◌∙◌, ap, subst, arith, length-append, append_assoc}
use Rattle.abt_commons.specs.Locking.{HaveGot}
use Rattle.abt_commons.proofs.Dealing.{got-last}
use Rattle.abt_commons.proofs.locking.deal.Goals as goal

pub loop-seat-preserved : goal.loop-seat-preserved
loop-seat-preserved c =
    let inv = c.loop-seat.invariant in
    let now = c.pop.new.self.items in
    let seat = c.in-Some.seat in
    let left = c.loop-seat.left in
    let popped : c.loop-seat.seats.items ≡ now ++ seat ∷ [] = c.in-Some.ensures.items in
    let many : left ≡ length now + 1 = inv.0 ∙ (ap length popped ∙ length-append now (seat ∷ [])) in
    let less : left - 1 ≡ length now = omega (arith, many) in
    let more : left ≡ left - 1 + 1 = omega (arith, many) in
    let split : c.args.seats.items ≡ (now ++ seat ∷ []) ++ inv.1.0 = inv.1.1 ∙ ap (λ xs. xs ++ inv.1.0) popped in (
      less,
      (seat ∷ inv.1.0, split ∙ append_assoc now (seat ∷ []) inv.1.0),
      got-last c.args.booth.now c.args.passes.now c.loop-seat.passes c.args.seats.items now inv.1.0 seat c.new.result (left - 1) c.index-passes-left.result c.give.new.pass c.requires.seats split c.requires.many less
          (subst (λ n. HaveGot c.args.booth.now n c.args.passes.now c.loop-seat.passes) more inv.2) (c.new.ensures.booth c.args.booth.now) c.new.ensures.number c.new.ensures.seen c.give.ensures.stream c.give.ensures.turns c.give.ensures.room,
    )
