-- One stream more.
use Rattle.std.proofs.Common.{◌<◌, arith}
use Rattle.abt_drain.specs.Looks.{IsSpentAt}
use Rattle.abt_drain.proofs.Looking.{is-here, one-further, spent-here}
use Rattle.abt_drain.proofs.outcomes.first_spent.Goals as goal

pub is_spent-requires : goal.is_spent-requires
is_spent-requires c =
    let lt : c.loop-s.s < c.args.w.now.streams = omega (arith, c.loop-s-test.true, c.loop-s.invariant.end) in
    let is = is-here c.args.w.now c.args.streams.now c.requires.many c.loop-s.s c.index-streams-s.result lt c.index-streams-s.is c.args.steps c.requires in
    record { fits = is.fits }

pub returns-then-is_spent-clause-spent : goal.returns-then-is_spent-clause-spent
returns-then-is_spent-clause-spent c =
    let lt : c.loop-s.s < c.args.w.now.streams = omega (arith, c.loop-s-test.true, c.loop-s.invariant.end) in
    (spent-here c.args.w.now c.args.streams.now c.requires.many c.loop-s.s c.index-streams-s.result lt c.index-streams-s.is c.args.steps c.requires).1 (c.is_spent.ensures.0 c.if-is_spent.true)

pub loop-s-preserved : goal.loop-s-preserved
loop-s-preserved c =
    let lt : c.loop-s.s < c.args.w.now.streams = omega (arith, c.loop-s-test.true, c.loop-s.invariant.end) in
    let spent = spent-here c.args.w.now c.args.streams.now c.requires.many c.loop-s.s c.index-streams-s.result lt c.index-streams-s.is c.args.steps c.requires in
    record {
      none = one-further (λ r. IsSpentAt c.args.w.now c.args.steps c.args.streams.now r → ⊥) c.loop-s.s c.loop-s.invariant.none
          (λ now. (let yes = c.is_spent.ensures.1 (spent.0 now) in let no = c.if-is_spent.false in cc));
      end = c.loop-s.invariant.end;
    }
