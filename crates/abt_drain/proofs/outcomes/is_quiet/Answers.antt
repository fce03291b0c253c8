-- One stream more, and all.
use Rattle.std.proofs.Common.{◌<◌, refl, sym, ◌∙◌, arith}
use Rattle.abt_drain.specs.Looks.{IsQuietAt}
use Rattle.abt_drain.proofs.Looking.{idle-here, one-further, quiet-all}
use Rattle.abt_drain.proofs.outcomes.is_quiet.Goals as goal

pub returns-then-not-has_empty_pools : goal.returns-then-not-has_empty_pools
returns-then-not-has_empty_pools c = (
  λ no. cc,
  λ quiet. (let lt : c.loop-s.s < c.args.w.now.streams = omega (arith, c.loop-s-test.true, c.loop-s.invariant.end) in
      sym c.if-not-has_empty_pools.true ∙ c.has_empty_pools.ensures.1 ((quiet-all c.args.w.now c.args.streams.now c.args.objects.now).1 quiet c.loop-s.s lt).1),
)

pub loop-s-preserved : goal.loop-s-preserved
loop-s-preserved c =
    let lt : c.loop-s.s < c.args.w.now.streams = omega (arith, c.loop-s-test.true, c.loop-s.invariant.end) in
    let idle = (idle-here c.args.w.now c.args.streams.now c.requires.streams c.loop-s.s c.index-streams-s.result lt c.index-streams-s.is).1 (c.is_idle.ensures.0 c.if-not-is_idle.false) in
    let empty = c.has_empty_pools.ensures.0 c.if-not-has_empty_pools.false in
    record { quiet = one-further (IsQuietAt c.args.w.now c.args.streams.now c.args.objects.now) c.loop-s.s c.loop-s.invariant.quiet (idle, empty); end = c.loop-s.invariant.end }

pub returns : goal.returns
returns c = (
  λ yes. (quiet-all c.args.w.now c.args.streams.now c.args.objects.now).0 (λ s lt. c.loop-s.invariant.quiet s (omega (arith, lt, c.loop-s.invariant.end, c.loop-s-test.false))),
  λ quiet. refl,
)
