-- One stream more, and all.
use Rattle.std.proofs.Common.{◌<◌, refl, sym, ◌∙◌, arith}
use Rattle.abt_drain.proofs.Looking.{idle-here, one-further}
use Rattle.abt_streams.specs.Looks.{IsQuietOnAt}
use Rattle.abt_streams.proofs.Endings.{quiet-on-all}
use Rattle.abt_streams.proofs.outcome.is_quiet_on.Goals as goal

pub returns-then-not-finds_nothing : goal.returns-then-not-finds_nothing
returns-then-not-finds_nothing c = (
  λ no. cc,
  λ quiet. (let lt : c.loop-s.s < c.args.w.now.streams = omega (arith, c.loop-s-test.true, c.loop-s.invariant.end) in
      sym c.if-not-finds_nothing.true ∙ c.finds_nothing.ensures.1 ((quiet-on-all c.args.w.now c.args.lives.now c.args.streams.now c.args.objects.now).1 quiet c.loop-s.s lt).1),
)

pub loop-s-preserved : goal.loop-s-preserved
loop-s-preserved c =
    let lt : c.loop-s.s < c.args.w.now.streams = omega (arith, c.loop-s-test.true, c.loop-s.invariant.end) in
    let idle = (idle-here c.args.w.now c.args.streams.now c.requires.streams c.loop-s.s c.index-streams-s.result lt c.index-streams-s.is).1 (c.is_idle.ensures.0 c.if-not-is_idle.false) in
    let nothing = c.finds_nothing.ensures.0 c.if-not-finds_nothing.false in
    record { quiet = one-further (IsQuietOnAt c.args.w.now c.args.lives.now c.args.streams.now c.args.objects.now) c.loop-s.s c.loop-s.invariant.quiet (idle, nothing); end = c.loop-s.invariant.end }

pub returns : goal.returns
returns c = (
  λ yes. (quiet-on-all c.args.w.now c.args.lives.now c.args.streams.now c.args.objects.now).0 (λ s lt. c.loop-s.invariant.quiet s (omega (arith, lt, c.loop-s.invariant.end, c.loop-s-test.false))),
  λ quiet. refl,
)
