-- Each way in which a run on lives ended.
use Rattle.abt_streams.proofs.Endings.{ends-finished, ends-none, ends-some, ends-stuck, false-is-not}
use Rattle.abt_streams.proofs.outcome.outcome_on.Goals as goal

pub returns-in-Some : goal.returns-in-Some
returns-in-Some c =
    ends-some c.args.w.now c.args.lives.now c.requires.lives c.args.steps c.args.streams.now c.args.objects.now c.known.ensures c.in-Some.outcome c.in-Some.ensures.run

pub returns-then-not-is_quiet_on : goal.returns-then-not-is_quiet_on
returns-then-not-is_quiet_on c =
    ends-none c.args.w.now c.args.lives.now c.requires.lives c.args.steps c.args.streams.now c.args.objects.now c.known.ensures c.in_default.ensures.run
    (λ quiet. false-is-not c.is_quiet_on.result c.if-not-is_quiet_on.true (c.is_quiet_on.ensures.1 quiet))

pub returns-then-has_ended : goal.returns-then-has_ended
returns-then-has_ended c =
    ends-finished c.args.w.now c.args.lives.now c.requires.lives c.args.steps c.args.streams.now c.args.objects.now c.known.ensures
    (c.is_quiet_on.ensures.0 c.if-not-is_quiet_on.false) (c.has_ended.ensures.0 c.if-has_ended.true)

pub returns : goal.returns
returns c =
    ends-stuck c.args.w.now c.args.lives.now c.requires.lives c.args.steps c.args.streams.now c.args.objects.now c.known.ensures
    (c.is_quiet_on.ensures.0 c.if-not-is_quiet_on.false) (λ over. false-is-not c.has_ended.result c.if-has_ended.false (c.has_ended.ensures.1 over))
