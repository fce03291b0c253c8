use Rattle.abt_machine.specs.Acts.{moved}
use Rattle.abt_machine.specs.declared.events.Code.{Code}
use Rattle.abt_replay.specs.Events.{Asked, Operated}
use Rattle.abt_plans.specs.Acts.{asked, brought, given, told}
use Rattle.abt_replay.proofs.Operating.{ask-made, give-made}
use Rattle.abt_replay.proofs.Outcomes.{if-ok}
use Rattle.abt_replay.proofs.lanes.Lane.step.Goals as goal

pub returns-in-Ask : goal.returns-in-Ask
returns-in-Ask c =
    if-ok (λ (k : Code). Asked c.in-Ask.site (asked c.in-Ask.asking) (told c.in-Ask.asking c.args.unit) c.args.self.now c.args.objects.now k c.ask.new.self c.ask.new.objects)
    (λ (k : Code). Operated c.args.w.now c.args.s.0 c.args.op c.args.unit c.args.self.now c.args.objects.now k c.ask.new.self c.ask.new.objects) c.ask.result
    (λ k h. ask-made c.args.w.now c.args.s.0 c.args.op c.args.unit c.args.self.now c.args.objects.now k c.ask.new.self c.ask.new.objects c.plan.result c.plan.ensures c.in-Ask.site c.in-Ask.asking c.in-Ask.is h)
    c.ask.ensures

pub returns-in-Give : goal.returns-in-Give
returns-in-Give c =
    if-ok (λ (k : Code). Asked c.in-Give.site (given c.in-Give.giving (moved c.args.unit)) (brought c.in-Give.giving) c.args.self.now c.args.objects.now k c.give.new.self c.give.new.objects)
    (λ (k : Code). Operated c.args.w.now c.args.s.0 c.args.op c.args.unit c.args.self.now c.args.objects.now k c.give.new.self c.give.new.objects) c.give.result
    (λ k h. give-made c.args.w.now c.args.s.0 c.args.op c.args.unit c.args.self.now c.args.objects.now k c.give.new.self c.give.new.objects c.plan.result c.plan.ensures c.in-Give.site c.in-Give.giving c.in-Give.is h)
    c.give.ensures
