use Rattle.std.proofs.Common.{rules, ◌≡◌, ◌<◌, ◌≤◌, ◌+◌, ◌-◌, ◌++◌, List, [], ◌∷◌, sym, subst, arith}
use Rattle.abt_machine.specs.declared.events.Event.{Event}
use Rattle.abt_machine.specs.Outcomes.{steps_in}
use Rattle.abt_stream.specs.Streams.{IsLog}
use Rattle.abt_stream.proofs.Logs.{log-written, many-more, one-more}
use Rattle.abt_stream.proofs.stream.Stream.count_step.Goals as goal

pub invariant_of-self : goal.invariant_of-self
invariant_of-self c =
    let above : c.self.inside.clock < c.args.stamp = search rules in
    let logged = log-written c.self.inside.number c.self.inside.clock c.args.stamp c.self.inside.log.events c.args.what c.self.invariant.5 above in
    let e : Event = record { stamp = c.args.stamp; stream = c.self.inside.number; what = c.args.what } in
    let count = one-more c.self.inside.log.events e c.requires.step in
    let few : steps_in c.self.inside.log.events < c.self.inside.budget = search rules in
    let all = c.self.invariant.7 in
    let fewer : (c.self.inside.left - 1) + steps_in (c.self.inside.log.events ++ e ∷ []) ≡ c.self.inside.budget = omega arith in
    let low = c.self.invariant.9 in
    let higher : c.self.inside.written + 1 ≤ c.args.stamp = omega arith in (
      c.self.invariant.0,
      c.self.invariant.1,
      c.self.invariant.2,
      c.self.invariant.3,
      c.self.invariant.4,
      subst (λ log. IsLog c.self.inside.number c.args.stamp log) (sym c.push.ensures.events) logged,
      c.requires.bound,
      subst (λ (log : List Event). (c.self.inside.left - 1) + steps_in log ≡ c.self.inside.budget) (sym c.push.ensures.events) fewer,
      many-more c.self.inside.written c.self.inside.log.events _ e c.self.invariant.8 c.push.ensures.events,
      higher,
      c.self.invariant.10,
      c.self.invariant.11,
    )
