use Rattle.std.proofs.Common.{◌≡◌, ◌<◌, length, sym, ◌∙◌, subst}
use Rattle.std.proofs.lemmas.Bool.{eqb-true}
use Rattle.abt_machine.specs.Values.{conditions_of}
use Rattle.abt_machine.specs.Workloads.{condition_number, mutex_of}
use Rattle.abt_calls.proofs.SiteCalls.{condition-below}
use Rattle.commons_caller.proofs.tests.asking.is_place.Goals as goal

pub returns-then-mutex-x : goal.returns-then-mutex-x
returns-then-mutex-x c is =
    let place : condition_number c.args.w.now c.args.c.0 ≡ c.args.k = sym c.cond-place.ensures.number ∙ eqb-true c.cond-place.result.1 c.args.k is in
    let mutex : mutex_of c.args.w.now c.args.c.0 ≡ c.args.x.0 = sym c.cond-place.ensures.mutex ∙ c.if-mutex-x.true in
    subst (λ k. k < length (conditions_of c.args.w.now c.args.x.0)) place
    (subst (λ m. condition_number c.args.w.now c.args.c.0 < length (conditions_of c.args.w.now m)) mutex (condition-below c.args.w.now c.args.c.0 c.requires))
