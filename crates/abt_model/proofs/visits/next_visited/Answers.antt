use Rattle.std.proofs.Common.{◌≡◌, ◌∙◌, ℕ, subst, sym}
use Rattle.abt_machine.specs.Rounds.{IsNextPool}
use Rattle.abt_laws.proofs.Options.{some-injective}
use Rattle.abt_model.proofs.visits.next_visited.Goals as goal

-- a pool that `named` visits is that pool, which need not be next
pub returns-then-not-may_visit-clause-none : goal.returns-then-not-may_visit-clause-none
returns-then-not-may_visit-clause-none c = λ p is next.
    let same : p ≡ c.in-Some.p.0 = some-injective (sym is ∙ sym c.in-Some.ensures) in
    let yes = c.may_visit.ensures.1 (subst (λ (q : ℕ). IsNextPool c.args.w.now c.args.z.now c.args.frame.now q) same next) in
    absurd (let no = c.if-not-may_visit.true in cc)
