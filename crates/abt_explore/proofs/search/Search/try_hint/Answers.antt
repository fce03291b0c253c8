-- The event that the hint tells, if it is private.
use Rattle.std.proofs.Common.{ℕ, Some, arith, subst, sym}
use Rattle.abt_machine.specs.Runs.{last_state}
use Rattle.abt_machine.specs.State.{State}
use Rattle.abt_model.specs.Hints.{IsMade}
use Rattle.abt_model.specs.Models.{IsAfter, ModelValue, StandsFor}
use Rattle.abt_model.specs.Stored.{stored_with}
use Rattle.abt_explore.specs.Searches.{Meets, journal_to}
use Rattle.abt_model.specs.Keys.{unnumbered_model}
use Rattle.abt_explore.specs.Unnumbered.{unnumbered_state}
use Rattle.abt_explore.proofs.Finding.{met-after}
use Rattle.abt_explore.proofs.Following.{one-after, searching-after}
use Rattle.abt_explore.proofs.Searching.{grows-met}
use Rattle.abt_explore.proofs.search.Search.try_hint.Goals as goal

pub make-requires-clause-state : goal.make-requires-clause-state
make-requires-clause-state g c =
    let W = c.args.w.now in
    let Z = stored_with c.args.z.now (g.P.Work.returns c.args.work.now) in (
      0,
      omega arith,
      unnumbered_state (last_state W (journal_to c.args.self.now.paths c.args.found.now)),
      met-after W Z c.requires.valid c.requires.stored c.requires.keeps_order c.args.self.now.paths c.args.found.now c.requires.met,
      subst (StandsFor W (unnumbered_state (last_state W (journal_to c.args.self.now.paths c.args.found.now)))) (sym c.in_ok-next.ensures) c.requires.met.reached.shows,
    )

pub returns-in_ok-meet-in-Some-clause-grows : goal.returns-in_ok-meet-in-Some-clause-grows
returns-in_ok-meet-in-Some-clause-grows g c =
    let old = c.args.self.now in
    let new = c.meet.new.self in
    let found = c.args.found.now in
    let what = c.in-Some.what in
    let made : Meets old found c.args.s.0 what (unnumbered_model c.make.new.self) new =
    subst (λ (m : ModelValue). Meets old found c.args.s.0 what m new) c.forget_rounds.ensures c.in_ok-meet-in-Some.ensures in
    grows-met old found c.args.s.0 what (unnumbered_model c.make.new.self) new made

pub returns-in_ok-meet-in-Some-clause-searching : goal.returns-in_ok-meet-in-Some-clause-searching
returns-in_ok-meet-in-Some-clause-searching g c =
    let W = c.args.w.now in
    let Z = stored_with c.args.z.now (g.P.Work.returns c.args.work.now) in
    let old = c.args.self.now in
    let new = c.meet.new.self in
    let found = c.args.found.now in
    let what = c.in-Some.what in
    let made : Meets old found c.args.s.0 what (unnumbered_model c.make.new.self) new =
    subst (λ (m : ModelValue). Meets old found c.args.s.0 what m new) c.forget_rounds.ensures c.in_ok-meet-in-Some.ensures in
    let makes : (n : ℕ) (S : State) → IsAfter W Z n S → StandsFor W S found.model → IsMade W Z n S c.args.s.0 c.args.hint.now c.in_ok-make.field-0 c.make.new.self =
    subst (λ (m : ModelValue). (n : ℕ) (S : State) → IsAfter W Z n S → StandsFor W S m → IsMade W Z n S c.args.s.0 c.args.hint.now c.in_ok-make.field-0 c.make.new.self)
    c.in_ok-next.ensures c.in_ok-make.ensures in
    searching-after W Z c.requires.keeps_order found c.args.s.0 c.args.hint.now c.in_ok-make.field-0 c.make.new.self makes what c.in-Some.is old new made
    c.requires.valid c.requires.stored c.requires.stream c.requires.met (Some found.model) c.requires.searching

pub returns-in_ok-meet-in-Some-clause-one : goal.returns-in_ok-meet-in-Some-clause-one
returns-in_ok-meet-in-Some-clause-one g c =
    let W = c.args.w.now in
    let Z = stored_with c.args.z.now (g.P.Work.returns c.args.work.now) in
    let old = c.args.self.now in
    let new = c.meet.new.self in
    let found = c.args.found.now in
    let what = c.in-Some.what in
    let made : Meets old found c.args.s.0 what (unnumbered_model c.make.new.self) new =
    subst (λ (m : ModelValue). Meets old found c.args.s.0 what m new) c.forget_rounds.ensures c.in_ok-meet-in-Some.ensures in
    let makes : (n : ℕ) (S : State) → IsAfter W Z n S → StandsFor W S found.model → IsMade W Z n S c.args.s.0 c.args.hint.now c.in_ok-make.field-0 c.make.new.self =
    subst (λ (m : ModelValue). (n : ℕ) (S : State) → IsAfter W Z n S → StandsFor W S m → IsMade W Z n S c.args.s.0 c.args.hint.now c.in_ok-make.field-0 c.make.new.self)
    c.in_ok-next.ensures c.in_ok-make.ensures in
    one-after W Z c.requires.keeps_order found c.args.s.0 c.args.hint.now c.in_ok-make.field-0 c.make.new.self makes what c.in-Some.is old new made
    c.requires.valid c.requires.stream c.requires.only c.if-not-is_private.ensures
