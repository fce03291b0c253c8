-- All that may come of one stream.
use Rattle.std.proofs.Common.{ℕ, List, arith, subst}
use Rattle.abt_machine.specs.declared.events.Event.{Event}
use Rattle.abt_machine.specs.declared.events.What.{What}
use Rattle.abt_machine.specs.Runs.{last_state}
use Rattle.abt_machine.specs.State.{State}
use Rattle.abt_model.specs.Choices.{AreChoices, CallsAny}
use Rattle.abt_model.specs.Models.{IsAfter, StandsFor}
use Rattle.abt_model.specs.Stored.{stored_with}
use Rattle.abt_explore.specs.Searches.{SeesAfterEach, journal_to}
use Rattle.abt_explore.specs.Unnumbered.{unnumbered_state}
use Rattle.abt_explore.proofs.Finding.{met-after}
use Rattle.abt_explore.proofs.Following.{next-seen}
use Rattle.abt_explore.proofs.SameEvents.{call-numbered}
use Rattle.abt_explore.proofs.search.Search.expand_stream.Goals as goal

pub choices-requires-clause-state : goal.choices-requires-clause-state
choices-requires-clause-state g c =
    let W = c.args.w.now in
    let Z = stored_with c.args.z.now (g.P.Work.returns c.args.work.now) in (
      0,
      omega arith,
      unnumbered_state (last_state W (journal_to c.args.self.now.paths c.args.found.now)),
      met-after W Z c.requires.valid c.requires.stored c.requires.keeps_order c.args.self.now.paths c.args.found.now c.requires.met,
      c.requires.met.reached.shows,
    )

pub returns-in_ok-follow_all-in-These-clause-all : goal.returns-in_ok-follow_all-in-These-clause-all
returns-in_ok-follow_all-in-These-clause-all g c =
    let W = c.args.w.now in
    let Z = stored_with c.args.z.now (g.P.Work.returns c.args.work.now) in
    let found = c.args.found.now in
    let new = c.follow_all.new.self in
    let each : SeesAfterEach W Z new found.model c.args.s.0 c.in-These.hints.items =
    subst (λ (hints : List What). SeesAfterEach W Z new found.model c.args.s.0 hints) c.deref.ensures.value c.in_ok-follow_all-in-These.ensures.all in
    next-seen W Z new found.model c.args.s.0 c.in-These.hints.items (subst (AreChoices W Z found.model c.args.s.0) c.in-These.is c.in_ok-function.ensures) each

pub returns-in-AnyWord-clause-all : goal.returns-in-AnyWord-clause-all
returns-in-AnyWord-clause-all g c =
    let W = c.args.w.now in
    let Z = stored_with c.args.z.now (g.P.Work.returns c.args.work.now) in
    let found = c.args.found.now in
    let J : List Event = journal_to c.args.self.now.paths found in
    let bare : State = unnumbered_state (last_state W J) in
    let any : (n : ℕ) (S : State) → IsAfter W Z n S → StandsFor W S found.model → CallsAny W Z S c.args.s.0 c.in-AnyWord.function = subst (AreChoices W Z found.model c.args.s.0) c.in-AnyWord.is c.in_ok-function.ensures in
    let calls : CallsAny W Z bare c.args.s.0 c.in-AnyWord.function =
    any 0 bare (met-after W Z c.requires.valid c.requires.stored c.requires.keeps_order c.args.self.now.paths found c.requires.met) c.requires.met.reached.shows in
    (J, c.args.s.0, c.requires.met.reached.run, c.requires.stream, call-numbered W Z c.requires.keeps_order (last_state W J) c.args.s.0 c.in-AnyWord.function calls)
