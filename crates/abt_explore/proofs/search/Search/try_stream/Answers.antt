-- The hints of one stream.
use Rattle.std.proofs.Common.{ℕ, List, arith, subst, sym}
use Rattle.abt_machine.specs.declared.events.What.{What}
use Rattle.abt_machine.specs.Runs.{last_state}
use Rattle.abt_machine.specs.State.{State}
use Rattle.abt_model.specs.Choices.{AreChoices}
use Rattle.abt_model.specs.Hints.{HasHints}
use Rattle.abt_model.specs.Models.{IsAfter, StandsFor}
use Rattle.abt_model.specs.Stored.{stored_with}
use Rattle.abt_explore.specs.Searches.{journal_to}
use Rattle.abt_explore.specs.Unnumbered.{unnumbered_state}
use Rattle.abt_explore.proofs.Finding.{met-after}
use Rattle.abt_explore.proofs.search.Search.try_stream.Goals as goal

pub choices-requires-clause-state : goal.choices-requires-clause-state
choices-requires-clause-state g c =
    let W = c.args.w.now in
    let Z = stored_with c.args.z.now (g.P.Work.returns c.args.work.now) in (
      0,
      omega arith,
      unnumbered_state (last_state W (journal_to c.args.self.now.paths c.args.found.now)),
      met-after W Z c.requires.valid c.requires.stored c.requires.keeps_order c.args.self.now.paths c.args.found.now c.requires.met,
      c.requires.met.reached.shows,
    )

pub try_hints-requires-clause-told : goal.try_hints-requires-clause-told
try_hints-requires-clause-told g c = λ S is_after stands.
    let W = c.args.w.now in
    let Z = stored_with c.args.z.now (g.P.Work.returns c.args.work.now) in
    let told : (n : ℕ) (R : State) → IsAfter W Z n R → StandsFor W R c.args.found.now.model → HasHints W Z R c.args.s.0 c.in-These.hints.items =
    subst (AreChoices W Z c.args.found.now.model c.args.s.0) c.in-These.is c.in_ok-choices.ensures in
    subst (λ (hints : List What). HasHints W Z S c.args.s.0 hints) (sym c.deref.ensures.value) (told 0 S is_after stands)
