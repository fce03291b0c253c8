-- The event that a hint tells.
use Rattle.std.proofs.Common.{ℕ, Some, arith, subst, sym}
use Rattle.abt_machine.specs.Runs.{last_state}
use Rattle.abt_machine.specs.State.{State}
use Rattle.abt_model.specs.Hints.{IsMade}
use Rattle.abt_model.specs.Models.{IsAfter, ModelValue, StandsFor}
use Rattle.abt_model.specs.Stored.{stored_with}
use Rattle.abt_explore.specs.Searches.{Meets, journal_to}
use Rattle.abt_model.specs.Keys.{unnumbered_model}
use Rattle.abt_explore.specs.Unnumbered.{unnumbered_state}
use Rattle.abt_explore.proofs.Finding.{met-after}
use Rattle.abt_explore.proofs.Following.{none-after, on-ok, searching-after, some-after}
use Rattle.abt_explore.proofs.Searching.{grows-met, grows-same}
use Rattle.abt_explore.proofs.search.Search.follow.Goals as goal

pub make-requires-clause-state : goal.make-requires-clause-state
make-requires-clause-state g c =
    let W = c.args.w.now in
    let Z = stored_with c.args.z.now (g.P.Work.returns c.args.work.now) in (
      0,
      omega arith,
      unnumbered_state (last_state W (journal_to c.args.self.now.paths c.args.found.now)),
      met-after W Z c.requires.valid c.requires.stored c.requires.keeps_order c.args.self.now.paths c.args.found.now c.requires.met,
      subst (StandsFor W (unnumbered_state (last_state W (journal_to c.args.self.now.paths c.args.found.now)))) (sym c.in_ok-model.ensures) c.requires.met.reached.shows,
    )

pub returns-in-None : goal.returns-in-None
returns-in-None g c =
    let W = c.args.w.now in
    let Z = stored_with c.args.z.now (g.P.Work.returns c.args.work.now) in
    let makes : (n : ℕ) (S : State) → IsAfter W Z n S → StandsFor W S c.args.found.now.model → IsMade W Z n S c.args.s.0 c.args.hint.now c.in_ok-make.field-0 c.make.new.self =
    subst (λ (m : ModelValue). (n : ℕ) (S : State) → IsAfter W Z n S → StandsFor W S m → IsMade W Z n S c.args.s.0 c.args.hint.now c.in_ok-make.field-0 c.make.new.self)
    c.in_ok-model.ensures c.in_ok-make.ensures in
    record {
      grows = grows-same c.args.self.now;
      searching = c.requires.searching;
      sees = none-after W Z c.requires.keeps_order c.args.found.now c.args.s.0 c.args.hint.now c.in_ok-make.field-0 c.make.new.self makes c.args.self.now c.in-None.is;
    }

pub returns-in-Some : goal.returns-in-Some
returns-in-Some g c =
    let W = c.args.w.now in
    let Z = stored_with c.args.z.now (g.P.Work.returns c.args.work.now) in
    let old = c.args.self.now in
    let new = c.meet.new.self in
    let found = c.args.found.now in
    let what = c.in-Some.what in
    let makes : (n : ℕ) (S : State) → IsAfter W Z n S → StandsFor W S found.model → IsMade W Z n S c.args.s.0 c.args.hint.now c.in_ok-make.field-0 c.make.new.self =
    subst (λ (m : ModelValue). (n : ℕ) (S : State) → IsAfter W Z n S → StandsFor W S m → IsMade W Z n S c.args.s.0 c.args.hint.now c.in_ok-make.field-0 c.make.new.self)
    c.in_ok-model.ensures c.in_ok-make.ensures in
    let meets = on-ok c.meet.result (λ (h : Meets old found c.args.s.0
    what c.forget_rounds.new.self new). subst (λ (m : ModelValue). Meets old found c.args.s.0 what m new) c.forget_rounds.ensures h) c.meet.ensures in
    record {
      grows = on-ok c.meet.result (λ (h : Meets old found c.args.s.0 what (unnumbered_model c.make.new.self) new). grows-met old found c.args.s.0 what (unnumbered_model c.make.new.self) new h) meets;
      searching = on-ok c.meet.result
          (λ (h : Meets old found c.args.s.0 what (unnumbered_model c.make.new.self) new).
          searching-after W Z c.requires.keeps_order found c.args.s.0 c.args.hint.now c.in_ok-make.field-0 c.make.new.self makes what c.in-Some.is old new h
          c.requires.valid c.requires.stored c.requires.stream c.requires.met
          (Some found.model) c.requires.searching)
          meets;
      sees = on-ok c.meet.result
          (λ (h : Meets old found c.args.s.0 what (unnumbered_model c.make.new.self) new).
          some-after W Z c.requires.keeps_order found c.args.s.0 c.args.hint.now c.in_ok-make.field-0 c.make.new.self makes what c.in-Some.is old new h)
          meets;
    }
