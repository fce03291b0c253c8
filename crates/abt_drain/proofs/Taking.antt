-- The turns of one stream: events that go on, and the one that ends them.
use Rattle.std.proofs.Common.{◌≡◌, ◌≢◌, ℕ, ◌<◌, inl, inr, true, false, List, [], ◌∷◌, ◌++◌, refl, sym, ◌∙◌, ap, subst}
use Rattle.std.specs.List.{All}
use Rattle.std.proofs.lemmas.List.Elements.{All-append, All-cons, All-nil}
use Rattle.abt_machine.specs.declared.events.Event.{Event}
use Rattle.abt_machine.specs.declared.events.What.{What}
use Rattle.abt_machine.specs.declared.events.What.TheVariants as what
use Rattle.abt_machine.specs.Stored.{Stored}
use Rattle.abt_machine.specs.declared.workload.Parts.{Parts}
use Rattle.abt_machine.specs.Outcomes.{is_step}
use Rattle.abt_machine.specs.Rounds.{OrdersStored}
use Rattle.abt_machine.specs.Runs.{last_state, state_after}
use Rattle.abt_machine.specs.Sound.{Sound}
use Rattle.abt_machine.specs.Start.{start}
use Rattle.abt_machine.specs.State.{State}
use Rattle.abt_machine.specs.Turns.{due_of}
use Rattle.abt_machine.specs.Valid.{IsValid}
use Rattle.abt_machine.specs.Values.{part_of}
use Rattle.abt_laws.specs.Laws.{IsMiss}
use Rattle.abt_laws.proofs.RunParts.{state_after-append}
use Rattle.abt_outcomes.specs.Rotations.{HasEmptied, HasNoStep, turns_left}
use Rattle.abt_outcomes.proofs.Beginning.{rounds-begin-fresh, steps-begin-fresh}
use Rattle.abt_outcomes.proofs.GoingOn.{emptied-grows}
use Rattle.abt_outcomes.proofs.Seen.{spent-seen}
use Rattle.abt_laws.proofs.DueParts.{due-same}
use Rattle.abt_outcomes.proofs.WithinTurns.{turns-fall}
use Rattle.abt_outcomes.proofs.Working.{turns-left-are-seen}
use Rattle.abt_drain.specs.InRotation.{AreTurns, EndsTurns}
use Rattle.abt_drain.specs.Moments.{IsReachedMoment, LeadTo, Makes, Moment, Stays, event_at, made_at}
use Rattle.abt_drain.specs.Rotations.{AreLogged, EndsRoundAt, HasTurned, HasSeenNone, IsSpentIn, Lead, MakesMove, MakesStep, MovesOn, turns_at}
use Rattle.abt_drain.proofs.Journals.{some-journal}
use Rattle.abt_drain.proofs.Leading.{event-comes, event-leads, lead-sound, leads-join, makes-lead, none-lead}
use Rattle.abt_drain.proofs.Turning.{logged-join, makes-logged, none-ends-join, none-logged}

pub stays-same : (m : Moment) (s : ℕ) → Stays m m s
stays-same m s = record { part = refl; log = refl; clock = refl }

pub stays-then : (a b c : Moment) (s : ℕ) → Stays a b s → Stays b c s → Stays a c s
stays-then a b c s one two = record { part = two.part ∙ one.part; log = two.log ∙ one.log; clock = two.clock ∙ one.clock }

pub no-step-join : (es fs : List Event) → HasNoStep es → HasNoStep fs → HasNoStep (es ++ fs)
no-step-join [] fs one two = two
no-step-join (e ∷ es) fs one two = (one.0, no-step-join es fs one.1 two)

pub no-step-rest : (es fs : List Event) → HasNoStep (es ++ fs) → HasNoStep fs
no-step-rest [] fs none = none
no-step-rest (e ∷ es) fs none = no-step-rest es fs none.1

pub no-step-front : (es fs : List Event) → HasNoStep (es ++ fs) → HasNoStep es
no-step-front [] fs none = tt
no-step-front (e ∷ es) fs none = (none.0, no-step-front es fs none.1)

pub differ : {A : Type 0} → true ≡ false → A
differ e = cc

-- a step is no miss
pub step-no-miss : (w : What) → is_step w ≡ true → IsMiss w → ⊥
step-no-miss (what.Miss p) step miss = differ (sym step)
step-no-miss (what.Take p u) step miss = miss
step-no-miss (what.Look u) step miss = miss
step-no-miss (what.Step u k c) step miss = miss
step-no-miss (what.Call u k n) step miss = miss
step-no-miss (what.Put u p) step miss = miss
step-no-miss (what.End u c) step miss = miss
step-no-miss (what.Enter u) step miss = miss
step-no-miss (what.Leave u) step miss = miss

-- at first the stream has made no event
pub none-moved : (W : Parts) (Z : Stored) (s : ℕ) (m : Moment) → MovesOn W Z s m m
none-moved W Z s m = record {
  events = [];
  lead = none-lead W Z m;
  logged = none-logged m;
  own = All-nil (λ (e : Event). e.stream.0 ≡ s);
  none = λ J lead. tt;
  no_step = tt;
  others = λ r ne. stays-same m r;
}

module _ (W : Parts) (Z : Stored) (valid : IsValid W) (stored : OrdersStored W Z.orders) (n s : ℕ) where
  -- one event more
  joined : (old mid new : Moment) (w : What) → (moves : MovesOn W Z s old mid) → Makes W Z s w mid new → Lead W Z old (moves.events ++ event_at new s w ∷ []) new
  joined old mid new w moves makes = leads-join W Z old mid new moves.events (event_at new s w ∷ []) moves.lead (makes-lead W Z valid stored s w mid new makes)

  logged : (old mid new : Moment) (w : What) → (moves : MovesOn W Z s old mid) → Makes W Z s w mid new → AreLogged old (moves.events ++ event_at new s w ∷ []) new
  logged old mid new w moves makes = logged-join old mid new moves.events (event_at new s w ∷ []) moves.logged (makes-logged W Z s w mid new makes)

  all-own : (old mid new : Moment) (w : What) → (moves : MovesOn W Z s old mid) → All (λ (e : Event). e.stream.0 ≡ s) (moves.events ++ event_at new s w ∷ [])
  all-own old mid new w moves =
      let is_own : Event → Type 0 = λ e. e.stream.0 ≡ s in
      All-append is_own moves.events (event_at new s w ∷ []) moves.own (All-cons is_own (event_at new s w) [] refl (All-nil is_own))

  -- an event that goes on ends no turns
  move-ends-none : (old new : Moment) (move : MakesMove W Z s old new) (J : List Event) → LeadTo W Z J old → EndsTurns W s J (event_at new s move.what) → ⊥
  move-ends-none old new move J lead ends =
      let own = (event-leads W Z valid stored s move.what old new move.makes J lead).stand.streams s move.makes.declared in
      elim ends [
        | inl step ↦ differ (sym step ∙ move.other)
        | inr empty ↦ differ (sym empty.2 ∙ (ap (λ p. p.own.top.empty) own ∙ move.goes_on empty.1))
      ]

  others-stay : (old mid new : Moment) (w : What) → MovesOn W Z s old mid → Makes W Z s w mid new → (r : ℕ) → s ≢ r → Stays old new r
  others-stay old mid new w moves makes r ne = stays-then old mid new r (moves.others r ne) (makes.others r ne)

  -- an event that goes on
  pub move-more : (old mid new : Moment) → MovesOn W Z s old mid → MakesMove W Z s mid new → MovesOn W Z s old new
  move-more old mid new moves move = record {
    events = moves.events ++ event_at new s move.what ∷ [];
    lead = joined old mid new move.what moves move.makes;
    logged = logged old mid new move.what moves move.makes;
    own = all-own old mid new move.what moves;
    none = λ J lead. none-ends-join W s J moves.events (event_at new s move.what ∷ []) (moves.none J lead) (move-ends-none mid new move (J ++ moves.events) (moves.lead J lead), tt);
    no_step = no-step-join moves.events (event_at new s move.what ∷ []) moves.no_step (move.other, tt);
    others = others-stay old mid new move.what moves move.makes;
  }

  -- turns that the last event ends
  last-ends : (old mid new : Moment) (w : What) (moves : MovesOn W Z s old mid) → ((J : List Event) → LeadTo W Z J mid → EndsTurns W s J (event_at new s w)) → (J : List Event) → LeadTo W Z J old →
      AreTurns W n s J (moves.events ++ event_at new s w ∷ [])
  last-ends old mid new w moves ends J lead = record {
    own = all-own old mid new w moves;
    ended = inl (record { before = moves.events; last = event_at new s w; all = refl; none = moves.none J lead; ends = ends (J ++ moves.events) (moves.lead J lead) });
  }

  -- it lowers what is left to the turn
  pub move-lowers : (old new : Moment) → IsReachedMoment W Z n old → MakesMove W Z s old new → turns_at W new s < turns_at W old s
  move-lowers old new reached move =
      let j : (J : List Event) × LeadTo W Z J old = some-journal W Z valid stored n old reached in
      let e : Event = event_at new s move.what in
      let S : State = last_state W j.0 in
      let T : State = last_state W (j.0 ++ e ∷ []) in
      let lead : LeadTo W Z (j.0 ++ e ∷ []) new = event-leads W Z valid stored s move.what old new move.makes j.0 j.1 in
      let sound : Sound W Z S = lead-sound W Z valid stored j.0 old j.1 in
      let later : Sound W Z T = lead-sound W Z valid stored (j.0 ++ e ∷ []) new lead in
      let less : turns_left W T s < turns_left W S s =
      turns-fall W Z valid stored S T e sound (event-comes W Z valid stored s move.what old new move.makes j.0 j.1) move.other
      (λ miss. ap (λ p. p.own.top.empty) (lead.stand.streams s move.makes.declared) ∙ move.goes_on miss) in
      let a : turns_left W S s ≡ turns_at W old s = turns-left-are-seen W Z S old.parts old.objects s sound j.1.stand move.makes.declared in
      let b : turns_left W T s ≡ turns_at W new s = turns-left-are-seen W Z T new.parts new.objects s later lead.stand move.makes.declared in
      subst (λ k. turns_at W new s < k) a (subst (λ k. k < turns_left W S s) b less)

  -- after an event that is no miss, or ends the round empty, no pool is seen
  fresh-after : (old new : Moment) (w : What) → IsReachedMoment W Z n old → Makes W Z s w old new → (IsMiss w → (new.parts s).own.top.empty ≡ true) → HasSeenNone new s
  fresh-after old new w reached makes ends =
      let j : (J : List Event) × LeadTo W Z J old = some-journal W Z valid stored n old reached in
      let e : Event = event_at new s w in
      let lead : LeadTo W Z (j.0 ++ e ∷ []) new = event-leads W Z valid stored s w old new makes j.0 j.1 in
      let own : part_of W (last_state W (j.0 ++ e ∷ [])) s ≡ new.parts s = lead.stand.streams s makes.declared in
      sym (ap (λ p. p.own.top.seen) own)
      ∙ rounds-begin-fresh W Z valid stored (last_state W j.0) (last_state W (j.0 ++ e ∷ [])) e (lead-sound W Z valid stored j.0 old j.1)
      (event-comes W Z valid stored s w old new makes j.0 j.1) (λ miss. ap (λ p. p.own.top.empty) own ∙ ends miss)

  -- a step ends the turns
  pub turned-by-step : (old mid new : Moment) → MovesOn W Z s old mid → IsReachedMoment W Z n mid → MakesStep W Z s mid new → HasTurned W Z n s old true new
  turned-by-step old mid new moves reached step = record {
    events = moves.events ++ event_at new s step.what ∷ [];
    lead = joined old mid new step.what moves step.makes;
    logged = logged old mid new step.what moves step.makes;
    turns = last-ends old mid new step.what moves (λ J lead. inl step.step);
    no_step = λ e. differ e;
    step = λ e none. differ (sym step.step ∙ (no-step-rest moves.events (event_at new s step.what ∷ []) none).0);
    emptied = λ e. differ e;
    fresh = fresh-after mid new step.what reached step.makes (λ miss. absurd (step-no-miss step.what step.step miss));
    others = others-stay old mid new step.what moves step.makes;
  }

  -- the miss by which a round ends empty
  ends-empty : (mid new : Moment) (ends : EndsRoundAt W Z s mid new) (S : State) (J : List Event) → LeadTo W Z J mid → last_state W J ≡ S → HasEmptied W s S (event_at new s (what.Miss ends.pool) ∷ [])
  ends-empty mid new ends S J lead e =
      subst (λ T. HasEmptied W s T (event_at new s (what.Miss ends.pool) ∷ [])) e
      (let next : last_state W (J ++ event_at new s (what.Miss ends.pool) ∷ []) ≡ _ = (event-comes W Z valid stored s (what.Miss ends.pool) mid new ends.makes J lead).2 in
      let own = (event-leads W Z valid stored s (what.Miss ends.pool) mid new ends.makes J lead).stand.streams s ends.makes.declared in
      inl (refl, tt, sym (ap (λ T. (T.stream s).top.empty) next) ∙ (ap (λ p. p.own.top.empty) own ∙ ends.empty)))

  -- an empty round ends the turns
  pub turned-by-round : (old mid new : Moment) → MovesOn W Z s old mid → IsReachedMoment W Z n mid → EndsRoundAt W Z s mid new → HasTurned W Z n s old false new
  turned-by-round old mid new moves reached ends =
      let e : Event = event_at new s (what.Miss ends.pool) in
      record {
        events = moves.events ++ e ∷ [];
        lead = joined old mid new (what.Miss ends.pool) moves ends.makes;
        logged = logged old mid new (what.Miss ends.pool) moves ends.makes;
        turns = last-ends old mid new (what.Miss ends.pool) moves (λ J lead. inr (
          refl,
          tt,
          (let own = (event-leads W Z valid stored s (what.Miss ends.pool) mid new ends.makes J lead).stand.streams s ends.makes.declared in ap (λ p. p.own.top.empty) own ∙ ends.empty),
        ));
        no_step = λ q. no-step-join moves.events (e ∷ []) moves.no_step (refl, tt);
        step = λ q. differ (sym q);
        emptied = λ q. inl (
          (λ J lead. (emptied-grows W s (last_state W J) moves.events (e ∷ [])).1
              (ends-empty mid new ends (state_after W (last_state W J) moves.events) (J ++ moves.events) (moves.lead J lead) (state_after-append W (start W) J moves.events))),
          record { before = mid.logs s; pool = ends.pool; log = ends.makes.log; empty = ends.empty },
        );
        fresh = fresh-after mid new (what.Miss ends.pool) reached ends.makes (λ miss. ends.empty);
        others = others-stay old mid new (what.Miss ends.pool) moves ends.makes;
      }

  -- so does that the stream is spent
  pub turned-spent : (old mid : Moment) → MovesOn W Z s old mid → IsReachedMoment W Z n mid → IsSpentIn W n mid s → HasTurned W Z n s old false mid
  turned-spent old mid moves reached spent =
      let j : (J : List Event) × LeadTo W Z J mid = some-journal W Z valid stored n mid reached in
      let own : part_of W (last_state W j.0) s ≡ mid.parts s = j.1.stand.streams s spent.0 in
      record {
        events = moves.events;
        lead = moves.lead;
        logged = moves.logged;
        turns = λ J lead. (
            let led : LeadTo W Z (J ++ moves.events) mid = moves.lead J lead in
            record {
              own = moves.own;
              ended = inr (record { none = moves.none J lead; spent = (spent-seen W n s (J ++ moves.events) mid.parts mid.objects (made_at mid) led.stand led.made).1 spent });
            });
        no_step = λ q. moves.no_step;
        step = λ q. differ (sym q);
        emptied = λ q. inr spent;
        fresh = sym (ap (λ p. p.own.top.seen) own) ∙ steps-begin-fresh W Z (last_state W j.0) s (lead-sound W Z valid stored j.0 mid j.1)
            (due-same W (last_state W j.0) s ∙ (ap (due_of W s) own ∙ spent.2));
        others = moves.others;
      }
