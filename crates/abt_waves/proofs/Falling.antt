-- What turns and waves make of the work that is left.
use Rattle.std.proofs.Common.{◌≡◌, ◌≢◌, ℕ, ◌<◌, ◌≤◌, inl, inr, Bool, true, List, [], ◌∷◌, ◌++◌, Option, Some, option_map, refl, sym, ◌∙◌, ap, subst, arith}
use Rattle.std.proofs.lemmas.List.{append_cancel_left}
use Rattle.abt_machine.specs.declared.events.Event.{Event}
use Rattle.abt_machine.specs.declared.events.What.{What}
use Rattle.abt_machine.specs.declared.events.What.TheVariants as what
use Rattle.abt_machine.specs.Stored.{Stored}
use Rattle.abt_machine.specs.declared.workload.Parts.{Parts}
use Rattle.abt_machine.specs.Rounds.{OrdersStored}
use Rattle.abt_machine.specs.Runs.{last_state}
use Rattle.abt_machine.specs.Start.{start}
use Rattle.abt_machine.specs.Next.{RoundDue, due_by}
use Rattle.abt_machine.specs.State.{Stream}
use Rattle.abt_machine.specs.Turns.{Heard, Steps, due_of, number_and_position}
use Rattle.abt_machine.specs.Valid.{IsValid}
use Rattle.abt_machine.specs.Values.{Held, Owned, part_of}
use Rattle.abt_laws.specs.Laws.{IsMiss}
use Rattle.abt_laws.proofs.DueParts.{due-same}
use Rattle.abt_laws.proofs.RunParts.{state_after-append}
use Rattle.abt_outcomes.specs.Rotations.{HasEmptied, HasNoStep, IsRotation, IsWithin, work_left}
use Rattle.abt_outcomes.proofs.Beginning.{rounds-begin-fresh, steps-begin-fresh}
use Rattle.abt_outcomes.proofs.Falling.{others-raise-none, steps-fall}
use Rattle.abt_outcomes.proofs.Working.{seen-rotations-fall, work-is-seen}
use Rattle.abt_simulation.specs.Journals.{events_of}
use Rattle.abt_simulation.specs.Merging.{IsJournalOf}
use Rattle.abt_stream.specs.declared.turns.Turn.{Turn}
use Rattle.abt_stream.specs.declared.turns.Turn.TheVariants as turn
use Rattle.abt_drain.specs.Crews.{TurnBy}
use Rattle.abt_drain.specs.Moments.{HasCome, IsReachedMoment, LeadTo, Makes, Moment, event_at, made_at}
use Rattle.abt_drain.specs.Rotations.{HasSeenNone, IsSpentIn, work_at}
use Rattle.abt_drain.proofs.Coming.{come-journal}
use Rattle.abt_drain.proofs.Journals.{has-come, some-journal}
use Rattle.abt_drain.proofs.Leading.{event-comes, event-leads, lead-sound}
use Rattle.abt_drain.proofs.Taking.{step-no-miss}
use Rattle.abt_waves.specs.Fleets.{IsWave}
use Rattle.abt_waves.specs.Leaving.{BeginsRounds, HasEndedRound, HasLeft, Lowers}
use Rattle.abt_waves.specs.Staying.{MayEnd}
use Rattle.abt_waves.proofs.Emptying.{emptied-last}
use Rattle.abt_waves.proofs.OneWave.{own-events, some-events, wave-leads}

module _ (W : Parts) (Z : Stored) (valid : IsValid W) (stored : OrdersStored W Z.orders) (n : ℕ) where
  -- the round of a stream that is spent has seen no pool
  pub spent-fresh : (m : Moment) → HasCome W Z n m → (s : ℕ) → IsSpentIn W n m s → HasSeenNone m s
  spent-fresh m come s spent =
      let j : (J : List Event) × LeadTo W Z J m = come-journal W Z valid stored n m come in
      let own = j.1.stand.streams s spent.0 in
      sym (ap (λ p. p.own.top.seen) own) ∙ steps-begin-fresh W Z (last_state W j.0) s (lead-sound W Z valid stored j.0 m j.1)
      (due-same W (last_state W j.0) s ∙ (ap (due_of W s) own ∙ spent.2))

  -- One turn.

  -- after an event that is no miss, or ends the round empty, the round has seen no pool
  event-fresh : (old new : Moment) (s : ℕ) (w : What) → IsReachedMoment W Z n old → Makes W Z s w old new → (IsMiss w → (new.parts s).own.top.empty ≡ true) → HasSeenNone new s
  event-fresh old new s w before makes ends =
      let j : (J : List Event) × LeadTo W Z J old = some-journal W Z valid stored n old before in
      let e : Event = event_at new s w in
      let led : LeadTo W Z (j.0 ++ e ∷ []) new = event-leads W Z valid stored s w old new makes j.0 j.1 in
      let own : part_of W (last_state W (j.0 ++ e ∷ [])) s ≡ new.parts s = led.stand.streams s makes.declared in
      sym (ap (λ p. p.own.top.seen) own)
      ∙ rounds-begin-fresh W Z valid stored (last_state W j.0) (last_state W (j.0 ++ e ∷ [])) e (lead-sound W Z valid stored j.0 old j.1)
      (event-comes W Z valid stored s w old new makes j.0 j.1) (λ miss. ap (λ p. p.own.top.empty) own ∙ ends miss)

  -- a stream that has a unit in its tray misses no pool
  tray-no-miss : (s : ℕ) (w : What) (held new : Held) (heard : Option Heard) → held.tray ≢ [] → Steps W Z s held w heard new → IsMiss w → ⊥
  tray-no-miss s (what.Miss p) held new heard full steps miss = full (no-tray s held.own held.tray held.next (option_map number_and_position held.hand) steps.0) where
    no-tray : (s : ℕ) (own : Stream) (tray : List Owned) (next : Option Owned) (hand : Option (ℕ × ℕ)) → due_by W s own tray next hand ≡ RoundDue → tray ≡ []
    no-tray s own [] next hand due = refl
    no-tray s own (o ∷ os) next hand due = cc
  tray-no-miss s _ held new heard full steps miss = absurd miss

  -- a round has seen no pool after a turn that is not one of several events of it
  pub turn-fresh : (s : ℕ) (old new : Moment) → IsReachedMoment W Z n old → (putting : Bool) → (putting ≡ true → (old.parts s).tray ≢ []) → (t : Turn) → MayEnd putting t → TurnBy W Z n s old t new → HasSeenNone new s
  turn-fresh s old new before putting full turn.Stepped may t = event-fresh old new s t.what before t.makes (λ miss. absurd (step-no-miss t.what t.step miss))
  turn-fresh s old new before putting full turn.EmptyRound may t = event-fresh old new s (what.Miss t.pool) before t.makes (λ miss. t.empty)
  turn-fresh s old new before putting full turn.Moved may t = event-fresh old new s t.what before t.makes
      (λ miss. absurd (tray-no-miss s t.what (old.parts s) (new.parts s) t.makes.heard (full may) t.makes.steps miss))
  turn-fresh s old new before putting full turn.Spent may t = spent-fresh new (has-come W Z valid stored n new (subst (IsReachedMoment W Z n) (sym t.1) before)) s (subst (λ m. IsSpentIn W n m s) (sym t.1) t.0)
  turn-fresh s old new before putting full turn.Worn may t = absurd t

  -- an event raises nothing
  event-raises-none : (s : ℕ) (w : What) (old new : Moment) → IsReachedMoment W Z n old → IsReachedMoment W Z n new → Makes W Z s w old new → work_at W n new ≤ work_at W n old
  event-raises-none s w old new before after makes =
      let j : (J : List Event) × LeadTo W Z J old = some-journal W Z valid stored n old before in
      let es : List Event = event_at new s w ∷ [] in
      let led : LeadTo W Z (j.0 ++ es) new = event-leads W Z valid stored s w old new makes j.0 j.1 in
      let within : IsWithin W n (j.0 ++ es) = λ r lt. subst (λ k. k ≤ n) (sym (led.made r lt)) (after.within r) in
      let a : work_left W n j.0 ≡ work_at W n old = work-is-seen W Z valid stored n j.0 old.parts old.objects (made_at old) j.1.run j.1.stand j.1.made in
      let b : work_left W n (j.0 ++ es) ≡ work_at W n new = work-is-seen W Z valid stored n (j.0 ++ es) new.parts new.objects (made_at new) led.run led.stand led.made in
      let most : work_left W n (j.0 ++ es) ≤ work_left W n j.0 = elim (steps-fall W Z valid stored n j.0 es led.run within) [
        | inl none ↦ others-raise-none W Z valid stored n j.0 es led.run none
        | inr less ↦ omega arith
      ] in
      subst (λ k. work_at W n new ≤ k) a (subst (λ k. k ≤ work_left W n j.0) b most)

  -- nor does a turn
  pub turn-raises-none : (s : ℕ) (old new : Moment) → IsReachedMoment W Z n old → IsReachedMoment W Z n new → (t : Turn) → TurnBy W Z n s old t new → work_at W n new ≤ work_at W n old
  turn-raises-none s old new before after turn.Stepped t = event-raises-none s t.what old new before after t.makes
  turn-raises-none s old new before after turn.EmptyRound t = event-raises-none s (what.Miss t.pool) old new before after t.makes
  turn-raises-none s old new before after turn.Moved t = event-raises-none s t.what old new before after t.makes
  turn-raises-none s old new before after turn.Spent t = subst (λ m. work_at W n m ≤ work_at W n old) (sym t.1) (omega arith)
  turn-raises-none s old new before after turn.Worn t = absurd t

  -- One wave.

  module _ (old new : Moment) (come : HasCome W Z n old) (within : (s : ℕ) → made_at new s ≤ n) (live : List Bool) (wave : IsWave W Z live old new) where
    journal : (J : List Event) × LeadTo W Z J old
    journal = come-journal W Z valid stored n old come

    events : (es : List Event) × IsJournalOf wave.deeds es
    events = some-events W Z valid stored journal.0 old new journal.1 live wave

    led : LeadTo W Z (journal.0 ++ events.0) new
    led = wave-leads W Z valid stored journal.0 old new journal.1 live wave events.0 events.1

    -- a round that ended empty did so within the wave's events
    emptied : HasNoStep events.0 → (s : ℕ) → s < W.streams → HasEndedRound old new s → HasEmptied W s (last_state W journal.0) events.0
    emptied none s lt ended =
        let own : part_of W (last_state W (journal.0 ++ events.0)) s ≡ new.parts s = led.stand.streams s lt in
        emptied-last W s ended.last ended.miss ended.before (last_state W journal.0) events.0 none
        (own-events W Z valid stored journal.0 old new journal.1 live wave events.0 events.1 s
        ∙ append_cancel_left (old.logs s) (events_of wave.deeds s) (ended.before ++ ended.last ∷ []) (sym (wave.logs s) ∙ ended.log))
        (ap (λ T. (T.stream s).top.empty) (sym (state_after-append W (start W) journal.0 events.0)) ∙ (ap (λ p. p.own.top.empty) own ∙ ended.empty))

    -- if all streams have left it so, it lowers the work that is left
    pub wave-lowers : BeginsRounds W old → ((s : ℕ) → s < W.streams → HasLeft W n old new s) → Lowers W n old new
    wave-lowers fresh all busy unspent =
        let rotates : HasNoStep events.0 → IsRotation W (last_state W journal.0) events.0 = λ none. record {
          fresh = λ s lt. ap (λ p. p.own.top.seen) (journal.1.stand.streams s lt) ∙ fresh s lt;
          emptied = λ s lt. elim (all s lt).why [ inl ended ↦ emptied none s lt ended | inr spent ↦ absurd (unspent s spent) ];
        } in
        elim (seen-rotations-fall W Z valid stored n journal.0 events.0 old.parts new.parts old.objects new.objects (made_at old) (made_at new) led.run
        journal.1.stand journal.1.made led.stand led.made (λ s lt. within s) rotates) [
          | inl quiet ↦ absurd (busy quiet)
          | inr less ↦ less
        ]
