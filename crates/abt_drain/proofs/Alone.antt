-- A workload's only stream: its log is the journal, which goes to its stop.
use Rattle.std.proofs.Common.{◌≡◌, ℕ, suc, ◌+◌, ◌<◌, ◌≤◌, inl, inr, cond, true, false, List, [], ◌∷◌, ◌++◌, map, Option, refl, sym, ◌∙◌, ap, subst, arith}
use Rattle.std.proofs.lemmas.Bool.{cases_Bool, cases_eq}
use Rattle.std.proofs.lemmas.List.Sums.{sum_by_push}
use Rattle.abt_machine.specs.declared.events.Event.{Event}
use Rattle.abt_machine.specs.declared.events.Outcome.{Outcome}
use Rattle.abt_machine.specs.declared.events.Outcome.TheVariants as outcome
use Rattle.abt_machine.specs.declared.events.What.{What}
use Rattle.abt_machine.specs.declared.events.What.TheVariants as what
use Rattle.abt_machine.specs.Stored.{Stored}
use Rattle.abt_machine.specs.declared.workload.Parts.{Parts}
use Rattle.abt_machine.specs.Next.{EndDue, EnterDue, LeaveDue, LookDue, PutDue, RoundDue, StepDue}
use Rattle.abt_machine.specs.Outcomes.{EndsAs, Quiet, Spent, is_step, steps_in, steps_of}
use Rattle.abt_machine.specs.Rounds.{OrdersStored}
use Rattle.abt_machine.specs.Runs.{last_state}
use Rattle.abt_machine.specs.Stamps.{Stamped}
use Rattle.abt_machine.specs.Start.{start}
use Rattle.abt_machine.specs.Turns.{Heard, Steps, due_of}
use Rattle.abt_machine.specs.Valid.{IsValid}
use Rattle.abt_machine.specs.Values.{Held, object_of, part_of}
use Rattle.abt_interleave.specs.Merges.{of_stream}
use Rattle.abt_interleave.proofs.OneList.{of-other, of-own}
use Rattle.abt_simulation.specs.Journals.{MergesTo, events_of}
use Rattle.abt_simulation.specs.Merging.{event_of}
use Rattle.abt_simulation.proofs.Tallied.{journals-are-merges, journals-exist}
use Rattle.abt_laws.specs.Laws.{IsMiss}
use Rattle.abt_laws.proofs.Quiet.{spent-not-quiet}
use Rattle.abt_laws.proofs.RunParts.{last_state-sound}
use Rattle.abt_laws.proofs.SoundRuns.{runs-are-sound}
use Rattle.abt_bounds.specs.Laws.{HasNoFree}
use Rattle.abt_outcomes.specs.OneStream.{EndsRound, GoesToItsStop, HasEndedEmpty, HasNotStopped, IsOnlyRun, HasStopped}
use Rattle.abt_outcomes.proofs.Counted.{stamped-counted}
use Rattle.abt_outcomes.proofs.Determined.{only-run}
use Rattle.abt_outcomes.proofs.GoingOn.{stops-are-last, stops-grow}
use Rattle.abt_outcomes.proofs.Seen.{quiet-seen, spent-seen}
use Rattle.abt_outcomes.proofs.Stopping.{empty-rounds-end}
use Rattle.abt_drain.specs.Moments.{IsReachedMoment, LeadTo, Makes, Moment, event_at, made_at}
use Rattle.abt_drain.specs.Rotations.{LastRoundIsEmpty, HasNotStoppedBefore, IsAtStop, IsAwake, IsGoing, IsQuietIn, IsSpentIn}
use Rattle.abt_drain.proofs.Journals.{merged-lead}
use Rattle.abt_drain.proofs.Taking.{differ}

-- The journal.

-- a list that has nothing of other streams is what it has of stream 0
all-of-first : (J : List Event) → ((s : ℕ) → 1 ≤ s → of_stream (λ (e : Event). e.stream.0) s J ≡ []) → of_stream (λ (e : Event). e.stream.0) 0 J ≡ J
all-of-first [] none = refl
all-of-first (e ∷ J) none = elim (cases_eq e.stream.0 0) [
  | inl own ↦ of-own (λ (f : Event). f.stamp) (λ (f : Event). f.stream.0) 0 e J own
      ∙ ap (λ es. e ∷ es) (all-of-first J (λ s some. sym (of-other (λ (f : Event). f.stamp) (λ (f : Event). f.stream.0) s e J (λ q. absurd (apart s some own q))) ∙ none s some))
  | inr other ↦ (
      let h : e ∷ of_stream (λ (f : Event). f.stream.0) e.stream.0 J ≡ [] = sym (of-own (λ (f : Event). f.stamp) (λ (f : Event). f.stream.0) e.stream.0 e J refl) ∙ none e.stream.0 (omega arith) in
      cc)
] where
  apart : (s : ℕ) → 1 ≤ s → e.stream.0 ≡ 0 → e.stream.0 ≡ s → ⊥
  apart s some own q = omega arith

module _ (W : Parts) (Z : Stored) (n : ℕ) (m : Moment) (reached : IsReachedMoment W Z n m) (alone : W.streams ≡ 1) where
  -- the log is what all logs merge to
  pub log-merges : MergesTo m.logs (m.logs 0)
  log-merges =
      let j = journals-exist W Z (part_of W (start W)) (object_of W (start W)) reached.deeds reached.histories m.parts m.objects reached.gathered in
      let merged : MergesTo (events_of reached.deeds) j.0 = (journals-are-merges W Z (part_of W (start W)) (object_of W (start W)) reached.deeds reached.histories m.parts m.objects reached.gathered j.0).0 j.1 in
      let whole : of_stream (λ (e : Event). e.stream.0) 0 j.0 ≡ j.0 =
      all-of-first j.0 (λ s some. merged.each s ∙ ap (map event_of) (reached.gathered.undeclared s (subst (λ k. k ≤ s) (sym alone) some))) in
      let same : j.0 ≡ m.logs 0 = sym whole ∙ (merged.each 0 ∙ reached.logs 0) in
      subst (MergesTo m.logs) same (record { in_order = merged.in_order; each = λ s. merged.each s ∙ reached.logs s })

-- Going on.

-- an event that is no step comes if no step is due
step-due : (W : Parts) (Z : Stored) (s : ℕ) (old : Held) (w : What) (heard : Option Heard) (new : Held) → Steps W Z s old w heard new → is_step w ≡ false → due_of W s old ≡ StepDue → ⊥
step-due W Z s old (what.Miss p) heard new steps other e = let d : due_of W s old ≡ RoundDue = steps.0 in cc
step-due W Z s old (what.Take p u) heard new steps other e = let d : due_of W s old ≡ RoundDue = steps.0 in cc
step-due W Z s old (what.Look u) heard new steps other e = let d : due_of W s old ≡ LookDue = steps.0 in cc
step-due W Z s old (what.Step u k c) heard new steps other e = differ other
step-due W Z s old (what.Call u k n) heard new steps other e = differ other
step-due W Z s old (what.Put u p) heard new steps other e = let d : due_of W s old ≡ PutDue = steps.0 in cc
step-due W Z s old (what.End u c) heard new steps other e = let d : due_of W s old ≡ EndDue c = steps.0 in cc
step-due W Z s old (what.Enter u) heard new steps other e = let d : due_of W s old ≡ EnterDue = steps.0 in cc
step-due W Z s old (what.Leave u) heard new steps other e = let d : due_of W s old ≡ LeaveDue = steps.0 in cc

-- a step more
step-counts : (log : List Event) (e : Event) → is_step e.what ≡ true → steps_in (log ++ e ∷ []) ≡ steps_in log + 1
step-counts log e step = sum_by_push (λ (f : Event). cond {A = ℕ} (is_step f.what) 1 0) log e ∙ ap (λ b. steps_in log + cond {A = ℕ} b 1 0) step

-- a journal that has not stopped has not done so before its next event
stopped-before : (W : Parts) (n : ℕ) (J : List Event) (e : Event) → HasNotStoppedBefore W n J → (HasStopped W n J → ⊥) → HasNotStoppedBefore W n (J ++ e ∷ [])
stopped-before W n J e before here = inr (
  J,
  e,
  refl,
  elim before [
    | inl empty ↦ subst (HasNotStopped W n) (sym empty) (stops-grow W n).0
    | inr last ↦ subst (HasNotStopped W n) (sym last.2) (((stops-grow W n).1 last.0 last.1 last.3).0 (λ stops. here (subst (HasStopped W n) (sym last.2) stops)))
  ],
)

-- a journal that stops has gone to its stop
goes-to-stop : (W : Parts) (n : ℕ) (J : List Event) → HasNotStoppedBefore W n J → HasStopped W n J → GoesToItsStop W n J
goes-to-stop W n J before stops = elim before [
  | inl empty ↦ absurd ((stops-grow W n).0 J [] (ap (λ (K : List Event). K ++ []) (sym empty)) stops)
  | inr last ↦ subst (GoesToItsStop W n) (sym last.2) (((stops-grow W n).1 last.0 last.1 last.3).1 (subst (HasStopped W n) last.2 stops))
]

-- what ended a journal empty is its last event
ended-last : (W : Parts) (J : List Event) (e : Event) → HasEndedEmpty W (J ++ e ∷ []) → EndsRound W J e
ended-last W J e ended =
    let n : ℕ = suc (steps_of 0 (J ++ e ∷ [])) in
    elim ((stops-are-last W n J e).0 (inl ended)) [
      | inl ends ↦ ends
      | inr spent ↦ (let q : steps_of 0 (J ++ e ∷ []) ≡ suc (steps_of 0 (J ++ e ∷ [])) = spent.1 in absurd (omega arith))
    ]

module _ (W : Parts) (Z : Stored) (valid : IsValid W) (stored : OrdersStored W Z.orders) (n : ℕ) where
  -- the log leads to the moment
  log-leads : (m : Moment) → IsReachedMoment W Z n m → W.streams ≡ 1 → LeadTo W Z (m.logs 0) m
  log-leads m reached alone = merged-lead W Z valid stored n m reached (m.logs 0) (log-merges W Z n m reached alone)

  module _ (s : ℕ) (w : What) (old new : Moment) (before : IsReachedMoment W Z n old) (after : IsReachedMoment W Z n new) (makes : Makes W Z s w old new) where
    first : W.streams ≡ 1 → s ≡ 0
    first alone = let d : s < W.streams = makes.declared in omega arith

    first-log : W.streams ≡ 1 → new.logs 0 ≡ old.logs 0 ++ event_at new 0 w ∷ []
    first-log alone = subst (λ r. new.logs r ≡ old.logs r ++ event_at new r w ∷ []) (first alone) makes.log

    -- a stream that makes an event is not spent
    unspent : W.streams ≡ 1 → Spent W n (old.logs 0) 0 → ⊥
    unspent alone spent =
        let lead : LeadTo W Z (old.logs 0) old = log-leads old before alone in
        let seen : IsSpentIn W n old 0 = (spent-seen W n 0 (old.logs 0) old.parts old.objects (made_at old) lead.stand lead.made).0 spent in
        elim (cases_Bool (is_step w)) [
          | inl step ↦ (
              let more : steps_in (new.logs 0) ≡ steps_in (old.logs 0) + 1 = ap steps_in (first-log alone) ∙ step-counts (old.logs 0) (event_at new 0 w) step in
              let within : steps_in (new.logs 0) ≤ n = after.within 0 in
              let made : steps_in (old.logs 0) ≡ n = seen.1 in
              absurd (omega arith))
          | inr other ↦ step-due W Z s (old.parts s) w makes.heard (new.parts s) makes.steps other (subst (λ r. due_of W r (old.parts r) ≡ StepDue) (sym (first alone)) seen.2)
        ]

    -- an event of a stream that is awake goes on
    pub going-on : IsAwake W old → IsGoing W n old → IsGoing W n new
    going-on awake going alone = subst (HasNotStoppedBefore W n) (sym (first-log alone))
        (stopped-before W n (old.logs 0) (event_at new 0 w) (going alone) (λ stops. elim stops [ inl ended ↦ awake alone ended | inr spent ↦ unspent alone spent ]))

    -- and leaves it awake, unless it ended a round empty
    pub awake-after : (IsMiss w → (new.parts s).own.top.empty ≡ false) → IsAwake W new
    awake-after goes_on alone ended =
        let ends : EndsRound W (old.logs 0) (event_at new 0 w) = ended-last W (old.logs 0) (event_at new 0 w) (subst (HasEndedEmpty W) (first-log alone) ended) in
        let lead : LeadTo W Z (new.logs 0) new = log-leads new after alone in
        let own = lead.stand.streams 0 (subst (λ r. r < W.streams) (first alone) makes.declared) in
        let e : (new.parts 0).own.top.empty ≡ true = sym (ap (λ p. p.own.top.empty) own) ∙ subst (λ K. ((last_state W K).stream 0).top.empty ≡ true) (sym (first-log alone)) ends.1.1 in
        let f : (new.parts 0).own.top.empty ≡ false = subst (λ r. (new.parts r).own.top.empty ≡ false) (first alone) (goes_on ends.0) in
        differ (sym e ∙ f)

  -- if something is left to do, the stream is awake
  pub busy-awake : (m : Moment) → IsReachedMoment W Z n m → (IsQuietIn W m → ⊥) → IsAwake W m
  busy-awake m reached busy alone ended =
      let lead : LeadTo W Z (m.logs 0) m = log-leads m reached alone in
      busy ((quiet-seen W (last_state W (m.logs 0)) m.parts m.objects lead.stand).0 (empty-rounds-end W Z valid stored alone (m.logs 0) lead.run ended))

  -- The end.

  module _ (new : Moment) (reached : IsReachedMoment W Z n new) (at_stop : IsAtStop W n new) (alone : W.streams ≡ 1) where
    lead : LeadTo W Z (new.logs 0) new
    lead = log-leads new reached alone

    -- an empty round ended the journal
    ended-empty : Quiet W (last_state W (new.logs 0)) → LastRoundIsEmpty new 0 → HasEndedEmpty W (new.logs 0)
    ended-empty quiet missed = (
      missed.before,
      event_at new 0 (what.Miss missed.pool),
      missed.log,
      (
        tt,
        (
          subst (λ K. ((last_state W K).stream 0).below ≡ []) missed.log (quiet.frames 0 some),
          subst (λ K. ((last_state W K).stream 0).top.empty ≡ true) missed.log (ap (λ p. p.own.top.empty) (lead.stand.streams 0 some) ∙ missed.empty),
        ),
      ),
    ) where
      some : 0 < W.streams
      some = omega arith

    quiet-stops : Quiet W (last_state W (new.logs 0)) → HasStopped W n (new.logs 0)
    quiet-stops quiet = elim (at_stop alone) [
      | inl missed ↦ inl (ended-empty quiet missed)
      | inr spent ↦ absurd (spent-not-quiet W n 0 (new.logs 0) ((spent-seen W n 0 (new.logs 0) new.parts new.objects (made_at new) lead.stand lead.made).1 spent) quiet)
    ]

    outcome-stops : (o : Outcome) → EndsAs W n (new.logs 0) o → HasStopped W n (new.logs 0)
    outcome-stops outcome.Finished ends = quiet-stops ends.0
    outcome-stops outcome.Stuck ends = quiet-stops ends.0
    outcome-stops (outcome.Budget r) ends = inr (subst (λ q. Spent W n (new.logs 0) q) (least r.0 ends.0.0) ends.0) where
      least : (q : ℕ) → q < W.streams → q ≡ 0
      least q lt = omega arith

    -- the log went to its stop
    pub log-stops : IsGoing W n new → (o : Outcome) → EndsAs W n (new.logs 0) o → GoesToItsStop W n (new.logs 0)
    log-stops going o ends = goes-to-stop W n (new.logs 0) (going alone) (outcome-stops o ends)

    -- without a free order no other stamped run does
    pub log-is-only : HasNoFree W Z → Stamped W (new.logs 0) → GoesToItsStop W n (new.logs 0) → IsOnlyRun W Z n (new.logs 0)
    log-is-only bound stamped goes =
        only-run W Z n (new.logs 0)
        (record { one_stream = alone; no_free = bound; sound = λ K other. last_state-sound W Z K (runs-are-sound W Z) valid stored other })
        lead.run (stamped-counted W Z (start W) (new.logs 0) alone lead.run stamped) goes
