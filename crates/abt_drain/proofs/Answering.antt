-- The visits of a run are answered if those of each stream are.
use Rattle.std.proofs.Common.{◌≡◌, ◌≢◌, ◌==◌, ◌<◌, inl, inr, if◌then◌else◌, ℕ, Bool, true, false, List, [], ◌∷◌, Option, Some, None, Result, Ok, Err, OnOk, set, slice_get, refl, sym, ap, ◌∙◌, subst}
use Rattle.std.proofs.lemmas.Bool.{cases_eq, eq-eqb, ne_eqb}
use Rattle.std.proofs.lemmas.Option.{slice_get_within}
use Rattle.abt_machine.specs.declared.events.Event.{Event}
use Rattle.abt_machine.specs.declared.events.What.{What}
use Rattle.abt_machine.specs.declared.events.What.TheVariants as what
use Rattle.abt_machine.specs.declared.workload.Parts.{Parts}
use Rattle.abt_machine.specs.Events.{after, look_row}
use Rattle.abt_machine.specs.Frames.{entered, left, marked, round_missed, round_taken, sched_of}
use Rattle.abt_machine.specs.Maps.{put_all}
use Rattle.abt_machine.specs.Start.{start}
use Rattle.abt_machine.specs.State.{Asked, Plain, State, Stream}
use Rattle.abt_machine.specs.Workloads.{body_at}
use Rattle.abt_machine.specs.declared.numbers.StreamNo.{StreamNo}
use Rattle.abt_machine.specs.Stored.{Stored}
use Rattle.abt_calls.specs.Starts.{start_part}
use Rattle.abt_commons.proofs.Numbers.{get-set-here, get-set-other}
use Rattle.abt_interleave.specs.Merges.{of_stream}
use Rattle.abt_laws.proofs.Options.{some-injective}
use Rattle.abt_laws.proofs.Maps.{put_at-other, put_at-same}
use Rattle.abt_laws.proofs.StepStreams.{step-keeps-frames}
use Rattle.abt_merge.specs.Logs.{log_of}
use Rattle.abt_simulation.specs.Journals.{MergesTo}
use Rattle.abt_stream.specs.Answers.{FitsAnswers, Frames, RoundsAnswered, VisitsAnswered, frames_after, frames_of, start_frames}
use Rattle.abt_stream.specs.Streams.{StreamValue}
use Rattle.abt_stream.proofs.Rounds.{left-frames}
use Rattle.abt_drain.specs.Answers.{AllAnswered, AnswersFrom, HasAnswers}
use Rattle.abt_drain.specs.Crews.{AreStarted, log_from}
use Rattle.abt_drain.specs.Ends.{LeavesLogs, LeavesRotation, logs_in}
use Rattle.abt_drain.specs.declared.run.Run.{Run}
use Rattle.abt_drain.proofs.Closing.{log-at}

-- Frames after an event.

look-own : (W : Parts) (S : State) (s u : ℕ) (b : Bool) (m : Option ℕ) → frames_of (put_all S.stream (look_row W S s u b m).streams s) ≡ frames_of (S.stream s)
look-own W S s u true m = ap frames_of (put_at-same S.stream s (marked Asked (S.stream s)))
look-own W S s u false (Some p) = refl
look-own W S s u false None = ap frames_of (put_at-same S.stream s (marked Plain (S.stream s)))

look-other : (W : Parts) (S : State) (s u : ℕ) (b : Bool) (m : Option ℕ) (r : ℕ) → r ≢ s → frames_of (put_all S.stream (look_row W S s u b m).streams r) ≡ frames_of (S.stream r)
look-other W S s u true m r ne = ap frames_of (put_at-other S.stream s (marked Asked (S.stream s)) r ne)
look-other W S s u false (Some p) r ne = refl
look-other W S s u false None r ne = ap frames_of (put_at-other S.stream s (marked Plain (S.stream s)) r ne)

-- the stream's own
frames-own : (W : Parts) (S : State) (s : ℕ) (w : What) → frames_of ((after W S s w).stream s) ≡ frames_after W (frames_of (S.stream s)) w
frames-own W S s (what.Miss p) = ap frames_of (put_at-same S.stream s (round_missed W p.0 (S.stream s)))
frames-own W S s (what.Take p u) = ap frames_of (put_at-same S.stream s (round_taken (S.stream s)))
frames-own W S s (what.Look u) = look-own W S s u.0 (S.desk u.0).cancel (S.desk u.0).migrate
frames-own W S s (what.Step u k c) = let kept = step-keeps-frames W S s u.0 k c s in λ i. (kept.0 i, kept.1 i)
frames-own W S s (what.Call u k n) = refl
frames-own W S s (what.Put u p) = refl
frames-own W S s (what.End u c) = refl
frames-own W S s (what.Enter u) = ap frames_of (put_at-same S.stream s (entered (sched_of (body_at W u.0)) (S.stream s)))
frames-own W S s (what.Leave u) = ap frames_of (put_at-same S.stream s (left (S.stream s))) ∙ left-frames (S.stream s) (S.stream s).below

-- those of others
frames-other : (W : Parts) (S : State) (s : ℕ) (w : What) (r : ℕ) → r ≢ s → frames_of ((after W S s w).stream r) ≡ frames_of (S.stream r)
frames-other W S s (what.Miss p) r ne = ap frames_of (put_at-other S.stream s (round_missed W p.0 (S.stream s)) r ne)
frames-other W S s (what.Take p u) r ne = ap frames_of (put_at-other S.stream s (round_taken (S.stream s)) r ne)
frames-other W S s (what.Look u) r ne = look-other W S s u.0 (S.desk u.0).cancel (S.desk u.0).migrate r ne
frames-other W S s (what.Step u k c) r ne = let kept = step-keeps-frames W S s u.0 k c r in λ i. (kept.0 i, kept.1 i)
frames-other W S s (what.Call u k n) r ne = refl
frames-other W S s (what.Put u p) r ne = refl
frames-other W S s (what.End u c) r ne = refl
frames-other W S s (what.Enter u) r ne = ap frames_of (put_at-other S.stream s (entered (sched_of (body_at W u.0)) (S.stream s)) r ne)
frames-other W S s (what.Leave u) r ne = ap frames_of (put_at-other S.stream s (left (S.stream s)) r ne)

-- Journals.

module _ (W : Parts) (Answered : ℕ → ℕ → List ℕ → Type 0) where
  -- the visits of a stream's events from state S are answered
  abbrev OwnFrom : State → ℕ → List Event → Type 0
  OwnFrom S s log = (last : Frames) × RoundsAnswered W Answered (frames_of (S.stream s)) log last

  -- an event is of one stream
  of-own : (e : Event) (es : List Event) → of_stream (λ (d : Event). d.stream.0) e.stream.0 (e ∷ es) ≡ e ∷ of_stream (λ (d : Event). d.stream.0) e.stream.0 es
  of-own e es = ap (λ b. if b then e ∷ of_stream (λ (d : Event). d.stream.0) e.stream.0 es else of_stream (λ (d : Event). d.stream.0) e.stream.0 es) (eq-eqb e.stream.0 e.stream.0 refl)

  of-other : (e : Event) (es : List Event) (s : ℕ) → e.stream.0 ≢ s → of_stream (λ (d : Event). d.stream.0) s (e ∷ es) ≡ of_stream (λ (d : Event). d.stream.0) s es
  of-other e es s ne = ap (λ b. if b then e ∷ of_stream (λ (d : Event). d.stream.0) s es else of_stream (λ (d : Event). d.stream.0) s es) (ne_eqb e.stream.0 s ne)

  from-own : (J : List Event) (S : State) → ((s : ℕ) → OwnFrom S s (of_stream (λ (d : Event). d.stream.0) s J)) → AnswersFrom W Answered S J
  from-own [] S own = tt
  from-own (e ∷ es) S own =
      let here = own e.stream.0 in
      let both : RoundsAnswered W Answered (frames_of (S.stream e.stream.0)) (e ∷ of_stream (λ (d : Event). d.stream.0) e.stream.0 es) here.0 =
      subst (λ (log : List Event). RoundsAnswered W Answered (frames_of (S.stream e.stream.0)) log here.0) (of-own e es) here.1 in (
        both.0,
        from-own es (after W S e.stream.0 e.what) (λ s. elim (cases_eq e.stream.0 s) [
          | inl same ↦ subst (λ r. OwnFrom (after W S e.stream.0 e.what) r (of_stream (λ (d : Event). d.stream.0) r es)) same
              (here.0, subst (λ (fs : Frames). RoundsAnswered W Answered fs (of_stream (λ (d : Event). d.stream.0) e.stream.0 es) here.0) (sym (frames-own W S e.stream.0 e.what)) both.1)
          | inr ne ↦ (
            (own s).0,
            subst (λ (fs : Frames). RoundsAnswered W Answered fs (of_stream (λ (d : Event). d.stream.0) s es) (own s).0) (sym (frames-other W S e.stream.0 e.what s (λ q. ne (sym q))))
                (subst (λ (log : List Event). RoundsAnswered W Answered (frames_of (S.stream s)) log (own s).0) (of-other e es s ne) (own s).1),
          )
        ]),
      )

  by-log : (s : ℕ) (o : Option StreamValue) → ((stream : StreamValue) → o ≡ Some stream → FitsAnswers W Answered stream × (stream.number.0 ≡ s)) → OwnFrom (start W) s (log_from o)
  by-log s None all = (start_frames W s, refl)
  by-log s (Some stream) all =
      let h = all stream refl in
      (frames_of stream.held.own, subst (λ r. RoundsAnswered W Answered (start_frames W r) stream.log (frames_of stream.held.own)) h.1 h.0.visits)

  -- a journal that has of each stream just its log
  pub journal-answers : (streams : List StreamValue) (J : List Event) → ((s : ℕ) (stream : StreamValue) → slice_get streams s ≡ Some stream → stream.number.0 ≡ s) → AllAnswered W Answered streams
      → ((s : ℕ) → of_stream (λ (d : Event). d.stream.0) s J ≡ log_from (slice_get streams s)) → HasAnswers W Answered J
  journal-answers streams J numbered all each =
      from-own J (start W) (λ s. subst (λ (log : List Event). OwnFrom (start W) s log) (sym (each s))
      (by-log s (slice_get streams s) (λ stream e. (all s stream e, numbered s stream e))))

  -- and so is a merged one
  pub merged-answers : (streams : List StreamValue) (J : List Event) → ((s : ℕ) (stream : StreamValue) → slice_get streams s ≡ Some stream → stream.number.0 ≡ s) → AllAnswered W Answered streams
      → MergesTo (log_of (logs_in streams)) J → HasAnswers W Answered J
  merged-answers streams J numbered all merges = journal-answers streams J numbered all (λ s. merges.each s ∙ log-at streams s)

  -- at the start no visit was made
  pub started-answers : (n k : ℕ) (streams : List StreamValue) → AreStarted W n k streams → AllAnswered W Answered streams
  started-answers n k streams all s stream e =
      let is = all.own s stream e in
      record {
        order = λ some. absurd (some is.order);
        visits = subst (λ (log : List Event). RoundsAnswered W Answered (start_frames W stream.number.0) log (frames_of stream.held.own)) (sym is.log)
            (subst (λ (fs : Frames). start_frames W stream.number.0 ≡ fs) (sym (ap (λ h. frames_of h.own) is.held)) (ap (λ (q : StreamNo). start_frames W q.0) is.number));
      }

  -- one stream goes on
  pub set-answers : (streams : List StreamValue) (s : ℕ) (old new : StreamValue) → slice_get streams s ≡ Some old → (FitsAnswers W Answered old → FitsAnswers W Answered new)
      → AllAnswered W Answered streams → AllAnswered W Answered (set streams s new)
  set-answers streams s old new at goes all r stream e = elim (cases_eq s r) [
    | inl same ↦ subst (FitsAnswers W Answered) (some-injective (sym (get-set-here streams s new (slice_get_within streams s old at)) ∙ subst (λ q. slice_get (set streams s new) q ≡ Some stream) (sym same) e)) (goes (all s old at))
    | inr ne ↦ all r stream (sym (get-set-other streams s r new (λ q. ne (sym q))) ∙ e)
  ]

  -- if there was memory
  pub set-result : {A E : Type 0} (result : Result A E) (streams : List StreamValue) (s : ℕ) (old new : StreamValue) → slice_get streams s ≡ Some old → OnOk result (FitsAnswers W Answered old → FitsAnswers W Answered new)
      → OnOk result (AllAnswered W Answered streams → AllAnswered W Answered (set streams s new))
  set-result (Ok a) streams s old new at goes = set-answers streams s old new at goes
  set-result (Err e) streams s old new at goes = tt

  -- what a crew leaves whose visits are answered
  pub rotation-answers : (Z : Stored) (n : ℕ) (keeps : Bool) (streams : List StreamValue) (run : Run) → ((s : ℕ) (stream : StreamValue) → slice_get streams s ≡ Some stream → stream.number.0 ≡ s) → AllAnswered W Answered streams
      → LeavesLogs W Z n keeps streams run → LeavesRotation W Z Answered n keeps run
  rotation-answers Z n keeps streams run numbered all left = record {
    events = left.events;
    holds = (left.holds.0, merged-answers streams left.events numbered all left.holds.2, left.holds.1);
    kept = left.kept;
    pictured = left.pictured;
    counted = left.counted;
  }
