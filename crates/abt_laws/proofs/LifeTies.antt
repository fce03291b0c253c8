-- What ties the events of a unit to its place and position, and how one event keeps it.
use Rattle.std.proofs.Common.{◌≡◌, ℕ, suc, ◌+◌, ◌<◌, ◌≤◌, true, false, List, [], ◌∷◌, ◌++◌, length, take, Some, refl, sym, ◌∙◌, ap, ap₂, subst, arith, ◌⊎◌, inl, inr}
use Rattle.std.proofs.Math.Path.{fun_ext}
use Rattle.std.proofs.lemmas.Bool.{cases_eq}
use Rattle.std.proofs.lemmas.List.{append-nil}
use Rattle.abt_machine.specs.declared.events.Cause.{Cause}
use Rattle.abt_machine.specs.declared.events.Event.{Event}
use Rattle.abt_machine.specs.declared.events.Place.{Place}
use Rattle.abt_machine.specs.declared.events.Place.TheVariants as place
use Rattle.abt_machine.specs.declared.events.What.{What}
use Rattle.abt_machine.specs.declared.numbers.StreamNo.{StreamNo}
use Rattle.abt_machine.specs.declared.operations.Body.{Body}
use Rattle.abt_machine.specs.declared.workload.Parts.{Parts}
use Rattle.abt_machine.specs.Workloads.{body_at, ops_of, is_sched}
use Rattle.abt_machine.specs.State.{State, Stream, Mark, Plain, Asked, Left, Exited}
use Rattle.abt_machine.specs.Outcomes.{IsOver}
use Rattle.abt_machine.specs.Fronts.{is_some_of}
use Rattle.abt_machine.specs.Lives.{life_after, last_life, unit_of, life_events, positions_in, ends_in, cause_in, enters_in, leaves_in, count_up, EndsLife, IsLife}
use Rattle.abt_laws.proofs.LifeJournals.{last_life-append, life_events-append, added_event-other, added_event-now, added_event-another, positions_in-append, ends_in-append, enters_in-append, leaves_in-append}
use Rattle.abt_laws.proofs.Exits.{exited_at, exited-marks, HasDone, NoTaskExits, no-exit-nil, done-kept}
use Rattle.abt_laws.proofs.LifeLists.{passages_in, passage_of_cause, MayEnd, IsLife-push, IsLife-nil, ends-life}

-- Places.

-- alive, and neither in a hand nor in a frame
abbrev pub IsOutside : Place → Type 0
IsOutside (place.Pool p t) = Unit {0}
IsOutside (place.Next s) = Unit {0}
IsOutside (place.Tray s t) = Unit {0}
IsOutside (place.Blocked x t) = Unit {0}
IsOutside _ = ⊥

-- neither unborn nor ended
abbrev pub IsBusy : Place → Type 0
IsBusy place.Unborn = ⊥
IsBusy (place.Ended c) = ⊥
IsBusy _ = Unit {0}

-- the ends of a life by the unit's place
abbrev pub ends_at : Place → List Cause
ends_at (place.Ended c) = c ∷ []
ends_at _ = []

abbrev pub passage_of_mark : Mark → ℕ × ℕ
passage_of_mark Plain = (0, 0)
passage_of_mark Asked = (0, 0)
passage_of_mark Left = (1, 1)
passage_of_mark Exited = (0, 0)

-- the entries and leaves of a scheduler unit in its life so far, by its place and the streams' marks
abbrev pub passage_at : (ℕ → Stream) → Place → ℕ × ℕ
passage_at streams (place.Hand s) = passage_of_mark (streams s.0).mark
passage_at streams (place.Frame s d) = (1, 0)
passage_at streams (place.Ended c) = passage_of_cause c
passage_at streams _ = (0, 0)

pub passage-outside : (streams : ℕ → Stream) (pl : Place) → IsOutside pl → passage_at streams pl ≡ (0, 0)
passage-outside streams (place.Hand s) h = absurd h
passage-outside streams (place.Frame s d) h = absurd h
passage-outside streams (place.Ended c) h = absurd h
passage-outside streams _ h = refl

pub exited-outside : (streams : ℕ → Stream) (pl : Place) → IsOutside pl → exited_at streams pl ≡ false
exited-outside streams (place.Hand s) h = absurd h
exited-outside streams (place.Ended c) h = absurd h
exited-outside streams _ h = refl

passage-marks : (streams others : ℕ → Stream) (pl : Place) → ((r : StreamNo) → pl ≡ place.Hand r → (others r.0).mark ≡ (streams r.0).mark) → passage_at others pl ≡ passage_at streams pl
passage-marks streams others (place.Hand s) h = ap passage_of_mark (h s refl)
passage-marks streams others _ h = refl

pub IsBusy-outside : (pl : Place) → IsOutside pl → IsBusy pl
IsBusy-outside place.Unborn h = h
IsBusy-outside (place.Ended c) h = h
IsBusy-outside _ h = tt

pub ends-busy : (pl : Place) → IsBusy pl → ends_at pl ≡ []
ends-busy place.Unborn h = refl
ends-busy (place.Ended c) h = absurd h
ends-busy _ h = refl

unborn-busy : (pl : Place) → IsBusy pl → pl ≡ place.Unborn → ⊥
unborn-busy pl h e = subst IsBusy e h

-- Ties.

-- what ties the events of unit u, by life, to the state, now being the life that u is in
pub record Tied (W : Parts) (u now : ℕ) (events : ℕ → List What) (S : State) : Type 0 where
  pub life : (S.desk u).life ≡ now
  -- the unit is unborn exactly if its life is 0, which has no event
  pub unborn : S.place u ≡ place.Unborn → now ≡ 0
  pub born : now ≡ 0 → S.place u ≡ place.Unborn
  pub nothing_unborn : events 0 ≡ []
  pub steps : positions_in (events now) ≡ count_up (S.carried u).position
  pub ends : ends_in (events now) ≡ ends_at (S.place u)
  pub passed : is_sched (body_at W u) ≡ true → passages_in (events now) ≡ passage_at S.stream (S.place u)
  pub done : HasDone (exited_at S.stream (S.place u)) (take (S.carried u).position (ops_of (body_at W u)))
  pub is_life : IsLife (body_at W u) (events now)
  -- earlier lives have ended
  pub earlier : (l : ℕ) → 0 < l → l < now → IsLife (body_at W u) (events l) × ((c : Cause) × (ends_in (events l) ≡ c ∷ []))
  pub later : (l : ℕ) → now < l → events l ≡ []

-- unit u goes on in its life, and no event of its own comes
pub record Drifts (u : ℕ) (S T : State) : Type 0 where
  pub life : (T.desk u).life ≡ (S.desk u).life
  pub position : (T.carried u).position ≡ (S.carried u).position
  pub moves : (T.place u ≡ S.place u) ⊎ (IsOutside (S.place u) × IsOutside (T.place u))
  pub marks : (r : StreamNo) → S.place u ≡ place.Hand r → (T.stream r.0).mark ≡ (S.stream r.0).mark

-- unit u, whose body is b, goes on in its life by this event of its own
pub record Acts (b : Body) (u : ℕ) (w : What) (S T : State) : Type 0 where
  pub busy : IsBusy (S.place u)
  pub born : T.place u ≡ place.Unborn → ⊥
  pub life : (T.desk u).life ≡ (S.desk u).life
  pub steps : count_up (T.carried u).position ≡ count_up (S.carried u).position ++ positions_in (w ∷ [])
  pub ends : ends_at (T.place u) ≡ ends_in (w ∷ [])
  pub passes : is_sched b ≡ true → passage_at T.stream (T.place u) ≡ ((passage_at S.stream (S.place u)).0 + enters_in (w ∷ []), (passage_at S.stream (S.place u)).1 + leaves_in (w ∷ []))
  pub done : HasDone (exited_at S.stream (S.place u)) (take (S.carried u).position (ops_of b)) → HasDone (exited_at T.stream (T.place u)) (take (T.carried u).position (ops_of b))
  pub cause : (c : Cause) → cause_in w ≡ Some c → (T.place u ≡ place.Ended c) × MayEnd b (T.carried u).position c

-- unit u begins a life
pub record Begins (u : ℕ) (S T : State) : Type 0 where
  pub over : IsOver (S.place u)
  pub outside : IsOutside (T.place u)
  pub life : (T.desk u).life ≡ suc (S.desk u).life
  pub position : (T.carried u).position ≡ 0

-- what an event means to unit u: nothing or a way from place to place, an event of its own, or a new life
pub data Fate (W : Parts) (u : ℕ) (w : What) (S T : State) : Type 0 where
  Drifting : is_some_of u (unit_of w) ≡ false → ((n : ℕ) → life_after W u n w ≡ n) → Drifts u S T → Fate W u w S T
  Acting : unit_of w ≡ Some u → ((n : ℕ) → life_after W u n w ≡ n) → Acts (body_at W u) u w S T → Fate W u w S T
  Beginning : is_some_of u (unit_of w) ≡ false → ((n : ℕ) → life_after W u n w ≡ suc n) → Begins u S T → Fate W u w S T

-- The tie is kept.

module _ (W : Parts) (u now : ℕ) (events : ℕ → List What) (S T : State) (tied : Tied W u now events S) where
  drifts-passage : Drifts u S T → passage_at T.stream (T.place u) ≡ passage_at S.stream (S.place u)
  drifts-passage d =
      elim d.moves [
        | inl same ↦ ap (passage_at T.stream) same ∙ passage-marks S.stream T.stream (S.place u) d.marks
        | inr away ↦ passage-outside T.stream (T.place u) away.1 ∙ sym (passage-outside S.stream (S.place u) away.0)
      ]

  drifts-exited : Drifts u S T → exited_at T.stream (T.place u) ≡ exited_at S.stream (S.place u)
  drifts-exited d =
      elim d.moves [
        | inl same ↦ ap (exited_at T.stream) same ∙ exited-marks S.stream T.stream (S.place u) d.marks
        | inr away ↦ exited-outside T.stream (T.place u) away.1 ∙ sym (exited-outside S.stream (S.place u) away.0)
      ]

  drifts-ends : Drifts u S T → ends_at (T.place u) ≡ ends_at (S.place u)
  drifts-ends d =
      elim d.moves [
        | inl same ↦ ap ends_at same
        | inr away ↦ ends-busy (T.place u) (IsBusy-outside (T.place u) away.1) ∙ sym (ends-busy (S.place u) (IsBusy-outside (S.place u) away.0))
      ]

  drifts-unborn : Drifts u S T → T.place u ≡ place.Unborn → S.place u ≡ place.Unborn
  drifts-unborn d e =
      elim d.moves [
        | inl same ↦ sym same ∙ e
        | inr away ↦ absurd (unborn-busy (T.place u) (IsBusy-outside (T.place u) away.1) e)
      ]

  drifts-born : Drifts u S T → S.place u ≡ place.Unborn → T.place u ≡ place.Unborn
  drifts-born d e =
      elim d.moves [
        | inl same ↦ same ∙ e
        | inr away ↦ absurd (unborn-busy (S.place u) (IsBusy-outside (S.place u) away.0) e)
      ]

  tied-drifts : Drifts u S T → Tied W u now events T
  tied-drifts d = record {
    life = d.life ∙ tied.life;
    unborn = λ e. tied.unborn (drifts-unborn d e);
    born = λ e. drifts-born d (tied.born e);
    nothing_unborn = tied.nothing_unborn;
    steps = tied.steps ∙ ap count_up (sym d.position);
    ends = tied.ends ∙ sym (drifts-ends d);
    passed = λ h. tied.passed h ∙ sym (drifts-passage d);
    done = done-kept (ops_of (body_at W u)) (exited_at S.stream (S.place u)) (exited_at T.stream (T.place u)) (S.carried u).position (T.carried u).position (drifts-exited d) d.position tied.done;
    is_life = tied.is_life;
    earlier = tied.earlier;
    later = tied.later;
  }

  -- the life that ends here has its end, unless it is no life
  over-ended : (pl : Place) → S.place u ≡ pl → IsOver pl → 0 < now → (c : Cause) × (ends_in (events now) ≡ c ∷ [])
  over-ended place.Unborn at over l = let none : now ≡ 0 = tied.unborn at in absurd (omega arith)
  over-ended (place.Ended c) at over l = (c, tied.ends ∙ ap ends_at at)
  over-ended _ at over l = absurd over

  begins-earlier : IsOver (S.place u) → (l : ℕ) → 0 < l → l < suc now → IsLife (body_at W u) (events l) × ((c : Cause) × (ends_in (events l) ≡ c ∷ []))
  begins-earlier over l some below =
      elim (cases_eq l now) [
        | inl same ↦ subst (λ n. IsLife (body_at W u) (events n) × ((c : Cause) × (ends_in (events n) ≡ c ∷ []))) (sym same) (tied.is_life, over-ended (S.place u) refl over (omega arith))
        | inr other ↦ tied.earlier l some (omega arith)
      ]

  tied-begins : Begins u S T → Tied W u (suc now) events T
  tied-begins b =
      let busy : IsBusy (T.place u) = IsBusy-outside (T.place u) b.outside in
      let fresh : events (suc now) ≡ [] = tied.later (suc now) (omega arith) in
      record {
        life = b.life ∙ ap (λ n. suc n) tied.life;
        unborn = λ e. absurd (unborn-busy (T.place u) busy e);
        born = λ e. absurd (omega arith);
        nothing_unborn = tied.nothing_unborn;
        steps = ap positions_in fresh ∙ ap count_up (sym b.position);
        ends = ap ends_in fresh ∙ sym (ends-busy (T.place u) busy);
        passed = λ h. ap passages_in fresh ∙ sym (passage-outside T.stream (T.place u) b.outside);
        done = done-kept (ops_of (body_at W u)) false (exited_at T.stream (T.place u)) 0 (T.carried u).position (exited-outside T.stream (T.place u) b.outside) b.position no-exit-nil;
        is_life = subst (IsLife (body_at W u)) (sym fresh) (IsLife-nil (body_at W u));
        earlier = begins-earlier b.over;
        later = λ l above. tied.later l (omega arith);
      }

module _ (W : Parts) (u now : ℕ) (events : ℕ → List What) (S T : State) (tied : Tied W u now events S) (w : What) (acts : Acts (body_at W u) u w S T) (fits : (T.carried u).position ≤ length (ops_of (body_at W u))) (tasks : NoTaskExits (body_at W u)) where
  grown-steps : positions_in (events now ++ w ∷ []) ≡ count_up (T.carried u).position
  grown-steps = positions_in-append (events now) (w ∷ []) ∙ (ap (λ ks. ks ++ positions_in (w ∷ [])) tied.steps ∙ sym acts.steps)

  no-end-yet : ends_in (events now) ≡ []
  no-end-yet = tied.ends ∙ ends-busy (S.place u) acts.busy

  grown-ends : ends_in (events now ++ w ∷ []) ≡ ends_at (T.place u)
  grown-ends = ends_in-append (events now) (w ∷ []) ∙ (ap (λ cs. cs ++ ends_in (w ∷ [])) no-end-yet ∙ sym acts.ends)

  grown-passed : is_sched (body_at W u) ≡ true → passages_in (events now ++ w ∷ []) ≡ passage_at T.stream (T.place u)
  grown-passed h =
      let was : passages_in (events now) ≡ passage_at S.stream (S.place u) = tied.passed h in
      ap₂ (λ (m n : ℕ). (m, n)) (enters_in-append (events now) (w ∷ [])) (leaves_in-append (events now) (w ∷ []))
      ∙ (ap (λ (p : ℕ × ℕ). (p.0 + enters_in (w ∷ []), p.1 + leaves_in (w ∷ []))) was ∙ sym (acts.passes h))

  grown-ending : (c : Cause) → cause_in w ≡ Some c → EndsLife (body_at W u) (events now ++ w ∷ []) c
  grown-ending c is =
      let end : (T.place u ≡ place.Ended c) × MayEnd (body_at W u) (T.carried u).position c = acts.cause c is in
      ends-life (body_at W u) (events now ++ w ∷ []) (T.carried u).position c grown-steps fits
      (subst (λ exited. HasDone exited (take (T.carried u).position (ops_of (body_at W u)))) (ap (exited_at T.stream) end.0) (acts.done tied.done)) tasks
      (λ h. grown-passed h ∙ ap (passage_at T.stream) end.0) end.1

  busy-alive : now ≡ 0 → ⊥
  busy-alive none = unborn-busy (S.place u) acts.busy (tied.born none)

  tied-acts : (grown : ℕ → List What) → grown now ≡ events now ++ w ∷ [] → ((l : ℕ) → (now ≡ l → ⊥) → grown l ≡ events l) → Tied W u now grown T
  tied-acts grown here elsewhere = record {
    life = acts.life ∙ tied.life;
    unborn = λ e. absurd (acts.born e);
    born = λ e. absurd (busy-alive e);
    nothing_unborn = elsewhere 0 busy-alive ∙ tied.nothing_unborn;
    steps = ap positions_in here ∙ grown-steps;
    ends = ap ends_in here ∙ grown-ends;
    passed = λ h. ap passages_in here ∙ grown-passed h;
    done = acts.done tied.done;
    is_life = subst (IsLife (body_at W u)) (sym here) (IsLife-push (body_at W u) (events now) w (T.carried u).position (exited_at T.stream (T.place u)) no-end-yet grown-steps fits (acts.done tied.done) grown-ending);
    earlier = λ l some below.
        let same : grown l ≡ events l = elsewhere l (λ e. absurd (omega arith)) in
        subst (λ es. IsLife (body_at W u) es × ((c : Cause) × (ends_in es ≡ c ∷ []))) (sym same) (tied.earlier l some below);
    later = λ l above. elsewhere l (λ e. absurd (omega arith)) ∙ tied.later l above;
  }

tied-along : (W : Parts) (u m n : ℕ) (es fs : ℕ → List What) (S : State) → m ≡ n → ((l : ℕ) → es l ≡ fs l) → Tied W u m es S → Tied W u n fs S
tied-along W u m n es fs S same each tied = subst (λ k. Tied W u k fs S) same (subst (λ gs. Tied W u m gs S) (fun_ext each) tied)

-- the tie along a journal
abbrev pub TiedTo : Parts → List Event → State → ℕ → Type 0
TiedTo W J S u = Tied W u (last_life W J u) (life_events W J u) S

module _ (W : Parts) (J : List Event) (e : Event) (u : ℕ) (S T : State) (tied : TiedTo W J S u) (fits : (T.carried u).position ≤ length (ops_of (body_at W u))) (tasks : NoTaskExits (body_at W u)) where
  same-life : (n : ℕ) → life_after W u (last_life W J u) e.what ≡ n → n ≡ last_life W (J ++ e ∷ []) u
  same-life n h = sym h ∙ sym (last_life-append W J e u)

  same-events : is_some_of u (unit_of e.what) ≡ false → (l : ℕ) → life_events W J u l ≡ life_events W (J ++ e ∷ []) u l
  same-events other l = sym (append-nil (life_events W J u l)) ∙ (ap (λ es. life_events W J u l ++ es) (sym (added_event-other u l (last_life W J u) e.what other)) ∙ sym (life_events-append W J e u l))

  -- one event keeps the tie
  pub tied-after : Fate W u e.what S T → TiedTo W (J ++ e ∷ []) T u
  tied-after (Drifting other same drifts) =
      tied-along W u (last_life W J u) (last_life W (J ++ e ∷ []) u) (life_events W J u) (life_events W (J ++ e ∷ []) u) T
      (same-life (last_life W J u) (same (last_life W J u))) (same-events other) (tied-drifts W u (last_life W J u) (life_events W J u) S T tied drifts)
  tied-after (Acting own same acts) =
      tied-along W u (last_life W J u) (last_life W (J ++ e ∷ []) u) (life_events W (J ++ e ∷ []) u) (life_events W (J ++ e ∷ []) u) T
      (same-life (last_life W J u) (same (last_life W J u))) (λ l. refl)
      (tied-acts W u (last_life W J u) (life_events W J u) S T tied e.what acts fits tasks (life_events W (J ++ e ∷ []) u)
      (life_events-append W J e u (last_life W J u) ∙ ap (λ es. life_events W J u (last_life W J u) ++ es) (added_event-now u (last_life W J u) e.what own))
      (λ l ne. life_events-append W J e u l ∙ (ap (λ es. life_events W J u l ++ es) (added_event-another u l (last_life W J u) e.what own ne) ∙ append-nil (life_events W J u l))))
  tied-after (Beginning other more begins) =
      tied-along W u (suc (last_life W J u)) (last_life W (J ++ e ∷ []) u) (life_events W J u) (life_events W (J ++ e ∷ []) u) T
      (same-life (suc (last_life W J u)) (more (last_life W J u))) (same-events other) (tied-begins W u (last_life W J u) (life_events W J u) S T tied begins)
