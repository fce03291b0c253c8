-- Events without a step, the last of which, of one stream, ends a round empty.
use Rattle.std.proofs.Common.{◌≡◌, ◌≢◌, ℕ, inl, inr, Bool, true, false, List, [], ◌∷◌, ◌++◌, Option, Some, None, refl, sym, ◌∙◌, ap, subst}
use Rattle.std.proofs.lemmas.Bool.{cases_eq}
use Rattle.abt_machine.specs.declared.events.Event.{Event}
use Rattle.abt_machine.specs.declared.events.What.{What}
use Rattle.abt_machine.specs.declared.events.What.TheVariants as what
use Rattle.abt_machine.specs.declared.workload.Parts.{Parts}
use Rattle.abt_machine.specs.Changes.{changed}
use Rattle.abt_machine.specs.Events.{after, look_row}
use Rattle.abt_machine.specs.Frames.{entered, left, marked, round_missed, round_taken, sched_of}
use Rattle.abt_machine.specs.Outcomes.{is_step}
use Rattle.abt_machine.specs.Runs.{state_after}
use Rattle.abt_machine.specs.State.{State, Asked, Plain}
use Rattle.abt_machine.specs.Workloads.{body_at}
use Rattle.abt_interleave.proofs.OneList.{of-other, of-own}
use Rattle.abt_laws.proofs.Maps.{put_at-other}
use Rattle.abt_laws.specs.Laws.{IsMiss}
use Rattle.abt_outcomes.specs.Rotations.{HasEmptied, HasNoStep}
use Rattle.abt_drain.specs.InRotation.{events_by}

look-others : (W : Parts) (S : State) (s r u : ℕ) (cancel : Bool) (migrate : Option ℕ) → r ≢ s → (changed S (look_row W S s u cancel migrate)).stream r ≡ S.stream r
look-others W S s r u true migrate ne = put_at-other S.stream s (marked Asked (S.stream s)) r ne
look-others W S s r u false (Some p) ne = refl
look-others W S s r u false None ne = put_at-other S.stream s (marked Plain (S.stream s)) r ne

-- an event that is no step leaves the rounds of other streams alone
others-stay : (W : Parts) (S : State) (s r : ℕ) (w : What) → is_step w ≡ false → r ≢ s → (after W S s w).stream r ≡ S.stream r
others-stay W S s r (what.Miss p) still ne = put_at-other S.stream s (round_missed W p.0 (S.stream s)) r ne
others-stay W S s r (what.Take p u) still ne = put_at-other S.stream s (round_taken (S.stream s)) r ne
others-stay W S s r (what.Look u) still ne = look-others W S s r u.0 (S.desk u.0).cancel (S.desk u.0).migrate ne
others-stay W S s r (what.Step u k c) still ne = cc
others-stay W S s r (what.Call u k n) still ne = cc
others-stay W S s r (what.Put u p) still ne = refl
others-stay W S s r (what.End u c) still ne = refl
others-stay W S s r (what.Enter u) still ne = put_at-other S.stream s (entered (sched_of (body_at W u.0)) (S.stream s)) r ne
others-stay W S s r (what.Leave u) still ne = put_at-other S.stream s (left (S.stream s)) r ne

-- the events of stream s, with one more before them
own-first : (s : ℕ) (e : Event) (es : List Event) → e.stream.0 ≡ s → events_by s (e ∷ es) ≡ e ∷ events_by s es
own-first s e es own = of-own (λ (d : Event). d.stamp) (λ (d : Event). d.stream.0) s e es own

other-first : (s : ℕ) (e : Event) (es : List Event) → e.stream.0 ≢ s → events_by s (e ∷ es) ≡ events_by s es
other-first s e es ne = of-other (λ (d : Event). d.stamp) (λ (d : Event). d.stream.0) s e es ne

some-event : (e : Event) (es : List Event) → e ∷ es ≡ [] → ⊥
some-event e es q = cc

-- events of other streams
none-own : (W : Parts) (s : ℕ) (S : State) (es : List Event) → HasNoStep es → events_by s es ≡ [] → (state_after W S es).stream s ≡ S.stream s
none-own W s S [] still none = refl
none-own W s S (e ∷ es) still none = elim (cases_eq e.stream.0 s) [
  | inl own ↦ absurd (some-event e (events_by s es) (sym (own-first s e es own) ∙ none))
  | inr ne ↦ none-own W s (after W S e.stream.0 e.what) es still.1 (sym (other-first s e es ne) ∙ none)
      ∙ others-stay W S e.stream.0 s e.what still.0 (λ same. ne (sym same))
]

no-last : (before : List Event) (last : Event) → [] ≡ before ++ last ∷ [] → ⊥
no-last [] last q = cc
no-last (f ∷ fs) last q = cc

first-is : {e f : Event} {es fs : List Event} → e ∷ es ≡ f ∷ fs → e ≡ f
first-is q = cc

rest-is : {e f : Event} {es fs : List Event} → e ∷ es ≡ f ∷ fs → es ≡ fs
rest-is q = cc

module _ (W : Parts) (s : ℕ) (last : Event) (miss : IsMiss last.what) where
  abbrev LastEmpties : List Event → State → List Event → Type 0
  LastEmpties before S es = HasNoStep es → events_by s es ≡ before ++ last ∷ [] → ((state_after W S es).stream s).top.empty ≡ true → HasEmptied W s S es

  -- the first of these events is of the stream
  first-own : (before : List Event) (S : State) (e : Event) (es : List Event) → e.stream.0 ≡ s → ((before : List Event) → LastEmpties before (after W S e.stream.0 e.what) es) → LastEmpties before S (e ∷ es)
  first-own [] S e es own more still are empty =
      let q : e ∷ events_by s es ≡ last ∷ [] = sym (own-first s e es own) ∙ are in
      inl (
        own,
        subst (λ (f : Event). IsMiss f.what) (sym (first-is q)) miss,
        sym (ap (λ r. r.top.empty) (none-own W s (after W S e.stream.0 e.what) es still.1 (rest-is q))) ∙ empty,
      )
  first-own (f ∷ fs) S e es own more still are empty = inr (more fs still.1 (rest-is (sym (own-first s e es own) ∙ are)) empty)

  -- if the last event of a stream is a miss, and its round has ended empty, it did so within these events
  pub emptied-last : (before : List Event) (S : State) (es : List Event) → LastEmpties before S es
  emptied-last before S [] still are empty = absurd (no-last before last are)
  emptied-last before S (e ∷ es) still are empty = elim (cases_eq e.stream.0 s) [
    | inl own ↦ first-own before S e es own (λ b. emptied-last b (after W S e.stream.0 e.what) es) still are empty
    | inr ne ↦ inr (emptied-last before (after W S e.stream.0 e.what) es still.1 (sym (other-first s e es ne) ∙ are) empty)
  ]
