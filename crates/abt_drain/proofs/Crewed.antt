-- A turn of one stream of a crew.
use Rattle.std.proofs.Common.{◌≡◌, ◌≢◌, ℕ, ◌<◌, ◌≤◌, ◌^◌, ◌⊎◌, inl, inr, Bool, true, false, List, [], ◌∷◌, ◌++◌, length, set, slice_get, get_or, Option, Some, Result, Ok, Err, IfOk, OnOk, sym, ◌∙◌, ap, subst, arith}
use mathlib.Core.Path.{fun_ext}
use Rattle.std.proofs.lemmas.Bool.{cases_eq}
use Rattle.std.proofs.lemmas.List.{length-set}
use Rattle.std.proofs.lemmas.Option.{slice_get-get_or, slice_get_within}
use Rattle.abt_machine.specs.declared.events.What.{What}
use Rattle.abt_machine.specs.declared.events.What.TheVariants as what
use Rattle.abt_machine.specs.Stored.{Stored}
use Rattle.abt_machine.specs.declared.workload.Parts.{Parts}
use Rattle.abt_machine.specs.declared.events.Outcome.{Outcome}
use Rattle.abt_machine.specs.declared.events.Site.{Site}
use Rattle.abt_machine.specs.declared.numbers.StreamNo.{StreamNo}
use Rattle.abt_machine.specs.Next.{StepDue}
use Rattle.abt_machine.specs.Numbers.{stream_no}
use Rattle.abt_machine.specs.Turns.{Steps, due_of}
use Rattle.abt_machine.specs.Values.{Held}
use Rattle.abt_machine.specs.Outcomes.{steps_in}
use Rattle.abt_laws.specs.Laws.{IsMiss}
use Rattle.abt_laws.proofs.Options.{some-injective}
use Rattle.abt_commons.specs.Held.{ObjectsValue, clock_at, object_at}
use Rattle.abt_commons.proofs.Numbers.{get-set-here, get-set-other}
use Rattle.abt_stream.specs.Streams.{FitsShapes, FitsStream, StreamValue}
use Rattle.abt_stream.specs.declared.turns.Turn.{Turn}
use Rattle.abt_stream.specs.declared.turns.Turn.TheVariants as turn
use Rattle.abt_drain.specs.Crews.{Advances, AllKeep, CrewValue, IsCrew, IsEnd, StaysAwake, TurnBy, TurnsBy, stream_clock, log_from, moment_in}
use Rattle.abt_drain.specs.Looks.{AreStreams, IsStreamOf, held_from}
use Rattle.abt_drain.specs.Moments.{IsReachedMoment, Makes, Moment, Stays, SetsClock, stamp_by}
use Rattle.abt_drain.specs.Rotations.{HasTurned, HaveTurned, IsAwake, IsGoing}
use Rattle.abt_drain.proofs.Alone.{awake-after, going-on}
use Rattle.abt_drain.proofs.Growing.{reached-grows}
use Rattle.abt_drain.proofs.Journals.{site-unworn, stream-unworn}
use Rattle.abt_drain.proofs.Taking.{step-no-miss}

module _ (W : Parts) (Z : Stored) (n : ℕ) (crew : CrewValue) (is : IsCrew W Z n crew) (s : ℕ) (declared : s < W.streams)
    (old new : StreamValue) (at : slice_get crew.streams s ≡ Some old) (after : ObjectsValue)
    (fits : FitsStream W new) (shapes : FitsShapes W Z new) (number : new.number ≡ old.number) (keeps : new.keeps ≡ old.keeps) (budget : new.budget ≡ old.budget) (few : length new.log ≤ 2 ^ 55) (within : steps_in new.log ≤ new.budget)
    (objects : after.workload ≡ W) where
  abbrev next : CrewValue
  next = record crew { objects = after; streams = set crew.streams s new }

  abbrev here : Moment
  here = moment_in W crew

  abbrev there : Moment
  there = moment_in W next

  inside : s < length crew.streams
  inside = slice_get_within crew.streams s old at

  at-same : slice_get next.streams s ≡ Some new
  at-same = get-set-here crew.streams s new inside

  at-other : (r : ℕ) → s ≢ r → slice_get next.streams r ≡ slice_get crew.streams r
  at-other r ne = get-set-other crew.streams s r new (λ e. ne (sym e))

  numbered : old.number ≡ stream_no s
  numbered = ap stream_no (is.streams.own s old at).number

  others-stay : (r : ℕ) → s ≢ r → Stays here there r
  others-stay r ne = record {
    part = ap (held_from _) (at-other r ne);
    log = ap log_from (at-other r ne);
    clock = ap stream_clock (at-other r ne);
  }

  -- what the stream had and has
  part-before : here.parts s ≡ old.held
  part-before = ap (held_from _) at

  part-after : there.parts s ≡ new.held
  part-after = ap (held_from _) at-same

  made : (w : What) → Advances W Z old crew.objects w new after → Makes W Z s w here there
  made w a = record {
    heard = a.heard;
    declared = declared;
    steps = subst (λ (q : ℕ × Held × Held). Steps W Z q.0 q.1 w a.heard q.2) (λ i. (ap (λ (k : StreamNo). k.0) numbered i, sym part-before i, sym part-after i)) a.steps;
    answered = a.answered;
    clock = ap stream_clock at-same ∙ (a.clock ∙ ap (λ t. stamp_by t (clock_at crew.objects) a.heard) (sym (ap stream_clock at)));
    times = subst (λ t. SetsClock (clock_at crew.objects) a.heard t (clock_at after)) (sym (ap stream_clock at-same)) a.times;
    log = ap log_from at-same ∙ (a.log ∙ (λ i. sym (ap log_from at) i ++ record { stamp = sym (ap stream_clock at-same) i; stream = numbered i; what = w } ∷ []));
    others = others-stay;
  }

  -- the streams afterwards
  streams-after : AreStreams W n next.streams
  streams-after = record {
    many = length-set crew.streams s new ∙ is.streams.many;
    own = λ r stream e. elim (cases_eq s r) [
      | inl same ↦ subst (λ q. IsStreamOf W n q stream) same (subst (IsStreamOf W n s) (some-injective (sym at-same ∙ subst (λ q. slice_get next.streams q ≡ Some stream) (sym same) e)) own-after)
      | inr ne ↦ is.streams.own r stream (sym (at-other r ne) ∙ e)
    ];
  } where
    own-after : IsStreamOf W n s new
    own-after = record {
      number = ap (λ (k : StreamNo). k.0) number ∙ (is.streams.own s old at).number;
      fits = fits;
      budget = budget ∙ (is.streams.own s old at).budget;
    }

  shapes-after : (r : ℕ) (stream : StreamValue) → slice_get next.streams r ≡ Some stream → FitsShapes W Z stream
  shapes-after r stream e = elim (cases_eq s r) [
    | inl same ↦ subst (FitsShapes W Z) (some-injective (sym at-same ∙ subst (λ q. slice_get next.streams q ≡ Some stream) (sym same) e)) shapes
    | inr ne ↦ is.shapes r stream (sym (at-other r ne) ∙ e)
  ]

  kept-after : AllKeep crew.keeps next.streams
  kept-after r stream e = elim (cases_eq s r) [
    | inl same ↦ ap (λ (v : StreamValue). v.keeps) (some-injective (sym (subst (λ q. slice_get next.streams q ≡ Some stream) (sym same) e) ∙ at-same)) ∙ (keeps ∙ is.kept s old at)
    | inr ne ↦ is.kept r stream (sym (at-other r ne) ∙ e)
  ]

  crew-after : IsReachedMoment W Z n there → IsGoing W n there → IsCrew W Z n next
  crew-after reached going = record { valid = is.valid; stored = is.stored; workload = is.workload; steps = is.steps; objects = objects; kept = kept-after; streams = streams-after; shapes = shapes-after; reached = reached; going = going }

  reached-after : (w : What) → Advances W Z old crew.objects w new after → IsReachedMoment W Z n there
  reached-after w a = reached-grows W Z n s w here there is.reached (made w a)
      (subst (λ log. length log ≤ 2 ^ 55) (sym (ap log_from at-same)) few)
      (subst (λ log. steps_in log ≤ n) (sym (ap log_from at-same)) (subst (λ k. steps_in new.log ≤ k) (budget ∙ (is.streams.own s old at).budget) within))

  going-after : (w : What) → Advances W Z old crew.objects w new after → IsAwake W here → IsGoing W n there
  going-after w a awake = going-on W Z is.valid is.stored n s w here there is.reached (reached-after w a) (made w a) awake is.going

  step-awake : (w : What) → Advances W Z old crew.objects w new after → (IsMiss w → new.held.own.top.empty ≡ false) → IsAwake W there
  step-awake w a goes_on = awake-after W Z is.valid is.stored n s w here there is.reached (reached-after w a) (made w a) (λ miss. ap (λ h. h.own.top.empty) part-after ∙ goes_on miss)

  -- if nothing changed, the moment is the same
  same-moment : new.held ≡ old.held → new.log ≡ old.log → new.clock ≡ old.clock → after ≡ crew.objects → there ≡ here
  same-moment held log clock same = λ i. record {
    parts = fun_ext {f = there.parts} {g = here.parts} (λ r. own (λ q. there.parts q ≡ here.parts q) (part-after ∙ (held ∙ sym part-before)) (λ q ne. (others-stay q ne).part) r) i;
    logs = fun_ext {f = there.logs} {g = here.logs} (λ r. own (λ q. there.logs q ≡ here.logs q) (ap log_from at-same ∙ (log ∙ sym (ap log_from at))) (λ q ne. (others-stay q ne).log) r) i;
    clocks = fun_ext {f = there.clocks} {g = here.clocks} (λ r. own (λ q. there.clocks q ≡ here.clocks q) (ap stream_clock at-same ∙ (clock ∙ sym (ap stream_clock at))) (λ q ne. (others-stay q ne).clock) r) i;
    objects = object_at (same i);
    times = clock_at (same i);
  } where
    own : (P : ℕ → Type 0) → P s → ((r : ℕ) → s ≢ r → P r) → (r : ℕ) → P r
    own P first others r = elim (cases_eq s r) [ inl e ↦ subst P e first | inr ne ↦ others r ne ]

  -- no clock is at its end
  unworn : (old.clock ≡ 2 ^ 62) ⊎ ((x : Site) × (clock_at crew.objects x ≡ 2 ^ 62)) → ⊥
  unworn worn = elim worn [
    | inl e ↦ (let lt : here.clocks s < 2 ^ 62 = stream-unworn W Z is.valid is.stored n here is.reached s in let q : here.clocks s ≡ old.clock = ap stream_clock at in omega arith)
    | inr e ↦ (let lt : here.times e.0 < 2 ^ 62 = site-unworn W Z is.valid is.stored n here is.reached e.0 in let q : here.times e.0 ≡ 2 ^ 62 = e.1 in omega arith)
  ]

  -- what a turn is to the crew
  pub crew-turned : (t : Turn) → TurnsBy W Z old crew.objects t new after → IsAwake W here → TurnBy W Z n s here t there × (IsCrew W Z n next × StaysAwake W t there)
  crew-turned turn.Stepped h awake = (
    record { what = h.0; makes = made h.0 h.1; step = h.2 },
    (crew-after (reached-after h.0 h.1) (going-after h.0 h.1 awake), step-awake h.0 h.1 (λ miss. absurd (step-no-miss h.0 h.2 miss))),
  )
  crew-turned turn.EmptyRound h awake = (
    record { pool = h.0; makes = made (what.Miss h.0) h.1; empty = ap (λ p. p.own.top.empty) part-after ∙ h.2 },
    (crew-after (reached-after (what.Miss h.0) h.1) (going-after (what.Miss h.0) h.1 awake), tt),
  )
  crew-turned turn.Moved h awake = (
    record { what = h.0; makes = made h.0 h.1; other = h.2; goes_on = λ miss. ap (λ p. p.own.top.empty) part-after ∙ h.3 miss },
    (crew-after (reached-after h.0 h.1) (going-after h.0 h.1 awake), step-awake h.0 h.1 h.3),
  )
  crew-turned turn.Spent h awake =
      let same : there ≡ here = same-moment h.2 h.3 h.4 h.5 in (
        ((declared, ap steps_in (ap log_from at) ∙ (h.1 ∙ (is.streams.own s old at).budget), ap (due_of W s) part-before ∙ subst (λ k. due_of W k.0 old.held ≡ StepDue) numbered h.0), same),
        (crew-after (subst (IsReachedMoment W Z n) (sym same) is.reached) (subst (IsGoing W n) (sym same) is.going), subst (IsAwake W) (sym same) awake),
      )
  crew-turned turn.Worn h awake = absurd (unworn h.0)

-- The crew as a value.

-- an element by its place
pub crew-at : (streams : List StreamValue) (s : ℕ) (stream : StreamValue) → s < length streams → stream ≡ get_or streams s stream → slice_get streams s ≡ Some stream
crew-at streams s stream lt e = slice_get-get_or streams s stream lt ∙ ap Some (sym e)

pub from-own : (P : Parts → ℕ → Type 0) (W : Parts) (Z : Stored) (n : ℕ) (crew : CrewValue) → IsCrew W Z n crew → P crew.workload crew.steps → P W n
from-own P W Z n crew is p = subst (P W) is.steps (subst (λ V. P V crew.steps) is.workload p)

pub crew-own : (W : Parts) (Z : Stored) (n : ℕ) (crew : CrewValue) → IsCrew W Z n crew → (P : Parts → ℕ → Type 0) → P W n → P crew.workload crew.steps
crew-own W Z n crew is P p = subst (λ V. P V crew.steps) (sym is.workload) (subst (P W) (sym is.steps) p)

-- what follows of each value
pub if-ok : {A E : Type 0} {P Q : A → Type 0} (result : Result A E) → IfOk result P → ((a : A) → P a → Q a) → IfOk result Q
if-ok (Ok a) p f = f a p
if-ok (Err e) p f = tt

-- what holds whatever the result is
pub on-ok : {E : Type 0} {P : Type 0} (result : Result Turn E) → P → OnOk result P
on-ok (Ok t) p = p
on-ok (Err e) p = tt

-- what a turn of one stream is to the crew, if there was memory for it
pub record CrewResult {E : Type 0} (W : Parts) (Z : Stored) (n s : ℕ) (crew : CrewValue) (result : Result Turn E) (next : CrewValue) : Type 0 where
  pub turn : IfOk result (λ t. TurnBy W Z n s (moment_in W crew) t (moment_in W next))
  pub is_crew : OnOk result (IsCrew W Z n next)
  pub awake : IfOk result (λ t. StaysAwake W t (moment_in W next))

pub crew-result : {E : Type 0} (W : Parts) (Z : Stored) (n : ℕ) (crew : CrewValue) (is : IsCrew W Z n crew) (s : ℕ) (declared : s < W.streams) (old new : StreamValue) (at : slice_get crew.streams s ≡ Some old)
    (after : ObjectsValue) (result : Result Turn E) → IfOk result (λ t. TurnsBy W Z old crew.objects t new after) → OnOk result (FitsStream W new) → OnOk result (FitsShapes W Z new) → OnOk result (new.number ≡ old.number) → OnOk result (new.keeps ≡ old.keeps) →
    OnOk result (new.budget ≡ old.budget) → OnOk result (length new.log ≤ 2 ^ 55) → OnOk result (steps_in new.log ≤ new.budget) → OnOk result (after.workload ≡ W) → IsAwake W (moment_in W crew) →
    CrewResult W Z n s crew result (record crew { objects = after; streams = set crew.streams s new })
crew-result W Z n crew is s declared old new at after (Ok t) turn fits shapes number keeps budget few within objects awake =
    let r = crew-turned W Z n crew is s declared old new at after fits shapes number keeps budget few within objects t turn awake in
    record { turn = r.0; is_crew = r.1.0; awake = r.1.1 }
crew-result W Z n crew is s declared old new at after (Err e) turn fits shapes number keeps budget few within objects awake = record { turn = tt; is_crew = tt; awake = tt }

-- what is said of its own workload and number of steps is said of those that it is of
module _ (W : Parts) (Z : Stored) (n : ℕ) (crew next : CrewValue) (is : IsCrew W Z n crew) where
  pub own-turn : (s : ℕ) (t u : Turn) → t ≡ u → TurnBy crew.workload Z crew.steps s (moment_in crew.workload crew) t (moment_in crew.workload next) → TurnBy W Z n s (moment_in W crew) u (moment_in W next)
  own-turn s t u e turn = from-own (λ V k. TurnBy V Z k s (moment_in V crew) u (moment_in V next)) W Z n crew is
      (subst (λ v. TurnBy crew.workload Z crew.steps s (moment_in crew.workload crew) v (moment_in crew.workload next)) e turn)

  pub own-crew : IsCrew crew.workload Z crew.steps next → IsCrew W Z n next
  own-crew later = from-own (λ V k. IsCrew V Z k next) W Z n crew is later

  pub own-awake : (t u : Turn) → t ≡ u → StaysAwake crew.workload t (moment_in crew.workload next) → StaysAwake W u (moment_in W next)
  own-awake t u e awake = from-own (λ V k. StaysAwake V u (moment_in V next)) W Z n crew is (subst (λ v. StaysAwake crew.workload v (moment_in crew.workload next)) e awake)

  pub own-turned : (s : ℕ) (stepped : Bool) → HasTurned crew.workload Z crew.steps s (moment_in crew.workload crew) stepped (moment_in crew.workload next) → HasTurned W Z n s (moment_in W crew) stepped (moment_in W next)
  own-turned s stepped turned = from-own (λ V k. HasTurned V Z k s (moment_in V crew) stepped (moment_in V next)) W Z n crew is turned

  pub own-rotated : (stepped : Bool) → HaveTurned crew.workload Z crew.steps crew.workload.streams (moment_in crew.workload crew) stepped (moment_in crew.workload next) → HaveTurned W Z n W.streams (moment_in W crew) stepped (moment_in W next)
  own-rotated stepped turned = from-own (λ V k. HaveTurned V Z k V.streams (moment_in V crew) stepped (moment_in V next)) W Z n crew is turned

  pub own-stepped : (stepped : Bool) → (stepped ≡ true → IsAwake crew.workload (moment_in crew.workload next)) → stepped ≡ true → IsAwake W (moment_in W next)
  own-stepped stepped awake = from-own (λ V k. stepped ≡ true → IsAwake V (moment_in V next)) W Z n crew is awake

  pub own-end : (stepped : Bool) (o : Option Outcome) → IsEnd crew.workload crew.steps crew stepped o → IsEnd W n crew stepped o
  own-end stepped o end = from-own (λ V k. IsEnd V k crew stepped o) W Z n crew is end
