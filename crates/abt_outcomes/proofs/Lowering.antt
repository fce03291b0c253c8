-- A rotation without a step lowers what is left, or leaves nothing to do.
use Rattle.std.proofs.Common.{◌≡◌, ◌≢◌, ℕ, zero, suc, ◌<◌, ◌≤◌, Bool, true, false, List, [], ◌∷◌, refl, ap, sym, ◌∙◌, subst, ◌⊎◌, arith, inl, inr}
use Rattle.std.proofs.lemmas.Bool.{cases_eq}
use Rattle.abt_machine.specs.declared.events.Event.{Event}
use Rattle.abt_machine.specs.declared.events.What.{What}
use Rattle.abt_machine.specs.declared.events.What.TheVariants as what
use Rattle.abt_machine.specs.Stored.{Stored}
use Rattle.abt_machine.specs.declared.workload.Parts.{Parts}
use Rattle.abt_machine.specs.Valid.{IsValid}
use Rattle.abt_machine.specs.Rounds.{OrdersStored}
use Rattle.abt_machine.specs.State.{State, Frame}
use Rattle.abt_machine.specs.Events.{May, after}
use Rattle.abt_machine.specs.Runs.{RunFrom, state_after}
use Rattle.abt_machine.specs.Sound.{Sound}
use Rattle.abt_machine.specs.Outcomes.{is_step}
use Rattle.abt_laws.specs.Laws.{AllMisses, IsMiss}
use Rattle.abt_laws.specs.Measure.{EndsStacked, open_frames, state_weight}
use Rattle.abt_laws.proofs.Misses.{miss-ends-stacked, miss-keeps-frames, miss-keeps-weight}
use Rattle.abt_laws.proofs.Quiet.{miss-stacks-none}
use Rattle.abt_laws.proofs.SoundRuns.{events-keep-sound}
use Rattle.abt_laws.proofs.WeightFalls.{end-falls, enter-falls, leave-falls, look-falls, put-falls, take-falls}
use Rattle.abt_outcomes.specs.Laws.{RotationsLower}
use Rattle.abt_outcomes.specs.Rotations.{HasEmptied, HasNoStep}
use Rattle.abt_outcomes.proofs.Turning.{missed-rotations-end}

-- One event.

pub is-miss : (w : What) → IsMiss w ⊎ (IsMiss w → ⊥)
is-miss (what.Miss p) = inl tt
is-miss _ = inr (λ h. h)

-- an event that is neither a step nor a miss lowers the weight
pub other-lowers : (W : Parts) (Z : Stored) (S : State) (s : ℕ) (w : What) → Sound W Z S → May W Z S s w → is_step w ≡ false → (IsMiss w → ⊥) → state_weight W (after W S s w) < state_weight W S
other-lowers W Z S s (what.Miss p) sound may still other = absurd (other tt)
other-lowers W Z S s (what.Step u k c) sound may still other = cc
other-lowers W Z S s (what.Call u k n) sound may still other = cc
other-lowers W Z S s (what.Take p u) sound may still other = take-falls W S s p u may.1
other-lowers W Z S s (what.Look u) sound may still other = look-falls W Z S s u sound may.1
other-lowers W Z S s (what.Put u p) sound may still other = put-falls W S s u p may.1
other-lowers W Z S s (what.End u c) sound may still other = end-falls W S s u c may.1
other-lowers W Z S s (what.Enter u) sound may still other = enter-falls W S s u may.0 may.1
other-lowers W Z S s (what.Leave u) sound may still other = leave-falls W Z S s u sound may.0 may.1

-- a miss keeps it
miss-keeps : (W : Parts) (S : State) (s : ℕ) (w : What) → IsMiss w → state_weight W (after W S s w) ≡ state_weight W S
miss-keeps W S s (what.Miss p) miss = miss-keeps-weight W S s p
miss-keeps W S s _ miss = absurd miss

-- The weight.

-- events without a step are all misses, and keep the weight, or lower it
pub misses-or-lower : (W : Parts) (Z : Stored) (S : State) (es : List Event) → IsValid W → OrdersStored W Z.orders → Sound W Z S → RunFrom W Z S es → HasNoStep es →
    (AllMisses es × (state_weight W (state_after W S es) ≡ state_weight W S)) ⊎ (state_weight W (state_after W S es) < state_weight W S)
misses-or-lower W Z S [] valid stored sound run still = inl (tt, refl)
misses-or-lower W Z S (e ∷ es) valid stored sound run still =
    let T : State = after W S e.stream.0 e.what in
    let rest : (AllMisses es × (state_weight W (state_after W T es) ≡ state_weight W T)) ⊎ (state_weight W (state_after W T es) < state_weight W T) =
    misses-or-lower W Z T es valid stored (events-keep-sound W Z valid stored S T e sound (run.0, run.1, refl)) run.2 still.1 in
    elim (is-miss e.what) [
      | inl miss ↦
          let same : state_weight W T ≡ state_weight W S = miss-keeps W S e.stream.0 e.what miss in
          elim rest [ inl all ↦ inl ((miss, all.0), all.1 ∙ same) | inr less ↦ inr (omega arith) ]
      | inr other ↦
          let lower : state_weight W T < state_weight W S = other-lowers W Z S e.stream.0 e.what sound run.1 still.0 other in
          elim rest [ inl all ↦ (let e : state_weight W (state_after W T es) ≡ state_weight W T = all.1 in inr (omega arith)) | inr less ↦ inr (omega arith) ]
    ]

-- Open frames.

some-or-none : (fs : List Frame) → (fs ≡ []) ⊎ (fs ≢ [])
some-or-none [] = inl refl
some-or-none (f ∷ fs) = inr (λ e. cc)

true-or-not : (b : Bool) → (b ≡ true) ⊎ (b ≢ true)
true-or-not true = inl refl
true-or-not false = inr (λ e. cc)

ends-stacked : (s : ℕ) (T : State) → EndsStacked s T ⊎ (EndsStacked s T → ⊥)
ends-stacked s T =
    elim (some-or-none (T.stream s).below) [
      | inl none ↦ inr (λ ends. ends.0 none)
      | inr some ↦ elim (true-or-not (T.stream s).top.empty) [ inl empty ↦ inl (some, empty) | inr not ↦ inr (λ ends. not ends.1) ]
    ]

miss-ends : (W : Parts) (Z : Stored) (S : State) (s : ℕ) (w : What) → s < W.streams → May W Z S s w → IsMiss w → EndsStacked s (after W S s w) → open_frames W (after W S s w) < open_frames W S
miss-ends W Z S s (what.Miss p) declared may miss ends = miss-ends-stacked W S s p declared may.0 ends
miss-ends W Z S s _ declared may miss ends = absurd miss

-- a miss opens no frame
miss-opens-none : (W : Parts) (Z : Stored) (S : State) (s : ℕ) (w : What) → s < W.streams → May W Z S s w → IsMiss w → open_frames W (after W S s w) ≤ open_frames W S
miss-opens-none W Z S s (what.Miss p) declared may miss =
    elim (ends-stacked s (after W S s (what.Miss p))) [
      | inl ends ↦ (let less : open_frames W (after W S s (what.Miss p)) < open_frames W S = miss-ends-stacked W S s p declared may.0 ends in omega arith)
      | inr stays ↦ (let same : open_frames W (after W S s (what.Miss p)) ≡ open_frames W S = miss-keeps-frames W S s p may.0 stays in omega arith)
    ]
miss-opens-none W Z S s _ declared may miss = absurd miss

pub misses-open-none : (W : Parts) (Z : Stored) (S : State) (es : List Event) → RunFrom W Z S es → AllMisses es → open_frames W (state_after W S es) ≤ open_frames W S
misses-open-none W Z S [] run misses = omega arith
misses-open-none W Z S (e ∷ es) run misses =
    let T : State = after W S e.stream.0 e.what in
    let now : open_frames W T ≤ open_frames W S = miss-opens-none W Z S e.stream.0 e.what run.0 run.1 misses.0 in
    let rest : open_frames W (state_after W T es) ≤ open_frames W T = misses-open-none W Z T es run.2 misses.1 in omega arith

-- misses by which a round of a stacked frame ends empty lower the number of open frames
stacked-lower : (W : Parts) (Z : Stored) (S : State) (s : ℕ) (es : List Event) → RunFrom W Z S es → AllMisses es → (S.stream s).below ≢ [] → HasEmptied W s S es → open_frames W
    (state_after W S es) < open_frames W S
stacked-lower W Z S s [] run misses some emptied = absurd emptied
stacked-lower W Z S s (e ∷ es) run misses some emptied =
    let T : State = after W S e.stream.0 e.what in
    let below : (T.stream s).below ≡ (S.stream s).below = miss-stacks-none W S s e.stream.0 e.what misses.0 in
    let still : (T.stream s).below ≢ [] = λ none. some (sym below ∙ none) in
    elim emptied [
      | inl now ↦
          let ends : EndsStacked e.stream.0 T = subst (λ r. EndsStacked r T) (sym now.0) (still, now.2) in
          let less : open_frames W T < open_frames W S = miss-ends W Z S e.stream.0 e.what run.0 run.1 misses.0 ends in
          let rest : open_frames W (state_after W T es) ≤ open_frames W T = misses-open-none W Z T es run.2 misses.1 in omega arith
      | inr later ↦
          let same : open_frames W T ≤ open_frames W S = miss-opens-none W Z S e.stream.0 e.what run.0 run.1 misses.0 in
          let rest : open_frames W (state_after W T es) < open_frames W T = stacked-lower W Z T s es run.2 misses.1 still later in omega arith
    ]

-- Rotations.

-- of the streams below n one has a stacked frame, or none has
stacked-or-none : (S : State) (n : ℕ) → ((s : ℕ) × (s < n) × ((S.stream s).below ≢ [])) ⊎ ((s : ℕ) → s < n → (S.stream s).below ≡ [])
stacked-or-none S zero = inr (λ s l. absurd (omega arith))
stacked-or-none S (suc n) =
    elim (some-or-none (S.stream n).below) [
      | inr some ↦ inl (n, omega arith, some)
      | inl none ↦ elim (stacked-or-none S n) [
        | inl has ↦ (let l : has.0 < n = has.1 in inl (has.0, omega arith, has.2))
        | inr rest ↦ inr (λ s l. elim (cases_eq s n) [ inl same ↦ ap (λ r. (S.stream r).below) same ∙ none | inr other ↦ rest s (omega arith) ])
      ]
    ]

pub rotations-lower : (W : Parts) (Z : Stored) → RotationsLower W Z
rotations-lower W Z valid stored S es sound run still rotation =
    elim (misses-or-lower W Z S es valid stored sound run still) [
      | inr less ↦ inr (inl less)
      | inl all ↦ elim (stacked-or-none S W.streams) [
        | inl has ↦ inr (inr (all.1, stacked-lower W Z S has.0 es run all.0 has.2 (rotation.emptied has.0 has.1)))
        | inr none ↦ inl (missed-rotations-end W Z valid stored S es sound run all.0 none rotation)
      ]
    ]
