-- Within a stream's turn each event lowers what is left to it.
use Rattle.std.proofs.Common.{◌≡◌, ℕ, suc, ◌<◌, ◌≤◌, ◌+◌, ◌-◌, ◌==◌, true, false, [], ◌∷◌, ◌++◌, length, refl, ap, sym, ◌∙◌, subst, arith, inl, inr, length-append}
use Rattle.std.specs.List.Sorted.{IsPermutation}
use Rattle.std.proofs.lemmas.Bool.{cond_both}
use Rattle.std.proofs.lemmas.List.Sorted.{length_permutation}
use Rattle.abt_machine.specs.declared.events.Event.{Event}
use Rattle.abt_machine.specs.declared.events.What.{What}
use Rattle.abt_machine.specs.declared.events.What.TheVariants as what
use Rattle.abt_machine.specs.declared.grammar.Format.TheVariants as format
use Rattle.abt_machine.specs.Stored.{Stored}
use Rattle.abt_machine.specs.declared.workload.Parts.{Parts}
use Rattle.abt_machine.specs.Limits.{listed_limit, unit_limit}
use Rattle.abt_machine.specs.Valid.{IsValid}
use Rattle.abt_machine.specs.Workloads.{pools_of}
use Rattle.abt_machine.specs.Rounds.{IsNextPool, OrdersStored}
use Rattle.abt_machine.specs.State.{State, Stream, Frame}
use Rattle.abt_machine.specs.Frames.{frame_at, frame_missed, round_missed}
use Rattle.abt_machine.specs.Events.{After, May, after}
use Rattle.abt_machine.specs.Sound.{Sound}
use Rattle.abt_machine.specs.Outcomes.{is_step}
use Rattle.abt_machine.proofs.Declared.{few-listed}
use Rattle.abt_laws.specs.Laws.{IsMiss}
use Rattle.abt_laws.specs.Measure.{open_frames, state_weight}
use Rattle.abt_laws.proofs.Maps.{put_at-same}
use Rattle.abt_laws.proofs.Misses.{miss-keeps-frames, miss-keeps-weight}
use Rattle.abt_laws.proofs.Orders.{order-permutes}
use Rattle.abt_laws.proofs.SoundRuns.{events-keep-sound}
use Rattle.abt_outcomes.specs.Laws.{TurnsFall}
use Rattle.abt_outcomes.specs.Rotations.{turns_left, unseen}
use Rattle.abt_outcomes.proofs.Bounds.{numbers-are-bounded}
use Rattle.abt_outcomes.proofs.Lowering.{is-miss, other-lowers}

-- the pools of a frame that it has not seen
abbrev left_unseen : Parts → Frame → ℕ
left_unseen W f = length (pools_of W f.sched) - length f.seen

-- a frame that has a next pool has seen fewer pools than its scheduler lists
more-pools : (W : Parts) (Z : Stored) (f : Frame) (p : ℕ) → IsNextPool W Z.orders f p → length f.seen < length (pools_of W f.sched)
more-pools W Z f p (order, chosen, more) =
    let permutes : IsPermutation (pools_of W f.sched) order = order-permutes W Z f.sched f.round order chosen in
    let long : length order ≡ length (pools_of W f.sched) = length_permutation (pools_of W f.sched) order permutes in
    let parts : length ((f.seen ++ p ∷ []) ++ more.0) ≡ length (f.seen ++ p ∷ []) + length more.0 = length-append (f.seen ++ p ∷ []) more.0 in
    let seen : length (f.seen ++ p ∷ []) ≡ length f.seen + 1 = length-append f.seen (p ∷ []) in
    let same : length ((f.seen ++ p ∷ []) ++ more.0) ≡ length order = ap length more.1 in omega arith

-- a miss that does not end the round leaves one pool fewer
missed-unseen : (W : Parts) (f : Frame) (p : ℕ) → length f.seen < length (pools_of W f.sched) → (frame_missed W f p).empty ≡ false → left_unseen W (frame_missed W f p) < left_unseen W f
missed-unseen W f p more =
    cond_both (length (pools_of W f.sched) == suc (length f.seen)) (frame_at f.sched (suc f.round) true) (record { sched = f.sched; round = f.round; seen = f.seen ++ p ∷ []; empty = false })
    (λ (g : Frame). g.empty ≡ false → left_unseen W g < left_unseen W f)
    (λ _ e. cc)
    (λ _ e. (let seen : length (f.seen ++ p ∷ []) ≡ length f.seen + 1 = length-append f.seen (p ∷ []) in omega arith))

-- a round has few pools to see
unseen-most : (W : Parts) (Z : Stored) (S : State) (s : ℕ) → IsValid W → s < W.streams → Sound W Z S → unseen W S s ≤ listed_limit
unseen-most W Z S s valid declared sound =
    let few : length (pools_of W (S.stream s).top.sched) ≤ listed_limit = few-listed W (S.stream s).top.sched valid in omega arith

miss-falls : (W : Parts) (Z : Stored) (S : State) (s : ℕ) (w : What) → May W Z S s w → IsMiss w → ((after W S s w).stream s).top.empty ≡ false → turns_left W (after W S s w) s < turns_left W S s
miss-falls W Z S s (what.Miss p) may miss goes-on =
    let T : State = after W S s (what.Miss p) in
    let own : T.stream s ≡ round_missed W p.0 (S.stream s) = put_at-same S.stream s (round_missed W p.0 (S.stream s)) in
    let same : state_weight W T ≡ state_weight W S = miss-keeps-weight W S s p in
    let frames : open_frames W T ≡ open_frames W S = miss-keeps-frames W S s p may.0 (λ ends. (let e : false ≡ true = sym goes-on ∙ ends.1 in cc)) in
    let fewer : left_unseen W (frame_missed W (S.stream s).top p.0) < left_unseen W (S.stream s).top =
    missed-unseen W (S.stream s).top p.0 (more-pools W Z (S.stream s).top p.0 may.2) (sym (ap (λ (st : Stream). st.top.empty) own) ∙ goes-on) in
    let now : unseen W T s < unseen W S s = subst (λ (st : Stream). left_unseen W st.top < left_unseen W (S.stream s).top) (sym own) fewer in omega arith
miss-falls W Z S s _ may miss goes-on = absurd miss

turn-falls : (W : Parts) (Z : Stored) (S : State) (e : Event) → IsValid W → OrdersStored W Z.orders → Sound W Z S → After W Z S e (after W S e.stream.0 e.what) → is_step e.what ≡ false →
    (IsMiss e.what → ((after W S e.stream.0 e.what).stream e.stream.0).top.empty ≡ false) → turns_left W (after W S e.stream.0 e.what) e.stream.0 < turns_left W S e.stream.0
turn-falls W Z S e valid stored sound step still goes-on =
    let T : State = after W S e.stream.0 e.what in
    elim (is-miss e.what) [
      | inl miss ↦ miss-falls W Z S e.stream.0 e.what step.1 miss (goes-on miss)
      | inr other ↦
          let later : Sound W Z T = events-keep-sound W Z valid stored S T e sound step in
          let lower : state_weight W T < state_weight W S = other-lowers W Z S e.stream.0 e.what sound step.1 still other in
          let frames : open_frames W T ≤ unit_limit format.Three = (numbers-are-bounded W Z valid T later).1 in
          let pools : unseen W T e.stream.0 ≤ listed_limit = unseen-most W Z T e.stream.0 valid step.0 later in omega arith
    ]

pub turns-fall : (W : Parts) (Z : Stored) → TurnsFall W Z
turns-fall W Z valid stored S T e sound step still goes-on =
    subst (λ U. turns_left W U e.stream.0 < turns_left W S e.stream.0) (sym step.2)
    (turn-falls W Z S e valid stored sound (step.0, step.1, refl) still (λ miss. subst (λ (U : State). (U.stream e.stream.0).top.empty ≡ false) step.2 (goes-on miss)))
