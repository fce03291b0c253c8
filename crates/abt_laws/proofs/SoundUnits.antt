-- Steps that move units keep a sound state sound: yielding to a unit, suspending, joining, the beginning of a life, and its end by the unit itself. Unit u, in the hand of stream s, makes the step.
use Rattle.std.proofs.Common.{◌≡◌, ℕ, suc, ◌<◌, ◌≤◌, true, List, [], ◌∷◌, length, Some, refl, sym, ◌∙◌, ap, subst, arith, inl, inr}
use Rattle.std.proofs.lemmas.List.{length-replicate}
use Rattle.abt_machine.specs.declared.events.Place.{Place}
use Rattle.abt_machine.specs.declared.events.Place.TheVariants as place
use Rattle.abt_machine.specs.declared.events.Spot.TheVariants as spot
use Rattle.abt_machine.specs.Stored.{Stored}
use Rattle.abt_machine.specs.declared.workload.Parts.{Parts}
use Rattle.abt_machine.specs.Numbers.{stream_no, unit_no}
use Rattle.abt_machine.specs.Maps.{put_at}
use Rattle.abt_machine.specs.State.{State, Desk, Exited}
use Rattle.abt_machine.specs.Lines.{InTray, InHand, InNext, Joining, ticket_in, tray_end}
use Rattle.abt_machine.specs.Carrying.{advanced, newborn}
use Rattle.abt_machine.specs.Codes.{is_in_pool}
use Rattle.abt_machine.specs.Frames.{marked}
use Rattle.abt_machine.specs.Changes.{Change, changed, to_tray, goes_on}
use Rattle.abt_machine.specs.Steps.{begins, joins}
use Rattle.abt_machine.specs.Sound.{IsPlaced, HasNotEnded}
use Rattle.abt_laws.proofs.Maps.{put_at-same, put_at-cases}
use Rattle.abt_laws.proofs.Lists.{EachOf}
use Rattle.abt_laws.proofs.Places.{ticket-place, same-self}
use Rattle.abt_laws.proofs.Arrivals.{IsEmpty, IsBelow, IsBelow-move, IsFreeFor, free-nowhere, free-empty, free-above, tray-free}
use Rattle.abt_laws.proofs.SoundChanges.{Keeps, places, IsAlone, placed-below}
use Rattle.abt_laws.proofs.Barriers.{IsOffBarriers}
use Rattle.abt_laws.proofs.Locks.{IsOffLocks}
use Rattle.abt_laws.proofs.Wakes.{IsWakeable, tray-well, tray-frameless, tray-off, empty-after, frameless-by, off-by}
use Rattle.abt_laws.proofs.SoundEvents.{keeps-event}
use Rattle.abt_laws.proofs.SoundFrames.{frames-stay}
use Rattle.abt_laws.proofs.SoundMoves.{keeps-moves}
use Rattle.abt_laws.proofs.SoundSteps.{IsStepping, in-no-frame, off-locks, may-wake, carries-on, keeps-goes_on, keeps-wakes, tray-below}

module _ (W : Parts) (Z : Stored) (S : State) (s u : ℕ) (step : IsStepping W Z S s u) where
  -- u goes to a free place that is no barrier and no reader-writer lock
  keeps-goes_to : (pl : Place) (js : List (ℕ × ℕ)) →
      let c : Change = record (goes_on S u) { moves = (u, pl) ∷ []; join_next = js } in
      IsFreeFor S.place u pl → IsPlaced W (changed S c) u pl → IsAlone (places S c) pl → HasNotEnded pl → IsOffBarriers W pl → IsOffLocks W pl →
      EachOf (λ (m : ℕ × ℕ). S.join_next m.0 ≤ m.1) js → Keeps W Z S c
  keeps-goes_to pl js free placed alone goes off off_to rises =
      keeps-moves W Z S s u step ((u, pl) ∷ []) js [] [] (free, tt) (record { declared = step.declared; placed = placed; alone = alone; joined = inl goes }, tt) (off, tt) ((off-locks W Z S s u step, off_to), tt) (in-no-frame W Z S s u step, tt) rises tt tt

  pub keeps-suspends : Keeps W Z S (record (goes_on S u) { moves = (u, place.Blocked spot.Suspended 0) ∷ [] })
  keeps-suspends = let pl : Place = place.Blocked spot.Suspended 0 in keeps-goes_to pl [] (free-nowhere S.place u pl refl) tt tt refl tt tt tt

  -- u stays in the hand, to be ended
  pub keeps-exits : Keeps W Z S (record (goes_on S u) { streams = (s, marked Exited (S.stream s)) ∷ [] })
  keeps-exits =
      let c : Change = record (goes_on S u) { streams = (s, marked Exited (S.stream s)) ∷ [] } in
      keeps-event W Z S step.sound [] ((u, advanced (S.carried u)) ∷ []) [] [] ((s, marked Exited (S.stream s)) ∷ []) tt tt tt tt (carries-on W Z S s u step, tt) tt tt
      (frames-stay W Z S c step.sound tt (record { below = refl; sched = refl; rest = λ v at h. h; under_way = λ k. (step.sound.under_way s k).0 }, tt))

  -- the tickets of those who join v are below the next
  joining-below : (v : ℕ) → IsBelow (Joining v) (S.join_next v) S.place
  joining-below v = placed-below W Z S (Joining v) (S.join_next v) step.sound (λ w t k. k.1)

  keeps-joining : (v : ℕ) → v < length W.units → HasNotEnded (S.place v) →
      Keeps W Z S (record (goes_on S u) { moves = (u, place.Blocked (spot.Join (unit_no v)) (S.join_next v)) ∷ []; join_next = (v, suc (S.join_next v)) ∷ [] })
  keeps-joining v l goes =
      let pl : Place = place.Blocked (spot.Join (unit_no v)) (S.join_next v) in
      let next : put_at S.join_next v (suc (S.join_next v)) v ≡ suc (S.join_next v) = put_at-same S.join_next v (suc (S.join_next v)) in
      let still : HasNotEnded (put_at S.place u pl v) =
      elim (put_at-cases S.place u pl v) [ inl same ↦ subst HasNotEnded (sym same.1) refl | inr other ↦ subst HasNotEnded (sym other.1) goes ] in
      keeps-goes_to pl ((v, suc (S.join_next v)) ∷ []) (free-above S.place u pl (Joining v) (S.join_next v) (same-self v (S.join_next v)) (joining-below v))
      (l, subst (λ n. S.join_next v < n) (sym next) (omega arith), still) tt refl tt tt (omega arith, tt)

  -- u goes on if v has ended, else it joins v
  pub keeps-joins : (v : ℕ) (pl : Place) → v < length W.units → S.place v ≡ pl → Keeps W Z S (joins S u v pl)
  keeps-joins v (place.Ended e) l is = keeps-goes_on W Z S s u step
  keeps-joins v pl l is = keeps-joining v l (subst HasNotEnded (sym is) refl)

  -- v begins a life with home p
  pub keeps-begins : (v p : ℕ) → IsWakeable W S v → p < length W.pools → Keeps W Z S (begins W S s u v p)
  keeps-begins v p wakeable l =
      let d : Desk = record (S.desk v) { life = suc (S.desk v).life } in
      keeps-wakes W Z S s u step (v ∷ []) ((u, advanced (S.carried u)) ∷ (v, newborn p (S.carried v)) ∷ []) ((v, d) ∷ []) [] [] []
      (wakeable, tt) (carries-on W Z S s u step, (record { keys = length-replicate (length (S.carried v).keys) 0 ∙ step.sound.keys v; home = l; position = omega arith }, tt)) (record { asks = inl (λ h. h); request = step.sound.requests v }, tt) tt tt tt

  -- nobody else is in the hand
  hand-alone : (v t : ℕ) → ticket_in (InHand s) (S.place v) ≡ Some t → v ≡ u
  hand-alone v t h = step.sound.one_each (InHand s) v u t h (ap (ticket_in (InHand s)) (step.in_hand ∙ sym (ticket-place (InHand s) (S.place v) t h)) ∙ h)

  -- v comes to Next from a pool, and u to the tray
  pub keeps-yields_to : (v p : ℕ) → v < length W.units → is_in_pool p (S.place v) ≡ true → Keeps W Z S (record (goes_on S u) { moves = (v, place.Next (stream_no s)) ∷ to_tray W S s (u ∷ []) })
  keeps-yields_to v p l pooled =
      let pl : Place = place.Next (stream_no s) in
      let i : ℕ = tray_end W S s in
      let c : Change = record (goes_on S u) { moves = (v, pl) ∷ to_tray W S s (u ∷ []) } in
      let alone : IsEmpty (InHand s) (places S c) = empty-after S c (InHand s) (λ e. cc, (λ e. cc, tt)) (λ w t h. inr (inl (hand-alone w t h))) in
      keeps-moves W Z S s u step ((v, pl) ∷ to_tray W S s (u ∷ [])) [] [] []
      (free-empty S.place v pl (InNext s) 0 (same-self s 0) step.no_next, tray-free s i (put_at S.place v pl) (u ∷ []) (IsBelow-move (InTray s) i S.place v pl (λ e. cc) (tray-below W Z S s u step)))
      (record { declared = l; placed = (step.stream, step.rests); alone = alone; joined = inl refl }, tray-well W S c s i (u ∷ []) step.stream step.rests (may-wake W Z S s u step, tt))
      (tt, (tt, tt))
      ((off-by W S v (is_in_pool p) (λ x t. refl) pooled, tt), tray-off W S s i (u ∷ []) (may-wake W Z S s u step, tt))
      (frameless-by S v (is_in_pool p) (λ r d. refl) pooled, tray-frameless W S s i (u ∷ []) (may-wake W Z S s u step, tt))
      tt tt tt
