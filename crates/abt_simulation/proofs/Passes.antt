-- Units go from the line of one object to another: some to a stream's tray, some to the end of the other's line, and the rest stay. Unit u, in the hand of stream s, makes the step.
use Rattle.std.proofs.Common.{◌≡◌, ◌≢◌, ℕ, suc, ◌<◌, true, false, List, [], ◌∷◌, ◌++◌, length, map, None, refl, sym, ◌∙◌, ap, subst, ◌⊎◌, inl, inr}
use Rattle.std.specs.Prelude.{filter}
use Rattle.std.proofs.lemmas.List.{map-append}
use Rattle.abt_machine.specs.declared.events.Place.{Place}
use Rattle.abt_machine.specs.Stored.{Stored}
use Rattle.abt_machine.specs.declared.workload.Parts.{Parts}
use Rattle.abt_machine.specs.Maps.{put_at, put_all}
use Rattle.abt_machine.specs.State.{State}
use Rattle.abt_machine.specs.Carrying.{advanced}
use Rattle.abt_machine.specs.Lines.{Waiting, ticket_in, standing, tray_end}
use Rattle.abt_machine.specs.Changes.{Change, changed, to_tray, waiting_moves}
use Rattle.abt_machine.specs.Values.{owned_at, part_of, waiters_at}
use Rattle.abt_machine.specs.Acts.{moved}
use Rattle.abt_machine.specs.Plans.{keeps}
use Rattle.abt_machine.specs.Turns.{stepped}
use Rattle.abt_laws.proofs.Lists.{EachOf, EachOf-then, EachOf-append, EachOf-prefix, Among}
use Rattle.abt_laws.proofs.LineMoves.{line_moves-waiting, tray_moves-among, tray_moves-key, tray_moves-each, waiting_moves-each, waiting_moves-places}
use Rattle.abt_laws.proofs.Maps.{KeyOf, put_at-same, put_at-other, put_all-other}
use Rattle.abt_laws.proofs.Places.{same-self}
use Rattle.abt_laws.proofs.SoundSteps.{waiting-below}
use Rattle.abt_laws.proofs.Filters.{filter-all}
use Rattle.abt_laws.proofs.Prefixes.{EachOf-suffix, among-prefix, among-suffix, distinct-prefix, distinct-suffix, distinct-apart, filter-drop}
use Rattle.abt_laws.proofs.Pushes.{IsDistinct, EachOf-among, each-among}
use Rattle.abt_laws.proofs.LinesAfter.{line_at, stays, stays-key, stays-other, line-left, line-stays, line-gets_all, put_all-append}
use Rattle.abt_simulation.proofs.Acting.{IsActing}
use Rattle.abt_simulation.proofs.OwnedLines.{owned-same}
use Rattle.abt_simulation.proofs.OwnParts.{IsAway, IsOff, off-object, away-line, away-other, standing-distinct, moving, part-keeps}
use Rattle.abt_simulation.proofs.Shapes.{none-to_tray, line-same}
use Rattle.abt_simulation.proofs.MonitorShapes.{waits-elsewhere, line-apart}

-- Who moves.

key-either : {A : Type 0} (v : ℕ) (ps qs : List (ℕ × A)) → KeyOf v (ps ++ qs) → KeyOf v ps ⊎ KeyOf v qs
key-either v [] qs k = inr k
key-either v (p ∷ ps) qs k = elim k [ inl e ↦ inl (inl e) | inr b ↦ elim (key-either v ps qs b) [ inl c ↦ inl (inr c) | inr c ↦ inr c ] ]

key-front : {A : Type 0} (v : ℕ) (ps qs : List (ℕ × A)) → KeyOf v ps → KeyOf v (ps ++ qs)
key-front v [] qs k = absurd k
key-front v (p ∷ ps) qs k = elim k [ inl e ↦ inl e | inr b ↦ inr (key-front v ps qs b) ]

key-back : {A : Type 0} (v : ℕ) (ps qs : List (ℕ × A)) → KeyOf v qs → KeyOf v (ps ++ qs)
key-back v [] qs k = k
key-back v (p ∷ ps) qs k = inr (key-back v ps qs k)

waiting-key : (m t : ℕ) (us : List ℕ) (v : ℕ) → Among v us → KeyOf v (waiting_moves m t us)
waiting-key m t [] v k = k
waiting-key m t (u ∷ us) v k = elim k [ inl e ↦ inl e | inr b ↦ inr (waiting-key m (suc t) us v b) ]

key-waiting : (m t : ℕ) (us : List ℕ) (v : ℕ) → KeyOf v (waiting_moves m t us) → Among v us
key-waiting m t [] v k = k
key-waiting m t (u ∷ us) v k = elim k [ inl e ↦ inl e | inr b ↦ inr (key-waiting m (suc t) us v b) ]

-- Of those that wait at x, these go to the tray of s and then those to the end of the waiters of m.
module _ (W : Parts) (Z : Stored) (S : State) (s u : ℕ) (acts : IsActing W Z S s u) (x m : ℕ) (apart : x ≢ m) (us ws left : List ℕ) (split : standing W S (Waiting x) ≡ us ++ (ws ++ left))
    (c : Change) where
  abbrev moves : List (ℕ × Place)
  moves = waiting_moves m (S.object_next m) ws ++ to_tray W S s us

  abbrev pub passing : Change
  passing = moving moves ((u, advanced (S.carried u)) ∷ []) c

  all-distinct : IsDistinct (us ++ (ws ++ left))
  all-distinct = subst IsDistinct split (standing-distinct W S (Waiting x))

  all-away : EachOf (IsAway W S s) (us ++ (ws ++ left))
  all-away = subst (EachOf (IsAway W S s)) split (away-line W S s (Waiting x) tt)

  us-away : EachOf (IsAway W S s) us
  us-away = EachOf-prefix (IsAway W S s) us (ws ++ left) all-away

  ws-away : EachOf (IsAway W S s) ws
  ws-away = EachOf-prefix (IsAway W S s) ws left (EachOf-suffix (IsAway W S s) us (ws ++ left) all-away)

  left-away : EachOf (IsAway W S s) left
  left-away = EachOf-suffix (IsAway W S s) ws left (EachOf-suffix (IsAway W S s) us (ws ++ left) all-away)

  -- who is in none of a stream's lines carries the same
  same-carried : (vs : List ℕ) → EachOf (IsAway W S s) vs → map (owned_at (changed S passing)) vs ≡ map (owned_at S) vs
  same-carried vs away =
      owned-same S (changed S passing) vs
      (EachOf-then (IsAway W S s) (λ v. put_at S.carried u (advanced (S.carried u)) v ≡ S.carried v) vs (λ v a. put_at-other S.carried u (advanced (S.carried u)) v (away-other W Z S s u acts v a.off)) away)

  -- none of them stands in the line of another object
  none-at : (y : ℕ) → y ≢ x → EachOf (λ v. ticket_in (Waiting y) (S.place v) ≡ None) (us ++ (ws ++ left))
  none-at y ne = subst (EachOf (λ v. ticket_in (Waiting y) (S.place v) ≡ None)) split (line-apart W S y x ne)

  -- The stream's part.

  pub passing-part : part_of W (changed S passing) s ≡ stepped (part_of W S s) (keeps (moved (owned_at S u)) (map (owned_at S) us))
  passing-part =
      part-keeps W Z S s u acts (waiting_moves m (S.object_next m) ws) us ((u, advanced (S.carried u)) ∷ []) c
      (waiting_moves-each (λ p. IsOff s (S.place p.0) × IsOff s p.1) (IsAway W S s) m (S.object_next m) ws (λ v t b a. (a.off, off-object s (Waiting m) t tt)) ws-away)
      (distinct-prefix us (ws ++ left) all-distinct) us-away (inl refl, tt)
      ∙ (λ i. stepped (part_of W S s) (keeps (record { number = u; carried = put_at-same S.carried u (advanced (S.carried u)) i }) (same-carried us us-away i)))

  -- The line that they leave.

  goes-away : (v : ℕ) → KeyOf v moves → stays moves v ≡ false
  goes-away v k = stays-key moves v k

  left-stays : EachOf (λ v. stays moves v ≡ true) left
  left-stays = each-among (λ v. stays moves v ≡ true) left (λ v n. stays-other moves v (λ k. elim (key-either v (waiting_moves m (S.object_next m) ws) (to_tray W S s us) k) [
    | inl b ↦ distinct-apart v ws left (distinct-suffix us (ws ++ left) all-distinct) (key-waiting m (S.object_next m) ws v b) n
    | inr b ↦ distinct-apart v us (ws ++ left) all-distinct (tray_moves-among s (tray_end W S s) us v b) (among-suffix v ws left n)
  ]))

  pub passing-left : waiters_at W (changed S passing) x ≡ map (owned_at S) left
  passing-left =
      ap (map (owned_at (changed S passing)))
      (line-left (length W.units) (Waiting x) S.place moves
      (EachOf-append (λ (p : ℕ × Place). ticket_in (Waiting x) p.1 ≡ None) (waiting_moves m (S.object_next m) ws) (to_tray W S s us)
      (waiting_moves-places (λ pl. ticket_in (Waiting x) pl ≡ None) m (S.object_next m) ws (λ t. waits-elsewhere x m t apart)) (none-to_tray W S s (Waiting x) us tt))
      ∙ (ap (filter (stays moves)) split
      ∙ (filter-drop (stays moves) us (ws ++ left) (each-among (λ v. stays moves v ≡ false) us (λ v n. goes-away v (key-back v (waiting_moves m (S.object_next m) ws) (to_tray W S s us) (tray_moves-key s (tray_end W S s) us v n))))
      ∙ (filter-drop (stays moves) ws left (each-among (λ v. stays moves v ≡ false) ws (λ v n. goes-away v (key-front v (waiting_moves m (S.object_next m) ws) (to_tray W S s us) (waiting-key m (S.object_next m) ws v n))))
      ∙ filter-all (stays moves) left left-stays))))
      ∙ same-carried left left-away

  -- The line that they come to.

  abbrev arrived : ℕ → Place
  arrived = put_all S.place (waiting_moves m (S.object_next m) ws)

  ws-new : (v : ℕ) → Among v ws → (v < length W.units) × (ticket_in (Waiting m) (S.place v) ≡ None)
  ws-new v n =
      let a : IsAway W S s v = EachOf-among (IsAway W S s) ws v ws-away n in
      (a.declared, EachOf-among (λ w. ticket_in (Waiting m) (S.place w) ≡ None) (us ++ (ws ++ left)) v (none-at m (λ e. apart (sym e))) (among-suffix v us (ws ++ left) (among-prefix v ws left n)))

  us-elsewhere : EachOf (λ v. ticket_in (Waiting m) (arrived v) ≡ None) us
  us-elsewhere = each-among (λ v. ticket_in (Waiting m) (arrived v) ≡ None) us (λ v n.
      ap (ticket_in (Waiting m)) (put_all-other S.place (waiting_moves m (S.object_next m) ws) v (λ k. distinct-apart v us (ws ++ left) all-distinct n (among-prefix v ws left (key-waiting m (S.object_next m) ws v k))))
      ∙ EachOf-among (λ w. ticket_in (Waiting m) (S.place w) ≡ None) (us ++ (ws ++ left)) v (none-at m (λ e. apart (sym e))) (among-prefix v us (ws ++ left) n))

  pub passing-arrived : waiters_at W (changed S passing) m ≡ waiters_at W S m ++ map (owned_at S) ws
  passing-arrived =
      ap (map (owned_at (changed S passing)))
      (ap (line_at (length W.units) (Waiting m)) (put_all-append S.place (waiting_moves m (S.object_next m) ws) (to_tray W S s us))
      ∙ (line-stays (length W.units) (Waiting m) arrived (to_tray W S s us) (none-to_tray W S s (Waiting m) us tt)
      (tray_moves-each (λ p. ticket_in (Waiting m) (arrived p.0) ≡ None) (λ v. ticket_in (Waiting m) (arrived v) ≡ None) s (tray_end W S s) us (λ v t e. e) us-elsewhere)
      ∙ (ap (λ ms. line_at (length W.units) (Waiting m) (put_all S.place ms)) (line_moves-waiting m (S.object_next m) ws)
      ∙ line-gets_all (length W.units) (Waiting m) (same-self m) ws (S.object_next m) S.place (distinct-prefix ws left (distinct-suffix us (ws ++ left) all-distinct)) ws-new (waiting-below W Z S m acts.sound))))
      ∙ (map-append (owned_at (changed S passing)) (standing W S (Waiting m)) ws
      ∙ (λ i. same-carried (standing W S (Waiting m)) (away-line W S s (Waiting m) tt) i ++ same-carried ws ws-away i))

  -- The line of any other object.

  pub passing-others : (y : ℕ) → y ≢ m → y ≢ x → waiters_at W (changed S passing) y ≡ waiters_at W S y
  passing-others y off other =
      line-same W Z S s u acts (Waiting y) tt moves (advanced (S.carried u)) c
      (EachOf-append (λ (p : ℕ × Place). ticket_in (Waiting y) p.1 ≡ None) (waiting_moves m (S.object_next m) ws) (to_tray W S s us)
      (waiting_moves-places (λ pl. ticket_in (Waiting y) pl ≡ None) m (S.object_next m) ws (λ t. waits-elsewhere y m t off)) (none-to_tray W S s (Waiting y) us tt))
      (EachOf-append (λ (p : ℕ × Place). ticket_in (Waiting y) (S.place p.0) ≡ None) (waiting_moves m (S.object_next m) ws) (to_tray W S s us)
      (waiting_moves-each (λ p. ticket_in (Waiting y) (S.place p.0) ≡ None) (λ v. ticket_in (Waiting y) (S.place v) ≡ None) m (S.object_next m) ws (λ v t b e. e)
      (EachOf-prefix _ ws left (EachOf-suffix _ us (ws ++ left) (none-at y other))))
      (tray_moves-each (λ p. ticket_in (Waiting y) (S.place p.0) ≡ None) (λ v. ticket_in (Waiting y) (S.place v) ≡ None) s (tray_end W S s) us (λ v t e. e) (EachOf-prefix _ us (ws ++ left) (none-at y other))))
