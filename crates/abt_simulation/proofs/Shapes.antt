-- What most steps do: the unit in hand goes on, and perhaps wakes others; or it leaves the hand for an object's line, and perhaps wakes others. Unit u, in the hand of stream s, makes the step.
use Rattle.std.proofs.Common.{◌≡◌, ◌≢◌, ℕ, suc, List, [], ◌∷◌, ◌++◌, length, map, Some, None, refl, ◌∙◌, ap, subst, inl}
use Rattle.abt_machine.specs.declared.events.Place.{Place}
use Rattle.abt_machine.specs.Stored.{Stored}
use Rattle.abt_machine.specs.declared.workload.Parts.{Parts}
use Rattle.abt_machine.specs.Maps.{put_at, put_all}
use Rattle.abt_machine.specs.Queues.{first_alone}
use Rattle.abt_machine.specs.State.{State, Carried}
use Rattle.abt_machine.specs.Lines.{Line, ticket_in, standing, tray_end}
use Rattle.abt_machine.specs.Changes.{Change, changed, to_tray, tray_moves}
use Rattle.abt_machine.specs.Monitors.{rest}
use Rattle.abt_machine.specs.Values.{Owned, owned_at, owned_in, part_of}
use Rattle.abt_machine.specs.Plans.{keeps, empties}
use Rattle.abt_machine.specs.Turns.{stepped}
use Rattle.abt_laws.proofs.Lists.{EachOf, EachOf-then}
use Rattle.abt_laws.proofs.Maps.{KeyOf, put_at-same, put_at-other}
use Rattle.abt_laws.proofs.Places.{place_in}
use Rattle.abt_laws.proofs.Arrivals.{IsBelow}
use Rattle.abt_laws.proofs.LineMoves.{tray_moves-among, tray_moves-places, tray_moves-key}
use Rattle.abt_laws.proofs.Prefixes.{EachOf-suffix}
use Rattle.abt_laws.proofs.Pushes.{IsDistinct, each-among}
use Rattle.abt_laws.proofs.LinesAfter.{line_at, line-behind, NoneTo, NoneFrom, line-stays, put_all-append}
use Rattle.abt_simulation.proofs.Acting.{IsActing}
use Rattle.abt_simulation.proofs.OwnedLines.{owned-same, carried-stays, owned-stays, owned-emptied, owned-joined}
use Rattle.abt_simulation.proofs.OwnParts.{IsObjects, IsOff, IsAway, hand-elsewhere, tray-elsewhere, moving, part-keeps, part-empties, away-other, away-declared, away-loose, hand-only}

-- all numbers but the first
abbrev pub others : List ℕ → List ℕ
others [] = []
others (u ∷ us) = us

-- all units but the first
pub owned-others : (S : State) (us : List ℕ) → map (owned_at S) (others us) ≡ rest (map (owned_at S) us)
owned-others S [] = refl
owned-others S (u ∷ us) = refl

-- unit u with this to carry
abbrev pub owned : ℕ → Carried → Owned
owned u k = record { number = u; carried = k }

-- no line of an object is in a tray
pub none-to_tray : (W : Parts) (S : State) (s : ℕ) (l : Line) (us : List ℕ) → IsObjects l → NoneTo l (to_tray W S s us)
none-to_tray W S s l us objects = tray_moves-places (λ pl. ticket_in l pl ≡ None) s (tray_end W S s) us (λ t. tray-elsewhere s t l objects)

-- the first and the others
pub first-and-others : (us : List ℕ) → us ≡ first_alone us ++ others us
first-and-others [] = refl
first-and-others (u ∷ us) = refl

module _ (W : Parts) (Z : Stored) (S : State) (s u : ℕ) (acts : IsActing W Z S s u) where
  -- who is away carries the same if only u's own changes
  away-same : (k : Carried) (us : List ℕ) → EachOf (IsAway W S s) us → EachOf (λ v. put_at S.carried u k v ≡ S.carried v) us
  away-same k us away = EachOf-then (IsAway W S s) (λ v. put_at S.carried u k v ≡ S.carried v) us (λ v a. put_at-other S.carried u k v (away-other W Z S s u acts v a.off)) away

  -- u goes on with this to carry, and wakes units that are away
  pub wakes-part : (us : List ℕ) (k : Carried) (c : Change) → IsDistinct us → EachOf (IsAway W S s) us →
      part_of W (changed S (moving (to_tray W S s us) ((u, k) ∷ []) c)) s ≡ stepped (part_of W S s) (keeps (owned u k) (map (owned_at S) us))
  wakes-part us k c distinct away =
      let T : State = changed S (moving (to_tray W S s us) ((u, k) ∷ []) c) in
      part-keeps W Z S s u acts [] us ((u, k) ∷ []) c tt distinct away (inl refl, tt)
      ∙ (λ i. stepped (part_of W S s) (keeps (owned u (put_at-same S.carried u k i)) (owned-same S T us (away-same k us away) i)))

  -- u goes on with this to carry
  pub goes-part : (k : Carried) (c : Change) → part_of W (changed S (moving [] ((u, k) ∷ []) c)) s ≡ stepped (part_of W S s) (keeps (owned u k) [])
  goes-part k c = wakes-part [] k c tt tt

  -- u leaves the hand for a place in no line of s, and wakes units that are away
  pub blocks-part : (pl : Place) (us : List ℕ) (k : Carried) (c : Change) → IsOff s pl → IsDistinct us → EachOf (IsAway W S s) us →
      part_of W (changed S (moving ((u, pl) ∷ to_tray W S s us) ((u, k) ∷ []) c)) s ≡ stepped (part_of W S s) (empties (map (owned_at S) us))
  blocks-part pl us k c off distinct away =
      let T : State = changed S (moving ((u, pl) ∷ to_tray W S s us) ((u, k) ∷ []) c) in
      part-empties W Z S s u acts ((u, pl) ∷ []) us ((u, k) ∷ []) c ((inl refl, off), tt) distinct (away-declared W Z S s u acts us away) (away-loose W Z S s u acts us away) (inl refl, tt) (inl refl)
      ∙ ap (λ os. stepped (part_of W S s) (empties os)) (owned-same S T us (away-same k us away))

  -- Lines of objects.

  module _ (l : Line) (objects : IsObjects l) where
    -- u does not stand in the line
    not-in : ticket_in l (S.place u) ≡ None
    not-in = hand-only W Z S s u acts l (hand-elsewhere s l objects)

    -- u is at the end of the line, with this to carry, and others of other lines are woken
    pub line-joined : (t : ℕ) (us : List ℕ) (k : Carried) (c : Change) → ((j : ℕ) → ticket_in l (place_in l j) ≡ Some j) → IsBelow l t S.place → EachOf (λ v. (v ≢ u) × (ticket_in l (S.place v) ≡ None)) us →
        owned_in W (changed S (moving ((u, place_in l t) ∷ to_tray W S s us) ((u, k) ∷ []) c)) l ≡ owned_in W S l ++ owned u k ∷ []
    line-joined t us k c has below elsewhere =
        owned-joined W S l u t (to_tray W S s us) (record c { carried = (u, k) ∷ []; streams = [] }) has acts.declared not-in below (none-to_tray W S s l us objects) (from us (tray_end W S s) elsewhere) (not-in, tt)
        ∙ ap (λ (q : Carried). owned_in W S l ++ owned u q ∷ []) (put_at-same S.carried u k) where
          from : (us : List ℕ) (i : ℕ) → EachOf (λ v. (v ≢ u) × (ticket_in l (S.place v) ≡ None)) us → NoneFrom l (put_at S.place u (place_in l t)) (tray_moves s i us)
          from [] i a = tt
          from (v ∷ vs) i a = (ap (ticket_in l) (put_at-other S.place u (place_in l t) v a.0.0) ∙ a.0.1, from vs (suc i) a.1)

    -- nobody of the line is woken, and u changes
    pub line-same : (ms : List (ℕ × Place)) (k : Carried) (c : Change) → NoneTo l ms → NoneFrom l S.place ms → owned_in W (changed S (moving ms ((u, k) ∷ []) c)) l ≡ owned_in W S l
    line-same ms k c to from = owned-stays W S (moving ms ((u, k) ∷ []) c) l to from (not-in, tt)

    -- all of the line are woken
    pub line-woken : (cs : List (ℕ × Carried)) (c : Change) → owned_in W (changed S (moving (to_tray W S s (standing W S l)) cs c)) l ≡ []
    line-woken cs c =
        owned-emptied W S (moving (to_tray W S s (standing W S l)) cs c) l (none-to_tray W S s l (standing W S l) objects)
        (each-among (λ v. KeyOf v (to_tray W S s (standing W S l))) (standing W S l) (λ v m. tray_moves-key s (tray_end W S s) (standing W S l) v m))

    -- a prefix of the line is woken, and before that nobody of the line moves
    pub line-prefix_woken : (us left : List ℕ) → standing W S l ≡ us ++ left → (pre : List (ℕ × Place)) (k : Carried) (c : Change) → NoneTo l pre → NoneFrom l S.place pre →
        owned_in W (changed S (moving (pre ++ to_tray W S s us) ((u, k) ∷ []) c)) l ≡ map (owned_at S) left
    line-prefix_woken us left split pre k c to from =
        let d : Change = moving (pre ++ to_tray W S s us) ((u, k) ∷ []) c in
        ap (map (owned_at (changed S d)))
        (ap (line_at (length W.units) l) (put_all-append S.place pre (to_tray W S s us))
        ∙ line-behind (length W.units) l (put_all S.place pre) (to_tray W S s us) us left (none-to_tray W S s l us objects) (line-stays (length W.units) l S.place pre to from ∙ split)
        (tray_moves-key s (tray_end W S s) us) (tray_moves-among s (tray_end W S s) us))
        ∙ owned-same S (changed S d) left (EachOf-suffix _ us left (subst (EachOf (λ v. (changed S d).carried v ≡ S.carried v)) split (carried-stays W S d l (not-in, tt))))

    -- the first of the line is woken, and before that nobody of the line moves
    pub line-first_woken : (pre : List (ℕ × Place)) (k : Carried) (c : Change) → NoneTo l pre → NoneFrom l S.place pre →
        owned_in W (changed S (moving (pre ++ to_tray W S s (first_alone (standing W S l))) ((u, k) ∷ []) c)) l ≡ rest (owned_in W S l)
    line-first_woken pre k c to from =
        line-prefix_woken (first_alone (standing W S l)) (others (standing W S l)) (first-and-others (standing W S l)) pre k c to from ∙ owned-others S (standing W S l)
