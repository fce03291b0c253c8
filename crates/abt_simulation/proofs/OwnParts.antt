-- A stream's own part after a step. Unit u, in the hand of stream s, makes the step; its tray and Next are empty.
use Rattle.std.proofs.Common.{◌≡◌, ◌≢◌, ℕ, ◌<◌, List, [], ◌∷◌, ◌++◌, length, map, Option, Some, None, refl, sym, ◌∙◌, ap, subst, ◌⊎◌, inl, inr}
use Rattle.std.specs.Prelude.{filter}
use Rattle.std.proofs.lemmas.Bool.{cond-false}
use Rattle.abt_machine.specs.declared.events.Place.{Place}
use Rattle.abt_machine.specs.declared.events.Place.TheVariants as place
use Rattle.abt_machine.specs.Stored.{Stored}
use Rattle.abt_machine.specs.declared.workload.Parts.{Parts}
use Rattle.abt_machine.specs.Numbers.{stream_no}
use Rattle.abt_machine.specs.Maps.{put_all}
use Rattle.abt_machine.specs.Queues.{first, first_alone}
use Rattle.abt_machine.specs.State.{State, Carried}
use Rattle.abt_machine.specs.Lines.{Line, InPool, InTray, InHand, InNext, InFrames, Joining, Waiting, ticket_in, standing, tray_end}
use Rattle.abt_machine.specs.Changes.{Change, changed, to_tray}
use Rattle.abt_machine.specs.Values.{owned_at, part_of}
use Rattle.abt_machine.specs.Plans.{keeps, empties}
use Rattle.abt_machine.specs.Turns.{stepped}
use Rattle.abt_laws.proofs.Lists.{EachOf, EachOf-then, EachOf-append, EachOf-first_alone, Among}
use Rattle.abt_laws.proofs.Maps.{KeyOf}
use Rattle.abt_laws.proofs.Options.{none≢some, some-injective}
use Rattle.abt_laws.proofs.Queues.{queue-among}
use Rattle.abt_laws.proofs.Places.{place_in, same-self, line_of, line_of-place_in, line_of-ticket, ticket_at, ticket_in-place_in}
use Rattle.abt_laws.proofs.Arrivals.{IsEmpty, IsBelow-empty}
use Rattle.abt_laws.proofs.LineMoves.{line_moves-tray, tray_moves-each, tray_moves-places}
use Rattle.abt_laws.proofs.Standing.{StandsIn, each-stands}
use Rattle.abt_laws.proofs.Pushes.{IsDistinct, EachOf-among, queue-distinct}
use Rattle.abt_laws.proofs.LinesAfter.{line_at, stays, stays-key, NoneTo, NoneFrom, line-left, line-stays, line-empty, line-gets_all, empty-after_moves, put_all-append}
use Rattle.abt_simulation.proofs.Acting.{IsActing}
use Rattle.abt_simulation.proofs.OwnedLines.{owned-stays}

-- Lines of a stream, and lines of an object.

-- a line of stream s
abbrev pub IsOwn : ℕ → Line → Type 0
IsOwn s (InTray r) = r ≡ s
IsOwn s (InHand r) = r ≡ s
IsOwn s (InNext r) = r ≡ s
IsOwn s (InFrames r) = r ≡ s
IsOwn s _ = ⊥

-- a line that an object keeps
abbrev pub IsObjects : Line → Type 0
IsObjects (InPool p) = Unit {0}
IsObjects (Joining v) = Unit {0}
IsObjects (Waiting x) = Unit {0}
IsObjects _ = ⊥

-- a place in no line of stream s
abbrev pub IsOff : ℕ → Place → Type 0
IsOff s pl = (l : Line) → IsOwn s l → ticket_in l pl ≡ None

-- no line is both
own-or-objects : (s : ℕ) (l : Line) → IsOwn s l → IsObjects l → ⊥
own-or-objects s (InPool p) own objects = own
own-or-objects s (Joining v) own objects = own
own-or-objects s (Waiting x) own objects = own
own-or-objects s (InTray r) own objects = objects
own-or-objects s (InHand r) own objects = objects
own-or-objects s (InNext r) own objects = objects
own-or-objects s (InFrames r) own objects = objects

-- a place is in no other line than its own
no-ticket : (l : Line) (pl : Place) → (line_of pl ≡ Some l → ⊥) → ticket_in l pl ≡ None
no-ticket l pl other = by (ticket_in l pl) refl where
  by : (o : Option ℕ) → ticket_in l pl ≡ o → ticket_in l pl ≡ None
  by None e = e
  by (Some t) e = absurd (other (line_of-ticket l pl t e))

-- a place in no line has no ticket
pub nowhere-ticket : (l : Line) (pl : Place) → line_of pl ≡ None → ticket_in l pl ≡ None
nowhere-ticket l pl nowhere = no-ticket l pl (λ e. none≢some (sym nowhere ∙ e))

-- a place in an object's line
pub off-object : (s : ℕ) (l : Line) (t : ℕ) → IsObjects l → IsOff s (place_in l t)
off-object s l t objects m own =
    no-ticket m (place_in l t) (λ e. let same : l ≡ m = some-injective (sym (line_of-place_in l t) ∙ e) in own-or-objects s m own (subst IsObjects same objects))

-- a place in no line
pub off-nowhere : (s : ℕ) (pl : Place) → line_of pl ≡ None → IsOff s pl
off-nowhere s pl nowhere m own = nowhere-ticket m pl nowhere

-- a place of a stream is in no object's line
pub hand-elsewhere : (s : ℕ) (l : Line) → IsObjects l → ticket_in l (place.Hand (stream_no s)) ≡ None
hand-elsewhere s l objects = no-ticket l (place.Hand (stream_no s)) (λ e. let same : InHand s ≡ l = some-injective e in subst (λ m. IsObjects m → ⊥) same (λ h. h) objects)

-- nor is a tray
pub tray-elsewhere : (s t : ℕ) (l : Line) → IsObjects l → ticket_in l (place.Tray (stream_no s) t) ≡ None
tray-elsewhere s t l objects = no-ticket l (place.Tray (stream_no s) t) (λ e. let same : InTray s ≡ l = some-injective e in subst (λ m. IsObjects m → ⊥) same (λ h. h) objects)

-- Units that stream s does not hold.

-- a declared unit in no line of stream s
pub record IsAway (W : Parts) (S : State) (s v : ℕ) : Type 0 where
  pub declared : v < length W.units
  pub off : IsOff s (S.place v)

-- so are all that stand in an object's line
pub away-line : (W : Parts) (S : State) (s : ℕ) (l : Line) → IsObjects l → EachOf (IsAway W S s) (standing W S l)
away-line W S s l objects =
    EachOf-then (StandsIn W S l) (IsAway W S s) (standing W S l) (λ v h. record { declared = h.declared; off = subst (IsOff s) (sym h.at) (off-object s l h.ticket objects) }) (each-stands W S l)

-- so is the first of them
pub away-first : (W : Parts) (S : State) (s : ℕ) (l : Line) → IsObjects l → EachOf (IsAway W S s) (first_alone (standing W S l))
away-first W S s l objects = EachOf-first_alone (IsAway W S s) (standing W S l) (away-line W S s l objects)

-- nobody stands twice in a line
pub standing-distinct : (W : Parts) (S : State) (l : Line) → IsDistinct (standing W S l)
standing-distinct W S l = queue-distinct (λ v. ticket_in l (S.place v)) (length W.units)

-- one alone is not twice there
pub distinct-first : (us : List ℕ) → IsDistinct us → IsDistinct (first_alone us)
distinct-first [] d = tt
distinct-first (u ∷ us) d = ((λ m. m), tt)

-- A hand or a Next holds one unit.

-- who stands in such a line stands there alone
pub alone-standing : (W : Parts) (S : State) (l : Line) (u : ℕ) → ((k v t : ℕ) → ticket_in l (S.place k) ≡ Some t → ticket_in l (S.place v) ≡ Some t → k ≡ v) → ((t : ℕ) → place_in l t ≡ place_in l 0) →
    u < length W.units → S.place u ≡ place_in l 0 → standing W S l ≡ u ∷ []
alone-standing W S l u one same declared at = by (standing W S l) (each-stands W S l) (standing-distinct W S l) (queue-among (λ v. ticket_in l (S.place v)) (length W.units) u (ticket_at l 0) declared (ticket-here u at ∙ ticket_in-place_in l 0)) where
  ticket-here : (v : ℕ) → S.place v ≡ place_in l 0 → ticket_in l (S.place v) ≡ ticket_in l (place_in l 0)
  ticket-here v e = ap (ticket_in l) e

  is-u : (v : ℕ) → StandsIn W S l v → v ≡ u
  is-u v h = one v u _ (ticket-here v (h.at ∙ same h.ticket) ∙ ticket_in-place_in l 0) (ticket-here u at ∙ ticket_in-place_in l 0)

  by : (us : List ℕ) → EachOf (StandsIn W S l) us → IsDistinct us → Among u us → us ≡ u ∷ []
  by [] each d m = absurd m
  by (v ∷ []) each d m = ap (λ n. n ∷ []) (is-u v each.0)
  by (v ∷ w ∷ ws) each d m = absurd (d.0 (inl (is-u v each.0 ∙ sym (is-u w each.1.0))))

-- c, with these moves and what these units carry, and no stream's own state changed
abbrev pub moving : List (ℕ × Place) → List (ℕ × Carried) → Change → Change
moving ms cs c = record c { moves = ms; carried = cs; streams = [] }

-- The lines of s after moves of some units, and then of others to its tray.

module _ (W : Parts) (Z : Stored) (S : State) (s u : ℕ) (acts : IsActing W Z S s u) where
  -- u alone is in the hand
  pub hand-standing : standing W S (InHand s) ≡ u ∷ []
  hand-standing = alone-standing W S (InHand s) u (λ k v t. acts.sound.one_each (InHand s) k v t) (λ t. refl) acts.declared acts.in_hand

  -- nobody is on the tray
  pub tray-standing : standing W S (InTray s) ≡ []
  tray-standing = line-empty (length W.units) (InTray s) S.place acts.no_tray

  -- nobody is in Next
  pub next-standing : standing W S (InNext s) ≡ []
  next-standing = line-empty (length W.units) (InNext s) S.place acts.no_next

  -- u stands in no line but the hand
  pub hand-only : (l : Line) → ticket_in l (place.Hand (stream_no s)) ≡ None → ticket_in l (S.place u) ≡ None
  hand-only l e = ap (ticket_in l) acts.in_hand ∙ e

  -- u in its hand is no unit that s does not hold
  pub away-other : (v : ℕ) → IsOff s (S.place v) → v ≢ u
  away-other v off e = none≢some (sym (off (InHand s) refl) ∙ (ap (λ n. ticket_in (InHand s) (S.place n)) e ∙ (ap (ticket_in (InHand s)) acts.in_hand ∙ same-self s 0)))

  -- a unit that s does not hold or holds in its hand
  abbrev pub IsLoose : ℕ → Type 0
  IsLoose v = (v ≡ u) ⊎ IsOff s (S.place v)

  -- such a unit is in no frame
  pub loose-unframed : (v : ℕ) → IsLoose v → ticket_in (InFrames s) (S.place v) ≡ None
  loose-unframed v loose = elim loose [ inl e ↦ ap (λ n. ticket_in (InFrames s) (S.place n)) e ∙ hand-only (InFrames s) refl | inr off ↦ off (InFrames s) refl ]

  -- the tray holds those who come to it
  pub tray-filled : (pre : List (ℕ × Place)) (us : List ℕ) → NoneTo (InTray s) pre → IsDistinct us → EachOf (λ v. v < length W.units) us → line_at (length W.units) (InTray s) (put_all S.place (pre ++ to_tray W S s us)) ≡ us
  tray-filled pre us to distinct declared =
      let g : ℕ → Place = put_all S.place pre in
      let empty : IsEmpty (InTray s) g = empty-after_moves (InTray s) S.place pre to acts.no_tray in
      ap (line_at (length W.units) (InTray s)) (put_all-append S.place pre (to_tray W S s us) ∙ ap (put_all g) (line_moves-tray s (tray_end W S s) us))
      ∙ (line-gets_all (length W.units) (InTray s) (same-self s) us (tray_end W S s) g distinct
      (λ v m. (EachOf-among (λ v. v < length W.units) us v declared m, nobody (ticket_in (InTray s) (g v)) v refl empty))
      (IsBelow-empty (InTray s) (tray_end W S s) g empty)
      ∙ ap (λ vs. vs ++ us) (line-empty (length W.units) (InTray s) g empty)) where
        nobody : (o : Option ℕ) (v : ℕ) → ticket_in (InTray s) (put_all S.place pre v) ≡ o → IsEmpty (InTray s) (put_all S.place pre) → ticket_in (InTray s) (put_all S.place pre v) ≡ None
        nobody None v e empty = e
        nobody (Some t) v e empty = absurd (empty v t e)

  -- the moves of a step: some to places of no line of s, and then some to its tray
  module _ (pre : List (ℕ × Place)) (us : List ℕ) (to : EachOf (λ (m : ℕ × Place). IsOff s m.1) pre) where
    -- nobody comes to another line of s
    to-none : (l : Line) → IsOwn s l → ((t : ℕ) → ticket_in l (place.Tray (stream_no s) t) ≡ None) → NoneTo l (pre ++ to_tray W S s us)
    to-none l own none =
        EachOf-append (λ (m : ℕ × Place). ticket_in l m.1 ≡ None) pre (to_tray W S s us)
        (EachOf-then (λ (m : ℕ × Place). IsOff s m.1) (λ (m : ℕ × Place). ticket_in l m.1 ≡ None) pre (λ m off. off l own) to)
        (tray_moves-places (λ pl. ticket_in l pl ≡ None) s (tray_end W S s) us none)

    -- the part of s, by who is then in its hand
    module _ (cs : List (ℕ × Carried)) (c : Change) (distinct : IsDistinct us) (declared : EachOf (λ v. v < length W.units) us) (from : EachOf (λ (m : ℕ × Place). IsLoose m.0) pre) (loose : EachOf IsLoose us) (keys : EachOf (λ (m : ℕ × Carried). IsLoose m.0) cs) where
      -- nothing but the tray and perhaps the hand is other than before
      part-by_hand : (hs : List ℕ) → let T : State = changed S (moving (pre ++ to_tray W S s us) cs c) in
          standing W T (InHand s) ≡ hs → part_of W T s ≡ stepped (part_of W S s) (record (empties (map (owned_at T) us)) { hand = first (map (owned_at T) hs) })
      part-by_hand hs hands =
          let d : Change = moving (pre ++ to_tray W S s us) cs c in
          let T : State = changed S d in
          let unframed : NoneFrom (InFrames s) S.place (pre ++ to_tray W S s us) =
          EachOf-append (λ (m : ℕ × Place). ticket_in (InFrames s) (S.place m.0) ≡ None) pre (to_tray W S s us)
          (EachOf-then (λ (m : ℕ × Place). IsLoose m.0) (λ (m : ℕ × Place). ticket_in (InFrames s) (S.place m.0) ≡ None) pre (λ m l. loose-unframed m.0 l) from)
          (tray_moves-each (λ m. ticket_in (InFrames s) (S.place m.0) ≡ None) IsLoose s (tray_end W S s) us (λ v t l. loose-unframed v l) loose) in
          λ i. record {
            own = S.stream s;
            hand = ap (λ vs. first (map (owned_at T) vs)) hands i;
            next = ap (λ vs. first (map (owned_at T) vs)) (line-empty (length W.units) (InNext s) T.place (empty-after_moves (InNext s) S.place d.moves (to-none (InNext s) refl (λ t. refl)) acts.no_next)) i;
            tray = (ap (map (owned_at T)) (tray-filled pre us (EachOf-then (λ (m : ℕ × Place). IsOff s m.1) (λ (m : ℕ × Place). ticket_in (InTray s) m.1 ≡ None) pre (λ m off. off (InTray s) refl) to) distinct declared) ∙ ap (λ vs. map (owned_at S) vs ++ map (owned_at T) us) (sym tray-standing)) i;
            framed = owned-stays W S d (InFrames s) (to-none (InFrames s) refl (λ t. refl)) unframed (EachOf-then (λ (m : ℕ × Carried). IsLoose m.0) (λ (m : ℕ × Carried). ticket_in (InFrames s) (S.place m.0) ≡ None) cs (λ m l. loose-unframed m.0 l) keys) i;
          }

  -- units that s does not hold are not in its hand
  off-others : {A : Type 0} (ms : List (ℕ × A)) → EachOf (λ m. IsOff s (S.place m.0)) ms → NoneFrom (InHand s) S.place ms
  off-others ms off = EachOf-then (λ m. IsOff s (S.place m.0)) (λ m. ticket_in (InHand s) (S.place m.0) ≡ None) ms (λ m o. o (InHand s) refl) off

  -- they are declared
  pub away-declared : (us : List ℕ) → EachOf (IsAway W S s) us → EachOf (λ v. v < length W.units) us
  away-declared us away = EachOf-then (IsAway W S s) (λ v. v < length W.units) us (λ v a. a.declared) away

  -- they are loose
  pub away-loose : (us : List ℕ) → EachOf (IsAway W S s) us → EachOf IsLoose us
  away-loose us away = EachOf-then (IsAway W S s) IsLoose us (λ v a. inr a.off) away

  -- u stays in the hand, others that s does not hold move elsewhere, and these go to the tray
  pub part-keeps : (pre : List (ℕ × Place)) (us : List ℕ) (cs : List (ℕ × Carried)) (c : Change) → let T : State = changed S (moving (pre ++ to_tray W S s us) cs c) in
      EachOf (λ (m : ℕ × Place). IsOff s (S.place m.0) × IsOff s m.1) pre → IsDistinct us → EachOf (IsAway W S s) us → EachOf (λ (m : ℕ × Carried). IsLoose m.0) cs →
      part_of W T s ≡ stepped (part_of W S s) (keeps (owned_at T u) (map (owned_at T) us))
  part-keeps pre us cs c moved distinct away keys =
      let to : EachOf (λ (m : ℕ × Place). IsOff s m.1) pre = EachOf-then (λ (m : ℕ × Place). IsOff s (S.place m.0) × IsOff s m.1) (λ (m : ℕ × Place). IsOff s m.1) pre (λ m o. o.1) moved in
      let from : EachOf (λ (m : ℕ × Place). IsOff s (S.place m.0)) pre = EachOf-then (λ (m : ℕ × Place). IsOff s (S.place m.0) × IsOff s m.1) (λ (m : ℕ × Place). IsOff s (S.place m.0)) pre (λ m o. o.0) moved in
      let out : NoneFrom (InHand s) S.place (pre ++ to_tray W S s us) =
      EachOf-append (λ (m : ℕ × Place). ticket_in (InHand s) (S.place m.0) ≡ None) pre (to_tray W S s us) (off-others pre from)
      (tray_moves-each (λ m. ticket_in (InHand s) (S.place m.0) ≡ None) (IsAway W S s) s (tray_end W S s) us (λ v t a. a.off (InHand s) refl) away) in
      part-by_hand pre us to cs c distinct (away-declared us away) (EachOf-then (λ (m : ℕ × Place). IsOff s (S.place m.0)) (λ (m : ℕ × Place). IsLoose m.0) pre (λ m o. inr o) from) (away-loose us away) keys (u ∷ [])
      (line-stays (length W.units) (InHand s) S.place (pre ++ to_tray W S s us) (to-none pre us to (InHand s) refl (λ t. refl)) out ∙ hand-standing)

  -- u leaves the hand, and these go to the tray
  pub part-empties : (pre : List (ℕ × Place)) (us : List ℕ) (cs : List (ℕ × Carried)) (c : Change) → let T : State = changed S (moving (pre ++ to_tray W S s us) cs c) in
      EachOf (λ (m : ℕ × Place). IsLoose m.0 × IsOff s m.1) pre → IsDistinct us → EachOf (λ v. v < length W.units) us → EachOf IsLoose us → EachOf (λ (m : ℕ × Carried). IsLoose m.0) cs → KeyOf u (pre ++ to_tray W S s us) →
      part_of W T s ≡ stepped (part_of W S s) (empties (map (owned_at T) us))
  part-empties pre us cs c moved distinct declared loose keys goes =
      let to : EachOf (λ (m : ℕ × Place). IsOff s m.1) pre = EachOf-then (λ (m : ℕ × Place). IsLoose m.0 × IsOff s m.1) (λ (m : ℕ × Place). IsOff s m.1) pre (λ m o. o.1) moved in
      part-by_hand pre us to cs c distinct declared (EachOf-then (λ (m : ℕ × Place). IsLoose m.0 × IsOff s m.1) (λ (m : ℕ × Place). IsLoose m.0) pre (λ m o. o.0) moved) loose keys []
      (line-left (length W.units) (InHand s) S.place (pre ++ to_tray W S s us) (to-none pre us to (InHand s) refl (λ t. refl))
      ∙ (ap (filter (stays (pre ++ to_tray W S s us))) hand-standing ∙ cond-false (stays (pre ++ to_tray W S s us) u) _ _ (stays-key (pre ++ to_tray W S s us) u goes)))
