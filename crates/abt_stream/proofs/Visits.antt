-- From the visit of a pool, and from leaving a frame, to the turn.
use Rattle.std.proofs.Common.{◌≡◌, ◌≢◌, ◌<◌, ◌≤◌, ◌-◌, ◌++◌, if◌then◌else◌, ℕ, zero, suc, Bool, true, false, List, [], ◌∷◌, Option, None, Some, option_map, inl, inr, ◌⊎◌, length, map, reverse, take, drop, slice_get, refl, sym, ap, ◌∙◌, subst, arith}
use Rattle.std.proofs.lemmas.Bool.{eq-eqb, ne_eqb}
use Rattle.std.proofs.lemmas.List.{length-map, map-append, reverse-reverse, take-append-drop}
use Rattle.std.proofs.lemmas.List.Sorted.{length_permutation}
use Rattle.abt_machine.specs.declared.events.Site.{Site}
use Rattle.abt_machine.specs.declared.events.Site.TheVariants as site
use Rattle.abt_machine.specs.declared.events.What.TheVariants as what
use Rattle.abt_machine.specs.declared.numbers.PoolNo.{PoolNo}
use Rattle.abt_machine.specs.Stored.{Stored}
use Rattle.abt_machine.specs.declared.workload.Parts.{Parts}
use Rattle.abt_machine.specs.Acts.{Act, Answer}
use Rattle.abt_machine.specs.Acts as act
use Rattle.abt_machine.specs.Frames.{frame_at, left, round_missed}
use Rattle.abt_machine.specs.Next.{Due, LeaveDue, LookDue, PutDue, RoundDue, StepDue, due_by, due_of_frames}
use Rattle.abt_machine.specs.Numbers.{unit_no}
use Rattle.abt_machine.specs.Rounds.{IsOrder}
use Rattle.abt_machine.specs.State.{Frame, Stream}
use Rattle.abt_machine.specs.Fronts.{side_of}
use Rattle.abt_machine.specs.Turns.{due_of, number_and_position}
use Rattle.abt_machine.specs.Values.{Held, Owned}
use Rattle.abt_machine.specs.Workloads.{pools_of}
use Rattle.abt_order.specs.Schedulers.{pool_numbers}
use Rattle.abt_commons.specs.Replies.{Told, Done}
use Rattle.abt_stream.specs.declared.turns.Turn.{Turn}
use Rattle.abt_stream.specs.declared.turns.Turn.TheVariants as turn
use Rattle.abt_machine.specs.declared.operations.Side.{Side}
use Rattle.abt_stream.specs.Answers.{IsHeldOrder, IsNextAnswered, frames_of}
use Rattle.abt_stream.specs.Events.{LeaveBy, VisitBy, VisitedBy, emptied, leaving, passed, took, with_top}
use Rattle.abt_stream.specs.Keeping.{KeepsStream}
use Rattle.abt_stream.specs.Streams.{FitsShapes, FitsStream, FrameValue, StreamValue, resting, seeing}
use Rattle.abt_stream.proofs.Kept.{keeps-emptied, keeps-left, keeps-passed, keeps-same, keeps-took}
use Rattle.abt_stream.proofs.Turning.{made}
use Rattle.abt_stream.specs.Turned.{MissesLast, Turned}
use Rattle.abt_stream.proofs.Stacks.{seen_more, some-order}

-- What is due.

pub put-due : (W : Parts) (s : ℕ) (held : Held) (tray : List Owned) → held.tray ≡ tray → tray ≢ [] → due_of W s held ≡ PutDue
put-due W s held [] is some = absurd (some refl)
put-due W s held (o ∷ os) is some =
    ap (λ (l : List Owned). due_by {X = Owned} {Y = Owned} W s held.own l held.next (option_map number_and_position held.hand)) is

pub look-due : (W : Parts) (s : ℕ) (held : Held) (o : Owned) → held.tray ≡ [] → held.next ≡ Some o → due_of W s held ≡ LookDue
look-due W s held o tray next =
    ap (λ (l : List Owned). due_by {X = Owned} {Y = Owned} W s held.own l held.next (option_map number_and_position held.hand)) tray ∙
    ap (λ (n : Option Owned). due_by {X = Owned} {Y = Owned} W s held.own [] n (option_map number_and_position held.hand)) next

frames-due : (W : Parts) (s : ℕ) (held : Held) (d : Due) → held.tray ≡ [] → held.next ≡ None → held.hand ≡ None → due_of_frames held.own.top.empty held.own.below ≡ d → due_of W s held ≡ d
frames-due W s held d tray next hand e =
    ap (λ (l : List Owned). due_by {X = Owned} {Y = Owned} W s held.own l held.next (option_map number_and_position held.hand)) tray ∙
    (ap (λ (n : Option Owned). due_by {X = Owned} {Y = Owned} W s held.own [] n (option_map number_and_position held.hand)) next ∙
    (ap (λ (h : Option Owned). due_by {X = Owned} {Y = Owned} W s held.own [] None (option_map number_and_position h)) hand ∙ e))

some-reversed : (fs : List FrameValue) → fs ≢ [] → (gs : List FrameValue) → reverse fs ≡ gs → (ds : List Frame) → map resting gs ≡ ds → due_of_frames true ds ≡ LeaveDue
some-reversed fs some [] e ds is = absurd (some (sym (reverse-reverse fs) ∙ ap reverse e))
some-reversed fs some (g ∷ gs) e ds is = ap (due_of_frames true) (sym is)

pub leave-due : (W : Parts) (s : ℕ) (held : Held) (top : FrameValue) (below : List FrameValue) → held.tray ≡ [] → held.next ≡ None → held.hand ≡ None
    → held.own.top.empty ≡ top.empty → held.own.below ≡ map resting (reverse below) → top.empty ≡ true → below ≢ [] → due_of W s held ≡ LeaveDue
leave-due W s held top below tray next hand empty under is some =
    frames-due W s held LeaveDue tray next hand
    (ap (λ (b : Bool). due_of_frames b held.own.below) (empty ∙ is) ∙ some-reversed below some (reverse below) refl held.own.below (sym under))

either : (b : Bool) → due_of_frames b [] ≡ RoundDue
either true = refl
either false = refl

pub round-due : (W : Parts) (s : ℕ) (held : Held) (top : FrameValue) (below : List FrameValue) → held.tray ≡ [] → held.next ≡ None → held.hand ≡ None
    → held.own.top.empty ≡ top.empty → held.own.below ≡ map resting (reverse below) → ((top.empty ≡ false) ⊎ (below ≡ [])) → due_of W s held ≡ RoundDue
round-due W s held top below tray next hand empty under (inl is) =
    frames-due W s held RoundDue tray next hand (ap (λ (b : Bool). due_of_frames b held.own.below) (empty ∙ is))
round-due W s held top below tray next hand empty under (inr is) =
    frames-due W s held RoundDue tray next hand
    (ap (due_of_frames held.own.top.empty) (under ∙ ap (λ (fs : List FrameValue). map resting (reverse fs)) is) ∙ either held.own.top.empty)

-- Rounds.

seen-length : (order : List PoolNo) (at : ℕ) (p : PoolNo) → slice_get order at ≡ Some p → length (pool_numbers (take at order)) ≡ at
seen-length [] at p e = cc
seen-length (q ∷ order) zero p e = refl
seen-length (q ∷ order) (suc at) p e = ap suc (seen-length order at p e)

module _ (W : Parts) (s : StreamValue) (p : PoolNo) (own : s.held.own.top ≡ seeing s.top (take s.at s.order)) (fits : FitsStream W s) (e : slice_get s.order s.at ≡ Some p) where
  seen-at : length s.held.own.top.seen ≡ s.at
  seen-at = ap (λ (f : Frame). length f.seen) own ∙ seen-length s.order s.at p e

  pools-listed : length (pools_of W s.held.own.top.sched) ≡ length s.order
  pools-listed =
      ap (λ (f : Frame). length (pools_of W f.sched)) own ∙
      (sym (length_permutation (pools_of W s.top.scheduler.number) (pool_numbers s.order) (fits.order (some-order s.order s.at p e))) ∙ length-map s.order (λ (q : PoolNo). q.0))

  ends-to : suc s.at ≡ length s.order → MissesLast W s
  ends-to h = ap suc seen-at ∙ (h ∙ sym pools-listed)

  ends-from : MissesLast W s → suc s.at ≡ length s.order
  ends-from h = ap suc (sym seen-at) ∙ (h ∙ pools-listed)

  missed-last : MissesLast W s → round_missed W p.0 s.held.own ≡ with_top (frame_at s.held.own.top.sched (suc s.held.own.top.round) true) s.held.own
  missed-last h =
      let f = s.held.own.top in
      ap (λ (b : Bool). with_top (if b then frame_at f.sched (suc f.round) true else record { sched = f.sched; round = f.round; seen = f.seen ++ p.0 ∷ []; empty = false }) s.held.own)
      (eq-eqb (length (pools_of W f.sched)) (suc (length f.seen)) (sym h))

  missed-more : (MissesLast W s → ⊥) → round_missed W p.0 s.held.own ≡ with_top (record s.held.own.top { seen = s.held.own.top.seen ++ p.0 ∷ []; empty = false }) s.held.own
  missed-more h =
      let f = s.held.own.top in
      ap (λ (b : Bool). with_top (if b then frame_at f.sched (suc f.round) true else record { sched = f.sched; round = f.round; seen = f.seen ++ p.0 ∷ []; empty = false }) s.held.own)
      (ne_eqb (length (pools_of W f.sched)) (suc (length f.seen)) (λ same. h (sym same)))

  -- the order that is held goes on with the pool
  next-pool : (Answered : ℕ → ℕ → List ℕ → Type 0) → ((s.order ≢ []) → Answered s.top.scheduler.number s.top.round (pool_numbers s.order)) → IsNextAnswered Answered s.held.own.top p.0
  next-pool Answered answered =
      let rest = pool_numbers (drop (suc s.at) s.order) in
      let front : (pool_numbers (take s.at s.order) ++ p.0 ∷ []) ++ rest ≡ pool_numbers s.order =
      ap (λ (xs : List ℕ). xs ++ rest) (sym (seen_more s.order s.at p e)) ∙
      (sym (map-append (λ (q : PoolNo). q.0) (take (suc s.at) s.order) (drop (suc s.at) s.order)) ∙ ap pool_numbers (take-append-drop (suc s.at) s.order)) in
      subst (λ (f : Frame). IsNextAnswered Answered f p.0) (sym own) (pool_numbers s.order, answered (some-order s.order s.at p e), (rest, front))

-- some units have a last one
last-one : (units : List Owned) → units ≢ [] → (o : Owned) × (os : List Owned) × (units ≡ os ++ o ∷ [])
last-one [] some = absurd (some refl)
last-one (o ∷ []) some = (o, [], refl)
last-one (o ∷ b ∷ os) some = let others : (b ∷ os) ≢ [] = λ e. cc in let h = last-one (b ∷ os) others in (h.0, o ∷ h.1, ap (λ (l : List Owned). o ∷ l) h.2)

module _ {P : Type 0} (moves : P → Site → ℕ → Act → Told → P → Type 0) (W : Parts) (old : StreamValue) (before : P) (new : StreamValue) (after : P) where
  module _ (p : PoolNo) (own : old.held.own.top ≡ seeing old.top (take old.at old.order)) (fits : FitsStream W old) (e : slice_get old.order old.at ≡ Some p)
      (due : due_of W old.number.0 old.held ≡ RoundDue) (Z : Stored) (shaped : FitsShapes W Z old) where
    visited : (answer : Answer) (t : Turn) → moves before (site.Pool p) old.clock (act.Take (side_of W old.number.0 p.0)) (Done new.clock answer) after
        → VisitedBy old p answer t new → Turned moves W Z old before t new after
    visited (act.Given o) turn.Moved went h =
        let event = what.Take p (unit_no o.number) in
        let heard = Some (site.Pool p, act.Take (side_of W old.number.0 p.0), act.Given o) in
        let later = took old o in
        (event, made moves W old before new after later.held later.top later.below later.order later.at new.clock event heard Z h (due, next-pool W old p own fits e (IsOrder W Z.orders) shaped, o, refl, refl, refl) went, tt)
    visited act.Miss turn.Moved went h =
        let more : MissesLast W old → ⊥ = λ ends. h.1 (ends-from W old p own fits e ends) in
        let heard = Some (site.Pool p, act.Take (side_of W old.number.0 p.0), act.Miss) in
        let later = passed old p in
        let own-is = ap (λ (m : Stream). record old.held { own = m }) (sym (missed-more W old p own fits e more)) in
        (what.Miss p, made moves W old before new after later.held later.top later.below later.order later.at new.clock (what.Miss p) heard Z h.0 (due, next-pool W old p own fits e (IsOrder W Z.orders) shaped, refl, own-is) went, more)
    visited act.Miss turn.EmptyRound went h =
        let ends = ends-to W old p own fits e h.1 in
        let heard = Some (site.Pool p, act.Take (side_of W old.number.0 p.0), act.Miss) in
        let later = emptied old in
        let own-is = ap (λ (m : Stream). record old.held { own = m }) (sym (missed-last W old p own fits e ends)) in
        (p, made moves W old before new after later.held later.top later.below later.order later.at new.clock (what.Miss p) heard Z h.0 (due, next-pool W old p own fits e (IsOrder W Z.orders) shaped, refl, own-is) went, ends)
    visited answer t went h = absurd h

    pub visit-turned : (t : Turn) → VisitBy moves old before p (side_of W old.number.0 p.0) t new after → Turned moves W Z old before t new after
    visit-turned t (inl worn) =
        let asked = act.Take (side_of W old.number.0 p.0) in
        let later : Held = record old.held { own = round_missed W p.0 old.held.own } in
        subst (λ (x : Turn). Turned moves W Z old before x new after) (sym worn.0)
        (worn.1.same, inr (site.Pool p, asked, (what.Miss p, act.Miss, later, (due, next-pool W old p own fits e (IsOrder W Z.orders) shaped, refl, refl)), worn.1.went), λ spent. let e : RoundDue ≡ StepDue = sym due ∙ spent.0 in cc)
    visit-turned t (inr h) = visited h.0 t h.1 h.2

  -- the frames stay
  module _ (p : PoolNo) (own : old.held.own.top ≡ seeing old.top (take old.at old.order)) (fits : FitsStream W old) (e : slice_get old.order old.at ≡ Some p) where
    visited-keeps : (answer : Answer) (t : Turn) → VisitedBy old p answer t new → KeepsStream W old new
    visited-keeps (act.Given o) turn.Moved h =
        keeps-took W old new (what.Take p (unit_no o.number)) new.clock new.rooms o (some-order old.order old.at p e) (next-pool W old p own fits e (IsHeldOrder old) (λ some. (some, refl, refl, refl))) refl h
    visited-keeps act.Miss turn.Moved h =
        let more : MissesLast W old → ⊥ = λ ends. h.1 (ends-from W old p own fits e ends) in
        keeps-passed W old new (what.Miss p) new.clock new.rooms p (next-pool W old p own fits e (IsHeldOrder old) (λ some. (some, refl, refl, refl))) (ap frames_of (sym (missed-more W old p own fits e more))) h.0
    visited-keeps act.Miss turn.EmptyRound h =
        let ends = ends-to W old p own fits e h.1 in
        keeps-emptied W old new (what.Miss p) new.clock new.rooms (some-order old.order old.at p e) (next-pool W old p own fits e (IsHeldOrder old) (λ some. (some, refl, refl, refl)))
        (ap frames_of (sym (missed-last W old p own fits e ends))) h.0
    visited-keeps answer t h = absurd h

    pub visit-keeps : (d : Side) (t : Turn) → VisitBy moves old before p d t new after → KeepsStream W old new
    visit-keeps d t (inl worn) = keeps-same W old new worn.1.same
    visit-keeps d t (inr h) = visited-keeps h.0 t h.2

  pub leave-turned : (t : Turn) → due_of W old.number.0 old.held ≡ LeaveDue → old.held.framed ≢ [] → after ≡ before → LeaveBy old t new → (Z : Stored) → Turned moves W Z old before t new after
  leave-turned turn.Moved due some stays h Z =
      let event = what.Leave (unit_no h.1.number) in
      let later = leaving old h.0 h.1 new.top new.below in
      (event, made moves W old before new after later.held later.top later.below later.order later.at (suc old.clock) event None Z h.2.same (due, h.1, h.0, h.2.framed, refl, refl, refl) (refl, stays), tt)
  leave-turned turn.Worn due some stays h Z =
      let (o, os, e) = last-one old.held.framed some in
      let later : Held = record old.held { own = left old.held.own; hand = Some o; framed = os } in
      (h.1, inl ((what.Leave (unit_no o.number), later, (due, o, os, e, refl, refl, refl)), h.0, stays), λ spent. let e : LeaveDue ≡ StepDue = sym due ∙ spent.0 in cc)
  leave-turned turn.Stepped due some stays h Z = absurd h
  leave-turned turn.EmptyRound due some stays h Z = absurd h
  leave-turned turn.Spent due some stays h Z = absurd h

  pub leave-keeps : (t : Turn) → LeaveBy old t new → KeepsStream W old new
  leave-keeps turn.Moved h = keeps-left W old new h.0 h.1 h.2
  leave-keeps turn.Worn h = keeps-same W old new h.1
  leave-keeps turn.Stepped h = absurd h
  leave-keeps turn.EmptyRound h = absurd h
  leave-keeps turn.Spent h = absurd h

pub place-in : (order : List PoolNo) (at : ℕ) → at ≤ length order - 1 → order ≢ [] → at < length order
place-in [] at h some = absurd (some refl)
place-in (p ∷ order) at h some = omega arith
