-- What a change must meet to keep a sound state sound.
use Rattle.std.proofs.Common.{◌≡◌, ℕ, ◌<◌, ◌≤◌, true, false, length, Option, Some, None, refl, sym, ◌∙◌, ap, subst, arith, ◌⊎◌, inl, inr}
use Rattle.std.specs.Prelude.{IfSome, IsSome}
use Rattle.std.specs.List.{sum}
use Rattle.abt_machine.specs.declared.events.Place.{Place}
use Rattle.abt_machine.specs.declared.events.Place.TheVariants as place
use Rattle.abt_machine.specs.declared.events.Spot.TheVariants as spot
use Rattle.abt_machine.specs.Stored.{Stored}
use Rattle.abt_machine.specs.declared.operations.Thing.{Thing}
use Rattle.abt_machine.specs.declared.operations.Thing.TheVariants as thing
use Rattle.abt_machine.specs.declared.workload.Parts.{Parts}
use Rattle.abt_machine.specs.Numbers.{stream_no}
use Rattle.abt_machine.specs.Maps.{put_all}
use Rattle.abt_machine.specs.Workloads.{body_at, ops_of, main_of, thing_at, size_of, size_from}
use Rattle.abt_machine.specs.Queues.{last}
use Rattle.abt_machine.specs.State.{State, Carried, Desk, Mutex, Future, RwLock}
use Rattle.abt_machine.specs.Lines.{Line, InHand, InNext, Joining, Waiting, ticket_in, standing}
use Rattle.abt_machine.specs.Changes.{Change, changed}
use Rattle.abt_machine.specs.Codes.{is_alive}
use Rattle.abt_machine.specs.Sound.{Sound, IsKept, IsPlaced, IsAtRest, AllUnderWay, AllAtRest, HoldsUp, HasNotEnded, HasNoRequest, frames_of}
use Rattle.abt_laws.proofs.Lists.{EachOf, EachOf-then}
use Rattle.abt_laws.proofs.Maps.{KeyOf-cases, put_all-other, put_all-value, put_all-kept, put_all-above, EachOf-key}
use Rattle.abt_laws.proofs.Places.{same-self, place_in, ticket-place}
use Rattle.abt_laws.proofs.Arrivals.{IsEmpty, AllFree, OneEach-moves, IsBelow}

-- the places after a change
abbrev pub places : State → Change → ℕ → Place
places S c = put_all S.place c.moves

-- Units.

-- who comes to a hand finds nobody in Next, and who comes to Next nobody in the hand
abbrev pub IsAlone : (ℕ → Place) → Place → Type 0
IsAlone f (place.Hand s) = IsEmpty (InNext s.0) f
IsAlone f (place.Next s) = IsEmpty (InHand s.0) f
IsAlone f _ = Unit {0}

-- unit u, which moves there, is placed well afterwards; if it ends, nobody joins it any more
pub record MovesWell (W : Parts) (S : State) (c : Change) (u : ℕ) (pl : Place) : Type 0 where
  pub declared : u < length W.units
  pub placed : IsPlaced W (changed S c) u pl
  pub alone : IsAlone (places S c) pl
  pub joined : HasNotEnded pl ⊎ IsEmpty (Joining u) (places S c)

-- no barrier has as many waiters as parties
abbrev pub BarriersHold : Parts → State → Type 0
BarriersHold W S = (x n : ℕ) → thing_at W x ≡ Some (thing.Barrier n) → length (standing W S (Waiting x)) < n

pub record CarriesWell (W : Parts) (u : ℕ) (c : Carried) : Type 0 where
  pub keys : length c.keys ≡ W.keys
  pub home : c.home < length W.pools
  pub position : c.position ≤ length (ops_of (body_at W u))

-- who is unborn or ended is asked nothing new, and a migrate request is to a declared pool
pub record AsksWell (W : Parts) (S : State) (u : ℕ) (d : Desk) : Type 0 where
  pub asks : (HasNoRequest (S.desk u) → HasNoRequest d) ⊎ (is_alive (S.place u) ≡ true)
  pub request : IfSome d.migrate (λ p. p < length W.pools)

-- Objects, if f has the places afterwards: one that holds nobody up any more has no waiters.

abbrev pub MutexHolds : (ℕ → Place) → ℕ → Mutex → Type 0
MutexHolds f x m = IsSome m.owner ⊎ IsEmpty (Waiting x) f

abbrev pub EventualHolds : (ℕ → Place) → ℕ → Option ℕ → Type 0
EventualHolds f x v = (v ≡ None) ⊎ IsEmpty (Waiting x) f

abbrev pub FutureHolds : Parts → State → (ℕ → Place) → ℕ → Future → Type 0
FutureHolds W S f x v = (v.filled ≤ size_of W x) × (((S.future x).filled < size_of W x → v.filled < size_of W x) ⊎ IsEmpty (Waiting x) f)

-- Reader-writer locks.

-- lock x, which becomes this, has a count and a wish for each unit, and its number stays if it was read
pub record LocksWell (W : Parts) (S : State) (x : ℕ) (lock : RwLock) : Type 0 where
  pub counts : length lock.counts ≡ length W.units
  pub wishes : length lock.wishes ≡ length W.units
  pub number : 0 < sum (S.rwlock x).counts → lock.number ≡ (S.rwlock x).number

-- each lock is kept, with its waiters
abbrev pub LocksHold : Parts → State → Type 0
LocksHold W S = (x : ℕ) → thing_at W x ≡ Some thing.RwLock → IsKept (S.rwlock x) (standing W S (Waiting x))

-- Frames.

-- the unit at this place is in the hand, Next or tray of stream s
abbrev pub OnStream : ℕ → Place → Type 0
OnStream s (place.Hand r) = r.0 ≡ s
OnStream s (place.Next r) = r.0 ≡ s
OnStream s (place.Tray r t) = r.0 ≡ s
OnStream s _ = ⊥

pub record FramesKeep (W : Parts) (Z : Stored) (S T : State) : Type 0 where
  -- who stays in a frame is its unit, and each stacked frame has one
  pub held : (u s d : ℕ) → S.place u ≡ place.Frame (stream_no s) d → T.place u ≡ place.Frame (stream_no s) d → IsPlaced W T u (place.Frame (stream_no s) d)
  pub hold : (s d : ℕ) → d < length (T.stream s).below → (u : ℕ) × (T.place u ≡ place.Frame (stream_no s) d)
  -- a stream that holds a unit stays at rest
  pub rest : (u s : ℕ) → OnStream s (T.place u) → IsAtRest (S.stream s) → IsAtRest (T.stream s)
  pub lowest : (s : ℕ) → s < W.streams → IfSome (last (frames_of (T.stream s))) (λ f. f.sched ≡ main_of W s)
  pub under_way : (s : ℕ) → s < W.streams → AllUnderWay W Z.orders (frames_of (T.stream s))
  pub below_rest : (s : ℕ) → s < W.streams → AllAtRest ((T.stream s).below)

-- All that a change must meet.

pub record Keeps (W : Parts) (Z : Stored) (S : State) (c : Change) : Type 0 where
  pub free : AllFree S.place c.moves
  pub moves : EachOf (λ (m : ℕ × Place). MovesWell W S c m.0 m.1) c.moves
  pub barriers : BarriersHold W (changed S c)
  pub carried : EachOf (λ (m : ℕ × Carried). CarriesWell W m.0 m.1) c.carried
  pub desks : EachOf (λ (m : ℕ × Desk). AsksWell W S m.0 m.1) c.desks
  pub pool_next : EachOf (λ (m : ℕ × ℕ). S.pool_next m.0 ≤ m.1) c.pool_next
  pub join_next : EachOf (λ (m : ℕ × ℕ). S.join_next m.0 ≤ m.1) c.join_next
  pub object_next : EachOf (λ (m : ℕ × ℕ). S.object_next m.0 ≤ m.1) c.object_next
  pub mutexes : EachOf (λ (m : ℕ × Mutex). MutexHolds (places S c) m.0 m.1) c.mutexes
  pub eventuals : EachOf (λ (m : ℕ × Option ℕ). EventualHolds (places S c) m.0 m.1) c.eventuals
  pub futures : EachOf (λ (m : ℕ × Future). FutureHolds W S (places S c) m.0 m.1) c.futures
  pub rwlocks : EachOf (λ (m : ℕ × RwLock). LocksWell W S m.0 m.1) c.rwlocks
  pub locks : LocksHold W (changed S c)
  pub frames : FramesKeep W Z S (changed S c)

module _ (W : Parts) (Z : Stored) (S : State) (c : Change) (sound : Sound W Z S) (keeps : Keeps W Z S c) where
  held-up : (u t x : ℕ) (o : Option Thing) → thing_at W x ≡ o → ticket_in (Waiting x) (places S c u) ≡ Some t → HoldsUp W S x o → HoldsUp W (changed S c) x o
  held-up u t x None is at h = h
  held-up u t x (Some thing.Mutex) is at h =
      elim (put_all-kept (λ n (m : Mutex). (IsSome (S.mutex n).owner → IsSome m.owner) ⊎ IsEmpty (Waiting n) (places S c)) S.mutex c.mutexes x
      (EachOf-then _ _ c.mutexes (λ m k. elim k [ inl owned ↦ inl (λ _. owned) | inr none ↦ inr none ]) keeps.mutexes) (inl (λ k. k))) [
        | inl f ↦ f h
        | inr none ↦ absurd (none u t at)
      ]
  held-up u t x (Some (thing.Cond m)) is at h = tt
  held-up u t x (Some thing.Eventual) is at h =
      elim (put_all-kept (λ n (v : Option ℕ). (S.eventual n ≡ None → v ≡ None) ⊎ IsEmpty (Waiting n) (places S c)) S.eventual c.eventuals x
      (EachOf-then _ _ c.eventuals (λ m k. elim k [ inl unset ↦ inl (λ _. unset) | inr none ↦ inr none ]) keeps.eventuals) (inl (λ k. k))) [
        | inl f ↦ f h
        | inr none ↦ absurd (none u t at)
      ]
  held-up u t x (Some (thing.Future n r)) is at h =
      let size : size_of W x ≡ n = ap size_from is in
      elim (put_all-kept (λ k (f : Future). ((S.future k).filled < size_of W k → f.filled < size_of W k) ⊎ IsEmpty (Waiting k) (places S c)) S.future c.futures x (EachOf-then _ _ c.futures (λ m k. k.1) keeps.futures) (inl (λ k. k))) [
        | inl f ↦ subst (λ k. (put_all S.future c.futures x).filled < k) size (f (subst (λ k. (S.future x).filled < k) (sym size) h))
        | inr none ↦ absurd (none u t at)
      ]
  held-up u t x (Some (thing.Barrier n)) is at h = tt
  held-up u t x (Some thing.RwLock) is at h = tt

  asks-nothing : (u : ℕ) → (is_alive (S.place u) ≡ true → ⊥) → HasNoRequest (S.desk u) → HasNoRequest (put_all S.desk c.desks u)
  asks-nothing u idle h =
      elim (put_all-kept (λ n (d : Desk). (HasNoRequest (S.desk n) → HasNoRequest d) ⊎ (is_alive (S.place n) ≡ true)) S.desk c.desks u
      (EachOf-then _ _ c.desks (λ m k. k.asks) keeps.desks) (inl (λ k. k))) [ inl f ↦ f h | inr alive ↦ absurd (idle alive) ]

  not-ended : (u t v : ℕ) → ticket_in (Joining v) (places S c u) ≡ Some t → HasNotEnded (S.place v) → HasNotEnded (places S c v)
  not-ended u t v at h =
      elim (put_all-kept (λ n pl. HasNotEnded pl ⊎ IsEmpty (Joining n) (places S c)) S.place c.moves v
      (EachOf-then _ _ c.moves (λ m k. k.joined) keeps.moves) (inl h)) [ inl goes ↦ goes | inr none ↦ absurd (none u t at) ]

  -- a unit that does not move is placed as well as before
  stays : (u : ℕ) (pl : Place) → S.place u ≡ pl → places S c u ≡ pl → IsPlaced W S u pl → IsPlaced W (changed S c) u pl
  stays u place.Unborn was is h = asks-nothing u (λ b. let k : false ≡ true = sym (ap is_alive was) ∙ b in cc) h
  stays u (place.Pool p t) was is h = (h.0, put_all-above S.pool_next c.pool_next p.0 t keeps.pool_next h.1)
  stays u (place.Hand s) was is h = (h.0, keeps.frames.rest u s.0 (subst (OnStream s.0) (sym is) refl) h.1)
  stays u (place.Next s) was is h = (h.0, keeps.frames.rest u s.0 (subst (OnStream s.0) (sym is) refl) h.1)
  stays u (place.Tray s t) was is h = (h.0, keeps.frames.rest u s.0 (subst (OnStream s.0) (sym is) refl) h.1)
  stays u (place.Frame s d) was is h = keeps.frames.held u s.0 d was is
  stays u (place.Blocked spot.Suspended t) was is h = tt
  stays u (place.Blocked (spot.Join v) t) was is h =
      (h.0, put_all-above S.join_next c.join_next v.0 t keeps.join_next h.1, not-ended u t v.0 (ap (ticket_in (Joining v.0)) is ∙ same-self v.0 t) h.2)
  stays u (place.Blocked (spot.Object x) t) was is h =
      (put_all-above S.object_next c.object_next x.0 t keeps.object_next h.0, held-up u t x.0 (thing_at W x.0) refl (ap (ticket_in (Waiting x.0)) is ∙ same-self x.0 t) h.1)
  stays u (place.Ended e) was is h = asks-nothing u (λ b. let k : false ≡ true = sym (ap is_alive was) ∙ b in cc) h

  placed-after : (u : ℕ) → IsPlaced W (changed S c) u (places S c u)
  placed-after u =
      elim (KeyOf-cases u c.moves) [
        | inl moved ↦ put_all-value (λ n pl. IsPlaced W (changed S c) n pl) S.place c.moves u (EachOf-then _ _ c.moves (λ m k. k.placed) keeps.moves) moved
        | inr out ↦ (let e : places S c u ≡ S.place u = put_all-other S.place c.moves u out in subst (IsPlaced W (changed S c) u) (sym e) (stays u (S.place u) refl e (sound.placed u)))
      ]

  alone-after : (u : ℕ) → IsAlone (places S c) (places S c u) ⊎ (places S c u ≡ S.place u)
  alone-after u =
      elim (KeyOf-cases u c.moves) [
        | inl moved ↦ inl (put_all-value (λ n pl. IsAlone (places S c) pl) S.place c.moves u (EachOf-then _ _ c.moves (λ m k. k.alone) keeps.moves) moved)
        | inr out ↦ inr (put_all-other S.place c.moves u out)
      ]

  not-both : (s u v : ℕ) → places S c u ≡ place.Hand (stream_no s) → places S c v ≡ place.Next (stream_no s) → ⊥
  not-both s u v h g =
      elim (alone-after u) [
        | inl came ↦ subst (IsAlone (places S c)) h came v 0 (ap (ticket_in (InNext s)) g ∙ same-self s 0)
        | inr was ↦ elim (alone-after v) [
          | inl arrived ↦ subst (IsAlone (places S c)) g arrived u 0 (ap (ticket_in (InHand s)) h ∙ same-self s 0)
          | inr stood ↦ sound.hand_or_next s u v (sym was ∙ h) (sym stood ∙ g)
        ]
      ]

  -- a change that meets this keeps a sound state sound
  pub sound-after : Sound W Z (changed S c)
  sound-after = record {
    one_each = OneEach-moves S.place c.moves sound.one_each keeps.free;
    hand_or_next = not-both;
    undeclared = λ u l. put_all-other S.place c.moves u (λ k. let d : u < length W.units = EachOf-key (λ n. n < length W.units) c.moves u (EachOf-then _ _ c.moves (λ m k. k.declared) keeps.moves) k in omega arith) ∙ sound.undeclared u l;
    placed = placed-after;
    frames_hold = keeps.frames.hold;
    lowest = keeps.frames.lowest;
    under_way = keeps.frames.under_way;
    below_rest = keeps.frames.below_rest;
    filled = λ x. put_all-kept (λ n (f : Future). f.filled ≤ size_of W n) S.future c.futures x (EachOf-then _ _ c.futures (λ m k. k.0) keeps.futures) (sound.filled x);
    waiting = keeps.barriers;
    counts = λ x. put_all-kept (λ n (k : RwLock). length k.counts ≡ length W.units) S.rwlock c.rwlocks x (EachOf-then _ _ c.rwlocks (λ m k. k.counts) keeps.rwlocks) (sound.counts x);
    wishes = λ x. put_all-kept (λ n (k : RwLock). length k.wishes ≡ length W.units) S.rwlock c.rwlocks x (EachOf-then _ _ c.rwlocks (λ m k. k.wishes) keeps.rwlocks) (sound.wishes x);
    locks = keeps.locks;
    keys = λ u. put_all-kept (λ n (k : Carried). length k.keys ≡ W.keys) S.carried c.carried u (EachOf-then _ _ c.carried (λ m k. k.keys) keeps.carried) (sound.keys u);
    homes = λ u. put_all-kept (λ n (k : Carried). k.home < length W.pools) S.carried c.carried u (EachOf-then _ _ c.carried (λ m k. k.home) keeps.carried) (sound.homes u);
    requests = λ u. put_all-kept (λ n (d : Desk). IfSome d.migrate (λ p. p < length W.pools)) S.desk c.desks u (EachOf-then _ _ c.desks (λ m k. k.request) keeps.desks) (sound.requests u);
    positions = λ u. put_all-kept (λ n (k : Carried). k.position ≤ length (ops_of (body_at W n))) S.carried c.carried u (EachOf-then _ _ c.carried (λ m k. k.position) keeps.carried) (sound.positions u);
  }

-- a reader-writer lock that is read keeps its number
pub number-after : (W : Parts) (Z : Stored) (S : State) (c : Change) → Keeps W Z S c → (x : ℕ) → 0 < sum (S.rwlock x).counts → ((changed S c).rwlock x).number ≡ (S.rwlock x).number
number-after W Z S c keeps x above =
    put_all-kept (λ n (k : RwLock). 0 < sum (S.rwlock n).counts → k.number ≡ (S.rwlock n).number) S.rwlock c.rwlocks x (EachOf-then _ _ c.rwlocks (λ m k. k.number) keeps.rwlocks) (λ _. refl) above

-- the tickets in a line are below what its units' places say
pub placed-below : (W : Parts) (Z : Stored) (S : State) (l : Line) (n : ℕ) → Sound W Z S → ((v t : ℕ) → IsPlaced W S v (place_in l t) → t < n) → IsBelow l n S.place
placed-below W Z S l n sound below v t h = below v t (subst (IsPlaced W S v) (ticket-place l (S.place v) t h) (sound.placed v))
