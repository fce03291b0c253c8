-- Reader-writer locks at which the same units wait after a change.
use Rattle.std.proofs.Common.{◌≡◌, ◌≢◌, ℕ, ◌==◌, [], ◌∷◌, length, Option, Some, None, refl, sym, ◌∙◌, ap, subst, inl, inr}
use Rattle.std.proofs.lemmas.Bool.{cases_eq, cond-false, ne_eqb}
use Rattle.abt_machine.specs.declared.events.Place.{Place}
use Rattle.abt_machine.specs.declared.events.Place.TheVariants as place
use Rattle.abt_machine.specs.declared.events.Spot.TheVariants as spot
use Rattle.abt_machine.specs.Stored.{Stored}
use Rattle.abt_machine.specs.declared.operations.Thing.TheVariants as thing
use Rattle.abt_machine.specs.declared.workload.Parts.{Parts}
use Rattle.abt_machine.specs.Maps.{put_all}
use Rattle.abt_machine.specs.Workloads.{thing_at}
use Rattle.abt_machine.specs.State.{State, RwLock}
use Rattle.abt_machine.specs.Lines.{Line, Waiting, ticket_in, standing}
use Rattle.abt_machine.specs.Changes.{Change, changed}
use Rattle.abt_machine.specs.Sound.{Sound, IsKept}
use Rattle.abt_laws.proofs.Lists.{EachOf, EachOf-then}
use Rattle.abt_laws.proofs.LinesAfter.{NoneFrom, NoneTo, line-stays}
use Rattle.abt_laws.proofs.Maps.{put_at-same, put_at-other}
use Rattle.abt_laws.proofs.Places.{place_in, ticket-place}
use Rattle.abt_laws.proofs.SoundChanges.{LocksHold}

-- the place is no wait at a reader-writer lock
abbrev pub IsOffLocks : Parts → Place → Type 0
IsOffLocks W (place.Blocked (spot.Object x) t) = thing_at W x.0 ≡ Some thing.RwLock → ⊥
IsOffLocks W _ = Unit {0}

-- the unit waits at no reader-writer lock, before its move and after it
abbrev pub MovesOffLocks : Parts → State → ℕ × Place → Type 0
MovesOffLocks W S m = IsOffLocks W (S.place m.0) × IsOffLocks W m.1

-- the line is of no reader-writer lock
abbrev pub IsNoLock : Parts → Line → Type 0
IsNoLock W (Waiting x) = thing_at W x ≡ Some thing.RwLock → ⊥
IsNoLock W _ = Unit {0}

-- who stands in it waits at none
pub off-line : (W : Parts) (l : Line) (t : ℕ) → IsNoLock W l → IsOffLocks W (place_in l t)
off-line W (Waiting x) t other = other
off-line W l t other = tt

-- who waits at no reader-writer lock has no ticket there
no-ticket : (W : Parts) (x : ℕ) (pl : Place) → thing_at W x ≡ Some thing.RwLock → IsOffLocks W pl → ticket_in (Waiting x) pl ≡ None
no-ticket W x pl is off = by (ticket_in (Waiting x) pl) refl where
  by : (o : Option ℕ) → ticket_in (Waiting x) pl ≡ o → o ≡ None
  by None e = refl
  by (Some t) e = absurd (subst (IsOffLocks W) (ticket-place (Waiting x) pl t e) off is)

-- who waits at one object has no ticket at another
pub elsewhere : (x y t : ℕ) → y ≢ x → ticket_in (Waiting y) (place_in (Waiting x) t) ≡ None
elsewhere x y t apart = cond-false (x == y) (Some t) None (ne_eqb x y (λ e. apart (sym e)))

-- the same units wait if none comes or leaves
pub same-waiters : (W : Parts) (S : State) (c : Change) (x : ℕ) → NoneTo (Waiting x) c.moves → NoneFrom (Waiting x) S.place c.moves → standing W (changed S c) (Waiting x) ≡ standing W S (Waiting x)
same-waiters W S c x to from = line-stays (length W.units) (Waiting x) S.place c.moves to from

module _ (W : Parts) (Z : Stored) (S : State) (c : Change) (sound : Sound W Z S) where
  -- a lock that is the same, at which the same units wait
  holds-still : (x : ℕ) → thing_at W x ≡ Some thing.RwLock → (changed S c).rwlock x ≡ S.rwlock x → standing W (changed S c) (Waiting x) ≡ standing W S (Waiting x) →
      IsKept ((changed S c).rwlock x) (standing W (changed S c) (Waiting x))
  holds-still x is lock line =
      subst (λ k. IsKept k (standing W (changed S c) (Waiting x))) (sym lock) (subst (IsKept (S.rwlock x)) (sym line) (sound.locks x is))

  -- if no lock changes, and nobody comes to one or leaves one, locks hold
  pub locks-stay : c.rwlocks ≡ [] → EachOf (MovesOffLocks W S) c.moves → LocksHold W (changed S c)
  locks-stay none off x is =
      holds-still x is (ap (λ ks. put_all S.rwlock ks x) none)
      (same-waiters W S c x (EachOf-then _ _ c.moves (λ m k. no-ticket W x m.1 is k.1) off) (EachOf-then _ _ c.moves (λ m k. no-ticket W x (S.place m.0) is k.0) off))

  -- if one lock changes and holds with its waiters, and the others have the same waiters, locks hold
  pub locks-become : (x : ℕ) (lock : RwLock) → c.rwlocks ≡ (x, lock) ∷ [] → IsKept lock (standing W (changed S c) (Waiting x)) →
      ((y : ℕ) → y ≢ x → standing W (changed S c) (Waiting y) ≡ standing W S (Waiting y)) → LocksHold W (changed S c)
  locks-become x lock one kept others y is =
      elim (cases_eq y x) [
        | inl same ↦
            let new : (changed S c).rwlock x ≡ lock = ap (λ ks. put_all S.rwlock ks x) one ∙ put_at-same S.rwlock x lock in
            subst (λ z. IsKept ((changed S c).rwlock z) (standing W (changed S c) (Waiting z))) (sym same)
            (subst (λ k. IsKept k (standing W (changed S c) (Waiting x))) (sym new) kept)
        | inr other ↦ holds-still y is (ap (λ ks. put_all S.rwlock ks y) one ∙ put_at-other S.rwlock x lock y other) (others y other)
      ]
