-- Units that come to a tray.
use Rattle.std.proofs.lemmas.Bool.{false≢true}
use Rattle.std.proofs.Common.{Bool, true, false, ◌≡◌, ℕ, ◌<◌, List, length, Some, refl, sym, ◌∙◌, ap, subst, inl, inr}
use Rattle.abt_machine.specs.declared.events.Place.{Place}
use Rattle.abt_machine.specs.declared.events.Place.TheVariants as place
use Rattle.abt_machine.specs.declared.events.Spot.TheVariants as spot
use Rattle.abt_machine.specs.declared.workload.Parts.{Parts}
use Rattle.abt_machine.specs.Numbers.{stream_no, object_no}
use Rattle.abt_machine.specs.Queues.{first_alone}
use Rattle.abt_machine.specs.State.{State}
use Rattle.abt_machine.specs.Lines.{Line, InFrames, ticket_in, standing}
use Rattle.abt_machine.specs.Changes.{Change, changed, tray_moves}
use Rattle.abt_machine.specs.Sound.{IsAtRest}
use Rattle.abt_laws.proofs.LineMoves.{tray_moves-each}
use Rattle.abt_laws.proofs.Lists.{EachOf, EachOf-then, EachOf-first_alone}
use Rattle.abt_laws.proofs.Maps.{KeyOf, KeyOf-cases, put_all-other, put_all-value}
use Rattle.abt_laws.proofs.Places.{place_in, line_of, line_of-place_in, line_of-ticket}
use Rattle.abt_laws.proofs.Arrivals.{IsEmpty}
use Rattle.abt_laws.proofs.Standing.{StandsIn, each-stands}
use Rattle.abt_laws.proofs.Locks.{IsNoLock, IsOffLocks, MovesOffLocks, off-line}
use Rattle.abt_laws.proofs.SoundChanges.{places, MovesWell}
use Rattle.abt_laws.proofs.SoundFrames.{IsFrameless}

-- a declared unit that is in no frame and waits at no reader-writer lock may come to a tray
pub record IsWakeable (W : Parts) (S : State) (u : ℕ) : Type 0 where
  pub declared : u < length W.units
  pub frameless : IsFrameless S u
  pub off_locks : IsOffLocks W (S.place u)

-- a line of no frames
abbrev pub IsNoFrames : Line → Type 0
IsNoFrames (InFrames s) = ⊥
IsNoFrames _ = Unit {0}

pub frameless-in : (S : State) (l : Line) (u t : ℕ) → IsNoFrames l → S.place u ≡ place_in l t → IsFrameless S u
frameless-in S l u t other at r d h =
    let e : Some l ≡ Some (InFrames r) = sym (line_of-place_in l t) ∙ (ap line_of (sym at) ∙ ap line_of h) in
    let k : l ≡ InFrames r = cc in subst IsNoFrames k other

-- a test of places that fails at each frame
pub frameless-by : (S : State) (v : ℕ) (test : Place → Bool) → ((r d : ℕ) → test (place.Frame (stream_no r) d) ≡ false) → test (S.place v) ≡ true → IsFrameless S v
frameless-by S v test fails holds r d at = false≢true (sym (fails r d) ∙ (ap test (sym at) ∙ holds))

-- who stands in a line of no reader-writer lock waits at none
pub off-in : (W : Parts) (S : State) (l : Line) (u t : ℕ) → IsNoLock W l → S.place u ≡ place_in l t → IsOffLocks W (S.place u)
off-in W S l u t unlocked at = subst (IsOffLocks W) (sym at) (off-line W l t unlocked)

-- a test of places that fails at each wait at an object
pub off-by : (W : Parts) (S : State) (v : ℕ) (test : Place → Bool) → ((x t : ℕ) → test (place.Blocked (spot.Object (object_no x)) t) ≡ false) → test (S.place v) ≡ true → IsOffLocks W (S.place v)
off-by W S v test fails holds = by (S.place v) holds where
  by : (pl : Place) → test pl ≡ true → IsOffLocks W pl
  by (place.Blocked (spot.Object x) t) e = absurd (false≢true (sym (fails x.0 t) ∙ e))
  by pl e = tt

wakeable : (W : Parts) (S : State) (l : Line) → IsNoFrames l → IsNoLock W l → (u : ℕ) → StandsIn W S l u → IsWakeable W S u
wakeable W S l other unlocked u h = record { declared = h.declared; frameless = frameless-in S l u h.ticket other h.at; off_locks = off-in W S l u h.ticket unlocked h.at }

-- all of a line
pub wakeable-line : (W : Parts) (S : State) (l : Line) → IsNoFrames l → IsNoLock W l → EachOf (IsWakeable W S) (standing W S l)
wakeable-line W S l other unlocked = EachOf-then _ _ (standing W S l) (wakeable W S l other unlocked) (each-stands W S l)

-- the first of a line
pub wakeable-first : (W : Parts) (S : State) (l : Line) → IsNoFrames l → IsNoLock W l → EachOf (IsWakeable W S) (first_alone (standing W S l))
wakeable-first W S l other unlocked = EachOf-then _ _ (first_alone (standing W S l)) (wakeable W S l other unlocked) (EachOf-first_alone (StandsIn W S l) (standing W S l) (each-stands W S l))

-- Moves to the tray of stream s.

pub tray-well : (W : Parts) (S : State) (c : Change) (s i : ℕ) (us : List ℕ) → s < W.streams → IsAtRest ((changed S c).stream s) → EachOf (IsWakeable W S) us → EachOf (λ (m : ℕ × Place). MovesWell W S c m.0 m.1) (tray_moves s i us)
tray-well W S c s i us l rests each =
    tray_moves-each (λ m. MovesWell W S c m.0 m.1) (IsWakeable W S) s i us (λ u t wakes. record { declared = wakes.declared; placed = (l, rests); alone = tt; joined = inl refl }) each

pub tray-frameless : (W : Parts) (S : State) (s i : ℕ) (us : List ℕ) → EachOf (IsWakeable W S) us → EachOf (λ (m : ℕ × Place). IsFrameless S m.0) (tray_moves s i us)
tray-frameless W S s i us each = tray_moves-each (λ m. IsFrameless S m.0) (IsWakeable W S) s i us (λ u t wakes. wakes.frameless) each

pub tray-off : (W : Parts) (S : State) (s i : ℕ) (us : List ℕ) → EachOf (IsWakeable W S) us → EachOf (MovesOffLocks W S) (tray_moves s i us)
tray-off W S s i us each = tray_moves-each (MovesOffLocks W S) (IsWakeable W S) s i us (λ u t wakes. (wakes.off_locks, tt)) each

-- Lines that are empty afterwards.

-- a line that all leave, and to which nobody comes
pub empty-after : (S : State) (c : Change) (l : Line) → EachOf (λ (m : ℕ × Place). line_of m.1 ≡ Some l → ⊥) c.moves → ((v t : ℕ) → ticket_in l (S.place v) ≡ Some t → KeyOf v c.moves) → IsEmpty l (places S c)
empty-after S c l away leave v t h =
    elim (KeyOf-cases v c.moves) [
      | inl moved ↦ put_all-value (λ n pl. line_of pl ≡ Some l → ⊥) S.place c.moves v away moved (line_of-ticket l (places S c v) t h)
      | inr out ↦ out (leave v t (ap (ticket_in l) (sym (put_all-other S.place c.moves v out)) ∙ h))
    ]

-- an empty line, to which nobody comes
pub empty-still : (S : State) (c : Change) (l : Line) → EachOf (λ (m : ℕ × Place). line_of m.1 ≡ Some l → ⊥) c.moves → IsEmpty l S.place → IsEmpty l (places S c)
empty-still S c l away empty = empty-after S c l away (λ v t h. absurd (empty v t h))
