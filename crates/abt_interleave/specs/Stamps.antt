-- Stamps: a clock for each stream and each object (Lamport, "Time, Clocks, and the Ordering of Events in a Distributed System", 1978).
use Rattle.std.specs.Prelude.{ℕ, suc, max, ◌≡◌, ◌<◌, ◌≤◌, ◌+◌, ◌⊎◌, List, [], ◌∷◌, ◌++◌, Option, Some, None, option_map, Contains}
use Rattle.abt_interleave.specs.declared.entries.Entry.{Entry}
use Rattle.abt_interleave.specs.Histories.{last_stamp, entry_stamps}
use Rattle.abt_interleave.specs.Deeds.{Heard, Deed}

-- Items are what streams did, one by one: each has a stamp and a stream, and may have called the object at a place.

module _ {Item Place : Type 0} (place : Item → Option Place) where
  -- both called one object
  abbrev pub SamePlace : Item → Item → Type 0
  SamePlace a b = (x : Place) × (place a ≡ Some x) × (place b ≡ Some x)

module _ {Item : Type 0} (stamp stream : Item → ℕ) where
  -- b follows a at once: the stamp doesn't fall, and rises by at most one; items of equal stamp stand in order of stream
  abbrev pub Follows : Item → Item → Type 0
  Follows a b = (stamp a ≤ stamp b) × (stamp b ≤ stamp a + 1) × (stamp a ≡ stamp b → stream a < stream b)

  module _ {Place : Type 0} (place : Item → Option Place) where
    -- the items have a stream or an object in common
    abbrev pub Shares : Item → Item → Type 0
    Shares a b = (stream a ≡ stream b) ⊎ SamePlace place a b

    -- each of these has a greater stamp than a if it shares a stream or an object with it
    abbrev pub AllAfter : Item → List Item → Type 0
    AllAfter a [] = Unit {0}
    AllAfter a (b ∷ bs) = (Shares a b → stamp a < stamp b) × AllAfter a bs

    -- these follow a, one at once after the other, and their stamps rise strictly along each stream and each object
    abbrev pub StampedFrom : Item → List Item → Type 0
    StampedFrom a [] = Unit {0}
    StampedFrom a (b ∷ bs) = Follows a b × AllAfter a (b ∷ bs) × StampedFrom b bs

    -- stamps begin at 1, never fall, rise by at most one from item to item, and strictly along each stream and each object
    abbrev pub Stamped : List Item → Type 0
    Stamped [] = Unit {0}
    Stamped (a ∷ bs) = (stamp a ≡ 1) × StampedFrom a bs

    -- the stamp is 1, or one more than that of an earlier item that shares a stream or an object with it
    abbrev pub IsLeast : List Item → Item → Type 0
    IsLeast earlier a = (stamp a ≡ 1) ⊎ ((b : Item) × Contains earlier b × Shares b a × (stamp a ≡ stamp b + 1))

    -- each of these has a stamp above those before it that share a stream or an object with it, and no greater one than it needs
    abbrev pub LamportFrom : List Item → List Item → Type 0
    LamportFrom earlier [] = Unit {0}
    LamportFrom earlier (a ∷ bs) = ((b : Item) → Contains earlier b → Shares b a → stamp b < stamp a) × IsLeast earlier a × LamportFrom (earlier ++ a ∷ []) bs

    -- stamped, and each stamp is one more than the greatest earlier stamp of its stream and of its object, 0 standing for none
    abbrev pub Lamport : List Item → Type 0
    Lamport J = Stamped J × LamportFrom [] J

module _ {Place Act Answer What : Type 0} where
  -- the place of the object that a deed called
  abbrev pub place_of : Deed Place Act Answer What → Option Place
  place_of d = option_map (λ h. h.0) d.heard

  -- these deeds are stamped
  abbrev pub AreStamped : List (Deed Place Act Answer What) → Type 0
  AreStamped J = Stamped (λ d. d.stamp) (λ d. d.stream) place_of J

  -- and their stamps are Lamport's
  abbrev pub AreLamports : List (Deed Place Act Answer What) → Type 0
  AreLamports J = Lamport (λ d. d.stamp) (λ d. d.stream) place_of J

  -- Rules by which streams and objects give stamps.

  -- a stamp is 1, or one more than that of another deed in a log
  abbrev pub LeavesNoGap : (ℕ → List (Deed Place Act Answer What)) → Type 0
  LeavesNoGap logs =
      (s : ℕ) (d : Deed Place Act Answer What) → Contains (logs s) d →
      (d.stamp ≡ 1) ⊎ ((e : Deed Place Act Answer What) × Contains (logs e.stream) e × (d.stamp ≡ e.stamp + 1))

  -- the stamp is one more than the greater of the stream's last and of the last that stands before the entry in its object's
  -- history
  abbrev pub IsTimed : (Place → List (Entry Act Answer)) → ℕ → Deed Place Act Answer What → Option (Heard Place Act Answer) → Type 0
  IsTimed histories clock d None = d.stamp ≡ suc clock
  IsTimed histories clock d (Some h) =
      (before : List (Entry Act Answer)) × (later : List (Entry Act Answer))
      × (histories h.0 ≡ before ++ record { stamp = d.stamp; caller = d.stream; act = h.1; answer = h.2 } ∷ later)
      × (d.stamp ≡ suc (max clock (last_stamp (entry_stamps before))))

  -- so are all stamps of a log, the stream's last being that clock
  abbrev pub AllTimed : (Place → List (Entry Act Answer)) → ℕ → List (Deed Place Act Answer What) → Type 0
  AllTimed histories clock [] = Unit {0}
  AllTimed histories clock (d ∷ ds) = IsTimed histories clock d d.heard × AllTimed histories d.stamp ds
