-- The logs of all streams and the histories of all objects: when they fit each other, and the sorted list of all deeds.
use Rattle.std.specs.Prelude.{ℕ, ◌≡◌, ◌<◌, ◌⊎◌, List, [], ◌∷◌, Some, Contains}
use Rattle.abt_interleave.specs.declared.entries.Entry.{Entry}
use Rattle.abt_interleave.specs.Deeds.{Deed}

-- the deed's call on the object at x is this entry
abbrev pub LeavesEntry : {Place Act Answer What : Type 0} → Deed Place Act Answer What → Place → Entry Act Answer → Type 0
LeavesEntry d x e = (d.stamp ≡ e.stamp) × (d.stream ≡ e.caller) × (d.heard ≡ Some (x, e.act, e.answer))

-- each call in a log is an entry of its object's history, and there is no other entry
pub record Matched {Place Act Answer What : Type 0} (logs : ℕ → List (Deed Place Act Answer What)) (histories : Place → List (Entry Act Answer)) : Type 0 where
  pub has_entry : (d : Deed Place Act Answer What) (x : Place) (e : Entry Act Answer) → Contains (logs d.stream) d → LeavesEntry d x e → Contains (histories x) e
  pub has_deed : (x : Place) (e : Entry Act Answer) → Contains (histories x) e → (d : Deed Place Act Answer What) × Contains (logs e.caller) d × LeavesEntry d x e

-- first by stamp, then by stream
abbrev pub IsSooner : ℕ → ℕ → ℕ → ℕ → Type 0
IsSooner stamp stream later other = (stamp < later) ⊎ ((stamp ≡ later) × (stream < other))

-- d comes before e
abbrev pub IsBefore : {Place Act Answer What : Type 0} → Deed Place Act Answer What → Deed Place Act Answer What → Type 0
IsBefore d e = IsSooner d.stamp d.stream e.stamp e.stream

-- a comes before each of these, by R
abbrev pub BeforeAll : {A : Type 0} → (A → A → Type 0) → A → List A → Type 0
BeforeAll R a [] = Unit {0}
BeforeAll R a (x ∷ xs) = R a x × BeforeAll R a xs

-- each comes before all that follow it
abbrev pub InOrder : {A : Type 0} → (A → A → Type 0) → List A → Type 0
InOrder R [] = Unit {0}
InOrder R (x ∷ xs) = BeforeAll R x xs × InOrder R xs

-- J is the sorted list of all deeds
pub record IsSorted {Place Act Answer What : Type 0} (logs : ℕ → List (Deed Place Act Answer What)) (J : List (Deed Place Act Answer What)) : Type 0 where
  pub in_order : InOrder IsBefore J
  pub all : (s : ℕ) (d : Deed Place Act Answer What) → Contains (logs s) d → Contains J d
  pub only : (d : Deed Place Act Answer What) → Contains J d → Contains (logs d.stream) d

-- J is the sorted list of all deeds, each of which is seen as an event with its stamp and its stream
pub record IsSortedAs {Place Act Answer What Event : Type 0} (event : Deed Place Act Answer What → Event) (stamp stream : Event → ℕ) (logs : ℕ → List (Deed Place Act Answer What)) (J : List Event) : Type 0 where
  pub in_order : InOrder (λ e f. IsSooner (stamp e) (stream e) (stamp f) (stream f)) J
  pub all : (s : ℕ) (d : Deed Place Act Answer What) → Contains (logs s) d → Contains J (event d)
  pub only : (e : Event) → Contains J e → (d : Deed Place Act Answer What) × Contains (logs d.stream) d × (event d ≡ e)
