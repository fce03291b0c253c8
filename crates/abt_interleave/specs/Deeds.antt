-- What streams did.
use Rattle.std.specs.Prelude.{ℕ, ◌≡◌, ◌≢◌, List, [], ◌∷◌, map, Option, Some, None}
use Rattle.abt_interleave.specs.Histories.{RisesAbove}

-- a call on the object at a place and its answer, in this order: place, act, answer
abbrev pub Heard : Type 0 → Type 0 → Type 0 → Type 0
Heard Place Act Answer = Place × Act × Answer

-- what a stream did: an event, and the call that it made, if it made one
pub record Deed (Place Act Answer What : Type 0) : Type 0 where
  pub stamp : ℕ
  pub stream : ℕ
  pub what : What
  pub heard : Option (Heard Place Act Answer)

-- the stamps of a log
abbrev pub deed_stamps : {Place Act Answer What : Type 0} → List (Deed Place Act Answer What) → List ℕ
deed_stamps log = map (λ d. d.stamp) log

-- A step is of a stream: what it has before, the event, what was heard, and what it has afterwards.
module _ {Place Act Answer What Part : Type 0} (Steps : ℕ → Part → What → Option (Heard Place Act Answer) → Part → Type 0) where
  -- stream s does this, one deed after the other, and what it has goes from p to q
  abbrev pub Does : ℕ → Part → List (Deed Place Act Answer What) → Part → Type 0
  Does s p [] q = p ≡ q
  Does s p (d ∷ ds) q = (d.stream ≡ s) × (m : Part) × Steps s p d.what d.heard m × Does s m ds q

  -- a log of stream s, from p to q: its deeds, with stamps that rise strictly
  abbrev pub Course : ℕ → Part → List (Deed Place Act Answer What) → Part → Type 0
  Course s p log q = RisesAbove 0 (deed_stamps log) × Does s p log q

-- what is heard changes the objects: the called one answers, all others stay
abbrev pub Answered : {Place Act Answer Object : Type 0} → (Object → Act → Answer → Object → Type 0) → (Place → Object) → Option (Heard Place Act Answer) → (Place → Object) → Type 0
Answered {Place} Gives old None new = (x : Place) → new x ≡ old x
Answered {Place} Gives old (Some h) new = Gives (old h.0) h.1 h.2 (new h.0) × ((x : Place) → h.0 ≢ x → new x ≡ old x)
