-- What streams and objects hold along a journal that is replayed.
use Rattle.std.specs.Prelude.{ℕ, suc, ◌≡◌, ◌≤◌, Bool, true, false, List, Some}
use Rattle.std.specs.List.{AllByRecursion}
use Rattle.abt_machine.specs.declared.events.Site.{Site}
use Rattle.abt_machine.specs.Stored.{Stored}
use Rattle.abt_machine.specs.declared.workload.Parts.{Parts}
use Rattle.abt_machine.specs.declared.events.What.{What}
use Rattle.abt_machine.specs.Events.{May, after}
use Rattle.abt_machine.specs.EventSites.{what_site}
use Rattle.abt_machine.specs.Sound.{Sound, frames_of}
use Rattle.abt_machine.specs.State.{Frame, State, Stream}
use Rattle.abt_machine.specs.Values.{Held, object_of, part_of}
use Rattle.abt_calls.specs.Asking.{IsSite}
use Rattle.abt_replay.specs.Objects.{HasPlaces, ObjectsValue, object_at}
use Rattle.abt_model.specs.Lists.{AreNumbered}

-- what each stream holds, in order of number, and the objects
pub record ModelValue : Type 0 where
  pub lanes : List Held
  pub objects : ObjectsValue

-- what the streams hold, and the objects, are those of state S, and there are no others
pub record StandsFor (W : Parts) (S : State) (model : ModelValue) : Type 0 where
  pub lanes : AreNumbered W.streams (part_of W S) model.lanes
  pub objects : (x : Site) → IsSite W x → object_at model.objects x ≡ object_of W S x
  pub places : HasPlaces W model.objects

-- no frame has begun more than n rounds
abbrev pub HasBegun : ℕ → Stream → Type 0
HasBegun n own = AllByRecursion (λ (f : Frame). f.round ≤ n) (frames_of own)

-- a state to which n events can have led
pub record IsAfter (W : Parts) (Z : Stored) (n : ℕ) (S : State) : Type 0 where
  pub sound : Sound W Z S
  pub rounds : (s : ℕ) → HasBegun n (S.stream s)

-- what stream s did in state S, and what it led to after n + 1 events
pub record IsDone (W : Parts) (Z : Stored) (n : ℕ) (S : State) (s : ℕ) (w : What) (new : ModelValue) : Type 0 where
  pub may : May W Z S s w
  pub state : IsAfter W Z (suc n) (after W S s w)
  pub stands : StandsFor W (after W S s w) new
  pub site : (x : Site) → what_site W s w ≡ Some x → IsSite W x

-- whether what stream s is to do in state S may come; if it may, it is done
abbrev pub MayBeDone : Parts → Stored → ℕ → State → ℕ → What → Bool → ModelValue → Type 0
MayBeDone W Z n S s w true new = IsDone W Z n S s w new
MayBeDone W Z n S s w false new = May W Z S s w → ⊥
