-- Objects behind locks, as the streams of a wave see them.
use Rattle.std.specs.Prelude.{ℕ, max, ◌≡◌, List, [], slice_get, Option, None, Some}
use Rattle.abt_machine.specs.declared.events.Site.{Site}
use Rattle.abt_machine.specs.Acts as asked
use Rattle.abt_commons.specs.Held.{ObjectsValue, object_at}
use Rattle.abt_commons.specs.Replies.{Told}
use Rattle.abt_commons.specs.Sights.{SiteCall, Leaves, Shows}

-- locks around the objects of a workload, for that number of streams: the clock that was carried to each lock, and of a pass the number of
-- its stream and what it has seen of each lock's line
pub record LocksValue (Lock Pass : Type 0) : Type 0 where
  pub objects : ObjectsValue
  pub streams : ℕ
  pub carried : Lock → ℕ
  pub number : Pass → ℕ
  pub sights : Pass → Lock → List SiteCall

-- each site has a lock of its own
abbrev pub TellsSites : {Lock : Type 0} → (Site → Lock) → Type 0
TellsSites lock = (x y : Site) → lock x ≡ lock y → x ≡ y

module _ {Lock Pass : Type 0} (locks : LocksValue Lock Pass) where
  -- the pass has seen no call
  abbrev pub HasSeenNothing : Pass → Type 0
  HasSeenNothing pass = (l : Lock) → locks.sights pass l ≡ []

  abbrev pub sights_from : Option Pass → Lock → List SiteCall
  sights_from None l = []
  sights_from (Some pass) l = locks.sights pass l

  -- the lock of each site
  module _ (lock : Site → Lock) where
    -- what a pass sees by a call
    abbrev pub Moves : Pass → Site → ℕ → asked.Act → Told → Pass → Type 0
    Moves old x at act told new = Shows locks.objects.workload lock locks.carried (locks.number old) (locks.sights old) x at act told (locks.sights new)

    -- the locks were closed: the line of each leads the objects behind it from what they were to what they are, the passes' calls are its
    -- calls, and the clock that is to be carried on is the greater of the one that was carried to the lock and the last stamp
    pub record AreClosed (clock : ObjectsValue → Lock → ℕ) (passes : List Pass) (held : ObjectsValue) : Type 0 where
      pub workload : held.workload ≡ locks.objects.workload
      pub closing : Lock → ℕ
      pub left : (l : Lock) → Leaves locks.objects.workload lock locks.carried l locks.streams (λ s. sights_from (slice_get passes s)) (object_at locks.objects) (object_at held) (closing l)
      pub clocks : (l : Lock) → clock held l ≡ max (locks.carried l) (closing l)
