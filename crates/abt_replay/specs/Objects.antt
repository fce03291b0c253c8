-- All objects by their sites, and what a call changes among them.
use Rattle.std.specs.Prelude.{ℕ, ◌≡◌, ◌==◌, Bool, false, List, length, slice_get, Option, Some, None}
use Rattle.abt_machine.specs.declared.events.Site.{Site}
use Rattle.abt_machine.specs.declared.events.Site.TheVariants as site
use Rattle.abt_machine.specs.declared.workload.Parts.{Parts}
use Rattle.abt_machine.specs.Acts.{Act, Answer}
use Rattle.abt_machine.specs.Gives.{SiteGives}
use Rattle.abt_machine.specs.Sites.{place_number}
use Rattle.abt_machine.specs.Values.{Object, PoolIs, DeskIs, NotHere, PoolValue, DeskValue}

-- the pools, the desks of all units, and the declared objects, each in order of number
pub record ObjectsValue : Type 0 where
  pub pools : List PoolValue
  pub desks : List DeskValue
  pub slots : List Object

abbrev pub pool_from : Option PoolValue → Object
pool_from None = NotHere
pool_from (Some pool) = PoolIs pool

abbrev pub desk_from : Option DeskValue → Object
desk_from None = NotHere
desk_from (Some desk) = DeskIs desk

abbrev pub slot_from : Option Object → Object
slot_from None = NotHere
slot_from (Some object) = object

-- the object at a site
abbrev pub object_at : ObjectsValue → Site → Object
object_at o (site.Pool p) = pool_from (slice_get o.pools p.0)
object_at o (site.Desk u) = desk_from (slice_get o.desks u.0)
object_at o x = slot_from (slice_get o.slots (place_number x))

-- the number of a declared object's site
abbrev pub slot_of : Site → Option ℕ
slot_of (site.Pool p) = None
slot_of (site.Desk u) = None
slot_of x = Some (place_number x)

abbrev pub is_slot : ℕ → Option ℕ → Bool
is_slot n None = false
is_slot n (Some m) = m == n

-- whether two sites have one place
abbrev pub same_place : Site → Site → Bool
same_place (site.Pool p) (site.Pool q) = p.0 == q.0
same_place (site.Pool p) y = false
same_place (site.Desk u) (site.Desk v) = u.0 == v.0
same_place (site.Desk u) y = false
same_place x y = is_slot (place_number x) (slot_of y)

-- there are as many pools, desks and places of declared objects in both
pub record AreAsMany (one two : ObjectsValue) : Type 0 where
  pub pools : length one.pools ≡ length two.pools
  pub desks : length one.desks ≡ length two.desks
  pub slots : length one.slots ≡ length two.slots

-- there is a place for each pool, each unit's desk and each object that the workload declares, and no other
pub record HasPlaces (W : Parts) (objects : ObjectsValue) : Type 0 where
  pub pools : length objects.pools ≡ length W.pools
  pub desks : length objects.desks ≡ length W.units
  pub slots : length objects.slots ≡ length W.objects

-- the object at the site has answered the act with this, and all others are as they were
pub record Called (old : ObjectsValue) (x : Site) (act : Act) (answer : Answer) (new : ObjectsValue) : Type 0 where
  pub gives : SiteGives (object_at old x) act answer (object_at new x)
  pub others : (y : Site) → same_place x y ≡ false → object_at new y ≡ object_at old y
  pub many : AreAsMany new old
