-- What one event may change: its stream, at most one shared object, and the units that one of these keeps.
use Rattle.std.specs.Prelude.{ℕ, ◌≡◌, ◌≢◌, Option, Some}
use Rattle.abt_machine.specs.declared.events.Place.{Place}
use Rattle.abt_machine.specs.declared.events.Place.TheVariants as place
use Rattle.abt_machine.specs.declared.events.Site.{Site}
use Rattle.abt_machine.specs.declared.events.Site.TheVariants as site
use Rattle.abt_machine.specs.declared.events.Spot.TheVariants as spot
use Rattle.abt_machine.specs.declared.workload.Parts.{Parts}
use Rattle.abt_machine.specs.Numbers.{pool_no, unit_no, object_no}
use Rattle.abt_machine.specs.Sites.{object_site}
use Rattle.abt_machine.specs.State.{State}

-- who keeps a unit
pub data Holder : Type 0 where
  OfStream : ℕ → Holder
  OfSite : Site → Holder

-- who keeps unit u at a place
abbrev pub holder : Parts → ℕ → Place → Holder
holder W u place.Unborn = OfSite (site.Desk (unit_no u))
holder W u (place.Pool p t) = OfSite (site.Pool p)
holder W u (place.Hand s) = OfStream s.0
holder W u (place.Next s) = OfStream s.0
holder W u (place.Tray s t) = OfStream s.0
holder W u (place.Frame s d) = OfStream s.0
holder W u (place.Blocked spot.Suspended t) = OfSite (site.Desk (unit_no u))
holder W u (place.Blocked (spot.Join v) t) = OfSite (site.Desk v)
holder W u (place.Blocked (spot.Object x) t) = OfSite (object_site W x.0)
holder W u (place.Ended c) = OfSite (site.Desk (unit_no u))

-- kept by stream s or, if there is one, by object x
abbrev pub Within : ℕ → Option Site → Holder → Type 0
Within s x (OfStream r) = r ≡ s
Within s x (OfSite y) = x ≡ Some y

-- from S to T nothing changes but stream s, object x if there is one, and the units that one of them keeps, before and afterwards
pub record ChangesOnly (W : Parts) (s : ℕ) (x : Option Site) (S T : State) : Type 0 where
  pub streams : (r : ℕ) → r ≢ s → T.stream r ≡ S.stream r
  pub pools : (p : ℕ) → x ≢ Some (site.Pool (pool_no p)) → T.pool_next p ≡ S.pool_next p
  pub desks : (u : ℕ) → x ≢ Some (site.Desk (unit_no u)) → (T.desk u ≡ S.desk u) × (T.join_next u ≡ S.join_next u)
  pub waiters : (y : ℕ) → x ≢ Some (object_site W y) → T.object_next y ≡ S.object_next y
  pub mutexes : (y : ℕ) → x ≢ Some (site.Monitor (object_no y)) → T.mutex y ≡ S.mutex y
  pub eventuals : (y : ℕ) → x ≢ Some (site.Eventual (object_no y)) → T.eventual y ≡ S.eventual y
  pub futures : (y : ℕ) → x ≢ Some (site.Future (object_no y)) → T.future y ≡ S.future y
  pub rwlocks : (y : ℕ) → x ≢ Some (site.Rw (object_no y)) → T.rwlock y ≡ S.rwlock y
  pub others : (u : ℕ) → (Within s x (holder W u (S.place u)) → ⊥) → (T.place u ≡ S.place u) × (T.carried u ≡ S.carried u)
  pub kept : (u : ℕ) → Within s x (holder W u (S.place u)) → Within s x (holder W u (T.place u))

-- the two sites differ, if there are two
abbrev pub Apart : Option Site → Option Site → Type 0
Apart x y = (z : Site) → x ≡ Some z → y ≡ Some z → ⊥
