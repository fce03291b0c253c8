-- The clocks of streams and objects along a journal.
use Rattle.std.specs.Prelude.{ℕ, ◌≡◌, ◌<◌, ◌≤◌, ◌⊎◌, Bool, true, false, List, [], ◌∷◌, ◌++◌, length, Option, None, Some, Contains, get_or, slice_set}
use Rattle.abt_machine.specs.declared.events.Event.{Event}
use Rattle.abt_machine.specs.declared.events.Site.{Site}
use Rattle.abt_machine.specs.declared.events.Site.TheVariants as site
use Rattle.abt_machine.specs.declared.workload.Parts.{Parts}
use Rattle.abt_machine.specs.Queues.{last}
use Rattle.abt_machine.specs.EventSites.{event_site}
use Rattle.abt_machine.specs.Sites.{place_number}
use Rattle.abt_machine.specs.Stamps.{Follows, Stamped}
use Rattle.abt_calls.specs.Asking.{IsSite}

-- the last event, and the greatest stamp of each stream, each pool, each desk and each declared object, 0 for none
pub record ClocksValue : Type 0 where
  pub last : Option Event
  pub streams : List ℕ
  pub pools : List ℕ
  pub desks : List ℕ
  pub slots : List ℕ

-- the clock of a site
abbrev pub clock_at : ClocksValue → Site → ℕ
clock_at c (site.Pool p) = get_or c.pools p.0 0
clock_at c (site.Desk u) = get_or c.desks u.0 0
clock_at c x = get_or c.slots (place_number x) 0

-- the clock of the site, if there is one
abbrev pub clock_of : ClocksValue → Option Site → ℕ
clock_of c None = 0
clock_of c (Some x) = clock_at c x

-- there is a clock for each stream and for each site
pub record HasClocks (W : Parts) (c : ClocksValue) : Type 0 where
  pub streams : length c.streams ≡ W.streams
  pub pools : length c.pools ≡ length W.pools
  pub desks : length c.desks ≡ length W.units
  pub slots : length c.slots ≡ length W.objects

-- t is the greatest stamp of the events of J with that property, 0 for none
pub record IsLatest (J : List Event) (P : Event → Type 0) (t : ℕ) : Type 0 where
  pub above : (e : Event) → Contains J e → P e → e.stamp ≤ t
  pub reached : (t ≡ 0) ⊎ ((e : Event) × Contains J e × P e × (e.stamp ≡ t))

-- the events of a stream, and those that touch an object
abbrev pub IsOfStream : ℕ → Event → Type 0
IsOfStream s e = e.stream.0 ≡ s

abbrev pub Touches : Parts → Site → Event → Type 0
Touches W x e = event_site W e ≡ Some x

-- the clocks after the journal
pub record AreClocks (W : Parts) (J : List Event) (c : ClocksValue) : Type 0 where
  pub has : HasClocks W c
  pub last_is : c.last ≡ last J
  pub streams : (s : ℕ) → IsLatest J (IsOfStream s) (get_or c.streams s 0)
  pub sites : (x : Site) → IsSite W x → IsLatest J (Touches W x) (clock_at c x)

-- the event's stamp may follow at once upon that of the last event, if there was one
abbrev pub FollowsLast : Option Event → Event → Type 0
FollowsLast None e = e.stamp ≡ 1
FollowsLast (Some f) e = Follows f e

-- the event's stamp may come next: it follows upon the last one, and is above the clocks of its stream and of its site
pub record IsAllowed (c : ClocksValue) (x : Option Site) (e : Event) : Type 0 where
  pub follows : FollowsLast c.last e
  pub stream : get_or c.streams e.stream.0 0 < e.stamp
  pub site : clock_of c x < e.stamp

-- the clock of the site is t
abbrev pub with_clock : Site → ℕ → ClocksValue → ClocksValue
with_clock (site.Pool p) t c = record c { pools = slice_set c.pools p.0 t }
with_clock (site.Desk u) t c = record c { desks = slice_set c.desks u.0 t }
with_clock x t c = record c { slots = slice_set c.slots (place_number x) t }

-- the clock of the site is t, if there is a site
abbrev pub with_site : Option Site → ℕ → ClocksValue → ClocksValue
with_site None t c = c
with_site (Some x) t c = with_clock x t c

-- the event at that site is the last, and its stamp is the clock of its stream and of its site
abbrev pub noted : Option Site → Event → ClocksValue → ClocksValue
noted x e c = with_site x e.stamp (record c { last = Some e; streams = slice_set c.streams e.stream.0 e.stamp })

-- whether the event's stamp may come next after the events J; if it may, it is noted
abbrev pub Stamps : Parts → List Event → Event → Bool → ClocksValue → Type 0
Stamps W J e true new = Stamped W (J ++ e ∷ []) × AreClocks W (J ++ e ∷ []) new
Stamps W J e false new = Stamped W (J ++ e ∷ []) → ⊥
