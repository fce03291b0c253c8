-- Changes that stay with one stream and one site.
use Rattle.std.proofs.Common.{◌≡◌, ◌≢◌, ℕ, List, [], ◌∷◌, Option, Some, refl, sym, subst, inl, inr}
use Rattle.abt_machine.specs.declared.events.Place.{Place}
use Rattle.abt_machine.specs.declared.events.Site.{Site}
use Rattle.abt_machine.specs.declared.events.Site.TheVariants as site
use Rattle.abt_machine.specs.declared.workload.Parts.{Parts}
use Rattle.abt_machine.specs.Numbers.{pool_no, unit_no, object_no}
use Rattle.abt_machine.specs.Maps.{put_all}
use Rattle.abt_machine.specs.Sites.{object_site}
use Rattle.abt_machine.specs.State.{State, Stream, Carried, Desk, Mutex, Future, RwLock}
use Rattle.abt_machine.specs.Changes.{Change, changed, no_change}
use Rattle.abt_laws.specs.Footprint.{Within, holder, ChangesOnly}
use Rattle.abt_laws.proofs.Lists.{EachOf, EachOf-then}
use Rattle.abt_laws.proofs.Keeping.{IsKept}
use Rattle.abt_laws.proofs.Maps.{EachOf-key, KeyOf, KeyOf-cases, put_all-other, put_all-value}

-- a unit that moves is kept by stream s or site x, before and afterwards
abbrev pub MovesWithin : Parts → State → ℕ → Option Site → ℕ × Place → Type 0
MovesWithin W S s x m = IsKept W S s x m.0 × Within s x (holder W m.0 m.1)

-- all that changes is of stream s, of site x, or a unit that one of them keeps
pub record IsLocal (W : Parts) (S : State) (s : ℕ) (x : Option Site) (c : Change) : Type 0 where
  pub moves : EachOf (MovesWithin W S s x) c.moves
  pub carried : EachOf (λ m. IsKept W S s x m.0) c.carried
  pub desks : EachOf (λ m. x ≡ Some (site.Desk (unit_no m.0))) c.desks
  pub pool_next : EachOf (λ m. x ≡ Some (site.Pool (pool_no m.0))) c.pool_next
  pub join_next : EachOf (λ m. x ≡ Some (site.Desk (unit_no m.0))) c.join_next
  pub object_next : EachOf (λ m. x ≡ Some (object_site W m.0)) c.object_next
  pub mutexes : EachOf (λ m. x ≡ Some (site.Monitor (object_no m.0))) c.mutexes
  pub eventuals : EachOf (λ m. x ≡ Some (site.Eventual (object_no m.0))) c.eventuals
  pub futures : EachOf (λ m. x ≡ Some (site.Future (object_no m.0))) c.futures
  pub rwlocks : EachOf (λ m. x ≡ Some (site.Rw (object_no m.0))) c.rwlocks
  pub streams : EachOf (λ m. m.0 ≡ s) c.streams

-- What a local change leaves.

module _ (W : Parts) (S : State) (s : ℕ) (x : Option Site) (c : Change) (here : IsLocal W S s x c) where
  -- who moves is kept beforehand
  pub moved-kept : EachOf (λ m. IsKept W S s x m.0) c.moves
  moved-kept = EachOf-then (MovesWithin W S s x) (λ m. IsKept W S s x m.0) c.moves (λ m w. w.0) here.moves

  moved-to : EachOf (λ (m : ℕ × Place). Within s x (holder W m.0 m.1)) c.moves
  moved-to = EachOf-then (MovesWithin W S s x) (λ m. Within s x (holder W m.0 m.1)) c.moves (λ m w. w.1) here.moves

  -- who moves is kept afterwards
  pub lands-kept : (u : ℕ) → KeyOf u c.moves → Within s x (holder W u (put_all S.place c.moves u))
  lands-kept u k = put_all-value (λ n pl. Within s x (holder W n pl)) S.place c.moves u moved-to k

  -- a part of another site stays
  pub site-stays : {A : Type 0} (at : ℕ → Site) (f : ℕ → A) (ps : List (ℕ × A)) → EachOf (λ (m : ℕ × A). x ≡ Some (at m.0)) ps → (n : ℕ) → x ≢ Some (at n) → put_all f ps n ≡ f n
  site-stays at f ps a n ne = put_all-other f ps n (λ k. ne (EachOf-key (λ m. x ≡ Some (at m)) ps n a k))

  -- another stream stays
  pub stream-stays : (r : ℕ) → r ≢ s → put_all S.stream c.streams r ≡ S.stream r
  stream-stays r ne = put_all-other S.stream c.streams r (λ k. ne (EachOf-key (λ n. n ≡ s) c.streams r here.streams k))

  -- a unit that is kept elsewhere stays
  pub unit-stays : (u : ℕ) → (IsKept W S s x u → ⊥) → (put_all S.place c.moves u ≡ S.place u) × (put_all S.carried c.carried u ≡ S.carried u)
  unit-stays u out = (put_all-other S.place c.moves u (λ k. out (EachOf-key (IsKept W S s x) c.moves u moved-kept k)), put_all-other S.carried c.carried u (λ k. out (EachOf-key (IsKept W S s x) c.carried u here.carried k)))

  pub changes-only : ChangesOnly W s x S (changed S c)
  changes-only = record {
    streams = stream-stays;
    pools = site-stays (λ n. site.Pool (pool_no n)) S.pool_next c.pool_next here.pool_next;
    desks = λ u ne. (site-stays (λ n. site.Desk (unit_no n)) S.desk c.desks here.desks u ne, site-stays (λ n. site.Desk (unit_no n)) S.join_next c.join_next here.join_next u ne);
    waiters = site-stays (object_site W) S.object_next c.object_next here.object_next;
    mutexes = site-stays (λ n. site.Monitor (object_no n)) S.mutex c.mutexes here.mutexes;
    eventuals = site-stays (λ n. site.Eventual (object_no n)) S.eventual c.eventuals here.eventuals;
    futures = site-stays (λ n. site.Future (object_no n)) S.future c.futures here.futures;
    rwlocks = site-stays (λ n. site.Rw (object_no n)) S.rwlock c.rwlocks here.rwlocks;
    others = unit-stays;
    kept = λ u w. elim (KeyOf-cases u c.moves) [
      | inl k ↦ lands-kept u k
      | inr out ↦ subst (λ pl. Within s x (holder W u pl)) (sym (put_all-other S.place c.moves u out)) w
    ];
  }

-- How local changes are made: from none, part by part.

module _ (W : Parts) (S : State) (s : ℕ) (x : Option Site) where
  pub local-none : IsLocal W S s x no_change
  local-none = record { moves = tt; carried = tt; desks = tt; pool_next = tt; join_next = tt; object_next = tt; mutexes = tt; eventuals = tt; futures = tt; rwlocks = tt; streams = tt }

  module _ (c : Change) (local : IsLocal W S s x c) where
    pub local-moves : (ms : List (ℕ × Place)) → EachOf (MovesWithin W S s x) ms → IsLocal W S s x (record c { moves = ms })
    local-moves ms a = record { moves = a; carried = local.carried; desks = local.desks; pool_next = local.pool_next; join_next = local.join_next; object_next = local.object_next; mutexes = local.mutexes; eventuals = local.eventuals; futures = local.futures; rwlocks = local.rwlocks; streams = local.streams }

    pub local-carried : (ms : List (ℕ × Carried)) → EachOf (λ m. IsKept W S s x m.0) ms → IsLocal W S s x (record c { carried = ms })
    local-carried ms a = record { moves = local.moves; carried = a; desks = local.desks; pool_next = local.pool_next; join_next = local.join_next; object_next = local.object_next; mutexes = local.mutexes; eventuals = local.eventuals; futures = local.futures; rwlocks = local.rwlocks; streams = local.streams }

    pub local-desk : (v : ℕ) (d : Desk) → x ≡ Some (site.Desk (unit_no v)) → IsLocal W S s x (record c { desks = (v, d) ∷ [] })
    local-desk v d e = record { moves = local.moves; carried = local.carried; desks = (e, tt); pool_next = local.pool_next; join_next = local.join_next; object_next = local.object_next; mutexes = local.mutexes; eventuals = local.eventuals; futures = local.futures; rwlocks = local.rwlocks; streams = local.streams }

    pub local-pool_next : (p n : ℕ) → x ≡ Some (site.Pool (pool_no p)) → IsLocal W S s x (record c { pool_next = (p, n) ∷ [] })
    local-pool_next p n e = record { moves = local.moves; carried = local.carried; desks = local.desks; pool_next = (e, tt); join_next = local.join_next; object_next = local.object_next; mutexes = local.mutexes; eventuals = local.eventuals; futures = local.futures; rwlocks = local.rwlocks; streams = local.streams }

    pub local-join_next : (v n : ℕ) → x ≡ Some (site.Desk (unit_no v)) → IsLocal W S s x (record c { join_next = (v, n) ∷ [] })
    local-join_next v n e = record { moves = local.moves; carried = local.carried; desks = local.desks; pool_next = local.pool_next; join_next = (e, tt); object_next = local.object_next; mutexes = local.mutexes; eventuals = local.eventuals; futures = local.futures; rwlocks = local.rwlocks; streams = local.streams }

    pub local-object_next : (y n : ℕ) → x ≡ Some (object_site W y) → IsLocal W S s x (record c { object_next = (y, n) ∷ [] })
    local-object_next y n e = record { moves = local.moves; carried = local.carried; desks = local.desks; pool_next = local.pool_next; join_next = local.join_next; object_next = (e, tt); mutexes = local.mutexes; eventuals = local.eventuals; futures = local.futures; rwlocks = local.rwlocks; streams = local.streams }

    pub local-mutex : (y : ℕ) (m : Mutex) → x ≡ Some (site.Monitor (object_no y)) → IsLocal W S s x (record c { mutexes = (y, m) ∷ [] })
    local-mutex y m e = record { moves = local.moves; carried = local.carried; desks = local.desks; pool_next = local.pool_next; join_next = local.join_next; object_next = local.object_next; mutexes = (e, tt); eventuals = local.eventuals; futures = local.futures; rwlocks = local.rwlocks; streams = local.streams }

    pub local-eventual : (y : ℕ) (v : Option ℕ) → x ≡ Some (site.Eventual (object_no y)) → IsLocal W S s x (record c { eventuals = (y, v) ∷ [] })
    local-eventual y v e = record { moves = local.moves; carried = local.carried; desks = local.desks; pool_next = local.pool_next; join_next = local.join_next; object_next = local.object_next; mutexes = local.mutexes; eventuals = (e, tt); futures = local.futures; rwlocks = local.rwlocks; streams = local.streams }

    pub local-future : (y : ℕ) (f : Future) → x ≡ Some (site.Future (object_no y)) → IsLocal W S s x (record c { futures = (y, f) ∷ [] })
    local-future y f e = record { moves = local.moves; carried = local.carried; desks = local.desks; pool_next = local.pool_next; join_next = local.join_next; object_next = local.object_next; mutexes = local.mutexes; eventuals = local.eventuals; futures = (e, tt); rwlocks = local.rwlocks; streams = local.streams }

    pub local-rwlock : (y : ℕ) (k : RwLock) → x ≡ Some (site.Rw (object_no y)) → IsLocal W S s x (record c { rwlocks = (y, k) ∷ [] })
    local-rwlock y k e = record { moves = local.moves; carried = local.carried; desks = local.desks; pool_next = local.pool_next; join_next = local.join_next; object_next = local.object_next; mutexes = local.mutexes; eventuals = local.eventuals; futures = local.futures; rwlocks = (e, tt); streams = local.streams }

    pub local-stream : (own : Stream) → IsLocal W S s x (record c { streams = (s, own) ∷ [] })
    local-stream own = record { moves = local.moves; carried = local.carried; desks = local.desks; pool_next = local.pool_next; join_next = local.join_next; object_next = local.object_next; mutexes = local.mutexes; eventuals = local.eventuals; futures = local.futures; rwlocks = local.rwlocks; streams = (refl, tt) }
