-- The rows of operations are the same in states that are alike at the stream and the site of the row.
use Rattle.std.proofs.Common.{◌≡◌, ℕ, suc, ◌+◌, ◌==◌, if◌then◌else◌, Bool, List, [], ◌∷◌, ◌++◌, length, map, Option, Some, None, refl, ◌∙◌, ap, ◌⊎◌, inl, inr}
use Rattle.abt_machine.specs.declared.events.Place.{Place}
use Rattle.abt_machine.specs.declared.events.Place.TheVariants as place
use Rattle.abt_machine.specs.declared.events.Site.{Site}
use Rattle.abt_machine.specs.declared.events.Site.TheVariants as site
use Rattle.abt_machine.specs.declared.events.Spot.TheVariants as spot
use Rattle.abt_machine.specs.declared.workload.Parts.{Parts}
use Rattle.abt_machine.specs.Numbers.{unit_no, object_no}
use Rattle.abt_machine.specs.Workloads.{size_of}
use Rattle.abt_machine.specs.Sites.{object_site}
use Rattle.abt_machine.specs.Monitors.{number_of}
use Rattle.abt_machine.specs.Queues.{first, first_alone}
use Rattle.abt_machine.specs.Carrying.{advanced, newborn, with_acc}
use Rattle.abt_machine.specs.RwLocks.{passed_on, woken}
use Rattle.abt_machine.specs.State.{State, Carried, Mutex, Future, RwLock}
use Rattle.abt_machine.specs.Lines.{Waiting, hand, standing, tray_end}
use Rattle.abt_machine.specs.Changes.{tray_moves, waiting_moves, goes_with, goes_on}
use Rattle.abt_machine.specs.Steps.{set_owner, wakes, begins, joins, waits, locks, hands_over, releases, queues, passes, receives, gives_all, awaits, fills, arrives, gives_up}
use Rattle.abt_machine.specs.Values.{RwLockValue, owned_at, rwlock_value, waiters_at}
use Rattle.abt_laws.specs.Footprint.{Within, holder}
use Rattle.abt_laws.proofs.Lists.{EachOf}
use Rattle.abt_laws.proofs.Keeping.{IsKept, standing-kept}
use Rattle.abt_laws.proofs.Alike.{IsAlike, seen-alike, standing-alike, tray_end-alike, caller-alike}

-- One lemma for each shape of row, of unit u in the hand of stream s.

module _ (W : Parts) (S T : State) (s u : ℕ) (x : Option Site) (alike : IsAlike W s x S T) (in_hand : hand W S s ≡ Some u) where
  same-caller : S.carried u ≡ T.carried u
  same-caller = caller-alike W s x S T alike u in_hand

  same-end : tray_end W S s ≡ tray_end W T s
  same-end = tray_end-alike W s x S T alike

  same-waiters : (y : ℕ) → x ≡ Some (object_site W y) → standing W S (Waiting y) ≡ standing W T (Waiting y)
  same-waiters y e = standing-alike W s x S T alike (Waiting y) e

  pub alike-goes_on : goes_on S u ≡ goes_on T u
  alike-goes_on = ap (goes_with u) same-caller

  pub alike-wakes : (us vs : List ℕ) → us ≡ vs → wakes W S s u us ≡ wakes W T s u vs
  alike-wakes us vs e = λ i. record (alike-goes_on i) { moves = tray_moves s (same-end i) (e i) }

  pub alike-begins : (v p : ℕ) → S.carried v ≡ T.carried v → S.desk v ≡ T.desk v → begins W S s u v p ≡ begins W T s u v p
  alike-begins v p k d = λ i. record (alike-wakes (v ∷ []) (v ∷ []) refl i) {
    carried = (u, advanced (same-caller i)) ∷ (v, newborn p (k i)) ∷ [];
    desks = (v, record (d i) { life = suc (d i).life }) ∷ [];
  }

  joins-at : (v : ℕ) (pl : Place) → S.join_next v ≡ T.join_next v → joins S u v pl ≡ joins T u v pl
  joins-at v (place.Ended c) n = alike-goes_on
  joins-at v _ n = λ i. record (alike-goes_on i) { moves = (u, place.Blocked (spot.Join (unit_no v)) (n i)) ∷ []; join_next = (v, suc (n i)) ∷ [] }

  joins-seen : (v : ℕ) (pl : Place) → x ≡ Some (site.Desk (unit_no v)) → Within s x (holder W v pl) ⊎ (joins T u v pl ≡ joins T u v place.Unborn)
  joins-seen v (place.Ended c) e = inl e
  joins-seen v _ e = inr refl

  pub alike-joins : (v : ℕ) → x ≡ Some (site.Desk (unit_no v)) → joins S u v (S.place v) ≡ joins T u v (T.place v)
  alike-joins v e = joins-at v (S.place v) (alike.join_next v e) ∙ seen-alike W s x S T alike (joins T u v) (joins T u v place.Unborn) v (λ pl. joins-seen v pl e)

  alike-waits : (y : ℕ) → x ≡ Some (object_site W y) → waits S u y ≡ waits T u y
  alike-waits y e =
      let n : S.object_next y ≡ T.object_next y = alike.object_next y e in
      λ i. record (alike-goes_on i) { moves = (u, place.Blocked (spot.Object (object_no y)) (n i)) ∷ []; object_next = (y, suc (n i)) ∷ [] }

  locks-at : (y : ℕ) (o : Option ℕ) → S.mutex y ≡ T.mutex y → x ≡ Some (object_site W y) → locks S u y o ≡ locks T u y o
  locks-at y None m e = λ i. record (alike-goes_on i) { mutexes = (y, set_owner (Some u) (m i)) ∷ [] }
  locks-at y (Some v) m e = alike-waits y e

  pub alike-locks : (y : ℕ) → x ≡ Some (site.Monitor (object_no y)) → x ≡ Some (object_site W y) → locks S u y (S.mutex y).owner ≡ locks T u y (T.mutex y).owner
  alike-locks y m e = locks-at y (S.mutex y).owner (alike.mutex y m) e ∙ ap (λ (k : Mutex). locks T u y k.owner) (alike.mutex y m)

  pub alike-hands_over : (y : ℕ) → x ≡ Some (site.Monitor (object_no y)) → x ≡ Some (object_site W y) → hands_over W S s u y ≡ hands_over W T s u y
  alike-hands_over y m e =
      let w : standing W S (Waiting y) ≡ standing W T (Waiting y) = same-waiters y e in
      let k : S.mutex y ≡ T.mutex y = alike.mutex y m in
      λ i. record (alike-wakes _ _ (ap first_alone w) i) { mutexes = (y, set_owner (first (w i)) (k i)) ∷ [] }

  pub alike-releases : (y z : ℕ) → x ≡ Some (site.Monitor (object_no z)) → x ≡ Some (object_site W y) → x ≡ Some (object_site W z) → releases W S s u y z ≡ releases W T s u y z
  alike-releases y z m e f =
      let w : standing W S (Waiting z) ≡ standing W T (Waiting z) = same-waiters z f in
      let n : S.object_next y ≡ T.object_next y = alike.object_next y e in
      λ i. record (alike-hands_over z m f i) {
        moves = (u, place.Blocked (spot.Object (object_no y)) (n i)) ∷ tray_moves s (same-end i) (first_alone (w i));
        object_next = (y, suc (n i)) ∷ [];
      }

  alike-queues : (z : ℕ) (vs : List ℕ) → x ≡ Some (object_site W z) → queues S u z vs ≡ queues T u z vs
  alike-queues z vs e =
      let n : S.object_next z ≡ T.object_next z = alike.object_next z e in
      λ i. record (alike-goes_on i) { moves = waiting_moves z (n i) vs; object_next = (z, n i + length vs) ∷ [] }

  passes-at : (z : ℕ) (o : Option ℕ) (vs : List ℕ) → S.mutex z ≡ T.mutex z → x ≡ Some (object_site W z) → passes W S s u z o vs ≡ passes W T s u z o vs
  passes-at z o [] m e = alike-goes_on
  passes-at z (Some v) (w ∷ ws) m e = alike-queues z (w ∷ ws) e
  passes-at z None (w ∷ ws) m e =
      let n : S.object_next z ≡ T.object_next z = alike.object_next z e in
      λ i. record (alike-queues z ws e i) {
        moves = waiting_moves z (n i) ws ++ tray_moves s (same-end i) (w ∷ []);
        mutexes = (z, set_owner (Some w) (m i)) ∷ [];
      }

  -- those that come from condition y, by what is taken of its waiters
  pub alike-passes : (z y : ℕ) (taken : List ℕ → List ℕ) → x ≡ Some (site.Monitor (object_no z)) → x ≡ Some (object_site W z) → x ≡ Some (object_site W y) → passes W S s u z (S.mutex z).owner (taken (standing W S (Waiting y))) ≡ passes W T s u z (T.mutex z).owner (taken (standing W T (Waiting y)))
  alike-passes z y taken m e f =
      let w : standing W S (Waiting y) ≡ standing W T (Waiting y) = same-waiters y f in
      let k : S.mutex z ≡ T.mutex z = alike.mutex z m in
      passes-at z (S.mutex z).owner (taken (standing W S (Waiting y))) k e ∙ (λ i. passes W T s u z (k i).owner (taken (w i)))

  -- what units that are kept here carry, by what is made of it
  carried-alike : {A : Type 0} (f : ℕ → Carried → A) (us : List ℕ) → EachOf (IsKept W S s x) us → map (λ v. f v (S.carried v)) us ≡ map (λ v. f v (T.carried v)) us
  carried-alike f [] a = refl
  carried-alike f (v ∷ us) a = λ i. f v ((alike.units v (inl a.0)).1 i) ∷ carried-alike f us a.1 i

  pub alike-gives_all : (y value other : ℕ) → value ≡ other → x ≡ Some (object_site W y) → gives_all W S s u y value ≡ gives_all W T s u y other
  alike-gives_all y value other same e =
      let w : standing W S (Waiting y) ≡ standing W T (Waiting y) = same-waiters y e in
      let r : map (receives S value) (standing W S (Waiting y)) ≡ map (receives T value) (standing W S (Waiting y)) = carried-alike (λ v c. (v, with_acc value c)) (standing W S (Waiting y)) (standing-kept W S s x (Waiting y) e) in
      let all : map (receives S value) (standing W S (Waiting y)) ≡ map (receives T other) (standing W T (Waiting y)) = r ∙ (λ i. map (receives T (same i)) (w i)) in
      λ i. record (alike-wakes _ _ w i) { carried = (u, advanced (same-caller i)) ∷ all i }

  awaits-at : (y : ℕ) (o : Option ℕ) → x ≡ Some (object_site W y) → awaits S u y o ≡ awaits T u y o
  awaits-at y None e = alike-waits y e
  awaits-at y (Some value) e = ap (λ c. goes_with u (with_acc value c)) same-caller

  pub alike-awaits : (y : ℕ) (o p : Option ℕ) → o ≡ p → x ≡ Some (object_site W y) → awaits S u y o ≡ awaits T u y p
  alike-awaits y o p same e = awaits-at y o e ∙ ap (awaits T u y) same

  fills-at : (y : ℕ) (f : Future) → x ≡ Some (object_site W y) → fills W S s u y f ≡ fills W T s u y f
  fills-at y f e = λ i. record (if f.filled == size_of W y then alike-gives_all y f.value f.value refl e i else alike-goes_on i) { futures = (y, f) ∷ [] }

  pub alike-fills : (y : ℕ) (f g : Future) → f ≡ g → x ≡ Some (object_site W y) → fills W S s u y f ≡ fills W T s u y g
  alike-fills y f g same e = fills-at y f e ∙ ap (fills W T s u y) same

  pub alike-arrives : (y : ℕ) → x ≡ Some (object_site W y) → arrives W S s u y ≡ arrives W T s u y
  alike-arrives y e =
      let w : standing W S (Waiting y) ≡ standing W T (Waiting y) = same-waiters y e in
      λ i. if suc (length (w i)) == size_of W y then alike-wakes _ _ w i else alike-waits y e i

  -- a reader-writer lock, with its waiters
  same-rwlock : (y : ℕ) → x ≡ Some (site.Rw (object_no y)) → x ≡ Some (object_site W y) → rwlock_value W S y ≡ rwlock_value W T y
  same-rwlock y m e =
      let all : waiters_at W S y ≡ waiters_at W T y =
      carried-alike (λ v c. record { number = v; carried = c }) (standing W S (Waiting y)) (standing-kept W S s x (Waiting y) e) ∙ ap (map (owned_at T)) (same-waiters y e) in
      λ i. record { lock = alike.rwlock y m i; waiters = all i }

  -- unit u holds a reader-writer lock if this test of the lock is true, else it waits
  pub alike-goes_or_waits : (y : ℕ) (test : RwLockValue → Bool) (held wanted : RwLock → RwLock) → x ≡ Some (site.Rw (object_no y)) → x ≡ Some (object_site W y) →
      (if test (rwlock_value W S y) then record (goes_on S u) { rwlocks = (y, held (S.rwlock y)) ∷ [] } else record (waits S u y) { rwlocks = (y, wanted (S.rwlock y)) ∷ [] })
      ≡ (if test (rwlock_value W T y) then record (goes_on T u) { rwlocks = (y, held (T.rwlock y)) ∷ [] } else record (waits T u y) { rwlocks = (y, wanted (T.rwlock y)) ∷ [] })
  alike-goes_or_waits y test held wanted m e =
      let k : S.rwlock y ≡ T.rwlock y = alike.rwlock y m in
      λ i. if test (same-rwlock y m e i) then record (alike-goes_on i) { rwlocks = (y, held (k i)) ∷ [] } else record (alike-waits y e i) { rwlocks = (y, wanted (k i)) ∷ [] }

  -- a reader-writer lock is given up, by what this makes of it
  pub alike-gives_up : (y : ℕ) (leave : RwLockValue → RwLockValue) → x ≡ Some (site.Rw (object_no y)) → x ≡ Some (object_site W y) →
      gives_up W S s u y (leave (rwlock_value W S y)) ≡ gives_up W T s u y (leave (rwlock_value W T y))
  alike-gives_up y leave m e =
      let w : rwlock_value W S y ≡ rwlock_value W T y = same-rwlock y m e in
      λ i. record (alike-wakes _ _ (ap (λ v. map number_of (woken (leave v))) w) i) { rwlocks = (y, (passed_on (leave (w i))).lock) ∷ [] }
