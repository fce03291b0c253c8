-- Units that wait at things, site by site.
use Rattle.std.proofs.Common.{◌≡◌, ℕ, zero, suc, ◌+◌, ◌<◌, if◌then◌else◌, Bool, true, false, List, [], ◌∷◌, map, take, length, slice_get, get_or, Option, Some, None, refl, sym, ◌∙◌, ap, subst, arith}
use Rattle.std.specs.Prelude.{Contains, cond, count_by, option_map}
use Rattle.std.specs.List.{All, find}
use Rattle.std.proofs.lemmas.Bool.{eqb-true, false≢true}
use Rattle.std.proofs.lemmas.List.{length-map}
use Rattle.std.proofs.lemmas.List.Sums.{sum_by-cons}
use Rattle.std.proofs.lemmas.Option.{slice_get-map, slice_get-get_or, slice_get_within}
use Rattle.abt_machine.specs.declared.events.Shown.TheVariants as shows
use Rattle.abt_machine.specs.declared.events.Site.{Site}
use Rattle.abt_machine.specs.declared.events.Site.TheVariants as site
use Rattle.abt_machine.specs.declared.numbers.ObjectNo.{ObjectNo}
use Rattle.abt_machine.specs.declared.numbers.PoolNo.{PoolNo}
use Rattle.abt_machine.specs.declared.numbers.UnitNo.{UnitNo}
use Rattle.abt_machine.specs.declared.operations.Thing.{Thing}
use Rattle.abt_machine.specs.declared.operations.Thing.TheVariants as thing
use Rattle.abt_machine.specs.declared.workload.Parts.{Parts}
use Rattle.abt_machine.specs.Acts.{Signal}
use Rattle.abt_machine.specs.Numbers.{object_no}
use Rattle.abt_machine.specs.Operations.{IsMutex, IsEventual, IsFuture, IsBarrier, IsRwLock}
use Rattle.abt_machine.specs.Pools.{is_unit}
use Rattle.abt_machine.specs.Start.{start}
use Rattle.abt_machine.specs.Valid.{IsValid}
use Rattle.abt_machine.specs.Workloads.{IsCondition, condition_number, is_condition_of, mutex_from, mutex_of, thing_at}
use Rattle.abt_machine.specs.Values.{Owned, Object, conditions_from, conditions_of, monitor_at, object_of, waiters_at}
use Rattle.abt_machine.proofs.Declared.{mutex-declared}
use Rattle.abt_laws.proofs.Options.{none≢some, some-injective}
use Rattle.abt_simulation.proofs.ConditionLists.{condition-at}
use Rattle.abt_calls.specs.Allowed.{Allows}
use Rattle.abt_calls.specs.Asking.{IsSite}
use Rattle.abt_calls.specs.Showing.{Row, rows_as, rows_of_object}
use Rattle.abt_calls.proofs.SiteCalls.{condition-below}
use Rattle.abt_commons.specs.Held.{IsWhole, ObjectsValue, OneValue, objects_value, numbered_object, object_at, object_from}
use Rattle.abt_commons.specs.Reading.{HoldNone, IsHeldAs, is_row_of, object_of_thing, rows_at_site, waiters_as, waiters_at_thing, waiters_by, waiters_of_condition}
use Rattle.abt_commons.specs.Sites.{barrier_number, eventual_number, future_number, monitor_number, rwlock_number, sites, thing_number}
use Rattle.abt_commons.proofs.Rows.{IsOther, as-other, as-there, row-there, rows-other, monitor-other, monitor-there, condition-there, eventual-rows, future-rows, barrier-rows, rwlock-rows}

-- Conditions by their numbers.

condition-by : (m : ℕ) (t : Thing) → is_condition_of m t ≡ true → (n : ObjectNo) × (t ≡ thing.Cond n) × (n.0 ≡ m)
condition-by m (thing.Cond n) e = (n, refl, eqb-true n.0 m e)
condition-by m _ e = absurd (false≢true e)

-- the thing at a place of the list of conditions
record IsAt (m i k c : ℕ) (ts : List Thing) : Type 0 where
  x : ℕ
  t : Thing
  number : c ≡ i + x
  there : slice_get ts x ≡ Some t
  condition : is_condition_of m t ≡ true
  counted : count_by (is_condition_of m) (take x ts) ≡ k

more : (m i n j c : ℕ) (b : Bool) (r : Thing) (rs : List Thing) → is_condition_of m r ≡ b → (if b then 1 else 0) + n ≡ j → IsAt m (suc i) n c rs → IsAt m i j c (r ∷ rs)
more m i n j c b r rs is counts a = record {
  x = suc a.x;
  t = a.t;
  number = (let q = a.number in omega (arith, q));
  there = a.there;
  condition = a.condition;
  counted = sum_by-cons (λ t. cond (is_condition_of m t) 1 0) r (take a.x rs) ∙ (ap (λ d. (if d then 1 else 0) + count_by (is_condition_of m) (take a.x rs)) is ∙ (ap (λ q. (if b then 1 else 0) + q) a.counted ∙ counts));
}

place-by : (m i c : ℕ) (b : Bool) (r : Thing) (rs : List Thing) → is_condition_of m r ≡ b → ((j : ℕ) → slice_get (conditions_from m (suc i) rs) j ≡ Some c → IsAt m (suc i) j c rs)
    → (k : ℕ) → slice_get (if b then i ∷ conditions_from m (suc i) rs else conditions_from m (suc i) rs) k ≡ Some c → IsAt m i k c (r ∷ rs)
place-by m i c true r rs is later zero f = record { x = 0; t = r; number = (let q = some-injective f in omega (arith, q)); there = refl; condition = is; counted = refl }
place-by m i c true r rs is later (suc j) f = more m i j (suc j) c true r rs is (omega arith) (later j f)
place-by m i c false r rs is later j f = more m i j j c false r rs is (omega arith) (later j f)

at-place : (m i k c : ℕ) (ts : List Thing) → slice_get (conditions_from m i ts) k ≡ Some c → IsAt m i k c ts
at-place m i k c [] e = absurd (none≢some e)
at-place m i k c (r ∷ rs) e = place-by m i c (is_condition_of m r) r rs refl (λ j f. at-place m (suc i) j c rs f) k e

-- the k-th condition of a mutex is one of its conditions, and has number k
condition-numbered : (W : Parts) (m k c : ℕ) → slice_get (conditions_of W m) k ≡ Some c → IsCondition W c × (mutex_of W c ≡ m) × (condition_number W c ≡ k)
condition-numbered W m k c e =
    let a = at-place m 0 k c W.objects e in
    let n = condition-by m a.t a.condition in
    let x : a.x ≡ c = (let q = a.number in omega (arith, q)) in
    let is : thing_at W c ≡ Some (thing.Cond n.0) = ap (thing_at W) (sym x) ∙ (a.there ∙ ap (λ t. Some t) n.1) in
    let mutex : mutex_of W c ≡ m = ap (mutex_from c) is ∙ n.2 in
    ((n.0, is), mutex, ap (λ q. count_by (is_condition_of q) (take c W.objects)) mutex ∙ (ap (λ q. count_by (is_condition_of m) (take q W.objects)) (sym x) ∙ a.counted))

module _ (held : ObjectsValue) where
  abbrev W : Parts
  W = held.workload

  abbrev first : Site → Object
  first x = object_of W (start W) x

  monitor-here : (x : ObjectNo) → IsMutex W x.0 → object_at held (site.Monitor x) ≡ object_of_thing held x.0
  monitor-here x is = ap (λ t. numbered_object held.objects (first (site.Monitor x)) (monitor_number (thing_number W x.0) t)) is

  eventual-here : (x : ObjectNo) → IsEventual W x.0 → rows_at_site held (site.Eventual x) ≡ rows_as (shows.Object x) (waiters_as thing.Eventual (object_of_thing held x.0))
  eventual-here x is = ap (λ t. rows_of_object W (site.Eventual x) (numbered_object held.objects (first (site.Eventual x)) (eventual_number (thing_number W x.0) t))) is ∙ eventual-rows W x (object_of_thing held x.0)

  future-here : (x : ObjectNo) (is : IsFuture W x.0) → rows_at_site held (site.Future x) ≡ rows_as (shows.Object x) (waiters_as (thing.Future is.0 is.1) (object_of_thing held x.0))
  future-here x is = ap (λ t. rows_of_object W (site.Future x) (numbered_object held.objects (first (site.Future x)) (future_number (thing_number W x.0) t))) is.2 ∙ future-rows W x is.0 is.1 (object_of_thing held x.0)

  barrier-here : (x : ObjectNo) (is : IsBarrier W x.0) → rows_at_site held (site.Barrier x) ≡ rows_as (shows.Object x) (waiters_as (thing.Barrier is.0) (object_of_thing held x.0))
  barrier-here x is = ap (λ t. rows_of_object W (site.Barrier x) (numbered_object held.objects (first (site.Barrier x)) (barrier_number (thing_number W x.0) t))) is.1 ∙ barrier-rows W x is.0 (object_of_thing held x.0)

  rwlock-here : (x : ObjectNo) → IsRwLock W x.0 → rows_at_site held (site.Rw x) ≡ rows_as (shows.Object x) (waiters_as thing.RwLock (object_of_thing held x.0))
  rwlock-here x is = ap (λ t. rows_of_object W (site.Rw x) (numbered_object held.objects (first (site.Rw x)) (rwlock_number (thing_number W x.0) t))) is ∙ rwlock-rows W x (object_of_thing held x.0)

  -- No unit u.

  module _ (u : ℕ) where
    -- it waits at no thing
    abbrev WaitsNowhere : Type 0
    WaitsNowhere = (x : ℕ) → x < length W.objects → find (is_unit u) (waiters_at_thing held x) ≡ None

    none-waits : WaitsNowhere → (x : ℕ) (t : Thing) → thing_at W x ≡ Some t → find (is_unit u) (waiters_by held x (Some t)) ≡ None
    none-waits none x t is = ap (λ s. find (is_unit u) (waiters_by held x s)) (sym is) ∙ none x (slice_get_within W.objects x t is)

    none-at-condition : WaitsNowhere → (m k c : ℕ) → slice_get (conditions_of W m) k ≡ Some c → find (is_unit u) (waiters_of_condition k (object_of_thing held m)) ≡ None
    none-at-condition none m k c at =
        let n = condition-numbered W m k c at in
        let mutex : n.0.0.0 ≡ m = sym (ap (mutex_from c) n.0.1) ∙ n.1 in
        subst (λ q. find (is_unit u) (waiters_of_condition k (object_of_thing held q)) ≡ None) mutex
        (subst (λ j. find (is_unit u) (waiters_of_condition j (object_of_thing held n.0.0.0)) ≡ None) n.2 (none-waits none c (thing.Cond n.0.0) n.0.1))

    -- of units that wait for x, all that stand at the site
    others-there : (s : Site) (x : ObjectNo) (os : List Owned) → rows_at_site held s ≡ rows_as (shows.Object x) os → find (is_unit u) os ≡ None → All (IsOther u) (rows_at_site held s)
    others-there s x os are none = subst (All (IsOther u)) (sym are) (as-other u (shows.Object x) os none)

    pub hold-none : ((p : PoolNo) → p.0 < length W.pools → find (is_row_of u) (rows_at_site held (site.Pool p)) ≡ None)
        → ((v : UnitNo) → v.0 < length W.units → find (is_row_of u) (rows_at_site held (site.Desk v)) ≡ None) → WaitsNowhere → HoldNone held u
    hold-none pools desks none (site.Pool p) is = rows-other u (rows_at_site held (site.Pool p)) (pools p is)
    hold-none pools desks none (site.Desk v) is = rows-other u (rows_at_site held (site.Desk v)) (desks v is)
    hold-none pools desks none (site.Monitor x) is =
        subst (λ o. All (IsOther u) (rows_of_object W (site.Monitor x) o)) (sym (monitor-here x is))
        (monitor-other u W x (object_of_thing held x.0) (none-waits none x.0 thing.Mutex is) (λ k c at. none-at-condition none x.0 k c at))
    hold-none pools desks none (site.Eventual x) is = others-there (site.Eventual x) x (waiters_as thing.Eventual (object_of_thing held x.0)) (eventual-here x is) (none-waits none x.0 thing.Eventual is)
    hold-none pools desks none (site.Future x) is = others-there (site.Future x) x (waiters_as (thing.Future is.0 is.1) (object_of_thing held x.0)) (future-here x is) (none-waits none x.0 (thing.Future is.0 is.1) is.2)
    hold-none pools desks none (site.Barrier x) is = others-there (site.Barrier x) x (waiters_as (thing.Barrier is.0) (object_of_thing held x.0)) (barrier-here x is) (none-waits none x.0 (thing.Barrier is.0) is.1)
    hold-none pools desks none (site.Rw x) is = others-there (site.Rw x) x (waiters_as thing.RwLock (object_of_thing held x.0)) (rwlock-here x is) (none-waits none x.0 thing.RwLock is)

    -- A unit u.

    pub held-at : (x : Site) (row : Row) → IsSite W x → find (is_row_of u) (rows_at_site held x) ≡ Some row → IsHeldAs held u row
    held-at x row is found = let r = row-there u (rows_at_site held x) row found in record { site = x; declared = is; there = r.0; number = r.1 }

    from-object : (x : Site) (object : Object) (row : Row) → IsSite W x → object_at held x ≡ object → Contains (rows_of_object W x object) row × (row.1.number ≡ u) → IsHeldAs held u row
    from-object x object row is here there = record { site = x; declared = is; there = subst (λ o. Contains (rows_of_object W x o) row) (sym here) there.0; number = there.1 }

    -- one of the units that wait for x, all that stand at the site
    one-there : (s : Site) (x : ObjectNo) (os : List Owned) (o : Owned) → IsSite W s → rows_at_site held s ≡ rows_as (shows.Object x) os → find (is_unit u) os ≡ Some o → IsHeldAs held u (shows.Object x, o)
    one-there s x os o is are found =
        let r = as-there u (shows.Object x) os o found in
        record { site = s; declared = is; there = subst (λ rows. Contains rows (shows.Object x, o)) (sym are) r.0; number = r.1 }

    held-by : IsValid W → (x : ObjectNo) (o : Owned) (t : Option Thing) → thing_at W x.0 ≡ t → find (is_unit u) (waiters_by held x.0 t) ≡ Some o → IsHeldAs held u (shows.Object x, o)
    held-by valid x o None is found = absurd (none≢some found)
    held-by valid x o (Some thing.Mutex) is found = from-object (site.Monitor x) (object_of_thing held x.0) (shows.Object x, o) is (monitor-here x is) (monitor-there u W x (object_of_thing held x.0) o found)
    held-by valid x o (Some (thing.Cond m)) is found =
        let mutex : mutex_of W x.0 ≡ m.0 = ap (mutex_from x.0) is in
        let declared : IsMutex W m.0 = subst (IsMutex W) mutex (mutex-declared W x.0 valid (m, is)) in
        let at : slice_get (conditions_of W m.0) (condition_number W x.0) ≡ Some x.0 = ap (λ q. slice_get (conditions_of W q) (condition_number W x.0)) (sym mutex) ∙ condition-at W x.0 (m, is) in
        from-object (site.Monitor m) (object_of_thing held m.0) (shows.Object x, o) declared (monitor-here m declared)
        (condition-there u W m (object_of_thing held m.0) (condition_number W x.0) x.0 o at found)
    held-by valid x o (Some thing.Eventual) is found = one-there (site.Eventual x) x (waiters_as thing.Eventual (object_of_thing held x.0)) o is (eventual-here x is) found
    held-by valid x o (Some (thing.Future n c)) is found = one-there (site.Future x) x (waiters_as (thing.Future n c) (object_of_thing held x.0)) o (n, c, is) (future-here x (n, c, is)) found
    held-by valid x o (Some (thing.Barrier n)) is found = one-there (site.Barrier x) x (waiters_as (thing.Barrier n) (object_of_thing held x.0)) o (n, is) (barrier-here x (n, is)) found
    held-by valid x o (Some thing.RwLock) is found = one-there (site.Rw x) x (waiters_as thing.RwLock (object_of_thing held x.0)) o is (rwlock-here x is) found

    pub held-waiting : IsValid W → (x : ObjectNo) (o : Owned) → find (is_unit u) (waiters_at_thing held x.0) ≡ Some o → IsHeldAs held u (shows.Object x, o)
    held-waiting valid x o found = held-by valid x o (thing_at W x.0) refl found

-- Things by number.

module _ (W : Parts) (ones : List OneValue) (clocks : List ℕ) (whole : IsWhole (objects_value W ones clocks)) where
  pub thing-within : (x : ℕ) → x < length W.objects → thing_number W x < length ones
  thing-within x lt = (let many : length ones ≡ sites W = sym (length-map ones (λ (one : OneValue). one.object)) ∙ whole.objects in omega (arith, lt, many))

  pub thing-here : (x i : ℕ) (one : OneValue) → x < length W.objects → i ≡ thing_number W x → one ≡ get_or ones i one → object_of_thing (objects_value W ones clocks) x ≡ one.object
  thing-here x i one lt is here =
      let within : i < length ones = subst (λ n. n < length ones) (sym is) (thing-within x lt) in
      ap (λ n. object_from (slice_get (map (λ (o : OneValue). o.object) ones) n)) (sym is)
      ∙ ap object_from (slice_get-map (λ (o : OneValue). o.object) ones i ∙ ap (option_map (λ (o : OneValue). o.object)) (slice_get-get_or ones i one within ∙ ap (λ o. Some o) (sym here)))

  module _ (x : ℕ) (valid : IsValid W) (is : IsCondition W x) where
    pub mutex-within : mutex_of W x < length W.objects
    mutex-within = slice_get_within W.objects (mutex_of W x) thing.Mutex (mutex-declared W x valid is)

    -- the condition may be signalled
    pub signal-allowed : Allows (object_of_thing (objects_value W ones clocks) (mutex_of W x)) (Signal (condition_number W x))
    signal-allowed =
        let declared = mutex-declared W x valid is in
        let n : condition_number W x < length (map (waiters_at W (start W)) (conditions_of W (mutex_of W x))) = subst (λ q. condition_number W x < q) (sym (length-map (conditions_of W (mutex_of W x)) (waiters_at W (start W)))) (condition-below W x is) in
        let first-allows : Allows (object_of W (start W) (site.Monitor (object_no (mutex_of W x)))) (Signal (condition_number W x)) = subst (λ t. Allows (monitor_at W (start W) (mutex_of W x) t) (Signal (condition_number W x))) (sym declared) n in
        subst (λ o. Allows o (Signal (condition_number W x))) (monitor-here (objects_value W ones clocks) (object_no (mutex_of W x)) declared) (whole.allowed (site.Monitor (object_no (mutex_of W x))) (Signal (condition_number W x)) first-allows)

    -- who waits there waits at the mutex's object
    pub at-its-mutex : waiters_at_thing (objects_value W ones clocks) x ≡ waiters_of_condition (condition_number W x) (object_of_thing (objects_value W ones clocks) (mutex_of W x))
    at-its-mutex =
        ap (waiters_by (objects_value W ones clocks) x) is.1
        ∙ ap (λ q. waiters_of_condition (condition_number W x) (object_of_thing (objects_value W ones clocks) q)) (sym (ap (mutex_from x) is.1))

    module _ (m i k : ℕ) (one : OneValue) (mutex : m ≡ mutex_of W x) (number : k ≡ condition_number W x) (at : i ≡ thing_number W m) (here : one ≡ get_or ones i one) where
      mutex-here : object_of_thing (objects_value W ones clocks) (mutex_of W x) ≡ one.object
      mutex-here = thing-here (mutex_of W x) i one mutex-within (at ∙ ap (thing_number W) mutex) here

      pub may-signal : Allows one.object (Signal k)
      may-signal = subst (λ n. Allows one.object (Signal n)) (sym number) (subst (λ o. Allows o (Signal (condition_number W x))) mutex-here signal-allowed)

      -- who waits at the condition
      pub waiting-here : waiters_of_condition k one.object ≡ waiters_at_thing (objects_value W ones clocks) x
      waiting-here = ap (λ n. waiters_of_condition n one.object) number ∙ (ap (waiters_of_condition (condition_number W x)) (sym mutex-here) ∙ sym at-its-mutex)
