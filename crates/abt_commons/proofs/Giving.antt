-- Units that objects give out.
use Rattle.std.proofs.Common.{◌≡◌, ◌==◌, ℕ, zero, suc, ◌+◌, ◌<◌, ◌≤◌, true, false, List, [], ◌∷◌, ◌++◌, map, set, drop, length, slice_get, Option, Some, None, refl, sym, ◌∙◌, ap, ap₂, subst, arith, append-nil, append_assoc, eqb-true}
use Rattle.std.specs.List.{All, flat_map, range_with_len}
use Rattle.std.proofs.lemmas.Grind.{flat_map-append}
use Rattle.std.proofs.lemmas.List.{drop_all}
use Rattle.std.proofs.lemmas.List.Folds.{flat_map-map}
use Rattle.std.proofs.lemmas.List.Elements.{All-append, All-map, All-nil}
use Rattle.abt_machine.specs.declared.events.Shown.{Shown}
use Rattle.abt_machine.specs.declared.events.Shown.TheVariants as shows
use Rattle.abt_machine.specs.declared.events.Site.{Site}
use Rattle.abt_machine.specs.declared.operations.Thing.{Thing}
use Rattle.abt_machine.specs.declared.workload.Parts.{Parts}
use Rattle.abt_machine.specs.Monitors.{list_from}
use Rattle.abt_machine.specs.Numbers.{object_no}
use Rattle.abt_machine.specs.Values.{Owned, Phase, Unborn, Out, Suspended, Ended, conditions_from}
use Rattle.abt_machine.specs.Workloads.{is_condition_of}
use Rattle.abt_machine.specs.declared.events.Site.TheVariants as site
use Rattle.abt_machine.specs.declared.operations.Thing.TheVariants as thing
use Rattle.abt_machine.specs.Values.{Object, PoolIs, DeskIs, MonitorIs, EventualIs, FutureIs, BarrierIs, RwLockIs, object_of}
use Rattle.abt_machine.specs.Numbers.{pool_no, unit_no}
use Rattle.abt_machine.specs.Start.{start}
use Rattle.abt_machine.specs.Workloads.{thing_at}
use Rattle.abt_unit.specs.Fits.{Fits}
use Rattle.abt_machine.proofs.Elements.{All-left, All-right}
use Rattle.abt_desk.specs.Keeps.{held_in}
use Rattle.abt_laws.specs.Footprint.{OfSite}
use Rattle.abt_calls.specs.Keeps.{contents_of}
use Rattle.abt_calls.specs.Showing.{Row, rows_as, rows_at, rows_at_desk, rows_of_object}
use Rattle.abt_calls.specs.Totals.{desks_of, holders_from, pools_at, thing_holders}
use Rattle.abt_commons.specs.Groups.{FitsRow, all_rows, rows_by, rows_from, rows_held}
use Rattle.abt_commons.specs.Held.{OneValue, ObjectsValue, numbered_object, object_from}
use Rattle.abt_commons.specs.Reading.{rows_at_site}
use Rattle.abt_commons.specs.Sites.{monitor_number, eventual_number, future_number, barrier_number, rwlock_number, site_numbered, site_number, sites, thing_number}
use Rattle.abt_commons.proofs.Numbers.{declared-some, desk-there, pool-there, thing-there}

-- Conditions of a mutex.

pub drop-here : {A : Type 0} (xs : List A) (i : ℕ) (x : A) → slice_get xs i ≡ Some x → drop i xs ≡ x ∷ drop (i + 1) xs
drop-here [] i x is = cc
drop-here (y ∷ ys) zero x is = cc
drop-here (y ∷ ys) (suc i) x is = let e : suc i + 1 ≡ suc (i + 1) = omega arith in drop-here ys i x is ∙ ap (λ n. x ∷ drop n (y ∷ ys)) (sym e)

rows-nowhere : (cs : List ℕ) → rows_at cs [] ≡ []
rows-nowhere [] = refl
rows-nowhere (c ∷ cs) = refl

drop-none : {A : Type 0} (k : ℕ) → drop {A = A} k [] ≡ []
drop-none zero = refl
drop-none (suc k) = refl

-- those at the next condition, and those at the others
pub rows-taken : (c : ℕ) (cs : List ℕ) (k : ℕ) (conds : List (List Owned))
    → rows_at (c ∷ cs) (drop k conds) ≡ rows_as (shows.Object (object_no c)) (list_from (slice_get conds k)) ++ rows_at cs (drop (k + 1) (set conds k []))
rows-taken c cs k [] = ap (rows_at (c ∷ cs)) (drop-none k) ∙ sym (ap (rows_at cs) (drop-none (k + 1)) ∙ rows-nowhere cs)
rows-taken c cs zero (os ∷ conds) = refl
rows-taken c cs (suc k) (os ∷ conds) =
    let e : suc k + 1 ≡ suc (k + 1) = omega arith in
    rows-taken c cs k conds ∙ ap (λ n. rows_as (shows.Object (object_no c)) (list_from (slice_get conds k)) ++ rows_at cs (drop n (os ∷ set conds k []))) (sym e)

-- past the last condition nobody waits
pub rows-past : (cs : List ℕ) (k : ℕ) (conds : List (List Owned)) → length conds ≤ k → rows_at cs (drop k conds) ≡ []
rows-past cs k conds past = ap (rows_at cs) (drop_all k conds past) ∙ rows-nowhere cs

module _ (m y : ℕ) (things : List Thing) (t : Thing) (here : slice_get things y ≡ Some t) where
  -- a thing that is no condition of the mutex
  pub passed : is_condition_of m t ≡ false → conditions_from m y (drop y things) ≡ conditions_from m (y + 1) (drop (y + 1) things)
  passed off = (let e : suc y ≡ y + 1 = omega arith in rw (drop-here things y t here, off) (ap (λ n. conditions_from m n (drop (y + 1) things)) e))

  -- a thing that is one
  pub met : is_condition_of m t ≡ true → conditions_from m y (drop y things) ≡ y ∷ conditions_from m (y + 1) (drop (y + 1) things)
  met on = (let e : suc y ≡ y + 1 = omega arith in rw (drop-here things y t here, on) (ap (λ n. y ∷ conditions_from m n (drop (y + 1) things)) e))

-- What an object holds fits.

module _ (W : Parts) where
  as-fit : (x : Shown) (os : List Owned) → All (Fits W) os → All (FitsRow W) (rows_as x os)
  as-fit x os all = All-map (FitsRow W) (λ o. (x, o)) os all

  at-fit : (cs : List ℕ) (conds : List (List Owned)) → All (Fits W) (flat_map (λ os. os) conds) → All (FitsRow W) (rows_at cs conds)
  at-fit [] conds all = All-nil (FitsRow W)
  at-fit (c ∷ cs) [] all = All-nil (FitsRow W)
  at-fit (c ∷ cs) (os ∷ conds) all =
      let rest : List Owned = flat_map (λ os. os) conds in
      All-append (FitsRow W) (rows_as (shows.Object (object_no c)) os) (rows_at cs conds)
      (as-fit (shows.Object (object_no c)) os (All-left (Fits W) os rest all)) (at-fit cs conds (All-right (Fits W) os rest all))

  desk-fit : (phase : Phase) → All (Fits W) (held_in phase) → All (FitsRow W) (rows_at_desk phase)
  desk-fit (Unborn o) all = as-fit shows.Unborn (o ∷ []) all
  desk-fit Out all = All-nil (FitsRow W)
  desk-fit (Suspended o) all = as-fit shows.Suspended (o ∷ []) all
  desk-fit (Ended o c) all = as-fit (shows.Ended c) (o ∷ []) all

  object-fits : (x : Site) (object : Object) → All (Fits W) (contents_of object).units → All (FitsRow W) (rows_of_object W x object)
  object-fits (site.Pool p) (PoolIs pool) all = as-fit (shows.Pool p) pool.units all
  object-fits (site.Desk u) (DeskIs desk) all =
      All-append (FitsRow W) (rows_at_desk desk.phase) (rows_as (shows.Join u) desk.joiners)
      (desk-fit desk.phase (All-left (Fits W) (held_in desk.phase) desk.joiners all))
      (as-fit (shows.Join u) desk.joiners (All-right (Fits W) (held_in desk.phase) desk.joiners all))
  object-fits (site.Monitor x) (MonitorIs m) all =
      let rest : List Owned = flat_map (λ os. os) m.conds in
      All-append (FitsRow W) (rows_as (shows.Object x) m.waiters) (rows_at (conditions_from x.0 0 W.objects) m.conds)
      (as-fit (shows.Object x) m.waiters (All-left (Fits W) m.waiters rest all))
      (at-fit (conditions_from x.0 0 W.objects) m.conds (All-right (Fits W) m.waiters rest all))
  object-fits (site.Eventual x) (EventualIs e) all = as-fit (shows.Object x) e.waiters all
  object-fits (site.Future x) (FutureIs f) all = as-fit (shows.Object x) f.waiters all
  object-fits (site.Barrier x) (BarrierIs b) all = as-fit (shows.Object x) b.waiters all
  object-fits (site.Rw x) (RwLockIs l) all = as-fit (shows.Object x) l.waiters all
  object-fits x object all = All-nil (FitsRow W)

  pub by-fit : (x : Option Site) (object : Object) → All (Fits W) (contents_of object).units → All (FitsRow W) (rows_by W x object)
  by-fit None object all = All-nil (FitsRow W)
  by-fit (Some x) object all = object-fits x object all

  -- One object more.

  abbrev objects : List OneValue → List Object
  objects ones = map (λ one. one.object) ones

  module _ (i : ℕ) (one : OneValue) (x : Option Site) (rest left : List OneValue) (is : left ≡ one ∷ rest) (own : one.workload ≡ W) (there : x ≡ site_numbered W i) (old new : List Row)
      (gave : new ≡ old ++ rows_by one.workload x one.object) where
    gave-here : new ≡ old ++ rows_by W (site_numbered W i) one.object
    gave-here = gave ∙ ap₂ (λ V y. old ++ rows_by V y one.object) own there

    pub one-given : (all : List Row) → old ++ rows_from W i (objects left) ≡ all → new ++ rows_from W (i + 1) (objects rest) ≡ all
    one-given all before =
        let e : i + 1 ≡ suc i = omega arith in
        ap₂ (λ rs n. rs ++ rows_from W n (objects rest)) gave-here e
        ∙ (append_assoc old (rows_by W (site_numbered W i) one.object) (rows_from W (suc i) (objects rest))
        ∙ (ap (λ os. old ++ rows_from W i (objects os)) (sym is) ∙ before))

    pub one-fits : All (FitsRow one.workload) (rows_by one.workload x one.object) → All (FitsRow W) old → All (FitsRow W) new
    one-fits here before =
        subst (All (FitsRow W)) (sym gave) (All-append (FitsRow W) old (rows_by one.workload x one.object) before (subst (λ V. All (FitsRow V) (rows_by one.workload x one.object)) own here))

-- All objects.

-- the rows of numbers, from a number on
split : (f : ℕ → List Row) (a m n : ℕ) → flat_map f (range_with_len a (m + n)) ≡ flat_map f (range_with_len a m) ++ flat_map f (range_with_len (a + m) n)
split f a zero n = (let e : zero + n ≡ n = omega arith in let e' : a + zero ≡ a = omega arith in ap (λ k. flat_map f (range_with_len a k)) e ∙ ap (λ k. flat_map f (range_with_len k n)) (sym e'))
split f a (suc m) n =
    let e : suc m + n ≡ suc (m + n) = omega arith in
    let e' : a + suc m ≡ a + 1 + m = omega arith in
    ap (λ k. flat_map f (range_with_len a k)) e
    ∙ (ap (λ rs. f a ++ rs) (split f (a + 1) m n)
    ∙ (sym (append_assoc (f a) (flat_map f (range_with_len (a + 1) m)) (flat_map f (range_with_len (a + 1 + m) n)))
    ∙ ap (λ k. (f a ++ flat_map f (range_with_len (a + 1) m)) ++ flat_map f (range_with_len k n)) (sym e')))

alike : (f g : ℕ → List Row) (a b n : ℕ) → ((k : ℕ) → k < n → f (a + k) ≡ g (b + k)) → flat_map f (range_with_len a n) ≡ flat_map g (range_with_len b n)
alike f g a b zero same = refl
alike f g a b (suc n) same =
    let here : f a ≡ g b = (let e : a + 0 ≡ a = omega arith in let e' : b + 0 ≡ b = omega arith in ap f (sym e) ∙ (same 0 (omega arith) ∙ ap g e')) in
    ap₂ (λ x y. x ++ y) here
    (alike f g (a + 1) (b + 1) n (λ k lt. (let e : a + 1 + k ≡ a + suc k = omega arith in let e' : b + suc k ≡ b + 1 + k = omega arith in ap f e ∙ (same (suc k) (omega (arith, lt)) ∙ ap g e'))))

-- an item that is left, and those behind it
left-here : {A : Type 0} (xs : List A) (i : ℕ) (y : A) (ys : List A) → y ∷ ys ≡ drop i xs → (slice_get xs i ≡ Some y) × (ys ≡ drop (i + 1) xs)
left-here [] zero y ys is = cc
left-here [] (suc i) y ys is = cc
left-here (x ∷ xs) zero y ys is = (let head : y ≡ x = cc in ap (λ z. Some z) (sym head), cc)
left-here (x ∷ xs) (suc i) y ys is =
    let there = left-here xs i y ys is in
    let e : suc i + 1 ≡ suc (i + 1) = omega arith in
    (there.0, there.1 ∙ ap (λ n. drop n (x ∷ xs)) (sym e))

module _ (held : ObjectsValue) (many : length held.objects ≡ sites held.workload) where
  abbrev W : Parts
  W = held.workload

  abbrev at : ℕ → Object
  at i = object_from (slice_get held.objects i)

  abbrev rows : ℕ → List Row
  rows i = rows_by W (site_numbered W i) (at i)

  by-number : (left : List Object) (i : ℕ) → left ≡ drop i held.objects → rows_from W i left ≡ flat_map rows (range_with_len i (length left))
  by-number [] i is = refl
  by-number (o ∷ os) i is =
      let here = left-here held.objects i o os is in
      let e : suc i ≡ i + 1 = omega arith in
      ap₂ (λ x y. x ++ y) (ap (rows_by W (site_numbered W i)) (sym (ap object_from here.0))) (ap (λ n. rows_from W n os) e ∙ by-number os (i + 1) here.1)

  at-site : (x : Site) (i : ℕ) → site_numbered W i ≡ Some x → site_number W x ≡ Some i → rows i ≡ rows_at_site held x
  at-site x i there number = ap (λ y. rows_by W y (at i)) there ∙ ap (rows_of_object W x) (sym (ap (numbered_object held.objects (object_of W (start W) x)) number))

  pools : flat_map rows (range_with_len 0 (length W.pools)) ≡ flat_map (rows_held held) (pools_at W)
  pools =
      alike rows (λ p. rows_at_site held (site.Pool (pool_no p))) 0 0 (length W.pools)
      (λ k lt. (let e : 0 + k ≡ k = omega arith in
      ap rows e ∙ (at-site (site.Pool (pool_no k)) k (pool-there W k lt) (declared-some W k W.pools k lt) ∙ ap (λ p. rows_at_site held (site.Pool (pool_no p))) (sym e))))
      ∙ sym (flat_map-map (rows_held held) (λ p. OfSite (site.Pool (pool_no p))) (range_with_len 0 (length W.pools)))

  desks : flat_map rows (range_with_len (length W.pools) (length W.units)) ≡ flat_map (rows_held held) (desks_of W)
  desks =
      alike rows (λ u. rows_at_site held (site.Desk (unit_no u))) (length W.pools) 0 (length W.units)
      (λ k lt. (let e : 0 + k ≡ k = omega arith in
      at-site (site.Desk (unit_no k)) (length W.pools + k) (desk-there W k lt) (declared-some W (length W.pools + k) W.units k lt) ∙ ap (λ u. rows_at_site held (site.Desk (unit_no u))) (sym e)))
      ∙ sym (flat_map-map (rows_held held) (λ u. OfSite (site.Desk (unit_no u))) (range_with_len 0 (length W.units)))

  thing-rows : (x : ℕ) (t : Thing) → thing_at W x ≡ Some t → rows (thing_number W x) ≡ flat_map (rows_held held) (thing_holders x t)
  thing-rows x thing.Mutex is = at-site (site.Monitor (object_no x)) (thing_number W x) (thing-there W x (Some thing.Mutex) is) (ap (monitor_number (thing_number W x)) is) ∙ sym (append-nil (rows_at_site held (site.Monitor (object_no x))))
  thing-rows x (thing.Cond m) is = ap (λ y. rows_by W y (at (thing_number W x))) (thing-there W x (Some (thing.Cond m)) is)
  thing-rows x thing.Eventual is = at-site (site.Eventual (object_no x)) (thing_number W x) (thing-there W x (Some thing.Eventual) is) (ap (eventual_number (thing_number W x)) is) ∙ sym (append-nil (rows_at_site held (site.Eventual (object_no x))))
  thing-rows x (thing.Future n c) is = at-site (site.Future (object_no x)) (thing_number W x) (thing-there W x (Some (thing.Future n c)) is) (ap (future_number (thing_number W x)) is) ∙ sym (append-nil (rows_at_site held (site.Future (object_no x))))
  thing-rows x (thing.Barrier n) is = at-site (site.Barrier (object_no x)) (thing_number W x) (thing-there W x (Some (thing.Barrier n)) is) (ap (barrier_number (thing_number W x)) is) ∙ sym (append-nil (rows_at_site held (site.Barrier (object_no x))))
  thing-rows x thing.RwLock is = at-site (site.Rw (object_no x)) (thing_number W x) (thing-there W x (Some thing.RwLock) is) (ap (rwlock_number (thing_number W x)) is) ∙ sym (append-nil (rows_at_site held (site.Rw (object_no x))))

  things-from : (ts : List Thing) (x i : ℕ) → i ≡ thing_number W x → ts ≡ drop x W.objects → flat_map rows (range_with_len i (length ts)) ≡ flat_map (rows_held held) (holders_from x ts)
  things-from [] x i number is = refl
  things-from (t ∷ ts) x i number is =
      let here = left-here W.objects x t ts is in
      let e : i + 1 ≡ thing_number W (x + 1) = omega (arith, number) in
      let e' : x + 1 ≡ suc x = omega arith in
      ap₂ (λ a b. a ++ b) (ap rows number ∙ thing-rows x t here.0) (things-from ts (x + 1) (i + 1) e here.1 ∙ ap (λ n. flat_map (rows_held held) (holders_from n ts)) e')
      ∙ sym (flat_map-append (rows_held held) (thing_holders x t) (holders_from (suc x) ts))

  things : flat_map rows (range_with_len (length W.pools + length W.units) (length W.objects)) ≡ flat_map (rows_held held) (holders_from 0 W.objects)
  things = things-from W.objects 0 (length W.pools + length W.units) (omega arith) refl

  -- the objects by number have all rows
  pub numbered-rows : rows_from W 0 held.objects ≡ all_rows held
  numbered-rows =
      let e : 0 + (length W.pools + length W.units) ≡ length W.pools + length W.units = omega arith in
      let e' : 0 + length W.pools ≡ length W.pools = omega arith in
      by-number held.objects 0 refl
      ∙ (ap (λ n. flat_map rows (range_with_len 0 n)) many
      ∙ (split rows 0 (length W.pools + length W.units) (length W.objects)
      ∙ ap₂ (λ a b. a ++ b)
      (split rows 0 (length W.pools) (length W.units) ∙ ap₂ (λ a b. a ++ b) pools (ap (λ n. flat_map rows (range_with_len n (length W.units))) e' ∙ desks))
      (ap (λ n. flat_map rows (range_with_len n (length W.objects))) e ∙ things)))

-- without units there is nothing to show
pub none-alike : (rows : List Row) (x : Shown) (us : List Owned) → (length us == 0) ≡ true → rows ≡ rows ++ rows_as x us
none-alike rows x [] e = sym (append-nil rows)
none-alike rows x (u ∷ us) e = let none : length (u ∷ us) ≡ 0 = eqb-true (length (u ∷ us)) 0 e in absurd (omega arith)
