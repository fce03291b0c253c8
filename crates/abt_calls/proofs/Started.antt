-- What streams and objects hold at the start.
use Rattle.std.proofs.Common.{◌≡◌, ℕ, zero, suc, ◌+◌, ◌<◌, ◌==◌, Bool, true, false, List, [], ◌∷◌, ◌++◌, length, map, Option, Some, None, refl, sym, ◌∙◌, ap, ap₂, subst, arith, append-nil}
use Rattle.std.specs.Prelude.{cond, count_by, if◌then◌else◌, not, replicate}
use Rattle.std.specs.List.{filter}
use Rattle.std.proofs.lemmas.Bool.{eqb-true}
use Rattle.std.proofs.lemmas.List.{map-append}
use Rattle.std.proofs.lemmas.List.FromFn.{filter_of_map_range_with_len_more}
use Rattle.std.proofs.lemmas.List.Sums.{sum_by-cons}
use Rattle.abt_machine.specs.declared.events.Site.TheVariants as site
use Rattle.abt_machine.specs.declared.operations.Thing.{Thing}
use Rattle.abt_machine.specs.declared.operations.Thing.TheVariants as thing
use Rattle.abt_machine.specs.declared.workload.Parts.{Parts}
use Rattle.abt_machine.specs.Workloads.{condition_number, mutex_of, is_condition_of, is_sched, body_at, kind_of, start_of, thing_at}
use Rattle.abt_machine.specs.Queues.{ticketed_step, ticketed, queue, first}
use Rattle.abt_machine.specs.Fronts.{is_some_of}
use Rattle.abt_machine.specs.Lines.{Line, InPool, InTray, InHand, InNext, InFrames, Joining, Waiting, ticket_in}
use Rattle.abt_machine.specs.Start.{start, start_place, count_at}
use Rattle.abt_machine.specs.Values.{Owned, owned_at, owned_in, PoolIs, DeskIs, MonitorIs, EventualIs, FutureIs, BarrierIs, RwLockIs, conditions_from, eventual_at, future_at, barrier_at, monitor_at, rwlock_at, phase_at, waiters_at}
use Rattle.abt_laws.proofs.Lists.{EachOf-then}
use Rattle.abt_laws.proofs.Pushes.{AllBelow, AllBelow-insert, insert-at-end}
use Rattle.abt_calls.proofs.SiteCalls.{condition-below}
use Rattle.abt_calls.specs.Starts.{ConditionsAreCounted, ConditionsAreNumbered, ObjectsStart, PartsStart, first_units, start_barrier, start_eventual, start_future, start_monitor, start_part, start_phase, start_rwlock, starts_in}

-- Lines with nobody.

-- no pool
abbrev IsNoPool : Line → Type 0
IsNoPool (InPool p) = ⊥
IsNoPool l = Unit {0}

nobody : (W : Parts) (l : Line) → IsNoPool l → (u : ℕ) (o : Option ℕ) → ticket_in l (start_place W u o) ≡ None
nobody W (InPool p) off u o = absurd off
nobody W _ off u None = refl
nobody W _ off u (Some q) = refl

ticketed-nobody : (at : ℕ → Option ℕ) (n : ℕ) → ((u : ℕ) → at u ≡ None) → ticketed at n ≡ []
ticketed-nobody at zero none = refl
ticketed-nobody at (suc n) none = ap (λ o. ticketed_step n o (ticketed at n)) (none n) ∙ ticketed-nobody at n none

-- at the start only pools hold units
no-units : (W : Parts) (l : Line) → IsNoPool l → owned_in W (start W) l ≡ []
no-units W l off = ap (λ ps. map (owned_at (start W)) (map (λ (p : ℕ × ℕ). p.1) ps)) (ticketed-nobody (λ u. ticket_in l (start_place W u (start_of W u))) (length W.units) (λ u. nobody W l off u (start_of W u)))

-- Pools.

module _ (W : Parts) (p : ℕ) where
  -- the tickets of pool p
  abbrev at : ℕ → Option ℕ
  at u = ticket_in (InPool p) (start_place W u (start_of W u))

  below-by : (n q : ℕ) (b : Bool) (ps : List (ℕ × ℕ)) → (q == p) ≡ b → AllBelow (count_at W p n) ps
      → AllBelow ((if b then 1 else 0) + count_at W p n) (ticketed_step n (if b then Some (count_at W q n) else None) ps)
  below-by n q true ps e a =
      let same : q ≡ p = eqb-true q p e in
      AllBelow-insert (1 + count_at W p n) (count_at W q n) n ps (subst (λ r. count_at W r n < 1 + count_at W p n) (sym same) (omega arith))
      (EachOf-then (λ (r : ℕ × ℕ). r.0 < count_at W p n) (λ (r : ℕ × ℕ). r.0 < 1 + count_at W p n) ps (λ r l. omega arith) a)
  below-by n q false ps e a = EachOf-then (λ (r : ℕ × ℕ). r.0 < count_at W p n) (λ (r : ℕ × ℕ). r.0 < 0 + count_at W p n) ps (λ r l. omega arith) a

  below-step : (n : ℕ) (o : Option ℕ) (ps : List (ℕ × ℕ)) → AllBelow (count_at W p n) ps
      → AllBelow ((if is_some_of p o then 1 else 0) + count_at W p n) (ticketed_step n (ticket_in (InPool p) (start_place W n o)) ps)
  below-step n None ps a = EachOf-then (λ (r : ℕ × ℕ). r.0 < count_at W p n) (λ (r : ℕ × ℕ). r.0 < 0 + count_at W p n) ps (λ r l. omega arith) a
  below-step n (Some q) ps a = below-by n q (q == p) ps refl a

  -- the tickets of the units below n are below the number of those that start in the pool
  below : (n : ℕ) → AllBelow (count_at W p n) (ticketed at n)
  below zero = tt
  below (suc n) = below-step n (start_of W n) (ticketed at n) (below n)

  more-by : (n q : ℕ) (b : Bool) (ps : List (ℕ × ℕ)) → (q == p) ≡ b → AllBelow (count_at W p n) ps
      → map (λ (r : ℕ × ℕ). r.1) (ticketed_step n (if b then Some (count_at W q n) else None) ps) ≡ map (λ (r : ℕ × ℕ). r.1) ps ++ cond b (n ∷ []) []
  more-by n q true ps e a =
      let same : q ≡ p = eqb-true q p e in
      ap (map (λ (r : ℕ × ℕ). r.1)) (insert-at-end (count_at W q n) n ps (subst (λ r. AllBelow (count_at W r n) ps) (sym same) a))
      ∙ map-append (λ (r : ℕ × ℕ). r.1) ps ((count_at W q n, n) ∷ [])
  more-by n q false ps e a = sym (append-nil (map (λ (r : ℕ × ℕ). r.1) ps))

  more : (n : ℕ) (o : Option ℕ) (ps : List (ℕ × ℕ)) → AllBelow (count_at W p n) ps
      → map (λ (r : ℕ × ℕ). r.1) (ticketed_step n (ticket_in (InPool p) (start_place W n o)) ps) ≡ map (λ (r : ℕ × ℕ). r.1) ps ++ cond (is_some_of p o) (n ∷ []) []
  more n None ps a = sym (append-nil (map (λ (r : ℕ × ℕ). r.1) ps))
  more n (Some q) ps a = more-by n q (q == p) ps refl a

  one-unit : (n : ℕ) (b : Bool) → map (owned_at (start W)) (cond b (n ∷ []) []) ≡ cond b (owned_at (start W) n ∷ []) []
  one-unit n true = refl
  one-unit n false = refl

  -- the pool holds those of the units below n that start there
  pool-below : (n : ℕ) → map (owned_at (start W)) (queue at n) ≡ filter (starts_in W p) (first_units W n)
  pool-below zero = refl
  pool-below (suc n) =
      let k : n + 1 ≡ suc n = omega arith in
      ap (map (owned_at (start W))) (more n (start_of W n) (ticketed at n) (below n))
      ∙ (map-append (owned_at (start W)) (queue at n) (cond (is_some_of p (start_of W n)) (n ∷ []) [])
      ∙ (ap₂ (λ xs ys. xs ++ ys) (pool-below n) (one-unit n (is_some_of p (start_of W n)))
      ∙ (sym (filter_of_map_range_with_len_more (starts_in W p) (owned_at (start W)) 0 n n (omega arith))
      ∙ ap (λ m. filter (starts_in W p) (first_units W m)) k)))

-- Desks.

phase-start : (W : Parts) (o : Owned) (u : ℕ) (f : Option ℕ) → phase_at o (start_place W u f) ≡ start_phase o f
phase-start W o u None = refl
phase-start W o u (Some p) = refl

-- Monitors.

empty-by : (m i : ℕ) (b : Bool) (n : ℕ) (f : ℕ → List Owned) (cs : List ℕ) → f i ≡ [] → map f cs ≡ replicate n [] → map f (if b then i ∷ cs else cs) ≡ replicate ((if b then 1 else 0) + n) []
empty-by m i true n f cs e h = let k : suc n ≡ 1 + n = omega arith in ap₂ (λ x xs. x ∷ xs) e h ∙ ap (λ j. replicate j []) k
empty-by m i false n f cs e h = let k : n ≡ 0 + n = omega arith in h ∙ ap (λ j. replicate j []) k

-- as many empty lists as a mutex has conditions
empty-conditions : (m i : ℕ) (f : ℕ → List Owned) (ts : List Thing) → ((x : ℕ) → f x ≡ []) → map f (conditions_from m i ts) ≡ replicate (count_by (is_condition_of m) ts) []
empty-conditions m i f [] none = refl
empty-conditions m i f (t ∷ ts) none =
    empty-by m i (is_condition_of m t) (count_by (is_condition_of m) ts) f (conditions_from m (suc i) ts) (none i) (empty-conditions m (suc i) f ts none)
    ∙ ap (λ n. replicate n []) (sym (sum_by-cons (λ t. cond (is_condition_of m t) 1 0) t ts))

monitor-start : (W : Parts) (x : ℕ) (t : Option Thing) → monitor_at W (start W) x t ≡ start_monitor W x t
monitor-start W x (Some thing.Mutex) =
    λ i. MonitorIs (record { owner = None; number = 0; waiters = no-units W (Waiting x) tt i; conds = empty-conditions x 0 (waiters_at W (start W)) W.objects (λ y. no-units W (Waiting y) tt) i })
monitor-start W x _ = refl

-- Eventuals, futures, barriers and reader-writer locks.

eventual-start : (W : Parts) (x : ℕ) (t : Option Thing) → eventual_at W (start W) x t ≡ start_eventual t
eventual-start W x (Some thing.Eventual) = λ i. EventualIs (record { value = None; waiters = no-units W (Waiting x) tt i })
eventual-start W x _ = refl

future-start : (W : Parts) (x : ℕ) (t : Option Thing) → future_at W (start W) x t ≡ start_future t
future-start W x (Some (thing.Future n c)) = λ i. FutureIs (record { size = n; combine = c; filled = 0; value = 0; waiters = no-units W (Waiting x) tt i })
future-start W x _ = refl

barrier-start : (W : Parts) (x : ℕ) (t : Option Thing) → barrier_at W (start W) x t ≡ start_barrier t
barrier-start W x (Some (thing.Barrier n)) = λ i. BarrierIs (record { size = n; waiters = no-units W (Waiting x) tt i })
barrier-start W x _ = refl

rwlock-start : (W : Parts) (x : ℕ) (t : Option Thing) → rwlock_at W (start W) x t ≡ start_rwlock W t
rwlock-start W x (Some thing.RwLock) = λ i. RwLockIs (record { lock = (start W).rwlock x; waiters = no-units W (Waiting x) tt i })
rwlock-start W x _ = refl

-- Objects and streams.

pub objects-start : ObjectsStart
objects-start W (site.Pool p) = λ i. PoolIs (record { kind = kind_of W p.0; units = pool-below W p.0 (length W.units) i })
objects-start W (site.Desk u) = λ i. DeskIs (record {
  number = u.0;
  sched = is_sched (body_at W u.0);
  phase = phase-start W (owned_at (start W) u.0) u.0 (start_of W u.0) i;
  joiners = no-units W (Joining u.0) tt i;
  cancel = false;
  migrate = None;
  migratable = not (is_sched (body_at W u.0));
})
objects-start W (site.Monitor x) = monitor-start W x.0 (thing_at W x.0)
objects-start W (site.Eventual x) = eventual-start W x.0 (thing_at W x.0)
objects-start W (site.Future x) = future-start W x.0 (thing_at W x.0)
objects-start W (site.Barrier x) = barrier-start W x.0 (thing_at W x.0)
objects-start W (site.Rw x) = rwlock-start W x.0 (thing_at W x.0)

pub parts-start : PartsStart
parts-start W s = λ i. record {
  own = (start_part W s).own;
  hand = first (no-units W (InHand s) tt i);
  next = first (no-units W (InNext s) tt i);
  tray = no-units W (InTray s) tt i;
  framed = no-units W (InFrames s) tt i;
}

-- Conditions.

length-by : (b : Bool) (i n : ℕ) (cs : List ℕ) → length cs ≡ n → length (if b then i ∷ cs else cs) ≡ (if b then 1 else 0) + n
length-by true i n cs e = omega arith
length-by false i n cs e = omega arith

count-from : (m i : ℕ) (ts : List Thing) → length (conditions_from m i ts) ≡ count_by (is_condition_of m) ts
count-from m i [] = refl
count-from m i (t ∷ ts) =
    length-by (is_condition_of m t) i (count_by (is_condition_of m) ts) (conditions_from m (suc i) ts) (count-from m (suc i) ts) ∙ sym (sum_by-cons (λ t. cond (is_condition_of m t) 1 0) t ts)

pub conditions-are-counted : ConditionsAreCounted
conditions-are-counted W m = count-from m 0 W.objects

pub conditions-are-numbered : ConditionsAreNumbered
conditions-are-numbered W x is = subst (λ n. condition_number W x < n) (conditions-are-counted W (mutex_of W x)) (condition-below W x is)
