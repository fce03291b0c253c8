-- Each declared unit is held once.
use Rattle.std.proofs.Common.{◌≡◌, ◌≢◌, ℕ, zero, suc, ◌+◌, ◌<◌, ◌≤◌, ◌==◌, Bool, true, false, List, [], ◌∷◌, ◌++◌, length, map, slice_get, Option, Some, None, refl, sym, ◌∙◌, ap, subst, arith, inl, inr}
use Rattle.std.specs.Prelude.{is_some, if◌then◌else◌}
use Rattle.std.specs.List.{flat_map}
use Rattle.std.proofs.lemmas.Bool.{cases_Bool, eq-eqb, eqb-true, false_from_ne_true}
use Rattle.abt_machine.specs.declared.events.Place.{Place}
use Rattle.abt_machine.specs.declared.events.Place.TheVariants as place
use Rattle.abt_machine.specs.declared.events.Site.{Site}
use Rattle.abt_machine.specs.declared.events.Site.TheVariants as site
use Rattle.abt_machine.specs.declared.events.Spot.TheVariants as spot
use Rattle.abt_machine.specs.declared.numbers.ObjectNo.{ObjectNo}
use Rattle.abt_machine.specs.declared.numbers.PoolNo.{PoolNo}
use Rattle.abt_machine.specs.declared.numbers.UnitNo.{UnitNo}
use Rattle.abt_machine.specs.Stored.{Stored}
use Rattle.abt_machine.specs.declared.operations.Thing.{Thing}
use Rattle.abt_machine.specs.declared.operations.Thing.TheVariants as thing
use Rattle.abt_machine.specs.declared.workload.Parts.{Parts}
use Rattle.abt_machine.specs.Workloads.{is_condition_of, thing_at}
use Rattle.abt_machine.specs.Valid.{IsThing, IsValid}
use Rattle.abt_machine.specs.Sites.{thing_site}
use Rattle.abt_machine.specs.Queues.{first}
use Rattle.abt_machine.specs.State.{State}
use Rattle.abt_machine.specs.Lines.{Line, InPool, InTray, InHand, InNext, InFrames, Joining, Waiting, standing, ticket_in}
use Rattle.abt_machine.specs.Sound.{HoldsUp, IsPlaced, Sound}
use Rattle.abt_machine.specs.Values.{NotHere, Object, Owned, barrier_at, conditions_from, conditions_of, eventual_at, future_at, monitor_at, owned_at, owned_in, phase_at, rwlock_at, waiters_at}
use Rattle.abt_laws.proofs.Lists.{EachOf}
use Rattle.abt_laws.proofs.Options.{none≢some, some-injective}
use Rattle.abt_laws.proofs.Places.{same-self}
use Rattle.abt_laws.proofs.Standing.{StandsIn, each-stands}
use Rattle.abt_desk.specs.Keeps.{held_in}
use Rattle.abt_calls.specs.Keeps.{contents_of}
use Rattle.abt_calls.specs.Effects.{unit_in}
use Rattle.abt_laws.specs.Footprint.{Holder, OfStream, OfSite, holder}
use Rattle.abt_simulation.specs.Merging.{same_site}
use Rattle.abt_simulation.proofs.Merged.{site-is, site-self}
use Rattle.abt_calls.specs.Holders.{IsHolder, UnitsAreHeldOnce, units_with}
use Rattle.abt_calls.proofs.LineTallies.{eqb-flip, if-zero, line-tally, one, one-other, one-same, some-same}
use Rattle.abt_calls.proofs.Tallies.{tally, tally-append, tally-cons, tally-nil, tally-one, times-is}

-- Whether two holders are one.

abbrev pub same_holder : Holder → Holder → Bool
same_holder (OfStream s) (OfStream r) = r == s
same_holder (OfSite x) (OfSite y) = same_site y x
same_holder h k = false

same-itself : (h : Holder) → same_holder h h ≡ true
same-itself (OfStream s) = eq-eqb s s refl
same-itself (OfSite x) = site-self x

same-is-one : (h k : Holder) → same_holder h k ≡ true → h ≡ k
same-is-one (OfStream s) (OfStream r) e = ap (λ n. OfStream n) (sym (eqb-true r s e))
same-is-one (OfSite x) (OfSite y) e = ap (λ z. OfSite z) (sym (site-is y x e))
same-is-one _ _ e = cc

-- Sites of things.

-- the number of an object that all who wait at the site wait for
abbrev waited_at : Site → Option ℕ
waited_at (site.Eventual x) = Some x.0
waited_at (site.Future x) = Some x.0
waited_at (site.Barrier x) = Some x.0
waited_at (site.Rw x) = Some x.0
waited_at x = None

-- only the thing of that number stands there
thing-waited : (x y : ℕ) (t : Option Thing) → waited_at (thing_site y t) ≡ Some x → y ≡ x
thing-waited x y (Some thing.Eventual) e = some-injective e
thing-waited x y (Some (thing.Future n c)) e = some-injective e
thing-waited x y (Some (thing.Barrier n)) e = some-injective e
thing-waited x y (Some thing.RwLock) e = some-injective e
thing-waited x y _ e = absurd (none≢some e)

-- no thing stands at a pool
no-pool : (p : PoolNo) (y : ℕ) (t : Option Thing) → same_site (thing_site y t) (site.Pool p) ≡ false
no-pool p y (Some thing.Mutex) = refl
no-pool p y _ = refl

-- and none at a desk
no-desk : (v : UnitNo) (y : ℕ) (t : Option Thing) → same_site (thing_site y t) (site.Desk v) ≡ false
no-desk v y (Some thing.Mutex) = refl
no-desk v y _ = refl

abbrev is_mutex : Option Thing → Bool
is_mutex (Some thing.Mutex) = true
is_mutex t = false

mutex-is : (t : Option Thing) → is_mutex t ≡ true → t ≡ Some thing.Mutex
mutex-is (Some thing.Mutex) e = refl
mutex-is _ e = cc

only-by : (b p q : Bool) → (b ≡ true → p ≡ q) → (q ≡ true → b ≡ true) → (if p then one b else 0) ≡ one q
only-by true p q same only = ap one (same refl)
only-by false p true same only = let e : false ≡ true = only refl in cc
only-by false p false same only = if-zero p 0 refl

-- a test that holds of number x at most
only-at : (f : ℕ → Bool) (y x : ℕ) → (f y ≡ true → y ≡ x) → (if f x then one (y == x) else 0) ≡ one (f y)
only-at f y x only = only-by (y == x) (f x) (f y) (λ e. ap f (sym (eqb-true y x e))) (λ t. eq-eqb y x (only t))

-- Who waits in lists of lines.

-- how often a place is in the lines of these objects
abbrev waits_in : Place → List ℕ → ℕ
waits_in pl [] = 0
waits_in pl (c ∷ cs) = one (is_some (ticket_in (Waiting c) pl)) + waits_in pl cs

waits-none : (pl : Place) → ((c : ℕ) → one (is_some (ticket_in (Waiting c) pl)) ≡ 0) → (cs : List ℕ) → waits_in pl cs ≡ 0
waits-none pl none [] = refl
waits-none pl none (c ∷ cs) = omega (arith, none c, waits-none pl none cs)

abbrev is_cond_at : ℕ → Option Thing → Bool
is_cond_at m None = false
is_cond_at m (Some t) = is_condition_of m t

module _ (y : ObjectNo) (t : ℕ) where
  abbrev at : Place
  at = place.Blocked (spot.Object y) t

  here : (c : ℕ) → one (is_some (ticket_in (Waiting c) at)) ≡ one (y.0 == c)
  here c = ap one (some-same y.0 c t)

  before-by : (b : Bool) (i : ℕ) (cs : List ℕ) → y.0 ≢ i → waits_in at (if b then i ∷ cs else cs) ≡ waits_in at cs
  before-by true i cs other = omega (arith, here i, one-other y.0 i other)
  before-by false i cs other = refl

  -- no condition is listed before its number
  waits-before : (m i : ℕ) (ts : List Thing) → y.0 < i → waits_in at (conditions_from m i ts) ≡ 0
  waits-before m i [] l = refl
  waits-before m i (r ∷ rs) l = before-by (is_condition_of m r) i (conditions_from m (suc i) rs) (λ e. omega arith) ∙ waits-before m (suc i) rs (omega arith)

  same-by : (b : Bool) (i : ℕ) (cs : List ℕ) → y.0 ≡ i → waits_in at cs ≡ 0 → waits_in at (if b then i ∷ cs else cs) ≡ one b
  same-by true i cs e none = omega (arith, here i, one-same y.0 i e, none)
  same-by false i cs e none = none

  -- a condition is listed once
  waits-at : (m i k : ℕ) (ts : List Thing) → y.0 ≡ i + k → waits_in at (conditions_from m i ts) ≡ one (is_cond_at m (slice_get ts k))
  waits-at m i k [] e = refl
  waits-at m i zero (r ∷ rs) e = same-by (is_condition_of m r) i (conditions_from m (suc i) rs) (omega arith) (waits-before m (suc i) rs (omega arith))
  waits-at m i (suc k) (r ∷ rs) e = before-by (is_condition_of m r) i (conditions_from m (suc i) rs) (λ s. omega arith) ∙ waits-at m (suc i) k rs (omega arith)

-- Lists with one item at most.

alone : (S : State) (us : List ℕ) → ((a b : ℕ) (rest : List ℕ) → us ≡ a ∷ b ∷ rest → ⊥) → map (owned_at S) us ≡ unit_in (first (map (owned_at S) us))
alone S [] none = refl
alone S (a ∷ []) none = refl
alone S (a ∷ b ∷ rest) none = absurd (none a b rest refl)

module _ (W : Parts) (Z : Stored) (S : State) (sound : Sound W Z S) where
  -- two in a hand or a Next are one, and so there are no two
  no-two : (l : Line) (k : ℕ) → ((v : ℕ) → StandsIn W S l v → ticket_in l (S.place v) ≡ Some k) → (us : List ℕ) → EachOf (StandsIn W S l) us → ((v : ℕ) → v < length W.units → tally v (map (owned_at S) us) ≤ 1)
      → (a b : ℕ) (rest : List ℕ) → us ≡ a ∷ b ∷ rest → ⊥
  no-two l k has [] each few a b rest e = cc
  no-two l k has (c ∷ []) each few a b rest e = cc
  no-two l k has (c ∷ d ∷ us) each few a b rest e =
      let one_unit : c ≡ d = sound.one_each l c d k (has c each.0) (has d each.1.0) in
      let f : tally c (map (owned_at S) (c ∷ d ∷ us)) ≤ 1 = few c each.0.declared in
      let g : tally c (owned_at S c ∷ []) ≡ 1 = tally-one c (owned_at S c) ∙ one-same c c refl in
      let h : tally c (owned_at S d ∷ []) ≡ 1 = tally-one c (owned_at S d) ∙ one-same d c (sym one_unit) in
      absurd (omega (arith, f, g, h, tally-cons c (owned_at S c) (map (owned_at S) (d ∷ us)), tally-cons c (owned_at S d) (map (owned_at S) us)))

  few-in : (l : Line) (v : ℕ) → v < length W.units → tally v (owned_in W S l) ≤ 1
  few-in l v declared = let e : tally v (owned_in W S l) ≡ one (is_some (ticket_in l (S.place v))) = line-tally W S l v declared in subst (λ n. n ≤ 1) (sym e) (at-most (is_some (ticket_in l (S.place v)))) where
    at-most : (b : Bool) → one b ≤ 1
    at-most true = omega arith
    at-most false = omega arith

  only-first : (l : Line) (k : ℕ) → ((v : ℕ) → StandsIn W S l v → ticket_in l (S.place v) ≡ Some k) → owned_in W S l ≡ unit_in (first (owned_in W S l))
  only-first l k has = alone S (standing W S l) (no-two l k has (standing W S l) (each-stands W S l) (few-in l))

  hand-alone : (s : ℕ) → owned_in W S (InHand s) ≡ unit_in (first (owned_in W S (InHand s)))
  hand-alone s = only-first (InHand s) 0 (λ v at. ap (ticket_in (InHand s)) at.at ∙ same-self s 0)

  next-alone : (s : ℕ) → owned_in W S (InNext s) ≡ unit_in (first (owned_in W S (InNext s)))
  next-alone s = only-first (InNext s) 0 (λ v at. ap (ticket_in (InNext s)) at.at ∙ same-self s 0)

  module _ (valid : IsValid W) (u : ℕ) (declared : u < length W.units) where
    -- u stands in the line
    abbrev stands : Line → Place → ℕ
    stands l pl = one (is_some (ticket_in l pl))

    -- Streams.

    stream-tally : (s : ℕ) → tally u (units_with W S (OfStream s)) ≡ stands (InHand s) (S.place u) + stands (InNext s) (S.place u) + stands (InTray s) (S.place u) + stands (InFrames s) (S.place u)
    stream-tally s =
        let hand : List Owned = unit_in (first (owned_in W S (InHand s))) in
        let next : List Owned = unit_in (first (owned_in W S (InNext s))) in
        let tray : List Owned = owned_in W S (InTray s) in
        let framed : List Owned = owned_in W S (InFrames s) in
        let a : tally u hand ≡ stands (InHand s) (S.place u) = ap (tally u) (sym (hand-alone s)) ∙ line-tally W S (InHand s) u declared in
        let b : tally u next ≡ stands (InNext s) (S.place u) = ap (tally u) (sym (next-alone s)) ∙ line-tally W S (InNext s) u declared in
        let c : tally u tray ≡ stands (InTray s) (S.place u) = line-tally W S (InTray s) u declared in
        let d : tally u framed ≡ stands (InFrames s) (S.place u) = line-tally W S (InFrames s) u declared in
        let sum : tally u (hand ++ next ++ tray ++ framed) ≡ tally u hand + tally u next + tally u tray + tally u framed =
        omega (arith, tally-append u (hand ++ next ++ tray) framed, tally-append u (hand ++ next) tray, tally-append u hand next) in
        sum ∙ (λ i. a i + b i + c i + d i)

    stream-by : (s : ℕ) (pl : Place) → stands (InHand s) pl + stands (InNext s) pl + stands (InTray s) pl + stands (InFrames s) pl ≡ one (same_holder (OfStream s) (holder W u pl))
    stream-by s (place.Hand r) = let e : stands (InHand s) (place.Hand r) ≡ one (r.0 == s) = ap one (some-same r.0 s 0) in omega (arith, e)
    stream-by s (place.Next r) = let e : stands (InNext s) (place.Next r) ≡ one (r.0 == s) = ap one (some-same r.0 s 0) in omega (arith, e)
    stream-by s (place.Tray r t) = let e : stands (InTray s) (place.Tray r t) ≡ one (r.0 == s) = ap one (some-same r.0 s t) in omega (arith, e)
    stream-by s (place.Frame r d) = let e : stands (InFrames s) (place.Frame r d) ≡ one (r.0 == s) = ap one (some-same r.0 s d) in omega (arith, e)
    stream-by s (place.Blocked spot.Suspended t) = refl
    stream-by s _ = refl

    -- Pools.

    pool-by : (p : PoolNo) (pl : Place) → stands (InPool p.0) pl ≡ one (same_holder (OfSite (site.Pool p)) (holder W u pl))
    pool-by p (place.Pool q t) = ap one (some-same q.0 p.0 t)
    pool-by p (place.Blocked (spot.Object x) t) = sym (ap one (no-pool p x.0 (thing_at W x.0)))
    pool-by p _ = refl

    -- Desks.

    abbrev at_desk : Place → Bool
    at_desk place.Unborn = true
    at_desk (place.Blocked spot.Suspended t) = true
    at_desk (place.Ended c) = true
    at_desk pl = false

    phase-tally : (v : ℕ) (pl : Place) → tally u (held_in (phase_at (owned_at S v) pl)) ≡ (if at_desk pl then one (v == u) else 0)
    phase-tally v place.Unborn = tally-one u (owned_at S v)
    phase-tally v (place.Blocked spot.Suspended t) = tally-one u (owned_at S v)
    phase-tally v (place.Ended c) = tally-one u (owned_at S v)
    phase-tally v _ = tally-nil u

    -- at its own desk alone
    own-desk : (v : ℕ) → (if at_desk (S.place v) then one (v == u) else 0) ≡ (if at_desk (S.place u) then one (v == u) else 0)
    own-desk v =
        elim (cases_Bool (v == u)) [
          | inl t ↦ ap (λ w. if at_desk (S.place w) then one (v == u) else 0) (eqb-true v u t)
          | inr f ↦ if-zero (at_desk (S.place v)) (one (v == u)) (ap one f) ∙ sym (if-zero (at_desk (S.place u)) (one (v == u)) (ap one f))
        ]

    desk-tally : (v : UnitNo) → tally u (units_with W S (OfSite (site.Desk v))) ≡ (if at_desk (S.place u) then one (v.0 == u) else 0) + stands (Joining v.0) (S.place u)
    desk-tally v =
        tally-append u (held_in (phase_at (owned_at S v.0) (S.place v.0))) (owned_in W S (Joining v.0))
        ∙ (λ i. (phase-tally v.0 (S.place v.0) ∙ own-desk v.0) i + line-tally W S (Joining v.0) u declared i)

    desk-by : (v : UnitNo) (pl : Place) → (if at_desk pl then one (v.0 == u) else 0) + stands (Joining v.0) pl ≡ one (same_holder (OfSite (site.Desk v)) (holder W u pl))
    desk-by v place.Unborn = let e : one (v.0 == u) ≡ one (u == v.0) = ap one (eqb-flip v.0 u) in omega (arith, e)
    desk-by v (place.Blocked spot.Suspended t) = let e : one (v.0 == u) ≡ one (u == v.0) = ap one (eqb-flip v.0 u) in omega (arith, e)
    desk-by v (place.Blocked (spot.Join w) t) = let e : stands (Joining v.0) (place.Blocked (spot.Join w) t) ≡ one (w.0 == v.0) = ap one (some-same w.0 v.0 t) in omega (arith, e)
    desk-by v (place.Blocked (spot.Object x) t) = sym (ap one (no-desk v x.0 (thing_at W x.0)))
    desk-by v (place.Ended c) = let e : one (v.0 == u) ≡ one (u == v.0) = ap one (eqb-flip v.0 u) in omega (arith, e)
    desk-by v _ = refl

    -- Eventuals, futures, barriers and reader-writer locks.

    -- what stands at the site of such an object if this is the thing of its number
    abbrev at_site : Site → Option Thing → Object
    at_site (site.Eventual x) t = eventual_at W S x.0 t
    at_site (site.Future x) t = future_at W S x.0 t
    at_site (site.Barrier x) t = barrier_at W S x.0 t
    at_site (site.Rw x) t = rwlock_at W S x.0 t
    at_site x t = NotHere

    waiters-tally : (x y : ℕ) → y ≡ x → tally u (waiters_at W S y) ≡ (if x == y then stands (Waiting x) (S.place u) else 0)
    waiters-tally x y e =
        line-tally W S (Waiting y) u declared
        ∙ (ap (λ z. stands (Waiting z) (S.place u)) e ∙ sym (ap (λ b. if b then stands (Waiting x) (S.place u) else 0) (eq-eqb x y (sym e))))

    waited-tally : (z : Site) (x : ℕ) (t : Option Thing) → waited_at z ≡ Some x → tally u (contents_of (at_site z t)).units ≡ (if same_site (thing_site x t) z then stands (Waiting x) (S.place u) else 0)
    waited-tally (site.Eventual y) x (Some thing.Eventual) e = waiters-tally x y.0 (some-injective e)
    waited-tally (site.Future y) x (Some (thing.Future n c)) e = waiters-tally x y.0 (some-injective e)
    waited-tally (site.Barrier y) x (Some (thing.Barrier n)) e = waiters-tally x y.0 (some-injective e)
    waited-tally (site.Rw y) x (Some thing.RwLock) e = waiters-tally x y.0 (some-injective e)
    waited-tally (site.Pool p) x t e = absurd (none≢some e)
    waited-tally (site.Desk v) x t e = absurd (none≢some e)
    waited-tally (site.Monitor y) x t e = absurd (none≢some e)
    waited-tally z x t e = tally-nil u

    waited-by : (z : Site) (x : ℕ) (pl : Place) → waited_at z ≡ Some x → (if same_site (thing_site x (thing_at W x)) z then stands (Waiting x) pl else 0) ≡ one (same_holder (OfSite z) (holder W u pl))
    waited-by z x (place.Blocked (spot.Object y) t) e =
        ap (λ k. if same_site (thing_site x (thing_at W x)) z then k else 0) (ap one (some-same y.0 x t))
        ∙ only-at (λ n. same_site (thing_site n (thing_at W n)) z) y.0 x (λ same. thing-waited x y.0 (thing_at W y.0) (ap waited_at (site-is (thing_site y.0 (thing_at W y.0)) z same) ∙ e))
    waited-by (site.Pool p) x pl e = absurd (none≢some e)
    waited-by (site.Desk v) x pl e = absurd (none≢some e)
    waited-by (site.Monitor y) x pl e = absurd (none≢some e)
    waited-by z x pl e = if-zero (same_site (thing_site x (thing_at W x)) z) 0 refl

    waited-holder : (z : Site) (x : ℕ) → waited_at z ≡ Some x → tally u (contents_of (at_site z (thing_at W x))).units ≡ one (same_holder (OfSite z) (holder W u (S.place u)))
    waited-holder z x e = waited-tally z x (thing_at W x) e ∙ waited-by z x (S.place u) e

    -- Monitors.

    conditions-tally : (cs : List ℕ) → tally u (flat_map (λ os. os) (map (waiters_at W S) cs)) ≡ waits_in (S.place u) cs
    conditions-tally [] = tally-nil u
    conditions-tally (c ∷ cs) =
        omega (arith, tally-append u (waiters_at W S c) (flat_map (λ os. os) (map (waiters_at W S) cs)), line-tally W S (Waiting c) u declared, conditions-tally cs)

    monitor-tally : (x : ℕ) (t : Option Thing) → tally u (contents_of (monitor_at W S x t)).units ≡ (if is_mutex t then stands (Waiting x) (S.place u) + waits_in (S.place u) (conditions_of W x) else 0)
    monitor-tally x (Some thing.Mutex) =
        tally-append u (waiters_at W S x) (flat_map (λ os. os) (map (waiters_at W S) (conditions_of W x)))
        ∙ (λ i. line-tally W S (Waiting x) u declared i + conditions-tally (conditions_of W x) i)
    monitor-tally x _ = tally-nil u

    -- nobody waits for a mutex if there is another thing
    other-thing : (y x : ℕ) (r : Option Thing) → thing_at W y ≡ r → thing_at W x ≡ Some thing.Mutex → (r ≡ Some thing.Mutex → ⊥) → one (y == x) ≡ 0
    other-thing y x r is at other = one-other y x (λ e. other (sym is ∙ (ap (thing_at W) e ∙ at)))

    monitor-at : (x : ObjectNo) (y : ℕ) (r : Option Thing) (b : Bool) → thing_at W y ≡ r → HoldsUp W S y r → is_mutex (thing_at W x.0) ≡ b
        → (if b then one (y == x.0) + one (is_cond_at x.0 r) else 0) ≡ one (same_site (thing_site y r) (site.Monitor x))
    monitor-at x y None b is holds m = absurd holds
    monitor-at x y (Some thing.Mutex) true is holds m = omega arith
    monitor-at x y (Some thing.Mutex) false is holds m =
        sym (one-other y x.0 (λ e. let f : true ≡ false = sym (ap is_mutex (sym (ap (thing_at W) e) ∙ is)) ∙ m in cc))
    monitor-at x y (Some (thing.Cond n)) false is holds m =
        let t : IsThing W.objects y (thing.Cond n) = valid.objects y (thing.Cond n) is in
        sym (one-other n.0 x.0 (λ e. let f : true ≡ false = sym (ap is_mutex (sym (ap (thing_at W) e) ∙ t.1)) ∙ m in cc))
    monitor-at x y r true is holds m = omega (arith, other-thing y x.0 r is (mutex-is (thing_at W x.0) m) (λ e. cc))
    monitor-at x y r false is holds m = refl

    monitor-none : (x : ObjectNo) (pl : Place) → ((c : ℕ) → stands (Waiting c) pl ≡ 0) → (if is_mutex (thing_at W x.0) then stands (Waiting x.0) pl + waits_in pl (conditions_of W x.0) else 0) ≡ 0
    monitor-none x pl none = if-zero (is_mutex (thing_at W x.0)) (stands (Waiting x.0) pl + waits_in pl (conditions_of W x.0)) (omega (arith, none x.0, waits-none pl none (conditions_of W x.0)))

    monitor-by : (x : ObjectNo) (pl : Place) → IsPlaced W S u pl → (if is_mutex (thing_at W x.0) then stands (Waiting x.0) pl + waits_in pl (conditions_of W x.0) else 0) ≡ one (same_holder (OfSite (site.Monitor x)) (holder W u pl))
    monitor-by x (place.Blocked (spot.Object y) t) placed =
        (λ i. if is_mutex (thing_at W x.0) then here y t x.0 i + waits-at y t x.0 0 y.0 W.objects (omega arith) i else 0)
        ∙ monitor-at x y.0 (thing_at W y.0) (is_mutex (thing_at W x.0)) refl placed.1 refl
    monitor-by x pl placed = monitor-none x pl (λ c. refl)

    -- All holders.

    pub holder-tally : (h : Holder) → tally u (units_with W S h) ≡ one (same_holder h (holder W u (S.place u)))
    holder-tally (OfStream s) = stream-tally s ∙ stream-by s (S.place u)
    holder-tally (OfSite (site.Pool p)) = line-tally W S (InPool p.0) u declared ∙ pool-by p (S.place u)
    holder-tally (OfSite (site.Desk v)) = desk-tally v ∙ desk-by v (S.place u)
    holder-tally (OfSite (site.Monitor x)) = monitor-tally x.0 (thing_at W x.0) ∙ monitor-by x (S.place u) (sound.placed u)
    holder-tally (OfSite (site.Eventual x)) = waited-holder (site.Eventual x) x.0 refl
    holder-tally (OfSite (site.Future x)) = waited-holder (site.Future x) x.0 refl
    holder-tally (OfSite (site.Barrier x)) = waited-holder (site.Barrier x) x.0 refl
    holder-tally (OfSite (site.Rw x)) = waited-holder (site.Rw x) x.0 refl

    -- Declared holders.

    thing-holds : (y : ℕ) (r : Option Thing) → thing_at W y ≡ r → HoldsUp W S y r → IsHolder W (OfSite (thing_site y r))
    thing-holds y None is holds = absurd holds
    thing-holds y (Some thing.Mutex) is holds = is
    thing-holds y (Some (thing.Cond m)) is holds = let t : IsThing W.objects y (thing.Cond m) = valid.objects y (thing.Cond m) is in t.1
    thing-holds y (Some thing.Eventual) is holds = is
    thing-holds y (Some (thing.Future n c)) is holds = (n, c, is)
    thing-holds y (Some (thing.Barrier n)) is holds = (n, is)
    thing-holds y (Some thing.RwLock) is holds = is

    pub is-holder : (pl : Place) → IsPlaced W S u pl → IsHolder W (holder W u pl)
    is-holder place.Unborn placed = declared
    is-holder (place.Pool p t) placed = placed.0
    is-holder (place.Hand s) placed = placed.0
    is-holder (place.Next s) placed = placed.0
    is-holder (place.Tray s t) placed = placed.0
    is-holder (place.Frame s d) placed = placed.0
    is-holder (place.Blocked spot.Suspended t) placed = declared
    is-holder (place.Blocked (spot.Join v) t) placed = placed.0
    is-holder (place.Blocked (spot.Object x) t) placed = thing-holds x.0 (thing_at W x.0) refl placed.1
    is-holder (place.Ended c) placed = declared

pub units-are-held-once : UnitsAreHeldOnce
units-are-held-once W Z S u valid sound declared = record {
  declared = is-holder W Z S sound valid u declared (S.place u) (sound.placed u);
  once = times-is u (units_with W S (holder W u (S.place u))) 1 (holder-tally W Z S sound valid u declared (holder W u (S.place u)) ∙ ap one (same-itself (holder W u (S.place u))));
  nowhere_else = λ h other. times-is u (units_with W S h) 0
      (holder-tally W Z S sound valid u declared h ∙ ap one (false_from_ne_true (same_holder h (holder W u (S.place u))) (λ e. other (same-is-one h (holder W u (S.place u)) e))));
}
