-- All streams and objects together hold each declared unit once.
use Rattle.std.proofs.Common.{◌≡◌, ◌≢◌, ℕ, zero, suc, ◌+◌, ◌<◌, ◌≤◌, ◌==◌, false, List, [], ◌∷◌, ◌++◌, length, map, slice_get, Some, refl, sym, ◌∙◌, ap, subst, arith, inl, inr, All}
use Rattle.std.specs.List.{flat_map, range_with_len}
use Rattle.std.proofs.lemmas.Bool.{cases_lt}
use Rattle.std.proofs.lemmas.List.Elements.{All-append, All-cons, All-head, All-nil}
use Rattle.abt_machine.specs.declared.events.Site.{Site}
use Rattle.abt_machine.specs.declared.events.Site.TheVariants as site
use Rattle.abt_machine.specs.declared.numbers.ObjectNo.{ObjectNo}
use Rattle.abt_machine.specs.Stored.{Stored}
use Rattle.abt_machine.specs.declared.operations.Thing.{Thing}
use Rattle.abt_machine.specs.declared.operations.Thing.TheVariants as thing
use Rattle.abt_machine.specs.declared.workload.Parts.{Parts}
use Rattle.abt_machine.specs.Numbers.{pool_no, unit_no}
use Rattle.abt_machine.specs.Workloads.{thing_at}
use Rattle.abt_machine.specs.Valid.{IsValid}
use Rattle.abt_machine.specs.Queues.{first}
use Rattle.abt_machine.specs.State.{State}
use Rattle.abt_machine.specs.Lines.{InPool, InTray, InHand, InNext, InFrames, Joining}
use Rattle.abt_machine.specs.Sound.{Sound}
use Rattle.abt_machine.specs.Monitors.{number_of}
use Rattle.abt_machine.specs.Values.{Owned, owned_at, owned_in, phase_at}
use Rattle.abt_laws.proofs.Lists.{EachOf, EachOf-all, EachOf-append, EachOf-map}
use Rattle.abt_laws.proofs.Options.{none≢some, some-injective}
use Rattle.abt_desk.specs.Keeps.{held_in}
use Rattle.abt_calls.specs.Effects.{unit_in}
use Rattle.abt_laws.specs.Footprint.{Holder, OfStream, OfSite, holder}
use Rattle.abt_calls.specs.Holders.{IsHolder, units_with}
use Rattle.abt_calls.specs.Totals.{AllUnitsOnce, all_holders, all_units, desks_of, holders_from, pools_at, streams_of, thing_holders}
use Rattle.abt_calls.proofs.Counting.{count, count-numbers, permutes, range-one, range-past, tally-past}
use Rattle.abt_calls.proofs.Fitting.{barrier-has, desk-has, eventual-has, future-has, line-has, monitor-has, rwlock-has}
use Rattle.abt_calls.proofs.HeldOnce.{holder-tally, is-holder, same_holder}
use Rattle.abt_calls.proofs.LineTallies.{eqb-flip, one, one-other, one-same}
use Rattle.abt_calls.proofs.Tallies.{tally, tally-append, tally-nil}

-- How often a holder stands in a list.

abbrev hits : Holder → List Holder → ℕ
hits k [] = 0
hits k (h ∷ hs) = one (same_holder h k) + hits k hs

hits-append : (k : Holder) (hs gs : List Holder) → hits k (hs ++ gs) ≡ hits k hs + hits k gs
hits-append k [] gs = omega arith
hits-append k (h ∷ hs) gs = omega (arith, hits-append k hs gs)

-- none of these
hits-none : (k : Holder) (f : ℕ → Holder) → ((i : ℕ) → same_holder (f i) k ≡ false) → (xs : List ℕ) → hits k (map f xs) ≡ 0
hits-none k f none [] = refl
hits-none k f none (x ∷ xs) = let e : one (same_holder (f x) k) ≡ 0 = ap one (none x) in omega (arith, e, hits-none k f none xs)

-- the one of number r
hits-number : (k : Holder) (f : ℕ → Holder) (r : ℕ) → ((i : ℕ) → same_holder (f i) k ≡ (r == i)) → (xs : List ℕ) → hits k (map f xs) ≡ count r xs
hits-number k f r is [] = refl
hits-number k f r is (x ∷ xs) = let e : one (same_holder (f x) k) ≡ one (x == r) = ap one (is x ∙ eqb-flip r x) in omega (arith, e, hits-number k f r is xs)

-- none at these things
things-none : (k : Holder) (i : ℕ) (ts : List Thing) → ((y : ℕ) (t : Thing) → i ≤ y → hits k (thing_holders y t) ≡ 0) → hits k (holders_from i ts) ≡ 0
things-none k i [] none = refl
things-none k i (t ∷ ts) none =
    omega (arith, hits-append k (thing_holders i t) (holders_from (suc i) ts), none i t (omega arith), things-none k (suc i) ts (λ y r l. none y r (omega arith)))

-- at thing x alone
things-one : (k : Holder) (x : ℕ) (t : Thing) → hits k (thing_holders x t) ≡ 1 → ((y : ℕ) (r : Thing) → y ≢ x → hits k (thing_holders y r) ≡ 0)
    → (i j : ℕ) (ts : List Thing) → x ≡ i + j → slice_get ts j ≡ Some t → hits k (holders_from i ts) ≡ 1
things-one k x t one_hit none i j [] at is = absurd (none≢some is)
things-one k x t one_hit none i zero (r ∷ rs) at is =
    let same : r ≡ t = some-injective is in
    let here : x ≡ i = omega arith in
    let e : hits k (thing_holders i r) ≡ 1 = (λ n. hits k (thing_holders (sym here n) (same n))) ∙ one_hit in
    omega (arith, e, hits-append k (thing_holders i r) (holders_from (suc i) rs), things-none k (suc i) rs (λ y q l. none y q (λ s. omega arith)))
things-one k x t one_hit none i (suc j) (r ∷ rs) at is =
    omega (arith, hits-append k (thing_holders i r) (holders_from (suc i) rs), none i r (λ s. omega arith), things-one k x t one_hit none (suc i) j rs (omega arith) is)

-- no thing is held by a stream
no-stream : (s y : ℕ) (t : Thing) → hits (OfStream s) (thing_holders y t) ≡ 0
no-stream s y thing.Mutex = refl
no-stream s y _ = refl

-- none stands at a pool
no-pool : (p y : ℕ) (t : Thing) → hits (OfSite (site.Pool (pool_no p))) (thing_holders y t) ≡ 0
no-pool p y thing.Mutex = refl
no-pool p y _ = refl

-- and none at a desk
no-desk : (v y : ℕ) (t : Thing) → hits (OfSite (site.Desk (unit_no v))) (thing_holders y t) ≡ 0
no-desk v y thing.Mutex = refl
no-desk v y _ = refl

-- the test of one thing's number
this-thing : (x y : ℕ) → y ≢ x → one (x == y) + 0 ≡ 0
this-thing x y other = omega (arith, one-other x y (λ e. other (sym e)))

here : (x : ℕ) → one (x == x) + 0 ≡ 1
here x = omega (arith, one-same x x refl)

no-monitor : (x : ObjectNo) (y : ℕ) (t : Thing) → y ≢ x.0 → hits (OfSite (site.Monitor x)) (thing_holders y t) ≡ 0
no-monitor x y thing.Mutex other = this-thing x.0 y other
no-monitor x y _ other = refl

no-eventual : (x : ObjectNo) (y : ℕ) (t : Thing) → y ≢ x.0 → hits (OfSite (site.Eventual x)) (thing_holders y t) ≡ 0
no-eventual x y thing.Eventual other = this-thing x.0 y other
no-eventual x y _ other = refl

no-future : (x : ObjectNo) (y : ℕ) (t : Thing) → y ≢ x.0 → hits (OfSite (site.Future x)) (thing_holders y t) ≡ 0
no-future x y (thing.Future n c) other = this-thing x.0 y other
no-future x y _ other = refl

no-barrier : (x : ObjectNo) (y : ℕ) (t : Thing) → y ≢ x.0 → hits (OfSite (site.Barrier x)) (thing_holders y t) ≡ 0
no-barrier x y (thing.Barrier n) other = this-thing x.0 y other
no-barrier x y _ other = refl

no-rwlock : (x : ObjectNo) (y : ℕ) (t : Thing) → y ≢ x.0 → hits (OfSite (site.Rw x)) (thing_holders y t) ≡ 0
no-rwlock x y thing.RwLock other = this-thing x.0 y other
no-rwlock x y _ other = refl

module _ (W : Parts) where
  -- the four parts of the list of all holders
  parts-hit : (k : Holder) → hits k (all_holders W) ≡ hits k (streams_of W) + hits k (pools_at W) + hits k (desks_of W) + hits k (holders_from 0 W.objects)
  parts-hit k =
      omega (arith, hits-append k (streams_of W ++ pools_at W ++ desks_of W) (holders_from 0 W.objects), hits-append k (streams_of W ++ pools_at W) (desks_of W), hits-append k (streams_of W) (pools_at W))

  -- a holder that is no stream, no pool or no desk does not stand among these
  no-streams : (k : Holder) → ((i : ℕ) → same_holder (OfStream i) k ≡ false) → hits k (streams_of W) ≡ 0
  no-streams k none = hits-none k (λ s. OfStream s) none (range_with_len 0 W.streams)

  no-pools : (k : Holder) → ((i : ℕ) → same_holder (OfSite (site.Pool (pool_no i))) k ≡ false) → hits k (pools_at W) ≡ 0
  no-pools k none = hits-none k (λ p. OfSite (site.Pool (pool_no p))) none (range_with_len 0 (length W.pools))

  no-desks : (k : Holder) → ((i : ℕ) → same_holder (OfSite (site.Desk (unit_no i))) k ≡ false) → hits k (desks_of W) ≡ 0
  no-desks k none = hits-none k (λ u. OfSite (site.Desk (unit_no u))) none (range_with_len 0 (length W.units))

  -- one of its number, below n, stands there once
  number-hit : (k : Holder) (f : ℕ → Holder) (r n : ℕ) → r < n → ((i : ℕ) → same_holder (f i) k ≡ (r == i)) → hits k (map f (range_with_len 0 n)) ≡ 1
  number-hit k f r n l is = hits-number k f r is (range_with_len 0 n) ∙ range-one r 0 n (omega arith) (omega arith)

  -- a thing's holder stands there once
  thing-hit : (x : Site) (y : ℕ) (t : Thing) → thing_at W y ≡ Some t → hits (OfSite x) (thing_holders y t) ≡ 1 → ((z : ℕ) (r : Thing) → z ≢ y → hits (OfSite x) (thing_holders z r) ≡ 0)
      → ((i : ℕ) → same_holder (OfSite (site.Pool (pool_no i))) (OfSite x) ≡ false) → ((i : ℕ) → same_holder (OfSite (site.Desk (unit_no i))) (OfSite x) ≡ false) → hits (OfSite x) (all_holders W) ≡ 1
  thing-hit x y t is one_hit none pool desk =
      omega (arith, parts-hit (OfSite x), things-one (OfSite x) y t one_hit none 0 y W.objects (omega arith) is, no-streams (OfSite x) (λ i. refl), no-pools (OfSite x) pool, no-desks (OfSite x) desk)

  one-hit : (k : Holder) → IsHolder W k → hits k (all_holders W) ≡ 1
  one-hit (OfStream r) is =
      let k : Holder = OfStream r in
      omega (arith, parts-hit k, number-hit k (λ s. OfStream s) r W.streams is (λ i. refl), no-pools k (λ i. refl), no-desks k (λ i. refl), things-none k 0 W.objects (λ y t l. no-stream r y t))
  one-hit (OfSite (site.Pool q)) is =
      let k : Holder = OfSite (site.Pool q) in
      omega (
        arith,
        parts-hit k,
        no-streams k (λ i. refl),
        number-hit k (λ p. OfSite (site.Pool (pool_no p))) q.0 (length W.pools) is (λ i. refl),
        no-desks k (λ i. refl),
        things-none k 0 W.objects (λ y t l. no-pool q.0 y t),
      )
  one-hit (OfSite (site.Desk v)) is =
      let k : Holder = OfSite (site.Desk v) in
      omega (
        arith,
        parts-hit k,
        no-streams k (λ i. refl),
        no-pools k (λ i. refl),
        number-hit k (λ u. OfSite (site.Desk (unit_no u))) v.0 (length W.units) is (λ i. refl),
        things-none k 0 W.objects (λ y t l. no-desk v.0 y t),
      )
  one-hit (OfSite (site.Monitor x)) is = thing-hit (site.Monitor x) x.0 thing.Mutex is (here x.0) (no-monitor x) (λ i. refl) (λ i. refl)
  one-hit (OfSite (site.Eventual x)) is = thing-hit (site.Eventual x) x.0 thing.Eventual is (here x.0) (no-eventual x) (λ i. refl) (λ i. refl)
  one-hit (OfSite (site.Future x)) is = thing-hit (site.Future x) x.0 (thing.Future is.0 is.1) is.2 (here x.0) (no-future x) (λ i. refl) (λ i. refl)
  one-hit (OfSite (site.Barrier x)) is = thing-hit (site.Barrier x) x.0 (thing.Barrier is.0) is.1 (here x.0) (no-barrier x) (λ i. refl) (λ i. refl)
  one-hit (OfSite (site.Rw x)) is = thing-hit (site.Rw x) x.0 thing.RwLock is (here x.0) (no-rwlock x) (λ i. refl) (λ i. refl)

-- Units that are declared.

module _ (W : Parts) (S : State) where
  -- the unit is declared
  abbrev IsOne : Owned → Type 0
  IsOne o = o.number < length W.units

  -- a desk is declared
  abbrev IsFine : Holder → Type 0
  IsFine (OfSite (site.Desk v)) = v.0 < length W.units
  IsFine h = Unit {0}

  first-has : (os : List Owned) → All IsOne os → All IsOne (unit_in (first os))
  first-has [] all = All-nil IsOne
  first-has (o ∷ os) all = All-cons IsOne o [] (All-head IsOne o os all) (All-nil IsOne)

  holder-has : (h : Holder) → IsFine h → All IsOne (units_with W S h)
  holder-has (OfStream s) fine =
      let hand : List Owned = unit_in (first (owned_in W S (InHand s))) in
      let next : List Owned = unit_in (first (owned_in W S (InNext s))) in
      All-append IsOne (hand ++ next ++ owned_in W S (InTray s)) (owned_in W S (InFrames s))
      (All-append IsOne (hand ++ next) (owned_in W S (InTray s))
      (All-append IsOne hand next (first-has (owned_in W S (InHand s)) (line-has W S IsOne (λ u l. l) (InHand s))) (first-has (owned_in W S (InNext s)) (line-has W S IsOne (λ u l. l) (InNext s))))
      (line-has W S IsOne (λ u l. l) (InTray s)))
      (line-has W S IsOne (λ u l. l) (InFrames s))
  holder-has (OfSite (site.Pool p)) fine = line-has W S IsOne (λ u l. l) (InPool p.0)
  holder-has (OfSite (site.Desk v)) fine =
      All-append IsOne (held_in (phase_at (owned_at S v.0) (S.place v.0))) (owned_in W S (Joining v.0)) (desk-has W S IsOne (λ u l. l) v.0 (S.place v.0) fine) (line-has W S IsOne (λ u l. l) (Joining v.0))
  holder-has (OfSite (site.Monitor x)) fine = monitor-has W S IsOne (λ u l. l) x.0 (thing_at W x.0)
  holder-has (OfSite (site.Eventual x)) fine = eventual-has W S IsOne (λ u l. l) x.0 (thing_at W x.0)
  holder-has (OfSite (site.Future x)) fine = future-has W S IsOne (λ u l. l) x.0 (thing_at W x.0)
  holder-has (OfSite (site.Barrier x)) fine = barrier-has W S IsOne (λ u l. l) x.0 (thing_at W x.0)
  holder-has (OfSite (site.Rw x)) fine = rwlock-has W S IsOne (λ u l. l) x.0 (thing_at W x.0)

  holders-have : (hs : List Holder) → EachOf IsFine hs → All IsOne (flat_map (units_with W S) hs)
  holders-have [] fine = All-nil IsOne
  holders-have (h ∷ hs) fine = All-append IsOne (units_with W S h) (flat_map (units_with W S) hs) (holder-has h fine.0) (holders-have hs fine.1)

  range-each : (a n : ℕ) → EachOf (λ i. i < a + n) (range_with_len a n)
  range-each a zero = tt
  range-each a (suc n) = let e : a + 1 + n ≡ a + suc n = omega arith in (omega arith, subst (λ m. EachOf (λ i. i < m) (range_with_len (a + 1) n)) e (range-each (a + 1) n))

  thing-fine : (x : ℕ) (t : Thing) → EachOf IsFine (thing_holders x t)
  thing-fine x (thing.Cond m) = tt
  thing-fine x _ = (tt, tt)

  things-fine : (i : ℕ) (ts : List Thing) → EachOf IsFine (holders_from i ts)
  things-fine i [] = tt
  things-fine i (t ∷ ts) = EachOf-append IsFine (thing_holders i t) (holders_from (suc i) ts) (thing-fine i t) (things-fine (suc i) ts)

  all-fine : EachOf IsFine (all_holders W)
  all-fine =
      let n : ℕ = length W.units in
      let e : 0 + n ≡ n = omega arith in
      EachOf-append IsFine (streams_of W ++ pools_at W ++ desks_of W) (holders_from 0 W.objects)
      (EachOf-append IsFine (streams_of W ++ pools_at W) (desks_of W)
      (EachOf-append IsFine (streams_of W) (pools_at W)
      (EachOf-map IsFine (λ _. Unit {0}) (λ s. OfStream s) (range_with_len 0 W.streams) (λ s _. tt) (EachOf-all (λ _. Unit {0}) (range_with_len 0 W.streams) (λ s. tt)))
      (EachOf-map IsFine (λ _. Unit {0}) (λ p. OfSite (site.Pool (pool_no p))) (range_with_len 0 (length W.pools)) (λ p _. tt) (EachOf-all (λ _. Unit {0}) (range_with_len 0 (length W.pools)) (λ p. tt))))
      (EachOf-map IsFine (λ i. i < n) (λ u. OfSite (site.Desk (unit_no u))) (range_with_len 0 n) (λ u l. l) (subst (λ m. EachOf (λ i. i < m) (range_with_len 0 n)) e (range-each 0 n))))
      (things-fine 0 W.objects)

-- A declared unit.

module _ (W : Parts) (Z : Stored) (S : State) (sound : Sound W Z S) (valid : IsValid W) (u : ℕ) (declared : u < length W.units) where
  holders-tally : (hs : List Holder) → tally u (flat_map (units_with W S) hs) ≡ hits (holder W u (S.place u)) hs
  holders-tally [] = tally-nil u
  holders-tally (h ∷ hs) = omega (arith, tally-append u (units_with W S h) (flat_map (units_with W S) hs), holder-tally W Z S sound valid u declared h, holders-tally hs)

  once : tally u (all_units W S) ≡ 1
  once = holders-tally (all_holders W) ∙ one-hit W (holder W u (S.place u)) (is-holder W Z S sound valid u declared (S.place u) (sound.placed u))

pub all-units-once : AllUnitsOnce
all-units-once W Z S valid sound =
    let n : ℕ = length W.units in
    permutes (range_with_len 0 n) (map number_of (all_units W S)) (λ u. elim (cases_lt u n) [
      | inl declared ↦ range-one u 0 n (omega arith) (omega arith) ∙ sym (count-numbers u (all_units W S) ∙ once W Z S sound valid u declared)
      | inr above ↦ range-past u 0 n (omega arith) ∙ sym (count-numbers u (all_units W S) ∙ tally-past u n (all_units W S) (holders-have W S (all_holders W) (all-fine W S)) above)
    ])
