-- The picture of a model shows the units of each state for which it stands.
use Rattle.std.proofs.Common.{◌≡◌, ◌∙◌, ℕ, zero, suc, ◌+◌, ◌<◌, List, [], ◌∷◌, ◌++◌, Option, Some, None, Contains, All, ap, ap₂, append-nil, append_assoc, arith, get_or, inl, inr, length, length-set, map, refl, replicate, set, slice_get, subst, sym}
use Rattle.std.specs.List.{flat_map, range_with_len}
use Rattle.std.proofs.lemmas.Bool.Decides.{eqb_tells}
use Rattle.std.proofs.lemmas.Grind.{flat_map-append}
use Rattle.std.proofs.lemmas.List.{get_or-set_same, get_or-set_other, length-replicate, map-append}
use Rattle.std.proofs.lemmas.List.Elements.{Contains-get_or, All-append, All-cons, All-head, All-nil, All-set, All-tail}
use Rattle.std.proofs.lemmas.List.Folds.{flat_map-map}
use Rattle.std.proofs.lemmas.List.FromFn.{length-range_with_len, get_or-range_with_len}
use Rattle.std.proofs.lemmas.List.Sorted.{Contains-permutation}
use Rattle.std.proofs.lemmas.Map.Made.{Contains-tail}
use Rattle.abt_machine.specs.declared.events.Site.{Site}
use Rattle.abt_machine.specs.declared.events.Site.TheVariants as site
use Rattle.abt_machine.specs.declared.operations.Thing.{Thing}
use Rattle.abt_machine.specs.declared.operations.Thing.TheVariants as thing
use Rattle.abt_machine.specs.declared.workload.Parts.{Parts}
use Rattle.abt_machine.specs.Monitors.{number_of}
use Rattle.abt_machine.specs.Numbers.{object_no, pool_no, unit_no}
use Rattle.abt_machine.specs.Pieces.{IsPieceOf}
use Rattle.abt_machine.specs.State.{State}
use Rattle.abt_machine.specs.Texts.{ShownUnit, shown}
use Rattle.abt_machine.specs.Valid.{IsValid}
use Rattle.abt_machine.specs.Values.{DeskValue, Object, Owned, PoolValue, barrier_at, eventual_at, future_at, monitor_at, rwlock_at}
use Rattle.abt_machine.specs.Workloads.{thing_at}
use Rattle.abt_laws.specs.Footprint.{Holder, OfStream, OfSite}
use Rattle.abt_calls.specs.Holders.{units_with}
use Rattle.abt_calls.specs.Showing as held
use Rattle.abt_calls.specs.Showing.{IsRowOf, rows_of_object, rows_with}
use Rattle.abt_calls.specs.Totals.{all_holders, all_units, desks_of, holders_from, pools_at, streams_of, thing_holders}
use Rattle.abt_calls.proofs.Showing.{rows-are-the-states, units-have-rows}
use Rattle.abt_calls.proofs.Totals.{all-units-once}
use Rattle.abt_replay.specs.Objects.{desk_from, pool_from, slot_from}
use Rattle.abt_report.specs.declared.pictures.Row.{Row}
use Rattle.abt_report.specs.Pictures as picture
use Rattle.abt_report.specs.Pictures.{SaysWordsOf}
use Rattle.abt_model.specs.Models.{ModelValue, StandsFor}
use Rattle.abt_model.specs.Pictures.{SaysOwnWords, SaysWords, ShowsUnits, blank, placed, row_shown, rows_below, rows_of_desk, rows_of_lane, rows_of_pool, rows_of_slot, rows_of_thing}
use Rattle.abt_model.proofs.Placing.{length-placed, then-placed}

-- Rows that are put in.

module _ (S : State) where
  -- unit u as the state has it
  abbrev unit_at : ℕ → ShownUnit
  unit_at u = record { shown = shown (S.place u); output = (S.carried u).output }

  -- the row of a unit that is held is the one that the state shows
  right-row : (row : held.Row) → IsRowOf S row → picture.unit_in_row (row_shown row) ≡ unit_at row.1.number
  right-row row is = ap₂ (λ x (o : Owned). record { shown = x; output = o.carried.output }) is.0 is.1

  -- after right rows were put in, the row of a number is right if it was before, or if one was put in for it
  placed-right : (xs : List held.Row) (rows : List Row) (u : ℕ) (d : Row) → All (IsRowOf S) xs → u < length rows
      → (picture.unit_in_row (get_or rows u d) ≡ unit_at u → picture.unit_in_row (get_or (placed xs rows) u d) ≡ unit_at u)
      × (Contains (map (λ (row : held.Row). row.1.number) xs) u → picture.unit_in_row (get_or (placed xs rows) u d) ≡ unit_at u)
  placed-right [] rows u d right lt = (λ was. was, λ has. (let within = has.1 in absurd (omega (arith, within))))
  placed-right (x ∷ xs) rows u d right lt =
      let later = placed-right xs (set rows x.1.number (row_shown x)) u d (All-tail (IsRowOf S) x xs right) (subst (λ n. u < n) (sym (length-set rows x.1.number (row_shown x))) lt) in
      let here = right-row x (All-head (IsRowOf S) x xs right) in
      elim (eqb_tells u x.1.number) [
        | inl same ↦
            let now : picture.unit_in_row (get_or (set rows x.1.number (row_shown x)) u d) ≡ unit_at u =
            subst (λ v. picture.unit_in_row (get_or (set rows x.1.number (row_shown x)) v d) ≡ unit_at v) (sym same.1)
            (ap picture.unit_in_row (get_or-set_same rows x.1.number (row_shown x) d (subst (λ v. v < length rows) same.1 lt)) ∙ here) in
            (λ was. later.0 now, λ has. later.0 now)
        | inr other ↦ (
          λ was. later.0 (ap picture.unit_in_row (get_or-set_other rows x.1.number u (row_shown x) d other.1) ∙ was),
          λ has. later.1 (Contains-tail x.1.number (map (λ (row : held.Row). row.1.number) xs) u (λ e. other.1 (sym e)) has),
        )
      ]

-- Rows of all streams and objects.

-- the rows of all units that the model holds, in the order in which they are put in
abbrev pub model_rows : Parts → ModelValue → List held.Row
model_rows W model =
    rows_below (λ s. rows_of_lane s (slice_get model.lanes s)) W.streams ++ rows_below (λ p. rows_of_pool p (slice_get model.objects.pools p)) (length W.pools)
    ++ rows_below (λ u. rows_of_desk u (slice_get model.objects.desks u)) (length W.units)
    ++ rows_below (λ x. rows_of_thing W x (thing_at W x) (slice_get model.objects.slots x)) (length W.objects)

-- what holds of the rows of each holds of all rows
all-flat : {A : Type 0} (P : held.Row → Type 0) (f : A → List held.Row) (xs : List A) → ((x : A) → All P (f x)) → All P (flat_map f xs)
all-flat P f [] each = All-nil P
all-flat P f (x ∷ xs) each = All-append P (f x) (flat_map f xs) (each x) (all-flat P f xs each)

-- the numbers of rows are those of their units
numbers-alike : (rows : List held.Row) → map (λ (row : held.Row). row.1.number) rows ≡ map number_of (map (λ (row : held.Row). row.1) rows)
numbers-alike [] = refl
numbers-alike (row ∷ rows) = ap (λ ns. row.1.number ∷ ns) (numbers-alike rows)

-- the rows of n numbers from a on, and those of one number more
flat-more : (f : ℕ → List held.Row) (a n : ℕ) → flat_map f (range_with_len a (suc n)) ≡ flat_map f (range_with_len a n) ++ f (a + n)
flat-more f a zero = (let e : a + zero ≡ a = omega arith in append-nil (f a) ∙ ap f (sym e))
flat-more f a (suc n) =
    let e : a + 1 + n ≡ a + suc n = omega arith in
    ap (λ rs. f a ++ rs) (flat-more f (a + 1) n)
    ∙ (sym (append_assoc (f a) (flat_map f (range_with_len (a + 1) n)) (f (a + 1 + n)))
    ∙ ap (λ k. (f a ++ flat_map f (range_with_len (a + 1) n)) ++ f k) e)

-- the rows of the numbers below n
below-flat : (f : ℕ → List held.Row) (n : ℕ) → rows_below f n ≡ flat_map f (range_with_len 0 n)
below-flat f zero = refl
below-flat f (suc n) = (let e : 0 + n ≡ n = omega arith in ap (λ rs. rs ++ f n) (below-flat f n) ∙ (ap (λ k. flat_map f (range_with_len 0 n) ++ f k) (sym e) ∙ sym (flat-more f 0 n)))

-- the same rows of each number, the same rows of all
below-alike : (f g : ℕ → List held.Row) (n : ℕ) → ((k : ℕ) → k < n → f k ≡ g k) → rows_below f n ≡ rows_below g n
below-alike f g zero same = refl
below-alike f g (suc n) same = ap₂ (λ x y. x ++ y) (below-alike f g n (λ k lt. same k (omega (arith, lt)))) (same n (omega arith))

module _ (W : Parts) (S : State) where
  -- the numbers of all rows are those of all units that are held
  numbers-of : (hs : List Holder) → map (λ (row : held.Row). row.1.number) (flat_map (rows_with W S) hs) ≡ map number_of (flat_map (units_with W S) hs)
  numbers-of [] = refl
  numbers-of (h ∷ hs) =
      map-append (λ (row : held.Row). row.1.number) (rows_with W S h) (flat_map (rows_with W S) hs)
      ∙ (ap₂ (λ x y. x ++ y) (numbers-alike (rows_with W S h) ∙ ap (map number_of) (units-have-rows W S h)) (numbers-of hs)
      ∙ sym (map-append number_of (units_with W S h) (flat_map (units_with W S) hs)))

  -- of the holders of these numbers, in order
  holders-flat : (h : ℕ → Holder) (f : ℕ → List held.Row) (n : ℕ) → ((k : ℕ) → k < n → f k ≡ rows_with W S (h k)) → rows_below f n ≡ flat_map (rows_with W S) (map h (range_with_len 0 n))
  holders-flat h f n same = below-alike f (λ k. rows_with W S (h k)) n same ∙ (below-flat (λ k. rows_with W S (h k)) n ∙ sym (flat_map-map (rows_with W S) h (range_with_len 0 n)))

  -- of things, the first of which has number x
  things-flat : (f : ℕ → List held.Row) (ts : List Thing) (x : ℕ) → ((k : ℕ) (t : Thing) → slice_get ts k ≡ Some t → f (x + k) ≡ flat_map (rows_with W S) (thing_holders (x + k) t))
      → flat_map f (range_with_len x (length ts)) ≡ flat_map (rows_with W S) (holders_from x ts)
  things-flat f [] x same = refl
  things-flat f (t ∷ ts) x same =
      let e : x + 0 ≡ x = omega arith in
      let e' : x + 1 ≡ suc x = omega arith in
      ap₂ (λ a b. a ++ b) (ap f (sym e) ∙ (same 0 t refl ∙ ap (λ k. flat_map (rows_with W S) (thing_holders k t)) e))
      (things-flat f ts (x + 1) (λ k u is. (let e'' : x + suc k ≡ x + 1 + k = omega arith in ap f (sym e'') ∙ (same (suc k) u is ∙ ap (λ k. flat_map (rows_with W S) (thing_holders k u)) e'')))
      ∙ ap (λ n. flat_map (rows_with W S) (holders_from n ts)) e')
      ∙ sym (flat_map-append (rows_with W S) (thing_holders x t) (holders_from (suc x) ts))

  module _ (model : ModelValue) (stands : StandsFor W S model) where
    abbrev lanes : ℕ → List held.Row
    lanes s = rows_of_lane s (slice_get model.lanes s)

    abbrev pools : ℕ → List held.Row
    pools p = rows_of_pool p (slice_get model.objects.pools p)

    abbrev desks : ℕ → List held.Row
    desks u = rows_of_desk u (slice_get model.objects.desks u)

    abbrev things : ℕ → List held.Row
    things x = rows_of_thing W x (thing_at W x) (slice_get model.objects.slots x)

    -- what each of them holds is what it holds in the state

    same-lane : (s : ℕ) → s < W.streams → lanes s ≡ rows_with W S (OfStream s)
    same-lane s l = ap (rows_of_lane s) (stands.lanes.own s l)

    pool-by : (p : ℕ) (o : Option PoolValue) → rows_of_pool p o ≡ rows_of_object W (site.Pool (pool_no p)) (pool_from o)
    pool-by p None = refl
    pool-by p (Some pool) = refl

    same-pool : (p : ℕ) → p < length W.pools → pools p ≡ rows_with W S (OfSite (site.Pool (pool_no p)))
    same-pool p l = pool-by p (slice_get model.objects.pools p) ∙ ap (rows_of_object W (site.Pool (pool_no p))) (stands.objects (site.Pool (pool_no p)) l)

    desk-by : (u : ℕ) (o : Option DeskValue) → rows_of_desk u o ≡ rows_of_object W (site.Desk (unit_no u)) (desk_from o)
    desk-by u None = refl
    desk-by u (Some desk) = refl

    same-desk : (u : ℕ) → u < length W.units → desks u ≡ rows_with W S (OfSite (site.Desk (unit_no u)))
    same-desk u l = desk-by u (slice_get model.objects.desks u) ∙ ap (rows_of_object W (site.Desk (unit_no u))) (stands.objects (site.Desk (unit_no u)) l)

    slot-by : (x : ℕ) (o : Option Object) → rows_of_slot W x o ≡ rows_of_slot W x (Some (slot_from o))
    slot-by x None = refl
    slot-by x (Some object) = refl

    -- the declared object of thing x, by the thing
    object-by : (x : ℕ) (y : Site) (at : Option Thing → Object) (t : Thing) → thing_at W x ≡ Some t → slot_from (slice_get model.objects.slots x) ≡ at (thing_at W x)
        → rows_of_slot W x (Some (at (Some t))) ≡ rows_of_object W y (at (Some t)) → rows_of_slot W x (slice_get model.objects.slots x) ≡ rows_of_object W y (at (thing_at W x)) ++ []
    object-by x y at t is stands' same =
        slot-by x (slice_get model.objects.slots x)
        ∙ (ap (λ o. rows_of_slot W x (Some o)) stands'
        ∙ (subst (λ o. rows_of_slot W x (Some (at o)) ≡ rows_of_object W y (at o)) (sym is) same
        ∙ sym (append-nil (rows_of_object W y (at (thing_at W x))))))

    thing-by : (x : ℕ) (t : Thing) → thing_at W x ≡ Some t → rows_of_thing W x (Some t) (slice_get model.objects.slots x) ≡ flat_map (rows_with W S) (thing_holders x t)
    thing-by x thing.Mutex is = object-by x (site.Monitor (object_no x)) (monitor_at W S x) thing.Mutex is (stands.objects (site.Monitor (object_no x)) is) refl
    thing-by x (thing.Cond m) is = refl
    thing-by x thing.Eventual is = object-by x (site.Eventual (object_no x)) (eventual_at W S x) thing.Eventual is (stands.objects (site.Eventual (object_no x)) is) refl
    thing-by x (thing.Future n c) is = object-by x (site.Future (object_no x)) (future_at W S x) (thing.Future n c) is (stands.objects (site.Future (object_no x)) (n, c, is)) refl
    thing-by x (thing.Barrier n) is = object-by x (site.Barrier (object_no x)) (barrier_at W S x) (thing.Barrier n) is (stands.objects (site.Barrier (object_no x)) (n, is)) refl
    thing-by x thing.RwLock is = object-by x (site.Rw (object_no x)) (rwlock_at W S x) thing.RwLock is (stands.objects (site.Rw (object_no x)) is) refl

    same-thing : (k : ℕ) (t : Thing) → slice_get W.objects k ≡ Some t → things (0 + k) ≡ flat_map (rows_with W S) (thing_holders (0 + k) t)
    same-thing k t is =
        let e : 0 + k ≡ k = omega arith in
        let at : thing_at W (0 + k) ≡ Some t = ap (thing_at W) e ∙ is in
        ap (λ o. rows_of_thing W (0 + k) o (slice_get model.objects.slots (0 + k))) at ∙ thing-by (0 + k) t at

    -- the units of all streams and objects
    pub same-rows : model_rows W model ≡ flat_map (rows_with W S) (all_holders W)
    same-rows =
        let f = rows_with W S in
        let ss = streams_of W in
        let ps = pools_at W in
        let ds = desks_of W in
        let ts = holders_from 0 W.objects in
        ap₂ (λ a b. a ++ b)
        (ap₂ (λ a b. a ++ b)
        (ap₂ (λ a b. a ++ b) (holders-flat (λ s. OfStream s) lanes W.streams same-lane) (holders-flat (λ p. OfSite (site.Pool (pool_no p))) pools (length W.pools) same-pool))
        (holders-flat (λ u. OfSite (site.Desk (unit_no u))) desks (length W.units) same-desk))
        (below-flat things (length W.objects) ∙ things-flat things W.objects 0 same-thing)
        ∙ sym (flat_map-append f (ss ++ ps ++ ds) ts
        ∙ ap (λ a. a ++ flat_map f ts) (flat_map-append f (ss ++ ps) ds ∙ ap (λ a. a ++ flat_map f ds) (flat_map-append f ss ps)))

    -- each row is that of the state
    pub rows-right : All (IsRowOf S) (model_rows W model)
    rows-right = subst (All (IsRowOf S)) (sym same-rows) (all-flat (IsRowOf S) (rows_with W S) (all_holders W) (rows-are-the-states W S))

-- Pictures.

-- a list whose rows are these by number
same-items : (n a : ℕ) (g : ℕ → ShownUnit) (rows : List Row) → length rows ≡ n → ((k : ℕ) (d : Row) → k < n → picture.unit_in_row (get_or rows k d) ≡ g (a + k))
    → map g (range_with_len a n) ≡ picture.units_in_rows rows
same-items zero a g [] many each = refl
same-items zero a g (row ∷ rows) many each = absurd (omega (arith, many))
same-items (suc n) a g [] many each = absurd (omega (arith, many))
same-items (suc n) a g (row ∷ rows) many each =
    let e : a + 0 ≡ a = omega arith in
    ap₂ (λ x xs. x ∷ xs) (sym (each 0 row (omega arith) ∙ ap g e))
    (same-items n (a + 1) g rows (omega (arith, many)) (λ k d lt. (let f : a + suc k ≡ a + 1 + k = omega arith in each (suc k) d (omega (arith, lt)) ∙ ap g f)))

-- each number below n is one of the first n numbers
among-numbers : (n u : ℕ) → u < n → Contains (range_with_len 0 n) u
among-numbers n u lt =
    let e : 0 + u ≡ u = omega arith in
    subst (Contains (range_with_len 0 n)) (get_or-range_with_len 0 n u 0 lt ∙ e) (Contains-get_or (range_with_len 0 n) u 0 (subst (λ m. u < m) (sym (length-range_with_len 0 n)) lt))

-- rows of a state's units say its words
words-placed : (W : Parts) (S : State) (xs : List held.Row) (rows : List Row) → SaysOwnWords W S → All (IsRowOf S) xs → All (SaysWordsOf W) rows → All (SaysWordsOf W) (placed xs rows)
words-placed W S [] rows says right said = said
words-placed W S (x ∷ xs) rows says right said =
    let here : All (IsPieceOf W) x.1.carried.output = subst (λ (o : Owned). All (IsPieceOf W) o.carried.output) (sym (All-head (IsRowOf S) x xs right).1) (says x.1.number) in
    words-placed W S xs (set rows x.1.number (row_shown x)) says (All-tail (IsRowOf S) x xs right) (All-set (SaysWordsOf W) rows x.1.number (row_shown x) here said)

-- who put out nothing says no other words
blanks-say : (W : Parts) (n : ℕ) → All (SaysWordsOf W) (replicate n blank)
blanks-say W zero = All-nil (SaysWordsOf W)
blanks-say W (suc n) = All-cons (SaysWordsOf W) blank (replicate n blank) (All-nil (IsPieceOf W)) (blanks-say W n)

-- the units of each state for which the model stands
pub shows-units : (W : Parts) (model : ModelValue) → IsValid W → ShowsUnits W model (placed (model_rows W model) (replicate (length W.units) blank))
shows-units W model valid Z S sound stands =
    let rows = model_rows W model in
    let n = length W.units in
    let right = rows-right W S model stands in
    let numbers : map (λ (row : held.Row). row.1.number) rows ≡ map number_of (all_units W S) =
    ap (map (λ (row : held.Row). row.1.number)) (same-rows W S model stands) ∙ numbers-of W S (all_holders W) in
    same-items n 0 (unit_at S) (placed rows (replicate n blank)) (length-placed rows (replicate n blank) ∙ length-replicate n blank)
    (λ u d lt. (let e : u ≡ 0 + u = omega arith in
    (placed-right S rows (replicate n blank) u d right (subst (λ m. u < m) (sym (length-replicate n blank)) lt)).1
    (subst (λ ns. Contains ns u) (sym numbers) (Contains-permutation (range_with_len 0 n) (map number_of (all_units W S)) u (all-units-once W Z S valid sound) (among-numbers n u lt)))
    ∙ ap (unit_at S) e))

-- the words are those of each state for which the model stands
pub says-words : (W : Parts) (model : ModelValue) (n : ℕ) → SaysWords W model (placed (model_rows W model) (replicate n blank))
says-words W model n S stands says = words-placed W S (model_rows W model) (replicate n blank) says (rows-right W S model stands) (blanks-say W n)

-- the units of streams, pools, desks and things are put in one after the other
pub all-placed : (W : Parts) (model : ModelValue) (blanks one two three all : List Row) → one ≡ placed (rows_below (λ s. rows_of_lane s (slice_get model.lanes s)) W.streams) blanks
    → two ≡ placed (rows_below (λ p. rows_of_pool p (slice_get model.objects.pools p)) (length W.pools)) one
    → three ≡ placed (rows_below (λ u. rows_of_desk u (slice_get model.objects.desks u)) (length W.units)) two
    → all ≡ placed (rows_below (λ x. rows_of_thing W x (thing_at W x) (slice_get model.objects.slots x)) (length W.objects)) three
    → all ≡ placed (model_rows W model) blanks
all-placed W model blanks one two three all first second third fourth =
    let lanes = rows_below (λ s. rows_of_lane s (slice_get model.lanes s)) W.streams in
    let pools = rows_below (λ p. rows_of_pool p (slice_get model.objects.pools p)) (length W.pools) in
    let desks = rows_below (λ u. rows_of_desk u (slice_get model.objects.desks u)) (length W.units) in
    let things = rows_below (λ x. rows_of_thing W x (thing_at W x) (slice_get model.objects.slots x)) (length W.objects) in
    then-placed (lanes ++ pools ++ desks) things blanks three all (then-placed (lanes ++ pools) desks blanks two three (then-placed lanes pools blanks one two first second) third) fourth
