-- A picture shows the units of a state.
use Rattle.std.proofs.Common.{◌≡◌, ℕ, zero, suc, ◌<◌, ◌+◌, List, [], ◌∷◌, ◌++◌, map, set, get_or, replicate, length, slice_get, Some, Contains, refl, sym, ◌∙◌, ap, ap₂, subst, arith, length-set, inl, inr, append_assoc}
use Rattle.std.specs.List.{All, flat_map, range_with_len}
use Rattle.std.proofs.lemmas.Bool.Decides.{eqb_tells}
use Rattle.std.proofs.lemmas.Grind.{flat_map-append}
use Rattle.std.proofs.lemmas.List.{get_or-set_same, get_or-set_other, length-replicate, map-append}
use Rattle.std.proofs.lemmas.List.Elements.{Contains-get_or, All-append, All-head, All-nil, All-tail}
use Rattle.std.proofs.lemmas.List.Folds.{flat_map-map}
use Rattle.std.proofs.lemmas.List.FromFn.{length-range_with_len, get_or-range_with_len}
use Rattle.std.proofs.lemmas.Map.Made.{Contains-tail}
use Rattle.std.proofs.lemmas.List.Sorted.{Contains-permutation}
use Rattle.abt_machine.specs.declared.events.Shown.TheVariants as shows
use Rattle.abt_machine.specs.declared.events.Site.{Site}
use Rattle.abt_machine.specs.declared.events.Site.TheVariants as site
use Rattle.abt_machine.specs.declared.operations.Thing.{Thing}
use Rattle.abt_machine.specs.declared.operations.Thing.TheVariants as thing
use Rattle.abt_machine.specs.declared.workload.Parts.{Parts}
use Rattle.abt_machine.specs.Monitors.{number_of}
use Rattle.abt_machine.specs.Numbers.{object_no, pool_no, stream_no, unit_no}
use Rattle.abt_machine.specs.State.{State}
use Rattle.abt_machine.specs.Texts.{ShownUnit, shown}
use Rattle.abt_machine.specs.Valid.{IsValid}
use Rattle.abt_machine.specs.Values.{Owned, object_of, part_of}
use Rattle.abt_laws.specs.Footprint.{Holder, OfStream, OfSite}
use Rattle.abt_calls.specs.Holders.{units_held, units_with}
use Rattle.abt_calls.specs.Showing as held
use Rattle.abt_calls.specs.Showing.{IsRowOf, rows_as, rows_of_object, rows_with}
use Rattle.abt_calls.specs.Totals.{all_holders, all_units, desks_of, holders_from, pools_at, streams_of, thing_holders}
use Rattle.abt_calls.proofs.Showing.{rows-are-the-states, units-have-rows}
use Rattle.abt_calls.proofs.Totals.{all-units-once}
use Rattle.abt_commons.specs.Groups.{all_rows, rows_held}
use Rattle.abt_commons.specs.Held.{ObjectsValue, object_at}
use Rattle.abt_report.specs.declared.pictures.Row.{Row}
use Rattle.abt_report.specs.Pictures as picture
use Rattle.abt_stream.specs.declared.stream.StreamParts.{StreamParts}
use Rattle.abt_drain.specs.Pictures.{AreOf, ShowsUnits, blank, placed, row_shown, rows_left, units_in_parts}
use Rattle.abt_drain.proofs.Placing.{length-placed}

-- Rows that are put in.

module _ (S : State) where
  -- unit u as the state has it
  abbrev unit_at : ℕ → ShownUnit
  unit_at u = record { shown = shown (S.place u); output = (S.carried u).output }

  right-row : (row : held.Row) → IsRowOf S row → picture.unit_in_row (row_shown row) ≡ unit_at row.1.number
  right-row row is = ap₂ (λ x (o : Owned). record { shown = x; output = o.carried.output }) is.0 is.1

  -- after right rows were put in, the row of a number is right if it was before, or if one was put in for it
  placed-right : (xs : List held.Row) (rows : List Row) (u : ℕ) (d : Row) → All (IsRowOf S) xs → u < length rows
      → (picture.unit_in_row (get_or rows u d) ≡ unit_at u → picture.unit_in_row (get_or (placed xs rows) u d) ≡ unit_at u)
      × (Contains (map (λ (row : held.Row). row.1.number) xs) u → picture.unit_in_row (get_or (placed xs rows) u d) ≡ unit_at u)
  placed-right [] rows u d right lt = (λ was. was, λ has. (let within = has.1 in absurd (omega (arith, within))))
  placed-right (x ∷ xs) rows u d right lt =
      let later = placed-right xs (set rows x.1.number (row_shown x)) u d (All-tail (IsRowOf S) x xs right) (subst (λ n. u < n) (sym (length-set rows x.1.number (row_shown x))) lt) in
      let here = right-row x (All-head (IsRowOf S) x xs right) in
      elim (eqb_tells u x.1.number) [
        | inl same ↦
            let now : picture.unit_in_row (get_or (set rows x.1.number (row_shown x)) u d) ≡ unit_at u =
            subst (λ v. picture.unit_in_row (get_or (set rows x.1.number (row_shown x)) v d) ≡ unit_at v) (sym same.1)
            (ap picture.unit_in_row (get_or-set_same rows x.1.number (row_shown x) d (subst (λ v. v < length rows) same.1 lt)) ∙ here) in
            (λ was. later.0 now, λ has. later.0 now)
        | inr other ↦ (
          λ was. later.0 (ap picture.unit_in_row (get_or-set_other rows x.1.number u (row_shown x) d other.1) ∙ was),
          λ has. later.1 (Contains-tail x.1.number (map (λ (row : held.Row). row.1.number) xs) u (λ e. other.1 (sym e)) has),
        )
      ]

-- Rows of all streams and objects.

all-flat : {A : Type 0} (P : held.Row → Type 0) (f : A → List held.Row) (xs : List A) → ((x : A) → All P (f x)) → All P (flat_map f xs)
all-flat P f [] each = All-nil P
all-flat P f (x ∷ xs) each = All-append P (f x) (flat_map f xs) (each x) (all-flat P f xs each)

flat-alike : (f g : ℕ → List held.Row) (a n : ℕ) → ((k : ℕ) → f k ≡ g k) → flat_map f (range_with_len a n) ≡ flat_map g (range_with_len a n)
flat-alike f g a zero same = refl
flat-alike f g a (suc n) same = ap₂ (λ x y. x ++ y) (same a) (flat-alike f g (a + 1) n same)

numbers-alike : (rows : List held.Row) → map (λ (row : held.Row). row.1.number) rows ≡ map number_of (map (λ (row : held.Row). row.1) rows)
numbers-alike [] = refl
numbers-alike (row ∷ rows) = ap (λ ns. row.1.number ∷ ns) (numbers-alike rows)

module _ (W : Parts) (S : State) where
  numbers-of : (hs : List Holder) → map (λ (row : held.Row). row.1.number) (flat_map (rows_with W S) hs) ≡ map number_of (flat_map (units_with W S) hs)
  numbers-of [] = refl
  numbers-of (h ∷ hs) =
      map-append (λ (row : held.Row). row.1.number) (rows_with W S h) (flat_map (rows_with W S) hs)
      ∙ (ap₂ (λ x y. x ++ y) (numbers-alike (rows_with W S h) ∙ ap (map number_of) (units-have-rows W S h)) (numbers-of hs)
      ∙ sym (map-append number_of (units_with W S h) (flat_map (units_with W S) hs)))

  streams-from : (left : List StreamParts) (s : ℕ) → ((k : ℕ) (parts : StreamParts) → slice_get left k ≡ Some parts → units_in_parts parts ≡ units_held (part_of W S (s + k)))
      → rows_left s left ≡ flat_map (rows_with W S) (map (λ r. OfStream r) (range_with_len s (length left)))
  streams-from [] s same = refl
  streams-from (parts ∷ left) s same =
      let e : s + 0 ≡ s = omega arith in
      let e' : suc s ≡ s + 1 = omega arith in
      ap₂ (λ x y. x ++ y)
      (ap (rows_as (shows.Stream (stream_no s))) (same 0 parts refl ∙ ap (λ r. units_held (part_of W S r)) e))
      (ap (λ r. rows_left r left) e'
      ∙ streams-from left (s + 1) (λ k p is. (let f : s + suc k ≡ s + 1 + k = omega arith in same (suc k) p is ∙ ap (λ r. units_held (part_of W S r)) f)))

  module _ (objects : ObjectsValue) (own : objects.workload ≡ W) (same : (x : Site) → object_of W S x ≡ object_at objects x) where
    same-at : (x : Site) → rows_held objects (OfSite x) ≡ rows_with W S (OfSite x)
    same-at x = ap₂ (λ V o. rows_of_object V x o) own (sym (same x))

    same-thing : (x : ℕ) (t : Thing) → flat_map (rows_held objects) (thing_holders x t) ≡ flat_map (rows_with W S) (thing_holders x t)
    same-thing x thing.Mutex = ap (λ rs. rs ++ []) (same-at (site.Monitor (object_no x)))
    same-thing x (thing.Cond m) = refl
    same-thing x thing.Eventual = ap (λ rs. rs ++ []) (same-at (site.Eventual (object_no x)))
    same-thing x (thing.Future n c) = ap (λ rs. rs ++ []) (same-at (site.Future (object_no x)))
    same-thing x (thing.Barrier n) = ap (λ rs. rs ++ []) (same-at (site.Barrier (object_no x)))
    same-thing x thing.RwLock = ap (λ rs. rs ++ []) (same-at (site.Rw (object_no x)))

    same-things : (x : ℕ) (ts : List Thing) → flat_map (rows_held objects) (holders_from x ts) ≡ flat_map (rows_with W S) (holders_from x ts)
    same-things x [] = refl
    same-things x (t ∷ ts) =
        flat_map-append (rows_held objects) (thing_holders x t) (holders_from (suc x) ts)
        ∙ (ap₂ (λ a b. a ++ b) (same-thing x t) (same-things (suc x) ts)
        ∙ sym (flat_map-append (rows_with W S) (thing_holders x t) (holders_from (suc x) ts)))

    same-pools : flat_map (rows_held objects) (pools_at W) ≡ flat_map (rows_with W S) (pools_at W)
    same-pools =
        flat_map-map (rows_held objects) (λ p. OfSite (site.Pool (pool_no p))) (range_with_len 0 (length W.pools))
        ∙ (flat-alike (λ p. rows_held objects (OfSite (site.Pool (pool_no p)))) (λ p. rows_with W S (OfSite (site.Pool (pool_no p)))) 0 (length W.pools) (λ p. same-at (site.Pool (pool_no p)))
        ∙ sym (flat_map-map (rows_with W S) (λ p. OfSite (site.Pool (pool_no p))) (range_with_len 0 (length W.pools))))

    same-desks : flat_map (rows_held objects) (desks_of W) ≡ flat_map (rows_with W S) (desks_of W)
    same-desks =
        flat_map-map (rows_held objects) (λ u. OfSite (site.Desk (unit_no u))) (range_with_len 0 (length W.units))
        ∙ (flat-alike (λ u. rows_held objects (OfSite (site.Desk (unit_no u)))) (λ u. rows_with W S (OfSite (site.Desk (unit_no u)))) 0 (length W.units) (λ u. same-at (site.Desk (unit_no u)))
        ∙ sym (flat_map-map (rows_with W S) (λ u. OfSite (site.Desk (unit_no u))) (range_with_len 0 (length W.units))))

    -- the units of all objects
    same-objects : all_rows objects ≡ flat_map (rows_with W S) (pools_at W) ++ flat_map (rows_with W S) (desks_of W) ++ flat_map (rows_with W S) (holders_from 0 W.objects)
    same-objects =
        ap (λ V. flat_map (rows_held objects) (pools_at V) ++ flat_map (rows_held objects) (desks_of V) ++ flat_map (rows_held objects) (holders_from 0 V.objects)) own
        ∙ ap₂ (λ a b. a ++ b) (ap₂ (λ a b. a ++ b) same-pools same-desks) (same-things 0 W.objects)

    -- the units of all streams and objects
    same-rows : (streams : List StreamParts) → AreOf W S streams objects → rows_left 0 streams ++ all_rows objects ≡ flat_map (rows_with W S) (all_holders W)
    same-rows streams are =
        let f = rows_with W S in
        let ss = streams_of W in
        let ps = pools_at W in
        let ds = desks_of W in
        let ts = holders_from 0 W.objects in
        let left : rows_left 0 streams ≡ flat_map f ss =
        streams-from streams 0 (λ k parts is. (let e : k ≡ 0 + k = omega arith in are.left k parts is ∙ ap (λ r. units_held (part_of W S r)) e))
        ∙ ap (λ n. flat_map f (map (λ r. OfStream r) (range_with_len 0 n))) are.many in
        ap₂ (λ a b. a ++ b) left same-objects
        ∙ (sym (append_assoc (flat_map f ss) (flat_map f ps ++ flat_map f ds) (flat_map f ts))
        ∙ (ap (λ a. a ++ flat_map f ts) (sym (append_assoc (flat_map f ss) (flat_map f ps) (flat_map f ds)))
        ∙ sym (flat_map-append f (ss ++ ps ++ ds) ts
        ∙ ap (λ a. a ++ flat_map f ts) (flat_map-append f (ss ++ ps) ds ∙ ap (λ a. a ++ flat_map f ds) (flat_map-append f ss ps)))))

-- Pictures.

same-items : (n a : ℕ) (g : ℕ → ShownUnit) (rows : List Row) → length rows ≡ n → ((k : ℕ) (d : Row) → k < n → picture.unit_in_row (get_or rows k d) ≡ g (a + k)) → map g (range_with_len a n) ≡ picture.units_in_rows rows
same-items zero a g [] many each = refl
same-items zero a g (row ∷ rows) many each = absurd (omega (arith, many))
same-items (suc n) a g [] many each = absurd (omega (arith, many))
same-items (suc n) a g (row ∷ rows) many each =
    let e : a + 0 ≡ a = omega arith in
    ap₂ (λ x xs. x ∷ xs) (sym (each 0 row (omega arith) ∙ ap g e))
    (same-items n (a + 1) g rows (omega (arith, many)) (λ k d lt. (let f : a + suc k ≡ a + 1 + k = omega arith in each (suc k) d (omega (arith, lt)) ∙ ap g f)))

among-numbers : (n u : ℕ) → u < n → Contains (range_with_len 0 n) u
among-numbers n u lt =
    let e : 0 + u ≡ u = omega arith in
    subst (Contains (range_with_len 0 n)) (get_or-range_with_len 0 n u 0 lt ∙ e) (Contains-get_or (range_with_len 0 n) u 0 (subst (λ m. u < m) (sym (length-range_with_len 0 n)) lt))

-- the units of each state that what is left is of
pub shows-units : (W : Parts) (streams : List StreamParts) (objects : ObjectsValue) → IsValid W → objects.workload ≡ W
    → ShowsUnits W streams objects (placed (rows_left 0 streams ++ all_rows objects) (replicate (length W.units) blank))
shows-units W streams objects valid own Z S sound are =
    let rows = rows_left 0 streams ++ all_rows objects in
    let same = same-rows W S objects own are.held streams are in
    let n = length W.units in
    let right : All (IsRowOf S) rows = subst (All (IsRowOf S)) (sym same) (all-flat (IsRowOf S) (rows_with W S) (all_holders W) (rows-are-the-states W S)) in
    let numbers : map (λ (row : held.Row). row.1.number) rows ≡ map number_of (all_units W S) = ap (map (λ (row : held.Row). row.1.number)) same ∙ numbers-of W S (all_holders W) in
    same-items n 0 (unit_at S) (placed rows (replicate n blank)) (length-placed rows (replicate n blank) ∙ length-replicate n blank)
    (λ u d lt. (let e : u ≡ 0 + u = omega arith in
    (placed-right S rows (replicate n blank) u d right (subst (λ m. u < m) (sym (length-replicate n blank)) lt)).1
    (subst (λ ns. Contains ns u) (sym numbers) (Contains-permutation (range_with_len 0 n) (map number_of (all_units W S)) u (all-units-once W Z S valid sound) (among-numbers n u lt)))
    ∙ ap (unit_at S) e))
