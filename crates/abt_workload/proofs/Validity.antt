-- Proper parts, all of which are declared, are those of a workload.
use Rattle.std.proofs.Common.{◌≡◌, ◌≢◌, ◌<◌, ◌==◌, ◌∙◌, ℕ, zero, suc, true, false, List, [], ◌∷◌, ◌++◌, All, Option, Some, None, ap, arith, flat_map, get_or, is_none, length, option_to_list, refl, replicate, slice_get, subst, sym, unwrap_or}
use Rattle.std.specs.List.{AllPairs, list_any, range_with_len}
use Rattle.std.proofs.lemmas.List.Elements.{All-append, All-cons, All-head, All-tail}
use Rattle.std.proofs.lemmas.List.FromFn.{get_or-range_with_len, length-range_with_len}
use Rattle.std.proofs.lemmas.Bool.{eqb-true}
use Rattle.std.proofs.lemmas.List.{length-replicate}
use Rattle.abt_machine.specs.declared.numbers.SchedNo.{SchedNo}
use Rattle.abt_machine.specs.declared.operations.Op.{Op}
use Rattle.abt_machine.specs.declared.operations.Op.TheVariants as op
use Rattle.abt_machine.specs.declared.workload.Parts.{Parts}
use Rattle.abt_machine.specs.declared.workload.UnitPart.{UnitPart}
use Rattle.abt_machine.specs.Declaring.{Above, parts_of, repeated, said_words, units_of}
use Rattle.abt_machine.specs.Operations.{IsDeclared, said_by}
use Rattle.abt_machine.specs.Valid.{IsStream, IsUnit, IsValid, IsWord}
use Rattle.abt_machine.specs.Workloads.{main_from, ops_of}
use Rattle.abt_machine.proofs.Saying.{said_by_units}
use Rattle.abt_workload.proofs.Copies.{all-repeated, units-ops, units-said, units-scheds}
use Rattle.abt_workload.proofs.Growing.{mains_list}
use Rattle.abt_workload.proofs.KeepingUnits.{units-below, units-in}
use Rattle.abt_workload.proofs.Naming.{others-declared, others-said, unmuted}
use Rattle.abt_workload.proofs.Proper.{IsProper, IsUnitIn, counted, idle, muted, none-of, stream_count, takes_all, unit_count}

-- Main schedulers.

-- each stream's main scheduler, if all have one
full-main : (ms : List (Option SchedNo)) (s : ℕ) → list_any is_none ms ≡ false → s < length ms → (g : SchedNo) × (slice_get ms s ≡ Some (Some g)) × (slice_get (flat_map option_to_list ms) s ≡ Some g)
full-main [] s e lt = absurd (omega arith)
full-main (None ∷ ms) s e lt = cc
full-main (Some g ∷ ms) zero e lt = (g, refl, refl)
full-main (Some g ∷ ms) (suc s) e lt = full-main ms s e (omega arith)

full-length : (ms : List (Option SchedNo)) → list_any is_none ms ≡ false → length (flat_map option_to_list ms) ≡ length ms
full-length [] e = refl
full-length (None ∷ ms) e = cc
full-length (Some g ∷ ms) e = ap suc (full-length ms e)

some-in : (o : Option ℕ) → is_none o ≡ false → (n : ℕ) × (o ≡ Some n)
some-in None e = cc
some-in (Some n) e = (n, refl)

-- Units.

-- main schedulers are named by no operation
mains-declared : (W : Parts) (ms : List SchedNo) (o : Op) → IsDeclared (record W { mains = ms }) o → IsDeclared W o
mains-declared W ms (op.Set n) h = h
mains-declared W ms _ h = h

-- Words.

-- what all elements of the lists have that things make, those of each thing's have
pub all-flat : {A : Type 0} (f : A → List ℕ) (P : ℕ → Type 0) (xs : List A) → All P (flat_map f xs) → All (λ x. All P (f x)) xs
all-flat f P [] all = none-of _
all-flat f P (x ∷ xs) all = All-cons (λ y. All P (f y)) x xs (front (f x) (flat_map f xs) all) (all-flat f P xs (back (f x) (flat_map f xs) all))
  where
    front : (ys zs : List ℕ) → All P (ys ++ zs) → All P ys
    front [] zs h = none-of _
    front (y ∷ ys) zs h = All-cons P y ys (All-head P y (ys ++ zs) h) (front ys zs (All-tail P y (ys ++ zs) h))

    back : (ys zs : List ℕ) → All P (ys ++ zs) → All P zs
    back [] zs h = h
    back (y ∷ ys) zs h = back ys zs (All-tail P y (ys ++ zs) h)

-- numbers that count up from 0 are below their number
range-below : (n : ℕ) → All (λ w. w < n) (range_with_len 0 n)
range-below n = λ k d lt. let long = length-range_with_len 0 n in let e = get_or-range_with_len 0 n k d (omega arith) in omega arith

module _ (a : Above) (h : IsProper a) (ended : (a.section == 10) ≡ true) where
  section-ten : a.section ≡ 10
  section-ten = eqb-true a.section 10 ended

  all-mains : list_any is_none a.mains ≡ false
  all-mains = let e = section-ten in h.order.has_mains (omega arith)

  units-same : length (replicate (unit_count a) idle) ≡ length (units_of a)
  units-same =
      let e = section-ten in
      let most = h.order.has_units (omega arith) in
      let least = units-below a h in
      let count : length (replicate (unit_count a) idle) ≡ unit_count a = length-replicate (unit_count a) idle in
      omega arith

  streams-some : 0 < stream_count a
  streams-some = by (some-in a.streams (let e = section-ten in h.order.has_streams (omega arith)))
    where
      by : ((n : ℕ) × (a.streams ≡ Some n)) → 0 < stream_count a
      by (n, is) = subst (λ (o : Option ℕ). 0 < unwrap_or o 0) (sym is) (h.streams.low n is)

  stream-valid : (s : ℕ) → s < stream_count a → IsStream (parts_of a) s
  stream-valid s lt = by (full-main a.mains s all-mains (let c = h.mains.count in omega arith))
    where
      by : ((g : SchedNo) × (slice_get a.mains s ≡ Some (Some g)) × (slice_get (flat_map option_to_list a.mains) s ≡ Some g)) → IsStream (parts_of a) s
      by (g, is, here) =
          let same : main_from (slice_get (flat_map option_to_list a.mains) s) ≡ g.0 = ap main_from here in
          record {
            main = subst (λ (n : ℕ). n < length a.scheds) (sym same) (h.mains.there s g is);
            takes = subst (λ (n : ℕ). takes_all a.pools a.scheds s n ≡ true) (sym same) (h.mains.taking s g is);
          }

  -- the words of the units, numbered
  all-said : said_by_units (units_of a) ≡ range_with_len 0 (length (said_words a))
  all-said = units-said a h.said h.last_said

  -- an operation that is declared but for its word is declared, where it is one of those that say their words
  op-valid : (o : Op) → IsDeclared (counted a) (muted o) → All (λ w. w < length (said_words a)) (said_by o) → IsDeclared (parts_of a) o
  op-valid o i said =
      unmuted (parts_of a) o
      (mains-declared (parts_of a) [] (muted o)
      (others-declared (record (parts_of a) { mains = [] }) (replicate (unit_count a) idle) (units_of a) units-same (muted o)
      (others-said (record (parts_of a) { mains = []; units = replicate (unit_count a) idle }) [] o i)))
      said

  unit-valid : (part : UnitPart) → IsUnitIn (counted a) part → All (λ w. w < length (said_words a)) (flat_map said_by (ops_of part.body)) → IsUnit (parts_of a) part
  unit-valid part i said = record {
    kind = i.kind;
    few_ops = i.few_ops;
    ops = λ k d lt. op-valid (get_or (ops_of part.body) k d) (i.ops k d lt) (all-flat said_by (λ w. w < length (said_words a)) (ops_of part.body) said k d lt);
    start = i.start;
  }

  pub valid-of : IsValid (parts_of a)
  valid-of =
      let ten = section-ten in
      let count = h.units.few in
      let declared = units-below a h in
      let ops = units-ops a in
      let few = h.few_ops in
      let said : All (λ w. w < length (said_words a)) (said_by_units (units_of a)) = subst (λ (ns : List ℕ). All (λ w. w < length (said_words a)) ns) (sym all-said) (range-below (length (said_words a))) in
      record {
        some_stream = streams-some;
        few_streams = h.streams.high;
        few_keys = h.keys;
        some_pool = h.order.has_pools (omega arith);
        few_pools = h.pools.few;
        pools = h.pools.all;
        some_sched = let m = (stream-valid 0 streams-some).main in omega (arith, m);
        few_scheds = h.scheds.few;
        scheds = h.scheds.all;
        mains = full-length a.mains all-mains ∙ h.mains.count;
        streams = stream-valid;
        one_place = subst (λ (gs : List ℕ). AllPairs (λ x y. x ≢ y) (mains_list a.mains ++ gs)) (sym (units-scheds a h.units.copied)) h.places;
        few_objects = h.objects.few;
        objects = h.objects.all;
        few_units = omega arith;
        units = λ u d lt. unit-valid (get_or (units_of a) u d) (units-in a h u d lt) (all-flat (λ (part : UnitPart). flat_map said_by (ops_of part.body)) (λ w. w < length (said_words a)) (units_of a) said u d lt);
        few_ops = omega arith;
        said = all-said;
        words = All-append IsWord a.words (repeated a.copies a.said) h.words (all-repeated IsWord a.copies a.said h.last_words);
      }
