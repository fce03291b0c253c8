-- How the list of units that are reached grows.
use Rattle.std.proofs.Common.{◌≡◌, ℕ, zero, suc, ◌+◌, ◌<◌, ◌≤◌, Bool, true, false, cond, List, [], ◌∷◌, ◌++◌, length, replicate, Option, Some, None, set, get_or, length-set, refl, sym, ◌∙◌, ap, subst, arith, inl, inr}
use Rattle.std.specs.Prelude.{Contains, MatchBool, count_by, slice_get}
use Rattle.std.proofs.lemmas.Bool.{cases_eq, cases_lt}
use Rattle.std.proofs.lemmas.List.{length-replicate, length_push}
use Rattle.std.proofs.lemmas.List.Elements.{Contains-append_left, Contains-push, Contains-push_cases}
use Rattle.std.proofs.lemmas.List.Sums.{count_by-le-length, sum_by-set}
use Rattle.std.proofs.lemmas.Option.{slice_get-get_or}
use Rattle.abt_machine.specs.declared.numbers.PoolNo.{PoolNo}
use Rattle.abt_machine.specs.declared.numbers.UnitNo.{UnitNo}
use Rattle.abt_machine.specs.declared.operations.Op.{Op}
use Rattle.abt_machine.specs.declared.operations.Op.TheVariants as op
use Rattle.abt_machine.specs.declared.workload.Parts.{Parts}
use Rattle.abt_machine.specs.Numbers.{unit_no}
use Rattle.abt_machine.specs.Valid.{IsValid}
use Rattle.abt_machine.specs.Workloads.{op_at, start_of}
use Rattle.abt_machine.proofs.Declared.{op-declared, undeclared-start}
use Rattle.abt_laws.proofs.Options.{none≢some, some-injective}
use Rattle.abt_flow.specs.Flow.{Created, IsReached, Starts}
use Rattle.abt_flow.specs.Tables.{AddsUnit, Closes, CreatesUnit, Finds, Grows, HasMarked, IsClosedBelow, IsMarked}
use Rattle.abt_flow.proofs.Marks.{marked-here, marked-still, none-marked, was-marked}

-- Growth.

pub grows-none : (units : List UnitNo) (marks : List Bool) → Grows units marks units marks
grows-none units marks = record { marked = λ u h. h; kept = λ i l. refl; more = omega arith }

get-left : {A : Type 0} (xs ys : List A) (i : ℕ) → i < length xs → slice_get (xs ++ ys) i ≡ slice_get xs i
get-left [] ys i l = absurd (omega arith)
get-left (x ∷ xs) ys zero l = refl
get-left (x ∷ xs) ys (suc i) l = get-left xs ys i (omega arith)

-- One more unit.

module _ (W : Parts) (u : UnitNo) (units new_units : List UnitNo) (marks new_marks : List Bool) (found : Finds W units marks) (declared : u.0 < length W.units) (reached : IsReached W u.0) where
  pub record Added : Type 0 where
    pub finds : Finds W new_units new_marks
    pub grows : Grows units marks new_units new_marks
    pub marked : IsMarked new_marks u.0

  below : u.0 < length marks
  below = let e = found.all in omega arith

  was-there : slice_get marks u.0 ≡ Some true → new_units ≡ units → new_marks ≡ marks → Added
  was-there marked e f = record {
    finds = subst (λ us. Finds W us new_marks) (sym e) (subst (Finds W units) (sym f) found);
    grows = subst (λ us. Grows units marks us new_marks) (sym e) (subst (Grows units marks units) (sym f) (grows-none units marks));
    marked = subst (λ ms. IsMarked ms u.0) (sym f) marked;
  }

  abbrev longer : List UnitNo
  longer = units ++ u ∷ []

  abbrev more : List Bool
  more = set marks u.0 true

  lists : (v : ℕ) → IsMarked more v → Contains longer (unit_no v)
  lists v h =
      elim (cases_eq v u.0) [
        | inl same ↦ subst (λ n. Contains longer (unit_no n)) (sym same) (Contains-push units u)
        | inr other ↦ Contains-append_left units (u ∷ []) (unit_no v) (found.listed v (was-marked marks u.0 v other h))
      ]

  is-added : get_or marks u.0 true ≡ false → Finds W longer more
  is-added unmarked = record {
    all = length-set marks u.0 true ∙ found.all;
    reached = λ v has. elim (Contains-push_cases units u v has) [ inl old ↦ found.reached v old | inr same ↦ subst (λ (n : UnitNo). IsReached W n.0) same reached ];
    listed = lists;
    few =
        (let s = sum_by-set (λ (b : Bool). cond {A = ℕ} b 1 0) marks u.0 true true below in
        let z : cond {A = ℕ} (get_or marks u.0 true) 1 0 ≡ 0 = ap (λ (b : Bool). cond {A = ℕ} b 1 0) unmarked in
        let n = length_push units u in
        let f = found.few in omega arith);
  }

  grown : Grows units marks longer more
  grown = record { marked = λ v h. marked-still marks u.0 below v h; kept = λ i l. get-left units (u ∷ []) i l; more = (let n = length_push units u in omega arith) }

  is-new : get_or marks u.0 true ≡ false → new_units ≡ longer → new_marks ≡ more → Added
  is-new unmarked e f = record {
    finds = subst (λ us. Finds W us new_marks) (sym e) (subst (Finds W longer) (sym f) (is-added unmarked));
    grows = subst (λ us. Grows units marks us new_marks) (sym e) (subst (Grows units marks longer) (sym f) grown);
    marked = subst (λ ms. IsMarked ms u.0) (sym f) (marked-here marks u.0 below);
  }

  pub added : AddsUnit u units marks new_units new_marks → Added
  added = by (get_or marks u.0 true) refl where
    by : (b : Bool) → get_or marks u.0 true ≡ b → MatchBool b ((new_units ≡ units) × (new_marks ≡ marks)) ((new_units ≡ longer) × (new_marks ≡ more)) → Added
    by true e h = was-there (slice_get-get_or marks u.0 true below ∙ ap (λ b. Some b) e) h.0 h.1
    by false e h = is-new e h.0 h.1

-- What operations create.

pub creates-unit : (W : Parts) (u k : ℕ) (v : UnitNo) (o : Option Op) → op_at W u k ≡ o → CreatesUnit o v → (p : PoolNo) × (op_at W u k ≡ Some (op.Create v p))
creates-unit W u k v None is h = absurd h
creates-unit W u k v (Some (op.Create w p)) is h = (p, is ∙ ap (λ n. Some (op.Create n p)) h)
creates-unit W u k v (Some _) is h = absurd h

same-unit : (o : Option Op) (v w : UnitNo) (p : PoolNo) → CreatesUnit o v → o ≡ Some (op.Create w p) → w ≡ v
same-unit o v w p h e = let c : CreatesUnit (Some (op.Create w p)) v = subst (λ q. CreatesUnit q v) e h in c

pub marked-grown : (W : Parts) (one two : List UnitNo) (marks more : List Bool) (u n : ℕ) → Grows one marks two more → HasMarked W marks u n → HasMarked W more u n
marked-grown W one two marks more u n grows h k l v p is = grows.marked v.0 (h k l v p is)

pub marked-unit : (W : Parts) (marks : List Bool) (u n : ℕ) (w : UnitNo) → HasMarked W marks u n → CreatesUnit (op_at W u n) w → IsMarked marks w.0 → HasMarked W marks u (n + 1)
marked-unit W marks u n w h creates marked k l v p is =
    elim (cases_eq k n) [
      | inl same ↦ subst (λ (x : UnitNo). IsMarked marks x.0) (sym (same-unit (op_at W u n) w v p creates (subst (λ j. op_at W u j ≡ Some (op.Create v p)) same is))) marked
      | inr other ↦ h k (omega arith) v p is
    ]

pub create-declared : (W : Parts) (u k : ℕ) (v : UnitNo) (p : PoolNo) → IsValid W → op_at W u k ≡ Some (op.Create v p) → v.0 < length W.units
create-declared W u k v p valid is = (op-declared W u k (op.Create v p) valid is).0

-- The whole list.

pub none-found : (W : Parts) → Finds W [] (replicate (length W.units) false)
none-found W = record {
  all = length-replicate (length W.units) false;
  reached = λ u has. (let l = has.1 in absurd (omega arith));
  listed = λ u h. absurd (none-marked (length W.units) u h);
  few = none-counted (length W.units);
} where
  none-counted : (n : ℕ) → 0 ≡ count_by (λ (b : Bool). b) (replicate n false)
  none-counted zero = refl
  none-counted (suc n) = none-counted n

-- if what the listed units create is marked, and so is every unit with a start, all that are reached are marked
pub all-marked : (W : Parts) (units : List UnitNo) (marks : List Bool) (at : ℕ) → Finds W units marks → length W.units ≤ at → ((u p : ℕ) → start_of W u ≡ Some p → IsMarked marks u) →
    IsClosedBelow W units marks at → (u : ℕ) → IsReached W u → IsMarked marks u
all-marked W units marks at finds over starts closed u (Starts _ p start) = starts u p start
all-marked W units marks at finds over starts closed u (Created _ v k p reached is) =
    let marked : IsMarked marks v = all-marked W units marks at finds over starts closed v reached in
    let has : Contains units (unit_no v) = finds.listed v marked in
    let few : length units ≤ length marks = subst (λ n. n ≤ length marks) (sym finds.few) (count_by-le-length (λ (b : Bool). b) marks) in
    let l = has.1 in
    let e = finds.all in
    closed has.0 (unit_no v) (omega arith) (slice_get-get_or units has.0 (unit_no v) has.1 ∙ ap (λ x. Some x) has.2) k (unit_no u) p is

-- a unit that is reached is declared
pub reached-declared : (W : Parts) (u : ℕ) → IsValid W → IsReached W u → u < length W.units
reached-declared W u valid (Starts _ p start) = elim (cases_lt u (length W.units)) [ inl l ↦ l | inr l ↦ absurd (none≢some (sym (undeclared-start W u l) ∙ start)) ]
reached-declared W u valid (Created _ v k p reached is) = create-declared W v k (unit_no u) p valid is

-- one more unit of the list
pub closed-more : (W : Parts) (units new_units : List UnitNo) (marks new_marks : List Bool) (at : ℕ) (u : UnitNo) → Grows units marks new_units new_marks → at < length units →
    slice_get units at ≡ Some u →
    IsClosedBelow W units marks at → Closes W new_marks u.0 → IsClosedBelow W new_units new_marks (at + 1)
closed-more W units new_units marks new_marks at u grows l is below closes i v m here =
    let was : slice_get units i ≡ Some v = sym (grows.kept i (omega arith)) ∙ here in
    elim (cases_eq i at) [
      | inl same ↦ subst (λ (x : UnitNo). Closes W new_marks x.0) (some-injective (sym is ∙ subst (λ j. slice_get units j ≡ Some v) same was)) closes
      | inr other ↦ (λ k w p e. grows.marked w.0 (below i v (omega arith) was k w p e))
    ]
