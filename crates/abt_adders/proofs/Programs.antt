-- The programs of the adders, by unit and position.
use Rattle.std.proofs.Common.{◌≡◌, ℕ, zero, suc, ◌<◌, ◌≤◌, ◌+◌, true, false, List, [], ◌∷◌, ◌++◌, Contains, length, map, slice_get, Option, Some, None, refl, ◌∙◌, ap, arith, lit<}
use Rattle.std.specs.List.{range_with_len}
use Rattle.std.proofs.lemmas.List.{length-append}
use Rattle.std.proofs.lemmas.List.FromFn.{length-map-range_with_len}
use Rattle.abt_machine.specs.declared.operations.Op.{Op}
use Rattle.abt_machine.specs.declared.operations.Op.TheVariants as op
use Rattle.abt_machine.specs.declared.operations.OrderShape.{OrderShape}
use Rattle.abt_machine.specs.declared.workload.UnitPart.{UnitPart}
use Rattle.abt_machine.specs.Access.{may_put}
use Rattle.abt_machine.specs.Numbers.{object_no}
use Rattle.abt_machine.specs.Rounds.{OrdersStored}
use Rattle.abt_machine.specs.Workloads.{body_at, body_from, is_sched, main_of, op_at, ops_of, pools_of, start_from, start_of}
use Rattle.abt_generate.specs.Generated.{adder, adder_ops, adders, first_ops, generated}
use Rattle.abt_generate.proofs.GeneratedOps.{create, join, length-first_ops}
use Rattle.abt_generate.proofs.Lists.{Each, each-always, each-append, each-at, each-map, none-some}

-- Lists.

get-front : {A : Type 0} (xs ys : List A) (k : ℕ) → k < length xs → slice_get (xs ++ ys) k ≡ slice_get xs k
get-front [] ys k l = absurd (omega arith)
get-front (x ∷ xs) ys zero l = refl
get-front (x ∷ xs) ys (suc k) l = get-front xs ys k (omega arith)

get-behind : {A : Type 0} (xs ys : List A) (k j : ℕ) → k ≡ length xs + j → slice_get (xs ++ ys) k ≡ slice_get ys j
get-behind [] ys k j e = ap (slice_get ys) (let same : k ≡ j = omega arith in same)
get-behind (x ∷ xs) ys zero j e = absurd (omega arith)
get-behind (x ∷ xs) ys (suc k) j e = get-behind xs ys k j (omega arith)

get-range : {A : Type 0} (f : ℕ → A) (a n k : ℕ) → k < n → slice_get (map f (range_with_len a n)) k ≡ Some (f (a + k))
get-range f a zero k l = absurd (omega arith)
get-range f a (suc n) zero l = ap (λ v. Some (f v)) (let e : a ≡ a + 0 = omega arith in e)
get-range f a (suc n) (suc k) l = get-range f (a + 1) n k (omega arith) ∙ ap (λ v. Some (f v)) (let e : a + 1 + k ≡ a + suc k = omega arith in e)

-- a range that begins with 1
get-adders : {A : Type 0} (f : ℕ → A) (n k : ℕ) → k < n → slice_get (map f (adders n)) k ≡ Some (f (suc k))
get-adders f n k l = get-range f 1 n k l ∙ ap (λ v. Some (f v)) (let e : 1 + k ≡ suc k = omega arith in e)

-- Units.

pub unit-count : (n : ℕ) → length (generated n).units ≡ suc n
unfolding generated
unit-count n = let count : length (map adder (adders n)) ≡ n = length-map-range_with_len adder 1 n in omega arith

adder-part : (n v : ℕ) → 0 < v → v ≤ n → slice_get (generated n).units v ≡ Some (adder v)
unfolding generated
adder-part n zero some most = absurd (omega arith)
adder-part n (suc v) some most = get-adders adder n v (omega arith)

pub first-count : (n : ℕ) → length (ops_of (body_at (generated n) 0)) ≡ n + n + 4
unfolding generated
first-count n = length-first_ops n

pub adder-count : (n v : ℕ) → 0 < v → v ≤ n → length (ops_of (body_at (generated n) v)) ≡ 6
adder-count n v some most = ap (λ p. length (ops_of (body_from p))) (adder-part n v some most)

pub start-first : (n : ℕ) → start_of (generated n) 0 ≡ Some 0
unfolding generated
start-first n = refl

pub start-adder : (n v : ℕ) → 0 < v → v ≤ n → start_of (generated n) v ≡ None
start-adder n v some most = ap start_from (adder-part n v some most)

-- Operations.

pub op-adder : (n v k : ℕ) → 0 < v → v ≤ n → op_at (generated n) v k ≡ slice_get (adder_ops v) k
op-adder n v k some most = ap (λ p. slice_get (ops_of (body_from p)) k) (adder-part n v some most)

-- the last operations of unit 0
abbrev pub last_ops : List Op
last_ops = op.Lock (object_no 0) ∷ op.Load (object_no 0) ∷ op.Print ∷ op.Unlock (object_no 0) ∷ []

creates-joins : (n : ℕ) → length (map create (adders n) ++ map join (adders n)) ≡ n + n
creates-joins n =
    let one : length (map create (adders n)) ≡ n = length-map-range_with_len create 1 n in
    let two : length (map join (adders n)) ≡ n = length-map-range_with_len join 1 n in omega (arith, length-append (map create (adders n)) (map join (adders n)))

pub op-create : (n k : ℕ) → k < n → op_at (generated n) 0 k ≡ Some (create (suc k))
unfolding generated
op-create n k l =
    let count : length (map create (adders n)) ≡ n = length-map-range_with_len create 1 n in
    get-front (map create (adders n) ++ map join (adders n)) last_ops k (omega (arith, creates-joins n))
    ∙ (get-front (map create (adders n)) (map join (adders n)) k (omega arith) ∙ get-adders create n k l)

pub op-join : (n i k : ℕ) → i < n → k ≡ n + i → op_at (generated n) 0 k ≡ Some (join (suc i))
unfolding generated
op-join n i k l e =
    let count : length (map create (adders n)) ≡ n = length-map-range_with_len create 1 n in
    get-front (map create (adders n) ++ map join (adders n)) last_ops k (omega (arith, creates-joins n))
    ∙ (get-behind (map create (adders n)) (map join (adders n)) k i (omega arith) ∙ get-adders join n i l)

pub op-last : (n j k : ℕ) → k ≡ n + n + j → op_at (generated n) 0 k ≡ slice_get last_ops j
unfolding generated
op-last n j k e = get-behind (map create (adders n) ++ map join (adders n)) last_ops k j (omega (arith, creates-joins n))

-- What holds of each operation.

-- it neither revives nor calls
abbrev pub IsSimple : Op → Type 0
IsSimple (op.Revive v p) = ⊥
IsSimple (op.Call f) = ⊥
IsSimple _ = Unit {0}

first-simple : (n : ℕ) → Each IsSimple (first_ops n)
first-simple n =
    each-append IsSimple (map create (adders n) ++ map join (adders n)) last_ops
    (each-append IsSimple (map create (adders n)) (map join (adders n)) (each-map IsSimple create (adders n) (each-always (λ v. IsSimple (create v)) (λ v. tt) (adders n)))
    (each-map IsSimple join (adders n) (each-always (λ v. IsSimple (join v)) (λ v. tt) (adders n)))) (tt, (tt, (tt, (tt, tt))))

-- a unit has a program, and its operations are simple
abbrev IsProgram : UnitPart → Type 0
IsProgram part = (is_sched part.body ≡ false) × Each IsSimple (ops_of part.body)

programs : (n : ℕ) → Each IsProgram (generated n).units
unfolding generated
programs n = ((refl, first-simple n), each-map IsProgram adder (adders n) (each-always (λ v. IsProgram (adder v)) (λ v. (refl, (tt, (tt, (tt, (tt, (tt, (tt, tt)))))))) (adders n)))

module _ (n u : ℕ) where
  simple-in : (k : ℕ) (o : Op) (p : Option UnitPart) → slice_get (generated n).units u ≡ p → slice_get (ops_of (body_from p)) k ≡ Some o → IsSimple o
  simple-in k o None e is = absurd (none-some is)
  simple-in k o (Some part) e is = each-at IsSimple (ops_of part.body) (each-at IsProgram (generated n).units (programs n) u part e).1 k o is

  pub simple : (k : ℕ) (o : Op) → op_at (generated n) u k ≡ Some o → IsSimple o
  simple k o is = simple-in k o (slice_get (generated n).units u) refl is

  program-in : (p : Option UnitPart) → slice_get (generated n).units u ≡ p → is_sched (body_from p) ≡ false
  program-in None e = refl
  program-in (Some part) e = (each-at IsProgram (generated n).units (programs n) u part e).0

  pub no-sched : is_sched (body_at (generated n) u) ≡ false
  no-sched = program-in (slice_get (generated n).units u) refl

-- Pools and orders.

-- every stream may put into every pool
pub may-put : (n s p : ℕ) → may_put (generated n) s p ≡ true
unfolding generated
may-put n s zero = refl
may-put n s (suc zero) = refl
may-put n s (suc (suc zero)) = refl
may-put n s (suc (suc (suc zero))) = refl
may-put n s (suc (suc (suc (suc p)))) = refl

-- stream 0 visits each pool
pub visits : (n p : ℕ) → p < length (generated n).pools → Contains (pools_of (generated n) (main_of (generated n) 0)) p
unfolding generated
visits n zero l = (0, lit< tt, refl)
visits n (suc zero) l = (1, lit< tt, refl)
visits n (suc (suc zero)) l = (2, lit< tt, refl)
visits n (suc (suc (suc zero))) l = (3, lit< tt, refl)
visits n (suc (suc (suc (suc p)))) l = absurd (omega arith)

pub some-stream : (n : ℕ) → 0 < (generated n).streams
unfolding generated
some-stream n = lit< tt

-- no scheduler has an order of the user
pub orders-stored : (n : ℕ) (Z : List OrderShape) → OrdersStored (generated n) Z
unfolding generated
orders-stored n Z zero k e = absurd cc
orders-stored n Z (suc zero) k e = absurd cc
orders-stored n Z (suc (suc zero)) k e = absurd cc
orders-stored n Z (suc (suc (suc zero))) k e = absurd cc
orders-stored n Z (suc (suc (suc (suc g)))) k e = absurd cc
