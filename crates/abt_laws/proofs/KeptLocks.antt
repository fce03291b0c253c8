-- What reader-writer locks keep: as values, when a unit reads, writes, waits or gives them up.
use Rattle.std.proofs.Common.{◌≡◌, ◌≢◌, ◌<◌, ℕ, zero, suc, ◌+◌, ◌-◌, List, [], ◌∷◌, ◌++◌, Bool, true, false, ◌||◌, ◌&&◌, ◌⊎◌, inl, inr, map, Option, None, Some, option_map, if◌then◌else◌, length, slice_set, slice_index, nat_lt, ◌==◌, refl, sym, ap, ◌∙◌, subst, arith, IsSome}
use Rattle.std.proofs.lemmas.Bool.{cases_Bool, cases_lt, eqb-true, ltb-true}
use Rattle.std.proofs.lemmas.List.{get_or_past, length-set, set_past}
use Rattle.std.proofs.lemmas.List.Sums.{get_or-le-sum_by, sum_by-set}
use Rattle.std.specs.List.{sum}
use Rattle.std.specs.Option.{is_none}
use Rattle.std.specs.Prelude.{IsTrue, IsFalse, slice_get}
use Rattle.abt_machine.specs.declared.events.Wish.{Wish}
use Rattle.abt_machine.specs.declared.events.Wish.TheVariants as wish
use Rattle.abt_machine.specs.Holders.{count_of, given_up, holds, is_free, read_by, with_count, writes, written_by}
use Rattle.abt_machine.specs.Monitors.{number_of, rest}
use Rattle.abt_machine.specs.Queues.{first}
use Rattle.abt_machine.specs.RwLocks.{after_readers, all_reading, first_readers, nobody_waits, is_read, left_by, may_read, passed_on, reader_is_first, served, served_by, wants_to_read, wanting}
use Rattle.abt_machine.specs.State.{RwLock}
use Rattle.abt_machine.specs.Sound.{IsKept}
use Rattle.abt_machine.specs.Values.{Owned, RwLockValue}
use Rattle.abt_laws.proofs.Codes.{some-by}
use Rattle.abt_laws.proofs.Lists.{EachOf}

-- the lock is kept, with these waiters
abbrev pub IsKeptValue : RwLockValue → Type 0
IsKeptValue old = IsKept old.lock (map number_of old.waiters)

-- Tests as facts.

-- no test both passes and fails
both-tests : (b : Bool) → b ≡ true → b ≡ false → ⊥
both-tests b passes fails = cc

-- one of two tests passes if their disjunction does
or-true : (a b : Bool) → (a || b) ≡ true → (a ≡ true) ⊎ (b ≡ true)
or-true true b e = inl refl
or-true false b e = inr e

-- and the second fails if it fails
or-false : (a b : Bool) → (a || b) ≡ false → b ≡ false
or-false true b e = cc
or-false false b e = e

-- what a lock that nobody holds has
free-true : (w : Option ℕ) (ns : List ℕ) → (is_none w && (sum ns == 0)) ≡ true → (w ≡ None) × (sum ns ≡ 0)
free-true None ns e = (refl, eqb-true (sum ns) 0 e)
free-true (Some v) ns e = cc

-- no unit writes and none waits, as a test and as facts
no-test : (w : Option ℕ) (os : List Owned) → (is_none w && nobody_waits os) ≡ true → (w ≡ None) × (os ≡ [])
no-test None [] e = (refl, refl)
no-test None (o ∷ os) e = cc
no-test (Some v) os e = cc

-- and from the facts to the test
no-test-of-none : (w : Option ℕ) (os : List Owned) → w ≡ None → map number_of os ≡ [] → (is_none w && nobody_waits os) ≡ true
no-test-of-none None [] none empty = refl
no-test-of-none None (o ∷ os) none empty = cc
no-test-of-none (Some v) os none empty = cc

-- why a unit may read
may_read-true : (n : ℕ) (w : Option ℕ) (os : List Owned) → (nat_lt 0 n || (is_none w && nobody_waits os)) ≡ true → (0 < n) ⊎ ((w ≡ None) × (os ≡ []))
may_read-true n w os e = elim (or-true (nat_lt 0 n) (is_none w && nobody_waits os) e) [ inl t ↦ inl (ltb-true 0 n t) | inr t ↦ inr (no-test w os t) ]

-- a number above 0 is not 0
pub above-zero : (n : ℕ) → 0 < n → n ≡ 0 → ⊥
above-zero n above e = omega arith

-- Counts and their sum.

-- there is room for a number that is read
within : (ns : List ℕ) (u : ℕ) → 0 < slice_index ns u → u < length ns
within ns u above = elim (cases_lt u (length ns)) [ inl l ↦ l | inr past ↦ absurd (above-zero (slice_index ns u) above (get_or_past ns u 0 past)) ]

-- who reads is counted in the sum
pub sum-above : (ns : List ℕ) (u : ℕ) → 0 < slice_index ns u → 0 < sum ns
sum-above ns u above = omega (arith, above, get_or-le-sum_by (λ x. x) ns u 0 (within ns u above))

-- the sum after a count has changed
sum-set : (ns : List ℕ) (u n : ℕ) → u < length ns → sum (slice_set ns u n) + slice_index ns u ≡ sum ns + n
sum-set ns u n in_range = sum_by-set (λ x. x) ns u n 0 in_range

-- a count that has risen is in the sum
sum-risen : (ns : List ℕ) (u : ℕ) → u < length ns → 0 < sum (slice_set ns u (slice_index ns u + 1))
sum-risen ns u in_range = omega (arith, sum-set ns u (slice_index ns u + 1) in_range, get_or-le-sum_by (λ x. x) ns u 0 in_range)

-- one read once
sum-once : (ns : List ℕ) (u : ℕ) → u < length ns → 0 < sum (slice_set ns u 1)
sum-once ns u in_range = omega (arith, sum-set ns u 1 in_range, get_or-le-sum_by (λ x. x) ns u 0 in_range)

-- what is read goes on being read when a unit reads once
sum-stays : (ns : List ℕ) (u : ℕ) → 0 < sum ns → 0 < sum (slice_set ns u 1)
sum-stays ns u above = elim (cases_lt u (length ns)) [ inl l ↦ sum-once ns u l | inr past ↦ rw set_past above ]

-- or when several do
sum-all_reading : (os : List Owned) (ns : List ℕ) → 0 < sum ns → 0 < sum (all_reading os ns)
sum-all_reading [] ns above = above
sum-all_reading (o ∷ os) ns above = sum-all_reading os (slice_set ns o.number 1) (sum-stays ns o.number above)

-- The number of counts.

pub length-all_reading : (os : List Owned) (ns : List ℕ) → length (all_reading os ns) ≡ length ns
length-all_reading [] ns = refl
length-all_reading (o ∷ os) ns = length-all_reading os (slice_set ns o.number 1) ∙ length-set ns o.number 1

length-served_by : (rs : List Owned) (old : RwLockValue) → length (served_by rs old).lock.counts ≡ length old.lock.counts
length-served_by [] old = refl
length-served_by (r ∷ rs) old = length-all_reading (r ∷ rs) old.lock.counts

length-passed_if : (b : Bool) (old : RwLockValue) → length (if b then served old else old).lock.counts ≡ length old.lock.counts
length-passed_if true old = length-served_by (first_readers old.lock.wishes old.waiters) old
length-passed_if false old = refl

-- a lock that is passed on has as many counts
pub length-passed_on : (old : RwLockValue) → length (passed_on old).lock.counts ≡ length old.lock.counts
length-passed_on old = length-passed_if (is_free old.lock) old

length-given_if : (b : Bool) (u n : ℕ) (lock : RwLock) → length (if b then record lock { writer = None } else with_count u n lock).counts ≡ length lock.counts
length-given_if true u n lock = refl
length-given_if false u n lock = length-set lock.counts u n

-- so does one that a unit gives up
pub length-given_up : (u : ℕ) (lock : RwLock) → length (given_up u lock).counts ≡ length lock.counts
length-given_up u lock = length-given_if (writes u lock) u (count_of u lock - 1) lock

-- The wishes and the number.

-- what of a lock does not say who holds it
abbrev pub apart_from_holders : RwLock → List Wish × ℕ
apart_from_holders lock = (lock.wishes, lock.number)

rest-served_by : (rs : List Owned) (old : RwLockValue) → apart_from_holders (served_by rs old).lock ≡ apart_from_holders old.lock
rest-served_by [] old = refl
rest-served_by (r ∷ rs) old = refl

rest-passed_if : (b : Bool) (old : RwLockValue) → apart_from_holders (if b then served old else old).lock ≡ apart_from_holders old.lock
rest-passed_if true old = rest-served_by (first_readers old.lock.wishes old.waiters) old
rest-passed_if false old = refl

-- a lock that is passed on keeps its wishes and its number
pub rest-passed_on : (old : RwLockValue) → apart_from_holders (passed_on old).lock ≡ apart_from_holders old.lock
rest-passed_on old = rest-passed_if (is_free old.lock) old

rest-given_if : (b : Bool) (u n : ℕ) (lock : RwLock) → apart_from_holders (if b then record lock { writer = None } else with_count u n lock) ≡ apart_from_holders lock
rest-given_if true u n lock = refl
rest-given_if false u n lock = refl

-- so does one that a unit gives up
pub rest-given_up : (u : ℕ) (lock : RwLock) → apart_from_holders (given_up u lock) ≡ apart_from_holders lock
rest-given_up u lock = rest-given_if (writes u lock) u (count_of u lock - 1) lock

-- A unit reads or writes.

-- if a unit reads, none writes
none-writes : (w : Option ℕ) (n : ℕ) → (IsSome w → n ≡ 0) → 0 < n → w ≡ None
none-writes None n alone above = refl
none-writes (Some v) n alone above = absurd (above-zero n above (alone refl))

-- nothing is not something
not-some : (w : Option ℕ) → w ≡ None → IsSome w → ⊥
not-some None none some = cc
not-some (Some v) none some = cc

-- a unit that may read is not kept out by a writer
none-writes-read : (u : ℕ) (old : RwLockValue) → IsKeptValue old → IsTrue (may_read u old) → old.lock.writer ≡ None
none-writes-read u old kept may = elim (may_read-true (count_of u old.lock) old.lock.writer old.waiters may) [
  | inl above ↦ none-writes old.lock.writer (sum old.lock.counts) kept.alone (sum-above old.lock.counts u above)
  | inr none ↦ none.0
]

-- if a unit writes, none reads
pub not-read : (u : ℕ) (lock : RwLock) (us : List ℕ) → IsKept lock us → IsTrue (writes u lock) → 0 < sum lock.counts → ⊥
not-read u lock us kept has above = above-zero (sum lock.counts) above (kept.alone (some-by u lock.writer has))

-- a unit reads once more
pub kept-read : (u : ℕ) (old : RwLockValue) → IsKeptValue old → u < length old.lock.counts → IsTrue (may_read u old) → IsKept (read_by u old.lock) (map number_of old.waiters)
kept-read u old kept in_range may = record {
  alone = λ some. absurd (not-some old.lock.writer (none-writes-read u old kept may) some);
  served = λ free. absurd (above-zero (sum (slice_set old.lock.counts u (count_of u old.lock + 1))) (sum-risen old.lock.counts u in_range) (free-true old.lock.writer (slice_set old.lock.counts u (count_of u old.lock + 1)) free).1);
  writer_first = λ some. elim (may_read-true (count_of u old.lock) old.lock.writer old.waiters may) [
    | inl above ↦ kept.writer_first (sum-above old.lock.counts u above)
    | inr none ↦ rw none.1 refl
  ];
}

-- a unit writes
pub kept-write : (u : ℕ) (old : RwLockValue) → IsTrue (is_free old.lock) → IsKept (written_by u old.lock) (map number_of old.waiters)
kept-write u old free = record {
  alone = λ some. (free-true old.lock.writer old.lock.counts free).1;
  served = λ again. absurd (both-tests false again refl);
  writer_first = λ above. absurd (above-zero (sum old.lock.counts) above (free-true old.lock.writer old.lock.counts free).1);
}

-- the number changes
pub kept-store : (n : ℕ) (lock : RwLock) (us : List ℕ) → IsKept lock us → IsKept (record lock { number = n }) us
kept-store n lock us kept = record { alone = kept.alone; served = kept.served; writer_first = kept.writer_first }

-- A unit waits.

-- a wish to write that is noted is no wish to read
noted-write : (ws : List Wish) (u : ℕ) → is_read (slice_get (slice_set ws u wish.Write) u) ≡ false
noted-write [] u = refl
noted-write (w ∷ ws) zero = refl
noted-write (w ∷ ws) (suc u) = noted-write ws u

-- what is noted for a unit is noted for no other
noted-other : (ws : List Wish) (u v : ℕ) (w : Wish) → v ≢ u → slice_get (slice_set ws u w) v ≡ slice_get ws v
noted-other [] u v w apart = refl
noted-other (x ∷ ws) zero zero w apart = absurd (apart refl)
noted-other (x ∷ ws) zero (suc v) w apart = refl
noted-other (x ∷ ws) (suc u) zero w apart = refl
noted-other (x ∷ ws) (suc u) (suc v) w apart = noted-other ws u v w (λ e. apart (ap suc e))

-- if the first waiter does not want to read, it does not after one more waits, which wants to write if it is the first
reader_is_first-waiting : (ws : List Wish) (us : List ℕ) (u : ℕ) (w : Wish) → EachOf (λ v. v ≢ u) us → (us ≡ [] → w ≡ wish.Write) → reader_is_first ws us ≡ false → reader_is_first (slice_set ws u w) (us ++ u ∷ []) ≡ false
reader_is_first-waiting ws [] u w apart alone first = let P : Wish → Type 0 = λ x. is_read (slice_get (slice_set ws u x) u) ≡ false in subst P (sym (alone refl)) (noted-write ws u)
reader_is_first-waiting ws (v ∷ us) u w apart alone first = ap is_read (noted-other ws u v w apart.0) ∙ first

-- a lock that a unit must not read is not free
not-free : (u : ℕ) (old : RwLockValue) → IsKeptValue old → IsFalse (may_read u old) → is_free old.lock ≡ false
not-free u old kept may = elim (cases_Bool (is_free old.lock)) [
  | inl free ↦ absurd (both-tests (is_none old.lock.writer && nobody_waits old.waiters) (no-test-of-none old.lock.writer old.waiters (free-true old.lock.writer old.lock.counts free).0 (kept.served free)) (or-false (nat_lt 0 (count_of u old.lock)) (is_none old.lock.writer && nobody_waits old.waiters) may))
  | inr held ↦ held
]

-- a unit that did not wait waits
kept-wait : (w : Wish) (u : ℕ) (lock : RwLock) (us : List ℕ) → IsKept lock us → EachOf (λ v. v ≢ u) us → is_free lock ≡ false → (0 < sum lock.counts → us ≡ [] → w ≡ wish.Write) → IsKept (wanting u w lock) (us ++ u ∷ [])
kept-wait w u lock us kept apart held first = record {
  alone = kept.alone;
  served = λ free. absurd (both-tests (is_free lock) free held);
  writer_first = λ above. reader_is_first-waiting lock.wishes us u w apart (first above) (kept.writer_first above);
}

-- to read
pub kept-wait_to_read : (u : ℕ) (old : RwLockValue) → IsKeptValue old → EachOf (λ v. v ≢ u) (map number_of old.waiters) → IsFalse (may_read u old) → IsKept (wanting u wish.Read old.lock) (map number_of old.waiters ++ u ∷ [])
kept-wait_to_read u old kept apart may =
    kept-wait wish.Read u old.lock (map number_of old.waiters) kept apart (not-free u old kept may) (λ above none. absurd (both-tests (is_none old.lock.writer && nobody_waits old.waiters) (no-test-of-none old.lock.writer old.waiters (none-writes old.lock.writer (sum old.lock.counts) kept.alone above) none) (or-false (nat_lt 0 (count_of u old.lock)) (is_none old.lock.writer && nobody_waits old.waiters) may)))

-- or to write
pub kept-wait_to_write : (u : ℕ) (old : RwLockValue) → IsKeptValue old → EachOf (λ v. v ≢ u) (map number_of old.waiters) → IsFalse (is_free old.lock) → IsKept (wanting u wish.Write old.lock) (map number_of old.waiters ++ u ∷ [])
kept-wait_to_write u old kept apart held = kept-wait wish.Write u old.lock (map number_of old.waiters) kept apart held (λ above none. refl)

-- A unit gives up the lock.

-- no unit writes the lock, and it is kept but that it may be free and have waiters
pub record IsReleased (old : RwLockValue) : Type 0 where
  pub unwritten : old.lock.writer ≡ None
  pub writer_first : 0 < sum old.lock.counts → reader_is_first old.lock.wishes (map number_of old.waiters) ≡ false

-- after a unit has given up the lock, by whether it writes
released-if : (b : Bool) (u : ℕ) (old : RwLockValue) → IsKeptValue old → (b || nat_lt 0 (count_of u old.lock)) ≡ true → IsReleased (record old { lock = if b then record old.lock { writer = None } else with_count u (count_of u old.lock - 1) old.lock })
released-if true u old kept has = record { unwritten = refl; writer_first = kept.writer_first }
released-if false u old kept has =
    let above : 0 < count_of u old.lock = ltb-true 0 (count_of u old.lock) has in
    record {
      unwritten = none-writes old.lock.writer (sum old.lock.counts) kept.alone (sum-above old.lock.counts u above);
      writer_first = λ left. kept.writer_first (sum-above old.lock.counts u above);
    }

-- and for any that holds it
pub released : (u : ℕ) (old : RwLockValue) → IsKeptValue old → IsTrue (holds u old.lock) → IsReleased (left_by u old)
released u old kept has = released-if (writes u old.lock) u old kept has

-- behind the first readers the first waiter does not want to read
after-if : (b : Bool) (ws : List Wish) (o : Owned) (os : List Owned) → wants_to_read ws o.number ≡ b → reader_is_first ws (map number_of (after_readers ws os)) ≡ false → reader_is_first ws (map number_of (if b then after_readers ws os else o ∷ os)) ≡ false
after-if true ws o os wants behind = behind
after-if false ws o os wants behind = wants

reader_is_first-after_readers : (ws : List Wish) (os : List Owned) → reader_is_first ws (map number_of (after_readers ws os)) ≡ false
reader_is_first-after_readers ws [] = refl
reader_is_first-after_readers ws (o ∷ os) = after-if (wants_to_read ws o.number) ws o os refl (reader_is_first-after_readers ws os)

-- a lock that went to its first waiter and is free has no waiters
writer-waits : (os : List Owned) (ns : List ℕ) → (is_none (option_map number_of (first os)) && (sum ns == 0)) ≡ true → map number_of (rest os) ≡ []
writer-waits [] ns free = refl
writer-waits (o ∷ os) ns free = cc

-- a free lock that goes to its waiters is kept, by its first readers
served-with : (rs : List Owned) (old : RwLockValue) → IsReleased old → sum old.lock.counts ≡ 0 → EachOf (λ (o : Owned). o.number < length old.lock.counts) rs → IsKeptValue (served_by rs old)
served-with [] old left none fits = record {
  alone = λ some. none;
  served = writer-waits old.waiters old.lock.counts;
  writer_first = λ above. absurd (above-zero (sum old.lock.counts) above none);
}
served-with (r ∷ rs) old left none fits = record {
  alone = λ some. absurd (not-some old.lock.writer left.unwritten some);
  served = λ free.
      let counts : List ℕ = all_reading rs (slice_set old.lock.counts r.number 1) in
      let above : 0 < sum counts = sum-all_reading rs (slice_set old.lock.counts r.number 1) (sum-once old.lock.counts r.number fits.0) in
      absurd (above-zero (sum counts) above (free-true old.lock.writer counts free).1);
  writer_first = λ above. reader_is_first-after_readers old.lock.wishes old.waiters;
}

EachOf-if : (F : Owned → Type 0) (b : Bool) (xs ys : List Owned) → EachOf F xs → EachOf F ys → EachOf F (if b then xs else ys)
EachOf-if F true xs ys first second = first
EachOf-if F false xs ys first second = second

-- what holds of each waiter holds of the first readers
EachOf-first_readers : (F : Owned → Type 0) (ws : List Wish) (os : List Owned) → EachOf F os → EachOf F (first_readers ws os)
EachOf-first_readers F ws [] each = tt
EachOf-first_readers F ws (o ∷ os) each = EachOf-if F (wants_to_read ws o.number) (o ∷ first_readers ws os) [] (each.0, EachOf-first_readers F ws os each.1) tt

-- by whether it is free
passed-if : (b : Bool) (old : RwLockValue) → is_free old.lock ≡ b → IsReleased old → EachOf (λ (o : Owned). o.number < length old.lock.counts) old.waiters → IsKeptValue (if b then served old else old)
passed-if true old free left fits =
    served-with (first_readers old.lock.wishes old.waiters) old left (free-true old.lock.writer old.lock.counts free).1 (EachOf-first_readers (λ o. o.number < length old.lock.counts) old.lock.wishes old.waiters fits)
passed-if false old held left fits = record {
  alone = λ some. absurd (not-some old.lock.writer left.unwritten some);
  served = λ free. absurd (both-tests (is_free old.lock) free held);
  writer_first = left.writer_first;
}

-- a lock that was given up, and has a count for each waiter, is kept after it was passed on
pub kept-passed_on : (old : RwLockValue) → IsReleased old → EachOf (λ (o : Owned). o.number < length old.lock.counts) old.waiters → IsKeptValue (passed_on old)
kept-passed_on old left fits = passed-if (is_free old.lock) old refl left fits
