-- The start is sound.
use Rattle.std.proofs.Common.{◌≡◌, ℕ, zero, suc, ◌<◌, ◌≤◌, ◌+◌, cond, true, false, List, [], length, Option, Some, None, refl, sym, one-add, ◌∙◌, ap, subst, arith, replicate, inl, inr}
use Rattle.std.proofs.lemmas.List.{length-replicate}
use Rattle.std.proofs.lemmas.List.Folds.{sum_by-replicate}
use Rattle.std.specs.List.{sum}
use Rattle.std.proofs.lemmas.Bool.{cases_eq, cases_order, cases_lt, eq-eqb}
use Rattle.abt_machine.specs.declared.events.Place.TheVariants as place
use Rattle.abt_machine.specs.declared.events.Wish.TheVariants as wish
use Rattle.abt_machine.specs.Stored.{Stored}
use Rattle.abt_machine.specs.declared.workload.Parts.{Parts}
use Rattle.abt_machine.specs.Numbers.{pool_no}
use Rattle.abt_machine.specs.Workloads.{start_of, main_of}
use Rattle.abt_machine.specs.Sites.{home_from}
use Rattle.abt_machine.specs.Fronts.{is_some_of}
use Rattle.abt_machine.specs.Lines.{Line, InPool, InHand, Waiting, standing, ticket_in}
use Rattle.abt_machine.specs.Start.{start, start_place, count_at}
use Rattle.abt_machine.specs.Sound.{IsKept, IsPlaced}
use Rattle.abt_machine.specs.Valid.{IsValid}
use Rattle.abt_machine.proofs.Declared.{undeclared-start, start-declared, barrier-some}
use Rattle.abt_laws.specs.Laws.{StartIsSound}
use Rattle.abt_laws.proofs.KeptLocks.{above-zero}
use Rattle.abt_laws.proofs.Rounds.{fresh-under_way}
use Rattle.abt_laws.proofs.Options.{none≢some}
use Rattle.abt_laws.proofs.Places.{line_of-ticket, same-self}
use Rattle.abt_laws.proofs.Arrivals.{OneEach, IsEmpty}
use Rattle.abt_laws.proofs.Standing.{empty-standing}

count-suc : (W : Parts) (p n : ℕ) → start_of W n ≡ Some p → count_at W p (suc n) ≡ suc (count_at W p n)
count-suc W p n e =
    let t : is_some_of p (start_of W n) ≡ true = ap (is_some_of p) e ∙ eq-eqb p p refl in
    ap (λ b. cond b 1 0 + count_at W p n) t ∙ one-add (count_at W p n)

count-more : (W : Parts) (p n : ℕ) → count_at W p n ≤ count_at W p (suc n)
count-more W p n = omega arith

-- of two units that start in one pool the greater has the greater ticket
count-below : (W : Parts) (p u v : ℕ) → start_of W u ≡ Some p → u < v → count_at W p u < count_at W p v
count-below W p u zero e l = absurd (omega arith)
count-below W p u (suc n) e l =
    elim (cases_eq u n) [
      | inl same ↦ (let h : count_at W p (suc u) ≡ suc (count_at W p u) = count-suc W p u e in subst (λ m. count_at W p u < count_at W p (suc m)) same (omega (arith, h)))
      | inr other ↦ (let h : count_at W p u < count_at W p n = count-below W p u n e (omega arith) in let g : count_at W p n ≤ count_at W p (suc n) = count-more W p n in omega (arith, h, g))
    ]

-- unit u starts in the pool of line l with ticket t
pub record StartsIn (W : Parts) (u : ℕ) (l : Line) (t : ℕ) : Type 0 where
  pub pool : ℕ
  pub line : l ≡ InPool pool
  pub start : start_of W u ≡ Some pool
  pub count : count_at W pool u ≡ t

-- who stands in a line at the start, stands in a pool
starts-in : (W : Parts) (u : ℕ) (l : Line) (t : ℕ) → ticket_in l (start_place W u (start_of W u)) ≡ Some t → StartsIn W u l t
starts-in W u l t h = by (start_of W u) refl h where
  by : (o : Option ℕ) → start_of W u ≡ o → ticket_in l (start_place W u o) ≡ Some t → StartsIn W u l t
  by None e k = absurd (none≢some (line_of-ticket l place.Unborn t k))
  by (Some p) e k =
      let a : Some (InPool p) ≡ Some l = line_of-ticket l (place.Pool (pool_no p) (count_at W p u)) t k in
      let line : l ≡ InPool p = cc in
      let b : ticket_in (InPool p) (place.Pool (pool_no p) (count_at W p u)) ≡ Some t = subst (λ m. ticket_in m (place.Pool (pool_no p) (count_at W p u)) ≡ Some t) line k in
      let c : Some (count_at W p u) ≡ Some t = sym (same-self p (count_at W p u)) ∙ b in
      record { pool = p; line = line; start = e; count = (cc) }

start-one_each : (W : Parts) → OneEach (start W).place
start-one_each W l u v t h g =
    let a : StartsIn W u l t = starts-in W u l t h in
    let b : StartsIn W v l t = starts-in W v l t g in
    let lines : InPool a.pool ≡ InPool b.pool = sym a.line ∙ b.line in
    let same : a.pool ≡ b.pool = cc in
    let at : start_of W v ≡ Some a.pool = b.start ∙ ap (λ (n : ℕ). Some n) (sym same) in
    let count : count_at W a.pool v ≡ t = ap (λ p. count_at W p v) same ∙ b.count in
    elim (cases_order u v) [
      | inl equal ↦ equal
      | inr differ ↦ elim differ [
        | inl less ↦ (let k : count_at W a.pool u < count_at W a.pool v = count-below W a.pool u v a.start less in absurd (omega (arith, a.count, count, k)))
        | inr more ↦ (let k : count_at W a.pool v < count_at W a.pool u = count-below W a.pool v u at more in absurd (omega (arith, a.count, count, k)))
      ]
    ]

-- at the start only pools hold units
start-empty : (W : Parts) (l : Line) → ((p : ℕ) → l ≡ InPool p → ⊥) → IsEmpty l (start W).place
start-empty W l other v t h = let a : StartsIn W v l t = starts-in W v l t h in other a.pool a.line

starts-declared : (W : Parts) (u p : ℕ) → start_of W u ≡ Some p → u < length W.units
starts-declared W u p e = elim (cases_lt u (length W.units)) [ inl l ↦ l | inr l ↦ absurd (none≢some (sym (undeclared-start W u l) ∙ e)) ]

start-placed : (W : Parts) (u : ℕ) → IsValid W → IsPlaced W (start W) u (start_place W u (start_of W u))
start-placed W u valid = by (start_of W u) refl where
  by : (o : Option ℕ) → start_of W u ≡ o → IsPlaced W (start W) u (start_place W u o)
  by None e = (refl, refl)
  by (Some p) e = (start-declared W u p valid e, count-below W p u (length W.units) e (starts-declared W u p e))

-- the home of each unit at the start is declared
pub start-home : (W : Parts) (u : ℕ) → IsValid W → home_from (start_of W u) < length W.pools
start-home W u valid = by (start_of W u) refl where
  by : (o : Option ℕ) → start_of W u ≡ o → home_from o < length W.pools
  by None e = valid.some_pool
  by (Some p) e = start-declared W u p valid e

-- a lock that nobody holds, and at which nobody waits, is kept
start-kept : (W : Parts) (us : List ℕ) → us ≡ [] → IsKept ((start W).rwlock 0) us
start-kept W us none =
    let unread : sum (replicate (length W.units) 0) ≡ 0 = sum_by-replicate (λ n. n) (length W.units) 0 ∙ omega arith in
    record { alone = λ some. unread; served = λ free. none; writer_first = λ above. absurd (above-zero (sum (replicate (length W.units) 0)) above unread) }

pub start-is-sound : (W : Parts) (Z : Stored) → StartIsSound W Z
start-is-sound W Z valid stored = record {
  one_each = start-one_each W;
  hand_or_next = λ s u v h g. start-empty W (InHand s) (λ p e. cc) u 0 (ap (ticket_in (InHand s)) h ∙ same-self s 0);
  undeclared = λ u l. ap (start_place W u) (undeclared-start W u l);
  placed = λ u. start-placed W u valid;
  frames_hold = λ s d l. absurd (let k : d < 0 = l in omega arith);
  lowest = λ s l. refl;
  under_way = λ s l. (fresh-under_way W Z (main_of W s) 0 false valid stored (valid.streams s l).main, tt);
  below_rest = λ s l. tt;
  filled = λ x. omega arith;
  waiting = λ x n is. subst (λ (us : List ℕ). length us < n) (sym (empty-standing W (start W) (Waiting x) (start-empty W (Waiting x) (λ p e. cc)))) (barrier-some W x n valid is);
  counts = λ x. length-replicate (length W.units) 0;
  wishes = λ x. length-replicate (length W.units) wish.Read;
  locks = λ x is. start-kept W (standing W (start W) (Waiting x)) (empty-standing W (start W) (Waiting x) (start-empty W (Waiting x) (λ p e. cc)));
  keys = λ u. length-replicate W.keys 0;
  homes = λ u. start-home W u valid;
  requests = λ u. tt;
  positions = λ u. omega arith;
}
