-- The counters behind locks meet what the laws of waves suppose, by computation.
use Rattle.std.proofs.Common.{◌≡◌, ◌≢◌, ℕ, zero, suc, max, ◌<◌, ◌≤◌, inl, inr, Bool, true, false, List, [], ◌∷◌, ◌++◌, append-nil, refl, sym, subst, arith}
use Rattle.std.specs.List.{All}
use Rattle.std.proofs.lemmas.List.Elements.{All-append, All-cons, All-nil}
use Rattle.abt_interleave.specs.Histories.{Leads, entry_stamps, last_stamp, Extends}
use Rattle.abt_interleave.specs.Deeds.{Does}
use Rattle.abt_interleave.specs.Laws.{at_place}
use Rattle.abt_interleave.specs.Machines.{EntryOf}
use Rattle.abt_interleave.specs.Lines.{CallOf, Walks, LockLeft, WaveLeft}
use Rattle.abt_interleave.specs.Weaving.{TellsLocks}
use Rattle.abt_interleave.specs.Carrying.{no_logs, no_histories}
use Rattle.abt_interleave.specs.Counters.{Adds, CountsUp, counters, entry, zeros, logs, notes, totals}
use Rattle.abt_interleave.specs.CounterLocks.{call, own_lock, seen, closing, LocksForEach, one_lock, logs_under_one, seen_of_one, OneLockForBoth}
use Rattle.abt_interleave.proofs.Counted.{differ, tells}
use Rattle.abt_interleave.proofs.Weaves.{waves-weave}
use Rattle.abt_interleave.proofs.Carried.{waves-begin, waves-go-on, times-begin, times-go-on}

-- A lock for each.

locks-apart : TellsLocks Bool
locks-apart true true = inl refl
locks-apart false false = inl refl
locks-apart true false = inr (λ e. differ (sym e))
locks-apart false true = inr (λ e. differ e)

-- what a stream has seen when it has locked the first counter and not yet the second
abbrev at_first : ℕ → Bool → List (CallOf counters)
at_first s true = seen s true
at_first s false = []

away-first : (s : ℕ) (l : Bool) → true ≢ l → Extends s [] (at_first s l)
away-first s true ne = absurd (ne refl)
away-first s false ne = (([], refl), refl)

away-second : (s : ℕ) (l : Bool) → false ≢ l → Extends s (at_first s l) (seen s l)
away-second s true ne = (([], append-nil (seen s true)), refl)
away-second s false ne = absurd (ne refl)

walks : (s : ℕ) → s < 2 → Walks counters own_lock (λ l. 0) s (λ l. []) 0 (logs s) (seen s)
walks zero lt =
    (at_first zero, (away-first zero, [], (([], refl), refl), refl, refl), (seen zero, (away-second zero, [], (([], refl), refl), refl, refl), λ l. (([], append-nil (seen zero l)), refl)))
walks (suc zero) lt = (
  at_first (suc zero),
  (away-first (suc zero), call 1 0 true 5 0 ∷ [], ((call 1 0 true 5 0 ∷ [], refl), refl), refl, refl),
  (seen (suc zero), (away-second (suc zero), call 2 0 false 1 0 ∷ [], ((call 2 0 false 1 0 ∷ [], refl), refl), refl, refl), λ l. (([], append-nil (seen (suc zero) l)), refl)),
)
walks (suc (suc s)) lt = absurd (omega arith)

does : (s : ℕ) → s < 2 → Does Adds s 0 (logs s) (notes s)
does zero lt = (refl, 0, refl, (refl, 0, refl, refl))
does (suc zero) lt = (refl, 5, refl, (refl, 1, refl, refl))
does (suc (suc s)) lt = absurd (omega arith)

undeclared : (s : ℕ) → 2 ≤ s → logs s ≡ []
undeclared zero le = absurd (omega arith)
undeclared (suc zero) le = absurd (omega arith)
undeclared (suc (suc s)) le = refl

-- a call of stream 0 or 1
abbrev IsDeclared : CallOf counters → Type 0
IsDeclared c = c.caller < 2

-- two calls of the streams
both-declared : (c d : CallOf counters) → IsDeclared c → IsDeclared d → All IsDeclared (c ∷ d ∷ [])
both-declared c d p q = All-cons IsDeclared c (d ∷ []) p (All-cons IsDeclared d [] q (All-nil IsDeclared))

-- what either stream has seen of a lock is a front of what the second has
fronts : (x : Bool) (s : ℕ) → s < 2 → Extends s (seen s x) (seen 1 x)
fronts true zero lt = ((call 2 1 true 2 5 ∷ [], refl), refl)
fronts false zero lt = ((call 3 1 false 4 1 ∷ [], refl), refl)
fronts true (suc zero) lt = (([], refl), refl)
fronts false (suc zero) lt = (([], refl), refl)
fronts x (suc (suc s)) lt = absurd (omega arith)

left : (x : Bool) → LockLeft counters own_lock x 2 (λ s. seen s x) zeros.count totals (closing x)
left true = record {
  line = seen 1 true;
  is_line = record { rises = (omega arith, (omega arith, tt)); of_streams = both-declared (call 1 0 true 5 0) (call 2 1 true 2 5) (omega arith) (omega arith); seen = fronts true };
  last = refl;
  leads = λ x e. subst (λ y. Leads CountsUp 0 (at_place counters y (seen 1 true)) (totals y)) (sym e) (5, (refl, refl), (7, (refl, refl), refl));
}
left false = record {
  line = seen 1 false;
  is_line = record { rises = (omega arith, (omega arith, tt)); of_streams = both-declared (call 2 0 false 1 0) (call 3 1 false 4 1) (omega arith) (omega arith); seen = fronts false };
  last = refl;
  leads = λ x e. subst (λ y. Leads CountsUp 0 (at_place counters y (seen 1 false)) (totals y)) (sym e) (1, (refl, refl), (5, (refl, refl), refl));
}

wave : WaveLeft counters own_lock (λ l. 0) (λ s. 0) zeros.noted zeros.count logs notes totals closing
wave = waves-weave counters Bool tells locks-apart own_lock (λ l. 0) closing (λ s. 0) zeros.noted notes zeros.count totals logs seen (λ s lt. record { does = does s lt; walks = walks s lt }) undeclared left

pub locks-for-each : LocksForEach
locks-for-each = record {
  gone = λ s lt. record { does = does s lt; walks = walks s lt };
  left = left;
  wave = wave;
  timed = (times-go-on counters Bool tells own_lock (λ x y e. e) (λ l. 0) closing zeros.noted notes zeros.count totals (no_logs counters) logs (no_histories counters) (times-begin counters Bool own_lock) wave).deeds;
}

-- One lock for both.

locks-one : TellsLocks (Unit {0})
locks-one k l = inl refl

-- there is no other lock
none-away : (s : ℕ) (before after : Unit {0} → List (CallOf counters)) (l : Unit {0}) → tt ≢ l → Extends s (before l) (after l)
none-away s before after l ne = absurd (ne refl)

walks-one : (s : ℕ) → s < 2 → Walks counters one_lock (λ l. 0) s (λ l. []) 0 (logs_under_one s) (seen_of_one s)
walks-one zero lt = (
  (λ l. call 1 0 true 5 0 ∷ []),
  (none-away zero (λ l. []) (λ l. call 1 0 true 5 0 ∷ []), [], (([], refl), refl), refl, refl),
  (
    seen_of_one zero,
    (none-away zero (λ l. call 1 0 true 5 0 ∷ []) (seen_of_one zero), call 1 0 true 5 0 ∷ call 2 1 true 2 5 ∷ [], ((call 2 1 true 2 5 ∷ [], refl), refl), refl, refl),
    λ l. (([], refl), refl),
  ),
)
walks-one (suc zero) lt = (
  (λ l. call 1 0 true 5 0 ∷ call 2 1 true 2 5 ∷ []),
  (none-away (suc zero) (λ l. []) (λ l. call 1 0 true 5 0 ∷ call 2 1 true 2 5 ∷ []), call 1 0 true 5 0 ∷ [], ((call 1 0 true 5 0 ∷ [], refl), refl), refl, refl),
  (
    seen_of_one (suc zero),
    (none-away (suc zero) (λ l. call 1 0 true 5 0 ∷ call 2 1 true 2 5 ∷ []) (seen_of_one (suc zero)), call 1 0 true 5 0 ∷ call 2 1 true 2 5 ∷ call 3 0 false 1 0 ∷ [], ((call 3 0 false 1 0 ∷ [], refl), refl), refl, refl),
    λ l. (([], refl), refl),
  ),
)
walks-one (suc (suc s)) lt = absurd (omega arith)

does-one : (s : ℕ) → s < 2 → Does Adds s 0 (logs_under_one s) (notes s)
does-one zero lt = (refl, 0, refl, (refl, 0, refl, refl))
does-one (suc zero) lt = (refl, 5, refl, (refl, 1, refl, refl))
does-one (suc (suc s)) lt = absurd (omega arith)

undeclared-one : (s : ℕ) → 2 ≤ s → logs_under_one s ≡ []
undeclared-one zero le = absurd (omega arith)
undeclared-one (suc zero) le = absurd (omega arith)
undeclared-one (suc (suc s)) le = refl

left-one : LockLeft counters one_lock tt 2 (λ s. seen_of_one s tt) zeros.count totals 4
left-one = record {
  line = seen_of_one 1 tt;
  is_line = record { rises = (omega arith, (omega arith, (omega arith, (omega arith, tt)))); of_streams = All-append IsDeclared (seen 1 true) (call 3 0 false 1 0 ∷ call 4 1 false 4 1 ∷ []) firsts lasts; seen = prefixes };
  last = refl;
  leads = λ x e. leads x;
} where
  prefixes : (s : ℕ) → s < 2 → Extends s (seen_of_one s tt) (seen_of_one 1 tt)
  prefixes zero lt = ((call 4 1 false 4 1 ∷ [], refl), refl)
  prefixes (suc zero) lt = (([], refl), refl)
  prefixes (suc (suc s)) lt = absurd (omega arith)

  leads : (x : Bool) → Leads CountsUp 0 (at_place counters x (seen_of_one 1 tt)) (totals x)
  leads true = (5, (refl, refl), (7, (refl, refl), refl))
  leads false = (1, (refl, refl), (5, (refl, refl), refl))

  firsts : All IsDeclared (call 1 0 true 5 0 ∷ call 2 1 true 2 5 ∷ [])
  firsts = both-declared (call 1 0 true 5 0) (call 2 1 true 2 5) (omega arith) (omega arith)

  lasts : All IsDeclared (call 3 0 false 1 0 ∷ call 4 1 false 4 1 ∷ [])
  lasts = both-declared (call 3 0 false 1 0) (call 4 1 false 4 1) (omega arith) (omega arith)

wave-one : WaveLeft counters one_lock (λ l. 0) (λ s. 0) zeros.noted zeros.count logs_under_one notes totals (λ l. 4)
wave-one = waves-weave counters (Unit {0}) tells locks-one one_lock (λ l. 0) (λ l. 4) (λ s. 0) zeros.noted notes zeros.count totals logs_under_one seen_of_one (λ s lt. record { does = does-one s lt; walks = walks-one s lt }) undeclared-one (λ l. left-one)

-- the first call of the second counter is timed by no place in its history
untimed-at : (before later : List (EntryOf counters)) → entry 3 0 1 0 ∷ entry 4 1 4 1 ∷ [] ≡ before ++ entry 3 0 1 0 ∷ later → 3 ≡ suc (max 1 (last_stamp (entry_stamps before))) → ⊥
untimed-at [] later is e = absurd (omega arith)
untimed-at (x ∷ []) later is e = cc
untimed-at (x ∷ y ∷ []) later is e = cc
untimed-at (x ∷ y ∷ z ∷ before) later is e = cc

pub one-lock-for-both : OneLockForBoth
one-lock-for-both = record {
  gone = λ s lt. record { does = does-one s lt; walks = walks-one s lt };
  left = left-one;
  wave = wave-one;
  no_gap = (waves-go-on counters (Unit {0}) tells one_lock (λ l. 0) (λ l. 4) zeros.noted zeros.noted notes zeros.count zeros.count totals (no_logs counters) logs_under_one (no_histories counters)
      (waves-begin counters (Unit {0}) one_lock zeros.noted zeros.count) wave-one).no_gap;
  untimed = λ timed. untimed-at timed.1.0.0 timed.1.0.1 timed.1.0.2 timed.1.0.3;
}
