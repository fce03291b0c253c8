-- The first readers, one by one.
use Rattle.std.proofs.Common.{◌≡◌, ℕ, List, [], ◌∷◌, ◌++◌, Bool, true, false, if◌then◌else◌, map, slice_set, refl, ap, sym, ◌∙◌, append_assoc}
use Rattle.abt_machine.specs.Monitors.{number_of}
use Rattle.abt_machine.specs.RwLocks.{after_readers, all_reading, first_readers, reader_is_first, wants_to_read}
use Rattle.abt_machine.specs.Values.{Owned}
use Rattle.abt_machine.specs.declared.events.Wish.{Wish}

pub first_readers-more : (ws : List Wish) (o : Owned) (os : List Owned) → wants_to_read ws o.number ≡ true → first_readers ws (o ∷ os) ≡ o ∷ first_readers ws os
first_readers-more ws o os wants = rw wants

pub after_readers-more : (ws : List Wish) (o : Owned) (os : List Owned) → wants_to_read ws o.number ≡ true → after_readers ws (o ∷ os) ≡ after_readers ws os
after_readers-more ws o os wants = rw wants

none-if : (b : Bool) (ws : List Wish) (o : Owned) (os : List Owned) → (if b then o ∷ first_readers ws os else []) ≡ [] → (if b then after_readers ws os else o ∷ os) ≡ o ∷ os
none-if true ws o os none = cc
none-if false ws o os none = refl

-- if there are no first readers, all waiters are left
pub after_readers-none : (ws : List Wish) (os : List Owned) → first_readers ws os ≡ [] → after_readers ws os ≡ os
after_readers-none ws [] none = refl
after_readers-none ws (o ∷ os) none = none-if (wants_to_read ws o.number) ws o os none

-- there are none if the first waiter does not want to read
not-if : (b : Bool) (ws : List Wish) (o : Owned) (os : List Owned) → b ≡ false → (if b then o ∷ first_readers ws os else []) ≡ []
not-if true ws o os off = cc
not-if false ws o os off = refl

pub no_first_readers : (ws : List Wish) (os : List Owned) → reader_is_first ws (map number_of os) ≡ false → first_readers ws os ≡ []
no_first_readers ws [] off = refl
no_first_readers ws (o ∷ os) off = not-if (wants_to_read ws o.number) ws o os off

pub ruleset taking = (first_readers-more, after_readers-more, after_readers-none)

-- A reader o is taken from the waiters us, and us' are left.

first-taken : (ws : List Wish) (o : Owned) (us us' : List Owned) → wants_to_read ws o.number ≡ true → us ≡ o ∷ us' → first_readers ws us ≡ o ∷ first_readers ws us'
first-taken ws o us us' wants is = ap (first_readers ws) is ∙ first_readers-more ws o us' wants

-- the readers so far, and those to come
pub readers-taken : (ws ws' : List Wish) (o : Owned) (us us' rs rs' all : List Owned) → ws' ≡ ws → wants_to_read ws o.number ≡ true → us ≡ o ∷ us' → rs' ≡ rs ++ o ∷ [] → rs ++ first_readers ws us ≡ all → rs' ++ first_readers ws' us' ≡ all
readers-taken ws ws' o us us' rs rs' all same wants is pushed before =
    rw (same, pushed, append_assoc) (ap (λ os. rs ++ os) (sym (first-taken ws o us us' wants is)) ∙ before)

-- the waiters behind them
pub others-taken : (ws ws' : List Wish) (o : Owned) (us us' all : List Owned) → ws' ≡ ws → wants_to_read ws o.number ≡ true → us ≡ o ∷ us' → after_readers ws us ≡ all → after_readers ws' us' ≡ all
others-taken ws ws' o us us' all same wants is before =
    rw same (sym (ap (after_readers ws) is ∙ after_readers-more ws o us' wants) ∙ before)

-- and the counts
pub counts-taken : (ws ws' : List Wish) (o : Owned) (us us' : List Owned) (ns ns' all : List ℕ) → ws' ≡ ws → wants_to_read ws o.number ≡ true → us ≡ o ∷ us' → ns' ≡ slice_set ns o.number 1 → all_reading (first_readers ws us) ns ≡ all → all_reading (first_readers ws' us') ns' ≡ all
counts-taken ws ws' o us us' ns ns' all same wants is counted before =
    rw (same, counted) (sym (ap (λ os. all_reading os ns) (first-taken ws o us us' wants is)) ∙ before)
