-- The units that get a free reader-writer lock are a prefix of its waiters.
use Rattle.std.proofs.Common.{◌≡◌, ℕ, Bool, true, false, if◌then◌else◌, List, [], ◌∷◌, ◌++◌, map, refl, sym, ◌∙◌, ap, subst}
use Rattle.std.proofs.lemmas.List.{map-append}
use Rattle.abt_machine.specs.declared.events.Wish.{Wish}
use Rattle.abt_machine.specs.declared.workload.Parts.{Parts}
use Rattle.abt_machine.specs.Holders.{is_free}
use Rattle.abt_machine.specs.Lines.{Waiting, standing}
use Rattle.abt_machine.specs.Monitors.{number_of, rest}
use Rattle.abt_machine.specs.Queues.{first_alone}
use Rattle.abt_machine.specs.RwLocks.{wants_to_read, first_readers, after_readers, granted, granted_by, served, served_by, left_by, woken, passed_on}
use Rattle.abt_machine.specs.State.{State}
use Rattle.abt_machine.specs.Values.{Owned, RwLockValue, owned_at, rwlock_value}
use Rattle.abt_laws.proofs.Lists.{EachOf, EachOf-prefix}

-- the waiters before the first that wants to write, and the others
readers-prefix : (wishes : List Wish) (os : List Owned) → first_readers wishes os ++ after_readers wishes os ≡ os
readers-prefix wishes [] = refl
readers-prefix wishes (o ∷ os) = by (wants_to_read wishes o.number) (readers-prefix wishes os) where
  by : (b : Bool) → first_readers wishes os ++ after_readers wishes os ≡ os → (if b then o ∷ first_readers wishes os else []) ++ (if b then after_readers wishes os else o ∷ os) ≡ o ∷ os
  by true h = ap (λ ws. o ∷ ws) h
  by false h = refl

-- the first, and the others
one-prefix : (os : List Owned) → first_alone os ++ rest os ≡ os
one-prefix [] = refl
one-prefix (o ∷ os) = refl

-- the units that get a free lock, and the other waiters
granted-prefix : (old : RwLockValue) → granted old.lock.wishes old.waiters ++ (served old).waiters ≡ old.waiters
granted-prefix old = by (first_readers old.lock.wishes old.waiters) (readers-prefix old.lock.wishes old.waiters) where
  by : (readers : List Owned) → readers ++ after_readers old.lock.wishes old.waiters ≡ old.waiters → granted_by readers old.waiters ++ (served_by readers old).waiters ≡ old.waiters
  by [] h = one-prefix old.waiters
  by (o ∷ os) h = h

-- the units that are woken, and the waiters afterwards
pub woken-prefix : (old : RwLockValue) → woken old ++ (passed_on old).waiters ≡ old.waiters
woken-prefix old = by (is_free old.lock) where
  by : (b : Bool) → (if b then granted old.lock.wishes old.waiters else []) ++ (if b then served old else old).waiters ≡ old.waiters
  by true = granted-prefix old
  by false = refl

-- the numbers of units with what they carry
pub owned-numbers : (S : State) (us : List ℕ) → map number_of (map (owned_at S) us) ≡ us
owned-numbers S [] = refl
owned-numbers S (u ∷ us) = ap (λ vs. u ∷ vs) (owned-numbers S us)

-- the units that wait at lock x, by number: those that are woken when u gives it up, and those that wait afterwards
pub woken-standing : (W : Parts) (S : State) (x u : ℕ) → let left : RwLockValue = left_by u (rwlock_value W S x) in
    standing W S (Waiting x) ≡ map number_of (woken left) ++ map number_of (passed_on left).waiters
woken-standing W S x u =
    let left : RwLockValue = left_by u (rwlock_value W S x) in
    sym (sym (map-append number_of (woken left) (passed_on left).waiters) ∙ (ap (map number_of) (woken-prefix left) ∙ owned-numbers S (standing W S (Waiting x))))

-- what holds of each waiter of lock x holds of each unit that is woken when u gives it up
pub woken-each : (P : ℕ → Type 0) (W : Parts) (S : State) (x u : ℕ) → EachOf P (standing W S (Waiting x)) → EachOf P (map number_of (woken (left_by u (rwlock_value W S x))))
woken-each P W S x u a =
    let left : RwLockValue = left_by u (rwlock_value W S x) in
    EachOf-prefix P (map number_of (woken left)) (map number_of (passed_on left).waiters) (subst (EachOf P) (woken-standing W S x u) a)
