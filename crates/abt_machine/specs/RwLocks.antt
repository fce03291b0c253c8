-- What a reader-writer lock answers, and what it is afterwards.
use Rattle.std.specs.Prelude.{ℕ, ◌≡◌, ◌<◌, ◌≤◌, if◌then◌else◌, Bool, true, false, ◌||◌, ◌&&◌, IsTrue, IsFalse, is_none, List, [], ◌∷◌, ◌++◌, Option, Some, None, option_map, slice_get, slice_set}
use Rattle.abt_machine.specs.declared.events.Code.TheVariants as code
use Rattle.abt_machine.specs.declared.events.Wish.{Wish}
use Rattle.abt_machine.specs.declared.events.Wish.TheVariants as wish
use Rattle.abt_machine.specs.Holders.{count_of, given_up, holds, is_free, read_by, read_limit, reads, writes, written_by}
use Rattle.abt_machine.specs.Monitors.{number_of, rest}
use Rattle.abt_machine.specs.Queues.{first, first_alone}
use Rattle.abt_machine.specs.State.{RwLock}
use Rattle.abt_machine.specs.Values.{Owned, RwLockValue}
use Rattle.abt_machine.specs.Acts.{Act, ReadLock, WriteLock, RwUnlock, Load, Store, Answer, Given, Woke, Rested, Number, Coded, Back}

-- Who waits.

abbrev pub nobody_waits : List Owned → Bool
nobody_waits [] = true
nobody_waits (o ∷ os) = false

-- unit u reads already, or no unit writes and none waits
abbrev pub may_read : ℕ → RwLockValue → Bool
may_read u old = reads u old.lock || (is_none old.lock.writer && nobody_waits old.waiters)

-- what unit u wants is noted
abbrev pub wanting : ℕ → Wish → RwLock → RwLock
wanting u w lock = record lock { wishes = slice_set lock.wishes u w }

-- the unit waits, and wants that
abbrev pub waiting : Wish → Owned → RwLockValue → RwLockValue
waiting w o old = record { lock = wanting o.number w old.lock; waiters = old.waiters ++ o ∷ [] }

abbrev pub is_read : Option Wish → Bool
is_read None = false
is_read (Some wish.Read) = true
is_read (Some wish.Write) = false

-- waiter u wants to read
abbrev pub wants_to_read : List Wish → ℕ → Bool
wants_to_read wishes u = is_read (slice_get wishes u)

-- there are waiters, and the first of them wants to read
abbrev pub reader_is_first : List Wish → List ℕ → Bool
reader_is_first wishes [] = false
reader_is_first wishes (u ∷ us) = wants_to_read wishes u

-- How a free lock goes to its waiters.

-- the waiters before the first that wants to write
abbrev pub first_readers : List Wish → List Owned → List Owned
first_readers wishes [] = []
first_readers wishes (o ∷ os) = if wants_to_read wishes o.number then o ∷ first_readers wishes os else []

-- the waiters from the first that wants to write on
abbrev pub after_readers : List Wish → List Owned → List Owned
after_readers wishes [] = []
after_readers wishes (o ∷ os) = if wants_to_read wishes o.number then after_readers wishes os else o ∷ os

-- each of these units reads once
abbrev pub all_reading : List Owned → List ℕ → List ℕ
all_reading [] counts = counts
all_reading (o ∷ os) counts = all_reading os (slice_set counts o.number 1)

-- these readers get the lock, or the first waiter if there are none
abbrev pub granted_by : List Owned → List Owned → List Owned
granted_by [] waiters = first_alone waiters
granted_by (o ∷ os) waiters = o ∷ os

-- who gets a free lock: the waiters before the first that wants to write, or this one if it is the first
abbrev pub granted : List Wish → List Owned → List Owned
granted wishes waiters = granted_by (first_readers wishes waiters) waiters

-- a free lock that these readers have got, or its first waiter if there are none
abbrev pub served_by : List Owned → RwLockValue → RwLockValue
served_by [] old = record { lock = record old.lock { writer = option_map number_of (first old.waiters) }; waiters = rest old.waiters }
served_by (o ∷ os) old = record {
  lock = record old.lock { counts = all_reading (o ∷ os) old.lock.counts };
  waiters = after_readers old.lock.wishes old.waiters;
}

-- a free lock after its first waiters have got it
abbrev pub served : RwLockValue → RwLockValue
served old = served_by (first_readers old.lock.wishes old.waiters) old

-- unit u has given up the lock, or reads once less
abbrev pub left_by : ℕ → RwLockValue → RwLockValue
left_by u old = record old { lock = given_up u old.lock }

-- whom a lock wakes after a unit gave it up or reads once less: nobody if it is not free
abbrev pub woken : RwLockValue → List Owned
woken old = if is_free old.lock then granted old.lock.wishes old.waiters else []

-- a lock that is free goes to its waiters
abbrev pub passed_on : RwLockValue → RwLockValue
passed_on old = if is_free old.lock then served old else old

-- a reader-writer lock's answer, and the lock afterwards
abbrev pub RwLockGives : RwLockValue → Act → Answer → RwLockValue → Type 0
RwLockGives old (ReadLock o) (Given b) new =
    IsFalse (writes o.number old.lock) × (count_of o.number old.lock < read_limit) × IsTrue (may_read o.number old) × (b ≡ o)
    × (new ≡ record old { lock = read_by o.number old.lock })
RwLockGives old (ReadLock o) Rested new =
    IsFalse (writes o.number old.lock) × IsFalse (may_read o.number old) × (new ≡ waiting wish.Read o old)
RwLockGives old (ReadLock o) (Back b code.RwHeld) new = IsTrue (writes o.number old.lock) × (b ≡ o) × (new ≡ old)
RwLockGives old (ReadLock o) (Back b code.RwFull) new =
    IsFalse (writes o.number old.lock) × (read_limit ≤ count_of o.number old.lock) × (b ≡ o) × (new ≡ old)
RwLockGives old (WriteLock o) (Given b) new =
    IsFalse (holds o.number old.lock) × IsTrue (is_free old.lock) × (b ≡ o) × (new ≡ record old { lock = written_by o.number old.lock })
RwLockGives old (WriteLock o) Rested new =
    IsFalse (holds o.number old.lock) × IsFalse (is_free old.lock) × (new ≡ waiting wish.Write o old)
RwLockGives old (WriteLock o) (Back b code.RwHeld) new = IsTrue (holds o.number old.lock) × (b ≡ o) × (new ≡ old)
RwLockGives old (RwUnlock u) (Woke os) new =
    IsTrue (holds u old.lock) × (os ≡ woken (left_by u old)) × (new ≡ passed_on (left_by u old))
RwLockGives old (RwUnlock u) (Coded code.NotHolder) new = IsFalse (holds u old.lock) × (new ≡ old)
RwLockGives old (Load u) (Number n) new = IsTrue (holds u old.lock) × (n ≡ old.lock.number) × (new ≡ old)
RwLockGives old (Load u) (Coded code.NotHolder) new = IsFalse (holds u old.lock) × (new ≡ old)
RwLockGives old (Store u n) (Coded code.Ok) new = IsTrue (writes u old.lock) × (new ≡ record old { lock = record old.lock { number = n } })
RwLockGives old (Store u n) (Coded code.NotHolder) new = IsFalse (writes u old.lock) × (new ≡ old)
RwLockGives old act answer new = ⊥
