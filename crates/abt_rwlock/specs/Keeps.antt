-- What reader-writer locks keep.
use Rattle.std.specs.Prelude.{◌≡◌, length}
use Rattle.abt_machine.specs.Acts.{Act, Answer}
use Rattle.abt_machine.specs.RwLocks.{RwLockGives}
use Rattle.abt_machine.specs.Values.{RwLockValue}
use Rattle.abt_chain.specs.Keeping.{Contents, KeepsWhatFits, only_units}

-- what a reader-writer lock holds
abbrev pub contents_of_rwlock : RwLockValue → Contents
contents_of_rwlock old = only_units old.waiters

abbrev pub RwLocksKeepWhatFits : Type 0
RwLocksKeepWhatFits = KeepsWhatFits contents_of_rwlock RwLockGives

-- there is room for the counts and for the wishes of as many units
abbrev pub HasTheRoomOf : RwLockValue → RwLockValue → Type 0
HasTheRoomOf old new = (length new.lock.counts ≡ length old.lock.counts) × (length new.lock.wishes ≡ length old.lock.wishes)

-- no call changes for how many units there is room
abbrev pub RwLocksKeepTheirUnits : Type 0
RwLocksKeepTheirUnits =
    (old : RwLockValue) (act : Act) (answer : Answer) (new : RwLockValue) → RwLockGives old act answer new → HasTheRoomOf old new
