-- What reader-writer locks keep of their units, and that they keep room for as many.
use Rattle.std.proofs.Common.{◌≡◌, ℕ, ◌+◌, ◌-◌, List, [], ◌∷◌, Bool, true, false, None, if◌then◌else◌, length, slice_set, refl, sym, ◌∙◌, subst, All}
use Rattle.std.proofs.lemmas.List.{length-set}
use Rattle.std.proofs.lemmas.List.Elements.{All-append, All-cons, All-head, All-nil, All-tail}
use Rattle.abt_machine.specs.Acts.{ReadLock, WriteLock, RwUnlock, Load, Store, Given, Woke, Rested, Number, Coded, Back}
use Rattle.abt_machine.specs.Holders.{count_of, is_free, with_count, writes}
use Rattle.abt_machine.specs.RwLocks.{RwLockGives, after_readers, all_reading, first_readers, granted, granted_by, left_by, passed_on, served, served_by, wants_to_read}
use Rattle.abt_machine.specs.State.{RwLock}
use Rattle.abt_machine.specs.Values.{Owned, RwLockValue}
use Rattle.abt_machine.specs.declared.events.Code.TheVariants as code
use Rattle.abt_machine.specs.declared.events.Wish.{Wish}
use Rattle.abt_machine.specs.declared.events.Wish.TheVariants as wish
use Rattle.abt_machine.proofs.Elements.{All-first_alone, All-rest}
use Rattle.abt_unit.specs.Fits.{Fits}
use Rattle.abt_chain.specs.Keeping.{Have, IsPoolOf, Keeps}
use Rattle.abt_chain.proofs.Kept.{Have-nothing, Have-unit, Have-units}
use Rattle.abt_rwlock.specs.Keeps.{HasTheRoomOf, RwLocksKeepTheirUnits, RwLocksKeepWhatFits, contents_of_rwlock}

-- Facts of parts of the waiters.

All-if : (F : Owned → Type 0) (b : Bool) (xs ys : List Owned) → All F xs → All F ys → All F (if b then xs else ys)
All-if F true xs ys first second = first
All-if F false xs ys first second = second

All-first_readers : (F : Owned → Type 0) (ws : List Wish) (os : List Owned) → All F os → All F (first_readers ws os)
All-first_readers F ws [] all = all
All-first_readers F ws (o ∷ os) all =
    All-if F (wants_to_read ws o.number) _ _ (All-cons F o _ (All-head F o os all) (All-first_readers F ws os (All-tail F o os all))) (All-nil F)

All-after_readers : (F : Owned → Type 0) (ws : List Wish) (os : List Owned) → All F os → All F (after_readers ws os)
All-after_readers F ws [] all = all
All-after_readers F ws (o ∷ os) all = All-if F (wants_to_read ws o.number) _ _ (All-after_readers F ws os (All-tail F o os all)) all

All-granted_by : (F : Owned → Type 0) (rs os : List Owned) → All F rs → All F os → All F (granted_by rs os)
All-granted_by F [] os readers all = All-first_alone F os all
All-granted_by F (r ∷ rs) os readers all = readers

All-granted : (F : Owned → Type 0) (ws : List Wish) (os : List Owned) → All F os → All F (granted ws os)
All-granted F ws os all = All-granted_by F (first_readers ws os) os (All-first_readers F ws os all) all

All-served_by : (F : Owned → Type 0) (rs : List Owned) (old : RwLockValue) → All F old.waiters → All F (served_by rs old).waiters
All-served_by F [] old all = All-rest F old.waiters all
All-served_by F (r ∷ rs) old all = All-after_readers F old.lock.wishes old.waiters all

All-woken_if : (F : Owned → Type 0) (b : Bool) (old : RwLockValue) → All F old.waiters → All F (if b then granted old.lock.wishes old.waiters else [])
All-woken_if F b old all = All-if F b _ _ (All-granted F old.lock.wishes old.waiters all) (All-nil F)

All-passed_if : (F : Owned → Type 0) (b : Bool) (old : RwLockValue) → All F old.waiters → All F (if b then served old else old).waiters
All-passed_if F true old all = All-served_by F (first_readers old.lock.wishes old.waiters) old all
All-passed_if F false old all = all

-- Facts of what locks hold, as the law says them.

becomes : (F : Owned → Type 0) (D : ℕ → Type 0) (m new : RwLockValue) → new ≡ m → All F m.waiters → Have F D (contents_of_rwlock new)
becomes F D m new same all = let P : RwLockValue → Type 0 = λ x. Have F D (contents_of_rwlock x) in subst P (sym same) (Have-units F D m.waiters all)

-- a unit that comes back has what it had
answered : (F : Owned → Type 0) (b o : Owned) → b ≡ o → All F (o ∷ []) → F b
answered F b o same asked = subst F (sym same) (All-head F o [] asked)

-- reader-writer locks keep any fact of units
pub rwlocks-keep : (F : Owned → Type 0) (D : ℕ → Type 0) → Keeps F D contents_of_rwlock RwLockGives
rwlocks-keep F D old (ReadLock o) (Given b) new gives held asked =
    (Have-unit F D b (answered F b o gives.3 asked.0), becomes F D _ new gives.4 held.0)
rwlocks-keep F D old (ReadLock o) Rested new gives held asked =
    (Have-nothing F D, becomes F D _ new gives.2 (All-append F old.waiters (o ∷ []) held.0 asked.0))
rwlocks-keep F D old (ReadLock o) (Back b code.RwHeld) new gives held asked =
    (Have-unit F D b (answered F b o gives.1 asked.0), becomes F D old new gives.2 held.0)
rwlocks-keep F D old (ReadLock o) (Back b code.RwFull) new gives held asked =
    (Have-unit F D b (answered F b o gives.2 asked.0), becomes F D old new gives.3 held.0)
rwlocks-keep F D old (WriteLock o) (Given b) new gives held asked =
    (Have-unit F D b (answered F b o gives.2 asked.0), becomes F D _ new gives.3 held.0)
rwlocks-keep F D old (WriteLock o) Rested new gives held asked =
    (Have-nothing F D, becomes F D _ new gives.2 (All-append F old.waiters (o ∷ []) held.0 asked.0))
rwlocks-keep F D old (WriteLock o) (Back b code.RwHeld) new gives held asked =
    (Have-unit F D b (answered F b o gives.1 asked.0), becomes F D old new gives.2 held.0)
rwlocks-keep F D old (RwUnlock u) (Woke os) new gives held asked =
    let left : RwLockValue = left_by u old in (
      Have-units F D os (subst (All F) (sym gives.1) (All-woken_if F (is_free left.lock) left held.0)),
      becomes F D _ new gives.2 (All-passed_if F (is_free left.lock) left held.0),
    )
rwlocks-keep F D old (RwUnlock u) (Coded code.NotHolder) new gives held asked = (Have-nothing F D, becomes F D old new gives.1 held.0)
rwlocks-keep F D old (Load u) (Number n) new gives held asked = (Have-nothing F D, becomes F D old new gives.2 held.0)
rwlocks-keep F D old (Load u) (Coded code.NotHolder) new gives held asked = (Have-nothing F D, becomes F D old new gives.1 held.0)
rwlocks-keep F D old (Store u n) (Coded code.Ok) new gives held asked = (Have-nothing F D, becomes F D _ new gives.1 held.0)
rwlocks-keep F D old (Store u n) (Coded code.NotHolder) new gives held asked = (Have-nothing F D, becomes F D old new gives.1 held.0)
rwlocks-keep F D old act answer new gives held asked = absurd gives

pub rwlocks-keep-what-fits : RwLocksKeepWhatFits
rwlocks-keep-what-fits W = rwlocks-keep (Fits W) (IsPoolOf W)

-- For how many units there is room.

-- readers that are admitted change no length
length-all_reading : (os : List Owned) (ns : List ℕ) → length (all_reading os ns) ≡ length ns
length-all_reading [] ns = refl
length-all_reading (o ∷ os) ns = length-all_reading os (slice_set ns o.number 1) ∙ length-set ns o.number 1

room-served_by : (rs : List Owned) (old : RwLockValue) → HasTheRoomOf old (served_by rs old)
room-served_by [] old = (refl, refl)
room-served_by (r ∷ rs) old = (length-all_reading (r ∷ rs) old.lock.counts, refl)

room-passed_if : (b : Bool) (old : RwLockValue) → HasTheRoomOf old (if b then served old else old)
room-passed_if true old = room-served_by (first_readers old.lock.wishes old.waiters) old
room-passed_if false old = (refl, refl)

room-given_if : (b : Bool) (u n : ℕ) (lock : RwLock) (os : List Owned) → HasTheRoomOf (record { lock = lock; waiters = os }) (record { lock = if b then record lock { writer = None } else with_count u n lock; waiters = os })
room-given_if true u n lock os = (refl, refl)
room-given_if false u n lock os = (length-set lock.counts u n, refl)

room-left_by : (u : ℕ) (old : RwLockValue) → HasTheRoomOf old (left_by u old)
room-left_by u old = room-given_if (writes u old.lock) u (count_of u old.lock - 1) old.lock old.waiters

-- one has the room of another, and this of a third
room-again : (old mid new : RwLockValue) → HasTheRoomOf old mid → HasTheRoomOf mid new → HasTheRoomOf old new
room-again old mid new first second = (second.0 ∙ first.0, second.1 ∙ first.1)

-- what equals a lock has its room
room-becomes : (old m new : RwLockValue) → new ≡ m → HasTheRoomOf old m → HasTheRoomOf old new
room-becomes old m new same room = subst (HasTheRoomOf old) (sym same) room

pub rwlocks-keep-their-units : RwLocksKeepTheirUnits
rwlocks-keep-their-units old (ReadLock o) (Given b) new gives =
    room-becomes old _ new gives.4 (length-set old.lock.counts o.number (count_of o.number old.lock + 1), refl)
rwlocks-keep-their-units old (ReadLock o) Rested new gives = room-becomes old _ new gives.2 (refl, length-set old.lock.wishes o.number wish.Read)
rwlocks-keep-their-units old (ReadLock o) (Back b code.RwHeld) new gives = room-becomes old old new gives.2 (refl, refl)
rwlocks-keep-their-units old (ReadLock o) (Back b code.RwFull) new gives = room-becomes old old new gives.3 (refl, refl)
rwlocks-keep-their-units old (WriteLock o) (Given b) new gives = room-becomes old _ new gives.3 (refl, refl)
rwlocks-keep-their-units old (WriteLock o) Rested new gives = room-becomes old _ new gives.2 (refl, length-set old.lock.wishes o.number wish.Write)
rwlocks-keep-their-units old (WriteLock o) (Back b code.RwHeld) new gives = room-becomes old old new gives.2 (refl, refl)
rwlocks-keep-their-units old (RwUnlock u) (Woke os) new gives =
    let left : RwLockValue = left_by u old in
    room-becomes old (passed_on left) new gives.2 (room-again old left (passed_on left) (room-left_by u old) (room-passed_if (is_free left.lock) left))
rwlocks-keep-their-units old (RwUnlock u) (Coded code.NotHolder) new gives = room-becomes old old new gives.1 (refl, refl)
rwlocks-keep-their-units old (Load u) (Number n) new gives = room-becomes old old new gives.2 (refl, refl)
rwlocks-keep-their-units old (Load u) (Coded code.NotHolder) new gives = room-becomes old old new gives.1 (refl, refl)
rwlocks-keep-their-units old (Store u n) (Coded code.Ok) new gives = room-becomes old _ new gives.1 (refl, refl)
rwlocks-keep-their-units old (Store u n) (Coded code.NotHolder) new gives = room-becomes old old new gives.1 (refl, refl)
rwlocks-keep-their-units old act answer new gives = absurd gives
