-- A lock that was given up and passed on was unlocked.
use Rattle.std.proofs.Common.{◌≡◌, ℕ, List, ap, ◌∙◌}
use Rattle.std.specs.Prelude.{IsTrue}
use Rattle.abt_machine.specs.Acts.{RwUnlock, Woke}
use Rattle.abt_machine.specs.Holders.{given_up, holds}
use Rattle.abt_machine.specs.RwLocks.{RwLockGives, left_by, passed_on, woken}
use Rattle.abt_machine.specs.State.{RwLock}
use Rattle.abt_machine.specs.Values.{Owned, RwLockValue}
use Rattle.abt_rwlock.specs.Parts.{HoldersValue, WaitersValue, held_by, lock_of}

pub unlocked : (u n : ℕ) (old mid new : HoldersValue) (waiters left : WaitersValue) (os : List Owned) → IsTrue (holds u (held_by old waiters.wishes n))
    → held_by mid waiters.wishes n ≡ given_up u (held_by old waiters.wishes n) → os ≡ woken (lock_of mid waiters n) → lock_of new left n ≡ passed_on (lock_of mid waiters n)
    → RwLockGives (lock_of old waiters n) (RwUnlock u) (Woke os) (lock_of new left n)
unlocked u n old mid new waiters left os has given out passed =
    let P : RwLock → RwLockValue = λ lock. record { lock = lock; waiters = waiters.units } in
    let gave : lock_of mid waiters n ≡ left_by u (lock_of old waiters n) = ap P given in
    (has, out ∙ ap woken gave, passed ∙ ap passed_on gave)
