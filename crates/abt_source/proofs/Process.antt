-- What the calls of the files of the process leave.
use Rattle.std.proofs.Common.{◌≡◌, ◌≤◌, ℕ, List, [], ◌∷◌, take, Bool, true, false, Some, None, Result, Ok, Err, IfOk, OnOk, OnErr, IsErrOf, refl, sym, ap, subst, arith}
use Rattle.abt_source.specs.Source.{next_count, NothingLeft, GivesNext, ReadGives}
use Rattle.abt_source.specs.RealFiles.{FilesOfProcess, after_fault, after_reading, none_begun, one_begun, unread}
use Rattle.abt_source.specs.Seen.{Gave, closed, gave, gave_on, reading}
use Rattle.abt_source.specs.declared.Failed.{Failed}
use Rattle.abt_source.specs.declared.reading.NotFetched.{NotFetched}
use Rattle.abt_source.specs.declared.reading.NotFetched.TheVariants as why
use Rattle.abt_source.proofs.Counts.{next_count-le}

-- What is left of a file that was begun is not observable.
pub begin-left : (r : Result (Unit {0}) NotFetched) (old new : FilesOfProcess) (name : List ℕ) → OnOk r (new ≡ one_begun new.name old.faults (reading name [] false ∷ old.readings))
    → OnOk r (unread new.begun ≡ None)
begin-left (Ok _) old new name ok = ap (λ (m : FilesOfProcess). unread m.begun) ok
begin-left (Err e) old new name ok = tt

-- The file that is begun is read from then on.
pub begin-seen : (r : Result (Unit {0}) NotFetched) (old new : FilesOfProcess) (name : List ℕ) → OnOk r (new ≡ one_begun new.name old.faults (reading name [] false ∷ old.readings))
    → OnOk r (Gave new.begun new.readings ≡ gave (reading name [] false) (Gave old.begun old.readings))
begin-seen (Ok _) old new name ok = ap (λ (m : FilesOfProcess). Gave m.begun m.readings) ok
begin-seen (Err e) old new name ok = tt

-- And nothing is if none was begun.
pub begin-closed : (r : Result (Unit {0}) NotFetched) (old new : FilesOfProcess)
    → (IsErrOf r why.Failed → new ≡ none_begun new.name (next_count old.faults) old.readings) → (IsErrOf r why.Memory → new ≡ none_begun new.name old.faults old.readings)
    → OnErr r (Gave new.begun new.readings ≡ closed (Gave old.begun old.readings))
begin-closed (Ok _) old new failed memory = tt
begin-closed (Err why.Failed) old new failed memory = ap (λ (m : FilesOfProcess). Gave m.begun m.readings) (failed refl)
begin-closed (Err why.Memory) old new failed memory = ap (λ (m : FilesOfProcess). Gave m.begun m.readings) (memory refl)

-- Nothing is left if none was begun.
pub begin-nothing : (r : Result (Unit {0}) NotFetched) (old new : FilesOfProcess)
    → (IsErrOf r why.Failed → new ≡ none_begun new.name (next_count old.faults) old.readings) → (IsErrOf r why.Memory → new ≡ none_begun new.name old.faults old.readings)
    → OnErr r (NothingLeft (unread new.begun))
begin-nothing (Ok _) old new failed memory = tt
begin-nothing (Err why.Failed) old new failed memory = subst (λ (m : FilesOfProcess). NothingLeft (unread m.begun)) (sym (failed refl)) refl
begin-nothing (Err why.Memory) old new failed memory = subst (λ (m : FilesOfProcess). NothingLeft (unread m.begun)) (sym (memory refl)) refl

-- The count never falls at a begin.
pub begin-later : (r : Result (Unit {0}) NotFetched) (old new : FilesOfProcess) (name : List ℕ) → OnOk r (new ≡ one_begun new.name old.faults (reading name [] false ∷ old.readings))
    → (IsErrOf r why.Failed → new ≡ none_begun new.name (next_count old.faults) old.readings) → (IsErrOf r why.Memory → new ≡ none_begun new.name old.faults old.readings)
    → old.faults ≤ new.faults
begin-later (Ok _) old new name ok failed memory = let same : new.faults ≡ old.faults = ap (λ (m : FilesOfProcess). m.faults) ok in omega arith
begin-later (Err why.Failed) old new name ok failed memory = next_count-le old.faults new.faults (ap (λ (m : FilesOfProcess). m.faults) (failed refl))
begin-later (Err why.Memory) old new name ok failed memory = let same : new.faults ≡ old.faults = ap (λ (m : FilesOfProcess). m.faults) (memory refl) in omega arith

-- It stays if a file is begun.
pub begin-quiet : (r : Result (Unit {0}) NotFetched) (old new : FilesOfProcess) (name : List ℕ) → OnOk r (new ≡ one_begun new.name old.faults (reading name [] false ∷ old.readings))
    → OnOk r (new.faults ≡ old.faults)
begin-quiet (Ok _) old new name ok = ap (λ (m : FilesOfProcess). m.faults) ok
begin-quiet (Err e) old new name ok = tt

-- Bytes that aren't observable stay so, and no bytes come if nothing is begun.
gives-next : (begun : Bool) (n : ℕ) (into : List ℕ) → (begun ≡ false → n ≡ 0) → GivesNext (unread begun) (unread begun) n into
gives-next true n into none = refl
gives-next false n into none = subst (λ (k : ℕ). GivesNext (Some []) (Some []) k into) (sym (none refl)) (refl, refl, λ _. refl)

-- A read leaves what is left.
pub read-next : (r : Result ℕ Failed) (old new : FilesOfProcess) (into : List ℕ) → (old.begun ≡ false → IfOk r (λ n. n ≡ 0))
    → IfOk r (λ n. new ≡ after_reading old (take n into)) → OnErr r (new ≡ after_fault old) → ReadGives (unread old.begun) (unread new.begun) r into
read-next (Ok n) old new into none ok failed = subst (λ (m : FilesOfProcess). GivesNext (unread old.begun) (unread m.begun) n into) (sym ok) (gives-next old.begun n into none)
read-next (Err e) old new into none ok failed = ap (λ (m : FilesOfProcess). unread m.begun) failed

-- The files before and after a read as their counts.
pub read-ok : (r : Result ℕ Failed) (old new : FilesOfProcess) (into : List ℕ) → IfOk r (λ n. new ≡ after_reading old (take n into)) → OnOk r (new.faults ≡ old.faults)
read-ok (Ok n) old new into ok = ap (λ (m : FilesOfProcess). m.faults) ok
read-ok (Err e) old new into ok = tt

pub read-failed : (r : Result ℕ Failed) (old new : FilesOfProcess) → OnErr r (new ≡ after_fault old) → OnErr r (new.faults ≡ next_count old.faults)
read-failed (Ok n) old new failed = tt
read-failed (Err e) old new failed = ap (λ (m : FilesOfProcess). m.faults) failed

-- The name that is kept stays at a read.
pub read-begun : (r : Result ℕ Failed) (old new : FilesOfProcess) (into : List ℕ) → IfOk r (λ n. new ≡ after_reading old (take n into)) → OnErr r (new ≡ after_fault old) → new.name ≡ old.name
read-begun (Ok n) old new into ok failed = ap (λ (m : FilesOfProcess). m.name) ok
read-begun (Err e) old new into ok failed = ap (λ (m : FilesOfProcess). m.name) failed

-- The readings after a read.
pub read-seen : (r : Result ℕ Failed) (old new : FilesOfProcess) (into : List ℕ) → IfOk r (λ n. new ≡ after_reading old (take n into))
    → IfOk r (λ n. Gave new.begun new.readings ≡ gave_on (take n into) (Gave old.begun old.readings))
read-seen (Ok n) old new into ok = ap (λ (m : FilesOfProcess). Gave m.begun m.readings) ok
read-seen (Err e) old new into ok = tt

pub read-unseen : (r : Result ℕ Failed) (old new : FilesOfProcess) → OnErr r (new ≡ after_fault old) → OnErr r (Gave new.begun new.readings ≡ Gave old.begun old.readings)
read-unseen (Ok n) old new failed = tt
read-unseen (Err e) old new failed = ap (λ (m : FilesOfProcess). Gave m.begun m.readings) failed
