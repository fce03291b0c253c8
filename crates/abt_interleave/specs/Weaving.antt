-- The laws of locks and their lines: how a wave of streams makes logs and histories.
use Rattle.std.specs.Prelude.{ℕ, suc, None, ◌≡◌, ◌≢◌, ◌<◌, ◌≤◌, ◌⊎◌, List, [], ◌∷◌, ◌++◌}
use Rattle.abt_interleave.specs.Histories.{last_from, Extends}
use Rattle.abt_interleave.specs.Deeds.{deed_stamps}
use Rattle.abt_interleave.specs.Machines.{Machine, DeedOf, TellsPlaces}
use Rattle.abt_interleave.specs.Lines.{CallOf, Sees, Gone, LockLeft, WaveLeft}

-- two locks are one, or they are not
abbrev pub TellsLocks : Type 0 → Type 0
TellsLocks Lock = (k l : Lock) → (k ≡ l) ⊎ (k ≢ l)

-- What a stream keeps while it runs.

-- before its first deed
abbrev pub GoneNowhere : Machine → Type 0 → Type 0
GoneNowhere M Lock = (lock : M.Place → Lock) (carried : Lock → ℕ) (s clock : ℕ) (p : M.Part) → Gone M lock carried s clock p [] p (λ l. [])

-- with one deed more, at the stream's last stamp
abbrev pub GoneFurther : Machine → Type 0 → Type 0
GoneFurther M Lock = (lock : M.Place → Lock) (carried : Lock → ℕ) (s clock : ℕ) (p q r : M.Part) (log : List (DeedOf M)) (seen after : Lock → List (CallOf M)) (d : DeedOf M) →
    Gone M lock carried s clock p log q seen → d.stream ≡ s → M.Steps s q d.what d.heard r → Sees M lock carried s seen (last_from clock (deed_stamps log)) d d.heard after →
    Gone M lock carried s clock p (log ++ d ∷ []) r after

-- if it called nothing the stream sees what it saw
abbrev pub OwnDeedsShow : Machine → Type 0 → Type 0
OwnDeedsShow M Lock = (lock : M.Place → Lock) (carried : Lock → ℕ) (s clock : ℕ) (seen : Lock → List (CallOf M)) (d : DeedOf M) → d.stamp ≡ suc clock → Sees M lock carried s seen clock d None seen

-- and if a call came to nothing, it may see more
abbrev pub GoneAlong : Machine → Type 0 → Type 0
GoneAlong M Lock = (lock : M.Place → Lock) (carried : Lock → ℕ) (s clock : ℕ) (p q : M.Part) (log : List (DeedOf M)) (seen after : Lock → List (CallOf M)) →
    Gone M lock carried s clock p log q seen → ((l : Lock) → Extends s (seen l) (after l)) → Gone M lock carried s clock p log q after

-- What the wave leaves.

-- if each stream has gone so from one part to another, and each lock has left a line that goes on from what the streams had
-- seen, the wave's logs and histories are gathered, and woven
abbrev pub WavesWeave : Machine → Type 0 → Type 0
WavesWeave M Lock = TellsPlaces M → TellsLocks Lock → (lock : M.Place → Lock) (carried closing : Lock → ℕ) (clocks : ℕ → ℕ)
    (parts ends : ℕ → M.Part) (objects finals : M.Place → M.Object) (logs : ℕ → List (DeedOf M)) (seen : ℕ → Lock → List (CallOf M)) →
    ((s : ℕ) → s < M.streams → Gone M lock carried s (clocks s) (parts s) (logs s) (ends s) (seen s)) → ((s : ℕ) → M.streams ≤ s → logs s ≡ []) →
    ((l : Lock) → LockLeft M lock l M.streams (λ s. seen s l) objects finals (closing l)) →
    WaveLeft M lock carried clocks parts objects logs ends finals closing

-- a lock that nobody called has left an empty line
abbrev pub IdleLocksLeave : Machine → Type 0 → Type 0
IdleLocksLeave M Lock = (lock : M.Place → Lock) (l : Lock) (n : ℕ) (objects finals : M.Place → M.Object) →
    ((x : M.Place) → lock x ≡ l → objects x ≡ finals x) → LockLeft M lock l n (λ s. []) objects finals 0
