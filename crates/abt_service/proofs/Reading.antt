-- While a unit writes a reader-writer lock, no unit reads it.
use Rattle.std.proofs.Common.{◌≡◌, ◌<◌, ℕ, inl, inr, arith}
use Rattle.std.proofs.lemmas.Bool.{cases_lt}
use Rattle.std.specs.List.{sum}
use Rattle.abt_machine.specs.Stored.{Stored}
use Rattle.abt_machine.specs.declared.workload.Parts.{Parts}
use Rattle.abt_machine.specs.Holders.{count_of}
use Rattle.abt_machine.specs.Lines.{Waiting, standing}
use Rattle.abt_machine.specs.Runs.{state_at}
use Rattle.abt_machine.specs.Sound.{IsKept, Sound}
use Rattle.abt_machine.specs.State.{State}
use Rattle.abt_laws.proofs.KeptLocks.{above-zero, sum-above}
use Rattle.abt_laws.proofs.SoundRuns.{runs-are-sound}
use Rattle.abt_service.specs.Laws.{ReadersExcludeWriters}

-- who does not read more than 0 times does not read
none-above : (n : ℕ) → (0 < n → ⊥) → n ≡ 0
none-above n none = elim (cases_lt 0 n) [ inl above ↦ absurd (none above) | inr most ↦ omega arith ]

pub readers-exclude-writers : (W : Parts) (Z : Stored) → ReadersExcludeWriters W Z
readers-exclude-writers W Z valid stored J i x u run is writes =
    let S : State = state_at W J i in
    let sound : Sound W Z S = runs-are-sound W Z valid stored J i run in
    let kept : IsKept (S.rwlock x) (standing W S (Waiting x)) = sound.locks x is in
    none-above (count_of u (S.rwlock x)) (λ above. above-zero (sum (S.rwlock x).counts) (sum-above (S.rwlock x).counts u above) (kept.alone writes))
