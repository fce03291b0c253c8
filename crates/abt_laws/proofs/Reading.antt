-- While a unit reads a reader-writer lock, its number stays.
use Rattle.std.proofs.Common.{◌≡◌, ℕ, ◌<◌, [], ◌∷◌, sym, ◌∙◌, ap}
use Rattle.std.specs.Prelude.{IsTrue}
use Rattle.std.specs.List.{sum}
use Rattle.abt_machine.specs.declared.events.Code.TheVariants as code
use Rattle.abt_machine.specs.declared.events.What.{What}
use Rattle.abt_machine.specs.declared.events.What.TheVariants as what
use Rattle.abt_machine.specs.declared.operations.Op.TheVariants as op
use Rattle.abt_machine.specs.Stored.{Stored}
use Rattle.abt_machine.specs.declared.workload.Parts.{Parts}
use Rattle.abt_machine.specs.Numbers.{object_no}
use Rattle.abt_machine.specs.Workloads.{op_at}
use Rattle.abt_machine.specs.Codes.{code_at}
use Rattle.abt_machine.specs.Holders.{writes}
use Rattle.abt_machine.specs.State.{State}
use Rattle.abt_machine.specs.Lines.{Waiting, standing}
use Rattle.abt_machine.specs.Start.{start}
use Rattle.abt_machine.specs.Events.{May, change}
use Rattle.abt_machine.specs.Runs.{RunFrom, last_state}
use Rattle.abt_machine.specs.Sound.{Sound}
use Rattle.abt_machine.specs.Valid.{IsValid}
use Rattle.abt_machine.proofs.Declared.{op-declared}
use Rattle.abt_laws.specs.Laws.{ReadsStay, StoresIn}
use Rattle.abt_laws.proofs.Codes.{unless-ok}
use Rattle.abt_laws.proofs.KeptLocks.{not-read, sum-above}
use Rattle.abt_laws.proofs.RunParts.{last_state-sound, run-front, run-rest, state_after-append}
use Rattle.abt_laws.proofs.SoundChanges.{number-after}
use Rattle.abt_laws.proofs.SoundRuns.{event-keeps, runs-are-sound}

-- no number is stored in lock x in a sound state in which it is read
none-stored : (W : Parts) (Z : Stored) → IsValid W → (S : State) (s x : ℕ) (w : What) → Sound W Z S → May W Z S s w → 0 < sum (S.rwlock x).counts → StoresIn W x w → ⊥
none-stored W Z valid S s x (what.Step v k c) sound may above stores =
    let goes : code_at W S s v.0 (op_at W v.0 k) ≡ code.Ok = sym may.3 ∙ stores.1 in
    let has : IsTrue (writes v.0 (S.rwlock x)) = (unless-ok (writes v.0 (S.rwlock x)) code.NotHolder code.Ok tt (sym (ap (code_at W S s v.0) stores.0) ∙ goes)).0 in
    not-read v.0 (S.rwlock x) (standing W S (Waiting x)) (sound.locks x (op-declared W v.0 k (op.RwStore (object_no x)) valid stores.0)) has above
none-stored W Z valid S s x w sound may above stores = stores

pub reads-stay : (W : Parts) (Z : Stored) → ReadsStay W Z
reads-stay W Z valid stored J e u x run reads =
    let S : State = last_state W J in
    let sound : Sound W Z S = last_state-sound W Z J (runs-are-sound W Z) valid stored (run-front W Z (start W) J (e ∷ []) run) in
    let last : RunFrom W Z S (e ∷ []) = run-rest W Z (start W) J (e ∷ []) run in
    let above : 0 < sum (S.rwlock x).counts = sum-above (S.rwlock x).counts u reads in (
      none-stored W Z valid S e.stream.0 x e.what sound last.1 above,
      ap (λ (T : State). (T.rwlock x).number) (state_after-append W (start W) J (e ∷ []))
          ∙ number-after W Z S (change W S e.stream.0 e.what) (event-keeps W Z valid stored S e.stream.0 e.what sound last.0 last.1) x above,
    )
