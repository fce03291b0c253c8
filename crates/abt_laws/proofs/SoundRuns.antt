-- Every event of every stream keeps a sound state sound, and so every state of a run is sound.
use Rattle.std.proofs.Common.{◌<◌, ℕ, zero, suc, List, [], ◌∷◌, sym, subst}
use Rattle.std.specs.Prelude.{take}
use Rattle.abt_machine.specs.declared.events.Event.{Event}
use Rattle.abt_machine.specs.declared.events.What.{What}
use Rattle.abt_machine.specs.declared.events.What.TheVariants as what
use Rattle.abt_machine.specs.Stored.{Stored}
use Rattle.abt_machine.specs.declared.workload.Parts.{Parts}
use Rattle.abt_machine.specs.Valid.{IsValid}
use Rattle.abt_machine.specs.Rounds.{OrdersStored}
use Rattle.abt_machine.specs.State.{State}
use Rattle.abt_machine.specs.Start.{start}
use Rattle.abt_machine.specs.Events.{May, after, change}
use Rattle.abt_machine.specs.Runs.{RunFrom, state_after}
use Rattle.abt_machine.specs.Sound.{Sound}
use Rattle.abt_laws.specs.Laws.{EventsKeepSound, RunsAreSound}
use Rattle.abt_laws.proofs.SoundChanges.{Keeps, sound-after}
use Rattle.abt_laws.proofs.SoundStart.{start-is-sound}
use Rattle.abt_laws.proofs.SoundPut.{keeps-put}
use Rattle.abt_laws.proofs.SoundLook.{keeps-look}
use Rattle.abt_laws.proofs.SoundEnd.{keeps-end}
use Rattle.abt_laws.proofs.SoundRound.{keeps-take, keeps-miss}
use Rattle.abt_laws.proofs.SoundStack.{keeps-enter, keeps-leave}
use Rattle.abt_laws.proofs.SoundOps.{call-keeps, step-keeps}

-- what an event changes, by its kind
pub event-keeps : (W : Parts) (Z : Stored) → IsValid W → OrdersStored W Z.orders → (S : State) (s : ℕ) (w : What) → Sound W Z S → s < W.streams → May W Z S s w → Keeps W Z S (change W S s w)
event-keeps W Z valid stored S s (what.Miss p) sound below may = keeps-miss W Z S s p.0 valid stored sound below may
event-keeps W Z valid stored S s (what.Take p u) sound below may = keeps-take W Z S s p.0 u.0 valid stored sound below may
event-keeps W Z valid stored S s (what.Look u) sound below may = keeps-look W Z S s u.0 sound may
event-keeps W Z valid stored S s (what.Step u k c) sound below may = step-keeps W Z valid stored S s u.0 k c sound below may
event-keeps W Z valid stored S s (what.Call u k n) sound below may = call-keeps W Z S s u.0 k n sound below may
event-keeps W Z valid stored S s (what.Put u p) sound below may = keeps-put W Z S s u.0 p.0 sound may
event-keeps W Z valid stored S s (what.End u c) sound below may = keeps-end W Z S s u.0 c sound may
event-keeps W Z valid stored S s (what.Enter u) sound below may = keeps-enter W Z S s u.0 valid stored sound below may
event-keeps W Z valid stored S s (what.Leave u) sound below may = keeps-leave W Z S s u.0 sound below may

-- so the state after it is sound
event-sound : (W : Parts) (Z : Stored) → IsValid W → OrdersStored W Z.orders → (S : State) (s : ℕ) (w : What) → Sound W Z S → s < W.streams → May W Z S s w → Sound W Z (after W S s w)
event-sound W Z valid stored S s w sound below may = sound-after W Z S (change W S s w) sound (event-keeps W Z valid stored S s w sound below may)

pub events-keep-sound : (W : Parts) (Z : Stored) → EventsKeepSound W Z
events-keep-sound W Z valid stored S T e sound came = subst (Sound W Z) (sym came.2) (event-sound W Z valid stored S e.stream.0 e.what sound came.0 came.1)

states-sound : (W : Parts) (Z : Stored) → IsValid W → OrdersStored W Z.orders → (S : State) (J : List Event) (i : ℕ) → Sound W Z S → RunFrom W Z S J → Sound W Z (state_after W S (take i J))
states-sound W Z valid stored S J zero sound run = sound
states-sound W Z valid stored S [] (suc i) sound run = sound
states-sound W Z valid stored S (e ∷ es) (suc i) sound run =
    states-sound W Z valid stored (after W S e.stream.0 e.what) es i (event-sound W Z valid stored S e.stream.0 e.what sound run.0 run.1) run.2

pub runs-are-sound : (W : Parts) (Z : Stored) → RunsAreSound W Z
runs-are-sound W Z valid stored J i run = states-sound W Z valid stored (start W) J i (start-is-sound W Z valid stored) run
