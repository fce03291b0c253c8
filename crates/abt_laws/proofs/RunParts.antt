-- A run up to one of its events, and from there on.
use Rattle.std.proofs.Common.{◌≡◌, ◌<◌, List, [], ◌∷◌, ◌++◌, length, refl, subst}
use Rattle.std.proofs.Math.Seq.{take-length}
use Rattle.abt_machine.specs.declared.events.Event.{Event}
use Rattle.abt_machine.specs.Stored.{Stored}
use Rattle.abt_machine.specs.declared.workload.Parts.{Parts}
use Rattle.abt_machine.specs.Valid.{IsValid}
use Rattle.abt_machine.specs.Rounds.{OrdersStored}
use Rattle.abt_machine.specs.State.{State}
use Rattle.abt_machine.specs.Start.{start}
use Rattle.abt_machine.specs.Events.{May, after}
use Rattle.abt_machine.specs.Runs.{Run, RunFrom, last_state, state_after}
use Rattle.abt_machine.specs.Sound.{Sound}
use Rattle.abt_laws.specs.Laws.{RunsAreSound}

pub state_after-append : (W : Parts) (S : State) (es fs : List Event) → state_after W S (es ++ fs) ≡ state_after W (state_after W S es) fs
state_after-append W S [] fs = refl
state_after-append W S (e ∷ es) fs = state_after-append W (after W S e.stream.0 e.what) es fs

pub run-front : (W : Parts) (Z : Stored) (S : State) (es fs : List Event) → RunFrom W Z S (es ++ fs) → RunFrom W Z S es
run-front W Z S [] fs run = tt
run-front W Z S (e ∷ es) fs run = (run.0, run.1, run-front W Z (after W S e.stream.0 e.what) es fs run.2)

pub run-rest : (W : Parts) (Z : Stored) (S : State) (es fs : List Event) → RunFrom W Z S (es ++ fs) → RunFrom W Z (state_after W S es) fs
run-rest W Z S [] fs run = run
run-rest W Z S (e ∷ es) fs run = run-rest W Z (after W S e.stream.0 e.what) es fs run.2

-- a run that goes on from its last state
pub run-join : (W : Parts) (Z : Stored) (S : State) (es fs : List Event) → RunFrom W Z S es → RunFrom W Z (state_after W S es) fs → RunFrom W Z S (es ++ fs)
run-join W Z S [] fs run more = more
run-join W Z S (e ∷ es) fs run more = (run.0, run.1, run-join W Z (after W S e.stream.0 e.what) es fs run.2 more)

-- a run with one event more
pub run-push : (W : Parts) (Z : Stored) (S : State) (J : List Event) (e : Event) → RunFrom W Z S J → e.stream.0 < W.streams → May W Z (state_after W S J) e.stream.0 e.what → RunFrom W Z S
    (J ++ e ∷ [])
run-push W Z S J e run declared may = run-join W Z S J (e ∷ []) run (declared, may, tt)

pub last_state-sound : (W : Parts) (Z : Stored) (J : List Event) → RunsAreSound W Z → IsValid W → OrdersStored W Z.orders → Run W Z J → Sound W Z (last_state W J)
last_state-sound W Z J sound valid stored run = subst (λ K. Sound W Z (state_after W (start W) K)) (take-length J) (sound valid stored J (length J) run)
