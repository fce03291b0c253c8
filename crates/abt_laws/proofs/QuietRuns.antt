-- Runs that go on from a state in which nothing is left to do.
use Rattle.std.proofs.Common.{List, [], ◌∷◌, refl, sym, subst}
use Rattle.abt_machine.specs.declared.events.Event.{Event}
use Rattle.abt_machine.specs.Stored.{Stored}
use Rattle.abt_machine.specs.declared.workload.Parts.{Parts}
use Rattle.abt_machine.specs.Valid.{IsValid}
use Rattle.abt_machine.specs.Rounds.{OrdersStored}
use Rattle.abt_machine.specs.State.{State}
use Rattle.abt_machine.specs.Start.{start}
use Rattle.abt_machine.specs.Events.{after}
use Rattle.abt_machine.specs.Runs.{RunFrom, last_state, state_after}
use Rattle.abt_machine.specs.Sound.{Sound}
use Rattle.abt_machine.specs.Outcomes.{Quiet}
use Rattle.abt_laws.specs.Laws.{AllMisses, EventsKeepSound, QuietRunsMiss, RunsAreSound}
use Rattle.abt_laws.proofs.Quiet.{quiet-stays}
use Rattle.abt_laws.proofs.RunParts.{last_state-sound, run-front, run-rest, state_after-append}

quiet-goes-on : (W : Parts) (Z : Stored) (S : State) (K : List Event) → EventsKeepSound W Z → IsValid W → OrdersStored W Z.orders → Sound W Z S → Quiet W S → RunFrom W Z S K → AllMisses K ×
    Quiet W (state_after W S K)
quiet-goes-on W Z S [] keep valid stored sound quiet run = (tt, quiet)
quiet-goes-on W Z S (e ∷ es) keep valid stored sound quiet run =
    let T : State = after W S e.stream.0 e.what in
    let now = quiet-stays W Z S T e sound quiet (run.0, run.1, refl) in
    let rest : AllMisses es × Quiet W (state_after W T es) = quiet-goes-on W Z T es keep valid stored (keep valid stored S T e sound (run.0, run.1, refl)) now.1 run.2 in
    ((now.0, rest.0), rest.1)

pub quiet-runs-miss : (W : Parts) (Z : Stored) → EventsKeepSound W Z → RunsAreSound W Z → QuietRunsMiss W Z
quiet-runs-miss W Z keep sound valid stored J K run quiet =
    let known : Sound W Z (last_state W J) = last_state-sound W Z J sound valid stored (run-front W Z (start W) J K run) in
    let rest : AllMisses K × Quiet W (state_after W (last_state W J) K) = quiet-goes-on W Z (last_state W J) K keep valid stored known quiet (run-rest W Z (start W) J K run) in
    (rest.0, subst (Quiet W) (sym (state_after-append W (start W) J K)) rest.1)
