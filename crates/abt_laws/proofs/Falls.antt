-- Every event lowers the measure of a run.
use Rattle.std.proofs.Common.{ℕ, ◌<◌, [], ◌∷◌, sym, subst}
use Rattle.abt_machine.specs.declared.events.What.{What}
use Rattle.abt_machine.specs.declared.events.What.TheVariants as what
use Rattle.abt_machine.specs.Stored.{Stored}
use Rattle.abt_machine.specs.declared.workload.Parts.{Parts}
use Rattle.abt_machine.specs.State.{State}
use Rattle.abt_machine.specs.Start.{start}
use Rattle.abt_machine.specs.Events.{May, after}
use Rattle.abt_machine.specs.Runs.{RunFrom, last_state}
use Rattle.abt_machine.specs.Sound.{Sound}
use Rattle.abt_laws.specs.Laws.{EventsFall, RunsAreSound}
use Rattle.abt_laws.specs.Measure.{FallsBy}
use Rattle.abt_laws.proofs.Misses.{miss-ends-stacked, miss-keeps-frames, miss-keeps-weight}
use Rattle.abt_laws.proofs.RunParts.{last_state-sound, run-front, run-rest, state_after-append}
use Rattle.abt_laws.proofs.StepsLeft.{steps_left-falls, steps_left-same}
use Rattle.abt_laws.proofs.WeightFalls.{end-falls, enter-falls, leave-falls, look-falls, put-falls, take-falls}

-- what an event lowers in a sound state
event-falls : (W : Parts) (Z : Stored) (S : State) (s : ℕ) (w : What) → s < W.streams → Sound W Z S → May W Z S s w → FallsBy W s w S (after W S s w)
event-falls W Z S s (what.Miss p) declared sound may = (miss-keeps-weight W S s p, miss-ends-stacked W S s p declared may.0, miss-keeps-frames W S s p may.0)
event-falls W Z S s (what.Step u k c) declared sound may = tt
event-falls W Z S s (what.Call u k n) declared sound may = tt
event-falls W Z S s (what.Take p u) declared sound may = take-falls W S s p u may.1
event-falls W Z S s (what.Look u) declared sound may = look-falls W Z S s u sound may.1
event-falls W Z S s (what.Put u p) declared sound may = put-falls W S s u p may.1
event-falls W Z S s (what.End u c) declared sound may = end-falls W S s u c may.1
event-falls W Z S s (what.Enter u) declared sound may = enter-falls W S s u may.0 may.1
event-falls W Z S s (what.Leave u) declared sound may = leave-falls W Z S s u sound may.0 may.1

pub events-fall : (W : Parts) (Z : Stored) → RunsAreSound W Z → EventsFall W Z
events-fall W Z runs valid stored n J e run =
    let known : Sound W Z (last_state W J) = last_state-sound W Z J runs valid stored (run-front W Z (start W) J (e ∷ []) run) in
    let last : RunFrom W Z (last_state W J) (e ∷ []) = run-rest W Z (start W) J (e ∷ []) run in
    let falls : FallsBy W e.stream.0 e.what (last_state W J) (after W (last_state W J) e.stream.0 e.what) = event-falls W Z (last_state W J) e.stream.0 e.what last.0 known last.1 in
    (steps_left-falls W n J e last.0, steps_left-same W n J e, subst (FallsBy W e.stream.0 e.what (last_state W J)) (sym (state_after-append W (start W) J (e ∷ []))) falls)
