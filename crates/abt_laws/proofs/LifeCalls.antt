-- What a call of a user's function means to units.
use Rattle.std.proofs.Common.{◌≡◌, ℕ, ◌<◌, false, List, length, take, Option, Some, None, refl, sym, ◌∙◌, ap, subst, inl}
use Rattle.abt_machine.specs.declared.events.Place.TheVariants as place
use Rattle.abt_machine.specs.declared.events.What.TheVariants as what
use Rattle.abt_machine.specs.declared.numbers.UnitNo.{UnitNo}
use Rattle.abt_machine.specs.declared.operations.Op.{Op}
use Rattle.abt_machine.specs.declared.operations.Op.TheVariants as op
use Rattle.abt_machine.specs.Stored.{Stored, Returns}
use Rattle.abt_machine.specs.declared.workload.Parts.{Parts}
use Rattle.abt_machine.specs.Numbers.{stream_no}
use Rattle.abt_machine.specs.Workloads.{body_at, op_at, ops_of, is_sched}
use Rattle.abt_machine.specs.State.{State, Carried}
use Rattle.abt_machine.specs.Carrying.{advanced, with_acc}
use Rattle.abt_machine.specs.Sound.{Sound}
use Rattle.abt_machine.specs.Next.{StepDue}
use Rattle.abt_machine.specs.Events.{May, after}
use Rattle.abt_machine.specs.Lives.{NoExit}
use Rattle.abt_laws.proofs.Dues.{due-unit, step-due, step-mark}
use Rattle.abt_laws.proofs.Exits.{exited_at, HasDone, no-exit-push, take-next}
use Rattle.abt_laws.proofs.Maps.{put_at-same, put_at-other}
use Rattle.abt_laws.proofs.Standing.{hand-place}
use Rattle.abt_laws.proofs.LifeTies.{IsBusy, Fate}
use Rattle.abt_laws.proofs.LifeActs.{event-fate}
use Rattle.abt_laws.proofs.LifeStepShapes.{DoesNext, acts-by_call}

module _ (W : Parts) (Z : Stored) (S : State) (sound : Sound W Z S) (s u : ℕ) where
  module _ (v : UnitNo) (k n : ℕ) (may : May W Z S s (what.Call v k n)) where
    calls-from : S.place v.0 ≡ place.Hand (stream_no s)
    calls-from = hand-place W S s v.0 may.1

    busy : IsBusy (S.place v.0)
    busy = subst IsBusy (sym calls-from) tt

    -- v has not ended itself
    not-exited : exited_at S.stream (S.place v.0) ≡ false
    not-exited = ap (exited_at S.stream) calls-from ∙ step-mark W s (S.stream s).mark (body_at W v.0) (S.carried v.0).position (due-unit W S s StepDue v.0 may.0 tt may.1)

    has-step : (is_sched (body_at W v.0) ≡ false) × ((S.carried v.0).position < length (ops_of (body_at W v.0)))
    has-step = step-due W s (S.stream s).mark (body_at W v.0) (S.carried v.0).position (due-unit W S s StepDue v.0 may.0 tt may.1)

    -- v does an operation more, which is no `exit`
    does-call : (o : Option Op) → op_at W v.0 k ≡ o → Returns Z o v.0 (S.carried v.0) n → DoesNext (body_at W v.0) v.0 k S false
    does-call (Some (op.Call f)) is h done =
        let ops : List Op = ops_of (body_at W v.0) in
        subst NoExit (sym (take-next ops k (op.Call f) is)) (no-exit-push (take k ops) (op.Call f) (subst (λ exited. HasDone exited (take k ops)) not-exited done) (λ e. cc))
    does-call None is h done = absurd h
    does-call (Some o) is h done = absurd h

    pub call-fate : Fate W u (what.Call v k n) S (after W S s (what.Call v k n))
    call-fate =
        let T : State = after W S s (what.Call v k n) in
        let next : Carried = advanced (with_acc n (S.carried v.0)) in
        event-fate W (what.Call v k n) S T v u refl (λ m. refl)
        (acts-by_call (body_at W v.0) v k n S T false has-step.0 may.2 busy busy refl (ap (λ (c : Carried). c.position) (put_at-same S.carried v.0 next)) not-exited
        (does-call (op_at W v.0 k) refl may.3))
        (λ other. record { life = refl; position = ap (λ (c : Carried). c.position) (put_at-other S.carried v.0 next u other); moves = inl refl; marks = λ r at. refl })
