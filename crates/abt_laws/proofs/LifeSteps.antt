-- What a step means to units.
use Rattle.std.proofs.Common.{◌≡◌, ◌≢◌, ℕ, suc, ◌<◌, ◌≤◌, if◌then◌else◌, true, false, List, length, take, Option, Some, None, refl, sym, ◌∙◌, ap, subst, arith, inl, inr}
use Rattle.std.proofs.lemmas.Option.{slice_get_cases}
use Rattle.abt_machine.specs.declared.events.Code.{Code}
use Rattle.abt_machine.specs.declared.events.Code.TheVariants as code
use Rattle.abt_machine.specs.declared.events.Place.TheVariants as place
use Rattle.abt_machine.specs.declared.events.What.TheVariants as what
use Rattle.abt_machine.specs.declared.numbers.UnitNo.{UnitNo}
use Rattle.abt_machine.specs.declared.operations.Op.{Op}
use Rattle.abt_machine.specs.declared.operations.Op.TheVariants as op
use Rattle.abt_machine.specs.Stored.{Stored}
use Rattle.abt_machine.specs.declared.workload.Parts.{Parts}
use Rattle.abt_machine.specs.Numbers.{stream_no}
use Rattle.abt_machine.specs.Workloads.{body_at, op_at, ops_of, is_sched}
use Rattle.abt_machine.specs.State.{State, Stream, Carried, Exited}
use Rattle.abt_machine.specs.Carrying.{advanced}
use Rattle.abt_machine.specs.Frames.{marked}
use Rattle.abt_machine.specs.Lines.{InHand, ticket_in}
use Rattle.abt_machine.specs.Sound.{Sound}
use Rattle.abt_machine.specs.Next.{StepDue}
use Rattle.abt_machine.specs.Codes.{code_of, code_at}
use Rattle.abt_machine.specs.Changes.{changed}
use Rattle.abt_machine.specs.Steps.{step_row, op_row}
use Rattle.abt_machine.specs.Events.{May, after}
use Rattle.abt_machine.specs.Lives.{NoExit, is_birth}
use Rattle.abt_laws.proofs.Dues.{due-unit, step-due, step-mark}
use Rattle.abt_laws.proofs.Exits.{is_exited, exited_at, HasDone, no-exit-push, take-next}
use Rattle.abt_laws.proofs.Maps.{put_at-same, put_at-other}
use Rattle.abt_laws.proofs.Marks.{marks-elsewhere}
use Rattle.abt_laws.proofs.Places.{same-self}
use Rattle.abt_laws.proofs.Standing.{hand-place}
use Rattle.abt_laws.proofs.Options.{none≢some}
use Rattle.abt_laws.proofs.LifeTies.{IsOutside, IsBusy, Fate}
use Rattle.abt_laws.proofs.LifeActs.{event-fate}
use Rattle.abt_laws.proofs.LifeStepShapes.{DoesNext, acts-by_step, step-fate, birth-fate}
use Rattle.abt_laws.proofs.LifeRows.{Goes, goes, row-refused}

module _ (W : Parts) (Z : Stored) (S : State) (sound : Sound W Z S) (s u : ℕ) where
  module _ (v : UnitNo) (k : ℕ) (c : Code) (may : May W Z S s (what.Step v k c)) where
    steps-from : S.place v.0 ≡ place.Hand (stream_no s)
    steps-from = hand-place W S s v.0 may.1

    not-outside : IsOutside (S.place v.0) → ⊥
    not-outside out = subst IsOutside steps-from out

    held-busy : IsBusy (S.place v.0)
    held-busy = subst IsBusy (sym steps-from) tt

    -- v has not ended itself, and there is no other unit in the hand
    not-exited : exited_at S.stream (S.place v.0) ≡ false
    not-exited = ap (exited_at S.stream) steps-from ∙ step-mark W s (S.stream s).mark (body_at W v.0) (S.carried v.0).position (due-unit W S s StepDue v.0 may.0 tt may.1)

    held-alone : u ≢ v.0 → S.place u ≡ place.Hand (stream_no s) → ⊥
    held-alone other at = other (sound.one_each (InHand s) u v.0 0 (ap (ticket_in (InHand s)) at ∙ same-self s 0) (ap (ticket_in (InHand s)) steps-from ∙ same-self s 0))

    has-step : (is_sched (body_at W v.0) ≡ false) × ((S.carried v.0).position < length (ops_of (body_at W v.0)))
    has-step = step-due W s (S.stream s).mark (body_at W v.0) (S.carried v.0).position (due-unit W S s StepDue v.0 may.0 tt may.1)

    abbrev life-by : ℕ → Option Op → ℕ
    life-by n o = if is_birth u o then suc n else n

    -- v does an operation more, which is no `exit`
    does-other : (o : Op) → op_at W v.0 k ≡ Some o → (o ≡ op.Exit → ⊥) → DoesNext (body_at W v.0) v.0 k S false
    does-other o is other done =
        let ops : List Op = ops_of (body_at W v.0) in
        subst NoExit (sym (take-next ops k o is)) (no-exit-push (take k ops) o (subst (λ exited. HasDone exited (take k ops)) not-exited done) other)

    does-exit : op_at W v.0 k ≡ Some op.Exit → DoesNext (body_at W v.0) v.0 k S true
    does-exit is done =
        let ops : List Op = ops_of (body_at W v.0) in
        (take k ops, take-next ops k op.Exit is, subst (λ exited. HasDone exited (take k ops)) not-exited done)

    -- v ends itself
    exit-fate : op_at W v.0 k ≡ Some op.Exit → Fate W u (what.Step v k code.Ok) S (changed S (op_row W S s v.0 op.Exit))
    exit-fate is =
        let own : Stream = marked Exited (S.stream s) in
        let T : State = changed S (op_row W S s v.0 op.Exit) in
        let mark : exited_at T.stream (T.place v.0) ≡ true = ap (exited_at T.stream) steps-from ∙ ap (λ (new : Stream). is_exited new.mark) (put_at-same S.stream s own) in
        event-fate W (what.Step v k code.Ok) S T v u refl (λ n. ap (life-by n) is)
        (acts-by_step (body_at W v.0) v k code.Ok S T true has-step.0 may.2 held-busy held-busy refl (ap (λ (c : Carried). c.position) (put_at-same S.carried v.0 (advanced (S.carried v.0)))) mark (does-exit is))
        (λ other. record { life = refl; position = ap (λ (c : Carried). c.position) (put_at-other S.carried v.0 (advanced (S.carried v.0)) u other); moves = inl refl; marks = marks-elsewhere S s u own (held-alone other) })

    row-fate : (o : Op) → op_at W v.0 k ≡ Some o → Goes W S s v.0 o → Fate W u (what.Step v k code.Ok) S (changed S (op_row W S s v.0 o))
    row-fate op.Exit is h = exit-fate is
    row-fate (op.Create w p) is over = birth-fate W S s v w p.0 k code.Ok has-step.0 may.2 held-busy not-exited (does-other (op.Create w p) is (λ e. cc)) over u (λ n. ap (life-by n) is)
    row-fate (op.Revive w p) is over = birth-fate W S s v w p.0 k code.Ok has-step.0 may.2 held-busy not-exited (does-other (op.Revive w p) is (λ e. cc)) over u (λ n. ap (life-by n) is)
    row-fate o is step = step-fate W S v k code.Ok u (op_row W S s v.0 o) has-step.0 may.2 held-busy not-exited (does-other o is (λ e. cc)) (λ n. ap (life-by n) is) step

    -- an operation that is refused is no `exit`
    refused-other : (d : Code) (o : Op) → d ≡ code_of W S s v.0 o → (d ≡ code.Ok → ⊥) → o ≡ op.Exit → ⊥
    refused-other d o h refused e = refused (h ∙ ap (code_of W S s v.0) e)

    code-fate : (d : Code) (o : Op) → op_at W v.0 k ≡ Some o → d ≡ code_of W S s v.0 o → Fate W u (what.Step v k d) S (changed S (step_row W S s v.0 (Some o) d))
    code-fate code.Ok o is h = row-fate o is (goes W S s v.0 not-outside o (sym h))
    code-fate d o is h = step-fate W S v k d u (step_row W S s v.0 (Some o) d) has-step.0 may.2 held-busy not-exited (does-other o is (refused-other d o h (λ e. cc))) (λ n. refl) (row-refused S v.0 d)

    no-op : op_at W v.0 k ≡ None → ⊥
    no-op none =
        let at : (S.carried v.0).position ≡ k = may.2 in
        let more : (S.carried v.0).position < length (ops_of (body_at W v.0)) = has-step.1 in
        elim (slice_get_cases (ops_of (body_at W v.0)) k).1 [ inl is ↦ none≢some (sym none ∙ is.2) | inr past ↦ (let short : length (ops_of (body_at W v.0)) ≤ k = past.0 in absurd (omega arith)) ]

    pub stepped-fate : Fate W u (what.Step v k c) S (after W S s (what.Step v k c))
    stepped-fate = by (op_at W v.0 k) refl where
      by : (o : Option Op) → op_at W v.0 k ≡ o → Fate W u (what.Step v k c) S (changed S (step_row W S s v.0 o c))
      by None is = absurd (no-op is)
      by (Some o) is = code-fate c o is (may.3 ∙ ap (code_at W S s v.0) is)
