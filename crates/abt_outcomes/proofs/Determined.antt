-- One stream without a free order leaves no choice.
use Rattle.std.proofs.Common.{◌≡◌, ℕ, suc, List, [], ◌∷◌, ◌++◌, refl, ap, sym, ◌∙◌, subst, append_assoc}
use Rattle.abt_machine.specs.Stored.{Stored}
use Rattle.abt_machine.specs.Sound.{Sound}
use Rattle.abt_machine.specs.declared.numbers.StreamNo.{StreamNo}
use Rattle.abt_machine.specs.declared.events.Event.{Event}
use Rattle.abt_machine.specs.declared.events.What.{What}
use Rattle.abt_machine.specs.declared.workload.Parts.{Parts}
use Rattle.abt_machine.specs.State.{State}
use Rattle.abt_machine.specs.Events.{May}
use Rattle.abt_machine.specs.Runs.{Run, RunFrom, last_state}
use Rattle.abt_machine.specs.Start.{start}
use Rattle.abt_laws.proofs.RunParts.{run-rest, run-front}
use Rattle.abt_bounds.specs.Laws.{HasNoFree}
use Rattle.abt_bounds.proofs.Choosing.{one-next}
use Rattle.abt_outcomes.proofs.Counted.{stamped-counted}
use Rattle.abt_outcomes.specs.OneStream.{CountedFrom, GoesToItsStop, IsOnlyRun, HasStopped}

tail-is : {A : Type 0} {x y : A} {xs ys : List A} → x ∷ xs ≡ y ∷ ys → xs ≡ ys
tail-is e = cc

-- Runs.

-- nothing is free, and each state of each run is sound
pub record LeavesNoChoice (W : Parts) (Z : Stored) : Type 0 where
  pub one_stream : W.streams ≡ 1
  pub no_free : HasNoFree W Z
  pub sound : (J : List Event) → Run W Z J → Sound W Z (last_state W J)

abbrev event-of : ℕ → StreamNo → What → Event
event-of t r w = record { stamp = t; stream = r; what = w }

first-is : (W : Parts) (Z : Stored) (S : State) (e f : Event) (t : ℕ) (es fs : List Event) → HasNoFree W Z → Sound W Z S → RunFrom W Z S (e ∷ es) → RunFrom W Z S (f ∷ fs) → CountedFrom t
    (e ∷ es) → CountedFrom t (f ∷ fs) → e ≡ f
first-is W Z S e f t es fs none sound run other counted also =
    let w : May W Z S 0 e.what = subst (λ r. May W Z S r e.what) (ap (λ (s : StreamNo). s.0) counted.1) run.1 in
    let v : May W Z S 0 f.what = subst (λ r. May W Z S r f.what) (ap (λ (s : StreamNo). s.0) also.1) other.1 in
    ap (λ t. event-of t e.stream e.what) (counted.0 ∙ sym also.0)
    ∙ (ap (λ r. event-of f.stamp r e.what) (counted.1 ∙ sym also.1) ∙ ap (event-of f.stamp f.stream) (one-next W Z none S 0 e.what f.what sound w v))

-- no prefix stops
abbrev NoStopBefore : Parts → ℕ → List Event → List Event → Type 0
NoStopBefore W n P es = (before rest : List Event) (e : Event) → es ≡ before ++ e ∷ rest → HasStopped W n (P ++ before) → ⊥

cons-is : {A : Type 0} (P es : List A) (e : A) → P ++ e ∷ es ≡ (P ++ e ∷ []) ++ es
cons-is P es e = sym (append_assoc P (e ∷ []) es)

-- after the first event, which both have
further : (W : Parts) (n : ℕ) (P es : List Event) (e : Event) → NoStopBefore W n P (e ∷ es) → NoStopBefore W n (P ++ e ∷ []) es
further W n P es e none before rest f is = λ stops. none (e ∷ before) rest f (ap (λ xs. e ∷ xs) is) (subst (HasStopped W n) (sym (cons-is P before e)) stops)

-- the first events of two runs that go on from the same events are one
same-first : (W : Parts) (Z : Stored) (t : ℕ) (P es fs : List Event) (e f : Event) → LeavesNoChoice W Z → Run W Z (P ++ e ∷ es) → Run W Z (P ++ f ∷ fs) → CountedFrom t (e ∷ es) → CountedFrom t
    (f ∷ fs) → e ≡ f
same-first W Z t P es fs e f none run other counted also =
    first-is W Z (last_state W P) e f t es fs none.no_free (none.sound P (run-front W Z (start W) P (e ∷ es) run)) (run-rest W Z (start W) P (e ∷ es) run) (run-rest W Z (start W) P (f ∷ fs) other) counted also

-- two runs that go on from the same events to their stops are one
one-run : (W : Parts) (Z : Stored) (n t : ℕ) (P es fs : List Event) → LeavesNoChoice W Z → Run W Z (P ++ es) → Run W Z (P ++ fs) → CountedFrom t es → CountedFrom t fs →
    HasStopped W n (P ++ es) → HasStopped W n (P ++ fs) → NoStopBefore W n P es → NoStopBefore W n P fs → es ≡ fs
one-run W Z n t P [] [] choice run other counted also stops stop none nor = refl
one-run W Z n t P [] (f ∷ fs) choice run other counted also stops stop none nor = absurd (nor [] fs f refl stops)
one-run W Z n t P (e ∷ es) [] choice run other counted also stops stop none nor = absurd (none [] es e refl stop)
one-run W Z n t P (e ∷ es) (f ∷ fs) choice run other counted also stops stop none nor =
    let same : e ≡ f = same-first W Z t P es fs e f choice run other counted also in
    let rest : es ≡ fs =
    one-run W Z n (suc t) (P ++ e ∷ []) es fs choice
    (subst (Run W Z) (cons-is P es e) run)
    (subst (λ x. Run W Z ((P ++ x ∷ []) ++ fs)) (sym same) (subst (Run W Z) (cons-is P fs f) other))
    counted.2 also.2
    (subst (HasStopped W n) (cons-is P es e) stops)
    (subst (λ x. HasStopped W n ((P ++ x ∷ []) ++ fs)) (sym same) (subst (HasStopped W n) (cons-is P fs f) stop))
    (further W n P es e none)
    (subst (λ x. NoStopBefore W n (P ++ x ∷ []) fs) (sym same) (further W n P fs f nor))
    in ap (λ x. x ∷ es) same ∙ ap (λ xs. f ∷ xs) rest

-- so a journal that is a stamped run and goes to its stop is the only such one
pub only-run : (W : Parts) (Z : Stored) (n : ℕ) (J : List Event) → LeavesNoChoice W Z → Run W Z J → CountedFrom 1 J → GoesToItsStop W n J → IsOnlyRun W Z n J
only-run W Z n J choice run counted goes K other stamped also =
    let count : CountedFrom 1 K = stamped-counted W Z (start W) K choice.one_stream other stamped in
    one-run W Z n 1 [] K J choice other run count counted also.stops goes.stops also.not_before goes.not_before
