-- What an event means to its own unit and to the others, by its shape.
use Rattle.std.proofs.Common.{◌≡◌, ◌≢◌, ℕ, ◌+◌, false, [], ◌∷◌, ◌++◌, Some, None, sym, ◌∙◌, ap, ap₂, subst, inl, inr}
use Rattle.std.specs.List.{cons_option}
use Rattle.std.proofs.lemmas.Bool.{cases_eq}
use Rattle.std.proofs.lemmas.List.{append-nil}
use Rattle.abt_machine.specs.declared.events.What.{What}
use Rattle.abt_machine.specs.declared.numbers.UnitNo.{UnitNo}
use Rattle.abt_machine.specs.declared.operations.Body.{Body}
use Rattle.abt_machine.specs.declared.workload.Parts.{Parts}
use Rattle.abt_machine.specs.Workloads.{body_at, ops_of}
use Rattle.abt_machine.specs.State.{State}
use Rattle.abt_machine.specs.Fronts.{is_some_of}
use Rattle.abt_machine.specs.Lives.{life_after, unit_of, positions_in, cause_in, enters_in, leaves_in, count_up}
use Rattle.abt_laws.proofs.Options.{none≢some}
use Rattle.abt_laws.proofs.Exits.{exited_at, done-kept}
use Rattle.abt_laws.proofs.LifeTies.{IsOutside, IsBusy, IsBusy-outside, ends-busy, passage_at, passage-outside, exited-outside, Drifts, Acts, Fate, Drifting, Acting}
use Rattle.abt_laws.proofs.LifeStepShapes.{not-of}

-- an event of unit v that is an event of its life, and takes no other unit but from outside to outside
pub event-fate : (W : Parts) (w : What) (S T : State) (v : UnitNo) (u : ℕ) → unit_of w ≡ Some v.0 → ((n : ℕ) → life_after W u n w ≡ n) → Acts (body_at W v.0) v.0 w S T → (u ≢ v.0 → Drifts u S T) → Fate W u w S T
event-fate W w S T v u of same acts drifts =
    elim (cases_eq u v.0) [
      | inl own ↦ Acting (of ∙ ap (λ (n : ℕ). Some n) (sym own)) same (subst (λ n. Acts (body_at W n) n w S T) (sym own) acts)
      | inr other ↦ Drifting (ap (is_some_of u) of ∙ not-of u v other) same (drifts other)
    ]

-- neither a step, an end, an entry nor a leave
pub record IsQuiet (w : What) : Type 0 where
  pub positions : positions_in (w ∷ []) ≡ []
  pub cause : cause_in w ≡ None
  pub enters : enters_in (w ∷ []) ≡ 0
  pub leaves : leaves_in (w ∷ []) ≡ 0

-- a unit that comes from outside by such an event
pub acts-quietly : (b : Body) (u : ℕ) (w : What) (S T : State) → IsQuiet w → IsOutside (S.place u) → IsBusy (T.place u) → passage_at T.stream (T.place u) ≡ (0, 0) → exited_at T.stream (T.place u) ≡ false → (T.desk u).life ≡ (S.desk u).life → (T.carried u).position ≡ (S.carried u).position → Acts b u w S T
acts-quietly b u w S T quiet out busy passage exited life position =
    let was : passage_at S.stream (S.place u) ≡ (0, 0) = passage-outside S.stream (S.place u) out in
    record {
      busy = IsBusy-outside (S.place u) out;
      born = λ e. subst IsBusy e busy;
      life = life;
      steps = ap count_up position ∙ (sym (append-nil (count_up (S.carried u).position)) ∙ ap (λ ks. count_up (S.carried u).position ++ ks) (sym quiet.positions));
      ends = ends-busy (T.place u) busy ∙ ap (λ o. cons_option o []) (sym quiet.cause);
      passes = λ h. passage ∙ (ap₂ (λ (m n : ℕ). (0 + m, 0 + n)) (sym quiet.enters) (sym quiet.leaves) ∙ ap (λ (p : ℕ × ℕ). (p.0 + enters_in (w ∷ []), p.1 + leaves_in (w ∷ []))) (sym was));
      done = done-kept (ops_of b) (exited_at S.stream (S.place u)) (exited_at T.stream (T.place u)) (S.carried u).position (T.carried u).position (exited ∙ sym (exited-outside S.stream (S.place u) out)) position;
      cause = λ c h. absurd (none≢some (sym quiet.cause ∙ h));
    }
