-- When an event may come does not depend on the numbers of rounds, if the order of pools doesn't.
use Rattle.std.proofs.Common.{◌≡◌, ℕ, ◌-◌, List, length, map, ap, sym, ◌∙◌, subst, option_map}
use Rattle.std.proofs.lemmas.List.{length-map}
use Rattle.abt_machine.specs.declared.events.Place.TheVariants as place
use Rattle.abt_machine.specs.declared.events.What.{What}
use Rattle.abt_machine.specs.declared.events.What.TheVariants as what
use Rattle.abt_machine.specs.declared.operations.OrderShape.{OrderShape}
use Rattle.abt_machine.specs.Stored.{Stored}
use Rattle.abt_machine.specs.declared.workload.Parts.{Parts}
use Rattle.abt_machine.specs.Events.{May}
use Rattle.abt_machine.specs.Lines.{InTray, hand, next, standing}
use Rattle.abt_machine.specs.Next.{at_position, due}
use Rattle.abt_machine.specs.Numbers.{stream_no}
use Rattle.abt_machine.specs.Rounds.{IsChosen, IsNextPool, IsOrder}
use Rattle.abt_machine.specs.State.{Frame, State}
use Rattle.abt_machine.specs.Workloads.{op_at, pools_of}
use Rattle.abt_model.specs.Choices.{CallsAny}
use Rattle.abt_explore.specs.Orders.{KeepsOrder}
use Rattle.abt_replay.specs.Unnumbered.{unnumbered_frame}
use Rattle.abt_explore.specs.Unnumbered.{unnumbered_state}
use Rattle.abt_explore.proofs.Forgotten.{due-forgotten}
use Rattle.abt_explore.proofs.SameChanges.{code-same}

-- Rounds.

module _ (W : Parts) (orders : List OrderShape) (keeps : KeepsOrder W orders) (f : Frame) where
  pub order-forgotten : (order : List ℕ) → IsOrder W orders f.sched f.round order → IsOrder W orders f.sched 0 order
  order-forgotten order is = subst (λ c. IsChosen c (pools_of W f.sched) order) (keeps f.sched f.round) is

  order-numbered : (order : List ℕ) → IsOrder W orders f.sched 0 order → IsOrder W orders f.sched f.round order
  order-numbered order is = subst (λ c. IsChosen c (pools_of W f.sched) order) (sym (keeps f.sched f.round)) is

  next-forgotten : (p : ℕ) → IsNextPool W orders f p → IsNextPool W orders (unnumbered_frame f) p
  next-forgotten p is = (is.0, order-forgotten is.0 is.1, is.2)

  next-numbered : (p : ℕ) → IsNextPool W orders (unnumbered_frame f) p → IsNextPool W orders f p
  next-numbered p is = (is.0, order-numbered is.0 is.1, is.2)

-- Events.

module _ (W : Parts) (Z : Stored) (keeps : KeepsOrder W Z.orders) (S : State) (s : ℕ) where
  due-same : due W (unnumbered_state S) s ≡ due W S s
  due-same = due-forgotten W s (S.stream s) (standing W S (InTray s)) (next W S s) (option_map (at_position S) (hand W S s))

  frame-same : (u : ℕ) → S.place u ≡ place.Frame (stream_no s) (length (S.stream s).below - 1) → S.place u ≡ place.Frame (stream_no s) (length (map unnumbered_frame (S.stream s).below) - 1)
  frame-same u at = at ∙ ap (λ n. place.Frame (stream_no s) (n - 1)) (sym (length-map (S.stream s).below unnumbered_frame))

  frame-back : (u : ℕ) → S.place u ≡ place.Frame (stream_no s) (length (map unnumbered_frame (S.stream s).below) - 1) → S.place u ≡ place.Frame (stream_no s) (length (S.stream s).below - 1)
  frame-back u at = at ∙ ap (λ n. place.Frame (stream_no s) (n - 1)) (length-map (S.stream s).below unnumbered_frame)

  -- a call of a function that may return any word is due with numbers too
  pub call-numbered : (f : ℕ) → CallsAny W Z (unnumbered_state S) s f → CallsAny W Z S s f
  call-numbered f calls = record { unit = calls.unit; step = sym due-same ∙ calls.step; here = calls.here; call = calls.call; any = calls.any }

  -- an event that may come may come without numbers
  pub may-forgotten : (w : What) → May W Z S s w → May W Z (unnumbered_state S) s w
  may-forgotten (what.Miss p) may = (due-same ∙ may.0, may.1, next-forgotten W Z.orders keeps (S.stream s).top p.0 may.2)
  may-forgotten (what.Take p u) may = (due-same ∙ may.0, may.1, next-forgotten W Z.orders keeps (S.stream s).top p.0 may.2)
  may-forgotten (what.Look u) may = (due-same ∙ may.0, may.1)
  may-forgotten (what.Step u k c) may = (due-same ∙ may.0, may.1, may.2, may.3 ∙ sym (code-same W S s u.0 (op_at W u.0 k)), may.4)
  may-forgotten (what.Call u k n) may = (due-same ∙ may.0, may.1, may.2, may.3)
  may-forgotten (what.Put u p) may = (due-same ∙ may.0, may.1, may.2)
  may-forgotten (what.End u c) may = (due-same ∙ may.0, may.1)
  may-forgotten (what.Enter u) may = (due-same ∙ may.0, may.1)
  may-forgotten (what.Leave u) may = (due-same ∙ may.0, frame-same u.0 may.1)

  -- and one that may come without numbers may come with them
  pub may-numbered : (w : What) → May W Z (unnumbered_state S) s w → May W Z S s w
  may-numbered (what.Miss p) may = (sym due-same ∙ may.0, may.1, next-numbered W Z.orders keeps (S.stream s).top p.0 may.2)
  may-numbered (what.Take p u) may = (sym due-same ∙ may.0, may.1, next-numbered W Z.orders keeps (S.stream s).top p.0 may.2)
  may-numbered (what.Look u) may = (sym due-same ∙ may.0, may.1)
  may-numbered (what.Step u k c) may = (sym due-same ∙ may.0, may.1, may.2, may.3 ∙ code-same W S s u.0 (op_at W u.0 k), may.4)
  may-numbered (what.Call u k n) may = (sym due-same ∙ may.0, may.1, may.2, may.3)
  may-numbered (what.Put u p) may = (sym due-same ∙ may.0, may.1, may.2)
  may-numbered (what.End u c) may = (sym due-same ∙ may.0, may.1)
  may-numbered (what.Enter u) may = (sym due-same ∙ may.0, may.1)
  may-numbered (what.Leave u) may = (sym due-same ∙ may.0, frame-back u.0 may.1)
