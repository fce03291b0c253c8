-- In a sound state each declared stream has an event that may come.
use Rattle.std.proofs.Common.{◌≡◌, ℕ, suc, ◌<◌, ◌-◌, Bool, true, false, List, [], ◌∷◌, length, Option, Some, None, option_map, refl, ap, sym, subst, ◌%◌, ◌^◌, ◌∙◌, append_assoc, arith}
use Rattle.abt_machine.specs.declared.events.Place.TheVariants as place
use Rattle.abt_machine.specs.declared.events.What.{What}
use Rattle.abt_machine.specs.declared.events.What.TheVariants as what
use Rattle.abt_machine.specs.declared.operations.Op.{Op}
use Rattle.abt_machine.specs.declared.operations.Op.TheVariants as op
use Rattle.abt_machine.specs.Stored.{Stored, IsNoCall, IsReturned, Returns}
use Rattle.abt_machine.specs.declared.workload.Parts.{Parts}
use Rattle.abt_machine.specs.Numbers.{stream_no, pool_no, unit_no}
use Rattle.abt_machine.specs.Workloads.{body_at, op_at}
use Rattle.abt_machine.specs.Queues.{first}
use Rattle.abt_machine.specs.State.{State, Carried, Stream, Frame}
use Rattle.abt_machine.specs.Lines.{standing, hand, next, InTray}
use Rattle.abt_machine.specs.Next.{Due, due, due_by, due_of_frames, at_position, PutDue, LookDue, EndDue, EnterDue, StepDue, LeaveDue, RoundDue}
use Rattle.abt_machine.specs.Fronts.{front}
use Rattle.abt_machine.specs.Rounds.{IsNextPool}
use Rattle.abt_machine.specs.Codes.{code_at}
use Rattle.abt_machine.specs.Events.{May, after}
use Rattle.abt_machine.specs.Sound.{Sound, IsUnderWay}
use Rattle.abt_laws.proofs.Dues.{due_of_unit-cases, leave-below}
use Rattle.abt_bounds.specs.Laws.{SomeAfter, SomeNext}

-- What is due finds its unit.

-- the unit that what is due speaks of: the first of the tray, the one in Next, or the one in hand
abbrev Finds : Option ℕ → Option ℕ → Option ℕ → Due → Type 0
Finds tray taken held PutDue = (u : ℕ) × (tray ≡ Some u)
Finds tray taken held LookDue = (u : ℕ) × (taken ≡ Some u)
Finds tray taken held (EndDue c) = (u : ℕ) × (held ≡ Some u)
Finds tray taken held EnterDue = (u : ℕ) × (held ≡ Some u)
Finds tray taken held StepDue = (u : ℕ) × (held ≡ Some u)
Finds tray taken held LeaveDue = Unit {0}
Finds tray taken held RoundDue = Unit {0}

finds-frames : (empty : Bool) (fs : List Frame) → Finds None None None (due_of_frames empty fs)
finds-frames true (f ∷ fs) = tt
finds-frames true [] = tt
finds-frames false fs = tt

finds : (W : Parts) (s : ℕ) (own : Stream) (us : List ℕ) (taken held : Option ℕ) (at : ℕ → ℕ × ℕ) → Finds (first us) taken held (due_by W s own us taken (option_map at held))
finds W s own (u ∷ us) taken held at = (u, refl)
finds W s own [] (Some v) held at = (v, refl)
finds W s own [] None (Some u) at =
    due_of_unit-cases W s (at u).1 (λ m b d. Finds None None (Some u) d) (λ b. (u, refl)) (λ b. (u, refl)) (λ g. (u, refl)) (λ g. (u, refl)) (λ g. (u, refl)) (λ m b program more. (u, refl)) (λ m b program over. (u, refl))
    own.mark (body_at W (at u).0)
finds W s own [] None None at = finds-frames own.top.empty own.below

-- The event.

-- a stacked frame holds a unit
leaves : (W : Parts) (Z : Stored) (S : State) (s : ℕ) → Sound W Z S → due W S s ≡ LeaveDue → (u : ℕ) × (S.place u ≡ place.Frame (stream_no s) (length (S.stream s).below - 1))
leaves W Z S s sound e =
    let is : (f : Frame) × (rest : List Frame) × ((S.stream s).below ≡ f ∷ rest) = leave-below W S s e in
    let long : length (S.stream s).below ≡ suc (length is.1) = ap (λ (fs : List Frame). length fs) is.2 in
    sound.frames_hold s (length (S.stream s).below - 1) (omega arith)

-- a round under way has a next pool
next-pool : (W : Parts) (Z : Stored) (f : Frame) → IsUnderWay W Z.orders f → (p : ℕ) × IsNextPool W Z.orders f p
next-pool W Z f way = (way.2, (way.0, way.1, (way.3, append_assoc f.seen (way.2 ∷ []) way.3 ∙ way.4)))

visits : (W : Parts) (Z : Stored) (S : State) (s p : ℕ) (o : Option ℕ) → due W S s ≡ RoundDue → front W S s p ≡ o → IsNextPool W Z.orders (S.stream s).top p → (w : What) × May W Z S s w
visits W Z S s p None e is next = (what.Miss (pool_no p), (e, is, next))
visits W Z S s p (Some u) e is next = (what.Take (pool_no p) (unit_no u), (e, is, next))

-- a word that a function may return
some-word : (o : Option ℕ) → (n : ℕ) × IsReturned o n
some-word None = (0, omega arith)
some-word (Some m) = (m % 2 ^ 64, refl)

-- the step of the unit in hand, by its operation
steps : (W : Parts) (Z : Stored) (S : State) (s u : ℕ) (o : Option Op) → due W S s ≡ StepDue → hand W S s ≡ Some u → op_at W u (S.carried u).position ≡ o → (w : What) × May W Z S s w
steps W Z S s u (Some (op.Call f)) e held is =
    let c : Carried = S.carried u in
    let word : (n : ℕ) × IsReturned (Z.returns f u c.acc c.keys) n = some-word (Z.returns f u c.acc c.keys) in
    (what.Call (unit_no u) c.position word.0, (e, held, refl, subst (λ p. Returns Z p u c word.0) (sym is) word.1))
steps W Z S s u None e held is = (what.Step (unit_no u) (S.carried u).position (code_at W S s u (op_at W u (S.carried u).position)), (e, held, refl, refl, subst IsNoCall (sym is) tt))
steps W Z S s u (Some o) e held is = (what.Step (unit_no u) (S.carried u).position (code_at W S s u (op_at W u (S.carried u).position)), (e, held, refl, refl, subst IsNoCall (sym is) tt))

comes : (W : Parts) (Z : Stored) (S : State) (s : ℕ) (d : Due) → Sound W Z S → s < W.streams → due W S s ≡ d → Finds (first (standing W S (InTray s))) (next W S s) (hand W S s) d → (w : What) ×
    May W Z S s w
comes W Z S s PutDue sound declared e has = (what.Put (unit_no has.0) (pool_no (S.carried has.0).home), (e, has.1, refl))
comes W Z S s LookDue sound declared e has = (what.Look (unit_no has.0), (e, has.1))
comes W Z S s (EndDue c) sound declared e has = (what.End (unit_no has.0) c, (e, has.1))
comes W Z S s EnterDue sound declared e has = (what.Enter (unit_no has.0), (e, has.1))
comes W Z S s StepDue sound declared e has = steps W Z S s has.0 (op_at W has.0 (S.carried has.0).position) e has.1 refl
comes W Z S s LeaveDue sound declared e has =
    let is : (u : ℕ) × (S.place u ≡ place.Frame (stream_no s) (length (S.stream s).below - 1)) = leaves W Z S s sound e in
    (what.Leave (unit_no is.0), (e, is.1))
comes W Z S s RoundDue sound declared e has =
    let is : (p : ℕ) × IsNextPool W Z.orders (S.stream s).top p = next-pool W Z (S.stream s).top (sound.under_way s declared).0 in
    visits W Z S s is.0 (front W S s is.0) e refl is.1

pub some-next : (W : Parts) (Z : Stored) → SomeNext W Z
some-next W Z S s sound declared =
    comes W Z S s (due W S s) sound declared refl (finds W s (S.stream s) (standing W S (InTray s)) (next W S s) (hand W S s) (at_position S))

pub some-after : (W : Parts) (Z : Stored) → SomeAfter W Z
some-after W Z S s sound declared =
    let is : (w : What) × May W Z S s w = some-next W Z S s sound declared in
    (record { stamp = 0; stream = stream_no s; what = is.0 }, after W S s is.0, refl, (declared, is.1, refl))
