-- Every round has an order, and rounds under way go on.
use Rattle.std.proofs.Common.{◌≡◌, ◌≢◌, ℕ, suc, ◌<◌, ◌≤◌, ◌+◌, ◌==◌, Bool, true, false, List, [], ◌∷◌, ◌++◌, reverse, length, Some, option_map, slice_get, refl, sym, ◌∙◌, ap, subst, arith, inl, inr, length-append}
use Rattle.std.proofs.lemmas.Bool.{cond_both, cases_lt, eqb-false}
use Rattle.std.proofs.lemmas.List.Sorted.{length_permutation, IsPermutation-refl}
use Rattle.std.proofs.lemmas.Option.{slice_get_past, slice_get_cases}
use Rattle.abt_machine.specs.declared.operations.OrderShape.{OrderShape}
use Rattle.abt_machine.specs.Stored.{Stored}
use Rattle.abt_machine.specs.declared.operations.OrderShape.TheVariants as shape
use Rattle.abt_machine.specs.declared.operations.Rule.{Rule}
use Rattle.abt_machine.specs.declared.operations.Rule.TheVariants as rule
use Rattle.abt_machine.specs.declared.workload.Parts.{Parts}
use Rattle.abt_machine.specs.declared.workload.SchedPart.{SchedPart}
use Rattle.abt_machine.specs.Workloads.{pools_of, rule_of}
use Rattle.abt_machine.specs.State.{Frame}
use Rattle.abt_machine.specs.Rounds.{of_class, stolen, rotated, shaped, choice_by, IsChosen, IsOrder, IsNextPool, OrdersStored}
use Rattle.abt_machine.specs.Frames.{frame_at, frame_missed}
use Rattle.abt_machine.specs.Sound.{IsUnderWay}
use Rattle.abt_machine.specs.Valid.{IsValid}
use Rattle.abt_machine.proofs.Declared.{some-listed}
use Rattle.abt_laws.proofs.Orders.{order-permutes}

-- Every round has an order.

has-rule : (W : Parts) (g : ℕ) → g < length W.scheds → (r : Rule) × (rule_of W g ≡ Some r)
has-rule W g l =
    elim (slice_get_cases W.scheds g).1 [
      | inl x ↦ (x.0.rule, ap (option_map (λ (part : SchedPart). part.rule)) x.2)
      | inr x ↦ (let k : length W.scheds ≤ g = x.0 in absurd (omega arith))
    ]

-- only a declared scheduler has orders
pub order-declared : (W : Parts) (Z : Stored) (g r : ℕ) (order : List ℕ) → IsOrder W Z.orders g r order → g < length W.scheds
order-declared W Z g r order h =
    elim (cases_lt g (length W.scheds)) [
      | inl l ↦ l
      | inr l ↦ absurd (subst (λ o. IsChosen (choice_by W Z.orders g r o (pools_of W g)) (pools_of W g) order) (ap (option_map (λ (part : SchedPart). part.rule)) (slice_get_past W.scheds g l)) h)
    ]

shape-at : (Z : Stored) (k : ℕ) → k < length Z.orders → (s : OrderShape) × (slice_get Z.orders k ≡ Some s)
shape-at Z k l =
    elim (slice_get_cases Z.orders k).1 [
      | inl x ↦ (x.0, x.2)
      | inr x ↦ (let h : length Z.orders ≤ k = x.0 in absurd (omega arith))
    ]

some-shaped : (o : OrderShape) (r : ℕ) (ps : List ℕ) → (order : List ℕ) × IsChosen (shaped (Some o) r ps) ps order
some-shaped shape.Rotate r ps = (rotated r ps, refl)
some-shaped shape.Mirror r ps = (reverse ps, refl)
some-shaped shape.Free r ps = (ps, IsPermutation-refl ps)

some-chosen : (W : Parts) (Z : Stored) (g r : ℕ) (o : Rule) (ps : List ℕ) → ((k : ℕ) → o ≡ rule.User k → k < length Z.orders) → (order : List ℕ) × IsChosen
    (choice_by W Z.orders g r (Some o) ps) ps order
some-chosen W Z g r rule.Basic ps stored = ((of_class W 0 ps ++ of_class W 1 ps) ++ of_class W 2 ps, refl)
some-chosen W Z g r rule.Prio ps stored = (ps, refl)
some-chosen W Z g r (rule.Randws seed) ps stored = (stolen seed g r ps, refl)
some-chosen W Z g r (rule.User k) ps stored =
    let is : (s : OrderShape) × (slice_get Z.orders k ≡ Some s) = shape-at Z k (stored k refl) in
    let some : (order : List ℕ) × IsChosen (shaped (Some is.0) r ps) ps order = some-shaped is.0 r ps in
    (some.0, subst (λ o. IsChosen (shaped o r ps) ps some.0) (sym is.1) some.1)

has-order : (W : Parts) (Z : Stored) (g r : ℕ) → OrdersStored W Z.orders → g < length W.scheds → (order : List ℕ) × IsOrder W Z.orders g r order
has-order W Z g r stored l =
    let is : (o : Rule) × (rule_of W g ≡ Some o) = has-rule W g l in
    let some : (order : List ℕ) × IsChosen (choice_by W Z.orders g r (Some is.0) (pools_of W g)) (pools_of W g) order =
    some-chosen W Z g r is.0 (pools_of W g) (λ k e. stored g k (is.1 ∙ ap (λ (o : Rule). Some o) e)) in
    (some.0, subst (λ o. IsChosen (choice_by W Z.orders g r o (pools_of W g)) (pools_of W g) some.0) (sym is.1) some.1)

-- Rounds under way.

order-length : (W : Parts) (Z : Stored) (g r : ℕ) (order : List ℕ) → IsOrder W Z.orders g r order → length order ≡ length (pools_of W g)
order-length W Z g r order h = length_permutation (pools_of W g) order (order-permutes W Z g r order h)

under_way-by : (W : Parts) (Z : Stored) (f : Frame) (order rest : List ℕ) → IsOrder W Z.orders f.sched f.round order → f.seen ++ rest ≡ order → length f.seen < length order → IsUnderWay W Z.orders f
under_way-by W Z f order [] is e l =
    let k : length (f.seen ++ []) ≡ length order = ap length e in
    let n : length (f.seen ++ []) ≡ length f.seen + 0 = length-append f.seen [] in absurd (omega arith)
under_way-by W Z f order (p ∷ rest) is e l = (order, is, p, rest, e)

-- a round that begins
pub fresh-under_way : (W : Parts) (Z : Stored) (g r : ℕ) (empty : Bool) → IsValid W → OrdersStored W Z.orders → g < length W.scheds → IsUnderWay W Z.orders (frame_at g r empty)
fresh-under_way W Z g r empty valid stored l =
    let some : (order : List ℕ) × IsOrder W Z.orders g r order = has-order W Z g r stored l in
    let long : length some.0 ≡ length (pools_of W g) = order-length W Z g r some.0 some.1 in
    under_way-by W Z (frame_at g r empty) some.0 some.0 some.1 refl (let k : 0 < length (pools_of W g) = some-listed W g valid l in omega arith)

-- a frame under way has a declared scheduler, so its next round can begin
pub next-under_way : (W : Parts) (Z : Stored) (f : Frame) (r : ℕ) (empty : Bool) → IsValid W → OrdersStored W Z.orders → IsUnderWay W Z.orders f → IsUnderWay W Z.orders (frame_at f.sched r empty)
next-under_way W Z f r empty valid stored h = fresh-under_way W Z f.sched r empty valid stored (order-declared W Z f.sched f.round h.0 h.1)

-- a frame that missed a pool is under way, in this round or the next
pub missed-under_way : (W : Parts) (Z : Stored) (f : Frame) (p : ℕ) → IsValid W → OrdersStored W Z.orders → IsUnderWay W Z.orders f → IsNextPool W Z.orders f p → IsUnderWay W Z.orders
    (frame_missed W f p)
missed-under_way W Z f p valid stored h is =
    let rest : List ℕ = is.2.0 in
    let e : (f.seen ++ p ∷ []) ++ rest ≡ is.0 = is.2.1 in
    let long : length is.0 ≡ length (pools_of W f.sched) = order-length W Z f.sched f.round is.0 is.1 in
    let more : length (f.seen ++ p ∷ []) ≡ length f.seen + 1 = length-append f.seen (p ∷ []) in
    let all : length ((f.seen ++ p ∷ []) ++ rest) ≡ length (f.seen ++ p ∷ []) + length rest = length-append (f.seen ++ p ∷ []) rest in
    let same : length ((f.seen ++ p ∷ []) ++ rest) ≡ length is.0 = ap length e in
    cond_both (length (pools_of W f.sched) == suc (length f.seen)) (frame_at f.sched (suc f.round) true) (record { sched = f.sched; round = f.round; seen = f.seen ++ p ∷ []; empty = false })
    (IsUnderWay W Z.orders)
    (λ _. next-under_way W Z f (suc f.round) true valid stored h)
    (λ differ.
    let other : length (pools_of W f.sched) ≢ suc (length f.seen) = eqb-false (length (pools_of W f.sched)) (suc (length f.seen)) differ in
    under_way-by W Z (record { sched = f.sched; round = f.round; seen = f.seen ++ p ∷ []; empty = false }) is.0 rest is.1 e (omega arith))
