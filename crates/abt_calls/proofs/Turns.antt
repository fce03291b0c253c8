-- What every event of a stream keeps.
use Rattle.std.proofs.Common.{◌≡◌, ℕ, Bool, true, false, List, [], ◌∷◌, Option, Some, None, refl, sym, subst, ◌⊎◌, inl, inr}
use Rattle.abt_machine.specs.declared.events.Code.{Code}
use Rattle.abt_machine.specs.declared.events.Code.TheVariants as code
use Rattle.abt_machine.specs.declared.events.What.TheVariants as what
use Rattle.abt_machine.specs.declared.workload.Parts.{Parts}
use Rattle.abt_machine.specs.Workloads.{body_at}
use Rattle.abt_machine.specs.Queues.{first}
use Rattle.abt_machine.specs.State.{Stream}
use Rattle.abt_machine.specs.Lines.{InHand, InNext}
use Rattle.abt_machine.specs.Next.{Due, LeaveDue, RoundDue, due_by}
use Rattle.abt_machine.specs.Values.{Owned, Held, owned_in}
use Rattle.abt_machine.specs.Acts.{Answer}
use Rattle.abt_machine.specs.Acts as act
use Rattle.abt_machine.specs.Plans.{Effect, Plan, Does, Calls, Exits, plan_of, to_caller, to_condition, to_giver, to_yielder}
use Rattle.abt_machine.specs.Turns.{Heard, Performs, due_of, looked}
use Rattle.abt_laws.proofs.Dues.{AfterNext, due_of_unit-cases}
use Rattle.abt_calls.specs.Streams.{EventsHoldOne, HoldsOne, StreamsHoldOne}
use Rattle.abt_calls.proofs.Shapes.{Asker, Caller, Giver, Waiter, Yielder, Shape, Locally, Yields, Leaves, Refused, Calling, brought, by-shape, plan_by}
use Rattle.abt_calls.proofs.TakenBack.{IsFirst, first-owned}

-- Dues.

-- what comes only with an empty hand
abbrev pub AfterHand : Due → Type 0
AfterHand RoundDue = Unit {0}
AfterHand LeaveDue = Unit {0}
AfterHand _ = ⊥

next-by : {X Y : Type 0} (W : Parts) (s : ℕ) (own : Stream) (tray : List X) (next : Option Y) (hand : Option (ℕ × ℕ)) → AfterNext (due_by W s own tray next hand) → next ≡ None
next-by W s own (u ∷ us) next hand after = absurd after
next-by W s own [] (Some v) hand after = absurd after
next-by W s own [] None hand after = refl

-- if such an event is due, nothing is in Next
pub next-none : (W : Parts) (s : ℕ) (held : Held) (d : Due) → due_of W s held ≡ d → AfterNext d → held.next ≡ None
next-none W s held d is after = next-by W s held.own held.tray held.next _ (subst AfterNext (sym is) after)

hand-by : {X Y : Type 0} (W : Parts) (s : ℕ) (own : Stream) (tray : List X) (next : Option Y) (o : Owned) → AfterHand (due_by W s own tray next (Some (o.number, o.carried.position))) → ⊥
hand-by W s own (u ∷ us) next o after = after
hand-by W s own [] (Some v) o after = after
hand-by W s own [] None o after =
    due_of_unit-cases W s o.carried.position (λ m b d. AfterHand d → ⊥) (λ b h. h) (λ b h. h) (λ g h. h) (λ g h. h) (λ g h. h) (λ m b program more h. h) (λ m b program over h. h) own.mark (body_at W o.number) after

hand-from : (W : Parts) (s : ℕ) (held : Held) (hand : Option Owned) → held.hand ≡ hand → AfterHand (due_of W s (record held { hand = hand })) → hand ≡ None
hand-from W s held None is after = refl
hand-from W s held (Some o) is after = absurd (hand-by W s held.own held.tray held.next o after)

-- and nothing is in the hand
pub hand-none : (W : Parts) (s : ℕ) (held : Held) (d : Due) → due_of W s held ≡ d → AfterHand d → held.hand ≡ None
hand-none W s held d is after = hand-from W s held held.hand refl (subst AfterHand (sym is) after)

-- One unit at most in hand and Next.

abbrev EffectHoldsOne : Effect → Type 0
EffectHoldsOne e = (e.hand ≡ None) ⊎ (e.next ≡ None)

caller-one : (o : Owned) (answer : Answer) → (to_caller o answer).next ≡ None
caller-one o (act.Given b) = refl
caller-one o (act.Woke os) = refl
caller-one o act.Rested = refl
caller-one o (act.Number n) = refl
caller-one o (act.Coded code.Ok) = refl
caller-one o (act.Coded c) = refl
caller-one o _ = refl

giver-one : (answer : Answer) → (to_giver answer).next ≡ None
giver-one (act.Given b) = refl
giver-one (act.Through b os) = refl
giver-one act.Rested = refl
giver-one (act.Back b c) = refl
giver-one _ = refl

condition-one : (answer : Answer) → (to_condition answer).next ≡ None
condition-one (act.Given b) = refl
condition-one act.Rested = refl
condition-one (act.Back b c) = refl
condition-one _ = refl

yielder-one : (o : Owned) (answer : Answer) → EffectHoldsOne (to_yielder o answer)
yielder-one o (act.Given b) = inl refl
yielder-one o (act.Coded c) = inr refl
yielder-one o _ = inr refl

asker-one : (asker : Asker) (o : Owned) (answer : Answer) → EffectHoldsOne (brought asker o answer)
asker-one Caller o answer = inr (caller-one o answer)
asker-one Giver o answer = inr (giver-one answer)
asker-one Waiter o answer = inr (condition-one answer)
asker-one Yielder o answer = yielder-one o answer

abbrev PlanHoldsOne : Plan → Type 0
PlanHoldsOne (Does e) = EffectHoldsOne e
PlanHoldsOne (Calls x asked brings) = (answer : Answer) → EffectHoldsOne (brings answer)
PlanHoldsOne (Exits b) = Unit {0}

shape-one : (o : Owned) (shape : Shape) → PlanHoldsOne (plan_by o shape)
shape-one o (Locally f) = inr refl
shape-one o Yields = inr refl
shape-one o Leaves = tt
shape-one o Refused = inr refl
shape-one o (Calling x asked asker) = asker-one asker o

performs-one : (old : Held) (plan : Plan) (heard : Option Heard) (c : Code) (new : Held) → PlanHoldsOne plan → Performs old plan heard c new → HoldsOne new
performs-one old (Does e) heard c new one st = subst HoldsOne (sym st.2) one
performs-one old (Calls x asked brings) heard c new one st = subst HoldsOne (sym st.3) (one st.0)
performs-one old (Exits b) heard c new one st = subst HoldsOne (sym st.2) (inr refl)

looked-one : (old : Held) (o : Owned) (cancel : Bool) (migrate : Option ℕ) → HoldsOne (looked old o cancel migrate)
looked-one old o true migrate = inr refl
looked-one old o false (Some p) = inr refl
looked-one old o false None = inr refl

pub events-hold-one : EventsHoldOne
events-hold-one W Z s old (what.Miss p) heard new st one = subst HoldsOne (sym st.3) one
events-hold-one W Z s old (what.Take p u) heard new st one = subst HoldsOne (sym st.5) (inl (hand-none W s old RoundDue st.0 tt))
events-hold-one W Z s old (what.Look u) heard new st one = subst HoldsOne (sym st.7) (looked-one old st.1 st.4 st.5)
events-hold-one W Z s old (what.Step u k c) heard new st one =
    performs-one old (plan_of W s st.5 st.1) heard c new (by-shape W s st.5 st.1 PlanHoldsOne (λ shape facts. shape-one st.1 shape) (plan_of W s st.5 st.1) refl) st.7
events-hold-one W Z s old (what.Call u k n) heard new st one = subst HoldsOne (sym st.7) (inr refl)
events-hold-one W Z s old (what.Put u p) heard new st one = subst HoldsOne (sym st.7) one
events-hold-one W Z s old (what.End u cause) heard new st one = subst HoldsOne (sym st.6) (inl refl)
events-hold-one W Z s old (what.Enter u) heard new st one = subst HoldsOne (sym st.5) (inl refl)
events-hold-one W Z s old (what.Leave u) heard new st one = subst HoldsOne (sym st.6) (inr (next-none W s old LeaveDue st.0 tt))

pub streams-hold-one : StreamsHoldOne
streams-hold-one W Z S s sound = by (first (owned_in W S (InHand s))) (first (owned_in W S (InNext s))) refl refl where
  by : (hand next : Option Owned) → first (owned_in W S (InHand s)) ≡ hand → first (owned_in W S (InNext s)) ≡ next → (hand ≡ None) ⊎ (next ≡ None)
  by None next h n = inl refl
  by (Some o) None h n = inr refl
  by (Some o) (Some q) h n =
      let a : IsFirst W S (InHand s) o = first-owned W S (InHand s) o h in
      let b : IsFirst W S (InNext s) q = first-owned W S (InNext s) q n in absurd (sound.hand_or_next s o.number q.number a.stands.at b.stands.at)
