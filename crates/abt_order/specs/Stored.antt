-- The shapes of stored orders, what is stored with them, and the rounds that their answers choose.
use Rattle.std.specs.Prelude.{ℕ, List, map, Option, Some, None, IfSome, IsTrue, MatchOption, slice_get}
use Rattle.abt_machine.specs.declared.operations.OrderShape.{OrderShape}
use Rattle.abt_machine.specs.declared.operations.Rule.{Rule}
use Rattle.abt_machine.specs.declared.operations.Rule.TheVariants as rule
use Rattle.abt_machine.specs.declared.workload.Parts.{Parts}
use Rattle.abt_machine.specs.Stored.{Stored}
use Rattle.abt_machine.specs.Workloads.{pools_of, rule_of}
use Rattle.abt_order.specs.Places.{IsOrderedBy}
use Rattle.abt_order.specs.Shapes.{fits_shape}
use Rattle.abt_order.specs.declared.stored.StoredOrder.{StoredOrder}
use denote.Param.Members.{Mut}

-- the shapes of stored orders
abbrev pub shapes_of : {X : Type 0} {F : X → Type 0} {called : Mut ((x : X) × F x) (ℕ × (ℕ × (ℕ × Unit {0}))) ℕ} → List (StoredOrder X F called) → List OrderShape
shapes_of {X} {F} {called} = map (λ (o : StoredOrder X F called). o.shape)

-- what is stored: these orders, and functions that return this
abbrev pub stored_of : {X : Type 0} {F : X → Type 0} {called : Mut ((x : X) × F x) (ℕ × (ℕ × (ℕ × Unit {0}))) ℕ} → List (StoredOrder X F called) → (ℕ → ℕ → ℕ → List ℕ → Option ℕ) → Stored
stored_of orders returns = record { orders = shapes_of orders; returns = returns }

-- an answer of a stored order in a round, for a number of pools and a place: its function's, if it has one, and else the one that its shape leaves
abbrev pub answers_of : {X : Type 0} {F : X → Type 0} {called : Mut ((x : X) × F x) (ℕ × (ℕ × (ℕ × Unit {0}))) ℕ} → StoredOrder X F called → ℕ → ℕ → ℕ → ℕ → Type 0
answers_of {called = called} order round n i answer = MatchOption order.function (IsTrue (fits_shape order.shape round n i answer)) (λ user. called.post (user.function.vtable, user.function.value) (round, (n, (i, tt))) answer)

-- If the rule is a user's, the pools are in an order that answers of its stored order choose for the round.
abbrev pub IsAnsweredBy : {X : Type 0} {F : X → Type 0} {called : Mut ((x : X) × F x) (ℕ × (ℕ × (ℕ × Unit {0}))) ℕ} → List (StoredOrder X F called) → ℕ → Option Rule → List ℕ → List ℕ → Type 0
IsAnsweredBy orders round (Some rule.Basic) ps order = Unit {0}
IsAnsweredBy orders round (Some rule.Prio) ps order = Unit {0}
IsAnsweredBy orders round (Some (rule.Randws seed)) ps order = Unit {0}
IsAnsweredBy orders round (Some (rule.User k)) ps order = IfSome (slice_get orders k) (λ stored. IsOrderedBy (answers_of stored round) ps order)
IsAnsweredBy orders round None ps order = Unit {0}

-- The same holds of the pools of scheduler g, by its own rule.
abbrev pub IsAnsweredOrder : {X : Type 0} {F : X → Type 0} {called : Mut ((x : X) × F x) (ℕ × (ℕ × (ℕ × Unit {0}))) ℕ} → Parts → List (StoredOrder X F called) → ℕ → ℕ → List ℕ → Type 0
IsAnsweredOrder W orders g round order = IsAnsweredBy orders round (rule_of W g) (pools_of W g) order
