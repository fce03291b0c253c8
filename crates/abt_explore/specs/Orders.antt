-- Schedulers whose order is the same in each round.
use Rattle.std.specs.Prelude.{ℕ, ◌≡◌, ◌<◌, Bool, true, false, List, length, Option, Some, None, slice_get}
use Rattle.abt_machine.specs.declared.operations.OrderShape.{OrderShape}
use Rattle.abt_machine.specs.declared.operations.OrderShape.TheVariants as shape
use Rattle.abt_machine.specs.declared.operations.Rule.{Rule}
use Rattle.abt_machine.specs.declared.operations.Rule.TheVariants as rule
use Rattle.abt_machine.specs.declared.workload.Parts.{Parts}
use Rattle.abt_machine.specs.Rounds.{choice_of}
use Rattle.abt_machine.specs.Workloads.{pools_of, rule_of}

-- what each scheduler may visit is the same in each round
abbrev pub KeepsOrder : Parts → List OrderShape → Type 0
KeepsOrder W orders = (g r : ℕ) → choice_of W orders g r ≡ choice_of W orders g 0

-- the order rotates from round to round
abbrev pub rotates : Option OrderShape → Bool
rotates (Some shape.Rotate) = true
rotates (Some shape.Mirror) = false
rotates (Some shape.Free) = false
rotates None = false

-- the order by this rule depends on the number of the round
abbrev pub turns : List OrderShape → Rule → Bool
turns orders rule.Basic = false
turns orders rule.Prio = false
turns orders (rule.Randws seed) = true
turns orders (rule.User k) = rotates (slice_get orders k)

-- scheduler g lists more than one pool, and its order depends on the number of the round
abbrev pub MayChange : Parts → List OrderShape → ℕ → Type 0
MayChange W orders g = (1 < length (pools_of W g)) × (r : Rule) × (rule_of W g ≡ Some r) × (turns orders r ≡ true)
