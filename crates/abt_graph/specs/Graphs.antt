-- Graphs of calls: which are well made, and what their values are.
use Rattle.std.specs.Prelude.{ℕ, ◌≡◌, ◌+◌, ◌-◌, ◌*◌, ◌<◌, ◌≤◌, ◌%◌, ◌^◌, List, [], ◌∷◌, ◌++◌, length, map, replicate, sum_by, All, IsSome, Option, Some, None, slice_get, slice_index}
use Rattle.abt_machine.specs.declared.grammar.Format.TheVariants as format
use Rattle.abt_machine.specs.declared.numbers.UnitNo.{UnitNo}
use Rattle.abt_machine.specs.Limits.{function_limit, key_limit, operation_limit, unit_limit}
use Rattle.abt_flow.specs.Flow.{Functions}
use Rattle.abt_graph.specs.declared.nodes.Node.{Node}

-- Well made graphs.

-- how many operations the unit of a node has
abbrev pub op_count : Node → ℕ
op_count node = 2 * length node.after + 4

-- node u calls one of the functions that units may call, and waits for no more nodes than a unit has keys, each of which comes before it
pub record IsNode (u : ℕ) (node : Node) : Type 0 where
  pub function : node.function < function_limit
  pub few : length node.after ≤ key_limit
  pub earlier : All (λ (x : UnitNo). x.0 < u) node.after

-- a workload may have as many nodes, and as many operations of their units
pub record IsGraph (nodes : List Node) : Type 0 where
  pub few : length nodes ≤ unit_limit format.Three
  pub few_ops : sum_by op_count nodes ≤ operation_limit format.Three
  pub each : (u : ℕ) (node : Node) → slice_get nodes u ≡ Some node → IsNode u node

-- Values. R is what functions return.

-- the word that a function returns that may return no other
abbrev pub word_of : Option ℕ → ℕ
word_of (Some n) = n % 2 ^ 64
word_of None = 0

-- the keys of a unit that has kept these values: zeros stand behind them
abbrev pub keys_of : List ℕ → List ℕ
keys_of values = values ++ replicate (key_limit - length values) 0

-- what function f returns for node u if these are the values that it waits for
abbrev pub returned : Functions → ℕ → ℕ → List ℕ → ℕ
returned R f u values = word_of (R f u (length values) (keys_of values))

-- the values of the nodes that a node waits for, in its order
abbrev pub values_at : List ℕ → List UnitNo → List ℕ
values_at values after = map (λ (x : UnitNo). slice_index values x.0) after

-- what node u makes of the values of the nodes before it
abbrev pub value_of : Functions → ℕ → Node → List ℕ → ℕ
value_of R u node values = returned R node.function u (values_at values node.after)

-- the values of nodes before these, and of these: each from those before it
abbrev pub values_after : Functions → List ℕ → List Node → List ℕ
values_after R before [] = before
values_after R before (node ∷ nodes) = values_after R (before ++ value_of R (length before) node before ∷ []) nodes

-- the values of all nodes, in order
abbrev pub values_of : Functions → List Node → List ℕ
values_of R nodes = values_after R [] nodes

-- these values fit one another: value u is what node u makes of them
pub record AreValues (R : Functions) (nodes : List Node) (values : List ℕ) : Type 0 where
  pub one_each : length values ≡ length nodes
  pub each : (u : ℕ) (node : Node) → slice_get nodes u ≡ Some node → slice_get values u ≡ Some (value_of R u node values)

-- Functions.

-- units may call function f, which is among this many, and it returns one word, whatever the unit, the accumulator and the keys
pub record IsFunction (f count : ℕ) (R : Functions) : Type 0 where
  pub callable : f < function_limit
  pub stored : f < count
  pub one : (u acc : ℕ) (keys : List ℕ) → IsSome (R f u acc keys)

-- each function that a node names is one
abbrev pub HasFunctions : List Node → ℕ → Functions → Type 0
HasFunctions nodes count R = (u : ℕ) (node : Node) → slice_get nodes u ≡ Some node → IsFunction node.function count R
