-- Which unit a stream takes from a pool.
use Rattle.std.specs.Prelude.{ℕ, ◌==◌, Bool, true, false, List, Option, Some, None}
use Rattle.abt_machine.specs.declared.operations.Kind.{Kind}
use Rattle.abt_machine.specs.declared.operations.Kind.TheVariants as kind
use Rattle.abt_machine.specs.declared.operations.Side.{Side}
use Rattle.abt_machine.specs.declared.operations.Side.TheVariants as side
use Rattle.abt_machine.specs.declared.workload.Parts.{Parts}
use Rattle.abt_machine.specs.Workloads.{kind_of, pools_of, main_of}
use Rattle.abt_machine.specs.Queues.{first, last}
use Rattle.abt_machine.specs.State.{State}
use Rattle.abt_machine.specs.Lines.{standing, InPool}

abbrev pub is_some_of : ℕ → Option ℕ → Bool
is_some_of n None = false
is_some_of n (Some m) = m == n

-- the main scheduler of stream s lists pool p first
abbrev pub owns : Parts → ℕ → ℕ → Bool
owns W s p = is_some_of p (first (pools_of W (main_of W s)))

-- the end at which units are taken: the front of a FIFO pool; of a deque the back for its owners, and the front for others
abbrev pub side_by : Kind → Bool → Side
side_by kind.Fifo own = side.Front
side_by kind.Deque false = side.Front
side_by kind.Deque true = side.Back

-- the end of pool p at which stream s takes
abbrev pub side_of : Parts → ℕ → ℕ → Side
side_of W s p = side_by (kind_of W p) (owns W s p)

-- the unit at an end of a line, if there is one
abbrev pub at_end : {A : Type 0} → Side → List A → Option A
at_end side.Front us = first us
at_end side.Back us = last us

-- the unit that stream s takes from pool p, if there is one
abbrev pub front : Parts → State → ℕ → ℕ → Option ℕ
front W S s p = at_end (side_of W s p) (standing W S (InPool p))
