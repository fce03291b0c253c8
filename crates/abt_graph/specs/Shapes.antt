-- Graphs of three shapes.
use Rattle.std.specs.Prelude.{ℕ, zero, suc, ◌≡◌, ◌+◌, ◌-◌, ◌*◌, ◌/◌, ◌%◌, ◌^◌, ◌<◌, ◌≤◌, List, [], ◌∷◌, ◌++◌, length, map, min, replicate, Some, slice_get, slice_index, sum, take, drop}
use Rattle.std.specs.List.{range_with_len}
use Rattle.abt_machine.specs.declared.numbers.UnitNo.{UnitNo}
use Rattle.abt_machine.specs.Numbers.{unit_no}
use Rattle.abt_flow.specs.Flow.{Functions}
use Rattle.abt_graph.specs.Graphs.{returned}
use Rattle.abt_graph.specs.declared.nodes.Node.{Node}

-- Map.

-- a node that waits for none
abbrev pub lone : ℕ → Node
lone f = record { function = f; after = [] }

abbrev pub map_nodes : ℕ → ℕ → List Node
map_nodes n f = replicate n (lone f)

-- value u is what function f returns for u alone
abbrev pub mapped : Functions → ℕ → ℕ → List ℕ
mapped R n f = map (λ u. returned R f u []) (range_with_len 0 n)

-- Reduction: n leaves, and inner nodes, each of which takes up to 16 values that no other takes and gives one.

-- each inner node takes away 15 values, until one is left
abbrev pub inner_count : ℕ → ℕ
inner_count n = (n + 13) / 15

-- how many values inner node j takes, the first of which is value 16 * j
abbrev pub taken_count : ℕ → ℕ → ℕ
taken_count n j = min 16 (n + j - 16 * j)

abbrev pub inner : ℕ → ℕ → ℕ → Node
inner n g j = record { function = g; after = map unit_no (range_with_len (16 * j) (taken_count n j)) }

abbrev pub reduction_nodes : ℕ → ℕ → ℕ → List Node
reduction_nodes n f g = map_nodes n f ++ map (inner n g) (range_with_len 0 (inner_count n))

-- the values of leaves are what function f returns, and that of inner node j is what function g returns for the values that it takes
pub record IsReduction (R : Functions) (n f g : ℕ) (values : List ℕ) : Type 0 where
  pub one_each : length values ≡ n + inner_count n
  pub leaves : take n values ≡ mapped R n f
  pub inners : (j : ℕ) → j < inner_count n → slice_get values (n + j) ≡ Some (returned R g (n + j) (take (taken_count n j) (drop (16 * j) values)))

-- a total of lists: a part may be replaced by its own total, and parts may change places
pub record IsTotal (total : List ℕ → ℕ) : Type 0 where
  pub part : (xs ys : List ℕ) → total (xs ++ total ys ∷ []) ≡ total (xs ++ ys)
  pub turned : (xs ys : List ℕ) → total (xs ++ ys) ≡ total (ys ++ xs)

-- function g returns the total of up to 16 values
abbrev pub ReturnsTotal : Functions → ℕ → (List ℕ → ℕ) → Type 0
ReturnsTotal R g total = (u : ℕ) (values : List ℕ) → length values ≤ 16 → returned R g u values ≡ total values

-- the total of what leaves return, if there are at least two of them
abbrev pub IsTotalOf : Functions → ℕ → ℕ → ℕ → ℕ → Type 0
IsTotalOf R n f g value = (total : List ℕ → ℕ) → IsTotal total → ReturnsTotal R g total → value ≡ total (mapped R n f)

-- the sum of words, as a word
abbrev pub word_sum : List ℕ → ℕ
word_sum words = sum words % 2 ^ 64

-- function g returns the sum of its keys
abbrev pub ReturnsSum : Functions → ℕ → Type 0
ReturnsSum R g = (u acc : ℕ) (keys : List ℕ) → R g u acc keys ≡ Some (word_sum keys)

-- Wavefront: a table, row by row, whose cells wait for their left and upper neighbours.

abbrev pub left : ℕ → ℕ → ℕ → List UnitNo
left columns i zero = []
left columns i (suc j) = unit_no (i * columns + j) ∷ []

abbrev pub upper : ℕ → ℕ → ℕ → List UnitNo
upper columns zero j = []
upper columns (suc i) j = unit_no (i * columns + j) ∷ []

abbrev pub cell : ℕ → ℕ → ℕ → ℕ → Node
cell columns f i j = record { function = f; after = left columns i j ++ upper columns i j }

-- the cell of number u
abbrev pub cell_of : ℕ → ℕ → ℕ → Node
cell_of columns f u = cell columns f (u / columns) (u % columns)

abbrev pub wavefront_nodes : ℕ → ℕ → ℕ → List Node
wavefront_nodes rows columns f = map (cell_of columns f) (range_with_len 0 (rows * columns))

-- the value of cell (i, j) of a table
abbrev pub cell_at : ℕ → List ℕ → ℕ → ℕ → ℕ
cell_at columns values i j = slice_index values (i * columns + j)

-- the values of the left and of the upper neighbour of a cell, if it has them
abbrev pub neighbours : (ℕ → ℕ → ℕ) → ℕ → ℕ → List ℕ
neighbours at zero zero = []
neighbours at zero (suc j) = at 0 j ∷ []
neighbours at (suc i) zero = at i 0 ∷ []
neighbours at (suc i) (suc j) = at (suc i) j ∷ at i (suc j) ∷ []

-- cell (i, j) is what function f returns for its number and its neighbours
pub record IsWavefront (R : Functions) (rows columns f : ℕ) (values : List ℕ) : Type 0 where
  pub one_each : length values ≡ rows * columns
  pub cells : (i j : ℕ) → i < rows → j < columns → cell_at columns values i j ≡ returned R f (i * columns + j) (neighbours (cell_at columns values) i j)
