-- The longest common subsequence of two texts, and its table: cell (i, j) is its length for the first i bytes of one text and the first j
-- bytes of the other.
use Rattle.std.specs.Prelude.{ℕ, zero, suc, ◌≤◌, ◌<◌, ◌+◌, ◌-◌, ◌*◌, ◌/◌, ◌%◌, List, ◌++◌, ◌==◌, if◌then◌else◌, length, map, max, min, slice_index}
use Rattle.std.specs.List.{range_with_len}
use Rattle.abt_kernels.specs.declared.tiles.Grid.{Grid}
use Rattle.abt_kernels.specs.declared.tiles.Tile.{Tile}

-- the length of the longest common subsequence of the first i bytes of a text and the first j bytes of another
abbrev pub common_length : List ℕ → List ℕ → ℕ → ℕ → ℕ
common_length a b zero j = 0
common_length a b (suc i) zero = 0
common_length a b (suc i) (suc j) =
    if slice_index a i == slice_index b j then suc (common_length a b i j)
    else max (common_length a b i (suc j)) (common_length a b (suc i) j)

-- so many cells of line i, from column j on
abbrev pub line_cells : List ℕ → List ℕ → ℕ → ℕ → ℕ → List ℕ
line_cells a b i j count = map (λ k. common_length a b i (j + k)) (range_with_len 0 count)

-- so many cells of column j, from line i on
abbrev pub column_cells : List ℕ → List ℕ → ℕ → ℕ → ℕ → List ℕ
column_cells a b i j count = map (λ k. common_length a b (i + k) j) (range_with_len 0 count)

-- the cells from which those of a tile are made

abbrev pub left_edge : List ℕ → List ℕ → Tile → List ℕ
left_edge a b tile = column_cells a b tile.top tile.left (tile.height + 1)

abbrev pub upper_edge : List ℕ → List ℕ → Tile → List ℕ
upper_edge a b tile = line_cells a b tile.top tile.left (tile.width + 1)

-- the cells of a tile that its neighbours need: its right edge, and then its lower edge
abbrev pub tile_edges : List ℕ → List ℕ → Tile → List ℕ
tile_edges a b tile =
    column_cells a b tile.top (tile.left + tile.width) (tile.height + 1) ++ line_cells a b (tile.top + tile.height) tile.left (tile.width + 1)

-- this many tiles of this side cover a text of this length, and all but the last are whole
abbrev pub IsCovered : ℕ → ℕ → ℕ → Type 0
IsCovered text side count = (0 < count) × (text ≤ count * side) × ((count - 1) * side ≤ text)

-- tile u, counted row by row: each is as high and as wide as the grid says, or ends with the texts
abbrev pub tile_at : List ℕ → List ℕ → Grid → ℕ → Tile
tile_at a b grid u =
    let top = u / grid.columns * grid.height in
    let left = u % grid.columns * grid.width in
    record { top = top; left = left; height = min grid.height (length a - top); width = min grid.width (length b - left) }
