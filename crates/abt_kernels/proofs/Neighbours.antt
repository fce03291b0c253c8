-- Tiles of the table of common lengths, and their neighbours.
use Rattle.std.proofs.Common.{◌≡◌, ◌≢◌, ◌≤◌, ◌<◌, ◌+◌, ◌-◌, ◌*◌, ◌/◌, ◌%◌, ◌∙◌, ℕ, zero, suc, List, [], ◌++◌, map, length, get_or, replicate, take, drop, min, refl, sym, ap, arith, Option, Some, None}
use Rattle.std.specs.Prelude.{IfSome}
use Rattle.std.specs.List.{range_with_len}
use Rattle.std.proofs.Math.Nat.{div-eq_of_lt}
use Rattle.std.proofs.Math.Seq.{drop-append_seam, take-append_seam, take-length}
use Rattle.std.proofs.lemmas.Grind.{get_or_default_zero}
use Rattle.std.proofs.lemmas.List.{get_or-append-add, get_or-map, get_or-replicate, length-append, length-drop, length-map, length-replicate}
use Rattle.std.proofs.lemmas.List.FromFn.{fill_by_all, get_or-map-range_with_len, length-map-range_with_len}
use Rattle.std.proofs.lemmas.Nat.{div-add-mod', div-mul-add, le-div, mod-mul-add, mod_below}
use Rattle.abt_kernels.specs.Subsequences.{IsCovered, column_cells, common_length, line_cells, tile_at, tile_edges}
use Rattle.abt_kernels.specs.declared.tiles.Grid.{Grid}
use Rattle.abt_kernels.specs.declared.tiles.Tile.{Tile}
use Rattle.abt_kernels.proofs.CommonLengths.{column-long, common-none, line-at, line-long}

-- The table's first line and column.

first-line : (a b : List ℕ) (j n : ℕ) → replicate n 0 ≡ line_cells a b 0 j n
first-line a b j n = fill_by_all (λ k. common_length a b 0 (j + k)) (replicate n 0) n 0 (length-replicate n 0) (λ k within. get_or-replicate n k 0 0 within)

first-column : (a b : List ℕ) (i n : ℕ) → replicate n 0 ≡ column_cells a b i 0 n
first-column a b i n =
    fill_by_all (λ k. common_length a b (i + k) 0) (replicate n 0) n 0 (length-replicate n 0)
    (λ k within. get_or-replicate n k 0 0 within ∙ sym (common-none a b (i + k)))

-- Places of a grid.

-- the place before one that is not the first of its row
place-before : (u c : ℕ) → 0 < c → u % c ≢ 0 → ((u - 1) / c ≡ u / c) × ((u - 1) % c + 1 ≡ u % c)
place-before u c some other =
    let whole : u / c * c + u % c ≡ u = div-add-mod' u c in
    let small : u % c < c = mod_below u c some in
    let same : u - 1 ≡ u / c * c + (u % c - 1) = omega arith in
    let column : (u - 1) % c ≡ u % c - 1 = ap (λ n. n % c) same ∙ mod-mul-add (u / c) c (u % c - 1) (omega arith) in
    (ap (λ n. n / c) same ∙ div-mul-add (u / c) c (u % c - 1) (omega arith), (omega arith))

-- the place above one that is not in the first row
place-above : (u c : ℕ) → 0 < c → c ≤ u → ((u - c) / c + 1 ≡ u / c) × ((u - c) % c ≡ u % c)
place-above u c some below = by (u / c) (u % c) (div-add-mod' u c) (mod_below u c some) (le-div 1 u c some (omega arith))
  where
    by : (q r : ℕ) → q * c + r ≡ u → r < c → 1 ≤ q → ((u - c) / c + 1 ≡ q) × ((u - c) % c ≡ r)
    by zero r whole small one = absurd (omega arith)
    by (suc p) r whole small one =
        let same : u - c ≡ p * c + r = omega arith in
        let row : (u - c) / c ≡ p = ap (λ n. n / c) same ∙ div-mul-add p c r small in
        ((omega arith), ap (λ n. n % c) same ∙ mod-mul-add p c r small)

-- Neighbours.

-- the first cells of the edges of a tile with this right edge
right-edge : (a b : List ℕ) (tile : Tile) (i j n : ℕ) → tile.top ≡ i → tile.left + tile.width ≡ j → tile.height ≡ n →
    take (n + 1) (tile_edges a b tile) ≡ column_cells a b i j (n + 1)
right-edge a b tile i j n top right height =
    let here : column_cells a b tile.top (tile.left + tile.width) (tile.height + 1) ≡ column_cells a b i j (n + 1) =
    ap (λ k. column_cells a b k (tile.left + tile.width) (tile.height + 1)) top ∙ ap (λ k. column_cells a b i k (tile.height + 1)) right ∙ ap (λ k. column_cells a b i j (k + 1)) height in
    let long : length (column_cells a b i j (n + 1)) ≡ n + 1 = column-long a b i j (n + 1) (column_cells a b i j (n + 1)) refl in
    ap (λ cells. take (n + 1) (cells ++ line_cells a b (tile.top + tile.height) tile.left (tile.width + 1))) here
    ∙ ap (λ k. take k (column_cells a b i j (n + 1) ++ line_cells a b (tile.top + tile.height) tile.left (tile.width + 1))) (sym long)
    ∙ take-append_seam (column_cells a b i j (n + 1)) (line_cells a b (tile.top + tile.height) tile.left (tile.width + 1))

-- the last cells of the edges of a tile with this lower edge
lower-edge : (a b : List ℕ) (tile : Tile) (i j m n : ℕ) → tile.top + tile.height ≡ i → tile.left ≡ j → tile.height ≡ m → tile.width ≡ n →
    drop (m + 1) (tile_edges a b tile) ≡ line_cells a b i j (n + 1)
lower-edge a b tile i j m n bottom left height width =
    let here : line_cells a b (tile.top + tile.height) tile.left (tile.width + 1) ≡ line_cells a b i j (n + 1) =
    ap (λ k. line_cells a b k tile.left (tile.width + 1)) bottom ∙ ap (λ k. line_cells a b i k (tile.width + 1)) left ∙ ap (λ k. line_cells a b i j (k + 1)) width in
    let column : List ℕ = column_cells a b tile.top (tile.left + tile.width) (tile.height + 1) in
    let long : length column ≡ m + 1 =
    column-long a b tile.top (tile.left + tile.width) (tile.height + 1) column refl ∙ ap (λ k. k + 1) height in
    ap (λ k. drop k (column ++ line_cells a b (tile.top + tile.height) tile.left (tile.width + 1))) (sym long)
    ∙ drop-append_seam column (line_cells a b (tile.top + tile.height) tile.left (tile.width + 1))
    ∙ here

-- how far a tile beside another one reaches
reaches : (side p q n : ℕ) → p + 1 ≡ q → q * side ≤ n → p * side + min side (n - p * side) ≡ q * side
reaches side p q n next within =
    let more : q * side ≡ p * side + side = ap (λ k. k * side) (sym next) ∙ (let e : (p + 1) * side ≡ p * side + side = omega arith in e) in
    omega arith

whole-side : (side p q n : ℕ) → p + 1 ≡ q → q * side ≤ n → min side (n - p * side) ≡ side
whole-side side p q n next within =
    let more : q * side ≡ p * side + side = ap (λ k. k * side) (sym next) ∙ (let e : (p + 1) * side ≡ p * side + side = omega arith in e) in
    omega arith

-- the edges of the left neighbour begin with a tile's left edge
pub edge-before : (a b : List ℕ) (grid : Grid) (u : ℕ) (tile : Tile) (words : List ℕ) → 0 < grid.columns → u % grid.columns ≢ 0 →
    tile ≡ tile_at a b grid u → tile.left + tile.width ≤ length b → words ≡ tile_edges a b (tile_at a b grid (u - 1)) →
    take (tile.height + 1) words ≡ column_cells a b tile.top tile.left (tile.height + 1)
edge-before a b grid u tile words some other is inside made =
    let place : ((u - 1) / grid.columns ≡ u / grid.columns) × ((u - 1) % grid.columns + 1 ≡ u % grid.columns) = place-before u grid.columns some other in
    let left : tile.left ≡ u % grid.columns * grid.width = ap (λ (t : Tile). t.left) is in
    ap (take (tile.height + 1)) made
    ∙ right-edge a b (tile_at a b grid (u - 1)) tile.top tile.left tile.height
    (ap (λ q. q * grid.height) place.0 ∙ sym (ap (λ (t : Tile). t.top) is))
    (reaches grid.width ((u - 1) % grid.columns) (u % grid.columns) (length b) place.1 (omega arith) ∙ sym left)
    (ap (λ q. min grid.height (length a - q * grid.height)) place.0 ∙ sym (ap (λ (t : Tile). t.height) is))

-- the edges of the upper neighbour end with a tile's upper edge
pub edge-above : (a b : List ℕ) (grid : Grid) (u : ℕ) (tile : Tile) (words : List ℕ) → 0 < grid.columns → grid.columns ≤ u →
    tile ≡ tile_at a b grid u → tile.top + tile.height ≤ length a → words ≡ tile_edges a b (tile_at a b grid (u - grid.columns)) →
    drop (grid.height + 1) words ≡ line_cells a b tile.top tile.left (tile.width + 1)
edge-above a b grid u tile words some below is inside made =
    let place : ((u - grid.columns) / grid.columns + 1 ≡ u / grid.columns) × ((u - grid.columns) % grid.columns ≡ u % grid.columns) = place-above u grid.columns some below in
    let top : tile.top ≡ u / grid.columns * grid.height = ap (λ (t : Tile). t.top) is in
    ap (drop (grid.height + 1)) made
    ∙ lower-edge a b (tile_at a b grid (u - grid.columns)) tile.top tile.left grid.height tile.width
    (reaches grid.height ((u - grid.columns) / grid.columns) (u / grid.columns) (length a) place.0 (omega arith) ∙ sym top)
    (ap (λ r. r * grid.width) place.1 ∙ sym (ap (λ (t : Tile). t.left) is))
    (whole-side grid.height ((u - grid.columns) / grid.columns) (u / grid.columns) (length a) place.0 (omega arith))
    (ap (λ r. min grid.width (length b - r * grid.width)) place.1 ∙ sym (ap (λ (t : Tile). t.width) is))

-- what holds of a value that may be made
pub some-along : {A : Type 0} (P Q : A → Type 0) (o : Option A) → ((x : A) → P x → Q x) → IfSome o P → IfSome o Q
some-along P Q None follows is = is
some-along P Q (Some x) follows is = follows x is

-- the left edge of a tile with no left neighbour
pub edge-first : (a b : List ℕ) (grid : Grid) (u : ℕ) (tile : Tile) → u % grid.columns ≡ 0 → tile ≡ tile_at a b grid u →
    replicate (tile.height + 1) 0 ≡ column_cells a b tile.top tile.left (tile.height + 1)
edge-first a b grid u tile none is =
    let left : tile.left ≡ 0 = ap (λ (t : Tile). t.left) is ∙ ap (λ r. r * grid.width) none ∙ (let e : 0 * grid.width ≡ 0 = omega arith in e) in
    first-column a b tile.top (tile.height + 1) ∙ ap (λ j. column_cells a b tile.top j (tile.height + 1)) (sym left)

-- the upper edge of a tile with no upper neighbour
pub line-first : (a b : List ℕ) (grid : Grid) (u : ℕ) (tile : Tile) → u < grid.columns → tile ≡ tile_at a b grid u →
    replicate (tile.width + 1) 0 ≡ line_cells a b tile.top tile.left (tile.width + 1)
line-first a b grid u tile within is =
    let top : tile.top ≡ 0 = ap (λ (t : Tile). t.top) is ∙ ap (λ q. q * grid.height) (div-eq_of_lt within) ∙ (let e : 0 * grid.height ≡ 0 = omega arith in e) in
    first-line a b tile.left (tile.width + 1) ∙ ap (λ i. line_cells a b i tile.left (tile.width + 1)) (sym top)

-- the edges of the upper neighbour are long enough
pub long-above : (a b : List ℕ) (grid : Grid) (u : ℕ) (tile : Tile) (words : List ℕ) → 0 < grid.columns → grid.columns ≤ u →
    tile ≡ tile_at a b grid u → tile.top + tile.height ≤ length a → words ≡ tile_edges a b (tile_at a b grid (u - grid.columns)) →
    grid.height + 1 ≤ length words
long-above a b grid u tile words some below is inside made =
    let line : drop (grid.height + 1) words ≡ line_cells a b tile.top tile.left (tile.width + 1) = edge-above a b grid u tile words some below is inside made in
    let long : length (drop (grid.height + 1) words) ≡ tile.width + 1 = line-long a b tile.top tile.left (tile.width + 1) (drop (grid.height + 1) words) line in
    let left : length (drop (grid.height + 1) words) ≡ length words - (grid.height + 1) = length-drop (grid.height + 1) words in
    omega arith

-- all of a list from a place on
pub rest-taken : (words : List ℕ) (at : ℕ) → take (length words - at) (drop at words) ≡ drop at words
rest-taken words at = ap (λ n. take n (drop at words)) (sym (length-drop at words)) ∙ take-length (drop at words)

-- The last tile.

last-place : (l c : ℕ) → 0 < l → 0 < c → ((l * c - 1) / c ≡ l - 1) × ((l * c - 1) % c ≡ c - 1)
last-place zero c some more = absurd (omega arith)
last-place (suc l) c some more =
    let same : suc l * c - 1 ≡ l * c + (c - 1) = omega arith in
    let line : suc l - 1 ≡ l = omega arith in
    (ap (λ n. n / c) same ∙ div-mul-add l c (c - 1) (omega arith) ∙ sym line, ap (λ n. n % c) same ∙ mod-mul-add l c (c - 1) (omega arith))

some-tiles : (l c : ℕ) → 0 < l → 0 < c → 0 < l * c
some-tiles zero c some more = absurd (omega arith)
some-tiles (suc l) c some more = omega arith

-- the last of the tiles that cover a text ends with it
last-end : (text side count : ℕ) → IsCovered text side count → (count - 1) * side + min side (text - (count - 1) * side) ≡ text
last-end text side zero covered = absurd (let some : 0 < 0 = covered.0 in omega arith)
last-end text side (suc count) covered =
    let all : text ≤ suc count * side = covered.1 in
    let last : (suc count - 1) * side ≤ text = covered.2 in
    let less : suc count - 1 ≡ count = omega arith in
    let same : (suc count - 1) * side ≡ count * side = ap (λ k. k * side) less in
    let more : suc count * side ≡ count * side + side = omega arith in
    omega arith

-- the last of a tile's edges
last-edge : (a b : List ℕ) (tile : Tile) (i j : ℕ) (words : List ℕ) → words ≡ tile_edges a b tile → tile.top + tile.height ≡ i → tile.left + tile.width ≡ j →
    (0 < length words) × (get_or words (length words - 1) 0 ≡ common_length a b i j)
last-edge a b tile i j words is bottom right =
    let column : List ℕ = column_cells a b tile.top (tile.left + tile.width) (tile.height + 1) in
    let line : List ℕ = line_cells a b (tile.top + tile.height) tile.left (tile.width + 1) in
    let one : length column ≡ tile.height + 1 = column-long a b tile.top (tile.left + tile.width) (tile.height + 1) column refl in
    let two : length line ≡ tile.width + 1 = line-long a b (tile.top + tile.height) tile.left (tile.width + 1) line refl in
    let long : length words ≡ length column + length line = ap length is ∙ length-append column line in
    let last : length words - 1 ≡ length column + tile.width = omega arith in (
      (omega arith),
      ap (λ k. get_or words k 0) last ∙ ap (λ xs. get_or xs (length column + tile.width) 0) is ∙ get_or-append-add column line tile.width 0
          ∙ line-at a b (tile.top + tile.height) tile.left (tile.width + 1) tile.width line refl (omega arith)
          ∙ ap (λ k. common_length a b k (tile.left + tile.width)) bottom ∙ ap (common_length a b i) right,
    )

-- the last tile ends where the texts end
last-cell : (a b : List ℕ) (grid : Grid) (lines : ℕ) (words : List ℕ) → IsCovered (length a) grid.height lines → IsCovered (length b) grid.width grid.columns →
    words ≡ tile_edges a b (tile_at a b grid (lines * grid.columns - 1)) →
    (0 < length words) × (get_or words (length words - 1) 0 ≡ common_length a b (length a) (length b))
last-cell a b grid lines words down across is =
    let place : ((lines * grid.columns - 1) / grid.columns ≡ lines - 1) × ((lines * grid.columns - 1) % grid.columns ≡ grid.columns - 1) = last-place lines grid.columns down.0 across.0 in
    last-edge a b (tile_at a b grid (lines * grid.columns - 1)) (length a) (length b) words is
    (ap (λ q. q * grid.height + min grid.height (length a - q * grid.height)) place.0 ∙ last-end (length a) grid.height lines down)
    (ap (λ r. r * grid.width + min grid.width (length b - r * grid.width)) place.1 ∙ last-end (length b) grid.width grid.columns across)

-- the last of the rows that a table has
last-row : {A : Type 0} (f : A → List ℕ) (row_at : ℕ → List ℕ) (rows : List A) (n at : ℕ) (x : A) → 0 < n → map f rows ≡ map row_at (range_with_len 0 n) →
    at ≡ length rows → x ≡ get_or rows (at - 1) x → (0 < at) × (f x ≡ row_at (n - 1))
last-row f row_at rows n at x some is end here =
    let long : length rows ≡ n = sym (length-map rows f) ∙ ap length is ∙ length-map-range_with_len row_at 0 n in
    let last : at - 1 ≡ n - 1 = omega arith in (
      (omega arith),
      ap f here ∙ sym (get_or-map f rows (at - 1) x [] (omega arith)) ∙ ap (λ xs. get_or xs (at - 1) []) is
          ∙ get_or-map-range_with_len row_at 0 n (at - 1) (n - 1) [] (omega arith) (omega arith),
    )

-- the last of the last row of a table of tiles
pub last-of-rows : {A : Type 0} (f : A → List ℕ) (row_at : ℕ → List ℕ) (a b : List ℕ) (grid : Grid) (lines : ℕ) (rows : List A) (at long : ℕ) (row : A) →
    ((u : ℕ) → row_at u ≡ tile_edges a b (tile_at a b grid u)) → IsCovered (length a) grid.height lines → IsCovered (length b) grid.width grid.columns →
    map f rows ≡ map row_at (range_with_len 0 (lines * grid.columns)) → at ≡ length rows → row ≡ get_or rows (at - 1) row → long ≡ length (f row) →
    (0 < long) × (get_or (f row) (long - 1) 0 ≡ common_length a b (length a) (length b))
last-of-rows f row_at a b grid lines rows at long row table down across is end here size =
    let last : (0 < at) × (f row ≡ row_at (lines * grid.columns - 1)) =
    last-row f row_at rows (lines * grid.columns) at row (some-tiles lines grid.columns down.0 across.0) is end here in
    let cell : (0 < length (f row)) × (get_or (f row) (length (f row) - 1) 0 ≡ common_length a b (length a) (length b)) =
    last-cell a b grid lines (f row) down across (last.1 ∙ table (lines * grid.columns - 1)) in
    ((omega arith), ap (λ k. get_or (f row) (k - 1) 0) size ∙ cell.1)

-- the last of a list, read by its length
pub last-word : (words : List ℕ) (long x n : ℕ) → long ≡ length words → x ≡ get_or words (long - 1) x → (0 < long) × (get_or words (long - 1) 0 ≡ n) → x ≡ n
last-word words long x n size read last =
    let some : 0 < long = last.0 in
    read ∙ get_or_default_zero words (long - 1) x (omega arith) ∙ last.1
