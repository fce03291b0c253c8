-- The table of two texts' longest common subsequences.
use Rattle.std.proofs.Common.{◌≡◌, ◌≢◌, ◌≤◌, ◌<◌, ◌+◌, ◌∙◌, ℕ, zero, suc, Bool, true, false, List, [], ◌∷◌, ◌++◌, length, get_or, set, refl, sym, ap, subst, arith, add-one, below_more, get_or-set_other, get_or-set_same, max, zero-add, add-zero}
use Rattle.std.specs.Prelude.{◌==◌, if◌then◌else◌, slice_index}
use Rattle.std.proofs.lemmas.List.{length-set}
use Rattle.std.proofs.lemmas.List.FromFn.{get_or-map-range_with_len, length-map-range_with_len, map-range_with_len_more}
use Rattle.abt_kernels.specs.Subsequences.{column_cells, common_length, line_cells}

-- a subsequence is no longer than the text
pub common-most : (a b : List ℕ) (i j : ℕ) → common_length a b i j ≤ i
common-most a b zero j = omega arith
common-most a b (suc i) zero = omega arith
common-most a b (suc i) (suc j) =
    either (slice_index a i == slice_index b j) i (common_length a b i j) (common_length a b i (suc j)) (common_length a b (suc i) j)
    (common-most a b i j) (common-most a b i (suc j)) (common-most a b (suc i) j)
  where
    either : (same : Bool) (i d u v : ℕ) → d ≤ i → u ≤ i → v ≤ suc i → (if same then suc d else max u v) ≤ suc i
    either true i d u v one two three = omega arith
    either false i d u v one two three = omega arith

-- with an empty text there is none
pub common-none : (a b : List ℕ) (i : ℕ) → common_length a b i 0 ≡ 0
common-none a b zero = refl
common-none a b (suc i) = refl

-- a cell, from the three before it
pub next-cell : (a b : List ℕ) (i j k d u v r : ℕ) → j + 1 ≡ k → d ≡ common_length a b i j → u ≡ common_length a b i k →
    v ≡ common_length a b (i + 1) j → r ≡ (if slice_index a i == slice_index b j then suc d else max u v) → r ≡ common_length a b (i + 1) k
next-cell a b i j k d u v r after diagonal above left is =
    let one : i + 1 ≡ suc i = add-one i in
    let other : suc j ≡ k = omega arith in
    let whole : common_length a b (suc i) (suc j) ≡ (if slice_index a i == slice_index b j then suc (common_length a b i j) else max (common_length a b i (suc j)) (common_length a b (suc i) j)) = refl in
    cc

-- a write behind those that were made: what holds of them, and of the new one, holds of all
pub written-more : (xs : List ℕ) (f : ℕ → ℕ) (k at r : ℕ) → at ≡ k + 1 → at < length xs → ((m : ℕ) → m < k + 1 → get_or xs m 0 ≡ f m) → r ≡ f at →
    (m : ℕ) → m < k + 1 + 1 → get_or (set xs at r) m 0 ≡ f m
written-more xs f k at r is within before made =
    below_more _ _
    (λ m less. let other : m ≢ at = omega arith in get_or-set_other xs at m r 0 other ∙ before m less)
    (subst (λ n. get_or (set xs at r) n 0 ≡ f n) is (get_or-set_same xs at r 0 within ∙ made))

-- those behind it are as they were
pub written-after : (xs : List ℕ) (f : ℕ → ℕ) (k at r : ℕ) → at ≡ k + 1 → ((m : ℕ) → k < m → m < length xs → get_or xs m 0 ≡ f m) →
    (m : ℕ) → k + 1 < m → m < length (set xs at r) → get_or (set xs at r) m 0 ≡ f m
written-after xs f k at r is after m behind within =
    let other : m ≢ at = omega arith in
    let long : length (set xs at r) ≡ length xs = length-set xs at r in
    get_or-set_other xs at m r 0 other ∙ after m (omega arith) (omega arith)

-- a cell of a line
pub line-at : (a b : List ℕ) (i j count m : ℕ) (line : List ℕ) → line ≡ line_cells a b i j count → m < count → get_or line m 0 ≡ common_length a b i (j + m)
line-at a b i j count m line is within = ap (λ xs. get_or xs m 0) is ∙ get_or-map-range_with_len (λ k. common_length a b i (j + k)) 0 count m m 0 within (zero-add m)

-- the first cell of the next line, written over a line
pub first-written : (a b : List ℕ) (i j : ℕ) (line : List ℕ) (first : ℕ) → 0 < length line → line ≡ line_cells a b i j (length line) →
    first ≡ common_length a b (i + 1) j →
    record {
      diagonal : get_or line 0 0 ≡ common_length a b i (j + 0);
      last : first ≡ common_length a b (i + 1) (j + 0);
      before : (m : ℕ) → m < 1 → get_or (set line 0 first) m 0 ≡ common_length a b (i + 1) (j + m);
      after : (m : ℕ) → 0 < m → m < length (set line 0 first) → get_or (set line 0 first) m 0 ≡ common_length a b i (j + m);
    }
first-written a b i j line first some is made =
    let start : first ≡ common_length a b (i + 1) (j + 0) = made ∙ ap (common_length a b (i + 1)) (sym (add-zero j)) in
    record {
      diagonal = line-at a b i j (length line) 0 line is some;
      last = start;
      before = λ m less.
          let zero : m ≡ 0 = omega arith in
          subst (λ n. get_or (set line 0 first) n 0 ≡ common_length a b (i + 1) (j + n)) (sym zero) (get_or-set_same line 0 first 0 some ∙ start);
      after = λ m more within.
          let other : m ≢ 0 = omega arith in
          let long : length (set line 0 first) ≡ length line = length-set line 0 first in
          get_or-set_other line 0 m first 0 other ∙ line-at a b i j (length line) m line is (omega arith);
    }

pub line-long : (a b : List ℕ) (i j count : ℕ) (line : List ℕ) → line ≡ line_cells a b i j count → length line ≡ count
line-long a b i j count line is = ap length is ∙ length-map-range_with_len (λ k. common_length a b i (j + k)) 0 count

-- a cell of a column
pub column-at : (a b : List ℕ) (i j count m : ℕ) (column : List ℕ) → column ≡ column_cells a b i j count → m < count → get_or column m 0 ≡ common_length a b (i + m) j
column-at a b i j count m column is within = ap (λ xs. get_or xs m 0) is ∙ get_or-map-range_with_len (λ k. common_length a b (i + k) j) 0 count m m 0 within (zero-add m)

pub column-long : (a b : List ℕ) (i j count : ℕ) (column : List ℕ) → column ≡ column_cells a b i j count → length column ≡ count
column-long a b i j count column is = ap length is ∙ length-map-range_with_len (λ k. common_length a b (i + k) j) 0 count

-- one cell of a column more
pub column-more : (a b : List ℕ) (i j k r : ℕ) (now next : List ℕ) → now ≡ column_cells a b i j k → next ≡ now ++ r ∷ [] → r ≡ common_length a b (i + k) j →
    next ≡ column_cells a b i j (k + 1)
column-more a b i j k r now next before push made =
    push ∙ ap (λ xs. xs ++ r ∷ []) before ∙ ap (λ c. column_cells a b i j k ++ c ∷ []) made ∙ sym (map-range_with_len_more (λ m. common_length a b (i + m) j) 0 k k (zero-add k))
