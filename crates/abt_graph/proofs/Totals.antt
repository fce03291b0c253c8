-- The last value of a reduction is the total of its leaves.
use Rattle.std.proofs.Common.{◌≡◌, ℕ, zero, suc, ◌+◌, ◌-◌, ◌*◌, ◌<◌, ◌≤◌, List, [], ◌∷◌, ◌++◌, length, get_or, take, drop, refl, sym, ◌∙◌, ap, arith, zero-add}
use Rattle.std.specs.Prelude.{slice_index}
use Rattle.std.proofs.Math.Nat.{min-eq_left, min-eq_right}
use Rattle.std.proofs.Math.Seq.{take-add}
use Rattle.std.proofs.lemmas.List.{get_or-drop, length-take-le, take_more}
use Rattle.std.proofs.lemmas.Option.{get_or_from_slice_get}
use Rattle.abt_flow.specs.Flow.{Functions}
use Rattle.abt_graph.specs.Graphs.{returned}
use Rattle.abt_graph.specs.Shapes.{IsReduction, IsTotal, ReturnsTotal, inner_count, mapped, taken_count}

drop-both : (m n : ℕ) (xs : List ℕ) → drop m (drop n xs) ≡ drop (n + m) xs
drop-both m zero xs = ap (λ k. drop k xs) (sym (zero-add m))
drop-both m (suc n) [] = drop-none m ∙ sym (drop-none (suc n + m))
  where
    drop-none : (k : ℕ) → ◌≡◌ {A = List ℕ} (drop k []) []
    drop-none zero = refl
    drop-none (suc k) = refl
drop-both m (suc n) (x ∷ xs) = drop-both m n xs ∙ ap (λ k. drop k (x ∷ xs)) (let e : suc (n + m) ≡ suc n + m = omega arith in e)

length-dropped : (n : ℕ) (xs : List ℕ) → length (drop n xs) ≡ length xs - n
length-dropped zero xs = let e : length xs ≡ length xs - 0 = omega arith in e
length-dropped (suc n) [] = let e : 0 ≡ 0 - suc n = omega arith in e
length-dropped (suc n) (x ∷ xs) = length-dropped n xs ∙ (let e : length xs - n ≡ suc (length xs) - suc n = omega arith in e)

module _ (R : Functions) (n f g : ℕ) (total : List ℕ → ℕ) (is : IsTotal total) (returns : ReturnsTotal R g total) (values : List ℕ) (reduced : IsReduction R n f g values) where
  -- the values that the first j inner nodes, and the leaves, have left
  abbrev left_by : ℕ → List ℕ
  left_by j = take (n + j - 16 * j) (drop (16 * j) values)

  -- an inner node has the total of what it takes
  inner-total : (j : ℕ) → j < inner_count n → 16 * j + taken_count n j ≤ n + j → taken_count n j ≤ 16 → slice_index values (n + j) ≡ total (take (taken_count n j) (drop (16 * j) values))
  inner-total j below within few =
      let long : length values ≡ n + inner_count n = reduced.one_each in
      let rest : length (drop (16 * j) values) ≡ length values - 16 * j = length-dropped (16 * j) values in
      let taken : List ℕ = take (taken_count n j) (drop (16 * j) values) in
      let count : length taken ≡ taken_count n j = length-take-le (taken_count n j) (drop (16 * j) values) (omega arith) in
      get_or_from_slice_get values (n + j) (returned R g (n + j) taken) 0 (reduced.inners j below) ∙ returns (n + j) taken (omega arith)

  -- it leaves the total as it is
  total-kept : (j : ℕ) → j + 1 < inner_count n → total (left_by (j + 1)) ≡ total (left_by j)
  total-kept j below =
      let long : length values ≡ n + inner_count n = reduced.one_each in
      let a : ℕ = 16 * j in
      let l : ℕ = n + j - 16 * j in
      let enough : 16 ≤ l = omega arith in
      let sixteen : taken_count n j ≡ 16 = min-eq_left {n = 16} {m = l} enough in
      let v : ℕ = slice_index values (n + j) in
      let rest : length (drop (a + 16) values) ≡ length values - (a + 16) = length-dropped (a + 16) values in
      let back : List ℕ = take (l - 16) (drop (a + 16) values) in
      let front : List ℕ = take 16 (drop a values) in
      let value : v ≡ total front = inner-total j (omega arith) (omega arith) (omega arith) ∙ ap (λ k. total (take k (drop a values))) sixteen in
      let both : left_by j ≡ front ++ back =
      ap (λ k. take k (drop a values)) (let e : l ≡ 16 + (l - 16) = omega arith in e) ∙ (take-add 16 (l - 16) (drop a values) ∙ ap (λ xs. front ++ take (l - 16) xs) (drop-both 16 a values)) in
      let read : get_or (drop (a + 16) values) (l - 16) 0 ≡ v = get_or-drop (a + 16) values (l - 16) 0 ∙ ap (slice_index values) (let e : a + 16 + (l - 16) ≡ n + j = omega arith in e) in
      let more : left_by (j + 1) ≡ back ++ v ∷ [] =
      ap (λ k. take (n + (j + 1) - k) (drop k values)) (let e : 16 * (j + 1) ≡ a + 16 = omega arith in e) ∙ (ap (λ k. take k (drop (a + 16) values)) (let e : n + (j + 1) - (a + 16) ≡ (l - 16) + 1 = omega arith in e) ∙
      (take_more (drop (a + 16) values) (l - 16) 0 (omega arith) ∙ ap (λ w. back ++ w ∷ []) read)) in
      ap total more ∙ (ap (λ w. total (back ++ w ∷ [])) value ∙ (is.part back front ∙ (is.turned back front ∙ ap total (sym both))))

  total-left : (j : ℕ) → j < inner_count n → total (left_by j) ≡ total (mapped R n f)
  total-left zero below = ap (λ k. total (take k values)) (let e : n + 0 - 16 * 0 ≡ n = omega arith in e) ∙ ap total reduced.leaves
  total-left (suc j) below = ap (λ k. total (left_by k)) (let e : suc j ≡ j + 1 = omega arith in e) ∙ (total-kept j (omega arith) ∙ total-left j (omega arith))

  -- so the last has the total
  pub last-total : 1 < n → slice_index values (n + inner_count n - 1) ≡ total (mapped R n f)
  last-total two =
      let c : ℕ = inner_count n in
      let j : ℕ = c - 1 in
      let l : ℕ = n + j - 16 * j in
      let few : l ≤ 16 = omega arith in
      let all : taken_count n j ≡ l = min-eq_right {n = l} {m = 16} few in
      ap (slice_index values) (let e : n + c - 1 ≡ n + j = omega arith in e) ∙ (inner-total j (omega arith) (omega arith) (omega arith) ∙ (ap (λ k. total (take k (drop (16 * j) values))) all ∙ total-left j (omega arith)))
