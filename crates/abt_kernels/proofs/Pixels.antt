-- Points and bytes of pictures.
use Rattle.std.proofs.Common.{◌≡◌, ◌∙◌, ◌+◌, ◌*◌, ◌/◌, ◌<◌, ◌≤◌, ℕ, List, [], ◌∷◌, ◌++◌, ap, append_assoc, arith, get_or, length, map, sym, take, zero-add, w64, to_z}
use Rattle.std.proofs.Math.IntN.{pos, ◌-ℤ◌}
use Rattle.std.proofs.Math.Nat.{div-le_of_le-mul, mul-le-mul_left}
use Rattle.std.proofs.lemmas.Int.{ints, to_z_pos}
use Rattle.std.proofs.lemmas.List.{append-nil, map-append, map_push, take_more}
use Rattle.std.proofs.lemmas.List.Folds.{concat-append}
use Rattle.std.proofs.lemmas.List.FromFn.{map-range_with_len_more}
use Rattle.std.specs.Int.RustNames.{unsigned_abs}
use Rattle.std.specs.List.{concat, range_with_len}
use Rattle.abt_kernels.specs.Mandelbrot.{one}
use Rattle.abt_kernels.proofs.Coordinates.{abs-is, coded, kept}

-- one number of a range more
pub range-more : {A : Type 0} (f : ℕ → A) (now next : List A) (k : ℕ) (y : A) → now ≡ map f (range_with_len 0 k) → next ≡ now ++ y ∷ [] → y ≡ f k → next ≡ map f (range_with_len 0 (k + 1))
range-more f now next k y before push made =
    push ∙ (ap (λ ys. ys ++ y ∷ []) before ∙ (ap (λ z. map f (range_with_len 0 k) ++ z ∷ []) made ∙ sym (map-range_with_len_more f 0 k k (zero-add k))))

-- one row more, behind a text
pub row-more : {A B : Type 0} (text now next : List B) (f : ℕ → B) (g : A → List ℕ) (rows : List A) (i : ℕ) (d row : A) → i < length rows → row ≡ get_or rows i d → now ≡ text ++ map f (concat (map g (take i rows))) → next ≡ now ++ map f (g row) → next ≡ text ++ map f (concat (map g (take (i + 1) rows)))
row-more text now next f g rows i d row lt is before push =
    let last : concat (g (get_or rows i d) ∷ []) ≡ g row = append-nil (g (get_or rows i d)) ∙ ap g (sym is) in
    let joined : concat (map g (take (i + 1) rows)) ≡ concat (map g (take i rows)) ++ g row =
    ap (λ xs. concat (map g xs)) (take_more rows i d lt) ∙ (ap concat (map_push g (take i rows) (get_or rows i d)) ∙
    (concat-append (map g (take i rows)) (g (get_or rows i d) ∷ []) ∙ ap (λ xs. concat (map g (take i rows)) ++ xs) last)) in
    let bytes : map f (concat (map g (take (i + 1) rows))) ≡ map f (concat (map g (take i rows))) ++ map f (g row) =
    ap (map f) joined ∙ map-append f (concat (map g (take i rows))) (g row) in
    push ∙ (ap (λ ys. ys ++ map f (g row)) before ∙ (append_assoc text (map f (concat (map g (take i rows)))) (map f (g row)) ∙ ap (λ ys. text ++ ys) (sym bytes)))

-- how far a pixel is from the first of its line or column, where the last is at 2 * half
pub offset-small : (half at size : ℕ) → at < size → 2 * half * at / (2 * size) ≤ half
offset-small half at size below =
    div-le_of_le-mul (2 * size) (grind (arith, mul-le-mul_left))

-- the coordinate at an offset, if 0 is the middle
pub coordinate-small : (offset middle : ℕ) → offset ≤ middle + 3 * one → middle ≤ 3 * one → unsigned_abs (coded (to_z w64 offset -ℤ pos middle)) ≤ 3 * one
coordinate-small offset middle right left =
    let wide : to_z w64 offset ≡ pos offset = to_z_pos w64 offset (omega arith) in
    let size : unsigned_abs (pos offset -ℤ pos middle) ≤ 3 * one = omega (arith, ints, abs-is (pos offset -ℤ pos middle)) in
    rw (wide, kept (pos offset -ℤ pos middle) (omega arith)) size
