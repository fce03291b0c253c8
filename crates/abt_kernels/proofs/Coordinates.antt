-- Sizes of coordinates, and what the code makes of them in 64 bits.
use Rattle.std.proofs.Common.{◌≡◌, ◌∙◌, ◌+◌, ◌*◌, ◌/◌, ◌^◌, ◌<◌, ◌≤◌, ℕ, zero, suc, true, ap, arith, refl, sym, subst, w64, to_z, of_z}
use Rattle.std.proofs.Math.IntN.{ℤ, pos, negsuc, neg_ℤ, ◌+ℤ◌, ◌-ℤ◌, ◌*ℤ◌}
use Rattle.std.proofs.Math.Nat.{mul-le-mul}
use Rattle.std.proofs.lemmas.Bool.{cases_lt}
use Rattle.std.proofs.lemmas.Int.{ints, fits_signed_from_abs, to_z-of_z, unsigned_abs-mul}
use Rattle.std.specs.Prelude.{◌⊎◌}
use mathlib.Core.Logic.{inl, inr}
use Rattle.std.specs.Int.RustNames.{FitsSigned, int_div, int_le, unsigned_abs}
use borrow.Author.Differences.{up, down}
use Rattle.abt_kernels.specs.Mandelbrot.{is_inside, one, product}
use Rattle.abt_kernels.specs.declared.mandelbrot.Point.{Point}

-- a size as `omega` reads it
pub abs-is : (z : ℤ) → unsigned_abs z ≡ up z + down z
abs-is (pos n) = omega (arith, ints)
abs-is (negsuc n) = omega (arith, ints)

square-is : (a : ℤ) → a *ℤ a ≡ pos (unsigned_abs a * unsigned_abs a)
square-is (pos n) = refl
square-is (negsuc n) = refl

-- a number as 64 bits, read again
abbrev pub coded : ℤ → ℤ
coded z = to_z w64 (of_z w64 z)

-- what fits stays as it is
pub kept : (z : ℤ) → unsigned_abs z < 2 ^ 63 → coded z ≡ z
kept z small = to_z-of_z w64 z (fits_signed_from_abs w64 z small)

-- the size of a product
product-abs : (a b : ℤ) (m n : ℕ) → unsigned_abs a ≤ m → unsigned_abs b ≤ n → unsigned_abs (a *ℤ b) ≤ m * n
product-abs a b m n p q = omega (arith, unsigned_abs-mul a b, mul-le-mul p q)

-- a number with a small square
root-small : (n k : ℕ) → n * n ≤ k * k → n ≤ k
root-small n k squares = by (cases_lt k n) where
  by : (k < n) ⊎ (n ≤ k) → n ≤ k
  by (inr small) = small
  by (inl large) =
      let next : suc k ≤ n = omega arith in
      let above : suc k * suc k ≤ n * n = mul-le-mul next next in
      absurd (omega arith)

quotient-abs : (a : ℤ) (d : ℕ) → unsigned_abs (int_div a (pos d)) ≡ unsigned_abs a / d
quotient-abs (pos n) d = refl
quotient-abs (negsuc n) d = opposite (suc n / d) where
  opposite : (m : ℕ) → unsigned_abs (neg_ℤ (pos m)) ≡ m
  opposite zero = refl
  opposite (suc m) = refl

-- the coordinates of a point within the circle
pub inside-small : (z : Point) → is_inside z ≡ true → (unsigned_abs z.x ≤ 2 * one) × (unsigned_abs z.y ≤ 2 * one)
inside-small z inside =
    let squares : int_le (pos (unsigned_abs z.x * unsigned_abs z.x) +ℤ pos (unsigned_abs z.y * unsigned_abs z.y)) (pos 4 *ℤ pos one *ℤ pos one) ≡ true =
    subst (λ a. int_le (a +ℤ pos (unsigned_abs z.y * unsigned_abs z.y)) (pos 4 *ℤ pos one *ℤ pos one) ≡ true) (square-is z.x)
    (subst (λ b. int_le (z.x *ℤ z.x +ℤ b) (pos 4 *ℤ pos one *ℤ pos one) ≡ true) (square-is z.y) inside) in
    let total : unsigned_abs z.x * unsigned_abs z.x + unsigned_abs z.y * unsigned_abs z.y ≤ 1125899906842624 = omega (arith, ints) in
    (root-small (unsigned_abs z.x) (2 * one) (omega arith), root-small (unsigned_abs z.y) (2 * one) (omega arith))

pub product-small : (a b : ℤ) → unsigned_abs a ≤ 2 * one → unsigned_abs b ≤ 2 * one → unsigned_abs (product a b) ≤ 4 * one
product-small a b p q =
    let size : unsigned_abs (a *ℤ b) ≤ 1125899906842624 = product-abs a b (2 * one) (2 * one) p q in
    omega (arith, quotient-abs (a *ℤ b) one)

-- the product of two coordinates of points within the circle, as the code has it
pub product-kept : (a b r : ℤ) → unsigned_abs a ≤ 2 * one → unsigned_abs b ≤ 2 * one → r ≡ product (coded a) (coded b) → (r ≡ product a b) × (unsigned_abs r ≤ 4 * one)
product-kept a b r p q is =
    let same : r ≡ product a b = is ∙ (ap (λ k. product k (coded b)) (kept a (omega arith)) ∙ ap (product a) (kept b (omega arith))) in
    (same, subst (λ k. unsigned_abs k ≤ 4 * one) (sym same) (product-small a b p q))

-- What the code computes.

pub inside-code : (x y : ℤ) → unsigned_abs x ≤ 16 * one → unsigned_abs y ≤ 16 * one → int_le (coded (coded (coded x *ℤ coded x) +ℤ coded (coded y *ℤ coded y))) (pos 1125899906842624) ≡ int_le (x *ℤ x +ℤ y *ℤ y) (pos 1125899906842624)
inside-code x y p q =
    let xx : unsigned_abs (x *ℤ x) ≤ 72057594037927936 = product-abs x x (16 * one) (16 * one) p p in
    let yy : unsigned_abs (y *ℤ y) ≤ 72057594037927936 = product-abs y y (16 * one) (16 * one) q q in
    let total : unsigned_abs (x *ℤ x +ℤ y *ℤ y) ≤ 144115188075855872 = omega (arith, ints, abs-is (x *ℤ x), abs-is (y *ℤ y), abs-is (x *ℤ x +ℤ y *ℤ y)) in
    simp (kept x (omega arith), kept y (omega arith), kept (x *ℤ x) (omega arith), kept (y *ℤ y) (omega arith), kept (x *ℤ x +ℤ y *ℤ y) (omega arith))

-- the real part of a step, from two squares
real-sizes : (a b c : ℤ) → unsigned_abs a ≤ 4 * one → unsigned_abs b ≤ 4 * one → unsigned_abs c ≤ 3 * one → (unsigned_abs (a -ℤ b) ≤ 8 * one) × (unsigned_abs (a -ℤ b +ℤ c) ≤ 11 * one)
real-sizes a b c p q r =
    let less : unsigned_abs (a -ℤ b) ≤ 8 * one = omega (arith, ints, abs-is a, abs-is b, abs-is (a -ℤ b)) in
    (less, omega (arith, ints, abs-is (a -ℤ b), abs-is c, abs-is (a -ℤ b +ℤ c)))

pub real-code : (a b c : ℤ) → unsigned_abs a ≤ 4 * one → unsigned_abs b ≤ 4 * one → unsigned_abs c ≤ 3 * one → coded (coded (coded a -ℤ coded b) +ℤ coded c) ≡ a -ℤ b +ℤ c
real-code a b c p q r =
    let sizes = real-sizes a b c p q r in
    simp (kept a (omega arith), kept b (omega arith), kept c (omega arith), kept (a -ℤ b) (omega arith), kept (a -ℤ b +ℤ c) (omega arith))

pub real-fits : (a b c : ℤ) → unsigned_abs a ≤ 4 * one → unsigned_abs b ≤ 4 * one → unsigned_abs c ≤ 3 * one → FitsSigned w64 (coded (coded a -ℤ coded b) +ℤ coded c)
real-fits a b c p q r =
    let sizes = real-sizes a b c p q r in
    simp (kept a (omega arith), kept b (omega arith), kept c (omega arith), kept (a -ℤ b) (omega arith)) (fits_signed_from_abs w64 (a -ℤ b +ℤ c) (omega arith))

pub real-near : (a b c : ℤ) → unsigned_abs a ≤ 4 * one → unsigned_abs b ≤ 4 * one → unsigned_abs c ≤ 3 * one → unsigned_abs (coded (coded (coded a -ℤ coded b) +ℤ coded c)) ≤ 16 * one
real-near a b c p q r = let sizes = real-sizes a b c p q r in rw (real-code a b c p q r) (omega arith)

-- the imaginary part, from a product
imaginary-sizes : (a c : ℤ) → unsigned_abs a ≤ 4 * one → unsigned_abs c ≤ 3 * one → (unsigned_abs (pos 2 *ℤ a) ≤ 8 * one) × (unsigned_abs (pos 2 *ℤ a +ℤ c) ≤ 11 * one)
imaginary-sizes a c p r =
    let twice : unsigned_abs (pos 2 *ℤ a) ≤ 8 * one = omega (arith, unsigned_abs-mul (pos 2) a) in
    (twice, omega (arith, ints, abs-is (pos 2 *ℤ a), abs-is c, abs-is (pos 2 *ℤ a +ℤ c)))

pub imaginary-code : (a c : ℤ) → unsigned_abs a ≤ 4 * one → unsigned_abs c ≤ 3 * one → coded (coded (pos 2 *ℤ coded a) +ℤ coded c) ≡ pos 2 *ℤ a +ℤ c
imaginary-code a c p r =
    let sizes = imaginary-sizes a c p r in
    simp (kept a (omega arith), kept c (omega arith), kept (pos 2 *ℤ a) (omega arith), kept (pos 2 *ℤ a +ℤ c) (omega arith))

pub twice-fits : (a : ℤ) → unsigned_abs a ≤ 4 * one → FitsSigned w64 (pos 2 *ℤ coded a)
twice-fits a p =
    let twice : unsigned_abs (pos 2 *ℤ a) ≤ 8 * one = omega (arith, unsigned_abs-mul (pos 2) a) in
    simp (kept a (omega arith)) (fits_signed_from_abs w64 (pos 2 *ℤ a) (omega arith))

pub imaginary-fits : (a c : ℤ) → unsigned_abs a ≤ 4 * one → unsigned_abs c ≤ 3 * one → FitsSigned w64 (coded (pos 2 *ℤ coded a) +ℤ coded c)
imaginary-fits a c p r =
    let sizes = imaginary-sizes a c p r in
    simp (kept a (omega arith), kept c (omega arith), kept (pos 2 *ℤ a) (omega arith)) (fits_signed_from_abs w64 (pos 2 *ℤ a +ℤ c) (omega arith))

pub imaginary-near : (a c : ℤ) → unsigned_abs a ≤ 4 * one → unsigned_abs c ≤ 3 * one → unsigned_abs (coded (coded (pos 2 *ℤ coded a) +ℤ coded c)) ≤ 16 * one
imaginary-near a c p r = let sizes = imaginary-sizes a c p r in rw (imaginary-code a c p r) (omega arith)
