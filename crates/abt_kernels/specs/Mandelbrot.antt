-- The Mandelbrot set: the points c of the plane for which z := z² + c, begun at 0, stays within the circle of radius 2.
use Rattle.std.specs.Prelude.{ℕ, zero, suc, ℤ, pos, ◌≡◌, ◌+ℤ◌, ◌-ℤ◌, ◌*ℤ◌, ◌*◌, ◌/◌, ◌<◌, ◌≤◌, List, Bool, true, false, if◌then◌else◌, int_le, map}
use Rattle.std.specs.Int.RustNames.{int_div, unsigned_abs}
use Rattle.std.specs.List.{range_with_len}
use Rattle.abt_kernels.specs.declared.mandelbrot.Point.{Point}

-- Points. Coordinates are fixed-point numbers.

-- what stands for 1, which is 2^24
abbrev pub one : ℕ
one = 16777216

-- a product, rounded toward zero
abbrev pub product : ℤ → ℤ → ℤ
product a b = int_div (a *ℤ b) (pos one)

-- a point at most n units from 0 in each coordinate
abbrev pub IsNear : ℕ → Point → Type 0
IsNear n z = (unsigned_abs z.x ≤ n * one) × (unsigned_abs z.y ≤ n * one)

abbrev pub origin : Point
origin = record { x = pos 0; y = pos 0 }

-- z² + c, each product rounded
abbrev pub next : Point → Point → Point
next c z = record { x = product z.x z.x -ℤ product z.y z.y +ℤ c.x; y = pos 2 *ℤ product z.x z.y +ℤ c.y }

-- z is within the circle of radius 2
abbrev pub is_inside : Point → Bool
is_inside z = int_le (z.x *ℤ z.x +ℤ z.y *ℤ z.y) (pos 4 *ℤ pos one *ℤ pos one)

-- Steps.

-- how many steps lead from z out of the circle, this limit if no fewer do
unfoldable pub steps_to_leave : Point → Point → ℕ → ℕ
steps_to_leave c z zero = 0
steps_to_leave c z (suc limit) = if is_inside z then suc (steps_to_leave c (next c z) limit) else 0

-- how many lead from 0, at most 255
abbrev pub escape_time : Point → ℕ
escape_time c = steps_to_leave c origin 255

-- the point that n steps from 0 lead to
abbrev pub iterate : Point → ℕ → Point
iterate c zero = origin
iterate c (suc n) = next c (iterate c n)

-- n steps lead out of the circle, or n is 255, and no fewer do
pub record IsEscapeTime (c : Point) (n : ℕ) : Type 0 where
  pub few : n ≤ 255
  pub stays : (k : ℕ) → k < n → is_inside (iterate c k) ≡ true
  pub leaves : n < 255 → is_inside (iterate c n) ≡ false

-- Pictures, whose columns go from -5/2 to 1, and whose lines go from -5/4 to 5/4.

-- the point of a pixel
abbrev pub point_at : ℕ → ℕ → ℕ → ℕ → Point
point_at width height line column =
    record { x = pos (7 * one * column / (2 * width)) -ℤ pos (5 * one / 2); y = pos (5 * one * line / (2 * height)) -ℤ pos (5 * one / 4) }

-- the escape time of each point of a line
abbrev pub mandelbrot_row : ℕ → ℕ → ℕ → List ℕ
mandelbrot_row width height line = map (λ column. escape_time (point_at width height line column)) (range_with_len 0 width)
