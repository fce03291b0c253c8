-- Steps of a point until it leaves the circle.
use Rattle.std.proofs.Common.{◌≡◌, ◌∙◌, ◌+◌, ◌-◌, ◌<◌, ◌≤◌, ℕ, zero, suc, Bool, true, false, ap, arith, refl, subst, sym, zero-add}
use Rattle.std.specs.Prelude.{if◌then◌else◌}
use Rattle.abt_kernels.specs.Mandelbrot.{IsEscapeTime, escape_time, is_inside, iterate, next, origin, steps_to_leave}
use Rattle.abt_kernels.specs.declared.mandelbrot.Point.{Point}

-- no step is counted where the limit is reached, or outside
pub none-at-limit : (c z : Point) → steps_to_leave c z 0 ≡ 0
unfolding steps_to_leave
none-at-limit c z = refl

outside : (c z : Point) (limit : ℕ) → is_inside z ≡ false → steps_to_leave c z (suc limit) ≡ 0
unfolding steps_to_leave
outside c z limit is = ap (λ b. if b then suc (steps_to_leave c (next c z) limit) else 0) is

inside : (c z : Point) (limit : ℕ) → is_inside z ≡ true → steps_to_leave c z (suc limit) ≡ suc (steps_to_leave c (next c z) limit)
unfolding steps_to_leave
inside c z limit is = ap (λ b. if b then suc (steps_to_leave c (next c z) limit) else 0) is

-- what is counted to the end, if z is outside after n steps
pub counted-outside : (c z : Point) (n all : ℕ) → n < 255 → is_inside z ≡ false → n + steps_to_leave c z (255 - n) ≡ all → n ≡ all
counted-outside c z n all below is counted =
    let left : 255 - n ≡ suc (254 - n) = omega arith in
    let none : steps_to_leave c z (255 - n) ≡ 0 = ap (steps_to_leave c z) left ∙ outside c z (254 - n) is in
    omega arith

-- it stays the same by a step from inside
pub counted-inside : (c z : Point) (n all : ℕ) → n < 255 → is_inside z ≡ true → n + steps_to_leave c z (255 - n) ≡ all → n + 1 + steps_to_leave c (next c z) (255 - (n + 1)) ≡ all
counted-inside c z n all below is counted =
    let left : 255 - n ≡ suc (254 - n) = omega arith in
    let same : 255 - (n + 1) ≡ 254 - n = omega arith in
    let more : steps_to_leave c z (255 - n) ≡ suc (steps_to_leave c (next c z) (254 - n)) = ap (steps_to_leave c z) left ∙ inside c z (254 - n) is in
    let rest : steps_to_leave c (next c z) (255 - (n + 1)) ≡ steps_to_leave c (next c z) (254 - n) = ap (steps_to_leave c (next c z)) same in
    omega arith

-- Escape times.

few-steps : (c z : Point) (limit : ℕ) → steps_to_leave c z limit ≤ limit
few-steps c z zero = omega (arith, none-at-limit c z)
few-steps c z (suc limit) = by (few-steps c (next c z) limit) (is_inside z) refl where
  by : steps_to_leave c (next c z) limit ≤ limit → (b : Bool) → is_inside z ≡ b → steps_to_leave c z (suc limit) ≤ suc limit
  by few true is = omega (arith, inside c z limit is)
  by few false is = omega (arith, outside c z limit is)

-- the points before the last, from the nth on
abbrev Stays : Point → ℕ → ℕ → Type 0
Stays c n limit = (k : ℕ) → k < steps_to_leave c (iterate c n) limit → is_inside (iterate c (n + k)) ≡ true

stays-inside : (c : Point) (n limit : ℕ) → Stays c n limit
stays-inside c n zero k below = absurd (omega (arith, none-at-limit c (iterate c n)))
stays-inside c n (suc limit) k below = by (stays-inside c (suc n) limit) (is_inside (iterate c n)) refl k below where
  by : Stays c (suc n) limit → (b : Bool) → is_inside (iterate c n) ≡ b → Stays c n (suc limit)
  by rest false is k below = absurd (omega (arith, outside c (iterate c n) limit is))
  by rest true is zero below = let same : n + 0 ≡ n = omega arith in subst (λ m. is_inside (iterate c m) ≡ true) (sym same) is
  by rest true is (suc k) below =
      let same : n + suc k ≡ suc n + k = omega arith in
      let less : k < steps_to_leave c (iterate c (suc n)) limit = omega (arith, inside c (iterate c n) limit is) in
      subst (λ m. is_inside (iterate c m) ≡ true) (sym same) (rest k less)

-- the last point
abbrev Leaves : Point → ℕ → ℕ → Type 0
Leaves c n limit = steps_to_leave c (iterate c n) limit < limit → is_inside (iterate c (n + steps_to_leave c (iterate c n) limit)) ≡ false

leaves-then : (c : Point) (n limit : ℕ) → Leaves c n limit
leaves-then c n zero below = absurd (omega arith)
leaves-then c n (suc limit) below = by (leaves-then c (suc n) limit) (is_inside (iterate c n)) refl below where
  by : Leaves c (suc n) limit → (b : Bool) → is_inside (iterate c n) ≡ b → Leaves c n (suc limit)
  by rest false is below =
      let same : n + steps_to_leave c (iterate c n) (suc limit) ≡ n = omega (arith, outside c (iterate c n) limit is) in
      subst (λ m. is_inside (iterate c m) ≡ false) (sym same) is
  by rest true is below =
      let more : steps_to_leave c (iterate c n) (suc limit) ≡ suc (steps_to_leave c (iterate c (suc n)) limit) = inside c (iterate c n) limit is in
      let same : n + steps_to_leave c (iterate c n) (suc limit) ≡ suc n + steps_to_leave c (iterate c (suc n)) limit = omega arith in
      subst (λ m. is_inside (iterate c m) ≡ false) (sym same) (rest (omega arith))

pub is-escape-time : (c : Point) → IsEscapeTime c (escape_time c)
is-escape-time c = record {
  few = few-steps c origin 255;
  stays = λ k below. subst (λ m. is_inside (iterate c m) ≡ true) (zero-add k) (stays-inside c 0 255 k below);
  leaves = λ below. subst (λ m. is_inside (iterate c m) ≡ false) (zero-add (escape_time c)) (leaves-then c 0 255 below);
}
