-- Sums modulo a number.
use Rattle.std.proofs.Common.{◌≡◌, ◌+◌, ◌%◌, ◌∙◌, ℕ, ap, arith}
use Rattle.std.proofs.Math.Nat.{mod-add-mod}

-- a sum of remainders has the remainder of the sum
pub sum-of-remainders : (m a b : ℕ) → (a % m + b % m) % m ≡ (b + a) % m
sum-of-remainders m a b =
    mod-add-mod a m (b % m)
    ∙ (let swap : a + b % m ≡ b % m + a = omega arith in ap (λ n. n % m) swap)
    ∙ mod-add-mod b m a
