-- How long a number is in decimal.
use Rattle.std.proofs.Common.{◌≤◌, ◌<◌, ◌^◌, ℕ, arith, decimal, length}
use Rattle.std.proofs.lemmas.Fmt.{length-decimal-le}

-- 64 bits have at most 20 digits
pub few-digits : (n : ℕ) → n < 2 ^ 64 → length (decimal n) ≤ 20
few-digits n fits = length-decimal-le 20 n (omega arith) (omega arith) fits
