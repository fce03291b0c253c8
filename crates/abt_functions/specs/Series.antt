-- Numbers that a rule leads to, a term at a time.
use Rattle.std.specs.Prelude.{ℕ, zero, suc, ◌+◌, ◌*◌, ◌/◌, ◌%◌, ◌^◌, ◌==◌, if◌then◌else◌, nat_le}

-- the term after n of Collatz's sequence, modulo 2^64: half of an even number, three times an odd one and one more
abbrev pub collatz_next : ℕ → ℕ
collatz_next n = if n % 2 == 0 then n / 2 else (3 * n + 1) % 2 ^ 64

-- how many terms lead from n to 1, both counted, or the limit if there are more
abbrev pub terms_to_one : ℕ → ℕ → ℕ
terms_to_one zero n = 0
terms_to_one (suc limit) n = if n == 1 then 1 else suc (terms_to_one limit (collatz_next n))

-- the number of terms of Collatz's sequence from n down to 1, counted to 1,000 at most; no term leads from 0 to 1
abbrev pub collatz : ℕ → ℕ
collatz zero = 0
collatz n = terms_to_one 1000 n

-- the Fibonacci numbers 0, 1, 1, 2, 3, 5, ..
abbrev pub fibonacci : ℕ → ℕ
fibonacci zero = 0
fibonacci (suc zero) = 1
fibonacci (suc (suc n)) = fibonacci (suc n) + fibonacci n

-- the greatest number whose square is at most n: that of n, or one more
abbrev pub square_root : ℕ → ℕ
square_root zero = 0
square_root (suc n) = if nat_le (suc (square_root n) * suc (square_root n)) (suc n) then suc (square_root n) else square_root n
