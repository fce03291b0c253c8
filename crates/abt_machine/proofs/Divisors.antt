-- Euclid's algorithm needs no more rounds than its second number has.
use Rattle.std.proofs.Common.{◌≡◌, ◌<◌, ◌%◌, ℕ, zero, suc, arith, refl}
use Rattle.std.proofs.Math.Nat.{mod-lt}
use Rattle.abt_machine.specs.Carrying.{divisor_by}

-- any two numbers of rounds that are greater find the same
pub same-divisor : (n m a b : ℕ) → b < n → b < m → divisor_by n a b ≡ divisor_by m a b
same-divisor zero m a b lt ls = elim lt [ ]
same-divisor (suc n) zero a b lt ls = elim ls [ ]
same-divisor (suc n) (suc m) a zero lt ls = refl
same-divisor (suc n) (suc m) a (suc b) lt ls =
    let less : a % suc b < suc b = mod-lt a (omega arith) in
    same-divisor n m (suc b) (a % suc b) (omega arith) (omega arith)
