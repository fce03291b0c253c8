-- How a step changes what a unit carries.
use Rattle.std.specs.Prelude.{ℕ, zero, suc, ◌+◌, ◌-◌, ◌*◌, ◌/◌, ◌%◌, ◌^◌, ◌==◌, if◌then◌else◌, [], ◌∷◌, ◌++◌, length, max, min, nat_lt, replicate, slice_index, slice_set}
use Rattle.std.specs.Int.Bits.{bit_and, bit_or, bit_xor}
use Rattle.abt_machine.specs.declared.events.Code.{Code}
use Rattle.abt_machine.specs.declared.events.Piece.{Piece}
use Rattle.abt_machine.specs.declared.events.Piece.TheVariants as piece
use Rattle.abt_machine.specs.declared.operations.Calc.{Calc}
use Rattle.abt_machine.specs.declared.operations.Calc.TheVariants as calc
use Rattle.abt_machine.specs.Numbers.{truth}
use Rattle.abt_machine.specs.State.{Carried}

-- the position rises at each step, even at one that is refused, yields or blocks
abbrev pub advanced : Carried → Carried
advanced c = record c { position = suc c.position }

abbrev pub with_acc : ℕ → Carried → Carried
with_acc n c = record c { acc = n }

abbrev pub with_home : ℕ → Carried → Carried
with_home p c = record c { home = p }

abbrev pub added : ℕ → Carried → Carried
added n c = with_acc ((c.acc + n) % 2 ^ 64) c

abbrev pub printed : Piece → Carried → Carried
printed x c = record c { output = c.output ++ x ∷ [] }

abbrev pub with_key : ℕ → Carried → Carried
with_key k c = record c { keys = slice_set c.keys k c.acc }

abbrev pub from_key : ℕ → Carried → Carried
from_key k c = with_acc (slice_index c.keys k) c

-- the greatest common divisor, a remainder at a time, at most n of them
abbrev pub divisor_by : ℕ → ℕ → ℕ → ℕ
divisor_by zero a b = a
divisor_by (suc n) a zero = a
divisor_by (suc n) a (suc b) = divisor_by n (suc b) (a % suc b)

-- the greatest common divisor, by Euclid's algorithm
abbrev pub gcd : ℕ → ℕ → ℕ
gcd a b = divisor_by (suc b) a b

-- a number from the accumulator a and a key b; a quotient by 0 is 0, and a remainder by 0 is a
abbrev pub result_of : Calc → ℕ → ℕ → ℕ
result_of calc.Add a b = a + b
result_of calc.Sub a b = a + (2 ^ 64 - b)
result_of calc.Mul a b = a * b
result_of calc.Div a b = if b == 0 then 0 else a / b
result_of calc.Rem a b = if b == 0 then a else a % b
result_of calc.Min a b = min a b
result_of calc.Max a b = max a b
result_of calc.And a b = bit_and a b
result_of calc.Or a b = bit_or a b
result_of calc.Xor a b = bit_xor a b
result_of calc.Eq a b = truth (a == b)
result_of calc.Lt a b = truth (nat_lt a b)
result_of calc.Gcd a b = gcd a b

-- that number modulo 2^64
abbrev pub word_from : Calc → ℕ → ℕ → ℕ
word_from c a b = result_of c a b % 2 ^ 64

-- the accumulator becomes the number from it and from key k
abbrev pub calculated : Calc → ℕ → Carried → Carried
calculated c k carried = with_acc (word_from c carried.acc (slice_index carried.keys k)) carried

-- a refused step goes on, and says why
abbrev pub refused : Code → Carried → Carried
refused c carried = advanced (printed (piece.Refused c) carried)

-- at the beginning of a life, with home p; the output of earlier lives is kept
abbrev pub newborn : ℕ → Carried → Carried
newborn p c = record c { position = 0; acc = 0; keys = replicate (length c.keys) 0; home = p }
