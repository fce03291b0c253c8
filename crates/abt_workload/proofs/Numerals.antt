-- A number, digit by digit.
use Rattle.std.proofs.Common.{◌≡◌, ◌<◌, ◌≤◌, ◌+◌, ◌-◌, ◌*◌, ◌==◌, ◌&&◌, ℕ, true, false, List, [], ◌∷◌, length, Option, Some, None, if◌then◌else◌, nat_lt, refl, ap, sym, ◌∙◌, arith, rules, tests, drop, get_or, drop-cons, add-one}
use Rattle.std.specs.Char.{is_ascii_digit}
use Rattle.std.specs.Str.{all_ascii_digits}
use Rattle.abt_machine.specs.Spelling.{value_from}
use Rattle.abt_workload.specs.Slots.{number_in}

-- the number that the digits make after n
abbrev pub number_from : ℕ → List ℕ → Option ℕ
number_from n ds = if all_ascii_digits ds && nat_lt (value_from n ds) 18446744073709551616 then Some (value_from n ds) else None

pub number-digit : (n d : ℕ) (ds : List ℕ) → is_ascii_digit d ≡ true → number_from n (d ∷ ds) ≡ number_from (n * 10 + (d - 48)) ds
number-digit n d ds e = rw e refl

pub value-grows : (n : ℕ) (ds : List ℕ) → n ≤ value_from n ds
value-grows n [] = omega arith
value-grows n (d ∷ ds) = let h = value-grows (n * 10 + (d - 48)) ds in omega (arith, h)

pub number-too-big : (n : ℕ) (ds : List ℕ) → 18446744073709551616 ≤ n → number_from n ds ≡ None
number-too-big n ds le = let h = value-grows n ds in grind (arith, h)

pub number-whole : (word : List ℕ) → 0 < length word → number_in word ≡ number_from 0 word
number-whole [] some = absurd (omega arith)
number-whole (d ∷ ds) some = let one : (length (d ∷ ds) == 0) ≡ false = search (rules, tests) in rw one refl

front : (word : List ℕ) (k : ℕ) → k < length word → drop k word ≡ get_or word k 0 ∷ drop (k + 1) word
front word k lt = rw (add-one, drop-cons word k 0) refl

pub number-passes : (word : List ℕ) (k n : ℕ) → k < length word → 0 < length word → is_ascii_digit (get_or word k 0) ≡ true → 18446744073709551616 ≤ n * 10 + (get_or word k 0 - 48) → number_from n (drop k word) ≡ number_from 0 word → number_in word ≡ None
number-passes word k n lt some e big so_far = number-whole word some ∙ (sym so_far ∙ (ap (number_from n) (front word k lt) ∙ (number-digit n (get_or word k 0) (drop (k + 1) word) e ∙ number-too-big (n * 10 + (get_or word k 0 - 48)) (drop (k + 1) word) big)))
