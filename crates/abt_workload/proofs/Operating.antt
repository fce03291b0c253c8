-- Operations made of their numbers.
use Rattle.std.proofs.Common.{◌≡◌, ◌∙◌, ◌+◌, ◌++◌, ℕ, List, [], ◌∷◌, ap, length, option_map, refl}
use Rattle.abt_machine.specs.declared.operations.Op.{Op}
use Rattle.abt_machine.specs.declared.operations.Op.TheVariants as op
use Rattle.abt_machine.specs.Declaring.{Above, at, op_with, said_in, unit_and, with_operation}
use Rattle.abt_machine.specs.Words.{Text}

-- an operation has two numbers at most
two-numbers : (o : Op) (said : ℕ) (ns : List ℕ) → op_with o said (at ns 0 ∷ at ns 1 ∷ []) ≡ op_with o said ns
two-numbers (op.Set n) said ns = refl
two-numbers _ said ns = refl

-- an operation's line, declared in two steps
pub operated : (a mid : Above) (o o' : Op) (said m n : ℕ) (words : List Text) (ns : List ℕ) → mid ≡ record a { said = a.said ++ said_in o words } → said ≡ length a.words + length a.said → m ≡ at ns 0 → n ≡ at ns 1
    → o' ≡ op_with o said (m ∷ n ∷ []) → record mid { last = option_map (unit_and o') mid.last } ≡ with_operation o words ns a
operated a mid o o' said m n words ns e es em en eo =
    let number : ℕ = length a.words + length a.said in
    let here : op_with o said (m ∷ n ∷ []) ≡ op_with o number (at ns 0 ∷ at ns 1 ∷ []) = cc in
    let same : o' ≡ op_with o number ns = eo ∙ (here ∙ two-numbers o number ns) in
    ap (λ (b : Above). record b { last = option_map (unit_and o') b.last }) e ∙ ap (λ (p : Op). record a { last = option_map (unit_and p) a.last; said = a.said ++ said_in o words }) same
