use Rattle.std.proofs.Common.{◌≡◌, ◌<◌, ◌%◌, ◌∙◌, ℕ, zero, suc, arith, rules}
use Rattle.std.proofs.Math.Nat.{mod-lt}
use Rattle.std.proofs.lemmas.Nat.Gcd.{IsGcd-from_mod}
use Rattle.abt_machine.specs.Carrying.{gcd}
use Rattle.abt_machine.proofs.Divisors.{same-divisor}
use Rattle.abt_machine.proofs.operations.+gcd.Goals as goal

pub returns-else-b-eq0-clause-euclid : goal.returns-else-b-eq0-clause-euclid
returns-else-b-eq0-clause-euclid t c =
    by c.args.a c.args.b c.gcd.result (search rules) c.gcd.ensures.euclid where
      by : (a b g : ℕ) → 0 < b → g ≡ gcd b (a % b) → g ≡ gcd a b
      by a zero g some is = elim some [ ]
      by a (suc b) g some is =
          let less : a % suc b < suc b = mod-lt a some in
          is ∙ same-divisor (suc (a % suc b)) (suc b) (suc b) (a % suc b) (omega arith) less

pub returns-else-b-eq0-clause-greatest : goal.returns-else-b-eq0-clause-greatest
returns-else-b-eq0-clause-greatest t c = IsGcd-from_mod c.args.a c.args.b c.gcd.result c.gcd.ensures.greatest
