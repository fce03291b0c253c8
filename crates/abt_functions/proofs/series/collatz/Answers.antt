use Rattle.std.proofs.Common.{◌≡◌, ◌<◌, ℕ, zero, suc, rules}
use Rattle.abt_functions.specs.Series.{collatz, terms_to_one}
use Rattle.abt_functions.proofs.series.collatz.Goals as goal

pub returns-else-n-eq0 : goal.returns-else-n-eq0
returns-else-n-eq0 c = by c.args.n c.terms_to_one.result (search rules) c.terms_to_one.ensures.terms where
  by : (n r : ℕ) → 0 < n → r ≡ terms_to_one 1000 n → r ≡ collatz n
  by zero r some is = elim some [ ]
  by (suc n) r some is = is
