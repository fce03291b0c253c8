use Rattle.std.proofs.Common.{◌≡◌, replicate}
use Rattle.abt_model.specs.Pictures.{blank}
use Rattle.abt_model.proofs.pictures.blanks.Given as goal

abbrev pub invariant-loop : goal.invariant-loop
invariant-loop l = l.rows.items ≡ replicate l.counter blank
