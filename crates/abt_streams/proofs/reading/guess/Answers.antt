use Rattle.std.proofs.Common.{subst}
use Rattle.std.specs.Str.{IsUtf8}
use Rattle.abt_streams.proofs.Words.{is-text}
use Rattle.abt_streams.proofs.reading.guess.Goals as goal

pub returns-in_default : goal.returns-in_default
returns-in_default c = λ life fits is. absurd (c.in_default.ensures.cases.0 (subst IsUtf8 is (is-text life fits)))
