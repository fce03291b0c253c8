use Rattle.std.proofs.Common.{refl}
use Rattle.std.specs.Fmt.{digits}
use Rattle.abt_generate.specs.Generated.{generated}
use Rattle.abt_generate.proofs.worked.three.Goals as goal

pub returns : goal.returns
unfolding generated digits
returns c = refl
