use Rattle.abt_generate.proofs.GeneratedParts.{IsValid-generated}
use Rattle.abt_generate.proofs.worked.generated_are_valid.Goals as goal

pub returns : goal.returns
returns c = IsValid-generated
