use Rattle.std.proofs.Common.{inr, refl}
use Rattle.abt_shell.proofs.Calls.{concluded}
use Rattle.abt_compute.proofs.Ended.{explained}
use Rattle.abt_compute.proofs.program.abtwork.Goals as goal

pub returns-in-Some : goal.returns-in-Some
returns-in-Some g c = λ file_of agree.
    explained _ _ c.in-Some.topic c.in-Some.ensures
    (concluded _ _ tt c.about_text.result.now 0 _ (inr (record { topic = c.in-Some.topic; asks = c.in-Some.ensures; says = c.about_text.ensures })) refl c.write_out.ensures) refl
