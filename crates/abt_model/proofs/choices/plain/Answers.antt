use Rattle.std.proofs.Common.{None, subst, sym}
use Rattle.std.proofs.lemmas.Result.{IfOk-weaker}
use Rattle.abt_model.specs.Hints.{Tell}
use Rattle.abt_model.proofs.Hinting.{tell-one}
use Rattle.abt_model.proofs.choices.plain.Goals as goal

pub returns : goal.returns
returns c = IfOk-weaker c.one.result _ _ (λ hints is. subst (λ xs. Tell xs None None) (sym is) (tell-one _)) c.one.ensures
