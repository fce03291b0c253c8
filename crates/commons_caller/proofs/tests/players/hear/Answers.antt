use Rattle.std.proofs.Common.{subst}
use Rattle.std.specs.List.{All}
use Rattle.std.proofs.lemmas.List.Elements.{All-tail}
use Rattle.abt_unit.specs.Fits.{Fits}
use Rattle.abt_chain.specs.Keeping.{contents_answered}
use Rattle.abt_commons.specs.Acts.{answer_of, owned}
use Rattle.commons_caller.proofs.tests.players.hear.Goals as goal

pub all_kept-requires-clause-fits : goal.all_kept-requires-clause-fits
all_kept-requires-clause-fits c =
    All-tail (Fits c.args.w.now) (owned c.in-Through.unit) c.in-Through.others.units
    (subst (λ answer. All (Fits c.args.w.now) (contents_answered (answer_of answer)).units) c.in-Through.is c.requires.fits)
