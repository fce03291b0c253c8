-- Each turn that is given back leaves the pass as it is seen.
use Rattle.std.proofs.Common.{sym, subst}
use Rattle.abt_commons.specs.Splits.{IsPassOf}
use Rattle.abt_commons.proofs.split.Split.give_all_back.Goals as goal

pub rest_at-requires : goal.rest_at-requires
rest_at-requires g c = record { pass = subst (IsPassOf c.args.self.now) (sym c.loop.invariant) c.requires.pass }
