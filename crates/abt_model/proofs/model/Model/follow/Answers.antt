use Rattle.abt_model.specs.Stored.{stored_with}
use Rattle.abt_model.proofs.Following.{follows-by}
use Rattle.abt_model.proofs.model.Model.follow.Goals as goal

pub returns : goal.returns
returns g c n S state stands =
    follows-by c.args.w.now (stored_with c.args.z.now (g.P.Work.returns c.args.work.now)) n c.args.s.0 S c.in_ok-made.made c.args.what.now c.is_made.result c.make.new.self c.is_made.ensures
    (c.in_ok-made.ensures n S state stands)
