use Rattle.std.proofs.Common.{sym, ◌∙◌}
use Rattle.abt_flow.proofs.Clearing.{clears-past}
use Rattle.abt_flow.proofs.confluence.Seen.look_at.Goals as goal

pub returns-in_default : goal.returns-in_default
returns-in_default c = clears-past c.args.w.now c.args.u.0 c.args.k c.args.self.now c.requires.clear (sym c.op.ensures ∙ c.in_default.is)
