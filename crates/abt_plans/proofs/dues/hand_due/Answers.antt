use Rattle.std.proofs.Common.{subst, sym}
use Rattle.abt_plans.specs.declared.dues.Mark.{Mark}
use Rattle.abt_plans.specs.Dues.{DueIs}
use Rattle.abt_plans.specs.Marks.{mark_of}
use Rattle.abt_plans.proofs.dues.hand_due.Goals as goal

pub returns-in-Left : goal.returns-in-Left
returns-in-Left c = subst (λ (m : Mark). DueIs c.args.w.now c.args.s.0 (mark_of m) c.args.unit.0 c.args.position c.left.result) (sym c.in-Left.is) (c.left.ensures c.args.s.0)
