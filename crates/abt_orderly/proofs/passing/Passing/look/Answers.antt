use Rattle.std.proofs.Common.{arith, inl, inr, subst, sym}
use Rattle.std.proofs.lemmas.Bool.{cases_eq}
use Rattle.abt_orderly.specs.Passing.{IsSeen}
use Rattle.abt_orderly.proofs.passing.Passing.look.Goals as goal

pub returns-else-may_pass : goal.returns-else-may_pass
returns-else-may_pass c = record {
  all = record {
    passes = c.requires.passes;
    seen = λ v l. elim (cases_eq v c.args.u.0) [
      | inl same ↦ subst (IsSeen c.args.w.now c.args.self.now) (sym same) (inr c.if-may_pass.ensures)
      | inr other ↦ c.requires.others v l other
    ];
  };
  left = omega arith;
}
