use Rattle.std.proofs.Common.{◌≡◌, ◌∙◌, codes, subst}
use Rattle.std.specs.Prelude.{◌%◌, ◌^◌}
use Rattle.abt_kernels.specs.Queens.{queens}
use Rattle.abt_shell.proofs.Calls.{if-ok}
use Rattle.abt_compute.specs.Answers.{count_line}
use Rattle.abt_compute.proofs.Few.{queens-fit}
use Rattle.abt_compute.proofs.answers.queens.Goals as goal

pub returns : goal.returns
returns g c =
    let ways : c.in_ok-ways.ways ≡ queens c.args.n % 2 ^ 64 = c.in_ok-ways.ensures in
    if-ok c.count_line.result _ _ (λ text is. subst (λ k. text.items ≡ count_line (codes "queens") k) (ways ∙ queens-fit c.args.n c.requires.few.1) is) c.count_line.ensures
