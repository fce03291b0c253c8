use Rattle.std.proofs.Common.{◌≡◌, ◌∙◌}
use Rattle.std.specs.Prelude.{◌%◌, ◌^◌}
use Rattle.std.proofs.lemmas.Result.{IfOk-weaker}
use Rattle.abt_graph.specs.Shapes.{mapped, word_sum}
use Rattle.abt_kernels.specs.Queens.{completions_or_sum, queens}
use Rattle.abt_kernels.proofs.Counting.{queens-counted}
use Rattle.abt_kernels.proofs.queens.count_queens.Goals as goal

pub returns : goal.returns
returns g c =
    IfOk-weaker c.run_sum.result (λ sum. sum ≡ word_sum (mapped (completions_or_sum c.args.n) c.args.n 0)) (λ count. count ≡ queens c.args.n % 2 ^ 64)
    (λ sum is. is ∙ queens-counted c.args.n c.requires.some) c.run_sum.ensures
