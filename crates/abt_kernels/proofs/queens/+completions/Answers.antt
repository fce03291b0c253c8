use Rattle.std.proofs.Common.{rules, ◌≡◌, ◌+◌, ◌%◌, ◌^◌, ◌-◌, ◌∙◌, ℕ, ◌∷◌, ap, true, false, sym, arith}
use Rattle.std.specs.Prelude.{if◌then◌else◌, sum_by}
use Rattle.std.specs.List.{range_with_len}
use Rattle.abt_kernels.specs.Queens.{attacks, columns, completions}
use Rattle.abt_kernels.proofs.Counting.{column-more, words-added}
use Rattle.abt_kernels.proofs.queens.+completions.Goals as goal
use Rattle.abt_kernels.proofs.queens.+completions.Goals.{then-not-attacks, else-not-attacks}

pub loop-column-preserved : goal.loop-column-preserved
loop-column-preserved t c =
    let placed = columns c.args.placed.now in
    let f : ℕ → ℕ = λ k. if attacks k 1 placed then 0 else completions c.args.n (c.args.rows - 1) (k ∷ placed) in
    let k = c.loop-column.column in
    let so_far : c.loop-column.count ≡ sum_by f (range_with_len 0 k) % 2 ^ 64 = c.loop-column.invariant in
    elim c.if-not-attacks.branch [
      | then-not-attacks w ↦
          let free : attacks k 1 placed ≡ false = search rules in
          let here : f k ≡ completions c.args.n (c.args.rows - 1) (k ∷ placed) = rw free in
          let word : w.completions-count.result ≡ f k % 2 ^ 64 = w.completions-count.ensures ∙ ap (λ m. m % 2 ^ 64) (sym here) in
          let added : c.if-not-attacks.count ≡ (c.loop-column.count + w.completions-count.result) % 2 ^ 64 = search rules in
          added ∙ (words-added c.loop-column.count (sum_by f (range_with_len 0 k)) w.completions-count.result (f k) so_far word ∙ ap (λ m. m % 2 ^ 64) (sym (column-more f k)))
      | else-not-attacks w ↦
          let hit : attacks k 1 placed ≡ true = search rules in
          let here : f k ≡ 0 = rw hit in
          let kept : c.if-not-attacks.count ≡ c.loop-column.count = w.count-is in
          kept ∙ (so_far ∙ ap (λ m. m % 2 ^ 64) (sym (let none : sum_by f (range_with_len 0 k) + f k ≡ sum_by f (range_with_len 0 k) = omega (arith, here) in column-more f k ∙ none)))
    ]
