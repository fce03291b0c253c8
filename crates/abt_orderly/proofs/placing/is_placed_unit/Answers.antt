use Rattle.std.proofs.Common.{◌≤◌, below_more, subst, sym, ◌∙◌}
use Rattle.std.proofs.lemmas.Bool.{false≢true}
use Rattle.abt_orderly.specs.Listing.{IsPlacedAt}
use Rattle.abt_orderly.proofs.Placed.{all-placed}
use Rattle.abt_orderly.proofs.placing.is_placed_unit.Goals as goal

pub returns-then-not-is_placed_at : goal.returns-then-not-is_placed_at
returns-then-not-is_placed_at c = (λ t. absurd (false≢true t), λ placed. absurd (false≢true (sym c.if-not-is_placed_at.true ∙ c.is_placed_at.ensures.1 (placed.ops c.loop-k.k))))

pub loop-k-preserved : goal.loop-k-preserved
loop-k-preserved c = below_more (IsPlacedAt c.args.w.now c.args.u.0) c.loop-k.k c.loop-k.invariant (c.is_placed_at.ensures.0 c.if-not-is_placed_at.false)

pub returns : goal.returns
returns c = (
  λ t. record {
    ops = all-placed c.args.w.now c.args.u.0 c.loop-k.k (subst (λ n. n ≤ c.loop-k.k) c.ops_count-k-end.ensures c.loop-k-test.false) c.loop-k.invariant;
    starts = c.starts_well.ensures.0 t;
  },
  λ placed. c.starts_well.ensures.1 placed.starts,
)
