use Rattle.std.proofs.Common.{sym, ◌∙◌}
use Rattle.std.proofs.lemmas.Bool.{false≢true}
use Rattle.abt_orderly.proofs.Ranks.{orderly-over, orderly-placed, over-orderly}
use Rattle.abt_orderly.proofs.deciding.is_orderly.Goals as goal

pub returns-then-not-has_placed_units : goal.returns-then-not-has_placed_units
returns-then-not-has_placed_units c = (
  λ t. absurd (false≢true t),
  λ orderly. absurd (false≢true (sym c.if-not-has_placed_units.true ∙ c.has_placed_units.ensures.1 (orderly-placed c.args.w.now orderly))),
)

pub returns : goal.returns
returns c = (
  λ t. orderly-over c.args.w.now c.known.ensures c.pass_all.new.self c.in_ok-pass_all.ensures.passes (c.is_over.ensures.0 t) c.requires
      (c.has_placed_units.ensures.0 c.if-not-has_placed_units.false),
  λ orderly. c.is_over.ensures.1 (over-orderly c.args.w.now c.known.ensures c.pass_all.new.self c.in_ok-pass_all.ensures orderly),
)
