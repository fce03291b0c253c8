-- The shapes are those of the stored orders.
use Rattle.std.proofs.Common.{◌∙◌, List, subst, sym}
use Rattle.abt_machine.specs.declared.operations.OrderShape.{OrderShape}
use Rattle.abt_explore.specs.Orders.{KeepsOrder}
use Rattle.abt_explore.proofs.exploring.explore.Goals as goal

pub search_all-requires-clause-keeps_order : goal.search_all-requires-clause-keeps_order
search_all-requires-clause-keeps_order g c = subst (λ (shapes : List OrderShape). KeepsOrder c.args.w.now shapes) (sym (c.deref.ensures.value ∙ c.in_ok-shapes.ensures)) c.requires.keeps_order
