use Rattle.std.proofs.Common.{rules, sym, subst}
use Rattle.abt_calls.specs.Starts.{start_desk, start_pool}
use Rattle.abt_model.specs.Starts.{AreObjectsAtStart, slot_at}
use Rattle.abt_model.proofs.Numbered.{made-numbered}
use Rattle.abt_model.proofs.starts.objects.Goals as goal

pub returns : goal.returns
returns c = subst (AreObjectsAtStart c.args.w.now) (sym c.new.ensures) (record {
  pools = made-numbered _ (start_pool c.args.w.now) _ _ _ c.pools.ensures (λ p pool one. search rules) c.in_ok-pools.ensures;
  desks = made-numbered _ (start_desk c.args.w.now) _ _ _ c.units.ensures (λ u desk one. search rules) c.in_ok-desks.ensures;
  slots = made-numbered _ (slot_at c.args.w.now) _ _ _ c.objects.ensures (λ x slot one. search rules) c.in_ok-slots.ensures;
})
