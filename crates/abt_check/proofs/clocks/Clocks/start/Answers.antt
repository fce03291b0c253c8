use Rattle.std.proofs.Common.{◌∙◌, ap, refl, replicate}
use Rattle.abt_check.proofs.Clocking.{clocks-start}
use Rattle.abt_check.proofs.clocks.Clocks.start.Goals as goal

pub returns : goal.returns
returns c =
    clocks-start c.args.w.now _ refl (c.in_ok-zeros.ensures ∙ ap (λ n. replicate n 0) c.streams.ensures.count) (c.in_ok-zeros-2.ensures ∙ ap (λ n. replicate n 0) c.pools.ensures)
    (c.in_ok-zeros-3.ensures ∙ ap (λ n. replicate n 0) c.units.ensures) (c.in_ok-zeros-4.ensures ∙ ap (λ n. replicate n 0) c.objects.ensures)
