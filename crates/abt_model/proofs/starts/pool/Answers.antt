use Rattle.std.proofs.Common.{◌∙◌, ap}
use Rattle.abt_model.proofs.Starting.{pool-more, pool-same}
use Rattle.abt_model.proofs.starts.pool.Goals.{then-starts_in+in_ok-make+in_ok-push_back, else-starts_in}
use Rattle.abt_model.proofs.starts.pool.Goals as goal

pub loop-u-preserved : goal.loop-u-preserved
loop-u-preserved c =
    let W = c.args.w.now in
    let before = c.loop-u.invariant.own in
    record {
      own = elim c.if-starts_in.branch [
        | then-starts_in+in_ok-make+in_ok-push_back w ↦ pool-more W c.args.p.0 c.loop-u.u c.loop-u.units.items c.if-starts_in.units.items before w.in_ok-make.field-0 c.starts_in.result c.starts_in.ensures w.if-starts_in.true w.in_ok-make.ensures (ap (λ us. us.items) w.units-is ∙ w.in_ok-push_back.ensures.items)
        | else-starts_in w ↦ pool-same W c.args.p.0 c.loop-u.u c.loop-u.units.items c.if-starts_in.units.items before c.starts_in.result c.starts_in.ensures w.if-starts_in.false (ap (λ us. us.items) w.units-is)
      ];
      many = c.loop-u.invariant.many;
    }
