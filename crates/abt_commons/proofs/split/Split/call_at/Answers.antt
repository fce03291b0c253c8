-- A call by a turn that was taken for it.
use Rattle.std.proofs.Common.{ap}
use Rattle.abt_commons.specs.declared.split.SplitPass.{SplitPass}
use Rattle.abt_commons.proofs.Asking.{asks-then, in-turns}
use Rattle.abt_commons.proofs.split.Split.call_at.Goals as goal

pub returns : goal.returns
returns g c =
    let pass = c.args.pass.now in
    let same = c.settle_at.ensures.same in
    let lt = in-turns c.args.self.now.booths pass.turns.items pass.stream c.requires.pass c.args.number c.requires.number c.args.booth.now c.requires.booth in
    record {
      asks = asks-then c.args.booth.now c.args.number pass c.take_at.new.pass c.settle_at.new.pass lt c.take_at.ensures.takes c.index_mut-2.result.now c.call-called.new.self c.index_mut-2.ensures.value
          (ap (λ (p : SplitPass). p.stream) same) (ap (λ (p : SplitPass). p.turns.items) same) c.call-called.ensures.booth c.call-called.ensures.number c.args.at c.args.act c.call-called.result c.call-called.ensures.reply;
    }
