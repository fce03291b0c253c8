-- One stream more.
use Rattle.abt_commons.specs.Held.{object_at}
use Rattle.abt_streams.specs.Looks.{is_live_with}
use Rattle.abt_streams.proofs.Alive.{flags-more, numbers-more}
use Rattle.abt_streams.proofs.living.find_live.Goals as goal

pub loop-s-preserved : goal.loop-s-preserved
loop-s-preserved c =
    let f = is_live_with (object_at c.args.objects.now) c.args.lives.now in
    record {
      flags = flags-more f c.loop-s.s c.loop-s.flags.items c.push.new.self.items c.is_live-lives.result c.loop-s.invariant.flags c.in_ok-push.ensures.items c.is_live-lives.ensures;
      numbers = numbers-more f c.loop-s.s c.loop-s.numbers.items c.push_if.new.numbers.items c.is_live-lives.result c.loop-s.invariant.numbers c.in_ok-push_if.ensures c.is_live-lives.ensures;
      end = c.loop-s.invariant.end;
    }
