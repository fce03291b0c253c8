use Rattle.std.proofs.Common.{arith}
use Rattle.abt_laws.proofs.SoundStart.{start-is-sound}
use Rattle.abt_schedule.proofs.Counting.{none-made}
use Rattle.abt_schedule.proofs.reached.Reached.start.Goals as goal

pub returns : goal.returns
returns c = λ Z stored. record {
  run = tt;
  state = record { sound = start-is-sound c.args.w.now Z c.requires stored; rounds = λ s. (omega arith, tt) };
  stands = c.in_ok-model.ensures;
  made = none-made c.args.w.now.streams c.streams.result c.in_ok-made.made.items c.in_ok-made.ensures c.streams.ensures.count;
}
