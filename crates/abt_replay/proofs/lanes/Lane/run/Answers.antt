use Rattle.std.proofs.Common.{rules}
use Rattle.abt_plans.specs.Dues.{DueIs}
use Rattle.abt_replay.proofs.Running.{end-moves}
use Rattle.abt_replay.proofs.lanes.Lane.run.Goals as goal

pub returns-in_ok-made-in-End : goal.returns-in_ok-made-in-End
returns-in_ok-made-in-End g c =
    let dues : DueIs c.args.w.now c.args.s.0 c.args.self.now.own.mark c.args.unit.number c.args.unit.carried.position c.hand_due.result = search rules in
    λ Z same. end-moves c.args.w.now Z c.args.s.0 c.args.self.now c.args.objects.now c.args.unit c.hand_due.result c.args.said c.end.new.self c.end.new.objects c.requires.tray c.requires.next dues c.in-End.cause c.in_ok-made-in-End.made c.in-End.is c.in_ok-made-in-End.ensures
