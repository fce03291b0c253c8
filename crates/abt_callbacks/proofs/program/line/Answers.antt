use Rattle.std.proofs.Common.{rules}
use Rattle.abt_callbacks.specs.Seen.{future_of}
use Rattle.abt_callbacks.proofs.program.line.Goals as goal

pub returns : goal.returns
returns g c =
    record {
      future = future_of c.in_ok-closed.closed.object;
      clock = c.in_ok-closed.closed.clock;
      folded = search rules;
      line = search rules;
    }
