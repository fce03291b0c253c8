use Rattle.std.proofs.Common.{◌≡◌, ◌++◌, take}
use Rattle.abt_lives.specs.Lives.{waves_text}
use Rattle.abt_lives.proofs.waves.push_waves.Given as goal

abbrev pub invariant-loop-i : goal.invariant-loop-i
invariant-loop-i l = l.out.items ≡ l.fn.out.items ++ waves_text (take l.i l.waves)
