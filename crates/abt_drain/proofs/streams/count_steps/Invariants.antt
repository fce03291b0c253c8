-- So far the steps of the streams before are counted.
use Rattle.std.proofs.Common.{◌≡◌, take}
use Rattle.abt_drain.specs.Ends.{steps_left}
use Rattle.abt_drain.proofs.streams.count_steps.Given as goal

abbrev pub invariant-loop-parts : goal.invariant-loop-parts
invariant-loop-parts l = l.count ≡ steps_left (take l.parts-index l.rest)
