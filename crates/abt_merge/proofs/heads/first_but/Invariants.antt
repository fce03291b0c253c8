-- So far the event that comes first of the streams before is known.
use Rattle.std.proofs.Common.{map}
use Rattle.abt_merge.specs.Heads.{FirstOf}
use Rattle.abt_merge.proofs.heads.first_but.Given as goal

abbrev pub invariant-loop-stream : goal.invariant-loop-stream
invariant-loop-stream l = FirstOf (map (λ rest. rest.now) l.rests) l.stream l.but l.first
