-- So far the events have the first stamps, and are of the stream.
use Rattle.std.proofs.Common.{◌≡◌, map, take}
use Rattle.std.specs.List.{All}
use Rattle.trials_objects.proofs.logs.log.Given as goal

abbrev pub invariant-loop-stamp : goal.invariant-loop-stamp
invariant-loop-stamp l = (map (λ e. e.stamp) l.events.items ≡ take l.stamp-index l.stamps) × All (λ e. e.stream.0 ≡ l.stream) l.events.items
