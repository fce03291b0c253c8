-- What is parted so far, and what is left.
use Rattle.std.proofs.Common.{◌≡◌, ◌++◌, map}
use Rattle.std.specs.Vec.Iter.{into_iter_items}
use Rattle.abt_waves.specs.Waves.{pass_in, stop_in, stream_in}
use Rattle.abt_waves.proofs.wave.parted.Given as goal

abbrev pub invariant-returned : goal.invariant-returned
invariant-returned g l = record {
  next : (goal.iterator-returned g).can_next l.back-iterator;
  finite : (goal.iterator-returned g).is_finite l.back-iterator;
  streams : l.streams.items ++ map stream_in (into_iter_items l.back-iterator) ≡ map stream_in l.fn.returned.items;
  passes : l.passes.items ++ map pass_in (into_iter_items l.back-iterator) ≡ map pass_in l.fn.returned.items;
  stops : l.stops.items ++ map stop_in (into_iter_items l.back-iterator) ≡ map stop_in l.fn.returned.items;
}
