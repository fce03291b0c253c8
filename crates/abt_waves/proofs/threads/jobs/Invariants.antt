-- The jobs so far, and the streams, passes and flags that are left.
use Rattle.std.proofs.Common.{◌≡◌, ◌++◌, length}
use Rattle.std.specs.Slice.Iter.{iter_rest}
use Rattle.std.specs.Vec.Iter.{into_iter_items}
use Rattle.abt_waves.specs.Jobs.{jobs_of}
use Rattle.abt_waves.proofs.threads.jobs.Given as goal

abbrev pub invariant-streams : goal.invariant-streams
invariant-streams g l = record {
  next : (goal.iterator-streams g).can_next l.stream-iterator;
  finite : (goal.iterator-streams g).is_finite l.stream-iterator;
  jobs : l.jobs.items ++ jobs_of l.locks (into_iter_items l.stream-iterator) (into_iter_items l.left) (iter_rest l.flags) ≡ jobs_of l.fn.locks l.fn.streams.items l.fn.passes.items l.fn.live;
  passes : length (into_iter_items l.stream-iterator) ≡ length (into_iter_items l.left);
  flags : length (into_iter_items l.stream-iterator) ≡ length (iter_rest l.flags);
}
