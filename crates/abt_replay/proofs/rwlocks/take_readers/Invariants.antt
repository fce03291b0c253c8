use Rattle.std.proofs.Common.{◌≡◌, ◌++◌, length}
use Rattle.abt_machine.specs.RwLocks.{after_readers, all_reading, first_readers}
use Rattle.abt_replay.proofs.rwlocks.take_readers.Given as goal

-- who came out and who is still to come out are the first readers, and so for what each of them changes
abbrev pub invariant-loop-unit : goal.invariant-loop-unit
invariant-loop-unit l = record {
  readers : l.readers.items ++ first_readers l.wishes l.waiters.items ≡ first_readers l.wishes l.fn.waiters.items;
  counts : all_reading (first_readers l.wishes l.waiters.items) l.counts ≡ all_reading (first_readers l.wishes l.fn.waiters.items) l.fn.counts;
  others : after_readers l.wishes l.waiters.items ≡ after_readers l.wishes l.fn.waiters.items;
}

abbrev pub decreases-loop-unit : goal.decreases-loop-unit
decreases-loop-unit l = length l.waiters.items
