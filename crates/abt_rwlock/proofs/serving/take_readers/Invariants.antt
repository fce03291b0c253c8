use Rattle.std.proofs.Common.{◌≡◌, ◌++◌, length}
use Rattle.abt_machine.specs.RwLocks.{after_readers, all_reading, first_readers}
use Rattle.abt_rwlock.proofs.serving.take_readers.Given as goal

-- those who came out and those who are still to come out are the first readers, and so for what each of them changes
abbrev pub invariant-loop-unit : goal.invariant-loop-unit
invariant-loop-unit l = record {
  readers : l.readers.units ++ first_readers l.waiters.wishes l.waiters.units ≡ first_readers l.fn.waiters.wishes l.fn.waiters.units;
  others : after_readers l.waiters.wishes l.waiters.units ≡ after_readers l.fn.waiters.wishes l.fn.waiters.units;
  counts : all_reading (first_readers l.waiters.wishes l.waiters.units) l.holders.counts
      ≡ all_reading (first_readers l.fn.waiters.wishes l.fn.waiters.units) l.fn.holders.counts;
  wishes : l.waiters.wishes ≡ l.fn.waiters.wishes;
  writer : l.holders.writer ≡ l.fn.holders.writer;
}

abbrev pub decreases-loop-unit : goal.decreases-loop-unit
decreases-loop-unit l = length l.waiters.units
