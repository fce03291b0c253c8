use Rattle.std.proofs.Common.{◌≡◌, ap, slice_set, ◌∙◌}
use Rattle.abt_unit.specs.Units.{UnitValue}
use Rattle.abt_rwlock.proofs.Readers.{counts-taken, others-taken, readers-taken}
use Rattle.abt_rwlock.proofs.serving.take_readers.Goals as goal

pub loop-unit-preserved : goal.loop-unit-preserved
loop-unit-preserved c =
    let o = c.in-Some.unit.value.owned in
    let old = c.loop-unit in
    let left = c.take_reader.new.self in
    let took = c.in-Some.ensures in
    let number : c.number.result.0 ≡ c.in-Some.unit.value.owned.number = c.number.ensures ∙ ap (λ (unit : UnitValue). unit.owned.number) c.deref.ensures in
    let counted : c.set_count.new.self.counts ≡ slice_set c.loop-unit.holders.counts c.in-Some.unit.value.owned.number 1 = c.set_count.ensures.counts ∙ ap (λ n. slice_set c.loop-unit.holders.counts n 1) number in
    record {
      readers = readers-taken old.waiters.wishes left.wishes o old.waiters.units left.units old.readers.units c.push_back.new.self.units _ took.wishes took.reader took.first c.push_back.ensures old.invariant.readers;
      others = others-taken old.waiters.wishes left.wishes o old.waiters.units left.units _ took.wishes took.reader took.first old.invariant.others;
      counts = counts-taken old.waiters.wishes left.wishes o old.waiters.units left.units old.holders.counts c.set_count.new.self.counts _ took.wishes took.reader took.first counted old.invariant.counts;
      wishes = took.wishes ∙ old.invariant.wishes;
      writer = c.set_count.ensures.writer ∙ old.invariant.writer;
    }
