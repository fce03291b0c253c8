use Rattle.std.proofs.Common.{ℕ, ◌≡◌, ◌+◌, ◌-◌, ◌++◌, length}
use Rattle.abt_machine.specs.Lives.{count_up}
use Rattle.abt_machine.specs.Rounds.{generator_at}
use Rattle.abt_schedule.specs.Drawing.{drawn}
use Rattle.abt_schedule.proofs.drawing.draw.Given as goal

abbrev pub invariant-loop : goal.invariant-loop
invariant-loop l = record {
  order : l.order.items ++ drawn (l.streams - l.counter) l.words l.left.items ≡ drawn l.streams l.fn.words (count_up l.streams);
  long : length l.left.items ≡ l.streams - l.counter;
  words : (seed g n : ℕ) → l.fn.words ≡ generator_at seed g n → l.words ≡ generator_at seed g (n + l.counter);
}
