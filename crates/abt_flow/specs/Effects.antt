-- What each operation means to the unit that does it, if that does not depend on the schedule.
use Rattle.std.specs.Prelude.{ℕ, ◌+◌, ◌%◌, ◌^◌, List, [], ◌∷◌, ◌++◌, replicate, slice_index, slice_set}
use Rattle.abt_machine.specs.declared.events.Piece.{Piece}
use Rattle.abt_machine.specs.declared.events.Piece.TheVariants as piece
use Rattle.abt_machine.specs.declared.operations.Calc.{Calc}
use Rattle.abt_machine.specs.declared.operations.Op.{Op}
use Rattle.abt_machine.specs.declared.operations.Op.TheVariants as op
use Rattle.abt_machine.specs.declared.workload.Parts.{Parts}
use Rattle.abt_machine.specs.Carrying.{word_from}

-- what a unit's program works on
pub record Memory : Type 0 where
  pub acc : ℕ
  pub keys : List ℕ
  pub output : List Piece

-- before the first operation
abbrev pub fresh : Parts → Memory
fresh W = record { acc = 0; keys = replicate W.keys 0; output = [] }

abbrev pub with_acc : ℕ → Memory → Memory
with_acc n m = record m { acc = n }

abbrev pub added : ℕ → Memory → Memory
added n m = with_acc ((m.acc + n) % 2 ^ 64) m

abbrev pub printed : Piece → Memory → Memory
printed x m = record m { output = m.output ++ x ∷ [] }

abbrev pub with_number : Memory → Memory
with_number m = printed (piece.Number m.acc) m

abbrev pub with_key : ℕ → Memory → Memory
with_key k m = record m { keys = slice_set m.keys k m.acc }

abbrev pub from_key : ℕ → Memory → Memory
from_key k m = with_acc (slice_index m.keys k) m

abbrev pub calculated : Calc → ℕ → Memory → Memory
calculated c k m = with_acc (word_from c m.acc (slice_index m.keys k)) m

abbrev pub unchanged : Memory → Memory
unchanged m = m

-- an operation computes the next memory, or sets acc to what a function returns or to the value of an eventual, or depends on the schedule
pub data FlowEffect : Type 0 where
  Computes : (Memory → Memory) → FlowEffect
  Calls : ℕ → FlowEffect
  Awaits : ℕ → FlowEffect
  Depends : FlowEffect

abbrev pub effect : Op → FlowEffect
effect (op.Set n) = Computes (with_acc n)
effect (op.Add n) = Computes (added n)
effect (op.Say w) = Computes (printed (piece.Said w))
effect op.Print = Computes with_number
effect (op.KeySet k) = Computes (with_key k)
effect (op.KeyGet k) = Computes (from_key k)
effect (op.Calc c k) = Computes (calculated c k)
effect op.Yield = Computes unchanged
effect (op.YieldTo v p) = Depends
effect op.Suspend = Depends
effect op.Exit = Depends
effect (op.Resume v) = Depends
effect (op.Create v p) = Computes unchanged
effect (op.Join v) = Computes unchanged
effect (op.Cancel v) = Depends
effect (op.Migrate v p) = Depends
effect (op.MigrateTo v r) = Depends
effect (op.Migratable v b) = Depends
effect (op.Revive v p) = Depends
effect (op.Lock x) = Depends
effect (op.TryLock x) = Depends
effect (op.Unlock x) = Depends
effect (op.Load x) = Depends
effect (op.Store x) = Depends
effect (op.CondWait x) = Depends
effect (op.Signal x) = Depends
effect (op.Broadcast x) = Depends
effect (op.EvWait x) = Awaits x.0
effect (op.EvSet x) = Computes unchanged
effect (op.EvReset x) = Depends
effect (op.EvTest x) = Depends
effect (op.FuWait x) = Depends
effect (op.FuSet x) = Depends
effect (op.FuReset x) = Depends
effect (op.FuTest x) = Depends
effect (op.BarWait x) = Computes unchanged
effect (op.ReadLock x) = Depends
effect (op.WriteLock x) = Depends
effect (op.RwUnlock x) = Depends
effect (op.RwLoad x) = Depends
effect (op.RwStore x) = Depends
effect (op.Call f) = Calls f
