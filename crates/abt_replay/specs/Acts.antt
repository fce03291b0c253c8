-- What the acts and answers that the code holds are to the machine.
use Rattle.std.specs.Prelude.{option_map}
use Rattle.abt_machine.specs.declared.numbers.PoolNo.{PoolNo}
use Rattle.abt_machine.specs.Acts as asked
use Rattle.abt_replay.specs.declared.acts.Act.{Act}
use Rattle.abt_replay.specs.declared.acts.Act.TheVariants as act
use Rattle.abt_replay.specs.declared.acts.Answer.{Answer}
use Rattle.abt_replay.specs.declared.acts.Answer.TheVariants as answer

-- the act, by value
abbrev pub act_of : Act → asked.Act
act_of (act.Put o) = asked.Put o
act_of (act.Take side) = asked.Take side
act_of (act.Remove u) = asked.Remove u.0
act_of (act.Create p) = asked.Create p.0
act_of (act.End o cause) = asked.End o cause
act_of (act.Join o) = asked.Join o
act_of act.AskCancel = asked.AskCancel
act_of (act.AskMigrate p) = asked.AskMigrate p.0
act_of act.Look = asked.Look
act_of (act.Suspend o) = asked.Suspend o
act_of act.Resume = asked.Resume
act_of (act.Revive p) = asked.Revive p.0
act_of (act.SetMigratable allowed) = asked.SetMigratable allowed
act_of (act.Lock o) = asked.Lock o
act_of (act.TryLock u) = asked.TryLock u.0
act_of (act.Unlock u) = asked.Unlock u.0
act_of (act.Load u) = asked.Load u.0
act_of (act.Store u n) = asked.Store u.0 n
act_of (act.Wait k o) = asked.Wait k o
act_of (act.Signal k) = asked.Signal k
act_of (act.Broadcast k) = asked.Broadcast k
act_of (act.Await o) = asked.Await o
act_of (act.Fill n) = asked.Fill n
act_of act.Reset = asked.Reset
act_of act.Test = asked.Test
act_of (act.Arrive o) = asked.Arrive o
act_of (act.ReadLock o) = asked.ReadLock o
act_of (act.WriteLock o) = asked.WriteLock o
act_of (act.RwUnlock u) = asked.RwUnlock u.0

-- the answer, by value
abbrev pub answer_of : Answer → asked.Answer
answer_of (answer.Given o) = asked.Given o
answer_of (answer.Through o others) = asked.Through o others.items
answer_of (answer.Woke os) = asked.Woke os.items
answer_of answer.Rested = asked.Rested
answer_of answer.Miss = asked.Miss
answer_of (answer.Number n) = asked.Number n
answer_of (answer.Asks asks) = asked.Asks asks.cancel (option_map (λ (p : PoolNo). p.0) asks.migrate)
answer_of (answer.Code code) = asked.Coded code
answer_of (answer.Back o code) = asked.Back o code
