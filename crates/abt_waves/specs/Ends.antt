-- What a run in waves leaves.
use Rattle.std.specs.Prelude.{ℕ, Bool, List}
use Rattle.abt_machine.specs.declared.events.Site.{Site}
use Rattle.abt_machine.specs.Stamps.{Lamport}
use Rattle.abt_machine.specs.Stored.{Stored}
use Rattle.abt_machine.specs.declared.workload.Parts.{Parts}
use Rattle.abt_merge.specs.Logs.{log_of}
use Rattle.abt_simulation.specs.Journals.{MergesTo}
use Rattle.abt_stream.specs.Streams.{StreamValue}
use Rattle.abt_drain.specs.declared.run.Run.{Run}
use Rattle.abt_drain.specs.Answers.{HasAnswers}
use Rattle.abt_drain.specs.Ends.{IsLeftOf, logs_in}
use Rattle.abt_drain.specs.Runs.{IsRunOf}
use Rattle.abt_waves.specs.Locks.{TellsSites}

-- the journal is a run that ended so, each round visits its pools in an order that is answered for it, and stamps are Lamport's if each site has
-- a lock of its own
abbrev pub LeavesWaves : {Lock : Type 0} → (Site → Lock) → Parts → Stored → (ℕ → ℕ → List ℕ → Type 0) → ℕ → Bool → Run → Type 0
LeavesWaves lock W Z Answered n keeps left = IsLeftOf W keeps (λ J. IsRunOf W Z n J left.outcome × HasAnswers W Answered J × (TellsSites lock → Lamport W J)) left

-- the journal is such a run, and that of these streams
abbrev pub LeavesLogs : {Lock : Type 0} → (Site → Lock) → Parts → Stored → ℕ → Bool → List StreamValue → Run → Type 0
LeavesLogs lock W Z n keeps streams left = IsLeftOf W keeps (λ J. IsRunOf W Z n J left.outcome × (TellsSites lock → Lamport W J) × MergesTo (log_of (logs_in streams)) J) left
