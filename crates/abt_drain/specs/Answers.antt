-- That each round of a run visits its pools in an order that is answered for it.
use Rattle.std.specs.Prelude.{ℕ, ◌≡◌, ⊤, List, [], ◌∷◌, Some, slice_get}
use Rattle.abt_machine.specs.declared.events.Event.{Event}
use Rattle.abt_machine.specs.declared.workload.Parts.{Parts}
use Rattle.abt_machine.specs.Events.{after}
use Rattle.abt_machine.specs.Start.{start}
use Rattle.abt_machine.specs.State.{State}
use Rattle.abt_stream.specs.Answers.{FitsAnswers, VisitsAnswered}
use Rattle.abt_stream.specs.Streams.{StreamValue}

-- from state S each event that visits a pool visits one that may be the next of its stream's round, by an order that is answered for it
abbrev pub AnswersFrom : Parts → (ℕ → ℕ → List ℕ → Type 0) → State → List Event → Type 0
AnswersFrom W Answered S [] = ⊤
AnswersFrom W Answered S (e ∷ es) = VisitsAnswered Answered (S.stream e.stream.0).top e.what × AnswersFrom W Answered (after W S e.stream.0 e.what) es

-- so does each event of the journal
abbrev pub HasAnswers : Parts → (ℕ → ℕ → List ℕ → Type 0) → List Event → Type 0
HasAnswers W Answered J = AnswersFrom W Answered (start W) J

-- the visits of each of these streams are answered
abbrev pub AllAnswered : Parts → (ℕ → ℕ → List ℕ → Type 0) → List StreamValue → Type 0
AllAnswered W Answered streams = (s : ℕ) (stream : StreamValue) → slice_get streams s ≡ Some stream → FitsAnswers W Answered stream
