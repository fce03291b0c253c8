-- From what keeps a question from being answered to why the call stops.
use Rattle.std.proofs.Common.{ℕ, List, Option}
use Rattle.abt_machine.specs.Words.{Text}
use Rattle.abt_shell.specs.declared.status.Stop.{Stop}
use Rattle.abt_shell.proofs.Fetched.{stops-more}
use Rattle.abt_compute.specs.Answers.{HasBadLine, Prevents, ReadsFile}
use Rattle.abt_compute.specs.Program.{AskSuch, IsBadLine, StopsWork}
use Rattle.abt_compute.specs.Questions.{Question, Asks, AsksNothing}

-- what prevents the question that the words ask stops the call
pub prevented-stops : (words : List Text) (file_of : Text → Option Text) (q : Question) (streams : ℕ) → Asks words q streams → (s : Stop) (faults : ℕ × ℕ) → Prevents file_of q faults s → StopsWork words file_of faults s
prevented-stops words file_of q streams asks s faults =
    stops-more ⊥ (AsksNothing words) (ReadsFile q) (AskSuch words ReadsFile) (HasBadLine file_of q) (IsBadLine words file_of) faults faults
    (λ no. absurd no) (λ reads. record { question = q; streams = streams; asks = asks; is = reads }) (λ line w bad. record { question = q; streams = streams; asks = asks; is = bad }) (λ grew. grew) s
