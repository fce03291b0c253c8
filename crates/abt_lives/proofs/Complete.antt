-- Which status a call answers if its cause is at hand.
use Rattle.std.proofs.Common.{◌≡◌, ◌≢◌, ◌≤◌, ◌⊎◌, ℕ, List, length, Some, inl, inr, refl, sym, ◌∙◌, subst, arith}
use Rattle.abt_machine.specs.declared.events.Outcome.TheVariants as outcome
use Rattle.abt_machine.specs.declared.numbers.StreamNo.{StreamNo}
use Rattle.abt_machine.specs.declared.workload.Parts.{Parts}
use Rattle.abt_machine.specs.Grammar.{Reads, Refuses}
use Rattle.abt_machine.specs.Valid.{IsValid}
use Rattle.abt_machine.specs.Words.{Text}
use Rattle.abt_bounds.specs.Laws.{HasNoRevive, ops_in}
use Rattle.abt_bounds.proofs.Budgets.{steps-bound-budgets}
use Rattle.abt_outcomes.proofs.Stored.{orders-stored}
use Rattle.abt_run.specs.Call.{IsOfRun}
use Rattle.abt_run.proofs.Complete.{no-fault, outcome-is-of-run, reads-whole}
use Rattle.abt_shell.specs.declared.status.Stop.{Stop}
use Rattle.abt_shell.specs.declared.status.Stop.TheVariants.{BadWords, BadLine, CannotRead, OutOfMemory}
use Rattle.abt_shell.specs.declared.status.Wrong.TheVariants.{Workload, Journal, Lives}
use Rattle.abt_shell.specs.Calls.{EndsBy, HasReadFault, Holds}
use Rattle.abt_shell.specs.Status.{Status, Concluded, Stopped, CannotWrite, number_of}
use Rattle.abt_shell.specs.Told.{Grew}
use Rattle.abt_shell.proofs.Calls.{reads-well, writes-well}
use Rattle.abt_shell.proofs.Fetched.{of-observed}
use Rattle.abt_streams.specs.declared.life.Life.{Life}
use Rattle.abt_words.specs.declared.itself.Topic.{Topic}
use Rattle.abt_words.specs.About.{AsksAbout}
use Rattle.abt_workload.proofs.RoundTrip.{only-valid}
use Rattle.abt_run.specs.Prepared.{HasNoRun}
use Rattle.abt_lives.specs.declared.status.Conclusion.{Conclusion}
use Rattle.abt_lives.specs.declared.status.Conclusion.TheVariants.{Ended, Explained}
use Rattle.abt_lives.specs.Asked.{AsksBeyond, AsksNothing, AsksRun, LacksLives, MayMake}
use Rattle.abt_lives.specs.Call.{Call, IsAnswered, MissesFiles, MissesLives, PrintsLives, RanOnLives, RefusesSteps, TellsWorkload, TellsBoth, program}
use Rattle.abt_workload.specs.Hints.{RefusesSo}
use Rattle.abt_lives.specs.Lives.{ReadsLives, RefusesLives, RefusesLivesSo}
use Rattle.abt_lives.specs.Status.{number_of_conclusion}
use Rattle.abt_lives.proofs.Naming.{not-bad-command, of-first, of-second, one-number, one-workload, run-or-about, same-file}

-- a text of lives is not refused
not-bad : (W : Parts) (text : Text) (lives : List Life) (line : ℕ) → ReadsLives W text lives → RefusesLives W text line → ⊥
not-bad W text lives line reads refuses = elim refuses [
  | inl long ↦ (let few = reads.few in absurd (omega (arith, long.0, few)))
  | inr bad ↦ bad.2 lives reads.are reads.text
]

-- the status by its conclusion
abbrev number : Status Conclusion → ℕ
number = number_of number_of_conclusion

-- Both texts are right.

runs : (s : Status Conclusion) (c : Call) (W : Parts) (text : Text) (lives : List Life) → Holds (program c) c.left s → TellsBoth c W text → ReadsLives W text lives → (AsksBeyond c.given → ⊥)
    → (Grew c.left.read_faults → ⊥) → (Grew c.left.out_faults → ⊥) → IsOfRun (number s) ⊎ (number s ≡ 7)
runs (Concluded (Ended o)) c W text lives h tells reads within still quiet = inl (outcome-is-of-run o)
runs (Concluded (Explained a)) c W text lives h tells reads within still quiet = absurd (run-or-about c.given.words tells.first.run a h.prints.0)
runs (Stopped OutOfMemory) c W text lives h tells reads within still quiet = inr refl
runs (Stopped BadWords) c W text lives h tells reads within still quiet = absurd (not-bad-command c.given tells.first.run within h.cause.why)
runs (Stopped CannotRead) c W text lives h tells reads within still quiet = absurd (still h.cause.why.1)
runs CannotWrite c W text lives h tells reads within still quiet = absurd (quiet h.faults)
runs (Stopped (BadLine line (Workload f said))) c W text lives h tells reads within still quiet =
    absurd (reads-whole tells.first.bytes W line f tells.first.reads (of-first c W h.cause.why.run (λ bytes. RefusesSo bytes line f said.now) tells.first h.cause.why.refuses).0)
runs (Stopped (BadLine line (Journal said))) c W text lives h tells reads within still quiet = absurd h.cause.why
runs (Stopped (BadLine line (Lives said))) c W text lives h tells reads within still quiet =
    let same : h.cause.why.workload ≡ W = one-workload c W h.cause.why.run h.cause.why.workload tells.first h.cause.why.reads in
    let refuses : RefusesLives h.cause.why.workload text line = (of-second c W h.cause.why.run (λ bytes. RefusesLivesSo h.cause.why.workload bytes line said.now) text tells h.cause.why.refuses).0 in
    absurd (not-bad W text lives line reads (subst (λ (V : Parts). RefusesLives V text line) same refuses))

-- The second is wrong.

-- what ran are lives
none-ran : (k : Conclusion) (c : Call) (W : Parts) (text printed : Text) → PrintsLives c.given c.journal k printed → TellsBoth c W text → ((lives : List Life) → ReadsLives W text lives → ⊥) → ⊥
none-ran (Ended o) c W text printed ran tells none =
    let same : ran.workload ≡ W = one-workload c W ran.asks ran.workload tells.first ran.reads in
    none ran.run.lives (subst (λ (V : Parts). ReadsLives V text ran.run.lives) same (of-second c W ran.asks (λ bytes. ReadsLives ran.workload bytes ran.run.lives) text tells ran.run.reads))
none-ran (Explained a) c W text printed prints tells none = run-or-about c.given.words tells.first.run a prints.0

refuses-lives : (s : Status Conclusion) (c : Call) (W : Parts) (text : Text) → Holds (program c) c.left s → TellsBoth c W text → ((lives : List Life) → ReadsLives W text lives → ⊥) → (AsksBeyond c.given → ⊥)
    → (Grew c.left.read_faults → ⊥) → (number s ≡ 3) ⊎ (number s ≡ 7)
refuses-lives (Concluded k) c W text h tells none within still = absurd (none-ran k c W text h.text h.prints tells none)
refuses-lives CannotWrite c W text h tells none within still = absurd (none-ran h.conclusion c W text h.text h.prints tells none)
refuses-lives (Stopped BadWords) c W text h tells none within still = absurd (not-bad-command c.given tells.first.run within h.cause.why)
refuses-lives (Stopped (BadLine line w)) c W text h tells none within still = inl refl
refuses-lives (Stopped CannotRead) c W text h tells none within still = absurd (still h.cause.why.1)
refuses-lives (Stopped OutOfMemory) c W text h tells none within still = inr refl

-- The first is wrong.

none-read : (k : Conclusion) (c : Call) (run : AsksRun c.given.words) (bytes printed : Text) → PrintsLives c.given c.journal k printed → c.given.file run.asked.workload ≡ Some bytes
    → ((W : Parts) → Reads bytes W → ⊥) → ⊥
none-read (Ended o) c run bytes printed ran seen none =
    none ran.workload (of-observed (λ text. Reads text ran.workload) (c.given.file ran.asks.asked.workload) bytes (same-file c.given.words c.given.file ran.asks run ∙ seen) ran.reads)
none-read (Explained a) c run bytes printed prints seen none = run-or-about c.given.words run a prints.0

refuses : (s : Status Conclusion) (c : Call) (run : AsksRun c.given.words) (bytes : Text) → Holds (program c) c.left s → c.given.file run.asked.workload ≡ Some bytes → ((W : Parts) → Reads bytes W → ⊥)
    → (AsksBeyond c.given → ⊥) → (Grew c.left.read_faults → ⊥) → (number s ≡ 3) ⊎ (number s ≡ 7)
refuses (Concluded k) c run bytes h seen none within still = absurd (none-read k c run bytes h.text h.prints seen none)
refuses CannotWrite c run bytes h seen none within still = absurd (none-read h.conclusion c run bytes h.text h.prints seen none)
refuses (Stopped BadWords) c run bytes h seen none within still = absurd (not-bad-command c.given run within h.cause.why)
refuses (Stopped (BadLine line w)) c run bytes h seen none within still = inl refl
refuses (Stopped CannotRead) c run bytes h seen none within still = absurd (still h.cause.why.1)
refuses (Stopped OutOfMemory) c run bytes h seen none within still = inr refl

-- The words are wrong.

asks-something : (k : Conclusion) (c : Call) (printed : Text) → PrintsLives c.given c.journal k printed → AsksNothing c.given.words → ⊥
asks-something (Ended o) c printed ran none = none.0 ran.asks.asked ran.asks.says
asks-something (Explained a) c printed prints none = none.1 a prints.0

refuses-words : (s : Status Conclusion) (c : Call) → Holds (program c) c.left s → AsksNothing c.given.words → (number s ≡ 2) ⊎ (number s ≡ 7)
refuses-words (Concluded k) c h none = absurd (asks-something k c h.text h.prints none)
refuses-words CannotWrite c h none = absurd (asks-something h.conclusion c h.text h.prints none)
refuses-words (Stopped BadWords) c h none = inl refl
refuses-words (Stopped (BadLine line (Workload f said))) c h none = absurd (none.0 h.cause.why.run.asked h.cause.why.run.says)
refuses-words (Stopped (BadLine line (Journal said))) c h none = absurd h.cause.why
refuses-words (Stopped (BadLine line (Lives said))) c h none = absurd (none.0 h.cause.why.run.asked h.cause.why.run.says)
refuses-words (Stopped CannotRead) c h none = absurd (none.0 h.cause.why.0.asked h.cause.why.0.says)
refuses-words (Stopped OutOfMemory) c h none = inr refl

-- They ask about the program.

explains : (s : Status Conclusion) (c : Call) (a : Topic) → Holds (program c) c.left s → AsksAbout c.given.words a → (Grew c.left.out_faults → ⊥) → (number s ≡ 0) ⊎ (number s ≡ 7)
explains (Concluded (Ended o)) c a h asks quiet = absurd (run-or-about c.given.words h.prints.asks a asks)
explains (Concluded (Explained b)) c a h asks quiet = inl refl
explains CannotWrite c a h asks quiet = absurd (quiet h.faults)
explains (Stopped BadWords) c a h asks quiet = absurd (elim h.cause.why [ inl none ↦ none.1 a asks | inr beyond ↦ run-or-about c.given.words beyond.run a asks ])
explains (Stopped (BadLine line (Workload f said))) c a h asks quiet = absurd (run-or-about c.given.words h.cause.why.run a asks)
explains (Stopped (BadLine line (Journal said))) c a h asks quiet = absurd h.cause.why
explains (Stopped (BadLine line (Lives said))) c a h asks quiet = absurd (run-or-about c.given.words h.cause.why.run a asks)
explains (Stopped CannotRead) c a h asks quiet = absurd (run-or-about c.given.words h.cause.why.0 a asks)
explains (Stopped OutOfMemory) c a h asks quiet = inr refl

-- Steps.

module _ (c : Call) (W : Parts) (two : 2 ≤ length c.given.stored.orders) (tells : TellsWorkload c W) (steps : ℕ) (may : MayMake (c.given.file tells.run.asked.workload) tells.run.asked.steps steps)
    (none : HasNoRevive W) (few : ops_in W ≤ steps) where
  no-budget : (s : StreamNo) (printed : Text) → RanOnLives c.given c.journal (outcome.Budget s) printed → ⊥
  no-budget s printed ran =
      let is : ran.workload ≡ W = one-workload c W ran.asks ran.workload tells ran.reads in
      let sound : IsValid ran.workload = subst IsValid (sym is) (only-valid tells.bytes W tells.reads) in
      let count : ran.steps ≡ steps = one-number c W ran.asks tells ran.steps steps ran.may may in
      let most : ops_in ran.workload ≤ ran.steps = subst (λ (n : ℕ). ops_in ran.workload ≤ n) (sym count) (subst (λ (V : Parts). ops_in V ≤ steps) (sym is) few) in
      steps-bound-budgets ran.workload c.given.stored sound (orders-stored ran.workload c.given.stored sound two) (subst HasNoRevive (sym is) none) ran.steps s.0 c.journal most ran.run.run.run
      ran.run.run.ended.0

  spends : (s : Status Conclusion) → Holds (program c) c.left s → number s ≢ 4
  spends (Concluded (Ended outcome.Finished)) h = λ e. absurd (omega arith)
  spends (Concluded (Ended outcome.Stuck)) h = λ e. absurd (omega arith)
  spends (Concluded (Ended (outcome.Budget s))) h = λ e. no-budget s h.text h.prints
  spends (Concluded (Explained a)) h = λ e. absurd (omega arith)
  spends (Stopped BadWords) h = λ e. absurd (omega arith)
  spends (Stopped (BadLine line w)) h = λ e. absurd (omega arith)
  spends (Stopped CannotRead) h = λ e. absurd (omega arith)
  spends (Stopped OutOfMemory) h = λ e. absurd (omega arith)
  spends CannotWrite h = λ e. absurd (omega arith)

-- Faults.

none-concludes : (n : ℕ) → 5 ≤ n → (k : Conclusion) → number_of_conclusion k ≢ n
none-concludes n high (Ended o) = no-fault o n high
none-concludes n high (Explained a) = λ e. absurd (omega arith)

-- a workload that is known and may make the steps is no reason to stop
pub lacks-lives : (c : Call) (W : Parts) (tells : TellsWorkload c W) (faults : ℕ × ℕ) (s : Stop) → (AsksBeyond c.given → ⊥)
    → LacksLives (c.given.file tells.run.asked.workload) tells.run.asked.steps faults s → (s ≡ CannotRead) ⊎ (s ≡ OutOfMemory)
lacks-lives c W tells faults s within lacks = elim lacks [ inl read ↦ inl read | inr none ↦ by s none ] where
  by : (s : Stop) → HasNoRun (c.given.file tells.run.asked.workload) tells.run.asked.steps faults s → (s ≡ CannotRead) ⊎ (s ≡ OutOfMemory)
  by BadWords none = absurd (within (record { run = tells.run; exceeds = none }))
  by (BadLine line (Workload f said)) none =
      absurd (reads-whole tells.bytes W line f tells.reads (of-observed (λ text. RefusesSo text line f said.now) (c.given.file tells.run.asked.workload) tells.bytes tells.seen none).0)
  by (BadLine line (Journal said)) none = absurd none
  by (BadLine line (Lives said)) none = absurd none
  by CannotRead none = inl refl
  by OutOfMemory none = inr refl

-- a call that ended with this exit status is answered
pub answered : (n : ℕ) (c : Call) → 2 ≤ length c.given.stored.orders → EndsBy (program c) c.left n → MissesFiles n c → MissesLives n c → RefusesSteps n c → (HasReadFault c.left → (n ≡ 5) ⊎ (n ≡ 7)) → IsAnswered n c
answered n c two ends absent missing exceeds faulty = by ends.0 ends.1 ends.2 where
  by : (s : Status Conclusion) → n ≡ number s → Holds (program c) c.left s → IsAnswered n c
  by s is h = subst (λ m. IsAnswered m c) (sym is) (record {
    cause = (s, refl, h);
    complete = λ W text lives tells reads within still quiet. runs s c W text lives h tells reads within still quiet;
    lives = λ W text tells none within still. refuses-lives s c W text h tells none within still;
    texts = λ run bytes seen none within still. refuses s c run bytes h seen none within still;
    words = refuses-words s c h;
    steps = subst (λ m. RefusesSteps m c) is exceeds;
    explains = λ a asks quiet. explains s c a h asks quiet;
    spends = λ W tells steps may none few. spends c W two tells steps may none few s h;
    absent = subst (λ m. MissesFiles m c) is absent;
    missing = subst (λ m. MissesLives m c) is missing;
    reads = reads-well (program c) c.left (none-concludes 5 (omega arith)) (λ cause. cause.why.1) s h;
    faulty = subst (λ m. HasReadFault c.left → (m ≡ 5) ⊎ (m ≡ 7)) is faulty;
    writes = writes-well (program c) c.left (none-concludes 6 (omega arith)) s h;
  })
