-- Which status a call answers if its cause holds.
use Rattle.std.proofs.Common.{◌≡◌, ◌⊎◌, ℕ, List, Option, Some, ap, inl, inr, refl, sym, subst}
use Rattle.abt_machine.specs.declared.events.Event.{Event}
use Rattle.abt_machine.specs.declared.workload.Parts.{Parts}
use Rattle.abt_machine.specs.Grammar.{Reads}
use Rattle.abt_machine.specs.Words.{Text}
use Rattle.abt_report.specs.Journals.{IsTextOf}
use Rattle.abt_run.proofs.Complete.{refuses-also}
use Rattle.abt_shell.specs.Fetched.{IsNoJournalSo}
use Rattle.abt_report.proofs.Limits.{not-both}
use Rattle.abt_shell.specs.declared.status.Stop.TheVariants.{BadWords, BadLine, CannotRead, OutOfMemory}
use Rattle.abt_shell.specs.declared.status.Wrong.TheVariants.{Workload, Journal, Lives}
use Rattle.abt_shell.specs.Calls.{EndsBy, HasReadFault, Holds}
use Rattle.abt_shell.specs.Status.{Status, Concluded, Stopped, CannotWrite, number_of}
use Rattle.abt_shell.specs.Told.{Grew}
use Rattle.abt_shell.proofs.Calls.{reads-well, writes-well}
use Rattle.abt_view.specs.declared.views.Conclusion.{Conclusion}
use Rattle.abt_view.specs.declared.views.Conclusion.TheVariants.{Shown, TooLarge, Told}
use Rattle.abt_view.specs.Call.{Call, IsAnswered, IsViewOf, MissesFiles, MissesWorkloads, TellsNames, program}
use Rattle.abt_view.specs.Views.{Asks, AsksNothing, IsAbout, Request, conclusion_of, number_of_conclusion}
use Rattle.abt_view.proofs.Concluding.{concludes-so, none-asked, not-printed, reads-so, writes-so}
use Rattle.abt_view.proofs.Requests.{asks-none, not-read, not-refused, of-journal}

-- the view of a journal is written
shown : (s : Status Conclusion) (c : Call) (q : Request) (names : Option Parts) (bytes : Text) (J : List Event) → Holds (program c) c.left s → Asks c.words q → TellsNames q.workload c.file names
    → c.file q.journal ≡ Some bytes → IsTextOf J bytes → (Grew c.left.read_faults → ⊥) → (Grew c.left.out_faults → ⊥)
    → (number_of number_of_conclusion s ≡ number_of_conclusion (conclusion_of q.view J)) ⊎ (number_of number_of_conclusion s ≡ 7)
shown (Concluded Shown) c q names bytes J h asks tells at is still quiet = inl (ap number_of_conclusion (concludes-so c.words c.file Shown h.text q bytes J h.prints asks at is))
shown (Concluded TooLarge) c q names bytes J h asks tells at is still quiet = inl (ap number_of_conclusion (concludes-so c.words c.file TooLarge h.text q bytes J h.prints asks at is))
shown (Concluded Told) c q names bytes J h asks tells at is still quiet = absurd (asks-none c.words h.prints.0 q h.prints.1 asks)
shown (Stopped OutOfMemory) c q names bytes J h asks tells at is still quiet = inr refl
shown (Stopped BadWords) c q names bytes J h asks tells at is still quiet = absurd (h.cause.0 q asks)
shown (Stopped CannotRead) c q names bytes J h asks tells at is still quiet = absurd (still h.cause.1)
shown CannotWrite c q names bytes J h asks tells at is still quiet = absurd (quiet h.faults)
shown (Stopped (BadLine line (Journal said))) c q names bytes J h asks tells at is still quiet =
    absurd (not-both J bytes line is (of-journal (λ b. IsNoJournalSo b line said.now) c.words h.cause.request q bytes c.file h.cause.asks asks at h.cause.is).0)
shown (Stopped (BadLine line (Workload f said))) c q names bytes J h asks tells at is still quiet =
    absurd (not-refused c.words h.cause.request q c.file h.cause.file names line f h.cause.asks asks h.cause.names tells (refuses-also _ line f said.now h.cause.is))
shown (Stopped (BadLine line (Lives said))) c q names bytes J h asks tells at is still quiet = absurd h.cause

-- what the program says of itself is written
told : (s : Status Conclusion) (c : Call) (text : Text) → Holds (program c) c.left s → IsAbout c.words text → (Grew c.left.out_faults → ⊥)
    → (number_of number_of_conclusion s ≡ 0) ⊎ (number_of number_of_conclusion s ≡ 7)
told (Concluded Shown) c text h about quiet = inl refl
told (Concluded TooLarge) c text h about quiet = absurd (asks-none c.words about.0 h.prints.request about.1 h.prints.asks)
told (Concluded Told) c text h about quiet = inl refl
told (Stopped OutOfMemory) c text h about quiet = inr refl
told (Stopped BadWords) c text h about quiet = absurd (h.cause.1 about.0 about.1)
told (Stopped CannotRead) c text h about quiet = absurd (asks-none c.words about.0 h.cause.0.request about.1 h.cause.0.asks)
told CannotWrite c text h about quiet = absurd (quiet h.faults)
told (Stopped (BadLine line (Journal said))) c text h about quiet = absurd (asks-none c.words about.0 h.cause.request about.1 h.cause.asks)
told (Stopped (BadLine line (Workload f said))) c text h about quiet = absurd (asks-none c.words about.0 h.cause.request about.1 h.cause.asks)
told (Stopped (BadLine line (Lives said))) c text h about quiet = absurd h.cause

module _ (c : Call) (q : Request) (asks : Asks c.words q) where
  -- a workload's text that is none is not drawn from
  none-drawn : (file bytes : Text) → q.workload ≡ Some file → c.file file ≡ Some bytes → ((W : Parts) → Reads bytes W → ⊥) → (k : Conclusion) (text : Text) → IsViewOf c.words c.file k text → ⊥
  none-drawn file bytes names at none k text view =
      not-read c.words view.request q c.file file bytes view.shown.names view.asks asks names view.shown.workload at none

  -- nor is a journal's
  none-shown : (bytes : Text) → c.file q.journal ≡ Some bytes → ((J : List Event) → IsTextOf J bytes → ⊥) → (k : Conclusion) (text : Text) → IsViewOf c.words c.file k text → ⊥
  none-shown bytes at none k text view =
      none view.shown.journal (of-journal (IsTextOf view.shown.journal) c.words view.request q bytes c.file view.asks asks at view.shown.reads)

  -- what is not drawn is refused
  refuses : (s : Status Conclusion) → ((k : Conclusion) (text : Text) → IsViewOf c.words c.file k text → ⊥) → Holds (program c) c.left s → (Grew c.left.read_faults → ⊥)
      → (number_of number_of_conclusion s ≡ 3) ⊎ (number_of number_of_conclusion s ≡ 7)
  refuses (Concluded k) none h still = absurd (not-printed c.words c.file q asks none k h.text h.prints)
  refuses CannotWrite none h still = absurd (not-printed c.words c.file q asks none h.conclusion h.text h.prints)
  refuses (Stopped BadWords) none h still = absurd (h.cause.0 q asks)
  refuses (Stopped (BadLine line w)) none h still = inl refl
  refuses (Stopped CannotRead) none h still = absurd (still h.cause.1)
  refuses (Stopped OutOfMemory) none h still = inr refl

-- words that ask for nothing are refused
refuses-words : (s : Status Conclusion) (c : Call) → Holds (program c) c.left s → AsksNothing c.words → (number_of number_of_conclusion s ≡ 2) ⊎ (number_of number_of_conclusion s ≡ 7)
refuses-words (Concluded k) c h none = absurd (none-asked c.words c.file none k h.text h.prints)
refuses-words CannotWrite c h none = absurd (none-asked c.words c.file none h.conclusion h.text h.prints)
refuses-words (Stopped BadWords) c h none = inl refl
refuses-words (Stopped (BadLine line (Workload f said))) c h none = absurd (none.0 h.cause.request h.cause.asks)
refuses-words (Stopped (BadLine line (Journal said))) c h none = absurd (none.0 h.cause.request h.cause.asks)
refuses-words (Stopped (BadLine line (Lives said))) c h none = absurd h.cause
refuses-words (Stopped CannotRead) c h none = absurd (none.0 h.cause.0.request h.cause.0.asks)
refuses-words (Stopped OutOfMemory) c h none = inr refl

-- a call that ended with this exit status is answered
pub answered : (n : ℕ) (c : Call) → EndsBy (program c) c.left n → MissesWorkloads n c → MissesFiles n c → (HasReadFault c.left → (n ≡ 5) ⊎ (n ≡ 7)) → IsAnswered n c
answered n c ends missing absent faulty = by ends.0 ends.1 ends.2 where
  by : (s : Status Conclusion) → n ≡ number_of number_of_conclusion s → Holds (program c) c.left s → IsAnswered n c
  by s is h = subst (λ m. IsAnswered m c) (sym is) (record {
    cause = (s, refl, h);
    complete = λ q names bytes J asks tells at written still quiet. shown s c q names bytes J h asks tells at written still quiet;
    about = λ text about quiet. told s c text h about quiet;
    workloads = λ q file bytes asks names at none still. refuses c q asks s (none-drawn c q asks file bytes names at none) h still;
    texts = λ q names bytes asks tells at none still. refuses c q asks s (none-shown c q asks bytes at none) h still;
    words = refuses-words s c h;
    missing = subst (λ m. MissesWorkloads m c) is missing;
    absent = subst (λ m. MissesFiles m c) is absent;
    reads = reads-well (program c) c.left reads-so (λ cause. cause.1) s h;
    faulty = subst (λ m. HasReadFault c.left → (m ≡ 5) ⊎ (m ≡ 7)) is faulty;
    writes = writes-well (program c) c.left writes-so s h;
  })
