-- Which status a call answers if its cause holds.
use Rattle.std.proofs.Common.{◌≡◌, ◌⊎◌, ◌≤◌, ℕ, List, Option, inl, inr, refl, sym, subst, arith, length}
use Rattle.std.specs.Prelude.{IfSome, ⊤}
use Rattle.abt_machine.specs.Words.{Text}
use Rattle.abt_shell.specs.declared.status.Stop.TheVariants.{BadWords, BadLine, CannotRead, OutOfMemory}
use Rattle.abt_shell.specs.declared.status.Wrong.{Wrong}
use Rattle.abt_shell.specs.Calls.{EndsBy, HasReadFault, Holds}
use Rattle.abt_shell.specs.Status.{Status, Concluded, Stopped, CannotWrite, number_of}
use Rattle.abt_shell.specs.Told.{Grew}
use Rattle.abt_words.specs.declared.itself.Topic.{Topic}
use Rattle.abt_words.specs.About.{AsksAbout}
use Rattle.abt_shell.proofs.Calls.{reads-well, writes-well}
use Rattle.abt_shell.proofs.Fetched.{of-observed}
use Rattle.abt_compute.specs.Answers.{Answers, HasBadLine, IsFit, IsKnown, IsList, IsShort, Shows}
use Rattle.abt_compute.specs.Files.{Has, IsTooLong, IsWrongLine, list_limit, text_limit}
use Rattle.abt_compute.specs.Numbers.{Lists}
use Rattle.abt_compute.specs.Program.{AskSuch, AsksNoTopic, Call, Explains, IsAnswerOf, IsAnswered, MissesFiles, program}
use Rattle.abt_compute.specs.Questions.{Question, Primes, Queens, Subsequence, Sort, Picture, Turns, Asks, AsksNothing}
use Rattle.abt_compute.proofs.Asking.{one-question, question-or-about}
use Rattle.abt_compute.proofs.Cutting.{no-list}

-- Files that are as they should be have no bad line.

short-not-long : (told : Option Text) (line : ℕ) (w : Wrong) → Shows told (IsShort text_limit) → IfSome told (λ text. IsTooLong text_limit text line w) → ⊥
short-not-long told line w shows bad =
    let long = of-observed (λ text. IsTooLong text_limit text line w) told shows.bytes shows.there bad in
    let a = shows.is in let b = long.many in omega arith

list-not-bad : (text : Text) (line : ℕ) (w : Wrong) → IsList text → IsTooLong list_limit text line w ⊎ IsWrongLine text line w → ⊥
list-not-bad text line w list (inl long) = let a = list.short in let b = long.many in omega arith
list-not-bad text line w list (inr wrong) = no-list text list.numbers line list.lists wrong.no_number

fit-not-bad : (file_of : Text → Option Text) (q : Question) (line : ℕ) (w : Wrong) → IsFit file_of q → HasBadLine file_of q line w → ⊥
fit-not-bad file_of (Primes n) line w fit bad = bad
fit-not-bad file_of (Queens n) line w fit bad = bad
fit-not-bad file_of (Subsequence first second) line w fit (inl bad) = short-not-long (file_of first) line w fit.0 bad
fit-not-bad file_of (Subsequence first second) line w fit (inr bad) = short-not-long (file_of second) line w fit.1 bad
fit-not-bad file_of (Sort file) line w fit bad =
    list-not-bad fit.bytes line w fit.is (of-observed (λ text. IsTooLong list_limit text line w ⊎ IsWrongLine text line w) (file_of file) fit.bytes fit.there bad)
fit-not-bad file_of (Picture width height) line w fit bad = bad
fit-not-bad file_of (Turns nodes turns) line w fit bad = bad

-- Files of which there is an answer are as they should be.

shows-short : (told : Option Text) (most : ℕ) (bytes : Text) → Shows told (λ text. ⊤) → Has told most bytes → Shows told (IsShort most)
shows-short told most bytes known has =
    let same : bytes ≡ known.bytes = of-observed (λ text. bytes ≡ text) told known.bytes known.there has.are in
    record { bytes = known.bytes; there = known.there; is = subst (λ text. length text ≤ most) same has.few }

shows-list : (told : Option Text) (bytes : Text) (numbers : List ℕ) → Shows told (λ text. ⊤) → Has told list_limit bytes → Lists bytes numbers → Shows told IsList
shows-list told bytes numbers known has lists =
    let same : bytes ≡ known.bytes = of-observed (λ text. bytes ≡ text) told known.bytes known.there has.are in
    record { bytes = known.bytes; there = known.there; is = subst IsList same (record { short = has.few; numbers = numbers; lists = lists }) }

answered-fit : (file_of : Text → Option Text) (q : Question) (text : Text) → IsKnown file_of q → Answers file_of q text → IsFit file_of q
answered-fit file_of (Primes n) text known answer = tt
answered-fit file_of (Queens n) text known answer = tt
answered-fit file_of (Subsequence first second) text known answer =
    (shows-short (file_of first) text_limit answer.a (known first (inl refl)) answer.one, shows-short (file_of second) text_limit answer.b (known second (inr refl)) answer.other)
answered-fit file_of (Sort file) text known answer = shows-list (file_of file) answer.has.bytes answer.numbers (known file refl) answer.has.has answer.has.lists
answered-fit file_of (Picture width height) text known answer = tt
answered-fit file_of (Turns nodes turns) text known answer = tt

-- What is so of the question that the words ask is so of each question that they ask.
asked-is : (words : List Text) (Is : Question → Type 0) (q : Question) (streams : ℕ) → Asks words q streams → AskSuch words Is → Is q
asked-is words Is q streams asks such = subst Is (one-question words such.question q such.streams streams such.asks asks) such.is

-- What is printed for words that ask a question is its answer.
answer-printed : (words : List Text) (file_of : Text → Option Text) (text : Text) (q : Question) (streams : ℕ) → Asks words q streams → IsAnswerOf words file_of text ⊎ Explains words text → IsAnswerOf words file_of text
answer-printed words file_of text q streams asks (inl answer) = answer
answer-printed words file_of text q streams asks (inr about) = absurd (question-or-about words q streams about.topic asks about.asks)

-- the answer to a question is written
shown : (s : Status ⊤) (c : Call) (q : Question) (streams : ℕ) → Holds (program c) c.left s → Asks c.words q streams → IsFit c.file q → (Grew c.left.read_faults → ⊥) → (Grew c.left.out_faults → ⊥)
    → (number_of (λ _. 0) s ≡ 0) ⊎ (number_of (λ _. 0) s ≡ 7)
shown (Concluded done) c q streams h asks fit still quiet = inl refl
shown (Stopped BadWords) c q streams h asks fit still quiet = absurd (h.cause.0 q streams asks)
shown (Stopped (BadLine line w)) c q streams h asks fit still quiet = absurd (fit-not-bad c.file q line w fit (asked-is c.words (λ u. HasBadLine c.file u line w) q streams asks h.cause.0))
shown (Stopped CannotRead) c q streams h asks fit still quiet = absurd (still h.cause.0.1)
shown (Stopped OutOfMemory) c q streams h asks fit still quiet = inr refl
shown CannotWrite c q streams h asks fit still quiet = absurd (quiet h.faults)

-- files that are not as they should be are refused
refuses : (s : Status ⊤) (c : Call) (q : Question) (streams : ℕ) → Holds (program c) c.left s → Asks c.words q streams → IsKnown c.file q → (IsFit c.file q → ⊥) → (Grew c.left.read_faults → ⊥)
    → (number_of (λ _. 0) s ≡ 3) ⊎ (number_of (λ _. 0) s ≡ 7)
refuses (Concluded done) c q streams h asks known unfit still = absurd (unfit (answered-fit c.file q h.text known (asked-is c.words (λ u. Answers c.file u h.text) q streams asks (answer-printed c.words c.file h.text q streams asks h.prints))))
refuses CannotWrite c q streams h asks known unfit still = absurd (unfit (answered-fit c.file q h.text known (asked-is c.words (λ u. Answers c.file u h.text) q streams asks (answer-printed c.words c.file h.text q streams asks h.prints))))
refuses (Stopped BadWords) c q streams h asks known unfit still = absurd (h.cause.0 q streams asks)
refuses (Stopped (BadLine line w)) c q streams h asks known unfit still = inl refl
refuses (Stopped CannotRead) c q streams h asks known unfit still = absurd (still h.cause.0.1)
refuses (Stopped OutOfMemory) c q streams h asks known unfit still = inr refl

-- a call whose words ask a question, and which ended with this exit status, is answered
pub answered : (n : ℕ) (c : Call) (q : Question) (streams : ℕ) → Asks c.words q streams → EndsBy (program c) c.left n → MissesFiles n c → (HasReadFault c.left → (n ≡ 5) ⊎ (n ≡ 7)) → IsAnswered n c
answered n c q streams asks ends absent faulty = by ends.0 ends.1 ends.2 where
  by : (s : Status ⊤) → n ≡ number_of (λ _. 0) s → Holds (program c) c.left s → IsAnswered n c
  by s is h = subst (λ m. IsAnswered m c) (sym is) (record {
    cause = (s, refl, h);
    complete = λ u other same fit still quiet. shown s c u other h same fit still quiet;
    texts = λ u other same known unfit still. refuses s c u other h same known unfit still;
    words = λ none other. absurd (none q streams asks);
    about = λ topic about quiet. absurd (question-or-about c.words q streams topic asks about);
    absent = subst (λ m. MissesFiles m c) is absent;
    reads = reads-well (program c) c.left (λ v e. absurd (omega arith)) (λ cause. cause.0.1) s h;
    faulty = subst (λ m. HasReadFault c.left → (m ≡ 5) ⊎ (m ≡ 7)) is faulty;
    writes = writes-well (program c) c.left (λ v e. absurd (omega arith)) s h;
  })

-- and so is one whose words ask nothing, and which read nothing
pub refused : (n : ℕ) (c : Call) → AsksNothing c.words → AsksNoTopic c.words → n ≡ 2 → EndsBy (program c) c.left n → c.left.read_faults.1 ≡ c.left.read_faults.0 → IsAnswered n c
refused n c none other is ends still = record {
  cause = ends;
  complete = λ q streams asks fit quiet done. absurd (none q streams asks);
  texts = λ q streams asks known unfit quiet. absurd (none q streams asks);
  words = λ nothing no_topic. is;
  about = λ topic about quiet. absurd (other topic about);
  absent = λ q streams file asks named gone. absurd (none q streams asks);
  reads = λ quiet e. absurd (omega arith);
  faulty = λ fault. absurd (fault still);
  writes = λ quiet e. absurd (omega arith);
}

-- and so is one whose words ask about the program, and which read nothing
pub explained : (n : ℕ) (c : Call) (topic : Topic) → AsksAbout c.words topic → EndsBy (program c) c.left n → c.left.read_faults.1 ≡ c.left.read_faults.0 → IsAnswered n c
explained n c topic asked ends still = by ends.0 ends.1 ends.2 where
  asks-none : AsksNothing c.words
  asks-none q streams asks = question-or-about c.words q streams topic asks asked

  said : (s : Status ⊤) → Holds (program c) c.left s → (Grew c.left.out_faults → ⊥) → number_of (λ _. 0) s ≡ 0
  said (Concluded done) h quiet = refl
  said (Stopped stop) h quiet = absurd (h.cause.1 topic asked)
  said CannotWrite h quiet = absurd (quiet h.faults)

  by : (s : Status ⊤) → n ≡ number_of (λ _. 0) s → Holds (program c) c.left s → IsAnswered n c
  by s is h = subst (λ m. IsAnswered m c) (sym is) (record {
    cause = (s, refl, h);
    complete = λ q streams asks fit quiet done. absurd (asks-none q streams asks);
    texts = λ q streams asks known unfit quiet. absurd (asks-none q streams asks);
    words = λ none other. absurd (other topic asked);
    about = λ other same quiet. said s h quiet;
    absent = λ q streams file asks named gone. absurd (asks-none q streams asks);
    reads = reads-well (program c) c.left (λ v e. absurd (omega arith)) (λ cause. cause.0.1) s h;
    faulty = λ fault. absurd (fault still);
    writes = writes-well (program c) c.left (λ v e. absurd (omega arith)) s h;
  })
