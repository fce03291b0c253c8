-- What words ask for, and what is known of the files that they name.
use Rattle.std.proofs.Common.{◌≡◌, ◌∙◌, ◌⊎◌, ℕ, List, [], ◌∷◌, Option, Some, None, inl, inr, ap, refl, subst, sym}
use Rattle.std.specs.Prelude.{IfSome}
use Rattle.abt_machine.specs.declared.program.Fault.{Fault}
use Rattle.abt_machine.specs.declared.workload.Parts.{Parts}
use Rattle.abt_machine.specs.Grammar.{Reads, Refuses}
use Rattle.abt_machine.specs.Words.{Text}
use Rattle.abt_run.specs.Prepared.{HasNoWorkload}
use Rattle.abt_run.proofs.Complete.{refuses-also}
use Rattle.abt_shell.specs.declared.status.Stop.{Stop}
use Rattle.abt_shell.specs.declared.status.Stop.TheVariants.{BadWords, BadLine, CannotRead, OutOfMemory}
use Rattle.abt_shell.specs.declared.status.Wrong.TheVariants.{Workload, Journal, Lives}
use Rattle.abt_shell.proofs.Fetched.{of-observed}
use Rattle.abt_view.specs.Call.{IsNamed, LacksJournal, ReadsNames, TellsNames}
use Rattle.abt_view.specs.Views.{Asks, AsksFor, Request, topic_word, view_word}
use Rattle.abt_view.specs.declared.about.Topic.{Topic}
use Rattle.abt_view.specs.declared.views.View.{View}
use Rattle.abt_view.specs.declared.views.View.TheVariants as view

-- words name one journal's file
journals-agree : (words : List Text) (v w : View) (f g : Text) (m n : Option Text) → AsksFor words v f m → AsksFor words w g n → f ≡ g
journals-agree words v w f g None None one two = cc
journals-agree words v w f g None (Some b) one two = let other = two.0 in absurd cc
journals-agree words v w f g (Some a) None one two = let other = one.0 in absurd cc
journals-agree words v w f g (Some a) (Some b) one two = let first = one.0 in let second = two.0 in cc

pub one-journal : (words : List Text) (p q : Request) → Asks words p → Asks words q → p.journal ≡ q.journal
one-journal words p q one two = journals-agree words p.view q.view p.journal q.journal p.workload q.workload one two

-- and one workload's, or none
workloads-agree : (words : List Text) (v w : View) (f g : Text) (m n : Option Text) → AsksFor words v f m → AsksFor words w g n → m ≡ n
workloads-agree words v w f g None None one two = refl
workloads-agree words v w f g None (Some b) one two = let other = two.0 in absurd cc
workloads-agree words v w f g (Some a) None one two = let other = one.0 in absurd cc
workloads-agree words v w f g (Some a) (Some b) one two = let first = one.0 in let second = two.0 in cc

pub one-workload : (words : List Text) (p q : Request) → Asks words p → Asks words q → p.workload ≡ q.workload
one-workload words p q one two = workloads-agree words p.view q.view p.journal q.journal p.workload q.workload one two

-- and one view
one-word : (v w : View) → view_word v ≡ view_word w → v ≡ w
one-word view.Svg view.Svg same = refl
one-word view.Svg view.Trace same = absurd cc
one-word view.Trace view.Svg same = absurd cc
one-word view.Trace view.Trace same = refl

views-agree : (words : List Text) (v w : View) (f g : Text) (m n : Option Text) → AsksFor words v f m → AsksFor words w g n → v ≡ w
views-agree words v w f g None None one two = one-word v w cc
views-agree words v w f g None (Some b) one two = let other = two.0 in absurd cc
views-agree words v w f g (Some a) None one two = let other = one.0 in absurd cc
views-agree words v w f g (Some a) (Some b) one two = let first = one.0 in let second = two.0 in one-word v w cc

pub one-view : (words : List Text) (p q : Request) → Asks words p → Asks words q → p.view ≡ q.view
one-view words p q one two = views-agree words p.view q.view p.journal q.journal p.workload q.workload one two

-- words that ask for what the program says of itself ask for no view
asks-for-none : (words : List Text) (t : Topic) (v : View) (f : Text) (m : Option Text) → words ≡ topic_word t ∷ [] → AsksFor words v f m → ⊥
asks-for-none words t v f None same asks = cc
asks-for-none words t v f (Some file) same asks = let other = asks.0 in cc

pub asks-none : (words : List Text) (t : Topic) (q : Request) → words ≡ topic_word t ∷ [] → Asks words q → ⊥
asks-none words t q same asks = asks-for-none words t q.view q.journal q.workload same asks

-- a file that is asked for is one that the words name
pub names-journal : (words : List Text) (q : Request) (begun : Option Text) → Asks words q → IfSome begun (λ file. file ≡ q.journal) → IfSome begun (IsNamed words)
names-journal words q None asks its = tt
names-journal words q (Some file) asks its = (q, asks, inr its)

pub names-both : (words : List Text) (q : Request) (workload : Text) (begun : Option Text) → Asks words q → q.workload ≡ Some workload
    → IfSome begun (λ file. (file ≡ workload) ⊎ (file ≡ q.journal)) → IfSome begun (IsNamed words)
names-both words q workload None asks names its = tt
names-both words q workload (Some file) asks names its = (q, asks, elim its [ inl first ↦ inl (names ∙ ap (λ (f : Text). Some f) (sym first)) | inr second ↦ inr second ])

-- what is known of the journal's file is known of the bytes that are observed
pub of-journal : (P : Text → Type 0) (words : List Text) (p q : Request) (bytes : Text) (file_of : Text → Option Text) → Asks words p → Asks words q → file_of q.journal ≡ Some bytes
    → IfSome (file_of p.journal) P → P bytes
of-journal P words p q bytes file_of one two at known =
    of-observed P (file_of q.journal) bytes at (subst (λ name. IfSome (file_of name) P) (one-journal words p q one two) known)

-- bytes are not both a workload's text and refused
reads-whole : (bytes : Text) (W : Parts) (line : ℕ) (f : Fault) → Reads bytes W → Refuses bytes line f → ⊥
reads-whole bytes W line f reads refuses = let none = reads.faultless line in let some = refuses.first in cc

-- a workload that is known is not refused
names-not-refused : (file_of : Text → Option Text) (named : Option Text) (file : Text) (names : Option Parts) (line : ℕ) (f : Fault) → named ≡ Some file → TellsNames named file_of names
    → IfSome (file_of file) (λ bytes. Refuses bytes line f) → ⊥
names-not-refused file_of None file names line f same tells is = absurd cc
names-not-refused file_of (Some other) file None line f same tells is = tells
names-not-refused file_of (Some other) file (Some W) line f same tells is =
    let equal : other ≡ file = cc in
    reads-whole tells.0 W line f tells.2 (of-observed (λ bytes. Refuses bytes line f) (file_of other) tells.0 tells.1
    (subst (λ name. IfSome (file_of name) (λ bytes. Refuses bytes line f)) (sym equal) is))

pub not-refused : (words : List Text) (p q : Request) (file_of : Text → Option Text) (file : Text) (names : Option Parts) (line : ℕ) (f : Fault) → Asks words p → Asks words q
    → p.workload ≡ Some file → TellsNames q.workload file_of names → IfSome (file_of file) (λ bytes. Refuses bytes line f) → ⊥
not-refused words p q file_of file names line f one two at tells is =
    names-not-refused file_of q.workload file names line f (sym (one-workload words p q one two) ∙ at) tells is

-- bytes that are no workload's text are not read
names-not-read : (file_of : Text → Option Text) (named : Option Text) (file bytes : Text) (names : Option Parts) → named ≡ Some file → ReadsNames named file_of names → file_of file ≡ Some bytes
    → ((W : Parts) → Reads bytes W → ⊥) → ⊥
names-not-read file_of None file bytes names same reads at none = absurd cc
names-not-read file_of (Some other) file bytes None same reads at none = reads
names-not-read file_of (Some other) file bytes (Some W) same reads at none =
    let equal : other ≡ file = cc in
    none W (of-observed (λ text. Reads text W) (file_of file) bytes at (subst (λ name. IfSome (file_of name) (λ text. Reads text W)) equal reads))

pub not-read : (words : List Text) (p q : Request) (file_of : Text → Option Text) (file bytes : Text) (names : Option Parts) → Asks words p → Asks words q → q.workload ≡ Some file
    → ReadsNames p.workload file_of names → file_of file ≡ Some bytes → ((W : Parts) → Reads bytes W → ⊥) → ⊥
not-read words p q file_of file bytes names one two names-file reads at none =
    names-not-read file_of p.workload file bytes names (one-workload words p q one two ∙ names-file) reads at none

-- if the workload is known, the journal is lacked since it cannot be read
known-lacks : (told : Option Text) (bytes : Text) (W : Parts) (faults : ℕ × ℕ) (s : Stop) → told ≡ Some bytes → Reads bytes W → HasNoWorkload told faults s → (s ≡ CannotRead) ⊎ (s ≡ OutOfMemory)
known-lacks told bytes W faults BadWords seen reads none = absurd none
known-lacks told bytes W faults (BadLine line (Workload f said)) seen reads none = absurd (reads-whole bytes W line f reads (of-observed (λ text. Refuses text line f) told bytes seen (refuses-also told line f said.now none)))
known-lacks told bytes W faults (BadLine line (Journal said)) seen reads none = absurd none
known-lacks told bytes W faults (BadLine line (Lives said)) seen reads none = absurd none
known-lacks told bytes W faults CannotRead seen reads none = inl refl
known-lacks told bytes W faults OutOfMemory seen reads none = inr refl

pub lacks-journal : (named : Option Text) (file_of : Text → Option Text) (names : Option Parts) (faults : ℕ × ℕ) (s : Stop) → TellsNames named file_of names → LacksJournal named file_of faults s
    → (s ≡ CannotRead) ⊎ (s ≡ OutOfMemory)
lacks-journal None file_of names faults s tells lacks = inl lacks
lacks-journal (Some file) file_of None faults s tells lacks = absurd tells
lacks-journal (Some file) file_of (Some W) faults s tells lacks =
    elim lacks [ inl read ↦ inl read | inr none ↦ known-lacks (file_of file) tells.0 W faults s tells.1 tells.2 none ]
