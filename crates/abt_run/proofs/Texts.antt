-- What was read of a file, from what was read of its first bytes.
use Rattle.std.proofs.Common.{◌≡◌, ◌<◌, ◌≤◌, ◌^◌, ℕ, zero, suc, List, [], ◌∷◌, length, take, Option, Some, None, min, arith, refl, sym, ap, subst, ◌∙◌, inl, inr}
use Rattle.std.specs.Prelude.{IfSome}
use Rattle.std.specs.List.{All, AllByRecursion}
use Rattle.std.proofs.lemmas.Bool.{cases_lt}
use Rattle.std.proofs.lemmas.List.{length-take}
use Rattle.std.proofs.lemmas.List.Elements.{All-head, All-tail}
use Rattle.abt_machine.specs.declared.events.Event.{Event}
use Rattle.abt_machine.specs.declared.events.What.{What}
use Rattle.abt_machine.specs.declared.events.What.TheVariants as what
use Rattle.abt_machine.specs.declared.grammar.Format.TheVariants as format
use Rattle.abt_machine.specs.declared.program.Fault.{Fault}
use Rattle.abt_machine.specs.declared.program.Fault.TheVariants as fault
use Rattle.abt_machine.specs.declared.workload.Parts.{Parts}
use Rattle.abt_machine.specs.Grammar.{Reads, Refuses, fault_at, format_of}
use Rattle.abt_machine.specs.Limits.{text_limit}
use Rattle.abt_machine.specs.Spelling.{lines_of}
use Rattle.abt_machine.specs.Words.{Text}
use Rattle.abt_bounds.specs.Laws.{IsWritten, what_numbers}
use Rattle.abt_bounds.proofs.JournalTexts.{journal-texts-differ}
use Rattle.abt_report.specs.Journals.{HasShortNumbers, IsEvent, IsTextOf}
use Rattle.abt_shell.specs.declared.status.Stop.{Stop}
use Rattle.abt_shell.specs.declared.status.Stop.TheVariants.{BadWords, BadLine, CannotRead, OutOfMemory}
use Rattle.abt_shell.specs.declared.status.Wrong.TheVariants.{Workload, Journal, Lives}
use Rattle.abt_shell.proofs.Fetched.{of-whole, whole}
use Rattle.abt_workload.specs.Hints.{RefusesSo, hint}
use Rattle.abt_workload.specs.Reading.{IsCause}
use Rattle.abt_workload.specs.declared.reading.NotRead.{NotRead}
use Rattle.abt_workload.specs.declared.reading.NotRead.TheVariants as cause
use Rattle.abt_workload.proofs.Seen.{length-fault, most-bytes}
use Rattle.abt_run.specs.Prepared.{HasNoWorkload}

-- Workloads.

-- a text of more bytes is refused for its length
too-long : (text : Text) → text_limit format.Three < length text → fault_at text 0 ≡ Some fault.Limit
too-long text long = length-fault text (let few = most-bytes (format_of (lines_of text)) in omega (arith, few, long))

-- what is read is short
reads-short : (text : Text) (W : Parts) → Reads text W → length text ≤ text_limit format.Three
reads-short text W reads = elim (cases_lt (text_limit format.Three) (length text)) [ inl long ↦ long-read long | inr short ↦ short ] where
  long-read : text_limit format.Three < length text → length text ≤ text_limit format.Three
  long-read long = let one : fault_at text 0 ≡ None = reads.faultless 0 in let other = too-long text long in cc

-- a long text is refused for its length alone
refused-long : (text : Text) (line : ℕ) (f : Fault) → Refuses text line f → text_limit format.Three < length text → (line ≡ 0) × (f ≡ fault.Limit)
refused-long text zero f refuses long = let one = refuses.first in let other = too-long text long in (refl, cc)
refused-long text (suc line) f refuses long = let one = refuses.least 0 (omega arith) in let other = too-long text long in absurd cc

-- the observable bytes of the file read as the prefix does
pub told-reads : (told : Option Text) (front : Text) (W : Parts) → IfSome told (λ xs. front ≡ take (suc (text_limit format.Three)) xs) → Reads front W → IfSome told (λ xs. Reads xs W)
told-reads told front W e reads = of-whole (text_limit format.Three) (λ text. Reads text W) told front e (reads-short front W reads) reads

-- and are refused as the prefix is
told-refuses : (told : Option Text) (front : Text) (line : ℕ) (f : Fault) → IfSome told (λ xs. front ≡ take (suc (text_limit format.Three)) xs) → Refuses front line f → IfSome told (λ xs. Refuses xs line f)
told-refuses None front line f e refuses = tt
told-refuses (Some xs) front line f e refuses = elim (cases_lt (text_limit format.Three) (length front)) [
  | inl long ↦ refused-whole long
  | inr short ↦ subst (λ text. Refuses text line f) (whole (text_limit format.Three) front xs e short) refuses
] where
  refused-whole : text_limit format.Three < length front → Refuses xs line f
  refused-whole long =
      let is = refused-long front line f refuses long in
      let n : length front ≡ min (suc (text_limit format.Three)) (length xs) = ap length e ∙ length-take (suc (text_limit format.Three)) xs in
      let all : Refuses xs 0 fault.Limit = record { least = λ above below. absurd (omega arith); first = too-long xs (omega arith) } in
      subst (λ l. Refuses xs l f) (sym is.0) (subst (λ g. Refuses xs 0 g) (sym is.1) all)

-- as much may be said further of either
hints-agree : (front xs : Text) (line : ℕ) (f : Fault) → front ≡ take (suc (text_limit format.Three)) xs → Refuses front line f → hint front line f ≡ hint xs line f
hints-agree front xs line f e refuses = elim (cases_lt (text_limit format.Three) (length front)) [
  | inl long ↦
      let is = refused-long front line f refuses long in
      let all : hint front 0 f ≡ hint xs 0 f = subst (λ g. hint front 0 g ≡ hint xs 0 g) (sym is.1) refl in
      subst (λ l. hint front l f ≡ hint xs l f) (sym is.0) all
  | inr short ↦ ap (λ (text : Text). hint text line f) (whole (text_limit format.Three) front xs e short)
]

-- so the observable bytes are refused as the prefix is, and as much is said further
told-refuses-so : (told : Option Text) (front : Text) (line : ℕ) (f : Fault) (said : Text) → IfSome told (λ xs. front ≡ take (suc (text_limit format.Three)) xs) → RefusesSo front line f said
    → IfSome told (λ xs. RefusesSo xs line f said)
told-refuses-so None front line f said e so = tt
told-refuses-so (Some xs) front line f said e so = (told-refuses (Some xs) front line f e so.0, so.1 ∙ hints-agree front xs line f e so.0)

-- and stop a call as the prefix does
pub told-stops : (told : Option Text) (front : Text) (faults : ℕ × ℕ) (s : Stop) → IfSome told (λ xs. front ≡ take (suc (text_limit format.Three)) xs) → HasNoWorkload (Some front) faults s → HasNoWorkload told faults s
told-stops told front faults BadWords e none = none
told-stops told front faults (BadLine line (Workload f said)) e none = told-refuses-so told front line f said.now e none
told-stops told front faults (BadLine line (Journal said)) e none = none
told-stops told front faults (BadLine line (Lives said)) e none = none
told-stops told front faults CannotRead e none = none
told-stops told front faults OutOfMemory e none = none

-- what is refused, by the cause that the reader states
pub refused-by : (text : Text) (c : NotRead) (line l : ℕ) (f g : Fault) → c ≡ cause.Refused line f → l ≡ line → g ≡ f → IsCause text c → Refuses text l g
refused-by text c line l f g is same equal why =
    subst (λ k. Refuses text k g) (sym same) (subst (Refuses text line) (sym equal) (subst (IsCause text) is why))

-- One text, one journal.

numbers-written : (w : What) → HasShortNumbers w → AllByRecursion (λ n. n < 10 ^ 64) (what_numbers w)
numbers-written (what.Miss p) h = (omega arith, tt)
numbers-written (what.Take p u) h = let a = h.0 in let b = h.1 in (omega arith, (omega arith, tt))
numbers-written (what.Look u) h = (omega arith, tt)
numbers-written (what.Step u k c) h = let a = h.0 in let b = h.1 in (omega arith, (omega arith, tt))
numbers-written (what.Call u k n) h = let a = h.0 in let b = h.1 in let d = h.2 in (omega arith, (omega arith, (omega arith, tt)))
numbers-written (what.Put u p) h = let a = h.0 in let b = h.1 in (omega arith, (omega arith, tt))
numbers-written (what.End u c) h = (omega arith, tt)
numbers-written (what.Enter u) h = (omega arith, tt)
numbers-written (what.Leave u) h = (omega arith, tt)

event-written : (e : Event) → IsEvent e → IsWritten e
event-written e is =
    let stamp : e.stamp < 2 ^ 64 = is.stamp in
    let stream : e.stream.0 < 2 ^ 32 = is.stream in
    let one : e.stamp < 10 ^ 64 = omega arith in
    let two : e.stream.0 < 10 ^ 64 = omega arith in
    (one, (two, numbers-written e.what is.what))

all-written : (J : List Event) → All IsEvent J → AllByRecursion IsWritten J
all-written [] h = tt
all-written (e ∷ es) h = (event-written e (All-head IsEvent e es h), all-written es (All-tail IsEvent e es h))

pub one-journal : (bytes : Text) (J K : List Event) → IsTextOf J bytes → IsTextOf K bytes → J ≡ K
one-journal bytes J K one two = journal-texts-differ J K (all-written J one.events) (all-written K two.events) (one.text ∙ sym two.text)
