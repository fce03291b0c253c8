-- Texts that are read as journals.
use Rattle.std.specs.Prelude.{ℕ, zero, suc, ◌≡◌, ◌≢◌, ◌<◌, ◌≤◌, ◌^◌, Bool, true, false, List, [], ◌∷◌, ◌++◌, length, All, MatchOption, Option, Some, None, ⊤}
use Rattle.std.specs.Borrow.{Bor}
use Rattle.abt_machine.specs.declared.events.Event.{Event}
use Rattle.abt_machine.specs.declared.events.What.{What}
use Rattle.abt_machine.specs.declared.events.What.TheVariants as what
use Rattle.abt_machine.specs.Texts.{event_words, journal_text}
use Rattle.abt_machine.specs.Words.{Text, ended, line_of}
use Rattle.abt_report.specs.declared.text_fault.TextFault.{TextFault}
use Rattle.abt_report.specs.declared.text_fault.TextFault.TheVariants as cause

-- numbers of streams, pools, units and positions have 32 bits, and those that functions return have 64
abbrev pub IsShort : ℕ → Type 0
IsShort n = n < 2 ^ 32

abbrev pub HasShortNumbers : What → Type 0
HasShortNumbers (what.Miss p) = IsShort p.0
HasShortNumbers (what.Take p u) = IsShort p.0 × IsShort u.0
HasShortNumbers (what.Look u) = IsShort u.0
HasShortNumbers (what.Step u k c) = IsShort u.0 × IsShort k
HasShortNumbers (what.Call u k n) = IsShort u.0 × IsShort k × (n < 2 ^ 64)
HasShortNumbers (what.Put u p) = IsShort u.0 × IsShort p.0
HasShortNumbers (what.End u c) = IsShort u.0
HasShortNumbers (what.Enter u) = IsShort u.0
HasShortNumbers (what.Leave u) = IsShort u.0

-- an event whose numbers are within their types: its stamp has 64 bits
pub record IsEvent (e : Event) : Type 0 where
  pub stamp : e.stamp < 2 ^ 64
  pub stream : IsShort e.stream.0
  pub what : HasShortNumbers e.what

-- the line of an event
abbrev pub event_line : Event → Text
event_line e = line_of (event_words e)

-- the rest is what the bytes have from line l on, after the lines of these events
pub record StandsAfter (bytes : Text) (l : ℕ) (J : List Event) (rest : Text) : Type 0 where
  pub text : journal_text J ++ rest ≡ bytes
  pub events : All IsEvent J
  pub line : suc (length J) ≡ l

-- no event's line begins the text
abbrev pub BeginsNoEvent : Text → Type 0
BeginsNoEvent rest = (e : Event) (more : Text) → IsEvent e → ended (event_line e) ++ more ≡ rest → ⊥

-- line l is the first at which no journal's text agrees with the bytes: the lines before it are those of events, and the bytes from
-- it on are not empty and do not begin with an event's line
abbrev pub IsBadAt : Text → ℕ → Type 0
IsBadAt bytes l = (J : List Event) × (rest : Text) × StandsAfter bytes l J rest × (rest ≢ []) × BeginsNoEvent rest

-- the bytes are no journal's text
abbrev pub IsNoJournal : Text → Type 0
IsNoJournal bytes = (J : List Event) → All IsEvent J → journal_text J ≡ bytes → ⊥

-- Texts of files, which programs read up to a limit.

-- how many bytes the text of a journal in a file has at most
abbrev pub journal_limit : ℕ
journal_limit = 1073741824

-- the bytes of a file are the journal's text
pub record IsTextOf (J : List Event) (bytes : Text) : Type 0 where
  pub events : All IsEvent J
  pub text : journal_text J ≡ bytes
  pub short : length bytes ≤ journal_limit

-- the line that keeps the bytes of a file from being a journal's text, counted from 1; 0 says that they are too many
abbrev pub IsNoJournalAt : Text → ℕ → Type 0
IsNoJournalAt bytes zero = journal_limit < length bytes
IsNoJournalAt bytes (suc l) = (length bytes ≤ journal_limit) × IsBadAt bytes (suc l) × IsNoJournal bytes

-- What a reader returns.

-- a value of this kind whose text it is, or nothing if there is none
abbrev pub ReadsAs : {A : Type 0} → (A → Type 0) → (A → Text) → Text → Option A → Type 0
ReadsAs {A} Is text_from text found = MatchOption found ((x : A) → Is x → text_from x ≡ text → ⊥) (λ x. Is x × (text_from x ≡ text))

-- the events with one more whose line this is, or no event's line
abbrev pub ReadsMore : Text → List Event → Bool → List Event → Type 0
ReadsMore line old true new = (e : Event) × IsEvent e × (event_line e ≡ line) × (new ≡ old ++ e ∷ [])
ReadsMore line old false new = (e : Event) → IsEvent e → event_line e ≡ line → ⊥

-- the text after an event's line, which begins this text, and the events with one more; nothing if no event's line begins it
abbrev pub ReadsLine : Text → List Event → Option (Bor Text) → List Event → Type 0
ReadsLine text old (Some more) new = (e : Event) × IsEvent e × (ended (event_line e) ++ more.now ≡ text) × (new ≡ old ++ e ∷ [])
ReadsLine text old None new = BeginsNoEvent text

-- why bytes were not read
abbrev pub IsCause : Text → TextFault → Type 0
IsCause bytes (cause.Bad line) = IsBadAt bytes line × IsNoJournal bytes
IsCause bytes cause.Memory = ⊤
