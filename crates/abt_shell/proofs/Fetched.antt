-- What was read of a file, from what was read of its first bytes; and why a call stops.
use Rattle.std.proofs.Common.{◌≡◌, ◌≢◌, ◌∙◌, ◌<◌, ◌≤◌, ◌+◌, ◌-◌, ◌^◌, ℕ, length, take, Option, Some, None, Result, Ok, Err, min, ap, subst, sym, arith, inl, inr}
use Rattle.std.specs.Prelude.{IfErr, IfSome, IsErrAnd, ⊤}
use Rattle.std.proofs.lemmas.Bool.{cases_lt}
use Rattle.std.proofs.lemmas.List.{take_all, length-take}
use Rattle.abt_machine.specs.Words.{Text}
use Rattle.abt_report.specs.declared.text_fault.TextFault.{TextFault}
use Rattle.abt_report.specs.declared.text_fault.TextFault.TheVariants.{Bad}
use Rattle.abt_report.specs.Journals.{IsCause, IsNoJournalAt, journal_limit}
use Rattle.abt_report.proofs.Limits.{bad-line}
use Rattle.abt_shell.specs.Fetched.{HasNot, StopsFor}
use Rattle.abt_shell.specs.Told.{Grew}
use Rattle.abt_shell.specs.declared.status.Stop.{Stop}
use Rattle.abt_shell.specs.declared.status.Stop.TheVariants.{BadWords, BadLine, CannotRead, OutOfMemory}
use Rattle.abt_shell.specs.declared.status.Wrong.{Wrong}

-- the first bytes of a file are all of it, if they are fewer than were asked for
pub whole : (most : ℕ) (prefix xs : Text) → prefix ≡ take (most + 1) xs → length prefix ≤ most → prefix ≡ xs
whole most prefix xs e short =
    let n : length prefix ≡ min (most + 1) (length xs) = ap length e ∙ length-take (most + 1) xs in
    let fits : length xs ≤ most + 1 = omega arith in
    e ∙ take_all (most + 1) xs fits

-- what holds of them holds of the observable bytes of the file
pub of-whole : (most : ℕ) (P : Text → Type 0) (file : Option Text) (prefix : Text) → IfSome file (λ xs. prefix ≡ take (most + 1) xs) → length prefix ≤ most → P prefix → IfSome file P
of-whole most P None prefix e short h = tt
of-whole most P (Some xs) prefix e short h = subst P (whole most prefix xs e short) h

-- or there are more bytes than that
pub of-long : (most : ℕ) (P : Text → Type 0) (file : Option Text) (prefix : Text) → IfSome file (λ xs. prefix ≡ take (most + 1) xs) → most < length prefix
    → ((xs : Text) → most < length xs → P xs) → IfSome file P
of-long most P None prefix e long h = tt
of-long most P (Some xs) prefix e long h = let n : length prefix ≡ min (most + 1) (length xs) = ap length e ∙ length-take (most + 1) xs in h xs (omega (arith, n, long))

-- what holds of the bytes of a file, if they are observable, holds of these bytes
pub of-observed : (P : Text → Type 0) (file : Option Text) (bytes : Text) → file ≡ Some bytes → IfSome file P → P bytes
of-observed P None bytes e known = cc
of-observed P (Some b) bytes e known = let same : b ≡ bytes = cc in subst P same known

-- a count that grew after it had not fallen grew since then
pub grew-later : (a b c : ℕ) → a ≤ b → b ≤ c → Grew (b, c) → Grew (a, c)
grew-later a b c first second grew low = elim (cases_lt b (2 ^ 64 - 1)) [ inl below ↦ let more : b < c = grew below in omega arith | inr last ↦ omega arith ]

-- what is a reason to stop is one by more that is known
pub stops-more : (N M : Type 0) (F G : Type 0) (B D : ℕ → Wrong → Type 0) (faults more : ℕ × ℕ) → (N → M) → (F → G) → ((line : ℕ) (w : Wrong) → B line w → D line w) → (Grew faults → Grew more) → (s : Stop)
    → StopsFor N F B faults s → StopsFor M G D more s
stops-more N M F G B D faults more nothing names bad grew BadWords h = nothing h
stops-more N M F G B D faults more nothing names bad grew (BadLine line w) h = bad line w h
stops-more N M F G B D faults more nothing names bad grew CannotRead h = (names h.0, grew h.1)
stops-more N M F G B D faults more nothing names bad grew OutOfMemory h = h

-- so a file that has not what was to be read stops the call whose words name it
pub stops-file : (N F : Type 0) (B D : ℕ → Wrong → Type 0) (faults more : ℕ × ℕ) → F → ((line : ℕ) (w : Wrong) → B line w → D line w) → (Grew faults → Grew more) → (s : Stop) → HasNot B faults s → StopsFor N F D more s
stops-file N F B D faults more named = stops-more ⊥ N ⊤ F B D faults more (λ no. absurd no) (λ known. named)

-- what is passed on by `?` stops for the reason that was found
pub passed-on : {T : Type 0} (r : Result T Stop) (s : Stop) (P : Stop → Type 0) → IsErrAnd r (λ y. y ≡ s) → P s → IsErrAnd r P
passed-on (Err y) s P same h = subst P (sym same) h
passed-on (Ok x) s P same h = absurd same

pub passed : {T : Type 0} (r : Result T Stop) (s : Stop) (P : Stop → Type 0) → IsErrAnd r (λ y. y ≡ s) → P s → IfErr r P
passed {T} (Err y) s P same h = passed-on {T = T} (Err y) s P same h
passed (Ok x) s P same h = absurd same

-- the line that keeps bytes from being a journal's text, by the cause that their reader states
pub wrong-line : (bytes : Text) (cause : TextFault) (line l : ℕ) → length bytes ≤ journal_limit → cause ≡ Bad line → l ≡ line → IsCause bytes cause → IsNoJournalAt bytes l
wrong-line bytes cause line l short is same why = subst (IsNoJournalAt bytes) (sym same) (bad-line bytes line short (subst (IsCause bytes) is why))

-- A fault of reading.

-- if none came before, it came later
pub faulty-later : {A : Type 0} (a b c : ℕ) → (b ≢ a → ⊥) → (c ≢ b → A) → c ≢ a → A
faulty-later a b c still faulty other = faulty (λ later. still (λ first. other (later ∙ first)))
