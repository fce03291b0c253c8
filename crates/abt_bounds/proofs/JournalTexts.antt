-- Journals are read back from their texts, so journals of one text are one.
use Rattle.std.proofs.Common.{◌≡◌, ◌<◌, ◌^◌, ◌*◌, ◌∙◌, ℕ, if◌then◌else◌, List, [], ◌∷◌, ◌++◌, refl, ap, sym, arith, append_assoc, decimal, codes}
use Rattle.std.specs.List.{All, AllByRecursion, slice_split}
use Rattle.std.specs.Fmt.{digits}
use Rattle.std.specs.Str.{bytes_eq}
use Rattle.std.specs.Str.Parse.{digits_value}
use Rattle.std.proofs.lemmas.Fmt.{decimal_is_IsNumeral_wide}
use Rattle.std.proofs.lemmas.List.Elements.{All-head, All-tail}
use Rattle.abt_machine.specs.declared.events.Cause.{Cause}
use Rattle.abt_machine.specs.declared.events.Cause.TheVariants as cause
use Rattle.abt_machine.specs.declared.events.Code.{Code}
use Rattle.abt_machine.specs.declared.events.Code.TheVariants as code
use Rattle.abt_machine.specs.declared.events.Event.{Event}
use Rattle.abt_machine.specs.declared.events.What.{What}
use Rattle.abt_machine.specs.declared.events.What.TheVariants as what
use Rattle.abt_machine.specs.Numbers.{pool_no, stream_no, unit_no}
use Rattle.abt_machine.specs.Texts.{cause_name, code_name, event_words, journal_text, what_words}
use Rattle.abt_machine.specs.Words.{Text, ended, line_of}
use Rattle.abt_bounds.specs.Laws.{IsWritten, JournalTextsDiffer, LongNumbersCoincide, what_numbers}
use Rattle.abt_bounds.proofs.Solid.{IsNoFeed, is_space, split-line, unbroken-line}

-- Words are read back.

abbrev value : Text → ℕ
value word = digits_value 10 word

value-decimal : (n : ℕ) → n < 10 ^ 64 → value (decimal n) ≡ n
value-decimal n fits = (decimal_is_IsNumeral_wide n fits).1

abbrev cause_read : Text → Cause
cause_read name =
    if bytes_eq name (codes "done") then cause.Done
    else if bytes_eq name (codes "asked") then cause.Asked
    else if bytes_eq name (codes "access") then cause.Access
    else cause.Own

cause-back : (c : Cause) → cause_read (cause_name c) ≡ c
cause-back cause.Done = refl
cause-back _ = refl

abbrev code_read : Text → Code
code_read name =
    if bytes_eq name (codes "ok") then code.Ok
    else if bytes_eq name (codes "pool-access") then code.PoolAccess
    else if bytes_eq name (codes "exists") then code.Exists
    else if bytes_eq name (codes "unit-state") then code.UnitState
    else if bytes_eq name (codes "not-migratable") then code.NotMigratable
    else if bytes_eq name (codes "absent") then code.Absent
    else if bytes_eq name (codes "mutex-locked") then code.MutexLocked
    else if bytes_eq name (codes "not-owner") then code.NotOwner
    else if bytes_eq name (codes "eventual-set") then code.EventualSet
    else if bytes_eq name (codes "future-full") then code.FutureFull
    else if bytes_eq name (codes "rw-held") then code.RwHeld
    else if bytes_eq name (codes "rw-full") then code.RwFull
    else code.NotHolder

code-back : (c : Code) → code_read (code_name c) ≡ c
code-back code.Ok = refl
code-back _ = refl

-- the first word, and those after it
abbrev word_or : List Text → Text
word_or [] = []
word_or (w ∷ ws) = w

abbrev words_after : List Text → List Text
words_after [] = []
words_after (w ∷ ws) = ws

-- by the word that says what happened, and three more
abbrev kind_read : Text → Text → Text → Text → What
kind_read kind a b c =
    if bytes_eq kind (codes "miss") then what.Miss (pool_no (value a))
    else if bytes_eq kind (codes "take") then what.Take (pool_no (value a)) (unit_no (value b))
    else if bytes_eq kind (codes "look") then what.Look (unit_no (value a))
    else if bytes_eq kind (codes "step") then what.Step (unit_no (value a)) (value b) (code_read c)
    else if bytes_eq kind (codes "call") then what.Call (unit_no (value a)) (value b) (value c)
    else if bytes_eq kind (codes "put") then what.Put (unit_no (value a)) (pool_no (value b))
    else if bytes_eq kind (codes "end") then what.End (unit_no (value a)) (cause_read b)
    else if bytes_eq kind (codes "enter") then what.Enter (unit_no (value a))
    else what.Leave (unit_no (value a))

abbrev what_read : List Text → What
what_read ws = kind_read (word_or ws) (word_or (words_after ws)) (word_or (words_after (words_after ws))) (word_or (words_after (words_after (words_after ws))))

abbrev event_read : List Text → Event
event_read ws = record { stamp = value (word_or ws); stream = stream_no (value (word_or (words_after ws))); what = what_read (words_after (words_after ws)) }

what-back : (w : What) → AllByRecursion (λ n. n < 10 ^ 64) (what_numbers w) → what_read (what_words w) ≡ w
what-back (what.Miss p) h = ap (λ n. what.Miss (pool_no n)) (value-decimal p.0 h.0)
what-back (what.Take p u) h = ap (λ n. what.Take (pool_no n) (unit_no (value (decimal u.0)))) (value-decimal p.0 h.0) ∙ ap (λ n. what.Take p (unit_no n)) (value-decimal u.0 h.1.0)
what-back (what.Look u) h = ap (λ n. what.Look (unit_no n)) (value-decimal u.0 h.0)
what-back (what.Step u k c) h =
    ap (λ n. what.Step (unit_no n) (value (decimal k)) (code_read (code_name c))) (value-decimal u.0 h.0)
    ∙ (ap (λ n. what.Step u n (code_read (code_name c))) (value-decimal k h.1.0) ∙ ap (what.Step u k) (code-back c))
what-back (what.Call u k n) h =
    ap (λ i. what.Call (unit_no i) (value (decimal k)) (value (decimal n))) (value-decimal u.0 h.0)
    ∙ (ap (λ i. what.Call u i (value (decimal n))) (value-decimal k h.1.0) ∙ ap (what.Call u k) (value-decimal n h.1.1.0))
what-back (what.Put u p) h = ap (λ n. what.Put (unit_no n) (pool_no (value (decimal p.0)))) (value-decimal u.0 h.0) ∙ ap (λ n. what.Put u (pool_no n)) (value-decimal p.0 h.1.0)
what-back (what.End u c) h = ap (λ n. what.End (unit_no n) (cause_read (cause_name c))) (value-decimal u.0 h.0) ∙ ap (what.End u) (cause-back c)
what-back (what.Enter u) h = ap (λ n. what.Enter (unit_no n)) (value-decimal u.0 h.0)
what-back (what.Leave u) h = ap (λ n. what.Leave (unit_no n)) (value-decimal u.0 h.0)

abbrev made : ℕ → ℕ → What → Event
made t s w = record { stamp = t; stream = stream_no s; what = w }

event-back : (e : Event) → IsWritten e → event_read (event_words e) ≡ e
event-back e h =
    ap (λ t. made t (value (decimal e.stream.0)) (what_read (what_words e.what))) (value-decimal e.stamp h.0)
    ∙ (ap (λ s. made e.stamp s (what_read (what_words e.what))) (value-decimal e.stream.0 h.1.0) ∙ ap (made e.stamp e.stream.0) (what-back e.what h.1.1))

-- Texts are cut at their line feeds.

abbrev event_line : Event → Text
event_line e = line_of (event_words e)

-- a line is that of one event
line-is : (e f : Event) → IsWritten e → IsWritten f → event_line e ≡ event_line f → e ≡ f
line-is e f he hf same =
    let words : event_words e ≡ event_words f = sym (split-line e) ∙ (ap (slice_split is_space) same ∙ split-line f) in
    sym (event-back e he) ∙ (ap event_read words ∙ event-back f hf)

head-is : {a b : ℕ} {xs ys : Text} → a ∷ xs ≡ b ∷ ys → a ≡ b
head-is e = cc

tail-is : {a b : ℕ} {xs ys : Text} → a ∷ xs ≡ b ∷ ys → xs ≡ ys
tail-is e = cc

cut-same : (xs ys us vs : Text) → All IsNoFeed xs → All IsNoFeed ys → xs ++ 10 ∷ us ≡ ys ++ 10 ∷ vs → (xs ≡ ys) × (us ≡ vs)
cut-same [] [] us vs hx hy e = (refl, tail-is e)
cut-same [] (y ∷ ys) us vs hx hy e = absurd (All-head IsNoFeed y ys hy (sym (head-is e)))
cut-same (x ∷ xs) [] us vs hx hy e = absurd (All-head IsNoFeed x xs hx (head-is e))
cut-same (x ∷ xs) (y ∷ ys) us vs hx hy e =
    let cut : (xs ≡ ys) × (us ≡ vs) = cut-same xs ys us vs (All-tail IsNoFeed x xs hx) (All-tail IsNoFeed y ys hy) (tail-is e) in
    (ap (λ z. z ∷ xs) (head-is e) ∙ ap (λ zs. y ∷ zs) cut.0, cut.1)

ended-prefix : (line rest : Text) → ended line ++ rest ≡ line ++ 10 ∷ rest
ended-prefix line rest = append_assoc line (10 ∷ []) rest

not-empty : (line rest : Text) → line ++ 10 ∷ rest ≡ [] → ⊥
not-empty [] rest e = cc
not-empty (x ∷ line) rest e = cc

pub journal-texts-differ : JournalTextsDiffer
journal-texts-differ [] [] hj hk same = refl
journal-texts-differ [] (k ∷ ks) hj hk same = absurd (not-empty (event_line k) (journal_text ks) (sym (same ∙ ended-prefix (event_line k) (journal_text ks))))
journal-texts-differ (e ∷ es) [] hj hk same = absurd (not-empty (event_line e) (journal_text es) (sym (ended-prefix (event_line e) (journal_text es)) ∙ same))
journal-texts-differ (e ∷ es) (k ∷ ks) hj hk same =
    let whole : event_line e ++ 10 ∷ journal_text es ≡ event_line k ++ 10 ∷ journal_text ks =
    sym (ended-prefix (event_line e) (journal_text es)) ∙ (same ∙ ended-prefix (event_line k) (journal_text ks)) in
    let cut : (event_line e ≡ event_line k) × (journal_text es ≡ journal_text ks) =
    cut-same (event_line e) (event_line k) (journal_text es) (journal_text ks) (unbroken-line e) (unbroken-line k) whole in
    ap (λ x. x ∷ es) (line-is e k hj.0 hk.0 cut.0) ∙ ap (λ xs. k ∷ xs) (journal-texts-differ es ks hj.1 hk.1 cut.1)

-- Numbers of more than 64 digits.

abbrev looked : ℕ → List Event
looked t = made t 0 (what.Look (unit_no 0)) ∷ []

stamp-of : List Event → ℕ
stamp-of [] = 0
stamp-of (e ∷ es) = e.stamp

pub long-numbers-coincide : LongNumbersCoincide
unfolding stamp-of digits
long-numbers-coincide = (looked (10 ^ 64), looked (2 * 10 ^ 64), refl, λ e. (let same : 10 ^ 64 ≡ 2 * 10 ^ 64 = ap stamp-of e in absurd (omega arith)))
