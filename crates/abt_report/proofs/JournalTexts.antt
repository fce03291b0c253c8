-- Texts that begin with the lines of events.
use Rattle.std.proofs.Common.{◌≡◌, ◌≢◌, ◌<◌, ◌≤◌, ◌+◌, ◌∙◌, ℕ, List, [], ◌∷◌, ◌++◌, length, map, ap, refl, sym, arith, append_assoc, length-append}
use Rattle.std.specs.List.{All}
use Rattle.std.proofs.lemmas.Grind.{flat_map-append}
use Rattle.std.proofs.lemmas.List.{append-nil, map_push}
use Rattle.std.proofs.lemmas.List.Elements.{All-head, All-push, All-tail}
use Rattle.abt_bounds.proofs.Solid.{unbroken-line}
use Rattle.abt_machine.specs.declared.events.Event.{Event}
use Rattle.abt_machine.specs.Texts.{event_words, journal_text}
use Rattle.abt_machine.specs.Words.{Text, ended, line_of}
use Rattle.abt_report.specs.declared.text_fault.TextFault.TheVariants.{Bad}
use Rattle.abt_report.specs.Journals.{BeginsNoEvent, IsCause, IsEvent, StandsAfter, event_line}
use Rattle.abt_report.proofs.LineBreaks.{IsUnbroken, broken, cut-same}

-- a line with its line feed, and what follows
ended-front : (line rest : Text) → ended line ++ rest ≡ line ++ 10 ∷ rest
ended-front line rest = append_assoc line (10 ∷ []) rest

-- a text that has a line is not empty
not-empty : (line rest : Text) → line ++ 10 ∷ rest ≡ [] → ⊥
not-empty [] rest e = cc
not-empty (x ∷ line) rest e = cc

-- after the lines of events no journal's text goes on if no event's line begins there
no-journal : (J K : List Event) (rest bytes : Text) → journal_text J ++ rest ≡ bytes → All IsEvent J → rest ≢ [] → BeginsNoEvent rest → All IsEvent K → journal_text K ≡ bytes → ⊥
no-journal [] [] rest bytes at events some none events' same = some (at ∙ sym same)
no-journal [] (e ∷ es) rest bytes at events some none events' same = none e (journal_text es) (All-head IsEvent e es events') (same ∙ sym at)
no-journal (e ∷ es) [] rest bytes at events some none events' same =
    let whole : event_line e ++ 10 ∷ (journal_text es ++ rest) ≡ [] =
    sym (ended-front (event_line e) (journal_text es ++ rest)) ∙ (sym (append_assoc (ended (event_line e)) (journal_text es) rest) ∙ (at ∙ sym same)) in
    not-empty (event_line e) (journal_text es ++ rest) whole
no-journal (e ∷ es) (k ∷ ks) rest bytes at events some none events' same =
    let whole : event_line e ++ 10 ∷ (journal_text es ++ rest) ≡ event_line k ++ 10 ∷ journal_text ks =
    sym (ended-front (event_line e) (journal_text es ++ rest)) ∙ (sym (append_assoc (ended (event_line e)) (journal_text es) rest) ∙ (at ∙ (sym same ∙ ended-front (event_line k) (journal_text ks)))) in
    let cut = cut-same (event_line e) (event_line k) (journal_text es ++ rest) (journal_text ks) (unbroken-line e) (unbroken-line k) whole in
    no-journal es ks rest (journal_text ks) cut.1 (All-tail IsEvent e es events) some none (All-tail IsEvent k ks events') refl

-- why the bytes are no journal's text
pub bad : (bytes rest : Text) (l : ℕ) (J : List Event) → StandsAfter bytes l J rest → 0 < length rest → BeginsNoEvent rest → IsCause bytes (Bad l)
bad bytes rest l J stands some none =
    let filled : rest ≢ [] = λ e. absurd (omega (arith, ap length e)) in
    ((J, rest, stands, filled, none), λ K events same. no-journal J K rest bytes stands.text stands.events filled none events same)

-- no event's line begins a text without a line feed
pub no-feed-at-all : (rest : Text) → IsUnbroken rest → BeginsNoEvent rest
no-feed-at-all rest plain = λ e more is at. broken (event_line e) more rest (sym (ended-front (event_line e) more) ∙ at) plain

-- nor one whose first line is no event's
pub no-event-line : (rest line more : Text) → IsUnbroken line → line ++ 10 ∷ more ≡ rest → ((e : Event) → IsEvent e → event_line e ≡ line → ⊥) → BeginsNoEvent rest
no-event-line rest line more plain at none = λ e after is begins.
    let cut = cut-same (event_line e) line after more (unbroken-line e) plain (sym (ended-front (event_line e) after) ∙ (begins ∙ sym at)) in
    none e is cut.0

-- the text of a journal with one event more
journal-push : (J : List Event) (e : Event) → journal_text (J ++ e ∷ []) ≡ journal_text J ++ ended (event_line e)
journal-push J e =
    rw (map_push event_words J e, flat_map-append (λ (words : List Text). ended (line_of words)) (map event_words J) (event_words e ∷ []), append-nil (ended (event_line e))) refl

-- a line and its line feed begin a text
pub line-begins : (line same more rest : Text) → same ≡ line → line ++ 10 ∷ more ≡ rest → ended same ++ more ≡ rest
line-begins line same more rest is at = ended-front same more ∙ (ap (λ text. text ++ 10 ∷ more) is ∙ at)

-- one line more is an event's
pub one-line-more : (bytes rest more : Text) (l : ℕ) (J : List Event) (e : Event) → StandsAfter bytes l J rest → ended (event_line e) ++ more ≡ rest →
    IsEvent e → StandsAfter bytes (l + 1) (J ++ e ∷ []) more
one-line-more bytes rest more l J e stands at is = record {
  text =
      let front : journal_text (J ++ e ∷ []) ++ more ≡ journal_text J ++ (ended (event_line e) ++ more) =
      ap (λ text. text ++ more) (journal-push J e) ∙ append_assoc (journal_text J) (ended (event_line e)) more in
      front ∙ (ap (λ text. journal_text J ++ text) at ∙ stands.text);
  events = All-push IsEvent J e stands.events is;
  line = omega (arith, length-append J (e ∷ []), stands.line);
}

-- so many bytes fewer are left
pub fewer-left : (line more rest : Text) → ended line ++ more ≡ rest → length more + 1 ≤ length rest
fewer-left line more rest at = omega (arith, length-append line (10 ∷ []), length-append (ended line) more, ap length at)
