use Rattle.std.proofs.Common.{◌≡◌, ◌∙◌, ap, sym, List, map, take, Bor}
use Rattle.std.proofs.lemmas.List.{take_all}
use Rattle.std.specs.List.{slice_split}
use Rattle.abt_bounds.proofs.Solid.{split-line}
use Rattle.abt_machine.specs.declared.events.Event.{Event}
use Rattle.abt_machine.specs.Texts.{event_words}
use Rattle.abt_machine.specs.Words.{Text}
use Rattle.abt_report.specs.Guesses.{is_space}
use Rattle.abt_report.specs.Journals.{event_line}
use Rattle.abt_report.proofs.Guessing.{few-words}
use Rattle.abt_report.proofs.reading.read_event.Goals as goal

-- the first seven words of a line that is an event's are all words of that event
same-words : (line : Text) (ws : List Text) (e : Event) → ws ≡ take 7 (slice_split is_space line) → event_line e ≡ line → event_words e ≡ ws
same-words line ws e split at =
    let all : event_words e ≡ slice_split is_space line = sym (split-line e) ∙ ap (slice_split is_space) at in
    sym (take_all 7 (event_words e) (few-words e)) ∙ (ap (take 7) all ∙ sym split)

pub returns-in_default : goal.returns-in_default
returns-in_default c = λ e is at.
    let found = c.event.ensures e is (same-words c.args.line.now (map (λ (word : Bor Text). word.now) c.deref.result.now) e (rw c.deref.ensures.value c.in_ok-split.ensures) at) in
    cc

pub returns-then-not-is_line_of : goal.returns-then-not-is_line_of
returns-then-not-is_line_of c = λ e is at.
    let found = c.event.ensures e is (same-words c.args.line.now (map (λ (word : Bor Text). word.now) c.deref.result.now) e (rw c.deref.ensures.value c.in_ok-split.ensures) at) in
    let one : c.in-Some.event ≡ e = cc in
    let other = rw c.if-not-is_line_of.true at c.is_line_of.ensures in
    other (ap event_line one ∙ at)
