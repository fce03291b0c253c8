use Rattle.std.proofs.Common.{◌≡◌, ◌≢◌, ◌≤◌, ◌++◌, ◌∙◌, ◌-◌, Bool, true, false, List, ℕ, ap, arith, drop, length, length-drop, rules, take_all}
use Rattle.std.specs.Bool.{MatchBool}
use Rattle.std.specs.Cmp.Lexicographic.{other_text, same_text}
use Rattle.std.specs.Str.{bytes_eq}
use Rattle.std.proofs.lemmas.List.{append-nil, drop_all}
use Rattle.abt_machine.specs.Words.{Text}
use Rattle.abt_report.specs.Journals.{event_line}
use Rattle.abt_report.proofs.reading.is_line_of.Goals as goal

-- a test of two texts says whether they are the same
decided : (b : Bool) (xs ys : Text) → b ≡ bytes_eq xs ys → MatchBool b (xs ≡ ys) (xs ≢ ys)
decided true xs ys is = same_text xs ys is
decided false xs ys is = other_text xs ys is

pub returns : goal.returns
returns c =
    let old = c.args.block.now in
    let new = c.line_before-start.new.block in
    let start = c.line_before-start.result in
    let line = event_line c.args.event.now in
    let short : length old ≤ 128 = search rules in
    let written : drop start new ≡ line = c.line_before-start.ensures.written ∙ (ap (λ (end : List ℕ). line ++ end) (drop_all 128 old short) ∙ append-nil line) in
    decided c.eq.result line c.args.line.now
    (rw (take_all (128 - start) (drop start new) (omega (arith, length-drop start new, c.line_before-start.array_long)), written) at c.eq.ensures)
