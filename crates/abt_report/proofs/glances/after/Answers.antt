use Rattle.std.proofs.Common.{◌≡◌, ◌++◌, ℕ, drop, sym, take, take-append-drop}
use Rattle.std.specs.Cmp.Lexicographic.{same_text}
use Rattle.abt_machine.specs.Words.{Text}
use Rattle.abt_report.proofs.glances.after.Goals as goal

-- a text whose first part is a word begins with that word
begins : (n : ℕ) (word rest text : Text) → take n text ≡ word → rest ≡ drop n text → word ++ rest ≡ text
begins n word rest text first last = let whole : take n text ++ drop n text ≡ text = take-append-drop n text in cc

pub returns : goal.returns
returns c =
    let cases = c.in_ok-rest.ensures.cases in
    begins _ c.args.word.now c.in_ok-rest.rest.now c.args.text.now (same_text _ _ (sym cases.0)) cases.1
