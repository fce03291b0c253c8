use Rattle.std.proofs.Common.{◌∙◌, sym}
use Rattle.abt_workload.proofs.WordEnds.{no-words, rest-start, rest-words, some-at, word-taken}
use Rattle.abt_workload.proofs.text.first_word.Goals as goal

pub returns-then-is_empty-clause-none : goal.returns-then-is_empty-clause-none
returns-then-is_empty-clause-none c =
    let s = c.word_start.ensures in
    rest-words c.args.line.now c.word_start.result s.bound s.before ∙ no-words _ (sym c.is_empty.ensures ∙ c.if-is_empty.true)

pub returns-clause-word : goal.returns-clause-word
returns-clause-word c =
    let s = c.word_start.ensures in
    let w = c.word_end-end.ensures in
    let some = some-at _ (sym c.is_empty.ensures ∙ c.if-is_empty.false) in
    rest-words c.args.line.now c.word_start.result s.bound s.before ∙ word-taken c.word_end-end.result _ some (rest-start c.args.line.now c.word_start.result s.at some) w.bound w.at w.before
