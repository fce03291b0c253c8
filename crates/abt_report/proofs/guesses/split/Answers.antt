use Rattle.std.proofs.Common.{◌≡◌, ◌<◌, ◌≤◌, length, map, arith, rules, Bor}
use Rattle.std.proofs.lemmas.List.{length-map, map_push}
use Rattle.abt_machine.specs.Words.{Text}
use Rattle.abt_report.proofs.Guessing.{first-words, last-word, one-word-more}
use Rattle.abt_report.proofs.guesses.split.Goals as goal

pub loop-rest-preserved : goal.loop-rest-preserved
loop-rest-preserved c =
    let now = λ (word : Bor Text). word.now in
    record {
      split =
          rw (c.in_ok-push-2.ensures.items, map_push now c.loop-rest.words.items c.in-Some.word)
          (one-word-more (map now c.loop-rest.words.items) c.args.line.now c.in-Some.word.now c.loop-rest.rest.now c.in-Some.more.now c.loop-rest.invariant.split c.in-Some.ensures.0 c.in-Some.ensures.1);
      few = search rules;
    }

pub returns-in_default : goal.returns-in_default
returns-in_default c =
    let now = λ (word : Bor Text). word.now in
    let count : length (map now c.loop-rest.words.items) ≡ length c.loop-rest.words.items = length-map c.loop-rest.words.items now in
    let few : length c.loop-rest.words.items < 7 = search rules in
    rw (c.in_ok-push.ensures.items, map_push now c.loop-rest.words.items c.loop-rest.rest)
    (last-word (map now c.loop-rest.words.items) c.args.line.now c.loop-rest.rest.now c.loop-rest.invariant.split c.in_default.ensures (omega (arith, count, few)))

pub returns : goal.returns
returns c =
    let now = λ (word : Bor Text). word.now in
    let count : length (map now c.loop-rest.words.items) ≡ length c.loop-rest.words.items = length-map c.loop-rest.words.items now in
    let many : 7 ≤ length c.loop-rest.words.items = search rules in
    let few : length c.loop-rest.words.items ≤ 7 = c.loop-rest.invariant.few in
    first-words (map now c.loop-rest.words.items) c.args.line.now c.loop-rest.rest.now c.loop-rest.invariant.split (omega (arith, count, many)) (omega (arith, count, few))
