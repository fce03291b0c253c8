use Rattle.std.proofs.Common.{map, rules, string_bytes}
use Rattle.abt_words.specs.Lives.{SaysLives}
use Rattle.abt_words.proofs.OneLives.{no-lives, one-lives}
use Rattle.abt_words.proofs.lives.lives_words.Goals as goal

pub returns-in_default-clause-bad : goal.returns-in_default-clause-bad
returns-in_default-clause-bad c = λ bad. no-lives (map string_bytes c.args.list.now) _ c.in_ok-found.ensures.found c.in_default.ensures

pub returns-clause-only : goal.returns-clause-only
returns-clause-only c =
    let said : SaysLives (map string_bytes c.args.list.now) (record { workload = c.new.result; lives = c.new-2.result; steps = c.in-Some.asked.steps; journal = c.in-Some.asked.journal }) = search rules in
    λ x says. one-lives (map string_bytes c.args.list.now) _ x said says
