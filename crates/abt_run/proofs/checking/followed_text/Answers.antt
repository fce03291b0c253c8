use Rattle.std.proofs.Common.{◌∙◌, ◌++◌, ap, []}
use Rattle.std.specs.Prelude.{if◌then◌else◌}
use Rattle.abt_machine.specs.Runs.{last_state}
use Rattle.abt_why.specs.Texts.{why_text}
use Rattle.abt_run.proofs.Judging.{why-shown}
use Rattle.abt_run.proofs.checking.followed_text.Goals as goal

pub returns : goal.returns
returns g c =
    let waits = why_text c.args.w.now (last_state c.args.w.now c.args.journal.now) in
    why-shown c.args.why c.in_ok-text.text.items _ waits c.in_ok-append_asked_why.ensures.asked c.in_ok-append_asked_why.ensures.unasked
    ∙ ap (λ xs. xs ++ (if c.args.why then waits else [])) (c.in_ok-text.ensures c.requires.left.0 c.args.journal.now c.requires.left.1)
