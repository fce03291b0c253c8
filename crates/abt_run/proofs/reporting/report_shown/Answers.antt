use Rattle.std.proofs.Common.{◌∙◌, inr, refl}
use Rattle.abt_run.specs.Differing.{expected_text}
use Rattle.abt_run.proofs.reporting.report_shown.Goals as goal

pub returns : goal.returns
returns c =
    let shown = c.deref.ensures.value ∙ c.in_ok-expected.ensures in
    let text = c.in_ok-text-2.ensures ∙ (λ i. expected_text (c.in_ok-line.ensures i) (shown i) c.in-Some.difference.found.now) in
    inr (refl, (c.in-Some.difference.after, c.in-Some.difference.expected.now, c.in-Some.difference.found.now, c.in-Some.ensures, text))
