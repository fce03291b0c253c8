use Rattle.std.proofs.Common.{◌∙◌, ap, sym, []}
use Rattle.std.specs.Prelude.{unwrap_or}
use Rattle.abt_words.proofs.Found.{at-least-two}
use Rattle.abt_words.proofs.options.given.Goals as goal

pub returns-in-Some-len2-up : goal.returns-in-Some-len2-up
returns-in-Some-len2-up c =
    let two = at-least-two c.in-Some-len2-up.field-0.now c.in-Some-len2-up.len_at_least in
    (two.0, two.1, two.2, ap (λ o. unwrap_or o []) (sym c.in-Some-len2-up.ensures) ∙ two.3)
