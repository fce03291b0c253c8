-- The texts of ends, one end more at a time.
use Rattle.std.proofs.Common.{◌≡◌, ◌<◌, ◌∙◌, ℕ, suc, ◌+◌, List, ◌∷◌, ◌++◌, length, drop, get_or, drop-cons, add-one, append_assoc, ap, ap₂, sym}
use Rattle.abt_machine.specs.declared.workload.Parts.{Parts}
use Rattle.abt_machine.specs.Words.{Text}
use Rattle.abt_explore.specs.declared.exploration.End.{End}
use Rattle.abt_explore.specs.Texts.{end_text, ends_text}

-- what is printed with one end more, and what is left, is what it was before
pub one-end-more : (W : Parts) (ends : List End) (at : ℕ) (end : End) (old new all : Text) → at < length ends → end ≡ get_or ends at end
    → old ++ ends_text W (at + 1) (drop at ends) ≡ all → new ≡ old ++ end_text W (at + 1) end → new ++ ends_text W (at + 1 + 1) (drop (at + 1) ends) ≡ all
one-end-more W ends at end old new all within is before more =
    let here : drop at ends ≡ end ∷ drop (suc at) ends = drop-cons ends at end within ∙ ap (λ (e : End). e ∷ drop (suc at) ends) (sym is) in
    ap₂ (λ (n m : ℕ). new ++ ends_text W n (drop m ends)) (add-one (at + 1)) (add-one at)
    ∙ ap (λ (t : Text). t ++ ends_text W (suc (at + 1)) (drop (suc at) ends)) more
    ∙ append_assoc old (end_text W (at + 1) end) (ends_text W (suc (at + 1)) (drop (suc at) ends))
    ∙ ap (λ (es : List End). old ++ ends_text W (at + 1) es) (sym here) ∙ before
