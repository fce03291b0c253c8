-- A file of which a prefix was read that is short enough was read whole; one that is longer has too many bytes.
use Rattle.std.proofs.Common.{◌≡◌, ◌<◌, ◌≤◌, ◌+◌, ℕ, List, [], length, take, Option, inl, inr, subst, sym, refl}
use Rattle.std.specs.Prelude.{IfSome}
use Rattle.abt_machine.specs.declared.workload.Parts.{Parts}
use Rattle.abt_machine.specs.Words.{Text}
use Rattle.abt_shell.proofs.Fetched.{of-long, of-whole}
use Rattle.abt_streams.specs.declared.life.Life.{Life}
use Rattle.abt_report.specs.declared.text_fault.TextFault.{TextFault}
use Rattle.abt_report.specs.declared.text_fault.TextFault.TheVariants as cause
use Rattle.abt_streams.specs.Lives.{AreLives}
use Rattle.abt_streams.specs.Texts.{IsLivesCause, IsTextOfLives}
use Rattle.abt_lives.specs.Lives.{lives_limit, ReadsLives, RefusesLives, RefusesLivesSo}
use Rattle.abt_workload.specs.Hints.{line_hint}

-- what is seen of the file reads as the prefix does
pub seen-reads : (W : Parts) (seen : Option Text) (front : Text) (lives : List Life) → IfSome seen (λ xs. front ≡ take (lives_limit + 1) xs) → length front ≤ lives_limit → AreLives W lives → IsTextOfLives lives front → IfSome seen (λ xs. ReadsLives W xs lives)
seen-reads W seen front lives e short are text = of-whole lives_limit (λ bytes. ReadsLives W bytes lives) seen front e short (record { few = short; are = are; text = text })

-- and is refused as the prefix is
pub seen-refuses : (W : Parts) (seen : Option Text) (front : Text) (c : TextFault) (line l : ℕ) → IfSome seen (λ xs. front ≡ take (lives_limit + 1) xs) → length front ≤ lives_limit → c ≡ cause.Bad line → l ≡ line → IsLivesCause W front c →
    (said : Text) → said ≡ line_hint front l → IfSome seen (λ xs. RefusesLivesSo W xs l said)
seen-refuses W seen front c line l e short is same why said equal =
    let known : IsLivesCause W front (cause.Bad line) = subst (IsLivesCause W front) is why in
    of-whole lives_limit (λ bytes. RefusesLivesSo W bytes l said) seen front e short (subst (λ k. RefusesLives W front k) (sym same) (inr (short, known.0, known.1)), equal)

-- a longer one is refused for its length
pub seen-long : (W : Parts) (seen : Option Text) (front : Text) → IfSome seen (λ xs. front ≡ take (lives_limit + 1) xs) → lives_limit < length front → IfSome seen (λ xs. RefusesLivesSo W xs 0 [])
seen-long W seen front e long = of-long lives_limit (λ bytes. RefusesLivesSo W bytes 0 []) seen front e long (λ xs many. (inl (many, refl), refl))
