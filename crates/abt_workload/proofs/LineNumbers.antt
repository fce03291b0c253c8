-- The line of a number, found from the first line on.
use Rattle.std.proofs.Common.{◌≡◌, ℕ, List, [], ap}
use Rattle.std.specs.Prelude.{slice_index_or}
use Rattle.abt_machine.specs.Words.{Text}

-- of no lines there is none of any number
pub line-none : (lines : List Text) (above : ℕ) → lines ≡ [] → slice_index_or lines above [] ≡ []
line-none lines above same = ap (λ (ls : List Text). slice_index_or ls above []) same
