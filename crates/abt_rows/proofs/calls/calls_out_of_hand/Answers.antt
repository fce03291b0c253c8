use Rattle.std.proofs.Common.{ℕ, ◌≡◌, Option, Some}
use Rattle.abt_rows.proofs.calls.calls_out_of_hand.Goals as goal

pub returns : goal.returns
returns c h = let is : ◌≡◌ {A = Option ℕ} (Some 1) (Some 2) = h.2.2.1.1 in cc
