-- The arrows before the first event.
use Rattle.std.proofs.Common.{◌≡◌, List, Option}
use Rattle.abt_view.specs.Arrows.{WaysValue}
use Rattle.abt_view.specs.declared.arrows.Arrow.{Arrow}
use Rattle.abt_view.specs.declared.arrows.Sender.{Sender}

abbrev ways_of : List (Option Sender) → List (Option Arrow) → List Arrow → WaysValue
ways_of senders waiting past = record { senders = senders; waiting = waiting; past = past }

-- ways with equal parts are equal
pub same-ways : (a b : List (Option Sender)) (c d : List (Option Arrow)) (e f : List Arrow) → a ≡ b → c ≡ d → e ≡ f → ways_of a c e ≡ ways_of b d f
same-ways a b c d e f one two three = cc
