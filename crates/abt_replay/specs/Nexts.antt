-- The pool at a place of a round, by what the code knows of the round.
use Rattle.std.specs.Prelude.{ℕ, ◌≡◌, List, get_or}
use Rattle.abt_machine.specs.Rounds.{AnyOrder, Choice, Only}
use Rattle.abt_replay.specs.declared.rounds.Next.{Next}
use Rattle.abt_replay.specs.declared.rounds.Next.TheVariants as next

-- it stands at that place of the one list, or any list may be visited
abbrev pub NextIs : Choice → ℕ → Next → Type 0
NextIs choice at (next.One p) = (one : List ℕ) × (choice ≡ Only one) × (get_or one at 0 ≡ p.0)
NextIs choice at next.Any = choice ≡ AnyOrder
