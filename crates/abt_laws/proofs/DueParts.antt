-- What a stream does next is decided by its part.
use Rattle.std.proofs.Common.{◌≡◌, ℕ, List, [], ◌∷◌, map, refl}
use Rattle.std.specs.Prelude.{option_map}
use Rattle.abt_machine.specs.declared.workload.Parts.{Parts}
use Rattle.abt_machine.specs.Queues.{first}
use Rattle.abt_machine.specs.State.{State, Stream}
use Rattle.abt_machine.specs.Lines.{InTray, InHand, InNext, standing}
use Rattle.abt_machine.specs.Next.{due_by, at_position, due}
use Rattle.abt_machine.specs.Values.{owned_at, part_of}
use Rattle.abt_machine.specs.Turns.{number_and_position, due_of}

-- by who stands in which line
due-by_lists : (W : Parts) (S : State) (s : ℕ) (own : Stream) (us vs ws : List ℕ) →
    due_by W s own us (first vs) (option_map (at_position S) (first ws))
    ≡ due_by W s own (map (owned_at S) us) (first (map (owned_at S) vs)) (option_map number_and_position (first (map (owned_at S) ws)))
due-by_lists W S s own (u ∷ us) vs ws = refl
due-by_lists W S s own [] (v ∷ vs) ws = refl
due-by_lists W S s own [] [] (w ∷ ws) = refl
due-by_lists W S s own [] [] [] = refl

-- what is due is decided by the part
pub due-same : (W : Parts) (S : State) (s : ℕ) → due W S s ≡ due_of W s (part_of W S s)
due-same W S s = due-by_lists W S s (S.stream s) (standing W S (InTray s)) (standing W S (InNext s)) (standing W S (InHand s))
