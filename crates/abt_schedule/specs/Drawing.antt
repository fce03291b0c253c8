-- The orders of streams that a seed draws.
use Rattle.std.specs.Prelude.{ℕ, zero, suc, ◌*◌, ◌%◌, List, [], ◌∷◌, length, get_or}
use Rattle.std.specs.List.{remove}
use Rattle.abt_machine.specs.declared.workload.Parts.{Parts}
use Rattle.abt_machine.specs.Lives.{count_up}
use Rattle.abt_machine.specs.Rounds.{generator_at}
use Rattle.rand_pcg.specs.Lcg.{Lcg}
use Rattle.rand_pcg.specs.Pcg.{pcg32}

-- which of these numbers the generator's next word draws
abbrev pub drawn_place : Lcg → List ℕ → ℕ
drawn_place words xs = (pcg32 words).0 % length xs

-- n of these numbers, one after the other: each is drawn by a word from those that are left
abbrev pub drawn : ℕ → Lcg → List ℕ → List ℕ
drawn zero words xs = []
drawn (suc n) words xs = get_or xs (drawn_place words xs) 0 ∷ drawn n (pcg32 words).1 (remove xs (drawn_place words xs))

-- the generator of the seed before rotation k, counted from 0: a word was drawn for each stream in each rotation; the number of
-- its sequence follows upon those of the schedulers
abbrev pub words_of_rotation : Parts → ℕ → ℕ → Lcg
words_of_rotation W seed k = generator_at seed (length W.scheds) (k * W.streams)

-- the order of the streams in rotation k
abbrev pub streams_of_rotation : Parts → ℕ → ℕ → List ℕ
streams_of_rotation W seed k = drawn W.streams (words_of_rotation W seed k) (count_up W.streams)
