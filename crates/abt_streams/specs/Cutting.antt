-- What the streams' logs have of a wave.
use Rattle.std.specs.Prelude.{ℕ, List, [], ◌∷◌, length, map, drop}
use Rattle.abt_machine.specs.declared.events.Event.{Event}
use Rattle.abt_stream.specs.Streams.{StreamValue}

-- how many events each log has
abbrev pub log_lengths : List StreamValue → List ℕ
log_lengths = map (λ (stream : StreamValue). length stream.log)

-- what each log has after as many events as its number says
abbrev pub behind : List StreamValue → List ℕ → List (List Event)
behind [] ns = []
behind (stream ∷ streams) [] = []
behind (stream ∷ streams) (n ∷ ns) = drop n stream.log ∷ behind streams ns
