-- Why a stream leaves a wave.
use Rattle.std.specs.Prelude.{◌≡◌, ⊤, Bool, true, List, [], ◌∷◌, ◌++◌}
use Rattle.abt_machine.specs.declared.events.Event.{Event}
use Rattle.abt_machine.specs.declared.events.Site.{Site}
use Rattle.abt_machine.specs.declared.workload.Parts.{Parts}
use Rattle.abt_laws.specs.Laws.{IsMiss}
use Rattle.abt_stream.specs.Streams.{StreamValue}
use Rattle.abt_stream.specs.Turned.{IsSpent}
use Rattle.abt_stream.specs.declared.turns.Turn.{Turn}
use Rattle.abt_stream.specs.declared.turns.Turn.TheVariants as turn
use Rattle.abt_waves.specs.declared.voyages.Stop.{Stop}
use Rattle.abt_waves.specs.declared.voyages.Stop.TheVariants as stop
use Rattle.abt_waves.specs.Locks.{LocksValue}
use Rattle.abt_waves.specs.Voyages.{IsWorn}

-- since its log was this one a stream made events, by the last of which a round ended empty, and the next has seen no pool
pub record EndsRoundSince (log : List Event) (stream : StreamValue) : Type 0 where
  pub before : List Event
  pub last : Event
  pub log_is : stream.log ≡ log ++ (before ++ last ∷ [])
  pub miss : IsMiss last.what
  pub empty : stream.held.own.top.empty ≡ true
  pub fresh : stream.held.own.top.seen ≡ []

module _ {Lock Pass : Type 0} (locks : LocksValue Lock Pass) (lock : Site → Lock) (W : Parts) where
  -- what a turn says of why a stream may leave after it
  abbrev pub TurnEnds : List Event → StreamValue → Pass → Turn → Type 0
  TurnEnds log stream pass turn.Stepped = ⊤
  TurnEnds log stream pass turn.EmptyRound = EndsRoundSince log stream
  TurnEnds log stream pass turn.Moved = ⊤
  TurnEnds log stream pass turn.Spent = IsSpent W stream
  TurnEnds log stream pass turn.Worn = IsWorn locks lock stream pass

  -- if it says that a live stream found nothing, a round ended empty since the wave began; if that it is spent, it is; and if that a clock is at its end, one is
  abbrev pub StopsBy : Bool → List Event → StreamValue → Pass → Stop → Type 0
  StopsBy live log stream pass stop.Idle = live ≡ true → EndsRoundSince log stream
  StopsBy live log stream pass stop.Spent = IsSpent W stream
  StopsBy live log stream pass stop.Refused = ⊤
  StopsBy live log stream pass stop.Worn = IsWorn locks lock stream pass
