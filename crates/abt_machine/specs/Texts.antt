-- What the program prints of a run: its journal and its report.
use Rattle.std.specs.Prelude.{ℕ, suc, List, [], ◌∷◌, ◌++◌, length, map, flat_map, fold, codes, decimal}
use Rattle.std.specs.List.{range_with_len}
use Rattle.abt_machine.specs.declared.events.Cause.{Cause}
use Rattle.abt_machine.specs.declared.events.Cause.TheVariants as cause
use Rattle.abt_machine.specs.declared.events.Code.{Code}
use Rattle.abt_machine.specs.declared.events.Code.TheVariants as code
use Rattle.abt_machine.specs.declared.events.Event.{Event}
use Rattle.abt_machine.specs.declared.events.Outcome.{Outcome}
use Rattle.abt_machine.specs.declared.events.Outcome.TheVariants as outcome
use Rattle.abt_machine.specs.declared.events.Piece.{Piece}
use Rattle.abt_machine.specs.declared.events.Piece.TheVariants as piece
use Rattle.abt_machine.specs.declared.events.Place.{Place}
use Rattle.abt_machine.specs.declared.events.Place.TheVariants as place
use Rattle.abt_machine.specs.declared.events.Shown.{Shown}
use Rattle.abt_machine.specs.declared.events.Shown.TheVariants as shows
use Rattle.abt_machine.specs.declared.events.Spot.TheVariants as spot
use Rattle.abt_machine.specs.declared.events.What.{What}
use Rattle.abt_machine.specs.declared.events.What.TheVariants as what
use Rattle.abt_machine.specs.declared.workload.Parts.{Parts}
use Rattle.abt_machine.specs.Canonical.{word_of}
use Rattle.abt_machine.specs.Queues.{first_alone}
use Rattle.abt_machine.specs.State.{State}
use Rattle.abt_machine.specs.Words.{Text, ended, line_of, numbered, spaced, text_of}

-- Journals.

abbrev pub code_name : Code → Text
code_name code.Ok = codes "ok"
code_name code.PoolAccess = codes "pool-access"
code_name code.Exists = codes "exists"
code_name code.UnitState = codes "unit-state"
code_name code.NotMigratable = codes "not-migratable"
code_name code.Absent = codes "absent"
code_name code.MutexLocked = codes "mutex-locked"
code_name code.NotOwner = codes "not-owner"
code_name code.EventualSet = codes "eventual-set"
code_name code.FutureFull = codes "future-full"
code_name code.RwHeld = codes "rw-held"
code_name code.RwFull = codes "rw-full"
code_name code.NotHolder = codes "not-holder"

abbrev pub cause_name : Cause → Text
cause_name cause.Done = codes "done"
cause_name cause.Asked = codes "asked"
cause_name cause.Access = codes "access"
cause_name cause.Own = codes "own"

abbrev pub what_words : What → List Text
what_words (what.Miss p) = codes "miss" ∷ decimal p.0 ∷ []
what_words (what.Take p u) = codes "take" ∷ decimal p.0 ∷ decimal u.0 ∷ []
what_words (what.Look u) = codes "look" ∷ decimal u.0 ∷ []
what_words (what.Step u k c) = codes "step" ∷ decimal u.0 ∷ decimal k ∷ code_name c ∷ []
what_words (what.Call u k n) = codes "call" ∷ decimal u.0 ∷ decimal k ∷ decimal n ∷ []
what_words (what.Put u p) = codes "put" ∷ decimal u.0 ∷ decimal p.0 ∷ []
what_words (what.End u c) = codes "end" ∷ decimal u.0 ∷ cause_name c ∷ []
what_words (what.Enter u) = codes "enter" ∷ decimal u.0 ∷ []
what_words (what.Leave u) = codes "leave" ∷ decimal u.0 ∷ []

-- the words of an event's line: its stamp, its stream, and what happened
abbrev pub event_words : Event → List Text
event_words e = decimal e.stamp ∷ decimal e.stream.0 ∷ what_words e.what

-- a journal, one line for each event
abbrev pub journal_text : List Event → Text
journal_text J = text_of (map event_words J)

-- Units in a report.

-- what a report shows of a place: no ticket, and no part of the stream
abbrev pub shown : Place → Shown
shown place.Unborn = shows.Unborn
shown (place.Pool p t) = shows.Pool p
shown (place.Hand s) = shows.Stream s
shown (place.Next s) = shows.Stream s
shown (place.Tray s t) = shows.Stream s
shown (place.Frame s d) = shows.Stream s
shown (place.Blocked spot.Suspended t) = shows.Suspended
shown (place.Blocked (spot.Join v) t) = shows.Join v
shown (place.Blocked (spot.Object x) t) = shows.Object x
shown (place.Ended c) = shows.Ended c

-- an end is shown by its cause, and a thread that ended itself as exited
abbrev pub ended_name : Cause → Text
ended_name cause.Own = codes "exited"
ended_name c = cause_name c

abbrev pub shown_words : Shown → List Text
shown_words shows.Unborn = codes "unborn" ∷ []
shown_words (shows.Pool p) = codes "pool" ∷ decimal p.0 ∷ []
shown_words (shows.Stream s) = codes "stream" ∷ decimal s.0 ∷ []
shown_words shows.Suspended = codes "suspended" ∷ []
shown_words (shows.Join v) = codes "join" ∷ decimal v.0 ∷ []
shown_words (shows.Object x) = codes "object" ∷ decimal x.0 ∷ []
shown_words (shows.Ended c) = ended_name c ∷ []

-- a piece of output: the word that was said, the number, or `!` and why an operation was refused
abbrev pub piece_word : Parts → Piece → Text
piece_word W (piece.Said w) = word_of W w
piece_word W (piece.Number n) = decimal n
piece_word W (piece.Refused c) = codes "!" ++ code_name c

-- a unit as a report shows it
pub record ShownUnit : Type 0 where
  pub shown : Shown
  pub output : List Piece

-- the line of unit u
abbrev pub unit_line : Parts → ℕ → ShownUnit → Text
unit_line W u unit = line_of (codes "unit" ∷ decimal u ∷ shown_words unit.shown) ++ codes ":" ++ spaced (map (piece_word W) unit.output)

-- The tally.

-- how many units are shown at each kind of place; one that has exited counts as done
pub record Tally : Type 0 where
  pub unborn : ℕ
  pub pool : ℕ
  pub stream : ℕ
  pub blocked : ℕ
  pub done : ℕ
  pub asked : ℕ
  pub access : ℕ

abbrev pub empty_tally : Tally
empty_tally = record { unborn = 0; pool = 0; stream = 0; blocked = 0; done = 0; asked = 0; access = 0 }

-- a tally with one more unit of this place
abbrev pub counted : Tally → Shown → Tally
counted t shows.Unborn = record t { unborn = suc t.unborn }
counted t (shows.Pool p) = record t { pool = suc t.pool }
counted t (shows.Stream s) = record t { stream = suc t.stream }
counted t shows.Suspended = record t { blocked = suc t.blocked }
counted t (shows.Join v) = record t { blocked = suc t.blocked }
counted t (shows.Object x) = record t { blocked = suc t.blocked }
counted t (shows.Ended cause.Done) = record t { done = suc t.done }
counted t (shows.Ended cause.Asked) = record t { asked = suc t.asked }
counted t (shows.Ended cause.Access) = record t { access = suc t.access }
counted t (shows.Ended cause.Own) = record t { done = suc t.done }

-- each unit is counted once
abbrev pub tally_of : List ShownUnit → Tally
tally_of units = fold (λ t (unit : ShownUnit). counted t unit.shown) empty_tally units

-- the tally's line, of n units and these steps
abbrev pub tally_words : ℕ → Tally → ℕ → List Text
tally_words n t steps =
    codes "tally" ∷ codes "units" ∷ decimal n ∷ codes "unborn" ∷ decimal t.unborn ∷ codes "pool" ∷ decimal t.pool ∷
    codes "stream" ∷ decimal t.stream ∷ codes "blocked" ∷ decimal t.blocked ∷ codes "done" ∷ decimal t.done ∷
    codes "asked" ∷ decimal t.asked ∷ codes "access" ∷ decimal t.access ∷ codes "steps" ∷ decimal steps ∷ []

abbrev pub outcome_words : Outcome → List Text
outcome_words outcome.Finished = codes "finished" ∷ []
outcome_words outcome.Stuck = codes "stuck" ∷ []
outcome_words (outcome.Budget s) = codes "budget" ∷ decimal s.0 ∷ []

-- Reports.

-- the last two lines of a report
abbrev pub tally_and_outcome : List ShownUnit → ℕ → Outcome → Text
tally_and_outcome units steps o = text_of (tally_words (length units) (tally_of units) steps ∷ outcome_words o ∷ [])

-- the report on these units: a line for each, the tally and the outcome
abbrev pub report_of : Parts → List ShownUnit → ℕ → Outcome → Text
report_of W units steps o = flat_map ended (numbered (unit_line W) units) ++ tally_and_outcome units steps o

-- the same with the line of unit 0 alone
abbrev pub short_of : Parts → List ShownUnit → ℕ → Outcome → Text
short_of W units steps o = flat_map ended (first_alone (numbered (unit_line W) units)) ++ tally_and_outcome units steps o

-- the units of a workload as they are in a state
abbrev pub shown_units : Parts → State → List ShownUnit
shown_units W S = map (λ u. record { shown = shown (S.place u); output = (S.carried u).output }) (range_with_len 0 (length W.units))

-- the report on a state, after this many steps
abbrev pub report_text : Parts → State → ℕ → Outcome → Text
report_text W S steps o = report_of W (shown_units W S) steps o

-- the short report on a state
abbrev pub short_text : Parts → State → ℕ → Outcome → Text
short_text W S steps o = short_of W (shown_units W S) steps o
