-- What the events of a journal put out, as far as it is a run with some stored orders and functions.
use Rattle.std.specs.Prelude.{ℕ, ◌≡◌, ◌≤◌, Bool, true, false, List, [], ◌∷◌, length, take, Option, Some, None}
use Rattle.abt_machine.specs.declared.events.Code.TheVariants as code
use Rattle.abt_machine.specs.declared.events.Event.{Event}
use Rattle.abt_machine.specs.declared.events.Piece.{Piece}
use Rattle.abt_machine.specs.declared.events.Piece.TheVariants as piece
use Rattle.abt_machine.specs.declared.events.What.{What}
use Rattle.abt_machine.specs.declared.events.What.TheVariants as what
use Rattle.abt_machine.specs.declared.operations.Op.{Op}
use Rattle.abt_machine.specs.declared.operations.Op.TheVariants as op
use Rattle.abt_machine.specs.declared.operations.OrderShape.TheVariants as shape
use Rattle.abt_machine.specs.declared.workload.Parts.{Parts}
use Rattle.abt_machine.specs.Events.{after}
use Rattle.abt_machine.specs.Runs.{Run, last_state}
use Rattle.abt_machine.specs.Start.{start}
use Rattle.abt_machine.specs.State.{State}
use Rattle.abt_machine.specs.Stored.{Stored}
use Rattle.abt_machine.specs.Workloads.{op_at}
use Rattle.abt_model.specs.Models.{IsAfter, ModelValue, StandsFor}

-- what an operation puts out if the accumulator is n
abbrev pub piece_at : Option Op → ℕ → Option Piece
piece_at (Some (op.Say w)) n = Some (piece.Said w)
piece_at (Some op.Print) n = Some (piece.Number n)
piece_at _ n = None

-- what an event puts out in state S: a say that is done its word, and a print the accumulator of its unit
abbrev pub piece_by : Parts → State → What → Option Piece
piece_by W S (what.Step u k code.Ok) = piece_at (op_at W u.0 k) (S.carried u.0).acc
piece_by W S _ = None

-- what events put out from state S on
abbrev pub pieces_from : Parts → State → List Event → List (Option Piece)
pieces_from W S [] = []
pieces_from W S (e ∷ es) = piece_by W S e.what ∷ pieces_from W (after W S e.stream.0 e.what) es

-- as many stored orders as a workload may name, each of which may visit pools in any order, and functions that may return any word
abbrev pub any_stored : Stored
any_stored = record { orders = shape.Free ∷ shape.Free ∷ []; returns = λ f u acc keys. None }

-- these are what the first events of the journal put out, as many as are a run with such orders and functions
pub record ArePieces (W : Parts) (J : List Event) (pieces : List (Option Piece)) : Type 0 where
  pub at : ℕ
  pub within : at ≤ length J
  pub run : Run W any_stored (take at J)
  pub greatest : (n : ℕ) → n ≤ length J → Run W any_stored (take n J) → n ≤ at
  pub put_out : pieces ≡ pieces_from W (start W) (take at J)

-- the journal is such a run, and streams and objects are as it leaves them
pub record IsReplayed (W : Parts) (J : List Event) (model : ModelValue) : Type 0 where
  pub run : Run W any_stored J
  pub state : IsAfter W any_stored (length J) (last_state W J)
  pub stands : StandsFor W (last_state W J) model

-- whether the journal is such a run; if it is, streams and objects have followed it
abbrev pub Replays : Parts → List Event → Bool → ModelValue → Type 0
Replays W J true model = IsReplayed W J model
Replays W J false model = Run W any_stored J → ⊥
