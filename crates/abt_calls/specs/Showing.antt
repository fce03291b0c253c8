-- What a report shows of units, read off from who holds them.
use Rattle.std.specs.Prelude.{ℕ, ◌≡◌, List, [], ◌∷◌, ◌++◌, map}
use Rattle.std.specs.List.{All}
use Rattle.abt_machine.specs.declared.events.Shown.{Shown}
use Rattle.abt_machine.specs.declared.events.Shown.TheVariants as shows
use Rattle.abt_machine.specs.declared.events.Site.{Site}
use Rattle.abt_machine.specs.declared.events.Site.TheVariants as site
use Rattle.abt_machine.specs.declared.workload.Parts.{Parts}
use Rattle.abt_machine.specs.Numbers.{object_no, stream_no}
use Rattle.abt_machine.specs.State.{State}
use Rattle.abt_machine.specs.Texts.{shown}
use Rattle.abt_machine.specs.Values.{Owned, owned_at, Held, Phase, Unborn, Out, Suspended, Ended, Object, PoolIs, DeskIs, MonitorIs, EventualIs, FutureIs, BarrierIs, RwLockIs, conditions_of, object_of, part_of}
use Rattle.abt_laws.specs.Footprint.{Holder, OfStream, OfSite}
use Rattle.abt_calls.specs.Holders.{units_held, units_with}

-- a unit, and what is shown of its place
abbrev pub Row : Type 0
Row = Shown × Owned

-- all of these units, shown alike
abbrev pub rows_as : Shown → List Owned → List Row
rows_as x os = map (λ o. (x, o)) os

-- of a desk's own unit, if the desk holds it
abbrev pub rows_at_desk : Phase → List Row
rows_at_desk (Unborn o) = (shows.Unborn, o) ∷ []
rows_at_desk Out = []
rows_at_desk (Suspended o) = (shows.Suspended, o) ∷ []
rows_at_desk (Ended o c) = (shows.Ended c, o) ∷ []

-- of those that wait at conditions of these numbers
abbrev pub rows_at : List ℕ → List (List Owned) → List Row
rows_at (c ∷ cs) (os ∷ conds) = rows_as (shows.Object (object_no c)) os ++ rows_at cs conds
rows_at cs conds = []

-- of an object at a site
abbrev pub rows_of_object : Parts → Site → Object → List Row
rows_of_object W (site.Pool p) (PoolIs pool) = rows_as (shows.Pool p) pool.units
rows_of_object W (site.Desk u) (DeskIs desk) = rows_at_desk desk.phase ++ rows_as (shows.Join u) desk.joiners
rows_of_object W (site.Monitor x) (MonitorIs m) = rows_as (shows.Object x) m.waiters ++ rows_at (conditions_of W x.0) m.conds
rows_of_object W (site.Eventual x) (EventualIs e) = rows_as (shows.Object x) e.waiters
rows_of_object W (site.Future x) (FutureIs f) = rows_as (shows.Object x) f.waiters
rows_of_object W (site.Barrier x) (BarrierIs b) = rows_as (shows.Object x) b.waiters
rows_of_object W (site.Rw x) (RwLockIs l) = rows_as (shows.Object x) l.waiters
rows_of_object W x object = []

-- of stream s
abbrev pub rows_of_part : ℕ → Held → List Row
rows_of_part s held = rows_as (shows.Stream (stream_no s)) (units_held held)

-- of what a stream or an object holds in a state
abbrev pub rows_with : Parts → State → Holder → List Row
rows_with W S (OfStream s) = rows_of_part s (part_of W S s)
rows_with W S (OfSite x) = rows_of_object W x (object_of W S x)

-- the row is the unit's in state S
abbrev pub IsRowOf : State → Row → Type 0
IsRowOf S row = (row.0 ≡ shown (S.place row.1.number)) × (row.1 ≡ owned_at S row.1.number)

-- all units that a stream or an object holds have their rows, in order
abbrev pub UnitsHaveRows : Type 0
UnitsHaveRows = (W : Parts) (S : State) (h : Holder) → map (λ (row : Row). row.1) (rows_with W S h) ≡ units_with W S h

-- each row is that of the state
abbrev pub RowsAreTheStates : Type 0
RowsAreTheStates = (W : Parts) (S : State) (h : Holder) → All (IsRowOf S) (rows_with W S h)
