-- How runs on lives ended, by their streams and objects.
use Rattle.std.proofs.Common.{◌≡◌, ℕ, ◌<◌, Bool, true, false, List, get_or, Some, None}
use Rattle.std.specs.Prelude.{◌↔◌}
use Rattle.std.proofs.lemmas.List.Elements.{All-contains, Contains-get_or}
use Rattle.abt_machine.specs.declared.events.Event.{Event}
use Rattle.abt_machine.specs.declared.events.Outcome.{Outcome}
use Rattle.abt_machine.specs.declared.events.Outcome.TheVariants as outcome
use Rattle.abt_machine.specs.Stored.{Stored}
use Rattle.abt_machine.specs.declared.workload.Parts.{Parts}
use Rattle.abt_machine.specs.Outcomes.{AllEnded, EndsAs}
use Rattle.abt_machine.specs.Rounds.{OrdersStored}
use Rattle.abt_machine.specs.Runs.{Run, last_state}
use Rattle.abt_machine.specs.Valid.{IsValid}
use Rattle.abt_machine.specs.Workloads.{main_of, pools_of}
use Rattle.abt_commons.specs.Held.{ObjectsValue, object_at}
use Rattle.abt_laws.proofs.RunParts.{last_state-sound}
use Rattle.abt_laws.proofs.SoundRuns.{runs-are-sound}
use Rattle.abt_outcomes.specs.Values.{LooksEnded, StandFor}
use Rattle.abt_outcomes.proofs.Seen.{ends-seen}
use Rattle.abt_stream.specs.Streams.{StreamValue}
use Rattle.abt_drain.specs.Looks.{IsEmptyAt, IsOutcomeOfRuns, parts_held}
use Rattle.abt_streams.specs.declared.life.Life.{Life}
use Rattle.abt_streams.specs.Ends.{EndsOn, QuietOn}
use Rattle.abt_streams.specs.Lives.{AreLives}
use Rattle.abt_streams.specs.Looks.{IsOutcomeOnLives, IsQuietOnAt, IsQuietOnWith}
use Rattle.abt_streams.proofs.Quieted.{quiet-on, quiet-on-seen}

-- no answer is both
pub false-is-not : (b : Bool) → b ≡ false → b ≡ true → ⊥
false-is-not b none is = cc

-- nothing is left to do if nothing is left to any stream
pub quiet-on-all : (W : Parts) (lives : List Life) (streams : List StreamValue) (objects : ObjectsValue) → ((s : ℕ) → s < W.streams → IsQuietOnAt W lives streams objects s) ↔ IsQuietOnWith W lives streams objects
quiet-on-all W lives streams objects = (
  λ each. record {
    idle = λ s lt. (each s lt).0;
    pools = λ s p lt live listed. All-contains (IsEmptyAt objects) (pools_of W (main_of W s)) p ((each s lt).1 live) listed;
  },
  λ quiet s lt. (quiet.idle s lt, λ live k d within. quiet.pools s (get_or (pools_of W (main_of W s)) k d) lt live (Contains-get_or (pools_of W (main_of W s)) k d within)),
)

-- a run that ended ended so on any lives
ends-on : (W : Parts) (lives : List Life) (n : ℕ) (J : List Event) (o : Outcome) → EndsAs W n J o → EndsOn W lives n J o
ends-on W lives n J outcome.Finished ends = (quiet-on W lives (last_state W J) ends.0, ends.1)
ends-on W lives n J outcome.Stuck ends = (quiet-on W lives (last_state W J) ends.0, ends.1)
ends-on W lives n J (outcome.Budget s) ends = ends

module _ (W : Parts) (lives : List Life) (are : AreLives W lives) (n : ℕ) (streams : List StreamValue) (objects : ObjectsValue) (valid : IsValid W) where
  pub ends-some : (o : Outcome) → IsOutcomeOfRuns W n streams objects (Some o) → IsOutcomeOnLives W lives n streams objects (Some o)
  ends-some o ended Z J stored run stand made = ends-on W lives n J o (ended Z J stored run stand made)

  quiet : (J : List Event) → StandFor W (last_state W J) (parts_held W streams) (object_at objects) → QuietOn W lives (last_state W J) ↔ IsQuietOnWith W lives streams objects
  quiet J stand = quiet-on-seen W lives are (last_state W J) (parts_held W streams) (object_at objects) stand

  over : (Z : Stored) (J : List Event) → OrdersStored W Z.orders → Run W Z J → StandFor W (last_state W J) (parts_held W streams) (object_at objects) → AllEnded (last_state W J) ↔ LooksEnded W (object_at objects)
  over Z J stored run stand = ends-seen W Z (last_state W J) (parts_held W streams) (object_at objects) (last_state-sound W Z J (runs-are-sound W Z) valid stored run) stand

  pub ends-none : IsOutcomeOfRuns W n streams objects None → (IsQuietOnWith W lives streams objects → ⊥) → IsOutcomeOnLives W lives n streams objects None
  ends-none goes busy Z J stored run stand made = (λ is. busy ((quiet J stand).0 is), (goes Z J stored run stand made).1)

  pub ends-finished : IsQuietOnWith W lives streams objects → LooksEnded W (object_at objects) → IsOutcomeOnLives W lives n streams objects (Some outcome.Finished)
  ends-finished looks all Z J stored run stand made = ((quiet J stand).1 looks, (over Z J stored run stand).1 all)

  pub ends-stuck : IsQuietOnWith W lives streams objects → (LooksEnded W (object_at objects) → ⊥) → IsOutcomeOnLives W lives n streams objects (Some outcome.Stuck)
  ends-stuck looks some Z J stored run stand made = ((quiet J stand).1 looks, λ all. some ((over Z J stored run stand).0 all))
