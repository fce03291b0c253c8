-- How a run ended, read off what its streams and objects hold.
use Rattle.std.specs.Prelude.{ℕ, ◌≡◌, ◌<◌, List, [], length, None, Contains}
use Rattle.abt_machine.specs.declared.events.Event.{Event}
use Rattle.abt_machine.specs.declared.events.Outcome.{Outcome}
use Rattle.abt_machine.specs.declared.events.Outcome.TheVariants as outcome
use Rattle.abt_machine.specs.declared.events.Site.{Site}
use Rattle.abt_machine.specs.declared.events.Site.TheVariants as site
use Rattle.abt_machine.specs.declared.workload.Parts.{Parts}
use Rattle.abt_machine.specs.Numbers.{pool_no, unit_no}
use Rattle.abt_machine.specs.Workloads.{pools_of, main_of}
use Rattle.abt_machine.specs.Next.{StepDue}
use Rattle.abt_machine.specs.Outcomes.{steps_of}
use Rattle.abt_machine.specs.State.{State}
use Rattle.abt_machine.specs.Turns.{due_of}
use Rattle.abt_machine.specs.Values.{Held, Object, PoolIs, Phase, Unborn, Ended, DeskIs, part_of, object_of}

-- these parts of the declared streams and these objects are those of state S
pub record StandFor (W : Parts) (S : State) (parts : ℕ → Held) (objects : Site → Object) : Type 0 where
  pub streams : (s : ℕ) → s < W.streams → part_of W S s ≡ parts s
  pub sites : (x : Site) → object_of W S x ≡ objects x

-- each declared stream made this many steps in the journal
abbrev pub HaveMade : Parts → List Event → (ℕ → ℕ) → Type 0
HaveMade W J made = (s : ℕ) → s < W.streams → steps_of s J ≡ made s

-- a stream without a unit and without a stacked frame
pub record IsIdle (held : Held) : Type 0 where
  pub tray : held.tray ≡ []
  pub next : held.next ≡ None
  pub hand : held.hand ≡ None
  pub frames : held.own.below ≡ []

-- a pool without a unit
abbrev pub IsEmptyPool : Object → Type 0
IsEmptyPool (PoolIs pool) = pool.units ≡ []
IsEmptyPool _ = ⊥

-- each stream is idle, and the pools that main schedulers list are empty
pub record LooksQuiet (W : Parts) (parts : ℕ → Held) (objects : Site → Object) : Type 0 where
  pub idle : (s : ℕ) → s < W.streams → IsIdle (parts s)
  pub pools : (s p : ℕ) → s < W.streams → Contains (pools_of W (main_of W s)) p → IsEmptyPool (objects (site.Pool (pool_no p)))

-- a unit that is at its desk, unborn or ended
abbrev pub IsOverIn : Phase → Type 0
IsOverIn (Unborn o) = Unit {0}
IsOverIn (Ended o c) = Unit {0}
IsOverIn _ = ⊥

abbrev pub IsOverAt : Object → Type 0
IsOverAt (DeskIs desk) = IsOverIn desk.phase
IsOverAt _ = ⊥

-- each declared unit is unborn or ended
abbrev pub LooksEnded : Parts → (Site → Object) → Type 0
LooksEnded W objects = (u : ℕ) → u < length W.units → IsOverAt (objects (site.Desk (unit_no u)))

-- stream s, which made this many steps, has made its n steps, and would make another
abbrev pub LooksSpent : Parts → ℕ → (ℕ → Held) → (ℕ → ℕ) → ℕ → Type 0
LooksSpent W n parts made s = (s < W.streams) × (made s ≡ n) × (due_of W s (parts s) ≡ StepDue)

-- how it ended, if each stream may make n steps, and made this many: quiet, and every unit is unborn or ended; quiet, and
-- some unit is not; or by the least stream that is spent
abbrev pub LooksAs : Parts → ℕ → (ℕ → Held) → (Site → Object) → (ℕ → ℕ) → Outcome → Type 0
LooksAs W n parts objects made outcome.Finished = LooksQuiet W parts objects × LooksEnded W objects
LooksAs W n parts objects made outcome.Stuck = LooksQuiet W parts objects × (LooksEnded W objects → ⊥)
LooksAs W n parts objects made (outcome.Budget s) = LooksSpent W n parts made s.0 × ((r : ℕ) → r < s.0 → LooksSpent W n parts made r → ⊥)
