-- Calls and steps keep each unit: none is lost, and none is made.
use Rattle.std.specs.Prelude.{ℕ, ◌≡◌, ◌+◌, List, [], ◌∷◌}
use Rattle.std.specs.List.{count_by}
use Rattle.abt_machine.specs.declared.events.Site.{Site}
use Rattle.abt_machine.specs.declared.operations.Op.{Op}
use Rattle.abt_machine.specs.declared.workload.Parts.{Parts}
use Rattle.abt_machine.specs.Values.{Owned, Object}
use Rattle.abt_machine.specs.Acts.{Act, Answer}
use Rattle.abt_machine.specs.Pools.{is_unit}
use Rattle.abt_machine.specs.Gives.{SiteGives}
use Rattle.abt_machine.specs.Plans.{Effect, Does, Calls, plan_of}
use Rattle.abt_chain.specs.Keeping.{contents_asked, contents_answered}
use Rattle.abt_calls.specs.Allowed.{Allows}
use Rattle.abt_calls.specs.Suits.{Suits}
use Rattle.abt_calls.specs.Effects.{units_left}
use Rattle.abt_calls.specs.Keeps.{contents_of}

-- how many of these units have number u
abbrev pub times : ℕ → List Owned → ℕ
times u os = count_by (is_unit u) os

-- as many units of each number are in both of the first lists as in both of the others
abbrev pub KeepsEach : List Owned → List Owned → List Owned → List Owned → Type 0
KeepsEach here there here_after there_after = (u : ℕ) → times u here + times u there ≡ times u here_after + times u there_after

-- an object that answers has the units that it had and that came, except those that come out
abbrev pub CallsKeepUnits : Type 0
CallsKeepUnits =
    (old : Object) (act : Act) (answer : Answer) (new : Object) → SiteGives old act answer new → Allows old act
    → KeepsEach (contents_asked act).units (contents_of old).units (contents_answered answer).units (contents_of new).units

-- a stream that is answered has the unit that it had and those that came out, except the one that went with the act
abbrev pub EffectsKeepUnits : Type 0
EffectsKeepUnits =
    (W : Parts) (s : ℕ) (a : Op) (o : Owned) (x : Site) (act : Act) (brings : Answer → Effect) (answer : Answer)
    → plan_of W s a o ≡ Calls x act brings → Suits act answer
    → KeepsEach (o ∷ []) (contents_answered answer).units (units_left (brings answer)) (contents_asked act).units

-- a step with no call keeps its unit
abbrev pub OwnStepsKeepUnits : Type 0
OwnStepsKeepUnits =
    (W : Parts) (s : ℕ) (a : Op) (o : Owned) (e : Effect) → plan_of W s a o ≡ Does e → KeepsEach (o ∷ []) [] (units_left e) []

-- a step with a call keeps its unit and those of the object
abbrev pub StepsKeepUnits : Type 0
StepsKeepUnits =
    (W : Parts) (s : ℕ) (a : Op) (o : Owned) (x : Site) (act : Act) (brings : Answer → Effect) (answer : Answer) (old new : Object)
    → plan_of W s a o ≡ Calls x act brings → Allows old act → SiteGives old act answer new
    → KeepsEach (o ∷ []) (contents_of old).units (units_left (brings answer)) (contents_of new).units
