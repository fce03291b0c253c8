-- Conditions, counted by their mutexes.
use Rattle.std.specs.Prelude.{◌≡◌, ◌<◌, ℕ, List, Some, count_by, get_or, length, slice_get, take}
use Rattle.abt_machine.specs.declared.numbers.ObjectNo.{ObjectNo}
use Rattle.abt_machine.specs.declared.operations.Thing.{Thing}
use Rattle.abt_machine.specs.declared.operations.Thing.TheVariants as thing
use Rattle.abt_machine.specs.Workloads.{is_condition_of}

-- the conditions among the first n objects are counted: at each mutex how many of its conditions are there, and at each condition that is
-- there how many conditions of its mutex are declared before it
pub record AreCounted (things : List Thing) (n : ℕ) (counts : List ℕ) : Type 0 where
  pub each : length counts ≡ length things
  pub mutexes : (x : ℕ) → slice_get things x ≡ Some thing.Mutex → get_or counts x 0 ≡ count_by (is_condition_of x) (take n things)
  pub conditions : (x : ℕ) (m : ObjectNo) → x < n → slice_get things x ≡ Some (thing.Cond m) → get_or counts x 0 ≡ count_by (is_condition_of m.0) (take x things)
