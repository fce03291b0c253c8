-- All streams and objects together hold each declared unit once.
use Rattle.std.specs.Prelude.{ℕ, suc, List, [], ◌∷◌, ◌++◌, length, map}
use Rattle.std.specs.List.{flat_map, range_with_len}
use Rattle.std.specs.List.Sorted.{IsPermutation}
use Rattle.abt_machine.specs.declared.events.Site.TheVariants as site
use Rattle.abt_machine.specs.Stored.{Stored}
use Rattle.abt_machine.specs.declared.operations.Thing.{Thing}
use Rattle.abt_machine.specs.declared.operations.Thing.TheVariants as thing
use Rattle.abt_machine.specs.declared.workload.Parts.{Parts}
use Rattle.abt_machine.specs.Numbers.{object_no, pool_no, unit_no}
use Rattle.abt_machine.specs.Valid.{IsValid}
use Rattle.abt_machine.specs.State.{State}
use Rattle.abt_machine.specs.Sound.{Sound}
use Rattle.abt_machine.specs.Values.{Owned}
use Rattle.abt_machine.specs.Monitors.{number_of}
use Rattle.abt_laws.specs.Footprint.{Holder, OfStream, OfSite}
use Rattle.abt_calls.specs.Holders.{units_with}

-- the object of thing x, by its kind; those that wait at a condition are with its mutex
abbrev pub thing_holders : ℕ → Thing → List Holder
thing_holders x thing.Mutex = OfSite (site.Monitor (object_no x)) ∷ []
thing_holders x (thing.Cond m) = []
thing_holders x thing.Eventual = OfSite (site.Eventual (object_no x)) ∷ []
thing_holders x (thing.Future n c) = OfSite (site.Future (object_no x)) ∷ []
thing_holders x (thing.Barrier n) = OfSite (site.Barrier (object_no x)) ∷ []
thing_holders x thing.RwLock = OfSite (site.Rw (object_no x)) ∷ []

-- the objects of these things, the first of which has number i
abbrev pub holders_from : ℕ → List Thing → List Holder
holders_from i [] = []
holders_from i (t ∷ ts) = thing_holders i t ++ holders_from (suc i) ts

-- the streams of the workload
abbrev pub streams_of : Parts → List Holder
streams_of W = map (λ s. OfStream s) (range_with_len 0 W.streams)

-- its pools
abbrev pub pools_at : Parts → List Holder
pools_at W = map (λ p. OfSite (site.Pool (pool_no p))) (range_with_len 0 (length W.pools))

-- the desks of its units
abbrev pub desks_of : Parts → List Holder
desks_of W = map (λ u. OfSite (site.Desk (unit_no u))) (range_with_len 0 (length W.units))

-- all streams and objects of the workload
abbrev pub all_holders : Parts → List Holder
all_holders W = streams_of W ++ pools_at W ++ desks_of W ++ holders_from 0 W.objects

-- all units that they hold in a state
abbrev pub all_units : Parts → State → List Owned
all_units W S = flat_map (units_with W S) (all_holders W)

-- in a sound state they hold as many units as the workload has, one of each number
abbrev pub AllUnitsOnce : Type 0
AllUnitsOnce =
    (W : Parts) (Z : Stored) (S : State) → IsValid W → Sound W Z S
    → IsPermutation (range_with_len 0 (length W.units)) (map number_of (all_units W S))
