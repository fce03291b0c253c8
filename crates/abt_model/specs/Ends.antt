-- What is left to do, by what streams and objects hold.
use Rattle.std.specs.Prelude.{ℕ, ◌<◌}
use Rattle.std.specs.List.{All}
use Rattle.abt_machine.specs.declared.events.Site.TheVariants as site
use Rattle.abt_machine.specs.declared.workload.Parts.{Parts}
use Rattle.abt_machine.specs.Numbers.{pool_no}
use Rattle.abt_machine.specs.Workloads.{main_of, pools_of}
use Rattle.abt_outcomes.specs.Values.{IsEmptyPool}
use Rattle.abt_replay.specs.Objects.{ObjectsValue, object_at}

-- the pool is empty
abbrev pub IsEmptyAt : ObjectsValue → ℕ → Type 0
IsEmptyAt objects p = IsEmptyPool (object_at objects (site.Pool (pool_no p)))

-- the pools that the main scheduler of stream s lists are empty
abbrev pub HasEmptyPools : Parts → ObjectsValue → ℕ → Type 0
HasEmptyPools W objects s = All (IsEmptyAt objects) (pools_of W (main_of W s))

-- the pools that main schedulers list are empty
abbrev pub AreEmptyPools : Parts → ObjectsValue → Type 0
AreEmptyPools W objects = (s : ℕ) → s < W.streams → HasEmptyPools W objects s
