-- Which streams may put into a pool, and which may take from it, by its declared access.
use Rattle.std.specs.Prelude.{ℕ, ◌==◌, ◌&&◌, Bool, true, Option, Some, None}
use Rattle.std.specs.List.{list_all}
use Rattle.abt_machine.specs.declared.operations.Access.{Access}
use Rattle.abt_machine.specs.declared.operations.Access.TheVariants as access
use Rattle.abt_machine.specs.declared.operations.Op.{Op}
use Rattle.abt_machine.specs.declared.operations.Op.TheVariants as op
use Rattle.abt_machine.specs.declared.workload.Parts.{Parts}
use Rattle.abt_machine.specs.Sites.{first_pool}
use Rattle.abt_machine.specs.Workloads.{access_of, pools_of}

abbrev pub puts : Access → ℕ → Bool
puts (access.Priv a) s = s == a.0
puts (access.Spsc a b) s = s == a.0
puts (access.Mpsc b) s = true
puts (access.Spmc a) s = s == a.0
puts access.Mpmc s = true

abbrev pub takes : Access → ℕ → Bool
takes (access.Priv a) s = s == a.0
takes (access.Spsc a b) s = s == b.0
takes (access.Mpsc b) s = s == b.0
takes (access.Spmc a) s = true
takes access.Mpmc s = true

-- stream s may put into pool p
abbrev pub may_put : Parts → ℕ → ℕ → Bool
may_put W s p = puts (access_of W p) s

-- stream s may take from pool p
abbrev pub may_take : Parts → ℕ → ℕ → Bool
may_take W s p = takes (access_of W p) s

-- stream s may take from each pool of scheduler g
abbrev pub may_take_all : Parts → ℕ → ℕ → Bool
may_take_all W s g = list_all (may_take W s) (pools_of W g)

-- the pool that an operation takes a unit from
abbrev pub pool_taken : Op → Option ℕ
pool_taken (op.YieldTo v p) = Some p.0
pool_taken _ = None

-- the pool that an operation gives a unit as its home, now or at its next look
abbrev pub pool_given : Parts → Op → Option ℕ
pool_given W (op.Create v p) = Some p.0
pool_given W (op.Migrate v p) = Some p.0
pool_given W (op.MigrateTo v r) = Some (first_pool W r.0)
pool_given W (op.Revive v p) = Some p.0
pool_given W _ = None

-- stream s may take from the first pool and put into the second, each if there is one
abbrev pub may_use : Parts → ℕ → Option ℕ → Option ℕ → Bool
may_use W s None None = true
may_use W s (Some p) None = may_take W s p
may_use W s None (Some q) = may_put W s q
may_use W s (Some p) (Some q) = may_take W s p && may_put W s q

-- stream s may take from the pool that an operation takes from, and put into the one that it gives
abbrev pub may_reach : Parts → ℕ → Op → Bool
may_reach W s a = may_use W s (pool_taken a) (pool_given W a)
