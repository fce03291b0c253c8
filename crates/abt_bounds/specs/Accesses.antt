-- Which events keep to the access that pools are declared with.
use Rattle.std.specs.Prelude.{ℕ, ◌≡◌, ◌<◌, List, [], ◌∷◌, IfSome, IsTrue}
use Rattle.abt_machine.specs.declared.events.Code.TheVariants as code
use Rattle.abt_machine.specs.declared.events.What.{What}
use Rattle.abt_machine.specs.declared.events.What.TheVariants as what
use Rattle.abt_machine.specs.declared.operations.Op.{Op}
use Rattle.abt_machine.specs.declared.workload.Parts.{Parts}
use Rattle.abt_machine.specs.Access.{may_put, may_take, may_take_all, pool_given, pool_taken}
use Rattle.abt_machine.specs.Sound.{frames_of}
use Rattle.abt_machine.specs.State.{State, Frame}
use Rattle.abt_machine.specs.Workloads.{op_at}

-- stream s may take from the pool that the operation takes from, and put into the one that it gives
abbrev pub IsWithinAccess : Parts → ℕ → Op → Type 0
IsWithinAccess W s o = IfSome (pool_taken o) (λ p. IsTrue (may_take W s p)) × IfSome (pool_given W o) (λ p. IsTrue (may_put W s p))

-- what stream s did keeps to the access of pools: it takes and misses where it may take, and its operations go through within their access
abbrev pub KeepsAccess : Parts → ℕ → What → Type 0
KeepsAccess W s (what.Miss p) = IsTrue (may_take W s p.0)
KeepsAccess W s (what.Take p u) = IsTrue (may_take W s p.0)
KeepsAccess W s (what.Step u k c) = c ≡ code.Ok → IfSome (op_at W u.0 k) (IsWithinAccess W s)
KeepsAccess W s _ = Unit {0}

-- stream s may take from each pool of each of these frames' schedulers
abbrev pub MayRun : Parts → ℕ → List Frame → Type 0
MayRun W s [] = Unit {0}
MayRun W s (f ∷ fs) = IsTrue (may_take_all W s f.sched) × MayRun W s fs

-- each declared stream may take from all pools of the schedulers that it runs
abbrev pub FramesHaveAccess : Parts → State → Type 0
FramesHaveAccess W S = (s : ℕ) → s < W.streams → MayRun W s (frames_of (S.stream s))
