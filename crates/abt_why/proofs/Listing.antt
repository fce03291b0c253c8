-- The pools that a main scheduler lists.
use Rattle.std.proofs.Common.{◌≡◌, ◌∙◌, ◌==◌, ◌||◌, ℕ, Bool, List, [], ◌∷◌, Some, ap, map, refl, slice_get, sym}
use Rattle.std.specs.List.{list_any}
use Rattle.abt_machine.specs.declared.numbers.PoolNo.{PoolNo}
use Rattle.abt_machine.specs.declared.numbers.SchedNo.{SchedNo}
use Rattle.abt_machine.specs.declared.workload.Parts.{Parts}
use Rattle.abt_machine.specs.declared.workload.SchedPart.{SchedPart}
use Rattle.abt_machine.specs.Workloads.{main_from, main_of, pools_from, pools_of}
use Rattle.abt_why.specs.Waits.{main_lists}

-- the pools by number
numbers : (p : ℕ) (qs : List PoolNo) → list_any (λ (q : PoolNo). q.0 == p) qs ≡ list_any (λ q. q == p) (map (λ (q : PoolNo). q.0) qs)
numbers p [] = refl
numbers p (q ∷ qs) = ap (λ b. (q.0 == p) || b) (numbers p qs)

-- the main scheduler of stream s is this one, with these pools
pub listed-by : (W : Parts) (s p : ℕ) (g : SchedNo) (part : SchedPart) (qs : List PoolNo) (b : Bool) → slice_get W.mains s ≡ Some g → slice_get W.scheds g.0 ≡ Some part → qs ≡ part.pools
    → b ≡ list_any (λ (q : PoolNo). q.0 == p) qs → b ≡ main_lists W p s
listed-by W s p g part qs b main sched same is =
    let pools : pools_of W (main_of W s) ≡ map (λ (q : PoolNo). q.0) part.pools = ap (λ o. pools_of W (main_from o)) main ∙ ap pools_from sched in
    is ∙ ap (list_any (λ (q : PoolNo). q.0 == p)) same ∙ numbers p part.pools ∙ ap (list_any (λ q. q == p)) (sym pools)
