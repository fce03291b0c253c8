-- Journals whose stamps count their events.
use Rattle.std.proofs.Common.{◌≡◌, ◌<◌, ◌+◌, ℕ, suc, List, [], ◌∷◌, ◌++◌, length, arith}
use Rattle.abt_machine.specs.declared.events.Event.{Event}
use Rattle.abt_machine.specs.declared.workload.Parts.{Parts}
use Rattle.abt_machine.specs.Stamps.{AllAfter, Stamped, StampedFrom}
use Rattle.abt_explore.specs.Laws.{AreCounted, CountsFrom}

-- later stamps are greater
later : (W : Parts) (e : Event) (t : ℕ) (es : List Event) → e.stamp < t → CountsFrom t es → AllAfter W e es
later W e t [] below counted = tt
later W e t (f ∷ fs) below counted = let s : f.stamp ≡ t = counted.0 in ((λ _. omega arith), later W e (suc t) fs (omega arith) counted.1)

stamped-from : (W : Parts) (e : Event) (t : ℕ) (es : List Event) → e.stamp + 1 ≡ t → CountsFrom t es → StampedFrom W e es
stamped-from W e t [] next counted = tt
stamped-from W e t (f ∷ fs) next counted =
    let s : f.stamp ≡ t = counted.0 in
    ((omega arith, omega arith, (λ same. absurd (omega arith))), later W e t (f ∷ fs) (omega arith) counted, stamped-from W f (suc t) fs (omega arith) counted.1)

-- such a journal is stamped
pub counted-stamped : (W : Parts) (J : List Event) → AreCounted J → Stamped W J
counted-stamped W [] counted = tt
counted-stamped W (e ∷ es) counted = let s : e.stamp ≡ 1 = counted.0 in (s, stamped-from W e 2 es (omega arith) counted.1)

-- one event more
pub counts-push : (t : ℕ) (J : List Event) (e : Event) → CountsFrom t J → e.stamp ≡ length J + t → CountsFrom t (J ++ e ∷ [])
counts-push t [] e counted is = (omega arith, tt)
counts-push t (f ∷ fs) e counted is = (counted.0, counts-push (suc t) fs e counted.1 (omega arith))
