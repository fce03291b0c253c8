-- No unit is asked anything, and none ends itself.
use Rattle.std.proofs.Common.{◌≡◌, ℕ, ◌≤◌, false, List, [], ◌∷◌, length, sym}
use Rattle.abt_machine.specs.declared.events.Cause.{Cause}
use Rattle.abt_machine.specs.declared.events.Cause.TheVariants as cause
use Rattle.abt_machine.specs.declared.operations.Body.{Body}
use Rattle.abt_machine.specs.declared.workload.Parts.{Parts}
use Rattle.abt_machine.specs.Changes.{Change, changed}
use Rattle.abt_machine.specs.Frames.{left, left_to}
use Rattle.abt_machine.specs.Next.{EndDue, due_of_unit}
use Rattle.abt_machine.specs.Sound.{HasNoRequest}
use Rattle.abt_machine.specs.State.{Asked, Desk, Exited, Frame, Left, Mark, Plain, State, Stream}
use Rattle.abt_machine.specs.Workloads.{is_sched, ops_of}
use Rattle.abt_laws.proofs.Dues.{due_of_unit-cases}
use Rattle.abt_laws.proofs.Lists.{EachOf}
use Rattle.abt_laws.proofs.Maps.{put_all-kept}

-- a unit in a hand with this mark goes on with its program
abbrev pub IsCalm : Mark → Type 0
IsCalm Plain = Unit {0}
IsCalm Asked = ⊥
IsCalm Left = Unit {0}
IsCalm Exited = ⊥

pub record Calm (S : State) : Type 0 where
  pub asks : (u : ℕ) → HasNoRequest (S.desk u)
  pub marks : (s : ℕ) → IsCalm (S.stream s).mark

pub calm-after : (S : State) (c : Change) → Calm S → EachOf (λ (d : ℕ × Desk). HasNoRequest d.1) c.desks → EachOf (λ (m : ℕ × Stream). IsCalm m.1.mark) c.streams → Calm (changed S c)
calm-after S c calm desks streams = record {
  asks = λ u. put_all-kept (λ n (d : Desk). HasNoRequest d) S.desk c.desks u desks (calm.asks u);
  marks = λ s. put_all-kept (λ n (m : Stream). IsCalm m.mark) S.stream c.streams s streams (calm.marks s);
}

-- so it is when a frame is left
pub calm-left : (own : Stream) → IsCalm own.mark → IsCalm (left own).mark
calm-left own calm = by own.below where
  by : (fs : List Frame) → IsCalm (left_to own fs).mark
  by [] = calm
  by (f ∷ fs) = tt

-- a unit whose end is due has made all its operations
pub end-after-all : (W : Parts) (s : ℕ) (m : Mark) (b : Body) (k : ℕ) (c : Cause) → due_of_unit W s m b k ≡ EndDue c → IsCalm m → is_sched b ≡ false → length (ops_of b) ≤ k
end-after-all W s m b k c =
    due_of_unit-cases W s k (λ m b d. d ≡ EndDue c → IsCalm m → is_sched b ≡ false → length (ops_of b) ≤ k)
    (λ b h calm no. absurd calm) (λ b h calm no. absurd calm) (λ g h calm no. absurd cc) (λ g h calm no. absurd cc) (λ g h calm no. absurd cc)
    (λ m b program more h calm no. absurd cc) (λ m b program over h calm no. over) m b

-- and that is why it ends
pub end-done : (W : Parts) (s : ℕ) (m : Mark) (b : Body) (k : ℕ) (c : Cause) → due_of_unit W s m b k ≡ EndDue c → IsCalm m → is_sched b ≡ false → c ≡ cause.Done
end-done W s m b k c =
    due_of_unit-cases W s k (λ m b d. d ≡ EndDue c → IsCalm m → is_sched b ≡ false → c ≡ cause.Done)
    (λ b h calm no. absurd calm) (λ b h calm no. absurd calm) (λ g h calm no. absurd cc) (λ g h calm no. absurd cc) (λ g h calm no. absurd cc)
    (λ m b program more h calm no. absurd cc) (λ m b program over h calm no. let e : cause.Done ≡ c = cc in sym e) m b
