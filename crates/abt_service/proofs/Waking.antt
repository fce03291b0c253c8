-- Sets and arrivals that wake all who wait at an object, and arrivals that wait behind them.
use Rattle.std.proofs.Common.{◌≡◌, ◌<◌, ◌==◌, ℕ, suc, List, ◌++◌, length, None, ◌∙◌, ap}
use Rattle.std.proofs.lemmas.Bool.{cond-true, cond-false, eq-eqb, ne_eqb}
use Rattle.abt_machine.specs.Stored.{Stored}
use Rattle.abt_machine.specs.declared.operations.Op.TheVariants as op
use Rattle.abt_machine.specs.declared.workload.Parts.{Parts}
use Rattle.abt_machine.specs.Changes.{Change, changed, goes_on, to_tray}
use Rattle.abt_machine.specs.Lines.{InTray, Waiting, standing, ticket_in, tray_end}
use Rattle.abt_machine.specs.Maps.{put_all}
use Rattle.abt_machine.specs.Numbers.{object_no}
use Rattle.abt_machine.specs.State.{Future, State}
use Rattle.abt_machine.specs.Steps.{filled_by, gives_all, waits, wakes}
use Rattle.abt_machine.specs.Workloads.{combine_of, size_of}
use Rattle.abt_laws.proofs.LineMoves.{line_moves-tray}
use Rattle.abt_laws.proofs.LinesAfter.{line_at, line-empty, line-gets, line-gets_all}
use Rattle.abt_laws.proofs.Lists.{Among, EachOf}
use Rattle.abt_laws.proofs.Places.{same-self}
use Rattle.abt_laws.proofs.Pushes.{EachOf-among, IsDistinct, queue-distinct}
use Rattle.abt_laws.proofs.SoundEventuals.{all-leave}
use Rattle.abt_laws.proofs.SoundSteps.{IsStepping, tray-below, waiting-below}
use Rattle.abt_laws.proofs.Standing.{StandsIn, each-stands}
use Rattle.abt_service.specs.Laws.{BarrierOpens, BarrierWaits, FutureOpens, SetWakesAll, WaitsBehind, WakesAll, waiters}
use Rattle.abt_service.proofs.Going.{Goes, goes}

module _ (W : Parts) (Z : Stored) (S : State) (s u : ℕ) (step : IsStepping W Z S s u) (x : ℕ) where
  -- who waits at x is declared and in no tray
  not-in-tray : (v : ℕ) → StandsIn W S (Waiting x) v → (v < length W.units) × (ticket_in (InTray s) (S.place v) ≡ None)
  not-in-tray v stands = (stands.declared, ap (ticket_in (InTray s)) stands.at)

  -- the tray has those of the waiters that come to it, in order
  pub tray-after : (us : List ℕ) → IsDistinct us → EachOf (StandsIn W S (Waiting x)) us → (T : State) → T.place ≡ put_all S.place (to_tray W S s us) → standing W T (InTray s) ≡ us
  tray-after us apart each T places =
      let new : (v : ℕ) → Among v us → (v < length W.units) × (ticket_in (InTray s) (S.place v) ≡ None) = λ v m. not-in-tray v (EachOf-among (StandsIn W S (Waiting x)) us v each m) in
      ap (λ f. line_at (length W.units) (InTray s) f) (places ∙ ap (put_all S.place) (line_moves-tray s (tray_end W S s) us))
      ∙ (line-gets_all (length W.units) (InTray s) (same-self s) us (tray_end W S s) S.place apart new (tray-below W Z S s u step)
      ∙ ap (λ vs. vs ++ us) (line-empty (length W.units) (InTray s) S.place step.no_tray))

  -- if all who wait at x move to the tray, they are woken
  all-wake : (T : State) → T.place ≡ put_all S.place (to_tray W S s (waiters W S x)) → WakesAll W S T s x
  all-wake T places = (
    ap (λ f. line_at (length W.units) (Waiting x) f) places ∙ line-empty (length W.units) (Waiting x) (put_all S.place (to_tray W S s (waiters W S x))) (all-leave W Z S s u step x),
    tray-after (waiters W S x) (queue-distinct (λ v. ticket_in (Waiting x) (S.place v)) (length W.units)) (each-stands W S (Waiting x)) T places,
  )

  -- if u comes to wait at x, it stands behind those that wait
  pub behind : (T : State) → T ≡ changed S (waits S u x) → WaitsBehind W S T u x
  behind T same =
      ap (λ (V : State). standing W V (Waiting x)) same
      ∙ line-gets (length W.units) (Waiting x) S.place u (S.object_next x) (same-self x (S.object_next x)) step.declared (ap (ticket_in (Waiting x)) step.in_hand) (waiting-below W Z S x step.sound)

pub set-wakes-all : (W : Parts) (Z : Stored) → SetWakesAll W Z
set-wakes-all W Z valid stored S T e u x does =
    let is : Goes W Z S T e.stream.0 u (op.EvSet (object_no x)) = goes W Z valid S T e u (op.EvSet (object_no x)) does in
    all-wake W Z S e.stream.0 u is.step x T (ap (λ (V : State). V.place) is.becomes)

pub future-opens : (W : Parts) (Z : Stored) → FutureOpens W Z
future-opens W Z valid stored S T e u x does last =
    let is : Goes W Z S T e.stream.0 u (op.FuSet (object_no x)) = goes W Z valid S T e u (op.FuSet (object_no x)) does in
    let f : Future = filled_by (combine_of W x) (S.future x) (S.carried u).acc in
    let full : Change = gives_all W S e.stream.0 u x f.value in
    all-wake W Z S e.stream.0 u is.step x T
    (ap (λ (V : State). V.place) is.becomes ∙ ap (λ (c : Change). put_all S.place c.moves) (cond-true (f.filled == size_of W x) full (goes_on S u) (eq-eqb f.filled (size_of W x) last)))

pub barrier-opens : (W : Parts) (Z : Stored) → BarrierOpens W Z
barrier-opens W Z valid stored S T e u x does last =
    let is : Goes W Z S T e.stream.0 u (op.BarWait (object_no x)) = goes W Z valid S T e u (op.BarWait (object_no x)) does in
    let n : ℕ = suc (length (waiters W S x)) in
    all-wake W Z S e.stream.0 u is.step x T
    (ap (λ (V : State). V.place) is.becomes
    ∙ ap (λ (c : Change). put_all S.place c.moves) (cond-true (n == size_of W x) (wakes W S e.stream.0 u (waiters W S x)) (waits S u x) (eq-eqb n (size_of W x) last)))

pub barrier-waits : (W : Parts) (Z : Stored) → BarrierWaits W Z
barrier-waits W Z valid stored S T e u x does part =
    let is : Goes W Z S T e.stream.0 u (op.BarWait (object_no x)) = goes W Z valid S T e u (op.BarWait (object_no x)) does in
    let n : ℕ = suc (length (waiters W S x)) in
    behind W Z S e.stream.0 u is.step x T
    (is.becomes ∙ ap (changed S) (cond-false (n == size_of W x) (wakes W S e.stream.0 u (waiters W S x)) (waits S u x) (ne_eqb n (size_of W x) part)))
