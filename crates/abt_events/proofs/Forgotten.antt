-- After a look nothing is asked of the unit.
use Rattle.std.proofs.Common.{◌≡◌, ℕ, Bool, true, false, Option, Some, None, refl, sym, ◌∙◌, ap, subst}
use Rattle.abt_machine.specs.declared.events.What.{What}
use Rattle.abt_machine.specs.Stored.{Stored}
use Rattle.abt_machine.specs.declared.workload.Parts.{Parts}
use Rattle.abt_machine.specs.Events.{after, look_row, without_requests}
use Rattle.abt_machine.specs.Maps.{put_all}
use Rattle.abt_machine.specs.Sound.{HasNoRequest}
use Rattle.abt_machine.specs.State.{State}
use Rattle.abt_laws.proofs.Maps.{put_at-same}
use Rattle.abt_events.specs.Requests.{LooksForget}

-- the unit's desk, by what the look finds
forgotten : (W : Parts) (S : State) (s u : ℕ) (cancel : Bool) (migrate : Option ℕ) → put_all S.desk (look_row W S s u cancel migrate).desks u ≡ without_requests (S.desk u)
forgotten W S s u true migrate = put_at-same S.desk u (without_requests (S.desk u))
forgotten W S s u false (Some p) = put_at-same S.desk u (without_requests (S.desk u))
forgotten W S s u false None = put_at-same S.desk u (without_requests (S.desk u))

pub looks-forget : (W : Parts) (Z : Stored) → LooksForget W Z
looks-forget W Z S T e u comes is =
    let s : ℕ = e.stream.0 in
    let found : T.desk u.0 ≡ without_requests (S.desk u.0) =
    ap (λ (U : State). U.desk u.0) comes.2 ∙ (ap (λ (w : What). (after W S s w).desk u.0) is ∙ forgotten W S s u.0 (S.desk u.0).cancel (S.desk u.0).migrate) in
    subst HasNoRequest (sym found) (refl, refl)
