-- The adders in a state of the machine, and what events leave as it is.
use Rattle.std.proofs.Common.{◌≡◌, ℕ, Bool, true, false, List, [], ◌∷◌, Option, Some, None, refl, sym, ◌∙◌, ap, inl, inr}
use Rattle.abt_machine.specs.declared.events.Place.{Place}
use Rattle.abt_machine.specs.declared.events.Place.TheVariants as place
use Rattle.abt_machine.specs.declared.workload.Parts.{Parts}
use Rattle.abt_machine.specs.Changes.{changed, no_change}
use Rattle.abt_machine.specs.Events.{look_row, without_requests}
use Rattle.abt_machine.specs.Frames.{marked}
use Rattle.abt_machine.specs.Maps.{put_all, put_at}
use Rattle.abt_machine.specs.Numbers.{stream_no}
use Rattle.abt_machine.specs.Sound.{HasNoRequest}
use Rattle.abt_machine.specs.State.{Desk, Plain, State, Stream}
use Rattle.abt_laws.proofs.Lists.{EachOf}
use Rattle.abt_laws.proofs.Maps.{put_at-cases}
use Rattle.abt_adders.proofs.Calm.{Calm, IsCalm, calm-after}
use Rattle.abt_adders.proofs.Moving.{adding-same}
use Rattle.abt_adders.proofs.Stages.{Active, Adding, Stage, stage}

-- the stages of all units
abbrev pub stages : State → ℕ → Stage
stages S u = stage (S.place u)

-- n adders in a state, after t steps
pub record Adds (n t : ℕ) (S : State) : Type 0 where
  pub adding : Adding n t (stages S) S.carried (S.mutex 0)
  pub calm : Calm S

-- a unit that moves may keep its stage
pub stage-kept : (F : ℕ → Place) (u : ℕ) (to : Place) → stage (F u) ≡ stage to → (v : ℕ) → stage (put_at F u to v) ≡ stage (F v)
stage-kept F u to same v =
    elim (put_at-cases F u to v) [
      | inl x ↦ ap stage x.1 ∙ (sym same ∙ ap (λ w. stage (F w)) (sym x.0))
      | inr x ↦ ap stage x.1
    ]

module _ (n t : ℕ) (S : State) (adds : Adds n t S) where
  -- these units move, and each keeps its stage
  pub still : (ms : List (ℕ × Place)) (ds : List (ℕ × Desk)) (ps : List (ℕ × ℕ)) (ss : List (ℕ × Stream)) → ((v : ℕ) → stage (put_all S.place ms v) ≡ stage (S.place v)) →
      EachOf (λ (d : ℕ × Desk). HasNoRequest d.1) ds → EachOf (λ (m : ℕ × Stream). IsCalm m.1.mark) ss → Adds n t (changed S (record no_change { moves = ms; desks = ds; pool_next = ps; streams = ss }))
  still ms ds ps ss same desks streams = record {
    adding = adding-same n t t (stages S) (λ v. stage (put_all S.place ms v)) S.carried S.carried (S.mutex 0) (S.mutex 0) refl same (λ v. refl) refl adds.adding;
    calm = calm-after S (record no_change { moves = ms; desks = ds; pool_next = ps; streams = ss }) adds.calm desks streams;
  }

  -- a look that finds no request
  pub looks : (W : Parts) (s u : ℕ) (c : Bool) (m : Option ℕ) → c ≡ false → m ≡ None → stage (S.place u) ≡ Active → Adds n t (changed S (look_row W S s u c m))
  looks W s u true m e f at = absurd cc
  looks W s u false (Some p) e f at = absurd cc
  looks W s u false None e f at =
      still ((u, place.Hand (stream_no s)) ∷ []) ((u, without_requests (S.desk u)) ∷ []) [] ((s, marked Plain (S.stream s)) ∷ []) (stage-kept S.place u (place.Hand (stream_no s)) at) ((refl, refl), tt) (tt, tt)
