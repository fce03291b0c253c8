-- No barrier has as many waiters as parties after a change.
use Rattle.std.proofs.Common.{◌≡◌, ◌≢◌, ℕ, suc, ◌<◌, ◌≤◌, length, Some, sym, ◌∙◌, ap, subst, arith, inl, inr}
use Rattle.std.proofs.lemmas.Bool.{cases_eq}
use Rattle.abt_machine.specs.declared.events.Place.{Place}
use Rattle.abt_machine.specs.declared.events.Place.TheVariants as place
use Rattle.abt_machine.specs.declared.events.Spot.TheVariants as spot
use Rattle.abt_machine.specs.Stored.{Stored}
use Rattle.abt_machine.specs.declared.operations.Thing.TheVariants as thing
use Rattle.abt_machine.specs.declared.workload.Parts.{Parts}
use Rattle.abt_machine.specs.Workloads.{thing_at}
use Rattle.abt_machine.specs.State.{State}
use Rattle.abt_machine.specs.Lines.{Waiting, ticket_in, standing}
use Rattle.abt_machine.specs.Changes.{Change, changed}
use Rattle.abt_machine.specs.Sound.{Sound}
use Rattle.abt_laws.proofs.Counts.{queue-fewer, queue-one_more}
use Rattle.abt_laws.proofs.Lists.{EachOf}
use Rattle.abt_laws.proofs.Maps.{KeyOf-cases, put_all-other, put_all-value}
use Rattle.abt_laws.proofs.Places.{place_in, ticket-place, line-unique, same-self}
use Rattle.abt_laws.proofs.SoundChanges.{places, BarriersHold}

-- the place is no wait at a barrier
abbrev pub IsOffBarriers : Parts → Place → Type 0
IsOffBarriers W (place.Blocked (spot.Object x) t) = (n : ℕ) → thing_at W x.0 ≡ Some (thing.Barrier n) → ⊥
IsOffBarriers W _ = Unit {0}

module _ (W : Parts) (Z : Stored) (S : State) (sound : Sound W Z S) where
  -- if nobody comes to wait at a barrier, barriers hold
  pub barriers-stay : (c : Change) → EachOf (λ (m : ℕ × Place). IsOffBarriers W m.1) c.moves → BarriersHold W (changed S c)
  barriers-stay c off x n is =
      let fewer : length (standing W (changed S c) (Waiting x)) ≤ length (standing W S (Waiting x)) =
      queue-fewer (λ u. ticket_in (Waiting x) (places S c u)) (λ u. ticket_in (Waiting x) (S.place u)) (length W.units) (λ v l t e. elim (KeyOf-cases v c.moves) [
        | inl moved ↦ absurd (subst (IsOffBarriers W) (ticket-place (Waiting x) (places S c v) t e) (put_all-value (λ m pl. IsOffBarriers W pl) S.place c.moves v off moved) n is)
        | inr out ↦ (t, ap (ticket_in (Waiting x)) (sym (put_all-other S.place c.moves v out)) ∙ e)
      ]) in
      let held : length (standing W S (Waiting x)) < n = sound.waiting x n is in
      omega arith

  -- if one unit comes to wait at x, and x has room for one more if it is a barrier
  pub barriers-wait : (T : State) (u x t : ℕ) → ((v : ℕ) → v ≢ u → T.place v ≡ S.place v) → T.place u ≡ place_in (Waiting x) t →
      ((n : ℕ) → thing_at W x ≡ Some (thing.Barrier n) → suc (length (standing W S (Waiting x))) < n) → BarriersHold W T
  barriers-wait T u x t same comes room y n is =
      let held : length (standing W S (Waiting y)) < n = sound.waiting y n is in
      elim (cases_eq y x) [
        | inl e ↦
            let more : length (standing W T (Waiting y)) ≤ suc (length (standing W S (Waiting y))) =
            queue-one_more (λ v. ticket_in (Waiting y) (T.place v)) (λ v. ticket_in (Waiting y) (S.place v)) u (length W.units) (λ v ne k h. (k, ap (ticket_in (Waiting y)) (sym (same v ne)) ∙ h)) in
            let free : suc (length (standing W S (Waiting y))) < n = subst (λ z. suc (length (standing W S (Waiting z))) < n) (sym e) (room n (ap (thing_at W) (sym e) ∙ is)) in
            omega arith
        | inr ne ↦
            let fewer : length (standing W T (Waiting y)) ≤ length (standing W S (Waiting y)) =
            queue-fewer (λ v. ticket_in (Waiting y) (T.place v)) (λ v. ticket_in (Waiting y) (S.place v)) (length W.units) (λ v l k h. elim (cases_eq v u) [
              | inl me ↦
                  let at : ticket_in (Waiting y) (place_in (Waiting x) t) ≡ Some k = ap (ticket_in (Waiting y)) (sym (ap T.place me ∙ comes)) ∙ h in
                  let one : (Waiting y ≡ Waiting x) × (k ≡ t) = line-unique (Waiting y) (Waiting x) (place_in (Waiting x) t) k t at (same-self x t) in
                  let k : y ≡ x = cc in absurd (ne k)
              | inr other ↦ (k, ap (ticket_in (Waiting y)) (sym (same v other)) ∙ h)
            ]) in
            omega arith
      ]
