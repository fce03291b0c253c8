-- Who keeps a unit: by the line that it stands in, and by a test of its place.
use Rattle.std.proofs.Common.{◌≡◌, ℕ, Bool, true, false, Option, Some, refl, sym, ◌∙◌, ap, subst, ◌⊎◌, inl, inr}
use Rattle.std.proofs.lemmas.Bool.{cases_eq, ne_eqb, false≢true}
use Rattle.abt_machine.specs.declared.events.Place.{Place}
use Rattle.abt_machine.specs.declared.events.Place.TheVariants as place
use Rattle.abt_machine.specs.declared.events.Spot.TheVariants as spot
use Rattle.abt_machine.specs.Codes.{is_unborn, is_ended, is_alive, is_suspended, is_in_pool}
use Rattle.abt_machine.specs.declared.events.Site.{Site}
use Rattle.abt_machine.specs.declared.events.Site.TheVariants as site
use Rattle.abt_machine.specs.declared.workload.Parts.{Parts}
use Rattle.abt_machine.specs.Numbers.{pool_no, unit_no}
use Rattle.abt_machine.specs.Sites.{object_site}
use Rattle.abt_machine.specs.Queues.{first, first_alone}
use Rattle.abt_machine.specs.State.{State}
use Rattle.abt_machine.specs.Lines.{Line, InPool, InTray, InHand, InNext, InFrames, Joining, Waiting, ticket_in, standing, hand, next}
use Rattle.abt_machine.specs.Fronts.{front}
use Rattle.abt_laws.specs.Footprint.{Holder, OfStream, OfSite, holder, Within}
use Rattle.abt_laws.proofs.Standing.{StandsIn, each-stands, first-stands, front-stands}
use Rattle.abt_laws.proofs.Places.{place_in, ticket-place}
use Rattle.abt_laws.proofs.Lists.{EachOf, EachOf-then, EachOf-first_alone}

-- who keeps the units of a line
abbrev pub line_holder : Parts → Line → Holder
line_holder W (InPool p) = OfSite (site.Pool (pool_no p))
line_holder W (InTray s) = OfStream s
line_holder W (InHand s) = OfStream s
line_holder W (InNext s) = OfStream s
line_holder W (InFrames s) = OfStream s
line_holder W (Joining v) = OfSite (site.Desk (unit_no v))
line_holder W (Waiting x) = OfSite (object_site W x)

-- who keeps a unit at a place in a line
place_in-holder : (W : Parts) (u : ℕ) (l : Line) (t : ℕ) → holder W u (place_in l t) ≡ line_holder W l
place_in-holder W u (InPool p) t = refl
place_in-holder W u _ t = refl

-- unit u is kept by stream s or site x
abbrev pub IsKept : Parts → State → ℕ → Option Site → ℕ → Type 0
IsKept W S s x u = Within s x (holder W u (S.place u))

-- What stands in a line that stream s or site x keeps, is kept there.

module _ (W : Parts) (S : State) (s : ℕ) (x : Option Site) where
  place-kept : (l : Line) (u t : ℕ) → Within s x (line_holder W l) → S.place u ≡ place_in l t → IsKept W S s x u
  place-kept l u t w at = subst (Within s x) (sym (ap (holder W u) at ∙ place_in-holder W u l t)) w

  pub ticket-kept : (l : Line) (u t : ℕ) → Within s x (line_holder W l) → ticket_in l (S.place u) ≡ Some t → IsKept W S s x u
  ticket-kept l u t w h = place-kept l u t w (ticket-place l (S.place u) t h)

  stands-kept : (l : Line) → Within s x (line_holder W l) → (u : ℕ) → StandsIn W S l u → IsKept W S s x u
  stands-kept l w u stands = place-kept l u stands.ticket w stands.at

  pub standing-kept : (l : Line) → Within s x (line_holder W l) → EachOf (IsKept W S s x) (standing W S l)
  standing-kept l w = EachOf-then (StandsIn W S l) (IsKept W S s x) (standing W S l) (stands-kept l w) (each-stands W S l)

  pub first-kept : (l : Line) (u : ℕ) → Within s x (line_holder W l) → first (standing W S l) ≡ Some u → IsKept W S s x u
  first-kept l u w e = stands-kept l w u (first-stands W S l u e)

  pub hand-kept : (u : ℕ) → hand W S s ≡ Some u → IsKept W S s x u
  hand-kept u e = first-kept (InHand s) u refl e

  pub next-kept : (u : ℕ) → next W S s ≡ Some u → IsKept W S s x u
  next-kept u e = first-kept (InNext s) u refl e

  pub front-kept : (p u : ℕ) → x ≡ Some (site.Pool (pool_no p)) → front W S s p ≡ Some u → IsKept W S s x u
  front-kept p u w e = stands-kept (InPool p) w u (front-stands W S s p u e)

  -- the first of those that stand in a line, alone
  pub one-kept : (l : Line) → Within s x (line_holder W l) → EachOf (IsKept W S s x) (first_alone (standing W S l))
  one-kept l w = EachOf-first_alone (IsKept W S s x) (standing W S l) (standing-kept l w)

-- Each test of a unit's place looks only at units that the site keeps, and is the same at all other places.

module _ (W : Parts) (s : ℕ) (x : Option Site) where
  pub unborn-seen : (v : ℕ) (pl : Place) → x ≡ Some (site.Desk (unit_no v)) → Within s x (holder W v pl) ⊎ (is_unborn pl ≡ false)
  unborn-seen v place.Unborn e = inl e
  unborn-seen v _ e = inr refl

  pub ended-seen : (v : ℕ) (pl : Place) → x ≡ Some (site.Desk (unit_no v)) → Within s x (holder W v pl) ⊎ (is_ended pl ≡ false)
  ended-seen v (place.Ended c) e = inl e
  ended-seen v _ e = inr refl

  pub alive-seen : (v : ℕ) (pl : Place) → x ≡ Some (site.Desk (unit_no v)) → Within s x (holder W v pl) ⊎ (is_alive pl ≡ true)
  alive-seen v place.Unborn e = inl e
  alive-seen v (place.Ended c) e = inl e
  alive-seen v _ e = inr refl

  pub suspended-seen : (v : ℕ) (pl : Place) → x ≡ Some (site.Desk (unit_no v)) → Within s x (holder W v pl) ⊎ (is_suspended pl ≡ false)
  suspended-seen v (place.Blocked spot.Suspended t) e = inl e
  suspended-seen v _ e = inr refl

  pub in_pool-seen : (v p : ℕ) (pl : Place) → x ≡ Some (site.Pool (pool_no p)) → Within s x (holder W v pl) ⊎ (is_in_pool p pl ≡ false)
  in_pool-seen v p (place.Pool q t) e = elim (cases_eq q.0 p) [ inl same ↦ inl (e ∙ ap (λ n. Some (site.Pool (pool_no n))) (sym same)) | inr other ↦ inr (ne_eqb q.0 p other) ]
  in_pool-seen v p _ e = inr refl

-- a test of a unit's place holds only if the unit is kept here
pub kept-where_true : {A : Type 0} {test : Bool} → A ⊎ (test ≡ false) → test ≡ true → A
kept-where_true (inl kept) h = kept
kept-where_true (inr f) h = absurd (false≢true (sym f ∙ h))
