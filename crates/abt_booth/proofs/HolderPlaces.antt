-- A holder is of the booth whose place it knows.
use Rattle.std.proofs.Common.{◌≡◌, Option, Some, None, sym, ◌∙◌, ap, subst}
use Rattle.abt_booth.specs.declared.object.Object.{Ghosts}
use Rattle.abt_booth.specs.declared.booth.Booth.{Booth}
use Rattle.abt_booth.specs.declared.holder.Holder.{Holder}
use Rattle.abt_booth.specs.Holders.{HasTurn, IsBusy, IsHolderOf}
use Rattle.abt_booth.specs.Places.{holder_place, place_of}
use Rattle.abt_booth.specs.Seats.{opening_of}

module _ {O A R : Type 0} {g : Ghosts O A R} (booth : Booth O A R) (holder : Holder O A R g) where
  pub at-place : IsHolderOf booth holder → holder_place holder ≡ place_of booth
  unfolding IsHolderOf holder_place place_of
  at-place its = λ i. (its.0 i, its.1 i)

  pub of-place : holder_place holder ≡ place_of booth → IsHolderOf booth holder
  unfolding IsHolderOf holder_place place_of
  of-place same = (ap (λ p. p.0) same, ap (λ p. p.1) same)

  -- a holder that keeps the turn is of the booth
  pub of-turn : (does : O → A → R → O → Type 0) → HasTurn does booth holder → IsHolderOf booth holder
  unfolding HasTurn
  of-turn does turn = turn.0

  -- the turn that it keeps is of this booth
  pub same-turn : (does : O → A → R → O → Type 0) (other : Booth O A R) → IsHolderOf booth holder → HasTurn does other holder → HasTurn does booth holder
  unfolding IsHolderOf HasTurn
  same-turn does other its turn =
      let same : opening_of other ≡ opening_of booth = open-some (sym turn.0.1 ∙ its.1) in
      (its, subst (λ o. IsBusy does o holder.raw.me) same turn.1)
    where
      from : Option O → O
      from None = opening_of booth
      from (Some o) = o

      open-some : {a b : O} → ◌≡◌ {A = Option O} (Some a) (Some b) → a ≡ b
      open-some e = ap from e
