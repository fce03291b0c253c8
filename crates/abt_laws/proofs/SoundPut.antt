-- A put keeps a sound state sound.
use Rattle.std.proofs.Common.{ℕ, suc, ◌<◌, [], ◌∷◌, length, refl, sym, subst, arith, inl}
use Rattle.abt_machine.specs.declared.events.Place.TheVariants as place
use Rattle.abt_machine.specs.declared.events.What.TheVariants as what
use Rattle.abt_machine.specs.Stored.{Stored}
use Rattle.abt_machine.specs.declared.workload.Parts.{Parts}
use Rattle.abt_machine.specs.Numbers.{pool_no, unit_no}
use Rattle.abt_machine.specs.State.{State}
use Rattle.abt_machine.specs.Lines.{InPool, InTray}
use Rattle.abt_machine.specs.Changes.{Change}
use Rattle.abt_machine.specs.Events.{May, change}
use Rattle.abt_machine.specs.Sound.{Sound}
use Rattle.abt_laws.proofs.SoundEvents.{keeps-event}
use Rattle.abt_laws.proofs.Maps.{put_at-same}
use Rattle.abt_laws.proofs.Places.{same-self}
use Rattle.abt_laws.proofs.Arrivals.{IsBelow, free-above}
use Rattle.abt_laws.proofs.Standing.{StandsIn, first-stands}
use Rattle.abt_laws.proofs.SoundChanges.{Keeps, placed-below}
use Rattle.abt_laws.proofs.SoundFrames.{frames-stay}
use Rattle.abt_laws.proofs.Wakes.{frameless-in, off-in}

-- the tickets in a pool are below its next
pool-below : (W : Parts) (Z : Stored) (S : State) (p : ℕ) → Sound W Z S → IsBelow (InPool p) (S.pool_next p) S.place
pool-below W Z S p sound = placed-below W Z S (InPool p) (S.pool_next p) sound (λ v t k. k.1)

pub keeps-put : (W : Parts) (Z : Stored) (S : State) (s u p : ℕ) → Sound W Z S → May W Z S s (what.Put (unit_no u) (pool_no p)) → Keeps W Z S (change W S s (what.Put (unit_no u) (pool_no p)))
keeps-put W Z S s u p sound may =
    let t : ℕ = S.pool_next p in
    let c : Change = change W S s (what.Put (unit_no u) (pool_no p)) in
    let is : StandsIn W S (InTray s) u = first-stands W S (InTray s) u may.1 in
    keeps-event W Z S sound ((u, place.Pool (pool_no p) t) ∷ []) [] [] ((p, suc t) ∷ []) []
    (free-above S.place u (place.Pool (pool_no p) t) (InPool p) t (same-self p t) (pool-below W Z S p sound), tt) (
      record {
        declared = is.declared;
        placed = (subst (λ n. n < length W.pools) may.2 (sound.homes u), subst (λ n. t < n) (sym (put_at-same S.pool_next p (suc t))) (omega arith));
        alone = tt;
        joined = inl refl;
      },
      tt,
    )
    (tt, tt) ((off-in W S (InTray s) u is.ticket tt is.at, tt), tt) tt tt (omega arith, tt)
    (frames-stay W Z S c sound (frameless-in S (InTray s) u is.ticket tt is.at, tt) tt)
