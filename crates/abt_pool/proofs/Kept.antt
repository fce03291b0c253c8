-- What pools keep of their units.
use Rattle.std.proofs.Common.{ℕ, List, [], ◌∷◌, ◌++◌, Some, refl, sym, subst, All}
use Rattle.std.proofs.lemmas.List.Elements.{All-append, All-head, All-pop, All-tail}
use Rattle.abt_machine.specs.declared.events.Code.TheVariants as code
use Rattle.abt_machine.specs.declared.operations.Side.{Side}
use Rattle.abt_machine.specs.declared.operations.Side.TheVariants as side
use Rattle.abt_machine.specs.Acts.{Put, Take, Remove, Given, Rested, Miss, Coded}
use Rattle.abt_machine.specs.Pools.{PoolGives, with_end, without}
use Rattle.abt_machine.specs.Values.{Owned, PoolValue}
use Rattle.abt_chain.specs.Keeping.{Have, IsPoolOf, Keeps}
use Rattle.abt_chain.proofs.Kept.{All-find, All-without, Have-nothing, Have-unit, Have-units}
use Rattle.abt_unit.specs.Fits.{Fits}
use Rattle.abt_pool.specs.Keeps.{PoolsKeepWhatFits, contents_of_pool}

-- what a pool holds has the facts
abbrev HaveIn : (Owned → Type 0) → (ℕ → Type 0) → PoolValue → Type 0
HaveIn F D pool = Have F D (contents_of_pool pool)

-- the unit at an end and the others have what all units have
end : (F : Owned → Type 0) (d : Side) (o : Owned) (os : List Owned) → All F (with_end d o os) → F o × All F os
end F side.Front o os all = (All-head F o os all, All-tail F o os all)
end F side.Back o os all = let both = All-pop F (os ++ o ∷ []) os (Some o) refl all in (both.1, both.0)

-- pools keep any fact of units
pub pools-keep : (F : Owned → Type 0) (D : ℕ → Type 0) → Keeps F D contents_of_pool PoolGives
pools-keep F D old (Put o) Rested new gives held asked =
    (Have-nothing F D, subst (HaveIn F D) (sym gives) (Have-units F D (old.units ++ o ∷ []) (All-append F old.units (o ∷ []) held.0 asked.0)))
pools-keep F D old (Take d) (Given o) new gives held asked =
    let both = end F d o new.units (subst (All F) gives.1 held.0) in (Have-unit F D o both.0, Have-units F D new.units both.1)
pools-keep F D old (Take d) Miss new gives held asked = (Have-nothing F D, subst (HaveIn F D) (sym gives.2) held)
pools-keep F D old (Remove u) (Given o) new gives held asked =
    (Have-unit F D o (All-find F u old.units o held.0 gives.0), subst (HaveIn F D) (sym gives.1) (Have-units F D (without u old.units) (All-without F u old.units held.0)))
pools-keep F D old (Remove u) (Coded code.Absent) new gives held asked = (Have-nothing F D, subst (HaveIn F D) (sym gives.1) held)
pools-keep F D old act answer new gives held asked = absurd gives

pub pools-keep-what-fits : PoolsKeepWhatFits
pools-keep-what-fits W = pools-keep (Fits W) (IsPoolOf W)
