-- The numbers of a tally add up to its units.
use Rattle.std.proofs.Common.{◌≡◌, ◌+◌, List, [], ◌∷◌, arith, length}
use Rattle.std.specs.Prelude.{fold}
use Rattle.abt_machine.specs.declared.events.Cause.TheVariants as cause
use Rattle.abt_machine.specs.declared.events.Shown.{Shown}
use Rattle.abt_machine.specs.declared.events.Shown.TheVariants as shows
use Rattle.abt_machine.specs.Texts.{ShownUnit, Tally, counted, empty_tally, tally_of}
use Rattle.abt_bounds.specs.Laws.{TalliesAddUp, total}

-- a unit is counted once
one-more : (t : Tally) (s : Shown) → total (counted t s) ≡ total t + 1
one-more t shows.Unborn = omega arith
one-more t (shows.Pool p) = omega arith
one-more t (shows.Stream s) = omega arith
one-more t shows.Suspended = omega arith
one-more t (shows.Join v) = omega arith
one-more t (shows.Object x) = omega arith
one-more t (shows.Ended cause.Done) = omega arith
one-more t (shows.Ended cause.Asked) = omega arith
one-more t (shows.Ended cause.Access) = omega arith
one-more t (shows.Ended cause.Own) = omega arith

counted-all : (units : List ShownUnit) (t : Tally) → total (fold (λ s (unit : ShownUnit). counted s unit.shown) t units) ≡ total t + length units
counted-all [] t = omega arith
counted-all (unit ∷ units) t = let rest = counted-all units (counted t unit.shown) in let one = one-more t unit.shown in omega arith

pub tallies-add-up : TalliesAddUp
tallies-add-up units = let all : total (tally_of units) ≡ 0 + length units = counted-all units empty_tally in omega arith
