-- Units that are put into a picture.
use Rattle.std.proofs.Common.{◌≡◌, ◌∙◌, ◌+◌, ◌<◌, ◌≤◌, Bor, IfSome, ℕ, zero, suc, List, [], ◌∷◌, ◌++◌, Option, None, Some, ap, arith, drop, false, get_or, length, length-set, option_copied, refl, set, slice_get, sym, true}
use Rattle.std.specs.Option.{MatchOption}
use Rattle.std.proofs.lemmas.List.{map-append}
use Rattle.std.proofs.lemmas.Option.{slice_get_past, slice_get_read}
use Rattle.abt_machine.specs.declared.events.Shown.{Shown}
use Rattle.abt_machine.specs.declared.events.Shown.TheVariants as shows
use Rattle.abt_machine.specs.declared.operations.Thing.{Thing}
use Rattle.abt_machine.specs.Monitors.{list_from}
use Rattle.abt_machine.specs.Numbers.{object_no}
use Rattle.abt_machine.specs.Queues.{first}
use Rattle.abt_machine.specs.Values.{Owned, conditions_from}
use Rattle.abt_machine.specs.Workloads.{is_condition_of}
use Rattle.abt_calls.specs.Showing as held
use Rattle.abt_calls.specs.Showing.{rows_as, rows_at}
use Rattle.abt_report.specs.declared.pictures.Row.{Row}
use Rattle.abt_model.specs.Pictures.{placed, row_shown, rows_below}

-- two lists are put in one after the other
pub placed-append : (xs ys : List held.Row) (rows : List Row) → placed (xs ++ ys) rows ≡ placed ys (placed xs rows)
placed-append [] ys rows = refl
placed-append (x ∷ xs) ys rows = placed-append xs ys (set rows x.1.number (row_shown x))

-- no row is added
pub length-placed : (xs : List held.Row) (rows : List Row) → length (placed xs rows) ≡ length rows
length-placed [] rows = refl
length-placed (x ∷ xs) rows = length-placed xs (set rows x.1.number (row_shown x)) ∙ length-set rows x.1.number (row_shown x)

-- what is put in after something else
pub then-placed : (xs ys : List held.Row) (old mid new : List Row) → mid ≡ placed xs old → new ≡ placed ys mid → new ≡ placed (xs ++ ys) old
then-placed xs ys old mid new first then = then ∙ (ap (placed ys) first ∙ sym (placed-append xs ys old))

-- the units of one number more
pub below-placed : (f : ℕ → List held.Row) (k : ℕ) (old mid new : List Row) → mid ≡ placed (rows_below f k) old → new ≡ placed (f k) mid → new ≡ placed (rows_below f (k + 1)) old
below-placed f k old mid new before here =
    let e : suc k ≡ k + 1 = omega arith in
    then-placed (rows_below f k) (f k) old mid new before here ∙ ap (λ n. placed (rows_below f n) old) e

-- units that are shown alike, after others
pub alike-placed : (x : Shown) (os qs : List Owned) (old mid new : List Row) → mid ≡ placed (rows_as x os) old → new ≡ placed (rows_as x qs) mid → new ≡ placed (rows_as x (os ++ qs)) old
alike-placed x os qs old mid new first then =
    then-placed (rows_as x os) (rows_as x qs) old mid new first then ∙ ap (λ rs. placed rs old) (sym (map-append (λ o. (x, o)) os qs))

-- what was found in a list by number
pub looked-up : {A : Type 0} (xs : List A) (i : ℕ) (o : Option (Bor A)) (Q : Bor A → Type 0) → MatchOption o (length xs ≤ i) (λ b. (i < length xs) × Q b) → IfSome o (λ b. b.now ≡ get_or xs i b.now)
    → option_copied o ≡ slice_get xs i
looked-up xs i None Q past found = sym (slice_get_past xs i past)
looked-up xs i (Some b) Q there found = sym (slice_get_read xs (length xs) i b.now refl there.0 found)

-- Conditions of a mutex.

-- an item that is left, and those behind it
drop-here : {A : Type 0} (xs : List A) (i : ℕ) (x : A) → slice_get xs i ≡ Some x → drop i xs ≡ x ∷ drop (i + 1) xs
drop-here [] i x is = cc
drop-here (y ∷ ys) zero x is = cc
drop-here (y ∷ ys) (suc i) x is = let e : suc i + 1 ≡ suc (i + 1) = omega arith in drop-here ys i x is ∙ ap (λ n. x ∷ drop n (y ∷ ys)) (sym e)

-- none waits where there are no conditions
pub rows-nowhere : (cs : List ℕ) → rows_at cs [] ≡ []
rows-nowhere [] = refl
rows-nowhere (c ∷ cs) = refl

-- those at the next condition, and those at the others
pub first-rows : (c : ℕ) (cs : List ℕ) (conds : List (List Owned)) → rows_at (c ∷ cs) conds ≡ rows_as (shows.Object (object_no c)) (list_from (first conds)) ++ rows_at cs (drop 1 conds)
first-rows c cs [] = sym (rows-nowhere cs)
first-rows c cs (os ∷ conds) = refl

module _ (m y : ℕ) (things : List Thing) (t : Thing) (here : slice_get things y ≡ Some t) where
  -- a thing that is no condition of the mutex
  pub passed : is_condition_of m t ≡ false → conditions_from m y (drop y things) ≡ conditions_from m (y + 1) (drop (y + 1) things)
  passed off = (let e : suc y ≡ y + 1 = omega arith in rw (drop-here things y t here, off) (ap (λ n. conditions_from m n (drop (y + 1) things)) e))

  -- a thing that is one
  pub met : is_condition_of m t ≡ true → conditions_from m y (drop y things) ≡ y ∷ conditions_from m (y + 1) (drop (y + 1) things)
  met on = (let e : suc y ≡ y + 1 = omega arith in rw (drop-here things y t here, on) (ap (λ n. y ∷ conditions_from m n (drop (y + 1) things)) e))
