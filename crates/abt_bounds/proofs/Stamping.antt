-- Stamps of a stamped journal.
use Rattle.std.proofs.Common.{◌≡◌, ℕ, zero, suc, ◌≤◌, ◌<◌, ◌+◌, List, [], ◌∷◌, length, Some, slice_get, slice_index_or, refl, ap, ◌∙◌, arith}
use Rattle.abt_machine.specs.declared.events.Event.{Event}
use Rattle.abt_machine.specs.declared.workload.Parts.{Parts}
use Rattle.abt_machine.specs.Stamps.{StampedFrom}
use Rattle.abt_laws.proofs.Options.{none≢some, some-injective}
use Rattle.abt_bounds.specs.Laws.{StampsFitPlaces, StampsFitLength}

-- after e stamps rise by one from event to event at most
rise : (W : Parts) (e : Event) (es : List Event) (i : ℕ) (f : Event) → StampedFrom W e es → slice_get (e ∷ es) i ≡ Some f → f.stamp ≤ e.stamp + i
rise W e es zero f stamped is = let same : e.stamp ≡ f.stamp = ap (λ (e : Event). e.stamp) (some-injective is) in omega arith
rise W e [] (suc i) f stamped is = absurd (none≢some is)
rise W e (g ∷ es) (suc i) f stamped is =
    let rest : f.stamp ≤ g.stamp + i = rise W g es i f stamped.2 is in
    let step : g.stamp ≤ e.stamp + 1 = stamped.0.1 in omega arith

pub stamps-fit-places : (W : Parts) → StampsFitPlaces W
stamps-fit-places W [] i e stamped is = absurd (none≢some is)
stamps-fit-places W (f ∷ J) i e stamped is =
    let one : f.stamp ≡ 1 = stamped.0 in
    let rest : e.stamp ≤ f.stamp + i = rise W f J i e stamped.1 is in omega arith

-- an item that a list has at a place
got : {A : Type 0} (xs : List A) (k : ℕ) (x : A) → k < length xs → slice_get xs k ≡ Some (slice_index_or xs k x)
got [] k x l = absurd (omega arith)
got (y ∷ ys) zero x l = refl
got (y ∷ ys) (suc k) x l = got ys k x (omega arith)

pub stamps-fit-length : (W : Parts) → StampsFitLength W
stamps-fit-length W J e stamped has =
    let l : has.0 < length J = has.1 in
    let few : e.stamp ≤ suc has.0 = stamps-fit-places W J has.0 e stamped (got J has.0 e l ∙ ap (λ (e : Event). Some e) has.2) in omega arith
