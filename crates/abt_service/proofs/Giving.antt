-- Sets that give their value to all who wait at an object.
use Rattle.std.proofs.Common.{◌≡◌, ◌==◌, ℕ, zero, suc, List, [], ◌∷◌, map, slice_get, Some, refl, sym, ◌∙◌, ap, subst, inl, inr}
use Rattle.std.proofs.lemmas.Bool.{cond-true, eq-eqb}
use Rattle.abt_machine.specs.Stored.{Stored}
use Rattle.abt_machine.specs.declared.operations.Op.TheVariants as op
use Rattle.abt_machine.specs.declared.workload.Parts.{Parts}
use Rattle.abt_machine.specs.Carrying.{advanced}
use Rattle.abt_machine.specs.Changes.{Change, goes_on}
use Rattle.abt_machine.specs.Maps.{put_all, put_at}
use Rattle.abt_machine.specs.Numbers.{object_no}
use Rattle.abt_machine.specs.State.{Carried, Future, State}
use Rattle.abt_machine.specs.Steps.{filled_by, gives_all, receives}
use Rattle.abt_machine.specs.Workloads.{combine_of, size_of}
use Rattle.abt_laws.proofs.Lists.{EachOf, EachOf-all, EachOf-map}
use Rattle.abt_laws.proofs.Maps.{KeyOf, put_all-value, put_at-same}
use Rattle.abt_laws.proofs.Options.{none≢some, some-injective}
use Rattle.abt_service.specs.Laws.{FutureGivesAll, GivesAll, SetGivesAll, waiters}
use Rattle.abt_service.proofs.Going.{Goes, goes}

-- each of the units receives the value
receives-key : (S : State) (value v k : ℕ) (us : List ℕ) → slice_get us k ≡ Some v → KeyOf v (map (receives S value) us)
receives-key S value v k [] is = absurd (none≢some is)
receives-key S value v zero (u ∷ us) is = inl (sym (some-injective is))
receives-key S value v (suc k) (u ∷ us) is = inr (receives-key S value v k us is)

-- so it is in their accumulators
gives : (W : Parts) (S T : State) (s u x value : ℕ) → T.carried ≡ put_all S.carried (gives_all W S s u x value).carried → GivesAll W S T x value
gives W S T s u x value carried v k is =
    let us : List ℕ = waiters W S x in
    let each : EachOf (λ (m : ℕ × Carried). m.1.acc ≡ value) (map (receives S value) us) =
    EachOf-map (λ m. m.1.acc ≡ value) (λ _. Unit {0}) (receives S value) us (λ w _. refl) (EachOf-all (λ _. Unit {0}) us (λ w. tt)) in
    ap (λ f. (f v).acc) carried
    ∙ put_all-value (λ n (c : Carried). c.acc ≡ value) (put_at S.carried u (advanced (S.carried u))) (map (receives S value) us) v each (receives-key S value v k us is)

pub set-gives-all : (W : Parts) (Z : Stored) → SetGivesAll W Z
set-gives-all W Z valid stored S T e u x does =
    let is : Goes W Z S T e.stream.0 u (op.EvSet (object_no x)) = goes W Z valid S T e u (op.EvSet (object_no x)) does in (
      ap (λ (V : State). V.eventual x) is.becomes ∙ put_at-same S.eventual x (Some (S.carried u).acc),
      gives W S T e.stream.0 u x (S.carried u).acc (ap (λ (V : State). V.carried) is.becomes),
    )

pub future-gives-all : (W : Parts) (Z : Stored) → FutureGivesAll W Z
future-gives-all W Z valid stored S T e u x does last =
    let is : Goes W Z S T e.stream.0 u (op.FuSet (object_no x)) = goes W Z valid S T e u (op.FuSet (object_no x)) does in
    let f : Future = filled_by (combine_of W x) (S.future x) (S.carried u).acc in
    let full : Change = gives_all W S e.stream.0 u x f.value in
    let value : (T.future x).value ≡ f.value = ap (λ (V : State). (V.future x).value) is.becomes ∙ ap (λ (g : Future). g.value) (put_at-same S.future x f) in
    let carried : T.carried ≡ put_all S.carried full.carried =
    ap (λ (V : State). V.carried) is.becomes ∙ ap (λ (c : Change). put_all S.carried c.carried) (cond-true (f.filled == size_of W x) full (goes_on S u) (eq-eqb f.filled (size_of W x) last)) in
    subst (GivesAll W S T x) (sym value) (gives W S T e.stream.0 u x f.value carried)
