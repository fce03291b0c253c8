-- What the rows of operations on objects share: a unit waits at an object, or gives all that wait there a value. Unit u, in the hand of stream s, makes the step.
use Rattle.std.proofs.Common.{is_none, is_some, ◌≡◌, ◌≢◌, ℕ, suc, Bool, true, false, List, [], ◌∷◌, ◌++◌, map, Option, Some, None, refl, sym, ◌∙◌, ap, ap₂, inl, inr}
use Rattle.std.proofs.lemmas.Bool.{cond-true, cond-false, eq-eqb, ne_eqb}
use Rattle.abt_machine.specs.declared.events.Code.{Code}
use Rattle.abt_machine.specs.declared.events.Code.TheVariants as code
use Rattle.abt_machine.specs.declared.events.Site.{Site}
use Rattle.abt_machine.specs.declared.operations.Op.{Op}
use Rattle.abt_machine.specs.Stored.{Stored}
use Rattle.abt_machine.specs.declared.workload.Parts.{Parts}
use Rattle.abt_machine.specs.State.{State, Carried}
use Rattle.abt_machine.specs.Carrying.{advanced, with_acc}
use Rattle.abt_machine.specs.Lines.{Waiting, standing}
use Rattle.abt_machine.specs.Fronts.{is_some_of}
use Rattle.abt_machine.specs.Codes.{unless, code_of}
use Rattle.abt_machine.specs.Changes.{Change, no_change, changed, to_tray, goes_with}
use Rattle.abt_machine.specs.Steps.{op_row, step_row, waits, receives}
use Rattle.abt_machine.specs.Values.{Owned, owned_at, part_of, Object, waiters_at}
use Rattle.abt_machine.specs.Acts.{Act, Answer, moved, received}
use Rattle.abt_machine.specs.Plans.{Effect, keeps, empties}
use Rattle.abt_machine.specs.Turns.{stepped}
use Rattle.abt_laws.proofs.Lists.{EachOf, EachOf-map, Among}
use Rattle.abt_laws.proofs.Maps.{KeyOf, put_at-same, put_all-other, put_all-value}
use Rattle.abt_laws.proofs.Places.{place_in, same-self}
use Rattle.abt_laws.proofs.SoundSteps.{waiting-below}
use Rattle.abt_laws.proofs.Pushes.{EachOf-among, each-among}
use Rattle.abt_simulation.proofs.Acting.{IsActing}
use Rattle.abt_simulation.proofs.OwnParts.{IsAway, IsLoose, off-object, away-line, away-other, away-loose, standing-distinct, moving, part-keeps}
use Rattle.abt_simulation.proofs.Shapes.{owned, goes-part, blocks-part, line-same, line-joined, line-woken}
use Rattle.abt_simulation.proofs.Rows.{ValueDone, IsAt, value-same}

-- Codes.

pub unless-true : (test : Bool) (c rest : Code) → test ≡ true → unless test c rest ≡ rest
unless-true test c rest e = cond-true test rest c e

pub unless-false : (test : Bool) (c rest : Code) → test ≡ false → unless test c rest ≡ c
unless-false test c rest e = cond-false test rest c e

pub is-some_of : (u : ℕ) (o : Option ℕ) → o ≡ Some u → is_some_of u o ≡ true
is-some_of u o e = ap (is_some_of u) e ∙ eq-eqb u u refl

pub not-some_of : (u : ℕ) (o : Option ℕ) → o ≢ Some u → is_some_of u o ≡ false
not-some_of u None ne = refl
not-some_of u (Some v) ne = ne_eqb v u (λ e. ne (ap (λ n. Some n) e))

-- a test that there is none
pub none-test : (o : Option ℕ) → is_some o ≡ false → is_none o ≡ true
none-test None e = refl
none-test (Some n) e = absurd cc

pub some-test : (o : Option ℕ) → is_some o ≡ true → is_none o ≡ false
some-test None e = absurd cc
some-test (Some n) e = refl

-- Values that are given.

-- who gets a value has it
owned-received : (S T : State) (value : ℕ) (us : List ℕ) → EachOf (λ v. T.carried v ≡ with_acc value (S.carried v)) us → map (owned_at T) us ≡ map (received value) (map (owned_at S) us)
owned-received S T value [] a = refl
owned-received S T value (u ∷ us) a = ap₂ (λ (c : Carried) (os : List Owned). record { number = u; carried = c } ∷ os) a.0 (owned-received S T value us a.1)

key-receives : (S : State) (value : ℕ) (us : List ℕ) (v : ℕ) → KeyOf v (map (receives S value) us) → Among v us
key-receives S value [] v k = k
key-receives S value (u ∷ us) v k = elim k [ inl e ↦ inl e | inr b ↦ inr (key-receives S value us v b) ]

receives-key : (S : State) (value : ℕ) (us : List ℕ) (v : ℕ) → Among v us → KeyOf v (map (receives S value) us)
receives-key S value [] v m = m
receives-key S value (u ∷ us) v m = elim m [ inl e ↦ inl e | inr b ↦ inr (receives-key S value us v b) ]

module _ (W : Parts) (Z : Stored) (S : State) (s u : ℕ) (acts : IsActing W Z S s u) where
  -- a step that goes through, by its row
  pub goes-through : {V : Type 0} (a : Op) (value : State → V) (e : Effect) (new : V) (d : Change) → e.code ≡ code.Ok → code_of W S s u a ≡ code.Ok → op_row W S s u a ≡ d →
      part_of W (changed S d) s ≡ stepped (part_of W S s) e → value (changed S d) ≡ new → ValueDone W S s u a value e new
  goes-through a value e new d ok is row own same = record {
    code = ok ∙ sym is;
    own = ap (λ c. part_of W (changed S (step_row W S s u (Some a) c)) s) ok ∙ (ap (λ c. part_of W (changed S c) s) row ∙ own);
    called = ap (λ c. value (changed S (step_row W S s u (Some a) c))) ok ∙ (ap (λ c. value (changed S c)) row ∙ same);
  }

  -- u goes on with this to carry, and wakes nobody
  pub carries-on : {V : Type 0} (a : Op) (value : State → V) (b : Owned) (new : V) (k : Carried) (c : Change) → b ≡ owned u k → code_of W S s u a ≡ code.Ok → op_row W S s u a ≡ moving [] ((u, k) ∷ []) c →
      value (changed S (moving [] ((u, k) ∷ []) c)) ≡ new → ValueDone W S s u a value (keeps b []) new
  carries-on a value b new k c is ok row same =
      goes-through a value (keeps b []) new (moving [] ((u, k) ∷ []) c) refl ok row (goes-part W Z S s u acts k c ∙ ap (λ o. stepped (part_of W S s) (keeps o [])) (sym is)) same

  -- it gets number n, and nothing else changes
  pub gets-number : {V : Type 0} (a : Op) (x : Site) (Is : V → Object) (value : State → V) (Gives : V → Act → Answer → V → Type 0) (b : Owned) (new : V) (n : ℕ) → IsAt W x Is value Gives → b ≡ received n (moved (owned_at S u)) →
      code_of W S s u a ≡ code.Ok → op_row W S s u a ≡ goes_with u (with_acc n (S.carried u)) → new ≡ value S → ValueDone W S s u a value (keeps b []) new
  gets-number a x Is value Gives b new n at is ok row same =
      let k : Carried = advanced (with_acc n (S.carried u)) in
      carries-on a value b new k no_change is ok row (value-same W Z S s u acts x Is value Gives k at ∙ sym same)

  -- the waiters at object x stay then
  pub waiters-stay : (x : ℕ) (k : Carried) (c : Change) → waiters_at W (changed S (moving [] ((u, k) ∷ []) c)) x ≡ waiters_at W S x
  waiters-stay x k c = line-same W Z S s u acts (Waiting x) tt [] k c tt tt

  -- u waits at object x

  pub waits-part : (x : ℕ) → part_of W (changed S (waits S u x)) s ≡ stepped (part_of W S s) (empties [])
  waits-part x =
      blocks-part W Z S s u acts (place_in (Waiting x) (S.object_next x)) [] (advanced (S.carried u)) (record no_change { object_next = (x, suc (S.object_next x)) ∷ [] })
      (off-object s (Waiting x) (S.object_next x) tt) tt tt

  pub waits-line : (x : ℕ) → waiters_at W (changed S (waits S u x)) x ≡ waiters_at W S x ++ moved (owned_at S u) ∷ []
  waits-line x =
      line-joined W Z S s u acts (Waiting x) tt (S.object_next x) [] (advanced (S.carried u)) (record no_change { object_next = (x, suc (S.object_next x)) ∷ [] })
      (same-self x) (waiting-below W Z S x acts.sound) tt

  -- u goes on, and gives all that wait at object x a value

  -- what is changed then
  abbrev pub giving : ℕ → ℕ → Change → Change
  giving x value c = moving (to_tray W S s (standing W S (Waiting x))) ((u, advanced (S.carried u)) ∷ map (receives S value) (standing W S (Waiting x))) c

  module _ (x value : ℕ) (c : Change) where
    away : EachOf (IsAway W S s) (standing W S (Waiting x))
    away = away-line W S s (Waiting x) tt

    giver-out : KeyOf u (map (receives S value) (standing W S (Waiting x))) → ⊥
    giver-out k =
        let a : IsAway W S s u = EachOf-among (IsAway W S s) (standing W S (Waiting x)) u away (key-receives S value (standing W S (Waiting x)) u k) in
        away-other W Z S s u acts u a.off refl

    giver-carries : (changed S (giving x value c)).carried u ≡ advanced (S.carried u)
    giver-carries = put_all-other _ (map (receives S value) (standing W S (Waiting x))) u giver-out ∙ put_at-same S.carried u (advanced (S.carried u))

    all-carry : EachOf (λ v. (changed S (giving x value c)).carried v ≡ with_acc value (S.carried v)) (standing W S (Waiting x))
    all-carry = each-among (λ v. (changed S (giving x value c)).carried v ≡ with_acc value (S.carried v)) (standing W S (Waiting x)) (λ v m.
        put_all-value (λ n k. k ≡ with_acc value (S.carried n)) _ (map (receives S value) (standing W S (Waiting x))) v
        (EachOf-map (λ (p : ℕ × Carried). p.1 ≡ with_acc value (S.carried p.0)) (IsAway W S s) (receives S value) (standing W S (Waiting x)) (λ n a. refl) away)
        (receives-key S value (standing W S (Waiting x)) v m))

    pub giving-part : part_of W (changed S (giving x value c)) s ≡ stepped (part_of W S s) (keeps (moved (owned_at S u)) (map (received value) (waiters_at W S x)))
    giving-part =
        part-keeps W Z S s u acts [] (standing W S (Waiting x)) ((u, advanced (S.carried u)) ∷ map (receives S value) (standing W S (Waiting x))) c tt (standing-distinct W S (Waiting x)) away
        (inl refl, EachOf-map (λ (m : ℕ × Carried). IsLoose W Z S s u acts m.0) (IsLoose W Z S s u acts) (receives S value) (standing W S (Waiting x)) (λ n l. l) (away-loose W Z S s u acts (standing W S (Waiting x)) away))
        ∙ (λ i. stepped (part_of W S s) (keeps (record { number = u; carried = giver-carries i }) (owned-received S (changed S (giving x value c)) value (standing W S (Waiting x)) all-carry i)))

    pub giving-line : waiters_at W (changed S (giving x value c)) x ≡ []
    giving-line = line-woken W Z S s u acts (Waiting x) tt ((u, advanced (S.carried u)) ∷ map (receives S value) (standing W S (Waiting x))) c
