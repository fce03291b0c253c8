-- What a format allows of a workload.
use Rattle.std.proofs.Common.{◌≡◌, ◌≤◌, ◌&&◌, All, Bool, true, List, [], ◌∷◌, ◌∙◌, ap, length, nat_le, not, refl}
use Rattle.std.specs.List.{list_all}
use Rattle.std.proofs.lemmas.Bool.{leb-true}
use Rattle.std.proofs.lemmas.List.Elements.{All-cons}
use Rattle.abt_machine.specs.declared.grammar.Form.TheVariants as form
use Rattle.abt_machine.specs.declared.grammar.Format.{Format}
use Rattle.abt_machine.specs.declared.grammar.Format.TheVariants as format
use Rattle.abt_machine.specs.declared.operations.Op.{Op}
use Rattle.abt_machine.specs.declared.workload.Parts.{Parts}
use Rattle.abt_machine.specs.declared.workload.UnitPart.{UnitPart}
use Rattle.abt_machine.specs.Canonical.{has_parts, has_unit}
use Rattle.abt_machine.specs.Forms.{computes, is_in}
use Rattle.abt_machine.specs.Limits.{object_limit, operation_limit, pool_limit, sched_limit, stream_limit, unit_limit, unit_operation_limit}
use Rattle.abt_machine.specs.Valid.{IsValid}
use Rattle.abt_machine.specs.Workloads.{all_ops, ops_of}
use Rattle.abt_workload.proofs.Places.{and-left, and-right}
use Rattle.abt_workload.proofs.Proper.{none-of}

-- a format has lines of this operation
abbrev pub HasOp : Format → Op → Type 0
HasOp F o = is_in F (form.Operation o) ≡ true

-- a format allows this unit's operations
pub record AllowsUnit (F : Format) (part : UnitPart) : Type 0 where
  pub few_ops : length (ops_of part.body) ≤ unit_operation_limit F
  pub ops : All (HasOp F) (ops_of part.body)

-- a format allows as many parts of each kind as this workload has, and its operations
pub record Allows (F : Format) (W : Parts) : Type 0 where
  pub streams : W.streams ≤ stream_limit F
  pub pools : length W.pools ≤ pool_limit F
  pub scheds : length W.scheds ≤ sched_limit F
  pub objects : length W.objects ≤ object_limit F
  pub few_units : length W.units ≤ unit_limit F
  pub few_ops : length (all_ops W.units) ≤ operation_limit F
  pub units : All (AllowsUnit F) W.units

-- what a test finds of all elements holds of each
each-of : {A : Type 0} (p : A → Bool) (P : A → Type 0) → ((x : A) → p x ≡ true → P x) → (xs : List A) → list_all p xs ≡ true → All P xs
each-of p P h [] e = none-of P
each-of p P h (x ∷ xs) e = All-cons P x xs (h x (and-left (p x) _ e)) (each-of p P h xs (and-right (p x) _ e))

-- a format of which the test says so allows a unit's operations
unit-allowed : (F : Format) (part : UnitPart) → has_unit F part ≡ true → AllowsUnit F part
unit-allowed F part e =
    let few : Bool = nat_le (length (ops_of part.body)) (unit_operation_limit F) in
    record { few_ops = leb-true _ _ (and-left few _ e); ops = each-of (λ o. is_in F (form.Operation o)) (HasOp F) (λ o h. h) (ops_of part.body) (and-right few _ e) }

-- and a workload's parts
pub allowed : (F : Format) (W : Parts) → has_parts F W ≡ true → Allows F W
allowed F W e =
    let streams : Bool = nat_le W.streams (stream_limit F) in
    let pools : Bool = nat_le (length W.pools) (pool_limit F) in
    let scheds : Bool = nat_le (length W.scheds) (sched_limit F) in
    let objects : Bool = nat_le (length W.objects) (object_limit F) in
    let units : Bool = nat_le (length W.units) (unit_limit F) in
    let ops : Bool = nat_le (length (all_ops W.units)) (operation_limit F) in
    let to_pools : Bool = streams && pools in
    let to_scheds : Bool = to_pools && scheds in
    let to_objects : Bool = to_scheds && objects in
    let to_units : Bool = to_objects && units in
    let to_ops : Bool = to_units && ops in
    let e_ops : to_ops ≡ true = and-left to_ops _ e in
    let e_units : to_units ≡ true = and-left to_units _ e_ops in
    let e_objects : to_objects ≡ true = and-left to_objects _ e_units in
    let e_scheds : to_scheds ≡ true = and-left to_scheds _ e_objects in
    let e_pools : to_pools ≡ true = and-left to_pools _ e_scheds in
    record {
      streams = leb-true _ _ (and-left streams _ e_pools);
      pools = leb-true _ _ (and-right streams _ e_pools);
      scheds = leb-true _ _ (and-right to_pools _ e_scheds);
      objects = leb-true _ _ (and-right to_scheds _ e_objects);
      few_units = leb-true _ _ (and-right to_objects _ e_units);
      few_ops = leb-true _ _ (and-right to_units _ e_ops);
      units = each-of (has_unit F) (AllowsUnit F) (unit-allowed F) W.units (and-right to_ops _ e);
    }

-- format 3 allows the parts of each workload
pub all-allowed : (W : Parts) → IsValid W → Allows format.Three W
all-allowed W v = record {
  streams = v.few_streams;
  pools = v.few_pools;
  scheds = v.few_scheds;
  objects = v.few_objects;
  few_units = v.few_units;
  few_ops = v.few_ops;
  units = λ u d lt. record { few_ops = (v.units u d lt).few_ops; ops = λ k o within. refl };
}

-- a format has an operation if it has another that computes exactly if this does
pub op-in : (F : Format) (f o : Op) → computes f ≡ computes o → HasOp F o → HasOp F f
op-in format.One f o e h = ap not e ∙ h
op-in format.Two f o e h = ap not e ∙ h
op-in format.Three f o e h = refl
