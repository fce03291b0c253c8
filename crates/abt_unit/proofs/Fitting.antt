-- What keeps a unit fit for its workload.
use Rattle.std.proofs.Common.{◌≡◌, ◌<◌, ◌+◌, ◌%◌, ◌^◌, ℕ, [], ◌∷◌, Option, Some, None, IfSome, length, refl, subst, slice_index, slice_set, arith}
use Rattle.std.proofs.lemmas.List.{length-replicate, length-set}
use Rattle.std.proofs.lemmas.List.Elements.{All-append, All-cons, All-nil}
use Rattle.std.proofs.lemmas.Option.{slice_get_within}
use Rattle.abt_machine.specs.declared.events.Code.{Code}
use Rattle.abt_machine.specs.declared.events.Piece.{Piece}
use Rattle.abt_machine.specs.declared.events.Piece.TheVariants as piece
use Rattle.abt_machine.specs.declared.operations.Op.{Op}
use Rattle.abt_machine.specs.declared.operations.Op.TheVariants as op
use Rattle.abt_machine.specs.declared.workload.Parts.{Parts}
use Rattle.abt_machine.specs.Acts.{carrying, moved, received, reborn}
use Rattle.abt_machine.specs.Carrying.{printed, with_home, word_from}
use Rattle.abt_machine.specs.Operations.{IsDeclared, nature_of}
use Rattle.abt_machine.specs.Valid.{IsValid}
use Rattle.abt_machine.specs.Values.{Owned}
use Rattle.abt_machine.specs.Workloads.{body_at, op_at, ops_of}
use Rattle.abt_machine.specs.Pieces.{IsPieceOf}
use Rattle.abt_machine.proofs.Declared.{op-declared}
use Rattle.abt_unit.specs.Fits.{Fits}
use Rattle.abt_unit.specs.Local.{local_step, local_step_at}

-- a unit that has an operation goes on
pub Fits-moved : {W : Parts} {o : Owned} → Fits W o → (a : Op) → op_at W o.number o.carried.position ≡ Some a → Fits W (moved o)
Fits-moved {W = W} {o = o} fits a e = record {
  number = fits.number;
  home = fits.home;
  keys = fits.keys;
  position = let within = slice_get_within (ops_of (body_at W o.number)) o.carried.position a e in omega arith;
  output = fits.output;
}

-- a unit puts out a piece
pub Fits-printed : {W : Parts} {o : Owned} → Fits W o → (x : Piece) → IsPieceOf W x → Fits W (carrying (printed x) o)
Fits-printed {W = W} {o = o} fits x is_piece = record {
  number = fits.number;
  home = fits.home;
  keys = fits.keys;
  position = fits.position;
  output = All-append (IsPieceOf W) o.carried.output (x ∷ []) fits.output (All-cons (IsPieceOf W) x [] is_piece (All-nil (IsPieceOf W)));
}

-- a unit notes why it was refused
pub Fits-noted : {W : Parts} {o : Owned} → Fits W o → (c : Code) → Fits W (carrying (printed (piece.Refused c)) o)
Fits-noted fits c = Fits-printed fits (piece.Refused c) tt

pub Fits-received : {W : Parts} {o : Owned} → Fits W o → (n : ℕ) → Fits W (received n o)
Fits-received fits n = record { number = fits.number; home = fits.home; keys = fits.keys; position = fits.position; output = fits.output }

-- a unit gets a declared home
pub Fits-with_home : {W : Parts} {o : Owned} → Fits W o → (p : ℕ) → p < length W.pools → Fits W (carrying (with_home p) o)
Fits-with_home fits p declared = record { number = fits.number; home = declared; keys = fits.keys; position = fits.position; output = fits.output }

-- a unit begins a life with a declared home
pub Fits-reborn : {W : Parts} {o : Owned} → Fits W o → (p : ℕ) → p < length W.pools → Fits W (reborn p o)
Fits-reborn {o = o} fits p declared = record {
  number = fits.number;
  home = declared;
  keys = rw length-replicate fits.keys;
  position = omega arith;
  output = fits.output;
}

-- a key changes
Fits-keys : {W : Parts} {o : Owned} → Fits W o → (k n : ℕ) → Fits W (carrying (λ c. record c { keys = slice_set c.keys k n }) o)
Fits-keys {o = o} fits k n = record {
  number = fits.number;
  home = fits.home;
  keys = rw length-set fits.keys;
  position = fits.position;
  output = fits.output;
}

-- an operation that is declared names a key that there is, if it names one
key-declared : (W : Parts) (a : Op) → IsDeclared W a → IfSome (nature_of a).key (λ k. k < W.keys)
key-declared W (op.KeySet k) declared = declared
key-declared W (op.KeyGet k) declared = declared
key-declared W (op.Calc c k) declared = declared
key-declared W _ declared = tt

-- the key that a unit's operation names, if it names one, is a key of the unit
pub key-op_at : (W : Parts) (o : Owned) (a : Op) → IsValid W → Fits W o → op_at W o.number o.carried.position ≡ Some a → IfSome (nature_of a).key (λ k. k < length o.carried.keys)
key-op_at W o a valid fits e =
    rw fits.keys (key-declared W a (op-declared W o.number o.carried.position a valid e))

becomes : (W : Parts) (o p : Owned) → Some o ≡ Some p → Fits W o → Fits W p
becomes W o p e fits = let P : Owned → Type 0 = λ x. Fits W x in let same : o ≡ p = cc in subst P same fits

-- a unit does a declared operation, a local one
Fits-local_step_at : (W : Parts) (o p : Owned) (a : Op) → Fits W (moved o) → IsDeclared W a → local_step_at (Some a) o ≡ Some p → Fits W p
Fits-local_step_at W o p (op.Set n) fits declared e = becomes W _ p e (Fits-received fits n)
Fits-local_step_at W o p (op.Add n) fits declared e = becomes W _ p e (Fits-received fits ((o.carried.acc + n) % 2 ^ 64))
Fits-local_step_at W o p (op.Say w) fits declared e = becomes W _ p e (Fits-printed fits (piece.Said w) declared)
Fits-local_step_at W o p op.Print fits declared e = becomes W _ p e (Fits-printed fits (piece.Number o.carried.acc) tt)
Fits-local_step_at W o p (op.KeySet k) fits declared e = becomes W _ p e (Fits-keys fits k o.carried.acc)
Fits-local_step_at W o p (op.KeyGet k) fits declared e = becomes W _ p e (Fits-received fits (slice_index o.carried.keys k))
Fits-local_step_at W o p (op.Calc c k) fits declared e = becomes W _ p e (Fits-received fits (word_from c o.carried.acc (slice_index o.carried.keys k)))
Fits-local_step_at W o p (op.Call f) fits declared e = becomes W _ p e fits
Fits-local_step_at W o p _ fits declared e = cc

Fits-local_step_by : (W : Parts) (o p : Owned) (a : Option Op) → IsValid W → Fits W o → op_at W o.number o.carried.position ≡ a → local_step_at a o ≡ Some p → Fits W p
Fits-local_step_by W o p None valid fits is e = cc
Fits-local_step_by W o p (Some a) valid fits is e =
    Fits-local_step_at W o p a (Fits-moved fits a is) (op-declared W o.number o.carried.position a valid is) e

-- a unit does the operation at its position, a local one
pub Fits-local_step : (W : Parts) (o p : Owned) → IsValid W → Fits W o → local_step W o ≡ Some p → Fits W p
Fits-local_step W o p valid fits e = Fits-local_step_by W o p (op_at W o.number o.carried.position) valid fits refl e
