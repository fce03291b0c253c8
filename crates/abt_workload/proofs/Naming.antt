-- What an operation names is declared.
use Rattle.std.proofs.Common.{◌≡◌, ◌==◌, ◌<◌, ◌≤◌, ◌-◌, ◌^◌, ℕ, Bool, true, false, List, [], ◌∷◌, All, Some, ap, arith, length, nat_le, refl, slice_get}
use Rattle.std.specs.List.{list_all}
use Rattle.std.proofs.lemmas.List.{length-replicate}
use Rattle.std.specs.Bool.{⊤}
use Rattle.std.proofs.lemmas.Bool.{leb-true, ltb-true}
use Rattle.abt_machine.specs.declared.grammar.Format.{Format}
use Rattle.abt_machine.specs.declared.grammar.Number.{Number}
use Rattle.abt_machine.specs.declared.grammar.Number.TheVariants as number
use Rattle.abt_machine.specs.declared.operations.Op.{Op}
use Rattle.abt_machine.specs.declared.operations.Op.TheVariants as op
use Rattle.abt_machine.specs.declared.workload.Parts.{Parts}
use Rattle.abt_machine.specs.declared.workload.UnitPart.{UnitPart}
use Rattle.abt_machine.specs.Canonical.{op_numbers}
use Rattle.abt_machine.specs.Numbers.{truth}
use Rattle.abt_machine.specs.Declaring.{Above, at, op_later, op_with}
use Rattle.abt_machine.specs.Faults.{is_there, is_within, valued, values}
use Rattle.abt_machine.specs.Forms.{Slot, Numeral, fits, numerals, op_slots}
use Rattle.abt_machine.specs.Operations.{AreNamed, IsDeclared, IsNamed, said_by}
use Rattle.abt_machine.specs.Words.{Text}
use Rattle.abt_workload.proofs.Bounds.{barrier-there, condition-there, eventual-there, future-there, mutex-there, rwlock-there}
use Rattle.abt_workload.proofs.Places.{and-left, and-right, at-kind, kinds}
use Rattle.abt_workload.proofs.Proper.{counted, muted}

-- what these numbers name is declared; an operation's line has two numbers at most
abbrev NamesAll : Parts → List Number → List ℕ → Type 0
NamesAll W [] numbers = ⊤
NamesAll W (k ∷ []) numbers = IsNamed W k (at numbers 0)
NamesAll W (k ∷ l ∷ ks) numbers = IsNamed W k (at numbers 0) × IsNamed W l (at numbers 1)

module _ (a : Above) where
  named : (kind : Number) (n : ℕ) → is_there a kind n ≡ true → is_within a.format kind n ≡ true → IsNamed (counted a) kind n
  named (number.Within low high) n e w = (leb-true low n (and-left (nat_le low n) (nat_le n high) w), leb-true n high (and-right (nat_le low n) (nat_le n high) w))
  named number.StreamCount n e w = tt
  named number.UnitCount n e w = tt
  named number.Copies n e w = tt
  named number.Times n e w = tt
  named number.NewPool n e w = tt
  named number.NewSched n e w = tt
  named number.NewObject n e w = tt
  named number.NewUnit n e w = tt
  named number.Stream n e w = ltb-true n _ e
  named number.Pool n e w = ltb-true n _ e
  named number.Sched n e w = ltb-true n _ e
  named number.Key n e w = ltb-true n _ e
  named number.Unit n e w = let lt = ltb-true n _ e in rw length-replicate lt
  named number.Mutex n e w = mutex-there (slice_get a.objects n) e
  named number.Cond n e w = condition-there (slice_get a.objects n) e
  named number.Eventual n e w = eventual-there (slice_get a.objects n) e
  named number.Future n e w = future-there (slice_get a.objects n) e
  named number.Barrier n e w = barrier-there (slice_get a.objects n) e
  named number.RwLock n e w = rwlock-there (slice_get a.objects n) e

pub any-fits : (F : Format) (n : ℕ) → is_within F (number.Within 0 (2 ^ 64 - 1)) n ≡ true → n < 2 ^ 64
any-fits F n e = let le = leb-true n (2 ^ 64 - 1) (and-right (nat_le 0 n) (nat_le n (2 ^ 64 - 1)) e) in omega arith

-- the numbers of an operation's words
abbrev pub op_values : Op → List Text → List ℕ
op_values o words = values (valued (numerals (op_slots o) words))

-- the words of an operation, whose numbers are sound
pub record IsSoundOp (a : Above) (o : Op) (words : List Text) : Type 0 where
  pub op_fits : fits (op_slots o) words ≡ true
  pub there : list_all (λ p. is_there a p.0 p.1) (valued (numerals (op_slots o) words)) ≡ true
  pub within : list_all (λ p. is_within a.format p.0 p.1) (valued (numerals (op_slots o) words)) ≡ true

module _ {a : Above} {words : List Text} (o : Op) (s : IsSoundOp a o words) where
  op-named : (k : ℕ) (kind : Number) → slice_get (kinds (op_slots o)) k ≡ Some kind → IsNamed (counted a) kind (at (op_values o words) k)
  op-named k kind e = named a kind _ (at-kind (is_there a) (op_slots o) words k kind s.op_fits e s.there) (at-kind (is_within a.format) (op_slots o) words k kind s.op_fits e s.within)

  all-named : (ks : List Number) → kinds (op_slots o) ≡ ks → NamesAll (counted a) ks (op_values o words)
  all-named [] e = tt
  all-named (k ∷ []) e = op-named 0 k (ap (λ (ns : List Number). slice_get ns 0) e)
  all-named (k ∷ l ∷ ks) e = (op-named 0 k (ap (λ (ns : List Number). slice_get ns 0) e), op-named 1 l (ap (λ (ns : List Number). slice_get ns 1) e))

-- the number that says whether something holds is within its bounds
few-bits : (b : Bool) → (0 ≤ truth b) × (truth b ≤ 1)
few-bits true = (omega arith, omega arith)
few-bits false = (omega arith, omega arith)

module _ {a : Above} {words : List Text} (said : ℕ) where
  -- an operation, as its words declare it
  pub declared-op : (o : Op) → IsSoundOp a o words → IsDeclared (counted a) (muted (op_with o said (op_values o words)))
  declared-op (op.Migratable v b) s = (op-named (op.Migratable v b) s 0 number.Unit refl, few-bits (at (op_values (op.Migratable v b) words) 1 == 1))
  declared-op o s = all-named o s (kinds (op_slots o)) refl

-- words are named by no operation that says nothing
pub others-said : (W : Parts) (ws : List Text) (o : Op) → IsDeclared (record W { words = ws }) (muted o) → IsDeclared W (muted o)
others-said W ws (op.Say w) h = tt
others-said W ws _ h = h

-- an operation is declared where what it says is
pub unmuted : (W : Parts) (o : Op) → IsDeclared W (muted o) → All (λ w. w < length W.words) (said_by o) → IsDeclared W o
unmuted W (op.Say w) h all = all 0 w (omega arith)
unmuted W _ h all = h

-- an operation is a copy's where it is the unit's
pub muted-later : (n : ℕ) (o : Op) → muted (op_later n o) ≡ muted o
muted-later n (op.Say w) = refl
muted-later n _ = refl

module _ (W : Parts) (us vs : List UnitPart) (e : length us ≡ length vs) where
  -- what is named is so with as many other units
  others-named : (kind : Number) (n : ℕ) → IsNamed (record W { units = us }) kind n → IsNamed (record W { units = vs }) kind n
  others-named number.Unit n h = omega arith
  others-named _ n h = h

  all-others : (places : List Slot) (numbers : List ℕ) → AreNamed (record W { units = us }) places numbers → AreNamed (record W { units = vs }) places numbers
  all-others (Numeral kind ∷ []) (n ∷ []) h = others-named kind n h
  all-others (Numeral kind ∷ places) (n ∷ numbers) h = (others-named kind n h.0, all-others places numbers h.1)
  all-others (place ∷ places) numbers h = all-others places numbers h
  all-others [] numbers h = tt

-- what is declared is so with as many other units
pub others-declared : (W : Parts) (us vs : List UnitPart) → length us ≡ length vs → (o : Op) → IsDeclared (record W { units = us }) o → IsDeclared (record W { units = vs }) o
others-declared W us vs e (op.Say w) h = h
others-declared W us vs e o h = all-others W us vs e (op_slots o) (op_numbers o) h
