-- What a line without a fault says of its numbers and its place.
use Rattle.std.proofs.Common.{refl, sym, ◌≡◌, ◌∙◌, ◌<◌, ◌≤◌, ◌==◌, ◌&&◌, ℕ, true, false, List, Option, Some, arith, nat_le, nat_lt, slice_get, subst}
use Rattle.std.specs.Option.{option_map_or}
use Rattle.std.proofs.Math.Bool.{and-true}
use Rattle.std.proofs.lemmas.Bool.{eqb-false, leb-true, ltb-false}
use Rattle.abt_machine.specs.declared.grammar.Form.{Form}
use Rattle.abt_machine.specs.declared.grammar.Number.{Number}
use Rattle.abt_machine.specs.declared.grammar.Number.TheVariants as number
use Rattle.abt_machine.specs.declared.numbers.ObjectNo.{ObjectNo}
use Rattle.abt_machine.specs.declared.operations.Combine.{Combine}
use Rattle.abt_machine.specs.declared.operations.Thing.{Thing}
use Rattle.abt_machine.specs.declared.operations.Thing.TheVariants as thing
use Rattle.abt_machine.specs.Declaring.{Above, at}
use Rattle.abt_machine.specs.Faults.{is_barrier, is_condition, is_eventual, is_future, is_mutex, is_homeless, is_rwlock, is_single, is_there, is_within, values_of}
use Rattle.abt_machine.specs.Forms.{section, slots}
use Rattle.abt_machine.specs.Words.{Text}
use Rattle.abt_workload.proofs.Places.{and-left, and-right, at-kind, kinds, or-left, or-right}
use Rattle.abt_workload.proofs.Soundness.{IsSound}

-- a number that has bounds, and keeps them
pub between : (low high n : ℕ) → (nat_le low n && nat_le n high) ≡ true → (low ≤ n) × (n ≤ high)
between low high n e = (leb-true low n (and-left (nat_le low n) _ e), leb-true n high (and-right (nat_le low n) _ e))

module _ {a : Above} {line : Text} {words : List Text} (f : Form) (s : IsSound a line words f) where
  pub there-at : (k : ℕ) (kind : Number) → slice_get (kinds (slots f)) k ≡ Some kind → is_there a kind (at (values_of f words) k) ≡ true
  there-at k kind e = at-kind (is_there a) (slots f) words k kind s.form_fits e s.there

  -- a number keeps the bounds that it has
  pub kind-within : (k : ℕ) (kind : Number) → slice_get (kinds (slots f)) k ≡ Some kind → is_within a.format kind (at (values_of f words) k) ≡ true
  kind-within k kind e = at-kind (is_within a.format) (slots f) words k kind s.form_fits e s.within

  pub within-at : (k low high : ℕ) → slice_get (kinds (slots f)) k ≡ Some (number.Within low high) → is_within a.format (number.Within low high) (at (values_of f words) k) ≡ true
  within-at k low high e = kind-within k (number.Within low high) e

  -- a section is not gone back from
  pub after-section : a.section ≤ section f
  after-section = ltb-false (section f) a.section (or-left (nat_lt (section f) a.section) _ (or-left _ _ (or-left _ _ s.placed)))

  single-place : ((section f == a.section) && is_single (section f)) ≡ false
  single-place = or-right (nat_lt (section f) a.section) _ (or-left _ _ (or-left _ _ s.placed))

  -- a section with one line comes after all lines above
  pub after-single : is_single (section f) ≡ true → a.section < section f
  after-single e =
      let no_two : ((section f == a.section) && true) ≡ false = subst (λ b. ((section f == a.section) && b) ≡ false) e single-place in
      let other = eqb-false (section f) a.section (sym (and-true (section f == a.section)) ∙ no_two) in
      let le = after-section in
      omega (arith, other)

  -- an operation belongs to a unit
  pub at-home : is_homeless a f ≡ false
  at-home = or-right _ (is_homeless a f) (or-left _ _ s.placed)

-- Objects that are there.

pub mutex-there : (o : Option Thing) → option_map_or is_mutex o false ≡ true → o ≡ Some thing.Mutex
mutex-there (Some thing.Mutex) e = refl
mutex-there o e = cc

pub condition-there : (o : Option Thing) → option_map_or is_condition o false ≡ true → (m : ObjectNo) × (o ≡ Some (thing.Cond m))
condition-there (Some (thing.Cond m)) e = (m, refl)
condition-there o e = cc

pub eventual-there : (o : Option Thing) → option_map_or is_eventual o false ≡ true → o ≡ Some thing.Eventual
eventual-there (Some thing.Eventual) e = refl
eventual-there o e = cc

pub future-there : (o : Option Thing) → option_map_or is_future o false ≡ true → (n : ℕ) × (c : Combine) × (o ≡ Some (thing.Future n c))
future-there (Some (thing.Future n c)) e = (n, c, refl)
future-there o e = cc

pub barrier-there : (o : Option Thing) → option_map_or is_barrier o false ≡ true → (n : ℕ) × (o ≡ Some (thing.Barrier n))
barrier-there (Some (thing.Barrier n)) e = (n, refl)
barrier-there o e = cc

pub rwlock-there : (o : Option Thing) → option_map_or is_rwlock o false ≡ true → o ≡ Some thing.RwLock
rwlock-there (Some thing.RwLock) e = refl
rwlock-there o e = cc
