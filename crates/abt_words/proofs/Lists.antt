-- The values of each argument in the rows of a walk.
use Rattle.std.proofs.Common.{◌≡◌, ◌∙◌, Bool, cond, true, false, refl, sym, ap, List, [], ◌∷◌, ◌++◌, Some, None}
use Rattle.std.specs.Prelude.{unwrap_or}
use Rattle.std.specs.Str.{bytes_eq}
use Rattle.clap.specs.Walk.{Row, all_of, stronger, with_values}
use Rattle.clap.specs.declared.builder.value_parser.Reading.{Reading}
use Rattle.clap.specs.declared.parser.matches.ValueSource.{ValueSource}
use Rattle.abt_machine.specs.Words.{Text}
use Rattle.abt_words.proofs.Names.{no-name, not-same, same-name}

-- the values of an argument
abbrev pub values_in : Text → List Row → List Text
values_in id rows = unwrap_or (all_of id rows) []

values-first : (id : Text) (r : Row) (rows : List Row) → values_in id (r ∷ rows) ≡ cond (bytes_eq r.id id) r.values (values_in id rows)
values-first id r rows = by (bytes_eq r.id id) refl
  where
    by : (b : Bool) → bytes_eq r.id id ≡ b → values_in id (r ∷ rows) ≡ cond b r.values (values_in id rows)
    by true e = rw e refl
    by false e = rw e refl

module _ (id name : Text) (how : Reading) (source : ValueSource) (values : List Text) where
  abbrev added : List Text → List Text
  added old = cond (bytes_eq name id) (old ++ values) old

  added-here : (r : Row) (rows : List Row) → r.id ≡ name → cond (bytes_eq r.id id) (r.values ++ values) (values_in id rows) ≡ added (values_in id (r ∷ rows))
  added-here r rows same = by (bytes_eq name id) refl
    where
      by : (b : Bool) → bytes_eq name id ≡ b → cond (bytes_eq r.id id) (r.values ++ values) (values_in id rows) ≡ cond b (values_in id (r ∷ rows) ++ values) (values_in id (r ∷ rows))
      by true e = let own : bytes_eq r.id id ≡ true = ap (λ (n : Text). bytes_eq n id) same ∙ e in
          ap (λ (b : Bool). cond b (r.values ++ values) (values_in id rows)) own
          ∙ ap (λ (l : List Text). l ++ values) (sym (values-first id r rows ∙ ap (λ (b : Bool). cond b r.values (values_in id rows)) own))
      by false e = let other : bytes_eq r.id id ≡ false = ap (λ (n : Text). bytes_eq n id) same ∙ e in
          ap (λ (b : Bool). cond b (r.values ++ values) (values_in id rows)) other
          ∙ sym (values-first id r rows ∙ ap (λ (b : Bool). cond b r.values (values_in id rows)) other)

  added-later : (r : Row) (rows : List Row) → bytes_eq r.id name ≡ false → cond (bytes_eq r.id id) r.values (added (values_in id rows)) ≡ added (values_in id (r ∷ rows))
  added-later r rows differs = by (bytes_eq r.id id) refl
    where
      by : (b : Bool) → bytes_eq r.id id ≡ b → cond b r.values (added (values_in id rows)) ≡ added (values_in id (r ∷ rows))
      by true e = let apart : bytes_eq name id ≡ false = no-name name id (λ same. not-same r.id name differs (same-name r.id id e ∙ sym same)) in
          sym (ap (λ (b : Bool). cond b (values_in id (r ∷ rows) ++ values) (values_in id (r ∷ rows))) apart ∙ values-first id r rows ∙ ap (λ (b : Bool). cond b r.values (values_in id rows)) e)
      by false e = ap added (sym (values-first id r rows ∙ ap (λ (b : Bool). cond b r.values (values_in id rows)) e))

  abbrev changed : Row → Row
  changed r = record r { values = r.values ++ values; source = Some (stronger r.source source) }

  -- values that are added to an argument
  pub values-added : (rows : List Row) → values_in id (with_values name how source values rows) ≡ cond (bytes_eq name id) (values_in id rows ++ values) (values_in id rows)
  values-added [] = values-first id (record { id = name; values = values; count = None; source = Some source; reading = how }) []
  values-added (r ∷ rows) = by (bytes_eq r.id name) refl (values-added rows)
    where
      by : (b : Bool) → bytes_eq r.id name ≡ b → values_in id (with_values name how source values rows) ≡ added (values_in id rows)
          → values_in id (cond b (changed r ∷ [] ++ rows) (r ∷ with_values name how source values rows)) ≡ added (values_in id (r ∷ rows))
      by true e more = values-first id (changed r) rows ∙ added-here r rows (same-name r.id name e)
      by false e more = values-first id r (with_values name how source values rows) ∙ ap (λ (l : List Text). cond (bytes_eq r.id id) r.values l) more ∙ added-later r rows e
