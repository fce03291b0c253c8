-- What `clap` finds among the rules of a command with these options.
use Rattle.std.proofs.Common.{◌≡◌, ◌∙◌, ◌&&◌, ◌||◌, Bool, cond, not, true, false, ℕ, refl, sym, ap, ap₂, List, [], ◌∷◌, map, codes, Option, Some, None}
use Rattle.std.specs.Prelude.{count_by, fold, is_some, option_map}
use Rattle.std.specs.List.{list_all, list_any}
use Rattle.std.specs.Str.{bytes_eq}
use Rattle.clap.specs.Faults.{check_fault, defaults_fault, is_free_app}
use Rattle.clap.specs.Kinds.{Kinds, check_kinds}
use Rattle.clap.specs.Simple.{App, Shape, built, filled, filled_from, is_buildable, is_in_order, is_ready, is_ready_leaf, with_index}
use Rattle.clap.specs.Takes.{is_given}
use Rattle.clap.specs.Walk.{Row, Rule, arg_by_id, arg_by_index, arg_by_long, arg_by_short, has_row, is_early_multiple, with_default}
use Rattle.clap.specs.Words.{is_simple_and_free}
use Rattle.clap.proofs.FaultLemmas.{past}
use Rattle.abt_machine.specs.Words.{Text}
use Rattle.abt_words.specs.Apps.{app_with, option_rule, words_rule}
use Rattle.abt_words.specs.Rests.{Options, takes_value}
use Rattle.abt_words.proofs.Names.{either-way, no-name, same-name}

-- the rules, as building leaves them
abbrev pub words_built : Rule
words_built = with_index 1 (filled words_rule)

abbrev pub option_built : Text → Bool → Rule
option_built name takes = filled (option_rule name takes)

abbrev pub options_built : Options → List Rule
options_built = map (λ o. option_built o.0 o.1)

abbrev pub rules_built : Options → List Rule
rules_built table = words_built ∷ options_built table

-- the command, as building leaves it, with these rules
abbrev pub shape_with : List Rule → Shape
shape_with rules = record (built (app_with [])).top { rules = rules }

-- what the walk of a command asks of its rules
pub record Knows (table : Options) (rules : List Rule) : Type 0 where
  pub long : (name : Text) → arg_by_long rules name ≡ option_map (option_built name) (takes_value table name)
  pub id : (name : Text) (takes : Bool) → takes_value table name ≡ Some takes → arg_by_id rules name ≡ Some (option_built name takes)
  pub words : arg_by_id rules (codes "words") ≡ Some words_built
  pub first : arg_by_index rules 1 ≡ Some words_built
  pub short : (x : ℕ) → arg_by_short rules x ≡ None
  pub apart : (name : Text) (takes : Bool) → takes_value table name ≡ Some takes → bytes_eq name (codes "words") ≡ false
  pub defaults : (rows : List Row) → defaults_fault rows rules ≡ []
  pub rows : (rows : List Row) → fold with_default rows rules ≡ rows
  pub checks : (rows : List Row) → check_fault (shape_with rules) rows false ≡ []

-- ---- building

filled-options : (table : Options) → filled_from 2 (map (λ o. option_rule o.0 o.1) table) ≡ options_built table
filled-options [] = refl
filled-options ((name, true) ∷ table) = ap (λ (rules : List Rule). option_built name true ∷ rules) (filled-options table)
filled-options ((name, false) ∷ table) = ap (λ (rules : List Rule). option_built name false ∷ rules) (filled-options table)

pub built-is : (table : Options) → built (app_with table) ≡ record { top = shape_with (rules_built table); subs = [] }
built-is table = ap (λ (rules : List Rule). record { top = shape_with (words_built ∷ rules); subs = [] }) (filled-options table)

-- ---- searches

module _ (name : Text) where
  long-first : (b : Bool) (other : Text) (takes : Bool) (table : Options) → bytes_eq other name ≡ b
      → (arg_by_long (options_built table) name ≡ option_map (option_built name) (takes_value table name))
      → arg_by_long (options_built ((other, takes) ∷ table)) name ≡ option_map (option_built name) (takes_value ((other, takes) ∷ table) name)
  long-first true other true table e more = simp e (ap (λ (n : Text). Some (option_built n true)) (same-name other name e))
  long-first true other false table e more = simp e (ap (λ (n : Text). Some (option_built n false)) (same-name other name e))
  long-first false other true table e more = simp e more
  long-first false other false table e more = simp e more

  options-long : (table : Options) → arg_by_long (options_built table) name ≡ option_map (option_built name) (takes_value table name)
  options-long [] = refl
  options-long ((other, takes) ∷ table) = long-first (bytes_eq other name) other takes table refl (options-long table)

  some-is : (b takes : Bool) → ◌≡◌ {A = Option Bool} (Some b) (Some takes) → b ≡ takes
  some-is b takes e = cc

  id-first : (t : Bool) (other : Text) (b : Bool) (table : Options) (takes : Bool) → bytes_eq other name ≡ t
      → (takes_value table name ≡ Some takes → arg_by_id (options_built table) name ≡ Some (option_built name takes))
      → takes_value ((other, b) ∷ table) name ≡ Some takes → arg_by_id (options_built ((other, b) ∷ table)) name ≡ Some (option_built name takes)
  id-first true other true table takes e more is =
      let own : true ≡ takes = some-is true takes (simp e at is) in
      simp e (ap (λ (n : Text). Some (option_built n true)) (same-name other name e) ∙ ap (λ (t : Bool). Some (option_built name t)) own)
  id-first true other false table takes e more is =
      let own : false ≡ takes = some-is false takes (simp e at is) in
      simp e (ap (λ (n : Text). Some (option_built n false)) (same-name other name e) ∙ ap (λ (t : Bool). Some (option_built name t)) own)
  id-first false other true table takes e more is = simp e (more (simp e at is))
  id-first false other false table takes e more is = simp e (more (simp e at is))

  options-id : (table : Options) (takes : Bool) → takes_value table name ≡ Some takes → arg_by_id (options_built table) name ≡ Some (option_built name takes)
  options-id [] takes is = absurd (no-some takes is)
    where
      no-some : (b : Bool) → ◌≡◌ {A = Option Bool} None (Some b) → ⊥
      no-some b e = cc
  options-id ((other, b) ∷ table) takes is = id-first (bytes_eq other name) other b table takes refl (options-id table takes) is

options-short : (table : Options) (x : ℕ) → arg_by_short (options_built table) x ≡ None
options-short [] x = refl
options-short ((name, true) ∷ table) x = options-short table x
options-short ((name, false) ∷ table) x = options-short table x

same-rows : (b : Bool) (rows : List Row) → cond b rows rows ≡ rows
same-rows true rows = refl
same-rows false rows = refl

no-kinds : (b : Bool) (ks : Kinds) → cond (b || true) [] ks ≡ []
no-kinds true ks = refl
no-kinds false ks = refl

-- no option has a default
options-defaults : (table : Options) (rows : List Row) → defaults_fault rows (options_built table) ≡ []
unfolding defaults_fault
options-defaults [] rows = refl
options-defaults ((name, true) ∷ table) rows = past _ _ (no-kinds (has_row name rows) _)
    ∙ ap (λ (l : List Row). defaults_fault l (options_built table)) (same-rows (has_row name rows) rows) ∙ options-defaults table rows
options-defaults ((name, false) ∷ table) rows = past _ _ (no-kinds (has_row name rows) _)
    ∙ ap (λ (l : List Row). defaults_fault l (options_built table)) (same-rows (has_row name rows) rows) ∙ options-defaults table rows

rules-defaults : (table : Options) (rows : List Row) → defaults_fault rows (rules_built table) ≡ []
unfolding defaults_fault
rules-defaults table rows = past _ _ (no-kinds (has_row (codes "words") rows) _)
    ∙ ap (λ (l : List Row). defaults_fault l (options_built table)) (same-rows (has_row (codes "words") rows) rows) ∙ options-defaults table rows

options-rows : (table : Options) (rows : List Row) → fold with_default rows (options_built table) ≡ rows
options-rows [] rows = refl
options-rows ((name, true) ∷ table) rows =
    ap (λ (l : List Row). fold with_default l (options_built table)) (same-rows (has_row name rows) rows) ∙ options-rows table rows
options-rows ((name, false) ∷ table) rows =
    ap (λ (l : List Row). fold with_default l (options_built table)) (same-rows (has_row name rows) rows) ∙ options-rows table rows

rules-rows : (table : Options) (rows : List Row) → fold with_default rows (rules_built table) ≡ rows
rules-rows table rows =
    ap (λ (l : List Row). fold with_default l (options_built table)) (same-rows (has_row (codes "words") rows) rows) ∙ options-rows table rows

-- none is wanted
none-wanted : (table : Options) (rows : List Row) → list_any (λ a. a.required && not (is_given a.id rows)) (options_built table) ≡ false
none-wanted [] rows = refl
none-wanted ((name, true) ∷ table) rows = none-wanted table rows
none-wanted ((name, false) ∷ table) rows = none-wanted table rows

rules-check : (table : Options) (rows : List Row) → check_fault (shape_with (rules_built table)) rows false ≡ []
rules-check table rows = ap (λ (b : Bool). check_kinds false false b) (none-wanted table rows)

-- the rules of a command in which no option has the name of the words
pub knows : (table : Options) → takes_value table (codes "words") ≡ None → Knows table (rules_built table)
knows table lacks = record {
  long = λ name. options-long name table;
  id = id;
  words = refl;
  first = refl;
  short = options-short table;
  apart = apart;
  defaults = rules-defaults table;
  rows = rules-rows table;
  checks = rules-check table;
}
  where
    none-some : (takes : Bool) → ◌≡◌ {A = Option Bool} None (Some takes) → ⊥
    none-some takes e = cc

    apart : (name : Text) (takes : Bool) → takes_value table name ≡ Some takes → bytes_eq name (codes "words") ≡ false
    apart name takes is = no-name name (codes "words") (λ same. none-some takes (sym lacks ∙ ap (takes_value table) (sym same) ∙ is))

    id : (name : Text) (takes : Bool) → takes_value table name ≡ Some takes → arg_by_id (rules_built table) name ≡ Some (option_built name takes)
    id name takes is = ap (λ (b : Bool). cond b (Some words_built) (arg_by_id (options_built table) name)) (either-way name (codes "words") (apart name takes is))
        ∙ options-id name table takes is

-- ---- the command is one of which `clap` says what it finds

simple-rules : (table : Options) → list_all (λ a. a.is_simple) (map (λ o. option_rule o.0 o.1) table) ≡ true
simple-rules [] = refl
simple-rules ((name, true) ∷ table) = simple-rules table
simple-rules ((name, false) ∷ table) = simple-rules table

simple-built : (table : Options) → list_all (λ a. a.is_simple) (options_built table) ≡ true
simple-built [] = refl
simple-built ((name, true) ∷ table) = simple-built table
simple-built ((name, false) ∷ table) = simple-built table

free-built : (table : Options) → list_all (λ a. a.is_free) (options_built table) ≡ true
free-built [] = refl
free-built ((name, true) ∷ table) = free-built table
free-built ((name, false) ∷ table) = free-built table

one-index : (table : Options) → count_by (λ a. is_some a.index) (rules_built table) ≡ 1
one-index [] = refl
one-index ((name, true) ∷ table) = one-index table
one-index ((name, false) ∷ table) = one-index table

none-early : (n : ℕ) (table : Options) → list_any (is_early_multiple n) (options_built table) ≡ false
none-early n [] = refl
none-early n ((name, true) ∷ table) = none-early n table
none-early n ((name, false) ∷ table) = none-early n table

in-order : (table : Options) → is_in_order (rules_built table) ≡ true
in-order table = ap (λ (n : ℕ). not (list_any (is_early_multiple n) (rules_built table))) (one-index table) ∙ ap not (none-early 1 table)

pub simple : (table : Options) → is_simple_and_free (app_with table) ≡ true
simple table = ap (λ (b : App). (is_buildable (app_with table) && (is_ready b.top && list_all is_ready_leaf b.subs)) && is_free_app b) (built-is table)
    ∙ ap₂ (λ (p q : Bool). ((p && true) && ((q && is_in_order (rules_built table)) && true)) && (list_all (λ a. a.is_free) (options_built table) && true)) (simple-rules table) (simple-built table)
    ∙ ap₂ (λ (p q : Bool). (p && true) && (q && true)) (in-order table) (free-built table)

pub simple-app : (table : Options) (a : App) → a ≡ app_with table → is_simple_and_free a ≡ true
simple-app table a is = ap is_simple_and_free is ∙ simple table
