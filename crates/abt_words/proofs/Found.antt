-- What `clap` found is the rest of the words.
use Rattle.std.proofs.Common.{◌≡◌, ◌≤◌, ◌∙◌, Bool, Bor, length, arith, cond, true, false, refl, sym, ap, List, [], ◌∷◌, map, codes, Option, None}
use Rattle.std.specs.Prelude.{String, string_bytes, unwrap_or}
use Rattle.std.specs.Str.{bytes_eq}
use Rattle.std.proofs.lemmas.Str.{IsUtf8-string_bytes}
use Rattle.clap.specs.Faults.{built_fault}
use Rattle.clap.specs.Simple.{App}
use Rattle.clap.specs.Walk.{idle, nothing_held, rows_after}
use Rattle.clap.specs.Words.{fault_of, found_of, matches_of, rows_of}
use Rattle.clap.specs.declared.parser.matches.ArgMatches.{ArgMatches}
use Rattle.clap.proofs.FaultLemmas.{leaf_fault}
use Rattle.clap.proofs.WalkLemmas.{raw_values-rows}
use Rattle.abt_machine.specs.Words.{Text}
use Rattle.abt_words.specs.Apps.{app_with}
use Rattle.abt_words.specs.Asked.{found_values, rest_found}
use Rattle.abt_words.specs.Rests.{Options, rest_of, takes_value}
use Rattle.abt_words.proofs.Endings.{AllTexts, ending, last}
use Rattle.abt_words.proofs.Lists.{values_in}
use Rattle.abt_words.proofs.Names.{either-way, same-name}
use Rattle.abt_words.proofs.Readings.{Outcome, outcome}
use Rattle.abt_words.proofs.Rules.{built-is, knows, rules_built, shape_with}
use Rattle.abt_words.proofs.Turns.{state}

all-texts : {Z : Type 0} (words : List (String Z)) → AllTexts (map string_bytes words)
all-texts [] = tt
all-texts (w ∷ ws) = (IsUtf8-string_bytes w, all-texts ws)

-- two values or more
pub at-least-two : (values : List (Bor Text)) → 2 ≤ length values → (v w : Text) × (more : List Text) × (map (λ s. s.now) values ≡ v ∷ w ∷ more)
at-least-two [] long = absurd (omega (arith, long))
at-least-two (v ∷ []) long = absurd (omega (arith, long))
at-least-two (v ∷ w ∷ more) long = (v.now, w.now, map (λ s. s.now) more, refl)

module _ {Z : Type 0} (table : Options) (rest : List (String Z)) (a : App) (is : a ≡ app_with table) (lacks : takes_value table (codes "words") ≡ None) where
  abbrev words : List Text
  words = map string_bytes rest

  fault-is : fault_of a words ≡ ending (shape_with (rules_built table)) (state [] None idle false) words
  fault-is = ap (λ (x : App). fault_of x words) is ∙ ap (λ (b : App). built_fault b nothing_held words) (built-is table)
      ∙ leaf_fault (record { top = shape_with (rules_built table); subs = [] }) nothing_held words refl

  matches-are : matches_of a words ≡ last (shape_with (rules_built table)) (state [] None idle false) words
  matches-are = ap (λ (x : App). matches_of x words) is
      ∙ ap (λ (b : App). rows_after b.top.rules (map (λ s. (s.name, s.aliases)) b.subs) words) (built-is table)

  outcome-is : Outcome table (rules_built table) (knows table lacks) (state [] None idle false) words (λ id. []) (rest_of table None words)
  outcome-is = outcome table (rules_built table) (knows table lacks) words (all-texts rest)

  -- if it takes them
  pub rest-is : (m : ArgMatches) → fault_of a words ≡ [] → rows_of (found_of m) ≡ matches_of a words → rest_of table None words ≡ rest_found m
  rest-is m passes finds = λ i. record { words = all_words i; given = λ name. given name i; others = got.0 i }
    where
      got : ((rest_of table None words).others ≡ 0) × ((id : Text) → values_in id (last (shape_with (rules_built table)) (state [] None idle false) words) ≡ cond (bytes_eq (codes "words") id) (rest_of table None words).words ((rest_of table None words).given id))
          × ((rest_of table None words).given (codes "words") ≡ [])
      got = outcome-is.taken (sym fault-is ∙ passes)

      value : (id : Text) → found_values m id ≡ cond (bytes_eq (codes "words") id) (rest_of table None words).words ((rest_of table None words).given id)
      value id = ap (λ (o : Option (List Text)). unwrap_or o []) (raw_values-rows (found_of m) id) ∙ ap (values_in id) (finds ∙ matches-are) ∙ got.1 id

      all_words : (rest_of table None words).words ≡ found_values m (codes "words")
      all_words = sym (value (codes "words"))

      given : (name : Text) → (rest_of table None words).given name ≡ cond (bytes_eq name (codes "words")) [] (found_values m name)
      given name = by (bytes_eq name (codes "words")) refl
        where
          by : (b : Bool) → bytes_eq name (codes "words") ≡ b → (rest_of table None words).given name ≡ cond b [] (found_values m name)
          by true e = ap (rest_of table None words).given (same-name name (codes "words") e) ∙ got.2
          by false e = sym (value name ∙ ap (λ (b : Bool). cond b (rest_of table None words).words ((rest_of table None words).given name)) (either-way name (codes "words") e))

  -- if there are no others, it takes them
  pub takes-all : (rest_of table None words).others ≡ 0 → fault_of a words ≡ []
  takes-all none = fault-is ∙ outcome-is.takes none
