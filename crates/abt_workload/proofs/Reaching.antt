-- What is declared once some units are.
use Rattle.std.proofs.Common.{◌≡◌, ◌∙◌, ◌++◌, ℕ, List, [], Option, Some, None, ap, append-nil, length, map, option_to_list, refl, sym}
use Rattle.std.specs.Bool.{⊤}
use Rattle.std.proofs.lemmas.List.{map-append}
use Rattle.abt_machine.specs.declared.grammar.Format.{Format}
use Rattle.abt_machine.specs.declared.workload.Parts.{Parts}
use Rattle.abt_machine.specs.declared.workload.UnitPart.{UnitPart}
use Rattle.abt_machine.specs.Canonical.{word_of}
use Rattle.abt_machine.specs.Declaring.{Above, said_words, units_of}
use Rattle.abt_machine.specs.Valid.{IsValid}
use Rattle.abt_machine.specs.Words.{Text}
use Rattle.abt_workload.proofs.Fitting.{IsSmall}
use Rattle.abt_workload.proofs.Heads.{head}

-- these units are declared, the last of them apart, and the words of these numbers are said, those of the last unit apart
abbrev pub reached : Format → Parts → ℕ → List UnitPart → Option UnitPart → List ℕ → List ℕ → Above
reached F W s units last before said =
    record (head F W) { section = s; units = units; last = last; copies = length (option_to_list last); words = map (word_of W) before; said = map (word_of W) said }

-- no word is said by no unit
abbrev pub IsQuiet : Option UnitPart → List ℕ → Type 0
IsQuiet None said = said ≡ []
IsQuiet (Some part) said = ⊤

module _ (F : Format) (W : Parts) (s : ℕ) (units : List UnitPart) where
  -- the units that are declared
  pub reached-units : (last : Option UnitPart) (before said : List ℕ) → units_of (reached F W s units last before said) ≡ units ++ option_to_list last
  reached-units None before said = refl
  reached-units (Some part) before said = refl

  -- the words that are said
  pub reached-words : (last : Option UnitPart) (before said : List ℕ) → IsQuiet last said → said_words (reached F W s units last before said) ≡ map (word_of W) (before ++ said)
  reached-words None before said quiet = append-nil (map (word_of W) before) ∙ ap (map (word_of W)) (sym (append-nil before) ∙ ap (λ (ns : List ℕ). before ++ ns) (sym quiet))
  reached-words (Some part) before said quiet = ap (λ (ws : List Text). map (word_of W) before ++ ws) (append-nil (map (word_of W) said)) ∙ sym (map-append (word_of W) before said)

-- no more is declared than a workload may have
pub reached-small : (F : Format) (W : Parts) → IsValid W → (s : ℕ) (units : List UnitPart) (last : Option UnitPart) (before said : List ℕ) → IsSmall (reached F W s units last before said)
reached-small F W v s units last before said = record {
  streams = v.few_streams;
  keys = v.few_keys;
  pools = v.few_pools;
  scheds = v.few_scheds;
  objects = v.few_objects;
  units = v.few_units;
}
