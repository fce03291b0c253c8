-- A workload's text, appended section by section.
use Rattle.std.proofs.Common.{◌≡◌, ◌∙◌, ℕ, Bool, true, false, List, [], ◌∷◌, ◌++◌, Some, ap, append_assoc, if◌then◌else◌, length, refl, slice_get, slice_set, sym}
use Rattle.std.proofs.lemmas.List.{length-set}
use Rattle.std.specs.List.{All}
use Rattle.abt_machine.specs.declared.grammar.Form.TheVariants as form
use Rattle.abt_machine.specs.declared.grammar.Format.{Format}
use Rattle.abt_machine.specs.declared.grammar.Format.TheVariants as format
use Rattle.abt_machine.specs.declared.workload.Parts.{Parts}
use Rattle.abt_machine.specs.declared.workload.UnitPart.{UnitPart}
use Rattle.abt_machine.specs.Canonical.{form_words, format_for, has_text, object_line, opening_lines, pool_line, sched_line, stream_line, text_in, units_words}
use Rattle.abt_machine.specs.Operations.{IsDeclared}
use Rattle.abt_machine.specs.Valid.{IsUnit, IsValid}
use Rattle.abt_machine.specs.Words.{Text, ended, line_of, numbered, text_of}
use Rattle.abt_machine.specs.Workloads.{ops_of}
use Rattle.abt_machine.proofs.Elements.{all-at}
use Rattle.abt_workload.specs.Slots.{digit_of}
use Rattle.abt_workload.proofs.Heads.{units_lines}
use Rattle.abt_workload.proofs.WritingLines.{text-and, text-append}

-- what the operations of a unit name is declared
pub unit-declared : (W : Parts) (u : ℕ) (part : UnitPart) → IsValid W → slice_get W.units u ≡ Some part → All (IsDeclared W) (ops_of part.body)
unit-declared W u part valid at = (all-at (IsUnit W) W.units valid.units u part at).ops

-- the text of lines goes on with the text of more lines
more-lines : (lines more : List (List Text)) (old new : Text) → old ≡ text_of lines → new ≡ old ++ text_of more → new ≡ text_of (lines ++ more)
more-lines lines more old new before after = after ∙ (ap (λ (text : Text). text ++ text_of more) before ∙ sym (text-append lines more))

-- the whole text
pub written : (W : Parts) (head pools scheds mains objects count units whole : Text) →
    head ≡ text_of (opening_lines format.One W.streams W.keys) →
    pools ≡ head ++ text_of (numbered pool_line W.pools) →
    scheds ≡ pools ++ text_of (numbered sched_line W.scheds) →
    mains ≡ scheds ++ text_of (numbered stream_line W.mains) →
    objects ≡ mains ++ text_of (numbered object_line W.objects) →
    count ≡ objects ++ ended (line_of (units_words W)) →
    units ≡ count ++ text_of (units_lines W 0 W.units) →
    whole ≡ units ++ ended (line_of (form_words form.End [] [])) → whole ≡ text_in format.One W
written W head pools scheds mains objects count units whole e0 e1 e2 e3 e4 e5 e6 e7 =
    let first : List (List Text) = opening_lines format.One W.streams W.keys in
    let line : List Text = units_words W in
    let U : List (List Text) = units_lines W 0 W.units in
    let t1 = more-lines first (numbered pool_line W.pools) head pools e0 e1 in
    let t2 = more-lines (first ++ numbered pool_line W.pools) (numbered sched_line W.scheds) pools scheds t1 e2 in
    let t3 = more-lines (first ++ numbered pool_line W.pools ++ numbered sched_line W.scheds) (numbered stream_line W.mains) scheds mains t2 e3 in
    let t4 = more-lines (first ++ numbered pool_line W.pools ++ numbered sched_line W.scheds ++ numbered stream_line W.mains) (numbered object_line W.objects) mains objects t3 e4 in
    let joined : units ≡ objects ++ text_of (line ∷ U) = e6 ∙ (ap (λ (text : Text). text ++ text_of U) e5 ∙ append_assoc objects (ended (line_of line)) (text_of U)) in
    let t5 = more-lines (first ++ numbered pool_line W.pools ++ numbered sched_line W.scheds ++ numbered stream_line W.mains ++ numbered object_line W.objects) (line ∷ U) objects units t4 joined in
    let all = first ++ numbered pool_line W.pools ++ numbered sched_line W.scheds ++ numbered stream_line W.mains ++ numbered object_line W.objects ++ (line ∷ U) in
    e7 ∙ (ap (λ (text : Text). text ++ ended (line_of (form_words form.End [] []))) t5 ∙ sym (text-and all (form_words form.End [] [])))

-- the text of a format is that of format 1 with another version, and as long
pub raised : (F : Format) (W : Parts) → slice_set (text_in format.One W) 4 (digit_of F) ≡ text_in F W
raised format.One W = refl
raised format.Two W = refl
raised format.Three W = refl

pub as-long : (F : Format) (W : Parts) → length (text_in format.One W) ≡ length (text_in F W)
as-long F W = sym (length-set (text_in format.One W) 4 (digit_of F)) ∙ ap length (raised F W)

-- the least format that has a text of a workload
abbrev least : Bool → Bool → Format
least one two = if one then format.One else (if two then format.Two else format.Three)

pub format-one : (W : Parts) → has_text format.One W ≡ true → format_for W ≡ format.One
format-one W e = ap (λ (b : Bool). least b (has_text format.Two W)) e

pub format-two : (W : Parts) → has_text format.One W ≡ false → has_text format.Two W ≡ true → format_for W ≡ format.Two
format-two W e f = ap (λ (b : Bool). least b (has_text format.Two W)) e ∙ ap (least false) f

pub format-three : (W : Parts) → has_text format.One W ≡ false → has_text format.Two W ≡ false → format_for W ≡ format.Three
format-three W e f = ap (λ (b : Bool). least b (has_text format.Two W)) e ∙ ap (least false) f
