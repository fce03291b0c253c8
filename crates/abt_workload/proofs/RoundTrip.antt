-- Valid parts are those that texts read to.
use Rattle.std.proofs.Common.{inl, inr, ◌⊎◌, ◌≡◌, ◌<◌, ◌≤◌, ◌+◌, ◌==◌, ◌∙◌, ℕ, zero, suc, Bool, true, false, List, [], ◌∷◌, ◌++◌, All, Some, None, ap, append_assoc, arith, find, fold, get_or, length, map, nat_lt, refl, subst, sym, take}
use Rattle.std.proofs.lemmas.Bool.{cases_lt, le-ltb, leb-true}
use Rattle.std.proofs.lemmas.List.Elements.{All-cons}
use Rattle.abt_machine.specs.declared.grammar.Form.TheVariants as form
use Rattle.abt_machine.specs.declared.grammar.Format.{Format}
use Rattle.abt_machine.specs.declared.grammar.Format.TheVariants as format
use Rattle.abt_machine.specs.declared.workload.Parts.{Parts}
use Rattle.abt_machine.specs.Canonical.{canonical_text, first_lines, form_words, has_parts, has_text, text_in, units_words, workload_lines}
use Rattle.abt_machine.specs.Declaring.{Above, declared_units, nothing, parts_of}
use Rattle.abt_machine.specs.Faults.{faults, is_early, line_fault}
use Rattle.abt_machine.specs.Grammar.{Reads, and_line, declared_by, fault_at, format_of, has_at}
use Rattle.abt_machine.specs.Limits.{text_limit}
use Rattle.abt_machine.specs.Spelling.{lines_of}
use Rattle.abt_machine.specs.Valid.{IsValid, IsWord}
use Rattle.abt_machine.specs.Words.{Text, line_of, text_of}
use Rattle.abt_workload.proofs.Allowing.{Allows, all-allowed, allowed}
use Rattle.abt_workload.proofs.Filled.{in-each, takes}
use Rattle.abt_workload.proofs.Firm.{valid-end}
use Rattle.abt_workload.proofs.HeadLines.{head-taken}
use Rattle.abt_workload.proofs.Heads.{head, head_lines, units_lines}
use Rattle.abt_workload.proofs.InOrder.{placed-alone}
use Rattle.abt_workload.proofs.Places.{and-left, and-right}
use Rattle.abt_workload.proofs.Proper.{none-of}
use Rattle.abt_workload.proofs.Seen.{fault-in, fault-length, faultless-end, most, refuses-end, refuses-length}
use Rattle.abt_workload.proofs.Taking.{Takes, TakesAll, takes-append}
use Rattle.abt_workload.proofs.UnitLines.{IsWhole, units-taken}
use Rattle.abt_workload.proofs.TextBounds.{text-fits}
use Rattle.abt_workload.proofs.WholeTexts.{format-one, format-three, format-two}
use Rattle.abt_workload.proofs.WrittenLines.{lines-of-text}

-- Lines that are taken.

-- each is written of words
written-all : (a b : Above) (lines : List (List Text)) → TakesAll a lines b → All (All IsWord) lines
written-all a b [] h = none-of _
written-all a b (words ∷ rest) h = All-cons (All IsWord) words rest h.1.written (written-all h.0 b rest h.2)

-- what they declare
declared-all : (a b : Above) (lines : List (List Text)) → TakesAll a lines b → fold and_line a (map line_of lines) ≡ b
declared-all a b [] h = h
declared-all a b (words ∷ rest) h = ap (λ (s : Above). fold and_line s (map line_of rest)) h.1.declared ∙ declared-all h.0 b rest h.2

-- none has a fault
faultless-all : (a b : Above) (lines : List (List Text)) → TakesAll a lines b → (i : ℕ) → i < length (map line_of lines)
    → line_fault (fold and_line a (take i (map line_of lines))) (get_or (map line_of lines) i []) ≡ None
faultless-all a b [] h i lt = absurd (omega arith)
faultless-all a b (words ∷ rest) h zero lt = h.1.faultless
faultless-all a b (words ∷ rest) h (suc i) lt =
    let rec : line_fault (fold and_line h.0 (take i (map line_of rest))) (get_or (map line_of rest) i []) ≡ None = faultless-all h.0 b rest h.2 i (omega arith) in
    subst (λ (s : Above). line_fault (fold and_line s (take i (map line_of rest))) (get_or (map line_of rest) i []) ≡ None) (sym h.1.declared) rec

-- a text of lines that are taken one after the other reads to what they declare, where the last is `end`
reads-written : (text : Text) (lines : List (List Text)) (b : Above) → length text ≤ most text → lines_of text ≡ map line_of lines → TakesAll nothing lines b → (b.section == 10) ≡ true
    → Reads text (parts_of b)
reads-written text lines b le same h ended = record { faultless = none; parts = ap parts_of (sym declared ∙ sym (ap declared_by same)) }
  where
    declared : declared_by (map line_of lines) ≡ b
    declared = declared-all nothing b lines h

    each : (i : ℕ) → i < length (map line_of lines) → find (has_at (map line_of lines) i) faults ≡ None
    each i lt = fault-in (map line_of lines) i lt ∙ faultless-all nothing b lines h i lt

    none : (line : ℕ) → fault_at text line ≡ None
    none zero = fault-length text le
    none (suc i) =
        ap (λ (ls : List Text). find (has_at ls i) faults) same
        ∙ faultless-end (map line_of lines) (length (map line_of lines)) b refl (sym declared) each ended i

-- The last line.

-- the words of the last line
abbrev end_words : List Text
end_words = form_words form.End [] []

-- all is declared
abbrev closed : Above → Above
closed b = record b { section = 10; begun = true }

module _ (b : Above) (streams count : ℕ) (begun : b.begun ≡ true) (has_streams : b.streams ≡ Some streams) (has_count : b.unit_count ≡ Some count)
    (all : declared_units b ≡ count) where
  -- nothing is missing above it
  end-there : is_early b form.End ≡ false
  end-there = let no : nat_lt (declared_units b) count ≡ false = le-ltb (declared_units b) count (omega arith) in rw (has_streams, has_count, no) refl

  -- the line is taken if all units are declared
  end-taken : b.section ≤ 9 → Takes b end_words (closed b)
  end-taken place =
      takes b (closed b) form.End [] [] end_words
      record { words_are = refl; form_is = refl; skipped = refl; plain = refl; chosen = λ e. cc }
      (in-each b.format form.End refl)
      tt
      record { version = rw begun refl; placed = placed-alone b form.End (omega arith) (omega arith) refl; once = refl; beyond = refl; limit = refl; task = refl; access = refl; early = end-there }
      refl

-- The whole text.

-- the lines of a workload but the last
abbrev pub front_lines : Format → Parts → List (List Text)
front_lines F W = head_lines F W ++ units_lines W 0 W.units

-- the lines of a workload, parted before the last
all-lines : (F : Format) (W : Parts) → workload_lines F W ≡ front_lines F W ++ end_words ∷ []
all-lines F W =
    ap (λ (ls : List (List Text)). ls ++ end_words ∷ []) (sym (append_assoc (first_lines F W) (units_words W ∷ []) (units_lines W 0 W.units)))

-- they are those of a text of that format
whole-format : (F : Format) (W : Parts) → format_of (map line_of (front_lines F W ++ end_words ∷ [])) ≡ F
whole-format format.One W = refl
whole-format format.Two W = refl
whole-format format.Three W = refl

-- the text of valid parts in a format that allows them and their text reads to them
reads-in : (F : Format) (W : Parts) → IsValid W → Allows F W → length (text_in F W) ≤ text_limit F → Reads (text_in F W) W
reads-in F W v allows few_bytes =
    let whole = units-taken F W v allows in
    let b : Above = whole.0 in
    let h : IsWhole W b = whole.2 in
    let front : TakesAll nothing (front_lines F W) b = takes-append nothing (head F W) b (head_lines F W) (units_lines W 0 W.units) (head-taken F W v allows) whole.1 in
    let last : Takes b end_words (closed b) = end-taken b W.streams (length W.units) h.begun h.streams h.unit_count h.declared h.section in
    let all : TakesAll nothing (front_lines F W ++ end_words ∷ []) (closed b) =
    takes-append nothing b (closed b) (front_lines F W) (end_words ∷ []) front (closed b, last, refl) in
    let same : lines_of (text_in F W) ≡ map line_of (front_lines F W ++ end_words ∷ []) =
    ap (λ (ls : List (List Text)). lines_of (text_of ls)) (all-lines F W)
    ∙ lines-of-text (front_lines F W ++ end_words ∷ []) (written-all nothing (closed b) (front_lines F W ++ end_words ∷ []) all) in
    let its : format_of (lines_of (text_in F W)) ≡ F = ap format_of same ∙ whole-format F W in
    subst (λ (V : Parts). Reads (text_in F W) V) h.parts
    (reads-written (text_in F W) (front_lines F W ++ end_words ∷ []) (closed b) (subst (λ (G : Format). length (text_in F W) ≤ text_limit G) (sym its) few_bytes) same all refl)

-- a format that has a text of valid parts has one that reads to them
reads-had : (F : Format) (W : Parts) → IsValid W → has_text F W ≡ true → Reads (text_in F W) W
reads-had F W v e = reads-in F W v (allowed F W (and-left (has_parts F W) _ e)) (leb-true _ _ (and-right (has_parts F W) _ e))

-- the canonical text of valid parts reads to them
pub reads-canonical : (W : Parts) → IsValid W → Reads (canonical_text W) W
reads-canonical W v = by (has_text format.One W) (has_text format.Two W) refl refl
  where
    by : (one two : Bool) → has_text format.One W ≡ one → has_text format.Two W ≡ two → Reads (canonical_text W) W
    by true two e f = subst (λ (F : Format). Reads (text_in F W) W) (sym (format-one W e)) (reads-had format.One W v e)
    by false true e f = subst (λ (F : Format). Reads (text_in F W) W) (sym (format-two W e f)) (reads-had format.Two W v f)
    by false false e f = subst (λ (F : Format). Reads (text_in F W) W) (sym (format-three W e f)) (reads-in format.Three W v (all-allowed W v) (text-fits W v format.Three))

-- The other direction.

-- the parts that a text reads to are valid
pub only-valid : (text : Text) (W : Parts) → Reads text W → IsValid W
only-valid text W reads = subst IsValid (sym reads.parts) (valid-end text (ended ((declared_by (lines_of text)).section == 10) refl))
  where
    long : most text < length text → length text ≤ most text
    long lt = let some = (refuses-length text lt).first in let none = reads.faultless 0 in cc

    short : length text ≤ most text
    short = by (cases_lt (most text) (length text))
      where
        by : (most text < length text) ⊎ (length text ≤ most text) → length text ≤ most text
        by (inl lt) = long lt
        by (inr le) = le

    ended : (b : Bool) → ((declared_by (lines_of text)).section == 10) ≡ b → ((declared_by (lines_of text)).section == 10) ≡ true
    ended true e = e
    ended false e =
        let some = (refuses-end text (length (lines_of text)) (declared_by (lines_of text)) short refl refl (λ i lt. reads.faultless (suc i)) e).first in
        let none = reads.faultless (length (lines_of text) + 1) in
        cc
