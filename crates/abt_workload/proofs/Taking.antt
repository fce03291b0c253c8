-- Lines that are taken one after the other.
use Rattle.std.proofs.Common.{◌≡◌, ◌<◌, ◌≤◌, ◌^◌, ◌&&◌, ◌∙◌, ℕ, zero, suc, Bool, true, false, not, List, [], ◌∷◌, ◌++◌, All, IsAscii, Some, None, ap, arith, decimal, find, length, nat_le, nat_lt, refl, subst, sym}
use Rattle.std.specs.List.{list_all}
use Rattle.std.specs.Str.{all_ascii_digits}
use Rattle.std.proofs.lemmas.Bool.{and_from, leb-true, lt-ltb, ltb-true}
use Rattle.std.proofs.lemmas.Fmt.{IsAscii-decimal, decimal_nonempty, digits_decimal, digits_value-decimal}
use Rattle.std.proofs.lemmas.Str.{IsUtf8-from_ascii}
use Rattle.std.proofs.lemmas.Str.Parse.{IsNumeralModel, numerals_by_fold, tells_all_ascii_digits}
use Rattle.std.proofs.lemmas.List.Elements.{All-cons}
use Rattle.abt_machine.specs.declared.grammar.Form.{Form}
use Rattle.abt_machine.specs.Declaring.{Above}
use Rattle.abt_machine.specs.Faults.{faults, has, is_misplaced, is_no_version, is_skipped, line_fault, numbers_of, values_of}
use Rattle.abt_machine.specs.Forms.{form_of, numerals, slots}
use Rattle.abt_machine.specs.Grammar.{and_line}
use Rattle.abt_machine.specs.Limits.{word_limit}
use Rattle.abt_machine.specs.Spelling.{is_empty, is_number, value_from, value_of, words_of}
use Rattle.abt_machine.specs.Valid.{IsVisible, IsWord}
use Rattle.abt_machine.specs.Words.{Text, line_of}
use Rattle.abt_machine.proofs.Decimals.{few-digits}
use Rattle.abt_workload.specs.Declarable.{with_line}
use Rattle.abt_workload.specs.Judging.{HasForm, later_fault}
use Rattle.abt_workload.proofs.Places.{and-left, and-right}
use Rattle.abt_workload.proofs.Proper.{none-of}
use Rattle.abt_workload.proofs.Taken as line
use Rattle.abt_workload.proofs.Verdicts.{line-judged}
use Rattle.abt_workload.proofs.WrittenLines.{no-control-in-line, utf8-of-line, word-some, words-of-line}

-- a line of these words is taken: below lines that declare a it has no fault, and b is declared with it
pub record Takes (a : Above) (words : List Text) (b : Above) : Type 0 where
  pub written : All IsWord words
  pub faultless : line_fault a (line_of words) ≡ None
  pub declared : and_line a (line_of words) ≡ b

-- lines that are taken one after the other
abbrev pub TakesAll : Above → List (List Text) → Above → Type 0
TakesAll a [] b = a ≡ b
TakesAll a (words ∷ rest) b = (c : Above) × Takes a words c × TakesAll c rest b

-- lines after lines
pub takes-append : (a b c : Above) (xs ys : List (List Text)) → TakesAll a xs b → TakesAll b ys c → TakesAll a (xs ++ ys) c
takes-append a b c [] ys h t = subst (λ (d : Above). TakesAll d ys c) (sym h) t
takes-append a b c (x ∷ xs) ys h t = (h.0, h.1, takes-append h.0 b c xs ys h.2 t)

-- a line is taken where its words have a form, their numbers are numbers, and no later fault is there
pub taken : (a : Above) (words : List Text) (f : Form) → All IsWord words → is_skipped words ≡ false → is_no_version a words ≡ false
    → form_of a.format words ≡ Some f → is_misplaced a f ≡ false → list_all (λ p. is_number p.1) (numerals (slots f) words) ≡ true
    → later_fault a f words (numbers_of f words) ≡ None → Takes a words (with_line a f words (values_of f words))
taken a words f written kept version form_is placed numbers later =
    let h : HasForm a (line_of words) words f = record {
      utf8 = utf8-of-line words written;
      version = version;
      form_is = form_is;
      control = no-control-in-line words written;
      placed = placed;
    } in
    let sound : find (has a (line_of words) words (form_of a.format words)) faults ≡ None =
    line-judged a (line_of words) words f h (numbers_of f words) None numbers refl (sym later) in
    let same : words ≡ words_of (line_of words) = sym (words-of-line words written) in
    let new : Above = with_line a f words (values_of f words) in
    record {
      written = written;
      faultless = line.none a new (line_of words) words f (numbers_of f words) same kept sound form_is refl;
      declared = sym (line.taken a new (line_of words) words f (numbers_of f words) same kept sound form_is refl refl);
    }

-- Words of digits.

-- digits, and the number that they say
own : IsNumeralModel (λ ds. all_ascii_digits ds ≡ true) (value_from 0)
own = numerals_by_fold _ tells_all_ascii_digits value_from (record { empty = λ n. refl; more = λ n c cs r. refl })

-- a number's digits say it
pub decimal-value : (n : ℕ) → n < 2 ^ 64 → value_of (decimal n) ≡ n
decimal-value n lt = digits_value-decimal own n lt

-- a number's digits are a number
pub decimal-number : (n : ℕ) → n < 2 ^ 64 → is_number (decimal n) ≡ true
decimal-number n lt =
    let some : not (is_empty (decimal n)) ≡ true = ap not (word-some (decimal n) (decimal_nonempty n lt)) in
    let digits : all_ascii_digits (decimal n) ≡ true = digits_decimal own n lt in
    let fits : nat_lt (value_of (decimal n)) (2 ^ 64) ≡ true = ap (λ (k : ℕ). nat_lt k (2 ^ 64)) (decimal-value n lt) ∙ lt-ltb n (2 ^ 64) lt in
    and_from _ _ (and_from _ _ some digits) fits

-- Words by their bytes.

-- a byte that is a visible character of ASCII
abbrev is_plain_byte : ℕ → Bool
is_plain_byte b = nat_lt 32 b && nat_lt b 127

-- one of them at least, and as many as a word has at most
abbrev pub is_plain : Text → Bool
is_plain w = nat_lt 0 (length w) && nat_le (length w) word_limit && list_all is_plain_byte w

-- such bytes are visible
plain-visible : (w : Text) → list_all is_plain_byte w ≡ true → All IsVisible w
plain-visible [] e = none-of _
plain-visible (b ∷ bs) e =
    let here = and-left (is_plain_byte b) _ e in
    let low : 32 < b = ltb-true 32 b (and-left (nat_lt 32 b) _ here) in
    let high : b < 127 = ltb-true b 127 (and-right (nat_lt 32 b) _ here) in
    All-cons IsVisible b bs (low, omega arith) (plain-visible bs (and-right (is_plain_byte b) _ e))

-- and are ASCII
plain-ascii : (w : Text) → list_all is_plain_byte w ≡ true → IsAscii w
plain-ascii [] e i = omega arith
plain-ascii (b ∷ bs) e zero = let high : b < 127 = ltb-true b 127 (and-right (nat_lt 32 b) _ (and-left (is_plain_byte b) _ e)) in omega arith
plain-ascii (b ∷ bs) e (suc i) = plain-ascii bs (and-right (is_plain_byte b) _ e) i

-- visible characters of ASCII are a word, as those of a fixed word: `plain-word (codes "pool") refl`
pub plain-word : (w : Text) → is_plain w ≡ true → IsWord w
plain-word w e =
    let sizes = and-left (nat_lt 0 (length w) && nat_le (length w) word_limit) _ e in
    let plain : list_all is_plain_byte w ≡ true = and-right (nat_lt 0 (length w) && nat_le (length w) word_limit) _ e in
    record {
      some_byte = ltb-true 0 (length w) (and-left (nat_lt 0 (length w)) _ sizes);
      few_bytes = leb-true (length w) word_limit (and-right (nat_lt 0 (length w)) _ sizes);
      visible = plain-visible w plain;
      utf8 = IsUtf8-from_ascii w (plain-ascii w plain);
    }

-- digits are visible
digits-visible : (w : Text) → all_ascii_digits w ≡ true → All IsVisible w
digits-visible [] e = none-of _
digits-visible (b ∷ bs) e =
    let digit = and-left (nat_le 48 b && nat_le b 57) _ e in
    let low : 48 ≤ b = leb-true 48 b (and-left (nat_le 48 b) _ digit) in
    let high : b ≤ 57 = leb-true b 57 (and-right (nat_le 48 b) _ digit) in
    All-cons IsVisible b bs (omega arith, omega arith) (digits-visible bs (and-right (nat_le 48 b && nat_le b 57) _ e))

-- a number's digits are a word
pub decimal-word : (n : ℕ) → n < 2 ^ 64 → IsWord (decimal n)
decimal-word n lt =
    let short : length (decimal n) ≤ 20 = few-digits n lt in
    record {
      some_byte = decimal_nonempty n lt;
      few_bytes = omega arith;
      visible = digits-visible (decimal n) (digits_decimal own n lt);
      utf8 = IsUtf8-from_ascii (decimal n) (IsAscii-decimal n lt);
    }
