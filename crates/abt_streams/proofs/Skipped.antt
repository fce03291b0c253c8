-- Whether a line is skipped, by its first byte that is no separator.
use Rattle.std.proofs.Common.{◌≡◌, ◌<◌, ◌+◌, ◌==◌, ◌∙◌, ℕ, suc, true, false, List, [], ◌∷◌, length, drop, get_or, drop-cons, add-one, refl, ap, sym, rules, tests}
use Rattle.std.specs.List.{slice_split}
use Rattle.abt_machine.specs.Faults.{is_skipped}
use Rattle.abt_machine.specs.Spelling.{is_empty, is_separator, words_of}
use Rattle.abt_machine.specs.Words.{Text}

-- a separator at the start makes no word
separator-past : (b : ℕ) (rest : Text) → is_separator b ≡ true → words_of (b ∷ rest) ≡ words_of rest
separator-past b rest e = rw e refl

-- any other byte begins the first
some-byte : (b : ℕ) (bytes : Text) → is_empty (b ∷ bytes) ≡ false
some-byte b bytes = search (rules, tests)

byte-first : (b : ℕ) (rest : Text) → is_separator b ≡ false → is_skipped (words_of (b ∷ rest)) ≡ (b == 35)
byte-first b rest e = by (slice_split is_separator rest) refl where
  by : (parts : List Text) → slice_split is_separator rest ≡ parts → is_skipped (words_of (b ∷ rest)) ≡ (b == 35)
  by [] parts = rw (e, parts) refl
  by (first ∷ more) parts = rw (e, parts, some-byte b first) refl

-- so is it at place k of a line
pub past-separator : (line : Text) (k b : ℕ) → k < length line → get_or line k 0 ≡ b → is_separator b ≡ true → is_skipped (words_of (drop k line)) ≡ is_skipped (words_of line) →
    is_skipped (words_of (drop (k + 1) line)) ≡ is_skipped (words_of line)
past-separator line k b lt is separates before =
    let cut : drop k line ≡ b ∷ drop (suc k) line = drop-cons line k 0 lt ∙ ap (λ c. c ∷ drop (suc k) line) is in
    ap (λ n. is_skipped (words_of (drop n line))) (add-one k) ∙ (sym (ap is_skipped (ap words_of cut ∙ separator-past b (drop (suc k) line) separates)) ∙ before)

pub at-byte : (line : Text) (k b : ℕ) → k < length line → get_or line k 0 ≡ b → is_separator b ≡ false → is_skipped (words_of (drop k line)) ≡ is_skipped (words_of line) →
    (b == 35) ≡ is_skipped (words_of line)
at-byte line k b lt is other before =
    let cut : drop k line ≡ b ∷ drop (suc k) line = drop-cons line k 0 lt ∙ ap (λ c. c ∷ drop (suc k) line) is in
    sym (ap (λ (t : Text). is_skipped (words_of t)) cut ∙ byte-first b (drop (suc k) line) other) ∙ before
