-- The words of a line.
use Rattle.std.proofs.Common.{◌≡◌, ◌≢◌, ◌<◌, ◌≤◌, ◌+◌, ◌==◌, ◌&&◌, ◌||◌, ℕ, zero, suc, Bool, true, false, not, List, [], ◌∷◌, All, IsUtf8, arith, drop, filter, get_or, length, nat_lt, refl, subst, sym, take, length-drop, inl, inr, ◌⊎◌}
use Rattle.std.specs.List.{onto_first, position_or_len, slice_split}
use Rattle.std.proofs.lemmas.Bool.{cases_order, eqb-false, eqb-true, ltb-false}
use Rattle.std.proofs.lemmas.List.Elements.{All-cons, All-filter, All-head, All-tail}
use Rattle.std.proofs.lemmas.List.Splits.{slice_split_first, slice_split_none}
use Rattle.std.proofs.lemmas.List.Sums.{fails_before_first, passes_at_first}
use Rattle.std.proofs.lemmas.Str.{IsCharBoundary-after_ascii, IsUtf8-drop, IsUtf8-take}
use Rattle.std.specs.Str.{IsCharBoundary}
use Rattle.abt_machine.specs.Spelling.{has_control, is_control, is_empty, is_separator, words_of}
use Rattle.abt_machine.specs.Valid.{IsVisible}
use Rattle.abt_machine.specs.Words.{Text}
use Rattle.abt_workload.proofs.Places.{or-left, or-right}
use Rattle.abt_workload.proofs.Proper.{none-of}

-- the words of a line have a byte

kept : (ws : List Text) → All (λ w. is_empty w ≡ false) (filter (λ w. not (is_empty w)) ws)
kept [] = none-of _
kept (w ∷ ws) = by (is_empty w) refl (kept ws)
  where
    by : (b : Bool) → is_empty w ≡ b → All (λ v. is_empty v ≡ false) (filter (λ v. not (is_empty v)) ws) → All (λ v. is_empty v ≡ false) (filter (λ v. not (is_empty v)) (w ∷ ws))
    by true e rest = rw e rest
    by false e rest = rw e (All-cons (λ v. is_empty v ≡ false) w _ e rest)

pub words-some : (line : Text) → All (λ w. is_empty w ≡ false) (words_of line)
words-some line = kept (slice_split is_separator line)

-- no blank and no control character

visible : (b : ℕ) → is_separator b ≡ false → is_control b ≡ false → IsVisible b
visible b es ec =
    let no_space : b ≢ 32 = eqb-false b 32 (or-left (b == 32) _ es) in
    let no_tab : b ≢ 9 = eqb-false b 9 (or-right (b == 32) _ es) in
    let no_delete : b ≢ 127 = eqb-false b 127 (or-right _ (b == 127) ec) in
    (by (nat_lt b 32) refl (or-left _ (b == 127) ec) no_space no_tab, no_delete)
  where
    by : (l : Bool) → nat_lt b 32 ≡ l → (nat_lt b 32 && not (b == 9)) ≡ false → b ≢ 32 → b ≢ 9 → 32 < b
    by true e f ns nt = absurd (nt (tab (b == 9) refl (rw e at f)))
      where
        tab : (t : Bool) → (b == 9) ≡ t → not (b == 9) ≡ false → b ≡ 9
        tab true et ef = eqb-true b 9 et
        tab false et ef = let bad = rw et at ef in cc
    by false e f ns nt = let le = ltb-false b 32 e in omega arith

front-visible : (b : ℕ) (parts : List Text) → IsVisible b → All (All IsVisible) parts → All (All IsVisible) (onto_first b parts)
front-visible b [] v h = All-cons (All IsVisible) (b ∷ []) [] (All-cons IsVisible b [] v (none-of _)) (none-of _)
front-visible b (p ∷ ps) v h = All-cons (All IsVisible) (b ∷ p) ps (All-cons IsVisible b p v (All-head (All IsVisible) p ps h)) (All-tail (All IsVisible) p ps h)

parts-visible : (line : Text) → has_control line ≡ false → All (All IsVisible) (slice_split is_separator line)
parts-visible [] e = All-cons (All IsVisible) [] [] (none-of _) (none-of _)
parts-visible (b ∷ bs) e = by (is_separator b) refl (parts-visible bs (or-right (is_control b) _ e))
  where
    by : (s : Bool) → is_separator b ≡ s → All (All IsVisible) (slice_split is_separator bs) → All (All IsVisible) (slice_split is_separator (b ∷ bs))
    by true es rest = rw es (All-cons (All IsVisible) [] _ (none-of _) rest)
    by false es rest = rw es (front-visible b (slice_split is_separator bs) (visible b es (or-left (is_control b) _ e)) rest)

pub words-visible : (line : Text) → has_control line ≡ false → All (All IsVisible) (words_of line)
words-visible line e = All-filter (λ w. not (is_empty w)) (All IsVisible) (slice_split is_separator line) (parts-visible line e)

-- UTF-8

separator-low : (b : ℕ) → is_separator b ≡ true → b < 128
separator-low b e = by (b == 32) refl e
  where
    by : (x : Bool) → (b == 32) ≡ x → ((b == 32) || (b == 9)) ≡ true → b < 128
    by true ex f = let same : b ≡ 32 = eqb-true b 32 ex in omega arith
    by false ex f = let same : b ≡ 9 = eqb-true b 9 (rw ex at f) in omega arith

-- the place of a separator is a boundary
at-separator : (line : Text) (i : ℕ) → i < length line → is_separator (get_or line i 0) ≡ true → IsCharBoundary line i
at-separator line i lt e = let low = separator-low (get_or line i 0) e in (omega arith, λ _ high. absurd (omega arith))

parts-utf8 : (n : ℕ) (line : Text) → length line ≤ n → IsUtf8 line → All IsUtf8 (slice_split is_separator line)
parts-utf8 zero [] le u = All-cons IsUtf8 [] [] u (none-of _)
parts-utf8 zero (b ∷ bs) le u = absurd (omega arith)
parts-utf8 (suc n) line le u = by (cases_order (position_or_len is_separator line) (length line)) (λ rest less v. parts-utf8 n rest less v)
  where
    whole : length line ≤ position_or_len is_separator line → All IsUtf8 (slice_split is_separator line)
    whole past = subst (λ (ps : List Text). All IsUtf8 ps) (sym (slice_split_none is_separator line (λ k d lt. fails_before_first is_separator line k d (omega arith)))) (All-cons IsUtf8 line [] u (none-of _))

    by : (position_or_len is_separator line ≡ length line) ⊎ ((position_or_len is_separator line < length line) ⊎ (length line < position_or_len is_separator line))
        → ((rest : Text) → length rest ≤ n → IsUtf8 rest → All IsUtf8 (slice_split is_separator rest)) → All IsUtf8 (slice_split is_separator line)
    by (inl e) rec = whole (omega arith)
    by (inr (inr past)) rec = whole (omega arith)
    by (inr (inl lt)) rec =
        let i : ℕ = position_or_len is_separator line in
        let sep : is_separator (get_or line i 0) ≡ true = passes_at_first is_separator line 0 lt in
        let before : IsUtf8 (take i line) = IsUtf8-take line i u (at-separator line i lt sep) in
        let after : IsUtf8 (drop (i + 1) line) = IsUtf8-drop line (i + 1) u (IsCharBoundary-after_ascii line i u lt (separator-low (get_or line i 0) sep)) in
        let shorter : length (drop (i + 1) line) ≤ n = simp length-drop (omega arith) in
        subst (λ (ps : List Text). All IsUtf8 ps) (sym (slice_split_first is_separator line 0 lt)) (All-cons IsUtf8 (take i line) _ before (rec (drop (i + 1) line) shorter after))

pub words-utf8 : (line : Text) → IsUtf8 line → All IsUtf8 (words_of line)
words-utf8 line u = All-filter (λ w. not (is_empty w)) IsUtf8 (slice_split is_separator line) (parts-utf8 (length line) line (omega arith) u)
