-- Lines that are written of words, and texts of lines: they are read as they were written.
use Rattle.std.proofs.Common.{◌≡◌, ◌≢◌, ◌<◌, ◌≤◌, ◌==◌, ◌∙◌, ℕ, zero, suc, true, false, List, [], ◌∷◌, ◌++◌, All, IsAscii, IsUtf8, ap, append-nil, append_assoc, arith, get_or, length, map, nat_lt, refl, rules, sym, tests}
use Rattle.std.specs.Str.{is_utf8}
use Rattle.std.proofs.lemmas.List.Elements.{All-append, All-cons, All-head, All-tail}
use Rattle.std.proofs.lemmas.List.Folds.{list_any_none}
use Rattle.std.proofs.lemmas.Str.{IsUtf8-append, IsUtf8-from_ascii, IsUtf8-nil, is_utf8-from_IsUtf8}
use Rattle.abt_machine.specs.Spelling.{has_control, is_control, is_empty, is_separator, lines_of, with_byte, words_of}
use Rattle.abt_machine.specs.Valid.{IsVisible, IsWord}
use Rattle.abt_machine.specs.Words.{Text, ended, line_of, spaced, text_of}
use Rattle.abt_workload.proofs.LineEnds.{lines-nil}
use Rattle.abt_workload.proofs.Proper.{none-of}
use Rattle.abt_workload.proofs.WordEnds.{words-first, words-past}

-- The words of a line.

-- a visible byte is no separator
unseparated : (w : Text) → All IsVisible w → All (λ b. is_separator b ≡ false) w
unseparated w h k d lt = by (get_or w k d) (h k d lt)
  where
    by : (b : ℕ) → IsVisible b → is_separator b ≡ false
    by b v =
        let above : 32 < b = v.0 in
        let space : (b == 32) ≡ false = search (rules, tests) in
        let tab : (b == 9) ≡ false = search (rules, tests) in
        rw (space, tab) refl

-- a word that has a byte is not empty
pub word-some : (w : Text) → 0 < length w → is_empty w ≡ false
word-some [] some = absurd (omega arith)
word-some (b ∷ bs) some = search (rules, tests)

-- what follows a word begins with a space
spaced-first : (ws : List Text) → 0 < length (spaced ws) → is_separator (get_or (spaced ws) 0 0) ≡ true
spaced-first [] some = absurd (omega arith)
spaced-first (w ∷ ws) some = refl

-- a word, and the words that are written after it
words-after : (w : Text) (ws : List Text) → IsWord w → words_of (spaced ws) ≡ ws → words_of (w ++ spaced ws) ≡ w ∷ ws
words-after w ws h rest = words-first w (spaced ws) (unseparated w h.visible) (word-some w h.some_byte) (spaced-first ws) ∙ ap (λ (vs : List Text). w ∷ vs) rest

-- words with a space before each
words-spaced : (ws : List Text) → All IsWord ws → words_of (spaced ws) ≡ ws
words-spaced [] h = refl
words-spaced (w ∷ ws) h = words-past 32 (w ++ spaced ws) refl ∙ words-after w ws (All-head IsWord w ws h) (words-spaced ws (All-tail IsWord w ws h))

-- the words that a line is written of are its words
pub words-of-line : (words : List Text) → All IsWord words → words_of (line_of words) ≡ words
words-of-line [] h = refl
words-of-line (w ∷ ws) h = words-after w ws (All-head IsWord w ws h) (words-spaced ws (All-tail IsWord w ws h))

-- UTF-8.

-- a space is ASCII
space-ascii : IsAscii (32 ∷ [])
space-ascii zero = omega arith
space-ascii (suc i) = omega arith

-- words with a space before each are UTF-8
spaced-utf8 : (ws : List Text) → All IsWord ws → IsUtf8 (spaced ws)
spaced-utf8 [] h = IsUtf8-nil
spaced-utf8 (w ∷ ws) h =
    let here : IsUtf8 (32 ∷ w) = IsUtf8-append (32 ∷ []) w (IsUtf8-from_ascii (32 ∷ []) space-ascii) (All-head IsWord w ws h).utf8 in
    IsUtf8-append (32 ∷ w) (spaced ws) here (spaced-utf8 ws (All-tail IsWord w ws h))

-- and so is a line
line-utf8 : (words : List Text) → All IsWord words → IsUtf8 (line_of words)
line-utf8 [] h = IsUtf8-nil
line-utf8 (w ∷ ws) h = IsUtf8-append w (spaced ws) (All-head IsWord w ws h).utf8 (spaced-utf8 ws (All-tail IsWord w ws h))

-- a line that is written of words is UTF-8
pub utf8-of-line : (words : List Text) → All IsWord words → is_utf8 (line_of words) ≡ true
utf8-of-line words h = is_utf8-from_IsUtf8 (line_of words) (line-utf8 words h)

-- Its bytes.

-- a space or a visible byte
abbrev IsWrittenByte : ℕ → Type 0
IsWrittenByte b = (32 ≤ b) × (b ≢ 127)

-- the bytes of a word
word-written : (w : Text) → All IsVisible w → All IsWrittenByte w
word-written w h k d lt = let v : IsVisible (get_or w k d) = h k d lt in let above = v.0 in (omega arith, v.1)

-- the bytes of words with a space before each
spaced-written : (ws : List Text) → All IsWord ws → All IsWrittenByte (spaced ws)
spaced-written [] h = none-of _
spaced-written (w ∷ ws) h =
    let here : All IsWrittenByte (32 ∷ w) = All-cons IsWrittenByte 32 w (omega arith, omega arith) (word-written w (All-head IsWord w ws h).visible) in
    All-append IsWrittenByte (32 ∷ w) (spaced ws) here (spaced-written ws (All-tail IsWord w ws h))

-- the bytes of a line
line-written : (words : List Text) → All IsWord words → All IsWrittenByte (line_of words)
line-written [] h = none-of _
line-written (w ∷ ws) h = All-append IsWrittenByte w (spaced ws) (word-written w (All-head IsWord w ws h).visible) (spaced-written ws (All-tail IsWord w ws h))

-- none is a control character
no-control : (b : ℕ) → IsWrittenByte b → is_control b ≡ false
no-control b h =
    let above : 32 ≤ b = h.0 in
    let other : b ≢ 127 = h.1 in
    let high : nat_lt b 32 ≡ false = search (rules, tests) in
    let no_delete : (b == 127) ≡ false = search (rules, tests) in
    rw (high, no_delete) refl

-- a line that is written of words has no control character
pub no-control-in-line : (words : List Text) → All IsWord words → has_control (line_of words) ≡ false
no-control-in-line words h = let all = line-written words h in list_any_none is_control (line_of words) (λ k d lt. no-control _ (all k d lt))

-- The lines of a text.

-- it has no line feed
abbrev IsUnended : Text → Type 0
IsUnended line = All (λ b. (b == 10) ≡ false) line

-- so is a line that is written of words
line-unended : (words : List Text) → All IsWord words → IsUnended (line_of words)
line-unended words h = let all = line-written words h in λ k d lt. by (get_or (line_of words) k d) (all k d lt)
  where
    by : (b : ℕ) → IsWrittenByte b → (b == 10) ≡ false
    by b w = let above : 32 ≤ b = w.0 in search (rules, tests)

-- a line feed ends a line
lines-cut : (line rest : Text) → IsUnended line → lines_of (line ++ 10 ∷ rest) ≡ line ∷ lines_of rest
unfolding lines_of
lines-cut [] rest h = refl
lines-cut (b ∷ bs) rest h =
    let other : (b == 10) ≡ false = All-head (λ c. (c == 10) ≡ false) b bs h in
    ap (with_byte b) (lines-cut bs rest (All-tail (λ c. (c == 10) ≡ false) b bs h)) ∙ rw other refl

-- the lines of a text are those that were written, and those of what follows
lines-before : (lines : List (List Text)) (rest : Text) → All (All IsWord) lines → lines_of (text_of lines ++ rest) ≡ map line_of lines ++ lines_of rest
lines-before [] rest h = refl
lines-before (ws ∷ lines) rest h =
    let here : IsUnended (line_of ws) = line-unended ws (All-head (All IsWord) ws lines h) in
    let shape : (ended (line_of ws) ++ text_of lines) ++ rest ≡ line_of ws ++ 10 ∷ (text_of lines ++ rest) = simp append_assoc in
    let more = lines-before lines rest (All-tail (All IsWord) ws lines h) in
    ap lines_of shape ∙ (lines-cut (line_of ws) (text_of lines ++ rest) here ∙ ap (λ (ls : List Text). line_of ws ∷ ls) more)

-- the lines that a text is written of are its lines
pub lines-of-text : (lines : List (List Text)) → All (All IsWord) lines → lines_of (text_of lines) ≡ map line_of lines
lines-of-text lines h =
    ap lines_of (sym (append-nil (text_of lines)))
    ∙ (lines-before lines [] h ∙ (ap (λ (ls : List Text). map line_of lines ++ ls) lines-nil ∙ append-nil (map line_of lines)))
