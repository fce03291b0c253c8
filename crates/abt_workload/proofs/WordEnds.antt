-- Where the first word of a line begins and ends.
use Rattle.std.proofs.Common.{◌≡◌, ◌<◌, ◌≤◌, ◌+◌, ◌-◌, ◌==◌, ◌∙◌, ℕ, zero, suc, true, false, List, [], ◌∷◌, ◌++◌, length, take, drop, get_or, refl, ap, sym, arith, rules, tests, append-nil, length-take, length-drop}
use Rattle.std.specs.List.{All}
use Rattle.std.proofs.lemmas.Bool.{eqb-true}
use Rattle.std.proofs.lemmas.List.{get_or-drop, get_or-take, get_or_default, take-append-drop, take_all}
use Rattle.std.proofs.lemmas.List.Splits.{slice_split_at, slice_split_none}
use Rattle.abt_machine.specs.Spelling.{is_empty, is_separator, words_of}
use Rattle.abt_machine.specs.Words.{Text}

-- a separator at the start makes no word
pub words-past : (b : ℕ) (rest : Text) → is_separator b ≡ true → words_of (b ∷ rest) ≡ words_of rest
words-past b rest e = rw e refl

-- nor do several
pub words-skip : (line : Text) (k : ℕ) → k ≤ length line → ((j : ℕ) → j < k → is_separator (get_or line j 0) ≡ true) → words_of line ≡ words_of (drop k line)
words-skip [] zero le before = refl
words-skip [] (suc k) le before = absurd (omega arith)
words-skip (b ∷ bs) zero le before = refl
words-skip (b ∷ bs) (suc k) le before = words-past b bs (before 0 (omega arith)) ∙ words-skip bs k (omega arith) (λ j h. before (suc j) (omega arith))

pub some-byte : (k : ℕ) (line : Text) → 0 < k → k ≤ length line → is_empty (take k line) ≡ false
some-byte zero line some le = absurd (omega arith)
some-byte (suc k) [] some le = absurd (omega arith)
some-byte (suc k) (b ∷ bs) some le = search (rules, tests)

-- a word ends where the line ends, or before a separator
pub words-first : (w rest : Text) → All (λ b. is_separator b ≡ false) w → is_empty w ≡ false → (0 < length rest → is_separator (get_or rest 0 0) ≡ true) → words_of (w ++ rest) ≡ w ∷ words_of rest
words-first w [] all some at = rw (append-nil, slice_split_none is_separator w all, some) refl
words-first w (c ∷ cs) all some at =
    let sep : is_separator c ≡ true = at (omega arith) in
    let split = slice_split_at is_separator w c cs all sep in
    rw (split, some) (ap (λ (ws : List Text). w ∷ ws) (sym (words-past c cs sep)))

-- the first word ends before the first separator
pub words-cut : (k : ℕ) (line : Text) → 0 < k → k ≤ length line → (k < length line → is_separator (get_or line k 0) ≡ true) → ((j : ℕ) → j < k → is_separator (get_or line j 0) ≡ false)
    → words_of line ≡ take k line ∷ words_of (drop k line)
words-cut k line some le at before =
    let whole : take k line ++ drop k line ≡ line = take-append-drop k line in
    let all : All (λ b. is_separator b ≡ false) (take k line) = λ j d lt.
    let lt' : j < k = omega (arith, length-take k line) in
    let there : j < length line = omega arith in
    rw (get_or-take k line j d lt', get_or_default line j d 0 there) (before j lt') in
    let after : 0 < length (drop k line) → is_separator (get_or (drop k line) 0 0) ≡ true = λ lt.
    let there : k < length line = omega (arith, length-drop k line) in
    let e : get_or (drop k line) 0 0 ≡ get_or line (k + 0) 0 = get_or-drop k line 0 0 in
    let z : k + 0 ≡ k = omega arith in
    rw (e, z) (at there) in
    ap words_of (sym whole) ∙ words-first (take k line) (drop k line) all (some-byte k line some le) after

pub rest-whole : (at : ℕ) (bytes : Text) → take (length bytes - at) (drop at bytes) ≡ drop at bytes
rest-whole at bytes = let le : length (drop at bytes) ≤ length bytes - at = simp length-drop (omega arith) in take_all _ _ le

-- the same of a cut line
pub word-taken : (k : ℕ) (line : Text) → 0 < length line → is_separator (get_or line 0 0) ≡ false → k ≤ length line → (k < length line → is_separator (get_or line k 0) ≡ true) → ((j : ℕ) → j < k → is_separator (get_or line j 0) ≡ false)
    → words_of line ≡ take k line ∷ words_of (take (length line - k) (drop k line))
word-taken zero line some front le at before = absurd (let bad = at some in cc)
word-taken (suc k) line some front le at before = rw rest-whole (words-cut (suc k) line (omega arith) le at before)

-- a length that is not 0
pub some-at : (n : ℕ) → (n == 0) ≡ false → 0 < n
some-at zero e = cc
some-at (suc n) e = omega arith

-- the rest of a line, from its first byte that is no separator
pub rest-words : (line : Text) (k : ℕ) → k ≤ length line → ((j : ℕ) → j < k → is_separator (get_or line j 0) ≡ true) → words_of line ≡ words_of (take (length line - k) (drop k line))
rest-words line k le before = rw rest-whole (words-skip line k le before)

pub rest-start : (line : Text) (k : ℕ) → (k < length line → is_separator (get_or line k 0) ≡ false) → 0 < length (take (length line - k) (drop k line))
    → is_separator (get_or (take (length line - k) (drop k line)) 0 0) ≡ false
rest-start line k at some =
    let there : k < length line = let lt : 0 < length (drop k line) = rw rest-whole at some in omega (arith, length-drop k line, lt) in
    let e : get_or (drop k line) 0 0 ≡ get_or line (k + 0) 0 = get_or-drop k line 0 0 in
    let z : k + 0 ≡ k = omega arith in
    rw (rest-whole, e, z) (at there)

pub no-words : (line : Text) → (length line == 0) ≡ true → words_of line ≡ []
no-words [] none = refl
no-words (b ∷ bs) none = absurd (let e : length (b ∷ bs) ≡ 0 = eqb-true _ 0 none in omega (arith, e))
