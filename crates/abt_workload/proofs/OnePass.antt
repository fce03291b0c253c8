-- The words of a text's first line, found in one pass up to the line's end.
use Rattle.std.proofs.Common.{◌≡◌, ◌<◌, ◌≤◌, ◌+◌, ◌==◌, ◌&&◌, ◌∙◌, ℕ, zero, suc, Bool, true, false, List, [], ◌∷◌, ◌++◌, All, length, take, drop, get_or, refl, ap, sym, arith, nat_lt, not, if◌then◌else◌, subst, length-take, length-drop, ◌-◌, Bor, map, append-nil}
use Rattle.std.proofs.lemmas.Bool.{eqb-true, le-ltb, lt-ltb, ltb-false, ltb-true, ne_eqb}
use Rattle.std.proofs.lemmas.List.{drop-drop, get_or-drop, get_or-take, get_or_default}
use Rattle.std.proofs.lemmas.List.Folds.{list_any_none}
use Rattle.std.proofs.lemmas.Str.{IsUtf8-from_ascii, is_utf8-from_IsUtf8}
use Rattle.std.proofs.lemmas.Str.Ascii.{IsAscii-from_all}
use Rattle.abt_machine.specs.Spelling.{is_control, is_separator, words_of}
use Rattle.abt_machine.specs.Words.{Text}
use Rattle.abt_workload.specs.Bytes.{IsClean, ends_word, is_printable}
use Rattle.abt_workload.proofs.Places.{and-left, and-right, or-both, or-left, or-right}
use Rattle.abt_workload.proofs.WordEnds.{rest-whole, some-byte, words-first, words-past}

-- the bytes before the first line feed
abbrev pub front : Text → Text
front [] = []
front (b ∷ bs) = if b == 10 then [] else b ∷ front bs

pub front-at : (text : Text) (k : ℕ) → k ≤ length text → (k < length text → (get_or text k 0 == 10) ≡ true)
    → ((j : ℕ) → j < k → (get_or text j 0 == 10) ≡ false) → front text ≡ take k text
front-at [] zero le at before = refl
front-at [] (suc k) le at before = absurd (omega arith)
front-at (b ∷ bs) zero le at before = let e : (b == 10) ≡ true = at (omega arith) in rw e refl
front-at (b ∷ bs) (suc k) le at before =
    let other : (b == 10) ≡ false = before 0 (omega arith) in
    rw other (ap (λ (t : Text). b ∷ t) (front-at bs k (omega arith) (λ lt. at (omega arith)) (λ j h. before (suc j) (omega arith))))

-- nothing of the first line is left at its end
pub front-end : (text : Text) → (0 < length text → (get_or text 0 0 == 10) ≡ true) → front text ≡ []
front-end [] at = refl
front-end (b ∷ bs) at = let e : (b == 10) ≡ true = at (omega arith) in rw e refl

-- bytes that are no line feed stay before the rest of the first line
front-past : (text : Text) (k : ℕ) → k ≤ length text → ((j : ℕ) → j < k → (get_or text j 0 == 10) ≡ false) → front text ≡ take k text ++ front (drop k text)
front-past [] zero le before = refl
front-past [] (suc k) le before = absurd (omega arith)
front-past (b ∷ bs) zero le before = refl
front-past (b ∷ bs) (suc k) le before =
    let other : (b == 10) ≡ false = before 0 (omega arith) in
    rw other (ap (λ (t : Text). b ∷ t) (front-past bs k (omega arith) (λ j h. before (suc j) (omega arith))))

-- what ends a word within a line is a separator
front-starts : (rest : Text) → (0 < length rest → ends_word (get_or rest 0 0) ≡ true) → 0 < length (front rest) → is_separator (get_or (front rest) 0 0) ≡ true
front-starts [] at some = absurd (omega arith)
front-starts (b ∷ bs) at some = by (b == 10) refl (at (omega arith)) some
  where
    by : (t : Bool) → (b == 10) ≡ t → ends_word b ≡ true → 0 < length (front (b ∷ bs)) → is_separator (get_or (front (b ∷ bs)) 0 0) ≡ true
    by true e ends some = let none : 0 < length (if true then [] else b ∷ front bs) = rw e at some in absurd (omega arith)
    by false e ends some = rw e (rw e at ends)

pub separator-other : (b : ℕ) → is_separator b ≡ true → (b == 10) ≡ false
separator-other b is = by (b == 10) refl
  where
    by : (t : Bool) → (b == 10) ≡ t → (b == 10) ≡ false
    by true e = let bad : is_separator 10 ≡ true = subst (λ (n : ℕ). is_separator n ≡ true) (eqb-true b 10 e) is in cc
    by false e = e

-- separators in front make no word
pub skip-words : (rest : Text) (k : ℕ) → k ≤ length rest → ((j : ℕ) → j < k → is_separator (get_or rest j 0) ≡ true) → words_of (front rest) ≡ words_of (front (drop k rest))
skip-words [] zero le before = refl
skip-words [] (suc k) le before = absurd (omega arith)
skip-words (b ∷ bs) zero le before = refl
skip-words (b ∷ bs) (suc k) le before =
    let sep : is_separator b ≡ true = before 0 (omega arith) in
    rw (separator-other b sep) (words-past b (front bs) sep ∙ skip-words bs k (omega arith) (λ j h. before (suc j) (omega arith)))

-- the first word of a line ends before a separator, or where the line ends
first-word : (n : ℕ) (rest : Text) → 0 < length rest → ends_word (get_or rest 0 0) ≡ false → n ≤ length rest
    → (n < length rest → ends_word (get_or rest n 0) ≡ true) → ((j : ℕ) → j < n → ends_word (get_or rest j 0) ≡ false)
    → words_of (front rest) ≡ take n rest ∷ words_of (front (drop n rest))
first-word zero rest some start le at before = absurd (let bad = at some in cc)
first-word (suc n) rest some start le at before =
    let all : All (λ b. is_separator b ≡ false) (take (suc n) rest) = λ j d lt.
    let lt' : j < suc n = omega (arith, length-take (suc n) rest) in
    let there : j < length rest = omega arith in
    rw (get_or-take (suc n) rest j d lt', get_or_default rest j d 0 there) (or-right (get_or rest j 0 == 10) _ (before j lt')) in
    let after : 0 < length (drop (suc n) rest) → ends_word (get_or (drop (suc n) rest) 0 0) ≡ true = λ lt.
    let there : suc n < length rest = omega (arith, length-drop (suc n) rest) in
    let e : get_or (drop (suc n) rest) 0 0 ≡ get_or rest (suc n + 0) 0 = get_or-drop (suc n) rest 0 0 in
    let z : suc n + 0 ≡ suc n = omega arith in
    rw (e, z) (at there) in
    ap (λ (t : Text). words_of t) (front-past rest (suc n) le (λ j h. or-left (get_or rest j 0 == 10) _ (before j h)))
    ∙ words-first (take (suc n) rest) (front (drop (suc n) rest)) all (some-byte (suc n) rest (omega arith) le) (front-starts (drop (suc n) rest) after)

-- the same of a text, at the place where the word begins, up to where the next begins
pub word-at : (text r s : Text) (at n k : ℕ) → r ≡ take (length text - at) (drop at text) → s ≡ take (length text - (at + n)) (drop (at + n) text)
    → 0 < length r → ends_word (get_or r 0 0) ≡ false → n ≤ length r → (n < length r → ends_word (get_or r n 0) ≡ true) → ((j : ℕ) → j < n → ends_word (get_or r j 0) ≡ false)
    → k ≤ length s → ((j : ℕ) → j < k → is_separator (get_or s j 0) ≡ true)
    → words_of (front (drop at text)) ≡ take (at + n - at) (drop at text) ∷ words_of (front (drop (at + n + k) text))
word-at text r s at n k er es some start le end before les seps =
    let r-is : r ≡ drop at text = er ∙ rest-whole at text in
    let s-is : s ≡ drop (at + n) text = es ∙ rest-whole (at + n) text in
    let cut : words_of (front r) ≡ take n r ∷ words_of (front (drop n r)) = first-word n r some start le end before in
    let skip : words_of (front s) ≡ words_of (front (drop k s)) = skip-words s k les seps in
    let s-after : drop n r ≡ s = ap (λ (t : Text). drop n t) r-is ∙ drop-drop n at text ∙ sym s-is in
    let next : drop k s ≡ drop (at + n + k) text = ap (λ (t : Text). drop k t) s-is ∙ drop-drop k (at + n) text in
    ap (λ (t : Text). words_of (front t)) (sym r-is) ∙ cut ∙ ap (λ (t : Text). take n r ∷ words_of (front t)) s-after
    ∙ ap (λ (ws : List Text). take n r ∷ ws) (skip ∙ ap (λ (t : Text). words_of (front t)) next)
    ∙ ap (λ (t : Text). take n t ∷ words_of (front (drop (at + n + k) text))) r-is
    ∙ ap (λ (i : ℕ). take i (drop at text) ∷ words_of (front (drop (at + n + k) text))) (let e : n ≡ at + n - at = omega arith in e)

-- one word more
pub and-word : (found new : List (Bor Text)) (word : Bor Text) (more all : List Text) → new ≡ found ++ word ∷ []
    → map (λ (w : Bor Text). w.now) found ++ word.now ∷ more ≡ all → map (λ (w : Bor Text). w.now) new ++ more ≡ all
and-word found new word more all e h = ap (λ (ws : List (Bor Text)). map (λ (w : Bor Text). w.now) ws ++ more) e ∙ onto found ∙ h
  where
    onto : (ws : List (Bor Text)) → map (λ (w : Bor Text). w.now) (ws ++ word ∷ []) ++ more ≡ map (λ (w : Bor Text). w.now) ws ++ word.now ∷ more
    onto [] = refl
    onto (w ∷ ws) = ap (λ (ws : List Text). w.now ∷ ws) (onto ws)

-- at the end of the line all words are found
pub all-words : (text : Text) (at : ℕ) (found : List Text) → at ≤ length text → (at < length text → (get_or text at 0 == 10) ≡ true) → ((j : ℕ) → j < at → (get_or text j 0 == 10) ≡ false)
    → found ++ words_of (front (drop at text)) ≡ words_of (front text) → found ≡ words_of (take at text)
all-words text at found le end before h =
    let after : 0 < length (drop at text) → (get_or (drop at text) 0 0 == 10) ≡ true = λ lt.
    let there : at < length text = omega (arith, length-drop at text) in
    let e : get_or (drop at text) 0 0 ≡ get_or text (at + 0) 0 = get_or-drop at text 0 0 in
    let z : at + 0 ≡ at = omega arith in
    rw (e, z) (end there) in
    let none : words_of (front (drop at text)) ≡ [] = ap (λ (t : Text). words_of t) (front-end (drop at text) after) in
    sym (append-nil found) ∙ ap (λ (ws : List Text). found ++ ws) (sym none) ∙ h ∙ ap (λ (t : Text). words_of t) (front-at text at le end before)

-- a byte of ASCII that is no control character but a tab
abbrev pub is_fine : ℕ → Bool
is_fine b = nat_lt b 128 && not (is_control b)

pub separator-fine : (b : ℕ) → is_separator b ≡ true → is_fine b ≡ true
separator-fine b is = by (b == 32) refl is
  where
    tab : (t : Bool) → (b == 9) ≡ t → t ≡ true → is_fine b ≡ true
    tab true e is = rw (eqb-true b 9 e) refl
    tab false e is = cc

    by : (t : Bool) → (b == 32) ≡ t → is_separator b ≡ true → is_fine b ≡ true
    by true e is = rw (eqb-true b 32 e) refl
    by false e is = tab (b == 9) refl (rw e at is)

pub printable-fine : (b : ℕ) → is_printable b ≡ true → is_fine b ≡ true
printable-fine b is =
    let low : 32 < b = ltb-true 32 b (and-left _ _ is) in
    let high : b < 127 = ltb-true b 127 (and-right (nat_lt 32 b) _ is) in
    let ascii : nat_lt b 128 ≡ true = lt-ltb b 128 (omega (arith, high)) in
    let above : nat_lt b 32 ≡ false = le-ltb b 32 (omega (arith, low)) in
    let other : (b == 127) ≡ false = ne_eqb b 127 (λ e. absurd (omega (arith, high, e))) in
    rw (ascii, above, other) refl

fine-clean : (line : Text) → All (λ b. is_fine b ≡ true) line → IsClean line
fine-clean line all = record {
  utf8 = is_utf8-from_IsUtf8 line (IsUtf8-from_ascii line (IsAscii-from_all line (λ j d lt. ltb-true _ 128 (and-left _ _ (all j d lt)))));
  control = list_any_none is_control line (λ j d lt. untrue _ (and-right (nat_lt (get_or line j d) 128) _ (all j d lt)));
}
  where
    untrue : (t : Bool) → not t ≡ true → t ≡ false
    untrue true e = cc
    untrue false e = refl

-- a line of such bytes is clean
pub bytes-clean : (text : Text) (at : ℕ) → at ≤ length text → ((j : ℕ) → j < at → is_fine (get_or text j 0) ≡ true) → IsClean (take at text)
bytes-clean text at le fine = fine-clean (take at text) (λ j d lt.
    let lt' : j < at = omega (arith, length-take at text) in
    let there : j < length text = omega arith in
    rw (get_or-take at text j d lt', get_or_default text j d 0 there) (fine j lt'))

-- the bytes of one word more, and of the separators behind it
pub and-bytes : (P : ℕ → Type 0) (text r s : Text) (at n k : ℕ) → r ≡ take (length text - at) (drop at text) → s ≡ take (length text - (at + n)) (drop (at + n) text)
    → ((j : ℕ) → j < at → P (get_or text j 0)) → ((j : ℕ) → j < n → P (get_or r j 0)) → ((j : ℕ) → j < k → P (get_or s j 0)) → (j : ℕ) → j < at + n + k → P (get_or text j 0)
and-bytes P text r s at n k er es before word seps j lt = by (nat_lt j at) (nat_lt j (at + n)) refl refl
  where
    at-r : (i : ℕ) → get_or r i 0 ≡ get_or text (at + i) 0
    at-r i = ap (λ (t : Text). get_or t i 0) (er ∙ rest-whole at text) ∙ get_or-drop at text i 0

    at-s : (i : ℕ) → get_or s i 0 ≡ get_or text (at + n + i) 0
    at-s i = ap (λ (t : Text). get_or t i 0) (es ∙ rest-whole (at + n) text) ∙ get_or-drop (at + n) text i 0

    by : (a b : Bool) → nat_lt j at ≡ a → nat_lt j (at + n) ≡ b → P (get_or text j 0)
    by true b e f = before j (ltb-true j at e)
    by false true e f =
        let low : at ≤ j = ltb-false j at e in
        let high : j < at + n = ltb-true j (at + n) f in
        let is : at + (j - at) ≡ j = omega (arith, low) in
        subst (λ (i : ℕ). P (get_or text i 0)) is (subst P (at-r (j - at)) (word (j - at) (omega (arith, low, high))))
    by false false e f =
        let low : at + n ≤ j = ltb-false j (at + n) f in
        let is : at + n + (j - (at + n)) ≡ j = omega (arith, low) in
        subst (λ (i : ℕ). P (get_or text i 0)) is (subst P (at-s (j - (at + n))) (seps (j - (at + n)) (omega (arith, low))))

-- a byte that is no separator and no line feed is of a word
pub both-other : (b : ℕ) → (b == 10) ≡ false → is_separator b ≡ false → ends_word b ≡ false
both-other b e f = or-both (b == 10) (is_separator b) e f

pub rest-first : (P : ℕ → Type 0) (text : Text) (at : ℕ) → P (get_or text at 0) → P (get_or (take (length text - at) (drop at text)) 0 0)
rest-first P text at h =
    let e : get_or (drop at text) 0 0 ≡ get_or text (at + 0) 0 = get_or-drop at text 0 0 in
    let z : at + 0 ≡ at = omega arith in
    rw (rest-whole, e, z) h

pub rest-length : (text : Text) (at : ℕ) → length (take (length text - at) (drop at text)) ≡ length text - at
rest-length text at = ap (λ (t : Text). length t) (rest-whole at text) ∙ length-drop at text

-- what holds of a byte of the rest holds of the text's
pub rest-at : (P : ℕ → Type 0) (text : Text) (at k : ℕ) → P (get_or (take (length text - at) (drop at text)) k 0) → P (get_or text (at + k) 0)
rest-at P text at k h = subst P (ap (λ (t : Text). get_or t k 0) (rest-whole at text) ∙ get_or-drop at text k 0) h
