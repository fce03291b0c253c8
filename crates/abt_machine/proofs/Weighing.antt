-- How long a text of lines is, as the sum of what its lines weigh.
use Rattle.std.proofs.Common.{◌≡◌, ◌<◌, ◌+◌, ◌∙◌, ℕ, Bool, true, false, List, [], ◌∷◌, ◌++◌, add-one, add-zero, ap, arith, sym, drop, get_or, length, length-append, refl}
use Rattle.std.proofs.Math.Seq.{drop-cons}
use Rattle.std.specs.List.{enumerate_from}
use Rattle.abt_machine.specs.declared.operations.Op.{Op}
use Rattle.abt_machine.specs.declared.operations.Op.TheVariants as op
use Rattle.abt_machine.specs.declared.workload.Parts.{Parts}
use Rattle.abt_machine.specs.Canonical.{op_words}
use Rattle.abt_machine.specs.Words.{Text, ended, line_of, spaced, text_of}

-- the bytes of words, each with the space or the line feed after it
abbrev pub weight : List Text → ℕ
weight [] = 0
weight (w ∷ ws) = length w + 1 + weight ws

-- the bytes of lines
unfoldable pub size : List (List Text) → ℕ
size lines = length (text_of lines)

-- words with a space before each have their weight
spaced-length : (ws : List Text) → length (spaced ws) ≡ weight ws
spaced-length [] = refl
spaced-length (w ∷ ws) = let h = spaced-length ws in let e : length ((32 ∷ w) ++ spaced ws) ≡ length (32 ∷ w) + length (spaced ws) = length-append (32 ∷ w) (spaced ws) in omega arith

-- a line with its line feed has the bytes of its words, each with the one after it
pub ended-length : (w : Text) (ws : List Text) → length (ended (line_of (w ∷ ws))) ≡ weight (w ∷ ws)
ended-length w ws =
    let h = spaced-length ws in
    let inner : length (w ++ spaced ws) ≡ length w + length (spaced ws) = length-append w (spaced ws) in
    let outer : length ((w ++ spaced ws) ++ 10 ∷ []) ≡ length (w ++ spaced ws) + 1 = length-append (w ++ spaced ws) (10 ∷ []) in
    omega arith

-- a first line adds its words' weight
pub size-cons : (w : Text) (ws : List Text) (lines : List (List Text)) → size ((w ∷ ws) ∷ lines) ≡ weight (w ∷ ws) + size lines
unfolding size
size-cons w ws lines = let e = length-append (ended (line_of (w ∷ ws))) (text_of lines) in let f = ended-length w ws in omega arith

-- no line has no byte
pub size-nil : size [] ≡ 0
unfolding size
size-nil = refl

-- a line that has words
abbrev pub has_words : List Text → Bool
has_words [] = false
has_words (w ∷ ws) = true

-- the same of a line that has words
pub size-line : (line : List Text) (lines : List (List Text)) → has_words line ≡ true → size (line ∷ lines) ≡ weight line + size lines
size-line [] lines some = cc
size-line (w ∷ ws) lines some = size-cons w ws lines

-- the lines of two lists have the bytes of each list's
pub size-append : (xs ys : List (List Text)) → size (xs ++ ys) ≡ size xs + size ys
unfolding size
size-append [] ys = omega arith
size-append (x ∷ xs) ys =
    let h = size-append xs ys in
    let e = length-append (ended (line_of x)) (text_of (xs ++ ys)) in
    let f = length-append (ended (line_of x)) (text_of xs) in
    omega arith

-- the list from a place on is its element there and the list from the next place on
pub drop-more : {A : Type 0} (xs : List A) (i : ℕ) (x : A) → x ≡ get_or xs i x → i < length xs → drop i xs ≡ x ∷ drop (i + 1) xs
drop-more xs i x is within = rw add-one (drop-cons xs i x within) ∙ ap (λ y. y ∷ drop (i + 1) xs) (sym is)

-- the element behind a list has the next number
pub enumerate-behind : {A : Type 0} (n : ℕ) (xs : List A) (x : A) → enumerate_from n (xs ++ x ∷ []) ≡ enumerate_from n xs ++ (n + length xs, x) ∷ []
enumerate-behind n [] x = rw (add-zero n) refl
enumerate-behind n (y ∷ xs) x =
    let next : n + 1 + length xs ≡ n + length (y ∷ xs) = omega arith in
    rw (enumerate-behind (n + 1) xs x, next) refl

-- an operation's line has words
pub some-op : (W : Parts) (o : Op) → has_words (op_words W o) ≡ true
some-op W (op.Set n) = refl
some-op W _ = refl
