-- Where the first line of a text ends.
use Rattle.std.proofs.Common.{◌≡◌, ◌<◌, ◌==◌, ℕ, zero, suc, true, false, List, [], ◌∷◌, length, take, drop, get_or, refl, arith}
use Rattle.abt_machine.specs.Spelling.{lines_of, with_byte}

onto : (b : ℕ) (rest line : List ℕ) (more : List (List ℕ)) (lines : List (List ℕ)) → (b == 10) ≡ false → lines ≡ line ∷ more → with_byte b lines ≡ (b ∷ line) ∷ more
onto b rest line more lines other e = rw (e, other) refl

pub lines-at : (text : List ℕ) (k : ℕ) → k < length text → (get_or text k 0 == 10) ≡ true → ((j : ℕ) → j < k → (get_or text j 0 == 10) ≡ false) → lines_of text ≡ take k text ∷ lines_of (drop (suc k) text)
unfolding lines_of
lines-at [] k lt at before = absurd (omega arith)
lines-at (b ∷ bs) zero lt at before = rw at refl
lines-at (b ∷ bs) (suc k) lt at before =
    let other : (b == 10) ≡ false = before 0 (omega arith) in
    let lt' : k < length bs = omega arith in
    onto b bs (take k bs) (lines_of (drop (suc k) bs)) (lines_of bs) other (lines-at bs k lt' at (λ j h. before (suc j) (omega arith)))

pub lines-last : (b : ℕ) (bs : List ℕ) → ((j : ℕ) → j < length (b ∷ bs) → (get_or (b ∷ bs) j 0 == 10) ≡ false) → lines_of (b ∷ bs) ≡ (b ∷ bs) ∷ []
unfolding lines_of
lines-last b [] none = let other : (b == 10) ≡ false = none 0 (omega arith) in rw other refl
lines-last b (c ∷ cs) none =
    let other : (b == 10) ≡ false = none 0 (omega arith) in
    onto b (c ∷ cs) (c ∷ cs) [] (lines_of (c ∷ cs)) other (lines-last c cs (λ j h. none (suc j) (omega arith)))

pub lines-whole : (text : List ℕ) → 0 < length text → ((j : ℕ) → j < length text → (get_or text j 0 == 10) ≡ false) → lines_of text ≡ text ∷ []
lines-whole [] some none = absurd (omega arith)
lines-whole (b ∷ bs) some none = lines-last b bs none

pub lines-nil : lines_of [] ≡ []
unfolding lines_of
lines-nil = refl
