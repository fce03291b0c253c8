-- Lines of texts, and where two texts differ first.
use Rattle.std.proofs.Common.{◌≡◌, ◌==◌, ◌++◌, ◌+◌, ◌-◌, ◌<◌, ◌∙◌, ℕ, suc, [], ◌∷◌, Bool, true, false, length, take, arith, cond, ap, refl, subst, sym}
use Rattle.std.proofs.Math.Seq.{take-append_seam}
use Rattle.std.proofs.lemmas.List.{length-append}
use Rattle.abt_machine.specs.Words.{Text}
use Rattle.abt_run.specs.Differing.{DifferAfter, after_line, first_line}

-- the first line of a text of more than one byte, and what follows it, if the text after its first byte is its first line and what follows that
joined : (b : ℕ) (bs : Text) (c : Bool) → first_line bs ++ after_line bs ≡ bs → (b ∷ cond c [] (first_line bs)) ++ cond c bs (after_line bs) ≡ b ∷ bs
joined b bs true more = refl
joined b bs false more = ap (λ (t : Text). b ∷ t) more

-- a text is its first line and what follows it
line-and-rest : (text : Text) → first_line text ++ after_line text ≡ text
line-and-rest [] = refl
line-and-rest (b ∷ bs) = joined b bs (b == 10) (line-and-rest bs)

lengths : (text : Text) → length (first_line text) + length (after_line text) ≡ length text
lengths text = sym (length-append (first_line text) (after_line text)) ∙ ap length (line-and-rest text)

-- the first line is what stands before the rest
pub line-before : (text : Text) → take (length text - length (after_line text)) text ≡ first_line text
line-before text =
    let n : length text - length (after_line text) ≡ length (first_line text) = let all = lengths text in omega (arith, all) in
    ap (λ (m : ℕ). take m text) n ∙ ap (λ (t : Text). take (length (first_line text)) t) (sym (line-and-rest text)) ∙ take-append_seam (first_line text) (after_line text)

empty : (text : Text) → length text ≡ 0 → text ≡ []
empty [] none = refl
empty (b ∷ bs) none = absurd (omega arith)

-- a text without a line is empty
no-line : (text : Text) → first_line text ≡ [] → text ≡ []
no-line [] none = refl
no-line (b ∷ bs) none = cc

-- One round of a search for the first difference: the next lines of both texts, and what follows them.
module _ (one other expected found line instead more others : Text) (first : line ≡ first_line one) (second : instead ≡ first_line other) (rest : more ≡ after_line one) (tail : others ≡ after_line other) where
  -- the lines differ
  pub differ-here : (n : ℕ) → (line ≡ instead → ⊥) → ((k : ℕ) (e f : Text) → DifferAfter k one other e f → DifferAfter (n + k) expected found e f) → DifferAfter n expected found line instead
  differ-here n differ whole =
      let count : n + 0 ≡ n = omega arith in
      subst (λ (m : ℕ). DifferAfter m expected found line instead) count (whole 0 line instead (first, second, differ))

  module _ (same : line ≡ instead) where
    lines-same : first_line one ≡ first_line other
    lines-same = sym first ∙ same ∙ second

    -- both texts have ended
    pub both-end : length line ≡ 0 → (one ≡ other → expected ≡ found) → expected ≡ found
    both-end none whole = let ended = empty line none in whole (no-line one (sym first ∙ ended) ∙ sym (no-line other (sym second ∙ sym same ∙ ended)))

    -- the texts are the same if what follows is
    pub same-then : (one ≡ other → expected ≡ found) → more ≡ others → expected ≡ found
    same-then whole equal = whole (
        sym (line-and-rest one) ∙ ap (λ (t : Text). t ++ after_line one) lines-same
        ∙ ap (λ (t : Text). first_line other ++ t) (sym rest ∙ equal ∙ tail) ∙ line-and-rest other)

    -- or differ where what follows does
    pub differ-then : (n : ℕ) → ((k : ℕ) (e f : Text) → DifferAfter k one other e f → DifferAfter (n + k) expected found e f)
        → (k : ℕ) (e f : Text) → DifferAfter k more others e f → DifferAfter (n + 1 + k) expected found e f
    differ-then n whole = λ k e f later.
        let count : n + suc k ≡ n + 1 + k = omega arith in
        subst (λ (m : ℕ). DifferAfter m expected found e f) count
        (whole (suc k) e f (lines-same, subst (λ (t : Text). DifferAfter k t (after_line other) e f) rest (subst (λ (t : Text). DifferAfter k more t e f) tail later)))

    -- what follows a line is shorter
    pub shorter-then : 0 < length line → length more < length one
    shorter-then some =
        let all = lengths one in
        let n : length more ≡ length (after_line one) = ap length rest in
        let l : length line ≡ length (first_line one) = ap length first in
        omega (arith, all, n, l, some)
