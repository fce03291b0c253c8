-- How a word is spelt, and what the definition of the rest makes of it.
use Rattle.std.proofs.Common.{◌≡◌, ◌==◌, ◌∙◌, ℕ, Bool, true, false, refl, sym, ap, subst, List, [], ◌∷◌, ◌++◌, length, Some, None, codes, arith}
use Rattle.std.specs.Str.{chars, encode_utf8_all, IsUtf8}
use Rattle.std.specs.Prelude.{slice_get}
use Rattle.std.specs.Char.{encode_utf8}
use Rattle.std.proofs.lemmas.Str.{chars_past_char, encodes-chars}
use Rattle.std.proofs.lemmas.Bool.Decides.{nat_tests}
use Rattle.abt_machine.specs.Words.{Text}
use Rattle.abt_words.specs.Rests.{Options, and_other, and_word, is_option, rest_of}

encode-minus : encode_utf8 45 ≡ 45 ∷ []
unfolding encode_utf8
encode-minus = refl

encode-alone : encode_utf8_all (45 ∷ []) ≡ 45 ∷ []
unfolding encode_utf8
encode-alone = refl

-- what follows the hyphen of a text has a first character
pub first-char : (d : ℕ) (ds : Text) → IsUtf8 (45 ∷ d ∷ ds) → (x : ℕ) × (slice_get (chars (d ∷ ds)) 0 ≡ Some x)
first-char d ds utf8 = go (chars (d ∷ ds)) refl
  where
    all : chars (45 ∷ d ∷ ds) ≡ 45 ∷ chars (d ∷ ds)
    all = chars_past_char (45 ∷ d ∷ ds) (d ∷ ds) 45 utf8 (ap (λ l. l ++ (d ∷ ds)) (sym encode-minus))

    go : (xs : List ℕ) → chars (d ∷ ds) ≡ xs → (x : ℕ) × (slice_get (chars (d ∷ ds)) 0 ≡ Some x)
    go (x ∷ xs) e = (x, ap (λ l. slice_get l 0) e)
    go [] e =
        let short : 45 ∷ [] ≡ 45 ∷ d ∷ ds = sym encode-alone ∙ sym (ap encode_utf8_all (all ∙ ap (λ l. 45 ∷ l) e)) ∙ encodes-chars (45 ∷ d ∷ ds) utf8 in
        absurd (omega (arith, ap length short))

nat-is : (n : ℕ) → (n == 45) ≡ true → n ≡ 45
nat-is n e = grind (arith, nat_tests)

-- how a word is spelt
pub data Spelling (w : Text) : Type 0 where
  ends : w ≡ codes "--" → Spelling w
  long : (c : ℕ) (cs : Text) → w ≡ 45 ∷ 45 ∷ c ∷ cs → Spelling w
  short : (d : ℕ) (ds : Text) (x : ℕ) → w ≡ 45 ∷ d ∷ ds → (d == 45) ≡ false → slice_get (chars (d ∷ ds)) 0 ≡ Some x → Spelling w
  plain : is_option w ≡ false → Spelling w

two : (ds : Text) → Spelling (45 ∷ 45 ∷ ds)
two [] = ends refl
two (c ∷ cs) = long c cs refl

-- every word is spelt in one of these ways
pub spelling : (w : Text) → IsUtf8 w → Spelling w
spelling [] utf8 = plain refl
spelling (c ∷ []) utf8 = plain refl
spelling (c ∷ d ∷ ds) utf8 = first (c == 45) refl
  where
    after : (b : Bool) → (d == 45) ≡ b → c ≡ 45 → Spelling (c ∷ d ∷ ds)
    after false e is = short d ds (first-char d ds (subst (λ (n : ℕ). IsUtf8 (n ∷ d ∷ ds)) is utf8)).0 (ap (λ n. n ∷ d ∷ ds) is) e
        (first-char d ds (subst (λ (n : ℕ). IsUtf8 (n ∷ d ∷ ds)) is utf8)).1
    after true e is = subst (λ (l : Text). Spelling l) (λ i. sym is i ∷ sym (nat-is d e) i ∷ ds) (two ds)

    first : (b : Bool) → (c == 45) ≡ b → Spelling (c ∷ d ∷ ds)
    first true e = after (d == 45) refl (nat-is c e)
    first false e = plain e

-- ---- what the definition makes of them

module _ (table : Options) (ws : List Text) where
  pub rest-plain : (w : Text) → is_option w ≡ false → rest_of table None (w ∷ ws) ≡ and_word w (rest_of table None ws)
  rest-plain [] e = refl
  rest-plain (c ∷ []) e = by (c == 45) refl
    where
      by : (b : Bool) → (c == 45) ≡ b → rest_of table None ((c ∷ []) ∷ ws) ≡ and_word (c ∷ []) (rest_of table None ws)
      by true f = simp f refl
      by false f = simp f refl
  rest-plain (c ∷ d ∷ ds) e = simp e refl

  pub rest-short : (d : ℕ) (ds : Text) → (d == 45) ≡ false → rest_of table None ((45 ∷ d ∷ ds) ∷ ws) ≡ and_other (rest_of table None ws)
  rest-short d ds e = simp e refl
