-- The words of a life's line.
use Rattle.std.proofs.Common.{◌≡◌, ◌≢◌, ◌<◌, ◌==◌, ◌∙◌, ℕ, not, List, [], ◌∷◌, ◌++◌, length, get_or, refl, ap, subst, sym, arith, append_assoc, decimal, codes, Bor, Option, Some, None}
use Rattle.std.specs.List.{All}
use Rattle.std.specs.Option.{MatchOption}
use Rattle.std.specs.Str.{IsAscii, IsUtf8}
use Rattle.std.proofs.lemmas.Bool.{eqb-false, not-true}
use Rattle.std.proofs.lemmas.Fmt.{IsAscii-decimal, decimal_injective, decimal_is_IsNumeral}
use Rattle.std.proofs.lemmas.List.{append-nil, append_cancel_left, get_or_default}
use Rattle.std.proofs.lemmas.List.Elements.{All-append, All-cons}
use Rattle.std.proofs.lemmas.List.Sums.{AllPass-from_list_all}
use Rattle.std.proofs.lemmas.Str.{IsAscii-append, IsUtf8-from_ascii}
use Rattle.std.proofs.lemmas.Str.Ascii.{IsAscii-cons, IsAscii-nil}
use Rattle.std.proofs.lemmas.Str.Parse.{digit_at}
use Rattle.std.proofs.lemmas.Str.Pattern.{IsSplitOnceResult, split_after}
use Rattle.std.proofs.lemmas.Option.{slice_get_within}
use Rattle.abt_machine.specs.declared.workload.Parts.{Parts}
use Rattle.abt_machine.specs.Valid.{IsValid}
use Rattle.abt_machine.specs.Words.{Text, ended, line_of}
use Rattle.abt_report.specs.Journals.{IsShort}
use Rattle.abt_streams.specs.declared.life.Life.{Life}
use Rattle.abt_streams.specs.Lives.{MayFollow}
use Rattle.abt_streams.proofs.Cutting.{Lacks, cut-same}
use Rattle.abt_streams.proofs.FirstLines.{ended-front}
use Rattle.abt_streams.specs.Texts.{IsShortLife, IsNoFeed, life_line, life_words}

-- the bytes of a number are digits
pub no-digit : (b n : ℕ) → b < 48 → IsShort n → (i : ℕ) → i < length (decimal n) → get_or (decimal n) i 0 ≢ b
no-digit b n small fits i lt e =
    let digit = digit_at (decimal n) i (decimal_is_IsNumeral n (omega arith)).0.1 lt in
    absurd (omega (arith, digit.0, e))

-- the first word has no space
pub no-space : (i : ℕ) → i < length (codes "life") → get_or (codes "life") i 0 ≢ 32
no-space i lt = eqb-false (get_or (codes "life") i 0) 32 (not-true (get_or (codes "life") i 0 == 32) (AllPass-from_list_all (λ b. not (b == 32)) (codes "life") refl i 0 lt))

-- what stands behind each word
abbrev pub behind_begins : Life → Text
behind_begins life = decimal life.ends.0 ++ 10 ∷ []

abbrev pub behind_stream : Life → Text
behind_stream life = decimal life.begins.0 ++ 32 ∷ behind_begins life

abbrev pub behind_word : Life → Text
behind_word life = decimal life.stream.0 ++ 32 ∷ behind_stream life

-- three words with a space before the second and the third, and a line feed behind them
ended-words : (a b c : Text) → ended (a ++ 32 ∷ (b ++ 32 ∷ (c ++ []))) ≡ a ++ 32 ∷ (b ++ 32 ∷ (c ++ 10 ∷ []))
ended-words a b c = simp (append_assoc, append-nil)

pub line-parts : (life : Life) → life_line life ≡ codes "life" ++ 32 ∷ behind_word life
line-parts life = rw (ended-words (decimal life.stream.0) (decimal life.begins.0) (decimal life.ends.0)) refl

-- Lines.

plain-word : Lacks 10 (codes "life")
plain-word k d lt = eqb-false (get_or (codes "life") k d) 10 (not-true (get_or (codes "life") k d == 10) (AllPass-from_list_all (λ b. not (b == 10)) (codes "life") refl k d lt))

plain-number : (mark n : ℕ) → mark < 48 → IsShort n → Lacks mark (decimal n)
plain-number mark n small fits k d lt e = no-digit mark n small fits k lt (get_or_default (decimal n) k 0 d lt ∙ e)

-- a line of three numbers behind a word has no line feed
plain-words : (word a b c : Text) → Lacks 10 word → Lacks 10 a → Lacks 10 b → Lacks 10 c → Lacks 10 (line_of (word ∷ a ∷ b ∷ c ∷ []))
plain-words word a b c hw ha hb hc =
    let no_space : 32 ≢ 10 = λ e. absurd (omega (arith, e)) in
    let nil : Lacks 10 [] = λ k d lt. absurd (omega arith) in
    let behind_c = All-append (λ x. x ≢ 10) (32 ∷ c) [] (All-cons (λ x. x ≢ 10) 32 c no_space hc) nil in
    let behind_b = All-append (λ x. x ≢ 10) (32 ∷ b) ((32 ∷ c) ++ []) (All-cons (λ x. x ≢ 10) 32 b no_space hb) behind_c in
    All-append (λ x. x ≢ 10) word ((32 ∷ a) ++ ((32 ∷ b) ++ ((32 ∷ c) ++ []))) hw
    (All-append (λ x. x ≢ 10) (32 ∷ a) ((32 ∷ b) ++ ((32 ∷ c) ++ [])) (All-cons (λ x. x ≢ 10) 32 a no_space ha) behind_b)

-- nor has a life's
pub plain-line : (life : Life) → IsShortLife life → All IsNoFeed (line_of (life_words life))
plain-line life fits =
    plain-words (codes "life") (decimal life.stream.0) (decimal life.begins.0) (decimal life.ends.0) plain-word
    (plain-number 10 life.stream.0 (omega arith) fits.stream) (plain-number 10 life.begins.0 (omega arith) fits.begins) (plain-number 10 life.ends.0 (omega arith) fits.ends)

-- numbers with the same digits are the same
same-number : (m n : ℕ) → IsShort m → IsShort n → decimal m ≡ decimal n → m ≡ n
same-number m n fits fits' e = decimal_injective m n (omega arith) (omega arith) e

-- lines that begin the same text are of one life
pub lines-same : (l k : Life) (us vs : Text) → IsShortLife l → IsShortLife k → life_line l ++ us ≡ life_line k ++ vs → (l ≡ k) × (us ≡ vs)
lines-same l k us vs hl hk e =
    let first = cut-same 10 (line_of (life_words l)) (line_of (life_words k)) us vs (plain-line l hl) (plain-line k hk)
    (ended-front (line_of (life_words l)) us (life_line l ++ us) refl ∙ (e ∙ sym (ended-front (line_of (life_words k)) vs (life_line k ++ vs) refl))) in
    let whole : codes "life" ++ 32 ∷ behind_word l ≡ codes "life" ++ 32 ∷ behind_word k = sym (line-parts l) ∙ (ap ended first.0 ∙ line-parts k) in
    let word : 32 ∷ behind_word l ≡ 32 ∷ behind_word k = append_cancel_left (codes "life") (32 ∷ behind_word l) (32 ∷ behind_word k) whole in
    let numbers : behind_word l ≡ behind_word k = cc in
    let stream = cut-same 32 (decimal l.stream.0) (decimal k.stream.0) (behind_stream l) (behind_stream k) (plain-number 32 l.stream.0 (omega arith) hl.stream) (plain-number 32 k.stream.0 (omega arith) hk.stream) numbers in
    let begins = cut-same 32 (decimal l.begins.0) (decimal k.begins.0) (behind_begins l) (behind_begins k) (plain-number 32 l.begins.0 (omega arith) hl.begins) (plain-number 32 k.begins.0 (omega arith) hk.begins) stream.1 in
    let ends = cut-same 10 (decimal l.ends.0) (decimal k.ends.0) [] [] (plain-number 10 l.ends.0 (omega arith) hl.ends) (plain-number 10 k.ends.0 (omega arith) hk.ends) begins.1 in
    let s = same-number l.stream.0 k.stream.0 hl.stream hk.stream stream.0 in
    let b = same-number l.begins.0 k.begins.0 hl.begins hk.begins begins.0 in
    let n = same-number l.ends.0 k.ends.0 hl.ends hk.ends ends.0 in
    let same : l ≡ k = ap (λ x. record { stream = record { 0 = x }; begins = l.begins; ends = l.ends }) s ∙ (ap (λ x. record { stream = k.stream; begins = record { 0 = x }; ends = l.ends }) b ∙ ap (λ x. record { stream = k.stream; begins = k.begins; ends = record { 0 = x } }) n) in
    (same, first.1)

-- a line is text
pub is-text : (life : Life) → IsShortLife life → IsUtf8 (life_line life)
is-text life fits =
    let ascii : (n : ℕ) → IsShort n → IsAscii (decimal n) = λ n few. IsAscii-decimal n (omega arith) in
    let behind : (xs ys : Text) → IsAscii xs → IsAscii ys → IsAscii (xs ++ 32 ∷ ys) = λ xs ys a b. IsAscii-append xs (32 ∷ ys) a (IsAscii-cons 32 ys (omega arith) b) in
    let word : IsAscii (codes "life") = IsAscii-cons 108 (105 ∷ 102 ∷ 101 ∷ []) (omega arith) (IsAscii-cons 105 (102 ∷ 101 ∷ []) (omega arith) (IsAscii-cons 102 (101 ∷ []) (omega arith) (IsAscii-cons 101 [] (omega arith) IsAscii-nil))) in
    IsUtf8-from_ascii (life_line life) (subst IsAscii (sym (line-parts life))
    (behind (codes "life") (behind_word life) word (behind (decimal life.stream.0) (behind_stream life) (ascii life.stream.0 fits.stream)
    (behind (decimal life.begins.0) (behind_begins life) (ascii life.begins.0 fits.begins) (IsAscii-append (decimal life.ends.0) (10 ∷ []) (ascii life.ends.0 fits.ends) (IsAscii-cons 10 [] (omega arith) IsAscii-nil))))))

-- the numbers of a life are those of a valid workload, so they are short
pub short : (W : Parts) (before : List Life) (life : Life) → IsValid W → MayFollow W before life → IsShortLife life
short W before life valid may =
    let begins = slice_get_within W.objects life.begins.0 _ may.begins in
    let ends = slice_get_within W.objects life.ends.0 _ may.ends in
    record {
      stream = omega (arith, valid.few_streams, may.declared);
      begins = omega (arith, valid.few_objects, begins);
      ends = omega (arith, valid.few_objects, ends);
    }

-- Cuts.

-- a text and its two parts round a mark
abbrev pub Cuts : ℕ → Text → Option (Bor Text × Bor Text) → Type 0
Cuts mark text found = IsSplitOnceResult mark text found

-- the line, cut at its first space
pub word-cut : (life : Life) (line : Text) (found : Option (Bor Text × Bor Text)) → life_line life ≡ line → Cuts 32 line found → MatchOption found ⊥ (λ parts. parts.1.now ≡ behind_word life)
word-cut life line found is cut = second found (split_after 32 line (codes "life") (behind_word life) found cut (omega arith) (sym is ∙ line-parts life) no-space)
  where
    second : (found : Option (Bor Text × Bor Text)) → MatchOption found ⊥ (λ parts. (parts.0.now ≡ codes "life") × (parts.1.now ≡ behind_word life)) → MatchOption found ⊥ (λ parts. parts.1.now ≡ behind_word life)
    second None both = both
    second (Some parts) both = both.1

-- what follows, at the next
pub stream-cut : (life : Life) (text : Text) (found : Option (Bor Text × Bor Text)) → IsShortLife life → text ≡ behind_word life → Cuts 32 text found →
    MatchOption found ⊥ (λ parts. (parts.0.now ≡ decimal life.stream.0) × (parts.1.now ≡ behind_stream life))
stream-cut life text found fits is cut = split_after 32 text (decimal life.stream.0) (behind_stream life) found cut (omega arith) is (no-digit 32 life.stream.0 (omega arith) fits.stream)

-- and at the last
pub begins-cut : (life : Life) (text : Text) (found : Option (Bor Text × Bor Text)) → IsShortLife life → text ≡ behind_stream life → Cuts 32 text found →
    MatchOption found ⊥ (λ parts. (parts.0.now ≡ decimal life.begins.0) × (parts.1.now ≡ behind_begins life))
begins-cut life text found fits is cut = split_after 32 text (decimal life.begins.0) (behind_begins life) found cut (omega arith) is (no-digit 32 life.begins.0 (omega arith) fits.begins)

-- the last number stands before the line feed
pub ends-cut : (life : Life) (text : Text) (found : Option (Bor Text × Bor Text)) → IsShortLife life → text ≡ behind_begins life → Cuts 10 text found →
    MatchOption found ⊥ (λ parts. (parts.0.now ≡ decimal life.ends.0) × (parts.1.now ≡ []))
ends-cut life text found fits is cut = split_after 10 text (decimal life.ends.0) [] found cut (omega arith) is (no-digit 10 life.ends.0 (omega arith) fits.ends)
