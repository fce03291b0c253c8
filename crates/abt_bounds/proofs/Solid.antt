-- The words of events are solid: a line is split into its words, and a text into its lines.
use Rattle.std.proofs.Common.{◌≡◌, ◌≢◌, ◌<◌, ◌+◌, ◌/◌, ◌%◌, ◌==◌, ◌∙◌, ℕ, zero, suc, Bool, true, false, List, [], ◌∷◌, ◌++◌, get_or, nat_lt, refl, ap, arith, decimal, codes}
use Rattle.std.specs.Fmt.{digit_glyph, digits, digits_onto}
use Rattle.std.specs.List.{All, AllByRecursion, list_all, slice_split}
use Rattle.std.proofs.lemmas.Bool.{cond_both, ltb-true}
use Rattle.std.proofs.lemmas.List.{append-nil}
use Rattle.std.proofs.lemmas.List.Elements.{All-append, All-cons, All-nil}
use Rattle.std.proofs.lemmas.List.Splits.{slice_split_at, slice_split_none}
use Rattle.std.proofs.lemmas.List.Sums.{AllPass-from_list_all}
use Rattle.abt_machine.specs.declared.events.Cause.{Cause}
use Rattle.abt_machine.specs.declared.events.Cause.TheVariants as cause
use Rattle.abt_machine.specs.declared.events.Code.{Code}
use Rattle.abt_machine.specs.declared.events.Code.TheVariants as code
use Rattle.abt_machine.specs.declared.events.Event.{Event}
use Rattle.abt_machine.specs.declared.events.What.{What}
use Rattle.abt_machine.specs.declared.events.What.TheVariants as what
use Rattle.abt_machine.specs.Texts.{cause_name, code_name, event_words, what_words}
use Rattle.abt_machine.specs.Words.{Text, line_of, spaced}

-- a byte above a space
abbrev pub IsInk : ℕ → Type 0
IsInk b = 32 < b

-- a word without blanks
abbrev pub IsSolid : Text → Type 0
IsSolid = All IsInk

-- a word that is written out is solid by a test
solid-by : (word : Text) → list_all (λ b. nat_lt 32 b) word ≡ true → IsSolid word
solid-by word e k d lt = ltb-true 32 (get_or word k d) (AllPass-from_list_all (λ b. nat_lt 32 b) word e k d lt)

-- a digit is no blank
glyph-ink : (d : ℕ) → IsInk (digit_glyph false d)
glyph-ink d = cond_both (nat_lt d 10) (48 + d) (87 + d) IsInk (λ e. omega arith) (λ e. omega arith)

solid-onto : (k n : ℕ) (word : Text) → IsSolid word → IsSolid (digits_onto k 10 false n word)
solid-onto zero n word solid = solid
solid-onto (suc k) n word solid =
    let more : IsSolid (digit_glyph false (n % 10) ∷ word) = All-cons IsInk (digit_glyph false (n % 10)) word (glyph-ink (n % 10)) solid in
    cond_both (n / 10 == 0) (digit_glyph false (n % 10) ∷ word) (digits_onto k 10 false (n / 10) (digit_glyph false (n % 10) ∷ word)) IsSolid
    (λ e. more) (λ e. solid-onto k (n / 10) (digit_glyph false (n % 10) ∷ word) more)

-- a number's word is solid
pub solid-decimal : (n : ℕ) → IsSolid (decimal n)
unfolding digits
solid-decimal n = solid-onto 64 n [] (All-nil IsInk)

solid-code : (c : Code) → IsSolid (code_name c)
solid-code c = solid-by (code_name c) (by c) where
  by : (c : Code) → list_all (λ b. nat_lt 32 b) (code_name c) ≡ true
  by code.Ok = refl
  by _ = refl

solid-cause : (c : Cause) → IsSolid (cause_name c)
solid-cause c = solid-by (cause_name c) (by c) where
  by : (c : Cause) → list_all (λ b. nat_lt 32 b) (cause_name c) ≡ true
  by cause.Own = refl
  by _ = refl

-- each word of what happened is solid
solid-what : (w : What) → AllByRecursion IsSolid (what_words w)
solid-what (what.Miss p) = (solid-by (codes "miss") refl, (solid-decimal p.0, tt))
solid-what (what.Take p u) = (solid-by (codes "take") refl, (solid-decimal p.0, (solid-decimal u.0, tt)))
solid-what (what.Look u) = (solid-by (codes "look") refl, (solid-decimal u.0, tt))
solid-what (what.Step u k c) = (solid-by (codes "step") refl, (solid-decimal u.0, (solid-decimal k, (solid-code c, tt))))
solid-what (what.Call u k n) = (solid-by (codes "call") refl, (solid-decimal u.0, (solid-decimal k, (solid-decimal n, tt))))
solid-what (what.Put u p) = (solid-by (codes "put") refl, (solid-decimal u.0, (solid-decimal p.0, tt)))
solid-what (what.End u c) = (solid-by (codes "end") refl, (solid-decimal u.0, (solid-cause c, tt)))
solid-what (what.Enter u) = (solid-by (codes "enter") refl, (solid-decimal u.0, tt))
solid-what (what.Leave u) = (solid-by (codes "leave") refl, (solid-decimal u.0, tt))

solid-later : (e : Event) → AllByRecursion IsSolid (decimal e.stream.0 ∷ what_words e.what)
solid-later e = (solid-decimal e.stream.0, solid-what e.what)

abbrev pub is_space : ℕ → Bool
is_space b = b == 32

other-than-space : (b : ℕ) → 32 < b → is_space b ≡ false
other-than-space b above = grind arith

-- solid words are split apart at single spaces
split-words : (w : Text) (ws : List Text) → IsSolid w → AllByRecursion IsSolid ws → slice_split is_space (w ++ spaced ws) ≡ w ∷ ws
split-words w [] h hs = rw (append-nil w) (slice_split_none is_space w (λ k d lt. other-than-space (get_or w k d) (h k d lt)))
split-words w (v ∷ vs) h hs =
    slice_split_at is_space w 32 (v ++ spaced vs) (λ k d lt. other-than-space (get_or w k d) (h k d lt)) refl ∙ ap (λ (xs : List Text). w ∷ xs) (split-words v vs hs.0 hs.1)

-- so an event's line is split into its words
pub split-line : (e : Event) → slice_split is_space (line_of (event_words e)) ≡ event_words e
split-line e = split-words (decimal e.stamp) (decimal e.stream.0 ∷ what_words e.what) (solid-decimal e.stamp) (solid-later e)

-- a byte that is no line feed
abbrev pub IsNoFeed : ℕ → Type 0
IsNoFeed b = b ≢ 10

no-feed : (b : ℕ) → 32 < b → IsNoFeed b
no-feed b above e = absurd (omega (arith, e))

unbroken-words : (ws : List Text) → AllByRecursion IsSolid ws → All IsNoFeed (spaced ws)
unbroken-words [] hs = λ k d lt. absurd (omega arith)
unbroken-words (w ∷ ws) hs =
    All-append IsNoFeed (32 ∷ w) (spaced ws) (All-cons IsNoFeed 32 w (λ e. absurd (omega (arith, e))) (λ k d lt. no-feed (get_or w k d) (hs.0 k d lt))) (unbroken-words ws hs.1)

-- there is no line feed in an event's line
pub unbroken-line : (e : Event) → All IsNoFeed (line_of (event_words e))
unbroken-line e =
    All-append IsNoFeed (decimal e.stamp) (spaced (decimal e.stream.0 ∷ what_words e.what)) (λ k d lt. no-feed (get_or (decimal e.stamp) k d) (solid-decimal e.stamp k d lt))
    (unbroken-words (decimal e.stream.0 ∷ what_words e.what) (solid-later e))
