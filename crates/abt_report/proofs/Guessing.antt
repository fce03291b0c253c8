-- A line is split into its words.
use Rattle.std.proofs.Common.{◌≡◌, ◌≢◌, ◌∙◌, ◌<◌, ◌≤◌, ◌+◌, ℕ, false, List, [], ◌∷◌, ◌++◌, get_or, length, take, Result, Ok, refl, ap, sym, arith, append_assoc, length-append}
use Rattle.std.proofs.lemmas.List.{take_all, take-append-le}
use Rattle.std.proofs.lemmas.Bool.Decides.{nat_tests}
use Rattle.std.specs.List.{All, slice_split}
use Rattle.std.proofs.lemmas.List.Splits.{slice_split_at, slice_split_none}
use Rattle.abt_machine.specs.declared.events.Event.{Event}
use Rattle.abt_machine.specs.declared.events.What.{What}
use Rattle.abt_machine.specs.declared.events.What.TheVariants as what
use Rattle.abt_machine.specs.Texts.{event_words, what_words}
use Rattle.abt_machine.specs.Words.{Text}
use Rattle.abt_report.specs.Guesses.{is_space}

-- a result has one value
pub ok-same : {A E : Type 0} (a b : A) (r : Result A E) → r ≡ Ok a → r ≡ Ok b → a ≡ b
ok-same a b r p q = cc

eqb-other : (b : ℕ) → b ≢ 32 → is_space b ≡ false
eqb-other b other = grind (arith, nat_tests)

-- a word before a space is split off
pub one-word-more : (words : List Text) (line word rest more : Text) → words ++ slice_split is_space rest ≡ slice_split is_space line →
    All (λ b. b ≢ 32) word → word ++ 32 ∷ more ≡ rest → (words ++ word ∷ []) ++ slice_split is_space more ≡ slice_split is_space line
one-word-more words line word rest more before plain is =
    let split : slice_split is_space rest ≡ word ∷ slice_split is_space more =
    rw (sym is) (slice_split_at is_space word 32 more (λ k d lt. eqb-other (get_or word k d) (plain k d lt)) refl) in
    append_assoc words (word ∷ []) (slice_split is_space more) ∙ (ap (λ (ws : List Text). words ++ ws) (sym split) ∙ before)

-- a text without spaces is the last word, of seven at most
pub last-word : (words : List Text) (line rest : Text) → words ++ slice_split is_space rest ≡ slice_split is_space line →
    All (λ b. b ≢ 32) rest → length words < 7 → words ++ rest ∷ [] ≡ take 7 (slice_split is_space line)
last-word words line rest before plain few =
    let all : words ++ rest ∷ [] ≡ slice_split is_space line =
    ap (λ (ws : List Text). words ++ ws) (sym (slice_split_none is_space rest (λ k d lt. eqb-other (get_or rest k d) (plain k d lt)))) ∙ before in
    let count : length (words ++ rest ∷ []) ≡ length words + 1 = length-append words (rest ∷ []) in
    sym (take_all 7 (words ++ rest ∷ []) (omega (arith, count, few))) ∙ ap (take 7) all

-- seven words are the first seven
pub first-words : (words : List Text) (line rest : Text) → words ++ slice_split is_space rest ≡ slice_split is_space line →
    7 ≤ length words → length words ≤ 7 → words ≡ take 7 (slice_split is_space line)
first-words words line rest before many few =
    sym (take-append-le 7 words (slice_split is_space rest) many ∙ take_all 7 words few) ∙ ap (take 7) before

-- an event has six words at most
few-what-words : (w : What) → length (what_words w) ≤ 4
few-what-words (what.Miss p) = omega arith
few-what-words (what.Take p u) = omega arith
few-what-words (what.Look u) = omega arith
few-what-words (what.Step u k c) = omega arith
few-what-words (what.Call u k n) = omega arith
few-what-words (what.Put u p) = omega arith
few-what-words (what.End u c) = omega arith
few-what-words (what.Enter u) = omega arith
few-what-words (what.Leave u) = omega arith

pub few-words : (e : Event) → length (event_words e) ≤ 7
few-words e = let few = few-what-words e.what in omega (arith, few)
