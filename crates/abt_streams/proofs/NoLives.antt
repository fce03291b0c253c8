-- What texts tell that begin with the lines of lives.
use Rattle.std.proofs.Common.{◌≡◌, ◌≢◌, ◌∙◌, List, [], ◌∷◌, ◌++◌, map, ap, refl, subst, sym, append_assoc}
use Rattle.std.proofs.lemmas.Grind.{flat_map-append}
use Rattle.std.proofs.lemmas.List.{append-nil, map_push}
use Rattle.abt_machine.specs.declared.workload.Parts.{Parts}
use Rattle.abt_machine.specs.Valid.{IsValid}
use Rattle.abt_machine.specs.Words.{Text, ended, line_of}
use Rattle.abt_streams.specs.declared.life.Life.{Life}
use Rattle.abt_streams.specs.Lives.{AreLives, AreLivesAfter, MayFollow}
use Rattle.abt_streams.specs.Texts.{life_line, life_words, lives_text}
use Rattle.abt_streams.proofs.Words.{lines-same, short}

-- the text does not begin with the line of a life that may follow these
abbrev pub BeginsNoLife : Parts → List Life → Text → Type 0
BeginsNoLife W before rest = (life : Life) (more : Text) → MayFollow W before life → life_line life ++ more ≡ rest → ⊥

-- a text with a life's line is not empty
some-line : (life : Life) (more : Text) → life_line life ++ more ≡ [] → ⊥
some-line life more e = cc

-- behind the lines of lives no text of lives goes on if no life's line begins
pub no-lives : (W : Parts) (before lives all others : List Life) (rest bytes : Text) → IsValid W → before ++ lives ≡ all → AreLivesAfter W before lives → lives_text lives ++ rest ≡ bytes → rest ≢ [] →
    BeginsNoLife W all rest → AreLivesAfter W before others → lives_text others ≡ bytes → ⊥
no-lives W before [] all [] rest bytes valid whole are at some none are' same = some (at ∙ sym same)
no-lives W before [] all (k ∷ ks) rest bytes valid whole are at some none are' same =
    none k (lives_text ks) (subst (λ (ls : List Life). MayFollow W ls k) (sym (append-nil before) ∙ whole) are'.0) (same ∙ sym at)
no-lives W before (l ∷ ls) all [] rest bytes valid whole are at some none are' same =
    some-line l (lives_text ls ++ rest) (sym (append_assoc (life_line l) (lives_text ls) rest) ∙ (at ∙ sym same))
no-lives W before (l ∷ ls) all (k ∷ ks) rest bytes valid whole are at some none are' same =
    let both = lines-same l k (lives_text ls ++ rest) (lives_text ks) (short W before l valid are.0) (short W before k valid are'.0)
    (sym (append_assoc (life_line l) (lives_text ls) rest) ∙ (at ∙ sym same)) in
    let after' : AreLivesAfter W (before ++ l ∷ []) ks = subst (λ (x : Life). AreLivesAfter W (before ++ x ∷ []) ks) (sym both.0) are'.1 in
    no-lives W (before ++ l ∷ []) ls all ks rest (lives_text ks) valid (append_assoc before (l ∷ []) ls ∙ whole) are.1 both.1 some none after' refl

after-push : (W : Parts) (before lives : List Life) (life : Life) → AreLivesAfter W before lives → MayFollow W (before ++ lives) life → AreLivesAfter W before (lives ++ life ∷ [])
after-push W before [] life are may = (subst (λ (ls : List Life). MayFollow W ls life) (append-nil before) may, tt)
after-push W before (l ∷ ls) life are may =
    (are.0, after-push W (before ++ l ∷ []) ls life are.1 (subst (λ (all : List Life). MayFollow W all life) (sym (append_assoc before (l ∷ []) ls)) may))

-- one life more
pub lives-push : (W : Parts) (lives : List Life) (life : Life) → AreLives W lives → MayFollow W lives life → AreLives W (lives ++ life ∷ [])
lives-push W lives life are may = after-push W [] lives life are may

-- and its line
pub lines-push : (lives : List Life) (life : Life) → lives_text (lives ++ life ∷ []) ≡ lives_text lives ++ life_line life
lines-push lives life = rw (map_push life_words lives life, flat_map-append (λ (words : List Text). ended (line_of words)) (map life_words lives) (life_words life ∷ []), append-nil (life_line life)) refl

-- behind which the text goes on
pub text-push : (lives : List Life) (life : Life) (bytes rest first more : Text) → lives_text lives ++ rest ≡ bytes → first ++ more ≡ rest → life_line life ≡ first →
    lives_text (lives ++ life ∷ []) ++ more ≡ bytes
text-push lives life bytes rest first more at split is =
    ap (λ (text : Text). text ++ more) (lines-push lives life) ∙ (append_assoc (lives_text lives) (life_line life) more ∙ (ap (λ (text : Text). lives_text lives ++ (text ++ more)) is ∙ (ap (λ (text : Text). lives_text lives ++ text) split ∙ at)))
