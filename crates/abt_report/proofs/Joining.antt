-- Texts that were appended one behind the other.
use Rattle.std.proofs.Common.{◌≡◌, ℕ, List, [], ◌∷◌, ◌++◌, codes, decimal, length, append_assoc, sym}
use Rattle.std.proofs.lemmas.List.{append-nil, length-map}
use Rattle.abt_machine.specs.declared.events.Outcome.{Outcome}
use Rattle.abt_machine.specs.Texts.{Tally, outcome_words, tally_and_outcome, tally_of, tally_words}
use Rattle.abt_machine.specs.Words.{Text, ended, line_of}
use Rattle.abt_report.specs.Pictures.{unit_in_row, units_in_rows}
use Rattle.abt_report.specs.declared.pictures.Row.{Row}

-- a text behind what stands there goes on with one piece more
pub one-more : (out piece pieces more old new : Text) → old ≡ out ++ pieces → new ≡ old ++ piece → more ≡ pieces ++ piece → new ≡ out ++ more
one-more out piece pieces more old new before behind all =
    let joined : (out ++ pieces) ++ piece ≡ out ++ (pieces ++ piece) = append_assoc out pieces piece in
    cc

-- two texts behind what stands there
both : (out first second old new : Text) → old ≡ out ++ first → new ≡ old ++ second → new ≡ out ++ (first ++ (second ++ []))
both out first second old new before behind =
    let joined : (out ++ first) ++ second ≡ out ++ (first ++ second) = append_assoc out first second in
    let end : second ++ [] ≡ second = append-nil second in
    cc

-- the tally and the outcome behind what stands there
pub ending : (rows : List Row) (n : ℕ) (t : Tally) (steps : ℕ) (o : Outcome) (out old new : Text) → n ≡ length rows → t ≡ tally_of (units_in_rows rows) →
    old ≡ out ++ ended (line_of (tally_words n t steps)) → new ≡ old ++ ended (line_of (outcome_words o)) → new ≡ out ++ tally_and_outcome (units_in_rows rows) steps o
ending rows n t steps o out old new units is before behind =
    let whole : new ≡ out ++ (ended (line_of (tally_words n t steps)) ++ (ended (line_of (outcome_words o)) ++ [])) = both out (ended (line_of (tally_words n t steps))) (ended (line_of (outcome_words o))) old new before behind in
    rw (length-map rows unit_in_row, sym units, sym is) whole

-- a word, nine pieces and an end, one behind the other
ten-joined : (out t a b c d e f g h i end : Text) →
    ((((((((((out ++ t) ++ a) ++ b) ++ c) ++ d) ++ e) ++ f) ++ g) ++ h) ++ i) ++ end ≡ out ++ ((t ++ (a ++ (b ++ (c ++ (d ++ (e ++ (f ++ (g ++ (h ++ i))))))))) ++ end)
ten-joined out t a b c d e f g h i end = simp append_assoc

-- a word of the tally and its number, with a space before each
abbrev pub count : Text → ℕ → Text
count word n = (32 ∷ word) ++ 32 ∷ decimal n

-- the tally, appended count by count
pub tally-built : (out : Text) (n : ℕ) (t : Tally) (steps : ℕ) (front units unborn pool stream blocked done asked access taken new : Text) →
    front ≡ out ++ codes "tally" → units ≡ front ++ count (codes "units") n → unborn ≡ units ++ count (codes "unborn") t.unborn →
    pool ≡ unborn ++ count (codes "pool") t.pool → stream ≡ pool ++ count (codes "stream") t.stream →
    blocked ≡ stream ++ count (codes "blocked") t.blocked → done ≡ blocked ++ count (codes "done") t.done →
    asked ≡ done ++ count (codes "asked") t.asked → access ≡ asked ++ count (codes "access") t.access →
    taken ≡ access ++ count (codes "steps") steps → new ≡ taken ++ 10 ∷ [] → new ≡ out ++ ended (line_of (tally_words n t steps))
tally-built out n t steps front units unborn pool stream blocked done asked access taken new e0 e1 e2 e3 e4 e5 e6 e7 e8 e9 e10 =
    rw (e10, e9, e8, e7, e6, e5, e4, e3, e2, e1, e0, append-nil (decimal steps))
    (ten-joined out (codes "tally") (count (codes "units") n) (count (codes "unborn") t.unborn) (count (codes "pool") t.pool) (count (codes "stream") t.stream)
    (count (codes "blocked") t.blocked) (count (codes "done") t.done) (count (codes "asked") t.asked) (count (codes "access") t.access) (count (codes "steps") steps) (10 ∷ []))
