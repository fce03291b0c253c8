-- Lists of numbered elements, one element more at a time.
use Rattle.std.proofs.Common.{◌≡◌, ◌∙◌, ◌+◌, ◌<◌, ℕ, List, [], ◌∷◌, ◌++◌, length, take, get_or, flat_map, refl, subst, sym, arith, zero-add}
use Rattle.std.proofs.lemmas.Grind.{flat_map-append}
use Rattle.std.proofs.lemmas.List.{append-nil, map_more, take_more, map_push, length-map, length-take-le}
use Rattle.std.specs.List.{enumerate_from}
use Rattle.abt_machine.specs.declared.events.Outcome.{Outcome}
use Rattle.abt_machine.specs.declared.workload.Parts.{Parts}
use Rattle.abt_machine.specs.Queues.{first_alone}
use Rattle.abt_machine.specs.Texts.{ShownUnit, short_of, tally_and_outcome, unit_line}
use Rattle.abt_machine.specs.Words.{Text, ended, numbered}
use Rattle.abt_machine.proofs.Weighing.{enumerate-behind}
use Rattle.abt_report.specs.Pictures.{unit_in_row, units_in_rows}
use Rattle.abt_report.specs.declared.pictures.Row.{Row}

-- what is made of each element and its number, with one element behind
pub numbered-behind : {A B : Type 0} (f : ℕ → A → B) (xs : List A) (x : A) → numbered f (xs ++ x ∷ []) ≡ numbered f xs ++ f (length xs) x ∷ []
numbered-behind f xs x = rw (enumerate-behind 0 xs x, zero-add (length xs)) (map_push (λ p. f p.0 p.1) (enumerate_from 0 xs) (length xs, x))

-- the lines up to i are those before, and that of i
lines-before : {A : Type 0} (f : ℕ → A → Text) (xs : List A) (i : ℕ) (d : A) → i < length xs →
    flat_map ended (numbered f (take (i + 1) xs)) ≡ flat_map ended (numbered f (take i xs)) ++ ended (f i (get_or xs i d))
lines-before f xs i d lt =
    let long : length (take i xs) ≡ i = length-take-le i xs (omega arith) in
    rw (take_more xs i d lt, numbered-behind f (take i xs) (get_or xs i d), long, flat_map-append ended (numbered f (take i xs)) (f i (get_or xs i d) ∷ []), append-nil (ended (f i (get_or xs i d)))) refl

pub one-line-more : {A : Type 0} (f : ℕ → A → Text) (xs : List A) (i : ℕ) (x : A) → i < length xs → x ≡ get_or xs i x →
    flat_map ended (numbered f (take (i + 1) xs)) ≡ flat_map ended (numbered f (take i xs)) ++ ended (f i x)
one-line-more f xs i x lt is =
    subst (λ y. flat_map ended (numbered f (take (i + 1) xs)) ≡ flat_map ended (numbered f (take i xs)) ++ ended (f i y)) (sym is) (lines-before f xs i x lt)

-- the lines of the units up to i are those of the units before, and that of unit i
lines-up-to : (f : ℕ → ShownUnit → Text) (rows : List Row) (i : ℕ) (d : Row) → i < length rows →
    flat_map ended (numbered f (units_in_rows (take (i + 1) rows))) ≡ flat_map ended (numbered f (units_in_rows (take i rows))) ++ ended (f i (unit_in_row (get_or rows i d)))
lines-up-to f rows i d lt =
    let long : length (units_in_rows (take i rows)) ≡ i = rw (length-map (take i rows) unit_in_row) (length-take-le i rows (omega arith)) in
    rw (map_more unit_in_row rows i d lt, numbered-behind f (units_in_rows (take i rows)) (unit_in_row (get_or rows i d)), long, flat_map-append ended (numbered f (units_in_rows (take i rows))) (f i (unit_in_row (get_or rows i d)) ∷ []), append-nil (ended (f i (unit_in_row (get_or rows i d))))) refl

pub lines-more : (f : ℕ → ShownUnit → Text) (rows : List Row) (i : ℕ) (row : Row) → i < length rows → row ≡ get_or rows i row →
    flat_map ended (numbered f (units_in_rows (take (i + 1) rows))) ≡ flat_map ended (numbered f (units_in_rows (take i rows))) ++ ended (f i (unit_in_row row))
lines-more f rows i row lt is =
    let Is : Row → Type 0 = λ x. flat_map ended (numbered f (units_in_rows (take (i + 1) rows))) ≡ flat_map ended (numbered f (units_in_rows (take i rows))) ++ ended (f i (unit_in_row x)) in
    subst Is (sym is) (lines-up-to f rows i row lt)

-- the line of the first unit alone
line-alone : (f : ℕ → ShownUnit → Text) (rows : List Row) (row : Row) → 0 < length rows → row ≡ get_or rows 0 row →
    flat_map ended (first_alone (numbered f (units_in_rows rows))) ≡ ended (f 0 (unit_in_row row))
line-alone f [] row some is = absurd (omega arith)
line-alone f (x ∷ rows) row some is =
    let first : row ≡ x = is in
    rw (first, append-nil (ended (f 0 (unit_in_row x)))) refl

-- the short report: that line, and the end of every report
pub short-built : (W : Parts) (rows : List Row) (row : Row) (steps : ℕ) (o : Outcome) (line new : Text) → 0 < length rows → row ≡ get_or rows 0 row →
    line ≡ ended (unit_line W 0 (unit_in_row row)) → new ≡ line ++ tally_and_outcome (units_in_rows rows) steps o → new ≡ short_of W (units_in_rows rows) steps o
short-built W rows row steps o line new some is first all =
    let alone = line-alone (unit_line W) rows row some is in
    let Is : Text → Type 0 = λ text. new ≡ text ++ tally_and_outcome (units_in_rows rows) steps o in
    subst Is (first ∙ sym alone) all
