-- Lines, appended one behind the other.
use Rattle.std.proofs.Common.{◌≡◌, ◌<◌, ◌≤◌, ◌+◌, ◌&&◌, ◌∙◌, ℕ, Bool, List, [], ◌∷◌, ◌++◌, Some, ap, append_assoc, arith, drop, flat_map, get_or, length, length-append, refl, slice_get, take, true, zero-add}
use Rattle.std.specs.List.{enumerate_from, list_all}
use Rattle.std.proofs.lemmas.Grind.{flat_map-append}
use Rattle.std.proofs.lemmas.List.{append-nil, drop_more, length-take-le, map_push, take-append-drop, take_more}
use Rattle.std.proofs.lemmas.Option.{get_or_from_slice_get, slice_get_within}
use Rattle.abt_machine.specs.declared.grammar.Form.{Form}
use Rattle.abt_machine.specs.declared.grammar.Form.TheVariants as form
use Rattle.abt_machine.specs.declared.grammar.Format.TheVariants as format
use Rattle.abt_machine.specs.declared.operations.Op.{Op}
use Rattle.abt_machine.specs.declared.operations.Op.TheVariants as op
use Rattle.abt_machine.specs.declared.workload.UnitPart.{UnitPart}
use Rattle.abt_machine.specs.Forms.{op_slots}
use Rattle.abt_machine.specs.Words.{Text, ended, line_of, numbered, text_of}
use Rattle.abt_machine.specs.Workloads.{all_ops, ops_of}
use Rattle.abt_machine.proofs.Weighing.{enumerate-behind}
use Rattle.abt_workload.specs.Slots.{is_headed, own_slots}

-- a line begins with a word of its form
op-headed : (o : Op) → is_headed (op_slots o) ≡ true
op-headed (op.Set n) = refl
op-headed _ = refl

pub headed : (f : Form) → is_headed (own_slots f) ≡ true
headed (form.Version format.One) = refl
headed (form.Version format.Two) = refl
headed (form.Version format.Three) = refl
headed (form.Operation o) = op-headed o
headed (form.Repeat o) = op-headed o
headed _ = refl

-- the elements up to i, with their numbers, are those before and element i
numbered-more : {A : Type 0} (xs : List A) (i : ℕ) (x : A) → slice_get xs i ≡ Some x → enumerate_from 0 (take (i + 1) xs) ≡ enumerate_from 0 (take i xs) ++ (i, x) ∷ []
numbered-more xs i x at =
    let lt : i < length xs = slice_get_within xs i x at in
    let here : get_or xs i x ≡ x = get_or_from_slice_get xs i x x at in
    let long : length (take i xs) ≡ i = length-take-le i xs (omega arith) in
    rw (take_more xs i x lt, here, enumerate-behind 0 (take i xs) x, long, zero-add i) refl

-- the text of lines and more lines is their texts
pub text-append : (lines more : List (List Text)) → text_of (lines ++ more) ≡ text_of lines ++ text_of more
text-append lines more = flat_map-append (λ (words : List Text). ended (line_of words)) lines more

-- so it is with one line more
pub text-and : (lines : List (List Text)) (words : List Text) → text_of (lines ++ words ∷ []) ≡ text_of lines ++ ended (line_of words)
text-and lines words = text-append lines (words ∷ []) ∙ ap (λ (text : Text). text_of lines ++ text) (append-nil (ended (line_of words)))

-- two lines, and more lines behind them
pub lines-behind : (out one two new : Text) (first second : List Text) (rest : List (List Text)) →
    one ≡ out ++ ended (line_of first) → two ≡ one ++ ended (line_of second) → new ≡ two ++ text_of rest → new ≡ out ++ text_of (first ∷ second ∷ rest)
lines-behind out one two new first second rest is_one is_two is_new =
    let a : Text = ended (line_of first) in
    let b : Text = ended (line_of second) in
    rw (is_new, is_two, is_one) (append_assoc (out ++ a) b (text_of rest) ∙ append_assoc out a (b ++ text_of rest))

-- a text behind what stands there goes on with one piece more
behind : (out pieces piece old new : Text) → old ≡ out ++ pieces → new ≡ old ++ piece → new ≡ out ++ (pieces ++ piece)
behind out pieces piece old new before after =
    let joined : (out ++ pieces) ++ piece ≡ out ++ (pieces ++ piece) = append_assoc out pieces piece in
    cc

-- if a text goes on with the line of element i, it has the lines of the elements up to i
pub line-more : {A : Type 0} (f : ℕ → A → List Text) (xs : List A) (i : ℕ) (x : A) (out old new : Text) → slice_get xs i ≡ Some x →
    old ≡ out ++ text_of (numbered f (take i xs)) → new ≡ old ++ ended (line_of (f i x)) → new ≡ out ++ text_of (numbered f (take (i + 1) xs))
line-more f xs i x out old new at before after =
    rw (numbered-more xs i x at, map_push (λ p. f p.0 p.1) (enumerate_from 0 (take i xs)) (i, x), text-and (numbered f (take i xs)) (f i x))
    (behind out (text_of (numbered f (take i xs))) (ended (line_of (f i x))) old new before after)

-- so it is with several lines of each element
pub lines-more : {A : Type 0} (f : ℕ → A → List (List Text)) (xs : List A) (i : ℕ) (x : A) (out old new : Text) → slice_get xs i ≡ Some x →
    old ≡ out ++ text_of (flat_map (λ p. f p.0 p.1) (enumerate_from 0 (take i xs))) → new ≡ old ++ text_of (f i x) → new ≡ out ++ text_of (flat_map (λ p. f p.0 p.1) (enumerate_from 0 (take (i + 1) xs)))
lines-more {A} f xs i x out old new at before after =
    let g : ℕ × A → List (List Text) = λ p. f p.0 p.1 in
    let before' : List (ℕ × A) = enumerate_from 0 (take i xs) in
    let one : flat_map g ((i, x) ∷ []) ≡ f i x = append-nil (f i x) in
    rw (numbered-more xs i x at, flat_map-append g before' ((i, x) ∷ []), one, text-append (flat_map g before') (f i x))
    (behind out (text_of (flat_map g before')) (text_of (f i x)) old new before after)

-- Units, one after the other.

-- the operations of the units up to u are those before and those of unit u
pub ops-more : (units : List UnitPart) (u : ℕ) (part : UnitPart) → slice_get units u ≡ Some part → length (all_ops (take (u + 1) units)) ≡ length (all_ops (take u units)) + length (ops_of part.body)
ops-more units u part at =
    let lt : u < length units = slice_get_within units u part at in
    let here : get_or units u part ≡ part = get_or_from_slice_get units u part part at in
    let up : all_ops (take (u + 1) units) ≡ all_ops (take u units ++ part ∷ []) = rw (take_more units u part lt, here) refl in
    let ops : all_ops (take u units ++ part ∷ []) ≡ all_ops (take u units) ++ (ops_of part.body ++ []) = flat_map-append (λ (p : UnitPart). ops_of p.body) (take u units) (part ∷ []) in
    let count : length (all_ops (take u units) ++ (ops_of part.body ++ [])) ≡ length (all_ops (take u units)) + length (ops_of part.body ++ []) = length-append (all_ops (take u units)) _ in
    let alone : length (ops_of part.body ++ []) ≡ length (ops_of part.body) = ap length (append-nil (ops_of part.body)) in
    ap length up ∙ (ap length ops ∙ (count ∙ ap (λ (n : ℕ). length (all_ops (take u units)) + n) alone))

-- and are no more than those of all units
pub ops-within : (units : List UnitPart) (u : ℕ) → length (all_ops (take u units)) ≤ length (all_ops units)
ops-within units u =
    let ops : all_ops (take u units ++ drop u units) ≡ all_ops (take u units) ++ all_ops (drop u units) = flat_map-append (λ (p : UnitPart). ops_of p.body) (take u units) (drop u units) in
    let count : length (all_ops (take u units) ++ all_ops (drop u units)) ≡ length (all_ops (take u units)) + length (all_ops (drop u units)) = length-append (all_ops (take u units)) _ in
    let whole : length (all_ops (take u units ++ drop u units)) ≡ length (all_ops units) = ap (λ (us : List UnitPart). length (all_ops us)) (take-append-drop u units) in
    let same = ap length ops in
    omega arith

-- the elements from i on are element i and those after it
pub from-here : {A : Type 0} (xs : List A) (i : ℕ) (x : A) → slice_get xs i ≡ Some x → drop i xs ≡ x ∷ drop (i + 1) xs
from-here xs i x at =
    let lt : i < length xs = slice_get_within xs i x at in
    let here : get_or xs i x ≡ x = get_or_from_slice_get xs i x x at in
    drop_more xs i x lt ∙ ap (λ y. y ∷ drop (i + 1) xs) here

-- a test of all elements from one on tests that one and those after it
pub all-from : {A : Type 0} (p : A → Bool) (xs : List A) (i : ℕ) (x : A) → slice_get xs i ≡ Some x → list_all p (drop i xs) ≡ (p x && list_all p (drop (i + 1) xs))
all-from p xs i x at = ap (list_all p) (from-here xs i x at)
