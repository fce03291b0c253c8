-- What is drawn.
use Rattle.std.proofs.Common.{◌≡◌, ◌∙◌, ℕ, zero, suc, ◌<◌, ◌+◌, ◌*◌, List, [], ◌∷◌, ◌++◌, Some, ap, append_assoc, arith, get_or, inl, inr, length, slice_get, subst, sym}
use Rattle.std.specs.List.{remove}
use Rattle.std.proofs.lemmas.List.{length_push}
use Rattle.std.proofs.lemmas.List.Edits.{length-remove}
use Rattle.std.proofs.lemmas.Option.{slice_get-get_or}
use Rattle.std.proofs.Math.Nat.{mod-lt, suc-mul}
use Rattle.abt_machine.specs.declared.workload.Parts.{Parts}
use Rattle.abt_machine.specs.Lives.{count_up}
use Rattle.abt_machine.specs.Rounds.{generator_at}
use Rattle.abt_explore.proofs.Growing.{push-cases}
use Rattle.abt_laws.proofs.Options.{some-injective}
use Rattle.rand_pcg.specs.Lcg.{Lcg}
use Rattle.rand_pcg.specs.Pcg.{pcg32}
use Rattle.abt_schedule.specs.Drawing.{drawn, drawn_place, streams_of_rotation, words_of_rotation}

-- Numbers in order.

pub count-more : (n : ℕ) → count_up (n + 1) ≡ count_up n ++ n ∷ []
count-more n = let e : n + 1 ≡ suc n = omega arith in ap count_up e

pub count-long : (n : ℕ) → length (count_up n) ≡ n
count-long zero = omega arith
count-long (suc n) =
    let long : length (count_up n ++ n ∷ []) ≡ length (count_up n) + 1 = length_push (count_up n) n in
    let rest : length (count_up n) ≡ n = count-long n in omega arith

-- each of these numbers is less than m
abbrev pub AreBelow : ℕ → List ℕ → Type 0
AreBelow m xs = (k x : ℕ) → slice_get xs k ≡ Some x → x < m

pub count-below : (n : ℕ) → AreBelow n (count_up n)
count-below zero k x e = cc
count-below (suc n) k x e = elim (push-cases (count_up n) n x k e) [
  | inl before ↦ (let l : x < n = count-below n k x before in omega arith)
  | inr last ↦ omega (arith, last.0)
]

-- Draws.

-- what is left stood there before
remove-in : (xs : List ℕ) (i k x : ℕ) → slice_get (remove xs i) k ≡ Some x → (j : ℕ) × (slice_get xs j ≡ Some x)
remove-in [] zero k x e = cc
remove-in [] (suc i) k x e = cc
remove-in (y ∷ ys) zero k x e = (suc k, e)
remove-in (y ∷ ys) (suc i) zero x e = (0, e)
remove-in (y ∷ ys) (suc i) (suc k) x e = let there = remove-in ys i k x e in (suc there.0, there.1)

remove-below : (m i : ℕ) (xs : List ℕ) → AreBelow m xs → AreBelow m (remove xs i)
remove-below m i xs below k x e = let there = remove-in xs i k x e in below there.0 x there.1

-- a word draws a place that is there
pub place-within : (words : Lcg) (xs : List ℕ) → 0 < length xs → drawn_place words xs < length xs
place-within words xs some = mod-lt (pcg32 words).0 some

-- what is drawn from these numbers is less than m
pub drawn-below : (m n : ℕ) (words : Lcg) (xs : List ℕ) → length xs ≡ n → AreBelow m xs → AreBelow m (drawn n words xs)
drawn-below m zero words xs long below k x e = cc
drawn-below m (suc n) words xs long below zero x e =
    let p = drawn_place words xs in
    let within : p < length xs = place-within words xs (omega arith) in
    let there : slice_get xs p ≡ Some (get_or xs p 0) = slice_get-get_or xs p 0 within in
    subst (λ y. y < m) (some-injective e) (below p (get_or xs p 0) there)
drawn-below m (suc n) words xs long below (suc k) x e =
    let p = drawn_place words xs in
    let within : p < length xs = place-within words xs (omega arith) in
    let less : length (remove xs p) + 1 ≡ length xs = length-remove xs p within in
    drawn-below m n (pcg32 words).1 (remove xs p) (omega arith) (remove-below m p xs below) k x e

-- one draw more
draw-more : (n m : ℕ) (words : Lcg) (left order all : List ℕ) → n ≡ suc m → order ++ drawn n words left ≡ all →
    (order ++ get_or left (drawn_place words left) 0 ∷ []) ++ drawn m (pcg32 words).1 (remove left (drawn_place words left)) ≡ all
draw-more n m words left order all is before =
    append_assoc order (get_or left (drawn_place words left) 0 ∷ []) (drawn m (pcg32 words).1 (remove left (drawn_place words left)))
    ∙ subst (λ k. order ++ drawn k words left ≡ all) is before

-- the same for the parts of a draw
pub draw-on : (n m k x : ℕ) (words new : Lcg) (left rest order more all : List ℕ) → n ≡ suc m → k ≡ drawn_place words left → new ≡ (pcg32 words).1 → x ≡ get_or left k 0 → rest ≡ remove left k
    → more ≡ order ++ x ∷ [] → order ++ drawn n words left ≡ all → more ++ drawn m new rest ≡ all
draw-on n m k x words new left rest order more all is place next taken removed pushed before =
    let p = drawn_place words left in
    let one : List ℕ = order ++ get_or left p 0 ∷ [] in
    let first : more ≡ one = pushed ∙ ap (λ y. order ++ y ∷ []) (taken ∙ ap (λ i. get_or left i 0) place) in
    let others : rest ≡ remove left p = removed ∙ ap (λ i. remove left i) place in
    ap (λ xs. xs ++ drawn m new rest) first
    ∙ (ap (λ (ws : Lcg). one ++ drawn m ws rest) next ∙ (ap (λ xs. one ++ drawn m (pcg32 words).1 xs) others ∙ draw-more n m words left order all is before))

-- Rotations.

-- the numbers that are drawn from those below n are below n
pub order-below : (m n : ℕ) (words : Lcg) (order : List ℕ) → n ≡ m → order ≡ drawn n words (count_up n) → AreBelow m order
order-below m n words order same is = subst (AreBelow m) (sym is) (subst (λ i. AreBelow i (drawn n words (count_up n))) same (drawn-below n n words (count_up n) (count-long n) (count-below n)))

-- the words of one rotation more
pub words-more : (W : Parts) (seed k n : ℕ) (words : Lcg) → n ≡ W.streams → words ≡ generator_at seed (length W.scheds) (k * W.streams + n) → words ≡ words_of_rotation W seed (k + 1)
words-more W seed k n words same is =
    let more : suc k ≡ k + 1 = omega arith in
    is ∙ ap (generator_at seed (length W.scheds)) (ap (λ i. k * W.streams + i) same ∙ (sym (suc-mul k W.streams) ∙ ap (λ i. i * W.streams) more))

-- what the words of a rotation draw is its order
pub order-drawn : (W : Parts) (seed k n : ℕ) (words : Lcg) (order : List ℕ) → n ≡ W.streams → words ≡ words_of_rotation W seed k → order ≡ drawn n words (count_up n) → order ≡ streams_of_rotation W seed k
order-drawn W seed k n words order same is draws = draws ∙ (ap (λ i. drawn i words (count_up i)) same ∙ ap (λ (ws : Lcg). drawn W.streams ws (count_up W.streams)) is)
