-- The place that is chosen for a round fits the shape of the order.
use Rattle.std.proofs.Common.{◌≡◌, ℕ, ◌<◌, ◌≤◌, ◌+◌, ◌-◌, ◌⊎◌, inl, inr, List, length, take, drop, get_or, sym, ◌∙◌, ap, subst, arith, eq-eqb, zero-add, length-drop, below_more}
use Rattle.std.specs.Prelude.{◌%◌, All, Contains, IsPermutation, IsTrue}
use Rattle.std.specs.List.{SwappedAt, range_with_len}
use Rattle.std.proofs.Math.Nat.{mod-add-mod, add-mod_right, mod-eq_of_lt, mod_self}
use Rattle.std.proofs.lemmas.Bool.{cases_eq, cases_lt, eqb-true, ltb-true, lt-ltb}
use Rattle.std.proofs.lemmas.Grind.{get_or_default_zero}
use Rattle.std.proofs.lemmas.List.{get_or-drop, map-id, take_all}
use Rattle.std.proofs.lemmas.List.FromFn.{length-range_with_len, get_or-range_with_len, take-map-range_with_len}
use Rattle.std.proofs.lemmas.List.Sorted.{All-permutation, Contains-permutation}
use Rattle.abt_machine.specs.declared.operations.OrderShape.{OrderShape}
use Rattle.abt_machine.specs.declared.operations.OrderShape.TheVariants as shape
use Rattle.abt_order.specs.Places.{HasNearestAnswer, IsNearest, distance}
use Rattle.abt_order.specs.Shapes.{fits_shape}

-- a remainder by n, below twice n
pub wraps : (n a : ℕ) → 0 < n → a < n + n → ((a < n) × (a % n ≡ a)) ⊎ ((n ≤ a) × (a % n ≡ a - n))
wraps n a some below =
    elim (cases_lt a n) [
      | inl l ↦ inl (l, mod-eq_of_lt l)
      | inr l ↦ (let less : a - n < n = omega arith in let whole : a ≡ (a - n) + n = omega arith in
          inr (l, ap (λ (x : ℕ). x % n) whole ∙ (add-mod_right (a - n) n ∙ mod-eq_of_lt less)))
    ]

-- turned by the same number, two places stay two
turned-differ : (r n j i : ℕ) → 0 < n → j < i → i < n → (r + j) % n ≡ (r + i) % n → ⊥
turned-differ r n j i some less below same =
    let first : (r % n + j) % n ≡ (r + j) % n = mod-add-mod r n j in
    let second : (r % n + i) % n ≡ (r + i) % n = mod-add-mod r n i in
    let turn : r % n < n = omega arith in
    elim (wraps n (r % n + j) some (omega arith)) [
      | inl x ↦ (let is : (r % n + j) % n ≡ r % n + j = x.1 in elim (wraps n (r % n + i) some (omega arith)) [
        | inl y ↦ (let also : (r % n + i) % n ≡ r % n + i = y.1 in omega arith)
        | inr y ↦ (let also : (r % n + i) % n ≡ r % n + i - n = y.1 in let past : n ≤ r % n + i = y.0 in omega arith)
      ])
      | inr x ↦ (let is : (r % n + j) % n ≡ r % n + j - n = x.1 in let over : n ≤ r % n + j = x.0 in elim (wraps n (r % n + i) some (omega arith)) [
        | inl y ↦ (let also : (r % n + i) % n ≡ r % n + i = y.1 in let under : r % n + i < n = y.0 in omega arith)
        | inr y ↦ (let also : (r % n + i) % n ≡ r % n + i - n = y.1 in let past : n ≤ r % n + i = y.0 in omega arith)
      ])
    ]

-- only a place itself is nearest to it
nearest-same : (n a c : ℕ) → a < n → c < n → distance n a c ≤ distance n a a → c ≡ a
nearest-same n a c la lc near =
    let all : a + (n - a) ≡ n = omega arith in
    let none : distance n a a ≡ 0 = ap (λ (x : ℕ). x % n) all ∙ mod_self n in
    elim (wraps n (c + (n - a)) (omega arith) (omega arith)) [
      | inl x ↦ (let is : (c + (n - a)) % n ≡ c + (n - a) = x.1 in absurd (omega arith))
      | inr x ↦ (let is : (c + (n - a)) % n ≡ c + (n - a) - n = x.1 in let past : n ≤ c + (n - a) = x.0 in omega arith)
    ]

-- the first places are numbered from 0
pub take-places : (k : ℕ) → k ≤ 8 → take k (range_with_len 0 8) ≡ range_with_len 0 k
take-places k h = ap (take k) (sym (map-id (range_with_len 0 8))) ∙ (take-map-range_with_len (λ i. i) 0 8 k h ∙ map-id (range_with_len 0 k))

-- the places are numbers below their count
pub places-below : (n : ℕ) (places : List ℕ) → IsPermutation (range_with_len 0 n) places → All (λ p. p < n) places
places-below n places h =
    All-permutation (λ p. p < n) (range_with_len 0 n) places h
    (λ k d l. let long : length (range_with_len 0 n) ≡ n = length-range_with_len 0 n in
    let is : get_or (range_with_len 0 n) k d ≡ 0 + k = get_or-range_with_len 0 n k d (omega arith) in omega arith)

-- each number below their count is among the places
place-there : (n : ℕ) (places : List ℕ) (a : ℕ) → IsPermutation (range_with_len 0 n) places → a < n → (k : ℕ) × (k < length places) × (get_or places k 0 ≡ a)
place-there n places a h l =
    let long : length (range_with_len 0 n) ≡ n = length-range_with_len 0 n in
    let has : Contains places a = Contains-permutation (range_with_len 0 n) places a h (a, omega arith, get_or-range_with_len 0 n a a l ∙ zero-add a) in
    (has.0, has.1, sym (get_or_default_zero places has.0 a has.1) ∙ has.2)

-- an answer that stands at no earlier place is the nearest to itself
nearest-answer : (n : ℕ) (places : List ℕ) (i at answer : ℕ) → IsPermutation (range_with_len 0 n) places → at < length places → answer < n → ((k : ℕ) → k < i → get_or places k 0 ≡ answer → ⊥) → IsNearest n places i at answer → get_or places at 0 ≡ answer
nearest-answer n places i at answer h inside below fresh near =
    let there : (k : ℕ) × (k < length places) × (get_or places k 0 ≡ answer) = place-there n places answer h below in
    let chosen : get_or places at 0 < n = places-below n places h at 0 inside in
    elim (cases_lt there.0 i) [
      | inl l ↦ absurd (fresh there.0 l there.2)
      | inr l ↦ nearest-same n answer (get_or places at 0) below chosen
          (subst (λ (x : ℕ). distance n answer (get_or places at 0) ≤ distance n answer x) there.2 (near there.0 l there.1))
    ]

-- an answer that fits is a place
pub fits-below : (o : OrderShape) (r n i answer : ℕ) → i < n → IsTrue (fits_shape o r n i answer) → answer < n
fits-below shape.Rotate r n i answer l h = let is : answer ≡ (r + i) % n = eqb-true answer ((r + i) % n) h in omega arith
fits-below shape.Mirror r n i answer l h = let is : answer ≡ n - 1 - i = eqb-true answer (n - 1 - i) h in omega arith
fits-below shape.Free r n i answer l h = ltb-true answer n h

-- the place that is chosen fits the shape, if the answer and the earlier places do
chosen-fits : (o : OrderShape) (r n i at answer : ℕ) (places : List ℕ) → i < n → IsPermutation (range_with_len 0 n) places → at < length places → ((k : ℕ) → k < i → IsTrue (fits_shape o r n k (get_or places k 0))) → IsTrue (fits_shape o r n i answer) → IsNearest n places i at answer → IsTrue (fits_shape o r n i (get_or places at 0))
chosen-fits shape.Rotate r n i at answer places in_range h inside earlier fits near =
    let is : answer ≡ (r + i) % n = eqb-true answer ((r + i) % n) fits in
    let same : get_or places at 0 ≡ answer = nearest-answer n places i at answer h inside (omega arith)
    (λ k l e. turned-differ r n k i (omega arith) l in_range (sym (eqb-true (get_or places k 0) ((r + k) % n) (earlier k l)) ∙ (e ∙ is))) near in
    eq-eqb (get_or places at 0) ((r + i) % n) (same ∙ is)
chosen-fits shape.Mirror r n i at answer places in_range h inside earlier fits near =
    let is : answer ≡ n - 1 - i = eqb-true answer (n - 1 - i) fits in
    let same : get_or places at 0 ≡ answer = nearest-answer n places i at answer h inside (omega arith)
    (λ k l e. let there : get_or places k 0 ≡ n - 1 - k = eqb-true (get_or places k 0) (n - 1 - k) (earlier k l) in omega arith) near in
    eq-eqb (get_or places at 0) (n - 1 - i) (same ∙ is)
chosen-fits shape.Free r n i at answer places in_range h inside earlier fits near = lt-ltb (get_or places at 0) n (places-below n places h at 0 inside)

-- what is nearest among the places that are left
pub nearest-left : (n : ℕ) (places : List ℕ) (i at answer : ℕ) → ((k : ℕ) → k < length (take (length places - i) (drop i places)) → distance n answer (get_or (take (length places - i) (drop i places)) at 0) ≤ distance n answer (get_or (take (length places - i) (drop i places)) k 0)) → IsNearest n places i (i + at) answer
nearest-left n places i at answer near k l inside =
    let rest : length (drop i places) ≡ length places - i = length-drop i places in
    let whole : take (length places - i) (drop i places) ≡ drop i places = take_all (length places - i) (drop i places) (omega arith) in
    let here : distance n answer (get_or (drop i places) at 0) ≤ distance n answer (get_or (drop i places) (k - i) 0) =
    subst (λ (left : List ℕ). distance n answer (get_or left at 0) ≤ distance n answer (get_or left (k - i) 0)) whole (near (k - i) (rw whole (omega arith))) in
    let back : i + (k - i) ≡ k = omega arith in
    subst (λ (x : ℕ). distance n answer (get_or places (i + at) 0) ≤ distance n answer (get_or places x 0)) back
    (subst (λ (x : ℕ). distance n answer (get_or places (i + at) 0) ≤ distance n answer x) (get_or-drop i places (k - i) 0)
    (subst (λ (x : ℕ). distance n answer x ≤ distance n answer (get_or (drop i places) (k - i) 0)) (get_or-drop i places at 0) here))

-- after the exchange one place more fits
pub exchanged-fits : (o : OrderShape) (r n i at answer : ℕ) (places after : List ℕ) → i ≤ at → at < length places → length places ≡ n → IsPermutation (range_with_len 0 n) places → SwappedAt places after i at → ((k : ℕ) → k < i → IsTrue (fits_shape o r n k (get_or places k 0))) → IsTrue (fits_shape o r n i answer) → IsNearest n places i at answer → (k : ℕ) → k < i + 1 → IsTrue (fits_shape o r n k (get_or after k 0))
exchanged-fits o r n i at answer places after past inside count h swapped earlier fits near =
    below_more (λ k. IsTrue (fits_shape o r n k (get_or after k 0))) i
    (λ k l. subst (λ (x : ℕ). IsTrue (fits_shape o r n k x)) (sym (swapped.2 k 0 (omega arith) (omega arith))) (earlier k l))
    (subst (λ (x : ℕ). IsTrue (fits_shape o r n i x)) (sym (swapped.0 0)) (chosen-fits o r n i at answer places (omega arith) h inside earlier fits near))

-- what is nearest, from place k on, at place p before the exchange is so at place k after it
nearest-exchanged : (n i at k p answer : ℕ) (places after : List ℕ) → k ≤ i → i ≤ at → at < length places → length after ≡ length places → SwappedAt places after i at → get_or after k 0 ≡ get_or places p 0 → IsNearest n places k p answer → IsNearest n after k k answer
nearest-exchanged n i at k p answer places after l past inside count swapped here near j from below =
    let D : ℕ → Type 0 = λ x. distance n answer (get_or places p 0) ≤ distance n answer x in
    subst (λ (x : ℕ). distance n answer x ≤ distance n answer (get_or after j 0)) (sym here) (elim (cases_eq j i) [
      | inl e ↦ subst (λ (m : ℕ). D (get_or after m 0)) (sym e) (subst D (sym (swapped.0 0)) (near at (omega arith) inside))
      | inr other ↦ elim (cases_eq j at) [
        | inl e ↦ subst (λ (m : ℕ). D (get_or after m 0)) (sym e) (subst D (sym (swapped.1 0)) (near i l (omega arith)))
        | inr apart ↦ subst D (sym (swapped.2 j 0 other apart)) (near j from (omega arith))
      ]
    ])

-- after the exchange one place more has its answer
pub exchanged-answered : (Answers : ℕ → ℕ → ℕ → Type 0) (n i at answer : ℕ) (places after : List ℕ) → i ≤ at → at < length places → length after ≡ length places → SwappedAt places after i at → ((k : ℕ) → k < i → HasNearestAnswer Answers n places k) → Answers n i answer → IsNearest n places i at answer → (k : ℕ) → k < i + 1 → HasNearestAnswer Answers n after k
exchanged-answered Answers n i at answer places after past inside count swapped earlier asked near =
    below_more (HasNearestAnswer Answers n after) i
    (λ k l. let was : HasNearestAnswer Answers n places k = earlier k l in
    (was.0, was.1, nearest-exchanged n i at k k was.0 places after (omega arith) past inside count swapped (swapped.2 k 0 (omega arith) (omega arith)) was.2))
    (answer, asked, nearest-exchanged n i at i at answer places after (omega arith) past inside count swapped (swapped.0 0) near)
