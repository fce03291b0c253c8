-- Seats in order of their numbers: for callers that close a booth.
use Rattle.std.proofs.Common.{◌≡◌, ℕ, zero, suc, ◌<◌, ⊎_elim, List, [], ◌∷◌, ◌++◌, length, map, take, drop, slice_index_or, refl, sym, ap, ◌∙◌, arith}
use Rattle.std.specs.List.{All}
use mathlib.Core.Option.{some}
use lib.ListN.{get_elem?}
use Rattle.atomic_table.proofs.Lists.{at_map}
use Rattle.abt_booth.specs.declared.object.Object.{Ghosts}
use Rattle.abt_booth.specs.declared.booth.Booth.{Booth}
use Rattle.abt_booth.specs.declared.booth.Seat.{Seat}
use Rattle.abt_booth.specs.Seats.{number_of, known_of, seats_of, AreInOrder, AreNewSeatsOf, AreAllSeatsOf, IsSeatOf}
use Rattle.abt_booth.proofs.Places.{index-at, at-or, at-end}

module _ {O A R : Type 0} {g : Ghosts O A R} where
  -- one more seat in order
  pub in-order-push : (xs : List (Seat O A R g)) (s : Seat O A R g) → AreInOrder xs → number_of s ≡ length xs → AreInOrder (xs ++ s ∷ [])
  in-order-push xs s all is i d lt = let x = slice_index_or (xs ++ s ∷ []) i d in ⊎_elim
      (λ (e : get_elem? xs i ≡ some x). let t = index-at xs i x d e in ap number_of (sym t.1) ∙ all i d t.0)
      (λ (c : (i ≡ length xs) × (s ≡ x)). ap number_of (sym c.1) ∙ (is ∙ sym c.0)) (at-end xs s x i (at-or (xs ++ s ∷ []) i d lt))

  -- a place of the list has a seat
  there : (l : List (Seat O A R g)) (i : ℕ) → i < length l → (s : Seat O A R g) × (get_elem? l i ≡ some s)
  there [] i h = absurd (omega arith)
  there (x ∷ xs) zero h = (x, refl)
  there (x ∷ xs) (suc i) h = there xs i (omega arith)

  -- seats in order of their numbers, as many as the booth was made with, are all its seats
  pub all-seats : (booth : Booth O A R) (seats : List (Seat O A R g)) → length seats ≡ seats_of booth → All (IsSeatOf booth) seats → AreInOrder seats → AreAllSeatsOf booth seats
  all-seats booth seats many each in_order = (
    each,
    λ number lt.
        let below : number < length seats = omega arith in
        let t = there seats number below in
        let k = known_of t.0 in
        let p = index-at (map known_of seats) number k k (at_map known_of seats number t.0 t.1) in
        let q = index-at seats number t.0 t.0 t.1 in
        (number, k, p.0, p.1, ap number_of (sym q.1) ∙ in_order number t.0 below),
  )

  -- a booth's new seats are all its seats
  pub new-seats : (booth : Booth O A R) (seats : List (Seat O A R g)) → AreNewSeatsOf booth seats → AreAllSeatsOf booth seats
  new-seats booth seats new = all-seats booth seats new.many new.each new.in_order

-- what was written through a slice of a whole vector is the whole vector
pub written-back : {X : Type 0} (n : ℕ) (xs ys : List X) → length xs ≡ n → length ys ≡ n → take n (xs ++ drop (length xs) ys) ≡ xs
written-back zero [] [] e f = refl
written-back zero [] (y ∷ ys) e f = absurd (omega arith)
written-back zero (x ∷ xs) ys e f = absurd (omega arith)
written-back (suc n) [] ys e f = absurd (omega arith)
written-back (suc n) (x ∷ xs) [] e f = absurd (omega arith)
written-back (suc n) (x ∷ xs) (y ∷ ys) e f = ap (λ z. x ∷ z) (written-back n xs ys (omega arith) (omega arith))
