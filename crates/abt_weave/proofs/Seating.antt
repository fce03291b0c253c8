-- Seats in order are known by their streams' numbers.
use Rattle.std.proofs.Common.{◌≡◌, ℕ, ◌<◌, List, map, length, get_or, ◌∙◌, subst, arith}
use Rattle.std.specs.Prelude.{Contains, slice_index_or}
use Rattle.std.proofs.lemmas.List.{length-map, get_or-map}
use Rattle.std.proofs.lemmas.List.Elements.{Contains-get_or}
use Rattle.abt_interleave.specs.declared.entries.Entry.{Entry}
use Rattle.abt_booth.specs.declared.object.Object.{Ghosts}
use Rattle.abt_booth.specs.declared.booth.Seat.{Seat}
use Rattle.abt_booth.specs.Seats.{AreInOrder, known_of, seen_of, number_of}

module _ {O A R : Type 0} {g : Ghosts O A R} where
  pub seats-know : (seats : List (Seat O A R g)) → AreInOrder seats → (s : ℕ) (d : Seat O A R g) → s < length seats → Contains (map known_of seats) (s, seen_of (slice_index_or seats s d))
  seats-know seats order s d lt =
      let x : Seat O A R g = slice_index_or seats s d in
      let known : List (ℕ × List (Entry A R)) = map known_of seats in
      let long : length known ≡ length seats = length-map seats known_of in
      let at : get_or known s (known_of d) ≡ known_of x = get_or-map known_of seats s d (known_of d) lt in
      let own : number_of x ≡ s = order s d lt in
      subst (Contains known) (at ∙ (λ i. (own i, seen_of x))) (Contains-get_or known s (known_of d) (omega arith))
