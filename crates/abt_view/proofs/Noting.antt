-- What the first events of a journal put out, event by event.
use Rattle.std.proofs.Common.{arith, refl, ◌≡◌, ◌∙◌, ◌+◌, ◌<◌, ℕ, zero, suc, List, [], ◌∷◌, ◌++◌, take, get_or, length, ap, sym, Option, None}
use Rattle.abt_machine.specs.declared.events.Event.{Event}
use Rattle.abt_machine.specs.declared.events.Piece.{Piece}
use Rattle.abt_view.specs.declared.notes.Note.{Note}
use Rattle.abt_view.specs.Notes.{note, noted}

-- the notes of the first events and one more
noted-more : (J : List Event) (pieces : List (Option Piece)) (i : ℕ) (d : Event) → i < length J →
    noted (take (suc i) J) pieces ≡ noted (take i J) pieces ++ note (get_or J i d) (get_or pieces i None) ∷ []
noted-more [] pieces i d lt = absurd (omega (arith, lt))
noted-more (e ∷ es) [] zero d lt = refl
noted-more (e ∷ es) (p ∷ ps) zero d lt = refl
noted-more (e ∷ es) [] (suc i) d lt = ap (λ notes. note e None ∷ notes) (noted-more es [] i d (omega (arith, lt)))
noted-more (e ∷ es) (p ∷ ps) (suc i) d lt = ap (λ notes. note e p ∷ notes) (noted-more es ps i d (omega (arith, lt)))

-- the notes so far, with that of the next event
pub one-noted : (J : List Event) (pieces : List (Option Piece)) (i : ℕ) (d e : Event) (p : Option Piece) (now next : List Note) → i < length J → now ≡ noted (take i J) pieces →
    e ≡ get_or J i d → p ≡ get_or pieces i None → next ≡ now ++ note e p ∷ [] → next ≡ noted (take (i + 1) J) pieces
one-noted J pieces i d e p now next lt so_far event piece grown =
    let more : suc i ≡ i + 1 = omega arith in
    grown ∙ (ap (λ notes. notes ++ note e p ∷ []) so_far ∙ (ap (λ (e : Event). noted (take i J) pieces ++ note e p ∷ []) event
    ∙ (ap (λ p. noted (take i J) pieces ++ note (get_or J i d) p ∷ []) piece ∙ (sym (noted-more J pieces i d lt) ∙ ap (λ n. noted (take n J) pieces) more))))
