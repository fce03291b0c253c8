-- The marks of streams, if one stream changes.
use Rattle.std.proofs.Common.{◌≡◌, ℕ, List, [], ◌∷◌, refl, ◌∙◌, ap}
use Rattle.abt_machine.specs.declared.events.Place.TheVariants as place
use Rattle.abt_machine.specs.declared.numbers.StreamNo.{StreamNo}
use Rattle.abt_machine.specs.Numbers.{stream_no}
use Rattle.abt_machine.specs.Maps.{put_at}
use Rattle.abt_machine.specs.State.{State, Stream, Frame, Left}
use Rattle.abt_machine.specs.Frames.{left, left_to}
use Rattle.abt_laws.proofs.Maps.{put_at-other, put_all-kept}

-- the marks stay if the stream keeps its own
pub marks-kept : (S : State) (s : ℕ) (own : Stream) → own.mark ≡ (S.stream s).mark → (r : StreamNo) → (put_at S.stream s own r.0).mark ≡ (S.stream r.0).mark
marks-kept S s own e r = put_all-kept (λ n (new : Stream). new.mark ≡ (S.stream n).mark) S.stream ((s, own) ∷ []) r.0 (e, tt) refl

-- and for a unit that is not in the stream's hand
pub marks-elsewhere : (S : State) (s u : ℕ) (own : Stream) → (S.place u ≡ place.Hand (stream_no s) → ⊥) → (r : StreamNo) → S.place u ≡ place.Hand r → (put_at S.stream s own r.0).mark ≡ (S.stream r.0).mark
marks-elsewhere S s u own none r at =
    ap (λ (new : Stream). new.mark) (put_at-other S.stream s own r.0 (λ same. none (at ∙ ap (λ (n : ℕ). place.Hand (stream_no n)) same)))

-- a stream that leaves a stacked frame
pub left-mark : (own : Stream) (f : Frame) (rest : List Frame) → own.below ≡ f ∷ rest → (left own).mark ≡ Left
left-mark own f rest below = ap (λ fs. (left_to own fs).mark) below
