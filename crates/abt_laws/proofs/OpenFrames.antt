-- How a miss changes the number of open frames.
use Rattle.std.proofs.Common.{◌≡◌, ◌≢◌, ℕ, ◌<◌, ◌+◌, cond, true, false, List, [], ◌∷◌, refl, sym, ap, subst, arith, inl, inr}
use Rattle.std.specs.Prelude.{not, count_by}
use Rattle.std.proofs.lemmas.Bool.{cases_eq}
use Rattle.std.proofs.lemmas.List.Sums.{sum_by-cons}
use Rattle.abt_machine.specs.declared.workload.Parts.{Parts}
use Rattle.abt_machine.specs.State.{State, Frame}
use Rattle.abt_laws.specs.Measure.{open_frames, open_frames_of, stacked}
use Rattle.abt_laws.proofs.Sums.{sum_up-same, sum_up-falls-at}

abbrev open_count : List Frame → ℕ
open_count fs = count_by (λ (f : Frame). not f.empty) (stacked fs)

-- 1 for an open frame
abbrev openness : Frame → ℕ
openness f = cond (not f.empty) 1 0

open_count-cons : (f g : Frame) (fs : List Frame) → open_count (f ∷ g ∷ fs) ≡ openness f + open_count (g ∷ fs)
open_count-cons f g fs = sum_by-cons openness f (stacked (g ∷ fs))

pub open_count-same : (f g : Frame) (fs : List Frame) → (fs ≢ [] → g.empty ≡ f.empty) → open_count (g ∷ fs) ≡ open_count (f ∷ fs)
open_count-same f g [] h = refl
open_count-same f g (k ∷ fs) h =
    let one : openness g ≡ openness f = ap (λ b. cond (not b) 1 0) (h (λ e. cc)) in
    omega (arith, open_count-cons f k fs, open_count-cons g k fs)

pub open_count-falls : (f g : Frame) (fs : List Frame) → fs ≢ [] → f.empty ≡ false → g.empty ≡ true → open_count (g ∷ fs) < open_count (f ∷ fs)
open_count-falls f g [] some was now = absurd (some refl)
open_count-falls f g (k ∷ fs) some was now =
    let before : openness f ≡ 1 = ap (λ b. cond (not b) 1 0) was in
    let after : openness g ≡ 0 = ap (λ b. cond (not b) 1 0) now in
    omega (arith, open_count-cons f k fs, open_count-cons g k fs)

-- the number stays if each stream keeps its own
pub open_frames-same : (W : Parts) (S T : State) (s : ℕ) → ((r : ℕ) → r ≢ s → T.stream r ≡ S.stream r) → open_frames_of (T.stream s) ≡ open_frames_of (S.stream s) → open_frames W T ≡ open_frames W S
open_frames-same W S T s others own =
    sum_up-same (λ r. open_frames_of (T.stream r)) (λ r. open_frames_of (S.stream r)) W.streams
    (λ r l. elim (cases_eq r s) [
      | inl same ↦ subst (λ q. open_frames_of (T.stream q) ≡ open_frames_of (S.stream q)) (sym same) own
      | inr other ↦ ap open_frames_of (others r other)
    ])

-- it falls if that of one stream does, and every other keeps its own
pub open_frames-fall : (W : Parts) (S T : State) (s : ℕ) → s < W.streams → ((r : ℕ) → r ≢ s → T.stream r ≡ S.stream r) → open_frames_of (T.stream s) < open_frames_of (S.stream s) → open_frames W T < open_frames W S
open_frames-fall W S T s declared others own =
    sum_up-falls-at (λ r. open_frames_of (T.stream r)) (λ r. open_frames_of (S.stream r)) W.streams s declared own (λ r other. ap open_frames_of (others r other))
