-- A miss keeps the weight of the units, and lowers the number of open frames if the round of a stacked frame ends empty.
use Rattle.std.proofs.Common.{◌≡◌, ◌≢◌, ℕ, ◌<◌, true, false, [], length, refl, sym, ◌∙◌, ap, subst}
use Rattle.std.proofs.lemmas.Bool.{false_from_ne_true}
use Rattle.abt_machine.specs.declared.events.What.TheVariants as what
use Rattle.abt_machine.specs.declared.numbers.PoolNo.{PoolNo}
use Rattle.abt_machine.specs.declared.workload.Parts.{Parts}
use Rattle.abt_machine.specs.State.{State, Stream}
use Rattle.abt_machine.specs.Next.{RoundDue, due}
use Rattle.abt_machine.specs.Frames.{frame_missed, round_missed}
use Rattle.abt_machine.specs.Events.{after}
use Rattle.abt_laws.specs.Measure.{EndsStacked, open_frames, open_frames_of, unit_weight, state_weight}
use Rattle.abt_laws.proofs.Marks.{marks-kept}
use Rattle.abt_laws.proofs.Maps.{put_at-other, put_at-same}
use Rattle.abt_laws.proofs.Dues.{round-not-empty}
use Rattle.abt_laws.proofs.OpenFrames.{open_count-falls, open_count-same, open_frames-fall, open_frames-same}
use Rattle.abt_laws.proofs.Sums.{sum_up-same}
use Rattle.abt_laws.proofs.Weights.{unit_weight-kept}

pub miss-keeps-weight : (W : Parts) (S : State) (s : ℕ) (p : PoolNo) → state_weight W (after W S s (what.Miss p)) ≡ state_weight W S
miss-keeps-weight W S s p =
    let T : State = after W S s (what.Miss p) in
    sum_up-same (unit_weight T) (unit_weight S) (length W.units)
    (λ v _. unit_weight-kept S T v refl refl (λ r _. marks-kept S s (round_missed W p.0 (S.stream s)) refl r))

-- the stream after its miss
missed : (W : Parts) (S : State) (s : ℕ) (p : PoolNo) → (after W S s (what.Miss p)).stream s ≡ round_missed W p.0 (S.stream s)
missed W S s p = put_at-same S.stream s (round_missed W p.0 (S.stream s))

miss-keeps-others : (W : Parts) (S : State) (s : ℕ) (p : PoolNo) (r : ℕ) → r ≢ s → (after W S s (what.Miss p)).stream r ≡ S.stream r
miss-keeps-others W S s p r other = put_at-other S.stream s (round_missed W p.0 (S.stream s)) r other

pub miss-ends-stacked : (W : Parts) (S : State) (s : ℕ) (p : PoolNo) → s < W.streams → due W S s ≡ RoundDue → EndsStacked s (after W S s (what.Miss p)) → open_frames W (after W S s (what.Miss p)) < open_frames W S
miss-ends-stacked W S s p declared comes ends =
    let T : State = after W S s (what.Miss p) in
    let some : (S.stream s).below ≢ [] = λ e. ends.0 (ap (λ (own : Stream). own.below) (missed W S s p) ∙ e) in
    let now : (frame_missed W (S.stream s).top p.0).empty ≡ true = sym (ap (λ (own : Stream). own.top.empty) (missed W S s p)) ∙ ends.1 in
    let was : (S.stream s).top.empty ≡ false = round-not-empty W S s comes some in
    let falls : open_frames_of (round_missed W p.0 (S.stream s)) < open_frames_of (S.stream s) = open_count-falls (S.stream s).top (frame_missed W (S.stream s).top p.0) (S.stream s).below some was now in
    open_frames-fall W S T s declared (miss-keeps-others W S s p) (subst (λ own. open_frames_of own < open_frames_of (S.stream s)) (sym (missed W S s p)) falls)

pub miss-keeps-frames : (W : Parts) (S : State) (s : ℕ) (p : PoolNo) → due W S s ≡ RoundDue → (EndsStacked s (after W S s (what.Miss p)) → ⊥) → open_frames W (after W S s (what.Miss p)) ≡ open_frames W S
miss-keeps-frames W S s p comes stays =
    let T : State = after W S s (what.Miss p) in
    let same : (S.stream s).below ≢ [] → (frame_missed W (S.stream s).top p.0).empty ≡ (S.stream s).top.empty =
    λ some.
    false_from_ne_true (frame_missed W (S.stream s).top p.0).empty
    (λ e. stays ((λ none. some (sym (ap (λ (own : Stream). own.below) (missed W S s p)) ∙ none)), ap (λ (own : Stream). own.top.empty) (missed W S s p) ∙ e))
    ∙ sym (round-not-empty W S s comes some) in
    open_frames-same W S T s (miss-keeps-others W S s p)
    (ap open_frames_of (missed W S s p) ∙ open_count-same (S.stream s).top (frame_missed W (S.stream s).top p.0) (S.stream s).below same)
