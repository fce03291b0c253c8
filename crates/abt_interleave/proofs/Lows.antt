-- Stamps are no greater than the number of deeds.
use Rattle.std.proofs.Common.{◌≡◌, ℕ, ◌+◌, ◌*◌, ◌<◌, ◌≤◌, ◌^◌, List, [], ◌∷◌, length, Option, ap, arith, inl, inr}
use Rattle.abt_interleave.specs.Histories.{RisesAbove, last_stamp, entry_stamps}
use Rattle.abt_interleave.specs.Deeds.{deed_stamps}
use Rattle.abt_interleave.specs.Machines.{Machine, DeedOf, EntryOf, Gathered}
use Rattle.abt_interleave.specs.Stamps.{LeavesNoGap, place_of, AreStamped, StampedFrom, Stamped}
use Rattle.abt_interleave.specs.Merges.{IsMergeOf, sum_below}
use Rattle.abt_interleave.specs.Bounds.{StampedStaysLow, StampsAreFew, NoneWorn, NeverWorn}
use Rattle.abt_interleave.proofs.Members.{Among, to-among, from-among, all-from-among}
use Rattle.abt_interleave.proofs.Clocks.{last-among}
use Rattle.abt_interleave.proofs.Merged.{log-is-own, log-rises}
use Rattle.abt_interleave.proofs.OneList.{above-rises, merge-exists, in-merge}
use Rattle.abt_interleave.proofs.Sorts.{merge-sorts}
use Rattle.abt_interleave.proofs.Tallies.{length-logs, sum-below-le}
use Rattle.abt_interleave.proofs.Stamping.{stamps-close}

module _ {Item Place : Type 0} (stamp stream : Item → ℕ) (place : Item → Option Place) where
  low-from : (n : ℕ) (a : Item) (bs : List Item) → StampedFrom stamp stream place a bs → stamp a ≤ n → (c : Item) → Among c (a ∷ bs) → stamp c ≤ n + length bs
  low-from n a [] s l c m = elim m [ inl q ↦ (let k : stamp c ≡ stamp a = ap stamp q in omega arith) | inr k ↦ absurd k ]
  low-from n a (b ∷ bs) s l c m =
      let up : stamp b ≤ stamp a + 1 = s.0.1 in
      elim m [
        | inl q ↦ (let k : stamp c ≡ stamp a = ap stamp q in omega arith)
        | inr k ↦ (let r : stamp c ≤ (n + 1) + length bs = low-from (n + 1) b bs s.2 (omega arith) c k in omega arith)
      ]

  -- no stamp of a stamped list is greater than its length
  pub low : (J : List Item) → Stamped stamp stream place J → (c : Item) → Among c J → stamp c ≤ length J
  low [] s c m = absurd m
  low (b ∷ bs) s c m = let one : stamp b ≡ 1 = s.0 in let r : stamp c ≤ 1 + length bs = low-from 1 b bs s.1 (omega arith) c m in omega arith

module _ (M : Machine) where
  deed-low : (J : List (DeedOf M)) → AreStamped J → (d : DeedOf M) → Among d J → d.stamp ≤ length J
  deed-low J s d m = low (λ (e : DeedOf M). e.stamp) (λ (e : DeedOf M). e.stream) place_of J s d m

  pub stamped-stays-low : StampedStaysLow M
  stamped-stays-low J s d m = deed-low J s d (to-among J d m)

  module _ (parts : ℕ → M.Part) (objects : M.Place → M.Object) (logs : ℕ → List (DeedOf M)) (histories : M.Place → List (EntryOf M)) (ends : ℕ → M.Part) (finals : M.Place → M.Object)
      (gathered : Gathered M parts objects logs histories ends finals) where
    pub own-log : (s : ℕ) (d : DeedOf M) → Among d (logs s) → d.stream ≡ s
    own-log s d m = log-is-own M parts objects logs histories ends finals gathered s d m

    pub rising-log : (s : ℕ) → RisesAbove 0 (deed_stamps (logs s))
    rising-log s = log-rises M parts objects logs histories ends finals gathered s

    -- the logs have a merge
    pub merged : (J : List (DeedOf M)) × IsMergeOf (λ (d : DeedOf M). d.stamp) (λ (d : DeedOf M). d.stream) logs J
    merged = merge-exists (λ (d : DeedOf M). d.stamp) (λ (d : DeedOf M). d.stream) M.streams logs (λ s. (above-rises 0 (deed_stamps (logs s)) (rising-log s), all-from-among (λ (d : DeedOf M). d.stream ≡ s) (logs s) (own-log s))) gathered.undeclared

    few : LeavesNoGap logs → (s : ℕ) (d : DeedOf M) → Among d (logs s) → d.stamp ≤ sum_below M.streams (λ r. length (logs r))
    few rule s d m =
        let J : List (DeedOf M) = merged.0 in
        let stamped : AreStamped J = stamps-close M parts objects logs histories ends finals J gathered rule (merge-sorts M logs rising-log (λ r e k. own-log r e (to-among (logs r) e k)) J merged.1) in
        let a : d.stamp ≤ length J = deed-low J stamped d (in-merge (λ (e : DeedOf M). e.stamp) (λ (e : DeedOf M). e.stream) logs J merged.1 s d m).0 in
        let b : length J ≡ sum_below M.streams (λ r. length (logs r)) = length-logs (λ (e : DeedOf M). e.stamp) (λ (e : DeedOf M). e.stream) logs J merged.1 M.streams gathered.undeclared in
        omega arith

    module _ (rule : LeavesNoGap logs) (streams : M.streams ≤ 64) (short : (s : ℕ) → length (logs s) < 2 ^ 55) where
      all-alike : (b : ℕ) → sum_below 64 (λ s. b) ≡ 64 * b
      all-alike b = omega arith

      deeds-low : (s : ℕ) (d : DeedOf M) → Among d (logs s) → d.stamp < 2 ^ 62
      deeds-low s d m =
          let a : d.stamp ≤ sum_below M.streams (λ r. length (logs r)) = few rule s d m in
          let b : sum_below M.streams (λ r. length (logs r)) ≤ sum_below 64 (λ r. 2 ^ 55) = sum-below-le M.streams (2 ^ 55) (λ r. length (logs r)) (λ r l. let k : length (logs r) < 2 ^ 55 = short r in omega arith) 64 streams in
          let c : sum_below 64 (λ r. 2 ^ 55) ≡ 64 * (2 ^ 55) = all-alike (2 ^ 55) in
          omega arith

      none-worn : NoneWorn M logs histories
      none-worn = record {
        deeds = λ s d m. deeds-low s d (to-among (logs s) d m);
        streams = λ s. elim (last-among (λ (d : DeedOf M). d.stamp) 0 (logs s)) [
          | inl e ↦ (let k : last_stamp (deed_stamps (logs s)) ≡ 0 = e in omega arith)
          | inr r ↦ (let k : r.0.stamp ≡ last_stamp (deed_stamps (logs s)) = r.2 in let l : r.0.stamp < 2 ^ 62 = deeds-low s r.0 r.1 in omega arith)
        ];
        objects = λ x. elim (last-among (λ (e : EntryOf M). e.stamp) 0 (histories x)) [
          | inl e ↦ (let k : last_stamp (entry_stamps (histories x)) ≡ 0 = e in omega arith)
          | inr r ↦ (let k : r.0.stamp ≡ last_stamp (entry_stamps (histories x)) = r.2 in
              let f = gathered.matched.has_deed x r.0 (from-among (histories x) r.0 r.1) in
              let q : f.0.stamp ≡ r.0.stamp = f.2.0 in
              let l : f.0.stamp < 2 ^ 62 = deeds-low r.0.caller f.0 (to-among (logs r.0.caller) f.0 f.1) in
              omega arith)
        ];
      }

  pub stamps-are-few : StampsAreFew M
  stamps-are-few parts objects logs histories ends finals gathered rule s d m = few parts objects logs histories ends finals gathered rule s d (to-among (logs s) d m)

  pub never-worn : NeverWorn M
  never-worn parts objects logs histories ends finals gathered rule streams short = none-worn parts objects logs histories ends finals gathered rule streams short
