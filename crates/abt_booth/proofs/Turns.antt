-- A turn as it begins, and one call more in it.
use Rattle.std.proofs.Common.{◌≡◌, ℕ, suc, ◌<◌, ◌≤◌, ◌^◌, List, [], ◌∷◌, ◌++◌, get_or, max, sym, ap, ◌∙◌, subst, arith, Some}
use Rattle.std.proofs.Math.Nat.{le-max_right}
use Rattle.std.proofs.lemmas.List.{append_assoc, append-nil}
use Rattle.std.specs.declared.snapshot.Snapshot.{Snapshot}
use Rattle.atomic_table.specs.Table.{rest}
use Rattle.abt_interleave.specs.declared.entries.Entry.{Entry}
use Rattle.abt_interleave.specs.Histories.{last_stamp, Extends, Leads, RisesAbove, entry_stamps}
use Rattle.abt_interleave.proofs.Prefixes.{extends-self}
use Rattle.abt_booth.specs.declared.booth.Called.{Called}
use Rattle.abt_booth.specs.declared.booth.Called.TheVariants as called
use Rattle.abt_booth.specs.declared.made.Call.{Call}
use Rattle.abt_booth.specs.declared.rule.Lot.{Lot}
use Rattle.abt_booth.specs.Holders.{sight_of, IsBusy, IsTaken}
use Rattle.abt_booth.specs.Lots.{Answers}
use Rattle.abt_booth.specs.Rule.{KeptLot, SeatState, Takes, entries_of}
use Rattle.abt_booth.specs.Seats.{added_by, IsReply}
use Rattle.abt_booth.proofs.Histories.{leads-more, rises-more, last-more}
use Rattle.abt_booth.proofs.Places.{same-some}

module _ {O A R : Type 0} where
  -- a seat with these two out has one
  same-lot : (xs ys zs : List (ℕ × KeptLot O A R)) (a b : Lot O A R) → xs ≡ (0, Some a) ∷ ys → xs ≡ (0, Some b) ∷ zs → a ≡ b
  same-lot xs ys zs a b ea eb = same-some a b (ap (λ (l : List (ℕ × KeptLot O A R)). (get_or l 0 (0, Some a)).1) (sym ea ∙ eb))

module _ {O A R : Type 0} (does : O → A → R → O → Type 0) (opening : O) where
  -- the turn that a seat took, which had nothing out, begins with no call
  pub busy-begun : (before me : SeatState O A R) (lot : Lot O A R) (made : Snapshot (List (Call A R))) → Takes does before me → before.1 ≡ [] → before.0.opening ≡ Some opening → me.1 ≡ (0, Some lot) ∷ rest me.1 → made.value ≡ []
      → IsBusy does opening (me.0, (0, Some record { object = lot.object; clock = lot.clock; made = made }) ∷ rest me.1)
  busy-begun before me lot made t none opens out empty =
      let begun : Lot O A R = record { object = lot.object; clock = lot.clock; made = made } in
      let held : me.1 ≡ (0, Some t.2) ∷ before.1 = ap (λ (m : SeatState O A R). m.1) t.4 in
      let same : t.2 ≡ lot = same-lot me.1 before.1 (rest me.1) t.2 lot held out in
      let first : t.0 ≡ opening = same-some t.0 opening (sym t.3 ∙ opens) in
      let clock : lot.clock ≡ last_stamp (entry_stamps t.1) = ap (λ (l : Lot O A R). l.clock) (sym same) ∙ t.6 in
      let sight : sight_of (me.0, (0, Some begun) ∷ rest me.1) ≡ t.1 =
      ap (λ (l : List (Call A R)). me.0.seen ++ entries_of me.0.number l) empty ∙ (append-nil me.0.seen ∙ ap (λ (m : SeatState O A R). m.0.seen) t.4) in (
        begun,
        ap (λ (xs : List (ℕ × KeptLot O A R)). (0, Some begun) ∷ xs) (ap rest held ∙ none),
        ap (λ (m : SeatState O A R). m.0.holds) t.4,
        record {
          leads = subst (λ (x : O × List (Entry A R) × O). Leads does x.0 x.1 x.2) (λ i. (first i, sym sight i, (same i).object)) t.5.1;
          rises = subst (λ (h : List (Entry A R)). RisesAbove 0 (entry_stamps h)) (sym sight) t.5.0;
          clock = clock ∙ ap (λ (h : List (Entry A R)). last_stamp (entry_stamps h)) (sym sight);
          capped = subst (λ (z : ℕ). z ≤ 2 ^ 62) (sym clock) t.7;
        },
      )

  -- what a seat with the turn has out is the lot that is found there
  pub taken-out : (me : SeatState O A R) (lot : Lot O A R) → IsBusy does opening me → me.1 ≡ (0, Some lot) ∷ rest me.1 → IsTaken does opening (sight_of me) lot
  taken-out me lot busy out = subst (λ (l : Lot O A R). IsTaken does opening (sight_of me) l) (same-lot me.1 [] (rest me.1) busy.0 lot busy.1 out) busy.3

-- a seat with the turn asks the object that it has out
module _ {O A R : Type 0} (does : O → A → R → O → Type 0) (opening : O) (me : SeatState O A R) (old new : Lot O A R) (at : ℕ) (act : A) (busy : IsBusy does opening me) (out : me.1 ≡ (0, Some old) ∷ rest me.1) where
  -- the seat after the call
  abbrev pub seat_after : SeatState O A R
  seat_after = (me.0, (0, Some new) ∷ rest me.1)

  -- it sees the call after the others
  pub sight-more : (reply : Called O A R) → Answers does old new at act reply → sight_of seat_after ≡ sight_of me ++ added_by me.0.number act reply
  sight-more (called.Done stamp answer) a =
      let v = me.0 in
      let e : Entry A R = record { stamp = stamp; caller = v.number; act = act; answer = answer } in
      ap (λ (l : List (Entry A R)). v.seen ++ l) (a.noted v.number)
      ∙ (sym (append_assoc v.seen (entries_of v.number old.made.value) (e ∷ [])) ∙ ap (λ (xs : List (ℕ × KeptLot O A R)). sight_of (v, xs) ++ e ∷ []) (sym out))
  sight-more (called.Worn back) w =
      ap (λ (l : Lot O A R). sight_of (me.0, (0, Some l) ∷ rest me.1)) w.same ∙ (ap (λ (xs : List (ℕ × KeptLot O A R)). sight_of (me.0, xs)) (sym out) ∙ sym (append-nil (sight_of me)))

  -- and the object is the one that all its calls lead to
  taken-more : (reply : Called O A R) → Answers does old new at act reply → IsTaken does opening (sight_of seat_after) new
  taken-more (called.Done stamp answer) a =
      let history = sight_of me in
      let e : Entry A R = record { stamp = stamp; caller = me.0.number; act = act; answer = answer } in
      let taken = taken-out does opening me old busy out in
      let later : old.clock < stamp = omega (arith, le-max_right at old.clock, a.stamped) in
      subst (λ (h : List (Entry A R)). IsTaken does opening h new) (sym (sight-more (called.Done stamp answer) a)) record {
        leads = leads-more does opening history old.object e new.object taken.leads a.done;
        rises = rises-more 0 history e taken.rises (subst (λ (z : ℕ). z < stamp) taken.clock later);
        clock = a.clock ∙ sym (last-more 0 history e);
        capped = subst (λ (z : ℕ). z ≤ 2 ^ 62) (sym a.clock) a.capped;
      }
  taken-more (called.Worn back) w =
      let same : sight_of me ≡ sight_of seat_after = sym (sight-more (called.Worn back) w ∙ append-nil (sight_of me)) in
      subst (λ (x : List (Entry A R) × Lot O A R). IsTaken does opening x.0 x.1) (λ i. (same i, sym w.same i)) (taken-out does opening me old busy out)

  -- it still has the turn
  pub busy-more : (reply : Called O A R) → Answers does old new at act reply → IsBusy does opening seat_after
  busy-more reply a = (new, ap (λ (xs : List (ℕ × KeptLot O A R)). (0, Some new) ∷ rest xs) busy.1, busy.2, taken-more reply a)

  -- and was answered as a seat that met what it had seen
  pub reply-more : (reply : Called O A R) → Answers does old new at act reply → IsReply does opening me.0.number (sight_of me) (sight_of seat_after) at act reply
  reply-more (called.Done stamp answer) a = let taken = taken-more (called.Done stamp answer) a in record {
    met = sight_of me;
    left = new.object;
    extends = extends-self me.0.number (sight_of me);
    entered = sight-more (called.Done stamp answer) a;
    legal = (taken.rises, taken.leads);
    stamped = a.stamped ∙ ap (λ (z : ℕ). suc (max at z)) (taken-out does opening me old busy out).clock;
    capped = a.capped;
  }
  reply-more (called.Worn back) w =
      let taken = taken-more (called.Worn back) w in
      let same : sight_of me ≡ sight_of seat_after = sym (sight-more (called.Worn back) w ∙ append-nil (sight_of me)) in record {
        left = new.object;
        returned = w.returned;
        extends = subst (λ (l : List (Entry A R)). Extends me.0.number (sight_of me) l) same (extends-self me.0.number (sight_of me));
        legal = (taken.rises, taken.leads);
        worn = ap (max at) (sym taken.clock ∙ ap (λ (l : Lot O A R). l.clock) w.same) ∙ w.worn;
      }
