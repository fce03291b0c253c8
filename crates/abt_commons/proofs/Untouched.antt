-- Locks that nobody called are closed as they were made.
use Rattle.std.proofs.Common.{◌≡◌, ◌==◌, ℕ, ◌+◌, ◌<◌, ◌≤◌, List, [], ◌∷◌, ◌++◌, map, reverse, length, get_or, Some, refl, sym, ◌∙◌, ap, subst, arith, inl, inr, zero-add, length-append}
use Rattle.std.specs.Prelude.{option_map}
use Rattle.std.specs.List.{All}
use Rattle.std.proofs.lemmas.Bool.{cond-true, eq-eqb}
use Rattle.std.proofs.lemmas.List.{length-map, length-reverse, ext_get_or}
use Rattle.std.proofs.lemmas.List.Elements.{All-head, All-contains}
use Rattle.std.proofs.lemmas.Option.{slice_get-map, slice_get_cases, get_or_from_slice_get}
use Rattle.abt_machine.specs.declared.workload.Parts.{Parts}
use Rattle.abt_machine.specs.Values.{NotHere}
use Rattle.abt_booth.specs.declared.booth.Booth.{Booth}
use Rattle.abt_interleave.specs.declared.entries.Entry.{Entry}
use Rattle.abt_interleave.specs.Histories.{Extends, Leads, calls_of, last_stamp, entry_stamps}
use Rattle.abt_booth.specs.Seats.{opening_of}
use Rattle.abt_interleave.proofs.Members.{from-among}
use Rattle.abt_commons.specs.declared.acts.Act.{Act}
use Rattle.abt_commons.specs.declared.acts.Answer.{Answer}
use Rattle.abt_commons.specs.declared.split.SplitPass.{SplitPass}
use Rattle.abt_commons.specs.Asks.{Does}
use Rattle.abt_commons.specs.Held.{IsWhole, OneValue, objects_value}
use Rattle.abt_commons.specs.Locking.{AreDealt}
use Rattle.abt_commons.specs.Splits.{HasSeenNothing, SplitValue, seen_from}
use Rattle.abt_commons.specs.Turns.{TurnValue}
use Rattle.abt_commons.specs.Closing.{AllUnlocked, WasClosed, WereClosed, knew, knew_by}
use Rattle.abt_commons.proofs.Dealing.{dealt-passes}

-- a history with no call of any seat is empty
no-call : (n : ℕ) (history : List (Entry Act Answer)) → All (λ e. e.caller < n) history → ((k : ℕ) → k < n → calls_of k history ≡ []) → history ≡ []
no-call n [] below none = refl
no-call n (e ∷ es) below none =
    let lt : e.caller < n = All-head (λ (f : Entry Act Answer). f.caller < n) e es below in
    let here : calls_of e.caller (e ∷ es) ≡ e ∷ calls_of e.caller es = cond-true (e.caller == e.caller) (e ∷ calls_of e.caller es) (calls_of e.caller es) (eq-eqb e.caller e.caller refl) in
    let same : e ∷ calls_of e.caller es ≡ [] = sym here ∙ none e.caller lt in
    absurd (let m : length (e ∷ calls_of e.caller es) ≡ 0 = ap length same in omega (arith, m))

module _ (passes : List SplitPass) (fresh : All HasSeenNothing passes) where
  nothing-by : (i : ℕ) (p : SplitPass) → HasSeenNothing p → knew_by i (Some p) ≡ []
  nothing-by i p none = elim (slice_get_cases p.turns.items i).1 [
    | inl x ↦ ap seen_from x.2 ∙ subst (λ (t : TurnValue). t.seen ≡ []) x.3 (none i x.0 x.1)
    | inr past ↦ ap seen_from past.1
  ]

  nothing-known : (i k : ℕ) → k < length passes → knew passes i k ≡ []
  nothing-known i k lt = elim (slice_get_cases passes k).1 [
    | inl x ↦ ap (knew_by i) x.2 ∙ nothing-by i x.0 (subst HasSeenNothing x.3 (fresh k x.0 x.1))
    | inr past ↦ absurd (omega (arith, past.0, lt))
  ]

  as-made : (i : ℕ) (booth : Booth OneValue Act Answer) (carried : ℕ) (object : OneValue) (clock : ℕ) → WasClosed passes i booth carried object clock → (object ≡ opening_of booth) × (clock ≡ carried)
  as-made i booth carried object clock ended =
      let closed = ended.closed in
      let none : (k : ℕ) → k < length passes → calls_of k closed.history ≡ [] = λ k lt.
      (let extends = All-contains (λ (known : ℕ × List (Entry Act Answer)). Extends known.0 known.1 closed.history) ended.known (k, knew passes i k) closed.seen (from-among ended.known (k, knew passes i k) (ended.there k lt)) in
      extends.1 ∙ ap (calls_of k) (nothing-known i k lt)) in
      let empty : closed.history ≡ [] = no-call (length passes) closed.history closed.of_seats none in
      let leads : Leads Does (opening_of booth) [] object = subst (λ h. Leads Does (opening_of booth) h object) empty closed.legal.1 in
      let last : ended.last ≡ 0 = closed.last ∙ ap (λ (h : List (Entry Act Answer)). last_stamp (entry_stamps h)) empty in
      (sym leads, (let raised = ended.raised in omega (arith, raised, last)))

module _ (booths : List (Booth OneValue Act Answer)) (passes : List SplitPass) (carried : List ℕ) (objects : List OneValue) (clocks : List ℕ) (ended : WereClosed booths passes carried 0 objects clocks) (fresh : All HasSeenNothing passes)
    (fits : length booths ≤ length carried) where
  many : length objects ≡ length booths
  many = (let m = ended.many in omega (arith, m))

  made-at : (i : ℕ) (booth : Booth OneValue Act Answer) (o : OneValue) (c d : ℕ) → i < length objects → (get_or objects i o ≡ opening_of (get_or booths i booth)) × (get_or clocks i d ≡ get_or carried i c)
  made-at i booth o c d lt =
      let e : 0 + i ≡ i = zero-add i in
      as-made passes fresh i (get_or booths i booth) (get_or carried i c) (get_or objects i o) (get_or clocks i d)
      (subst (λ j. WasClosed passes j (get_or booths j booth) (get_or carried j c) (get_or objects i o) (get_or clocks j d)) e (ended.each i booth c d o lt))

  object-at : (i : ℕ) (o : OneValue) → i < length objects → get_or objects i o ≡ get_or (map opening_of booths) i o
  object-at i o lt = elim (slice_get_cases booths i).1 [
    | inl x ↦ (made-at i x.0 o 0 0 lt).0 ∙ (ap opening_of x.3 ∙ sym (get_or_from_slice_get (map opening_of booths) i (opening_of x.0) o (slice_get-map opening_of booths i ∙ ap (option_map opening_of) x.2)))
    | inr past ↦ absurd (omega (arith, past.0, lt, many))
  ]

  clock-at : (i : ℕ) → i < length clocks → get_or clocks i 0 ≡ get_or carried i 0
  clock-at i lt = elim (slice_get_cases booths i).1 [
    | inl x ↦ (let a = x.1 in (made-at i x.0 (opening_of x.0) 0 0 (omega (arith, a, many))).1)
    | inr past ↦ ended.others i 0 (inr past.0)
  ]

  pub objects-back : (o : OneValue) → objects ≡ map opening_of booths
  objects-back o = ext_get_or o objects (map opening_of booths) (many ∙ sym (length-map booths opening_of)) (λ i lt. object-at i o lt)

  pub clocks-back : clocks ≡ carried
  clocks-back = ext_get_or 0 clocks carried ended.clocks_many clock-at

-- All objects are behind locks or in the room.
module _ (booths : List (Booth OneValue Act Answer)) (room ones : List OneValue) (all : map opening_of booths ++ reverse room ≡ ones) where
  pub whole-room : length room + length booths ≡ length ones
  whole-room =
      let n : length (map opening_of booths ++ reverse room) ≡ length ones = ap length all in
      omega (arith, n, length-append (map opening_of booths) (reverse room), length-map booths opening_of, length-reverse room)

  -- If the locks are closed with no call made, all objects come back, and the clocks are as they were.
  pub all-back : (W : Parts) (clocks ends : List ℕ) (n : ℕ) (passes : List SplitPass) (full : List OneValue) → IsWhole (objects_value W ones clocks) → AreDealt booths (length room) n passes → AllUnlocked booths passes clocks room full ends
      → (full ≡ ones) × (ends ≡ clocks)
  all-back W clocks ends n passes full whole dealt ended =
      let split : SplitValue = record { workload = W; streams = n; booths = booths; clocks = clocks } in
      let fresh = (dealt-passes split (length room) n passes dealt).1 in
      let many : length ones ≡ length clocks = sym (length-map ones (λ (one : OneValue). one.object)) ∙ (whole.objects ∙ sym whole.clocks) in
      let some = whole-room in
      let fits : length booths ≤ length clocks = omega (arith, many, some) in
      let same = objects-back booths passes clocks ended.0 ends ended.2 fresh fits (record { workload = W; object = NotHere }) in (
        ended.1 ∙ (ap (λ xs. xs ++ reverse room) same ∙ all),
        clocks-back booths passes clocks ended.0 ends ended.2 fresh fits,
      )
