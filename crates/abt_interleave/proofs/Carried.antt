-- Waves one after the other.
use Rattle.std.proofs.Common.{◌≡◌, ℕ, suc, max, ◌<◌, ◌≤◌, ◌^◌, inl, inr, Bool, List, [], ◌∷◌, ◌++◌, map, Option, Some, None, refl, sym, ◌∙◌, ap, subst, arith}
use Rattle.std.specs.Prelude.{Contains, if◌then◌else◌}
use mathlib.Core.List.{IsPrefix}
use Rattle.std.proofs.lemmas.Bool.{cases_lt, cases_Bool, cond_both, cond-true}
use Rattle.std.proofs.lemmas.List.{append_assoc}
use Rattle.std.proofs.lemmas.List.Elements.{All-contains, Contains-append_left, Contains-append_right, Contains-append_cases}
use Rattle.abt_interleave.specs.Histories.{RisesAbove, last_from, last_stamp, entry_stamps}
use Rattle.abt_interleave.specs.Deeds.{Heard}
use Rattle.abt_interleave.specs.Logs.{Matched}
use Rattle.abt_interleave.specs.Machines.{Machine, DeedOf, EntryOf, TellsPlaces, Gathered}
use Rattle.abt_interleave.specs.Stamps.{LeavesNoGap, IsTimed, AllTimed}
use Rattle.abt_interleave.specs.Laws.{at_place}
use Rattle.abt_interleave.specs.Ticking.{IsClock}
use Rattle.abt_interleave.specs.Bounds.{NoneWorn}
use Rattle.abt_interleave.specs.Lines.{CallOf, call_of, histories_of, Stands, AllStand, Woven}
use Rattle.abt_interleave.specs.Carrying.{joined_logs, joined_histories, stream_clocks, Carries, next_clocks, WavesBegin, WavesGoOn, TimesBegin, TimesGoOn, NoneMeetsWorn}
use Rattle.abt_interleave.proofs.Members.{Among, to-among, from-among}
use Rattle.abt_interleave.proofs.Clocks.{last-among}
use Rattle.abt_interleave.proofs.Histories.{rises-lower, rises-at}
use Rattle.abt_interleave.proofs.Grown.{gathered-join}
use Rattle.abt_interleave.proofs.Merged.{own-deeds}
use Rattle.abt_interleave.proofs.Ticks.{clock-kept, after-a-clock, all-timed-kept, all-timed-join, lasts-are-clocks}
use Rattle.abt_interleave.proofs.Prefixes.{prefix-self, among-left}
use Rattle.abt_interleave.proofs.Weaves.{entry_in, among-at}

-- Last stamps.

module _ {A : Type 0} (stamp : A → ℕ) where
  -- the last of two lists
  pub last-append : (n : ℕ) (xs ys : List A) → last_from n (map stamp (xs ++ ys)) ≡ last_from (last_from n (map stamp xs)) (map stamp ys)
  last-append n [] ys = refl
  last-append n (x ∷ xs) ys = last-append (stamp x) xs ys

  pub rises-last : (n : ℕ) (xs : List A) → RisesAbove n (map stamp xs) → n ≤ last_from n (map stamp xs)
  rises-last n [] r = omega arith
  rises-last n (x ∷ xs) r = let k : n < stamp x = r.0 in let l : stamp x ≤ last_from (stamp x) (map stamp xs) = rises-last (stamp x) xs r.1 in omega arith

  -- if stamps rise above n, the last one is the greater of n and the last one by itself
  last-max : (n : ℕ) (xs : List A) → RisesAbove n (map stamp xs) → last_from n (map stamp xs) ≡ max n (last_from 0 (map stamp xs))
  last-max n [] r = omega arith
  last-max n (x ∷ xs) r = let k : n < stamp x = r.0 in let l : stamp x ≤ last_from (stamp x) (map stamp xs) = rises-last (stamp x) xs r.1 in omega arith

  rises-prefix : (n : ℕ) (xs ys : List A) → RisesAbove n (map stamp (xs ++ ys)) → RisesAbove n (map stamp xs)
  rises-prefix n [] ys r = tt
  rises-prefix n (x ∷ xs) ys r = (r.0, rises-prefix (stamp x) xs ys r.1)

module _ (M : Machine) where
  -- What a line gives of one object.

  at-append : (x : M.Place) (xs ys : List (CallOf M)) → at_place M x (xs ++ ys) ≡ at_place M x xs ++ at_place M x ys
  at-append x [] ys = refl
  at-append x (c ∷ cs) ys = both (M.same c.act.0 x) (entry_in M c) (at_place M x cs) (at_place M x ys) (at_place M x (cs ++ ys)) (at-append x cs ys) where
    both : (b : Bool) (e : EntryOf M) (us vs ws : List (EntryOf M)) → ws ≡ us ++ vs → (if b then e ∷ ws else ws) ≡ (if b then e ∷ us else us) ++ vs
    both b e us vs ws q = elim (cases_Bool b) [
      | inl t ↦ subst (λ v. (if v then e ∷ ws else ws) ≡ (if v then e ∷ us else us) ++ vs) (sym t) (ap (λ (zs : List (EntryOf M)). e ∷ zs) q)
      | inr f ↦ subst (λ v. (if v then e ∷ ws else ws) ≡ (if v then e ∷ us else us) ++ vs) (sym f) q
    ]

  at-own : TellsPlaces M → (x : M.Place) (c : CallOf M) (cs : List (CallOf M)) → c.act.0 ≡ x → at_place M x (c ∷ cs) ≡ entry_in M c ∷ at_place M x cs
  at-own tells x c cs q = cond-true (M.same c.act.0 x) (entry_in M c ∷ at_place M x cs) (at_place M x cs) ((tells c.act.0 x).1 q)

  -- a line whose calls are all of one object has that object's stamps
  at-all : TellsPlaces M → (x : M.Place) (line : List (CallOf M)) → ((c : CallOf M) → Among c line → c.act.0 ≡ x) → entry_stamps (at_place M x line) ≡ entry_stamps line
  at-all tells x [] h = refl
  at-all tells x (c ∷ cs) h = ap (λ (es : List (EntryOf M)). entry_stamps es) (at-own tells x c cs (h c (inl refl))) ∙ ap (λ (ts : List ℕ). c.stamp ∷ ts) (at-all tells x cs (λ f m. h f (inr m)))

  -- the object's last stamp is no later than the line's
  at-last : (x : M.Place) (n m : ℕ) (line : List (CallOf M)) → n ≤ m → RisesAbove m (entry_stamps line) → last_from n (entry_stamps (at_place M x line)) ≤ last_from m (entry_stamps line)
  at-last x n m [] l r = l
  at-last x n m (c ∷ cs) l r =
      let k : m < c.stamp = r.0 in
      cond_both (M.same c.act.0 x) (entry_in M c ∷ at_place M x cs) (at_place M x cs) (λ es. last_from n (entry_stamps es) ≤ last_from c.stamp (entry_stamps cs))
      (λ _. at-last x c.stamp c.stamp cs (omega arith) r.1)
      (λ _. at-last x n c.stamp cs (omega arith) r.1)

  -- Clocks.

  max-clock : (logs : ℕ → List (DeedOf M)) (a b : ℕ) → IsClock M logs a → IsClock M logs b → IsClock M logs (max a b)
  max-clock logs a b p q = elim (cases_lt a b) [
    | inl l ↦ (let k : b ≡ max a b = omega arith in subst (IsClock M logs) k q)
    | inr g ↦ (let k : a ≡ max a b = omega arith in subst (IsClock M logs) k p)
  ]

  module _ {Lock : Type 0} (tells : TellsPlaces M) (lock : M.Place → Lock) (carried : Lock → ℕ) (clocks : ℕ → ℕ) (more : ℕ → List (DeedOf M)) (lines : Lock → List (CallOf M))
      (woven : Woven M lock carried clocks more lines) where
    -- a call in a line is a deed's
    line-deed : Matched more (histories_of M lock lines) → (l : Lock) (c : CallOf M) → Among c (lines l) → (d : DeedOf M) × Contains (more d.stream) d × (d.stamp ≡ c.stamp)
    line-deed matched l c m =
        let here : lock c.act.0 ≡ l = All-contains (λ (e : CallOf M). lock e.act.0 ≡ l) (lines l) c (woven.placed l) (from-among (lines l) c m) in
        let f = matched.has_deed c.act.0 (entry_in M c) (from-among (histories_of M lock lines c.act.0) (entry_in M c) (among-at M tells c (lines (lock c.act.0)) (subst (λ k. Among c (lines k)) (sym here) m))) in
        (f.0, subst (λ t. Contains (more t) f.0) (sym f.2.1) f.1, f.2.0)

    -- so the last stamp of a prefix of a line is a clock
    prefix-clock : Matched more (histories_of M lock lines) → (l : Lock) (met : List (CallOf M)) → IsPrefix met (lines l) → IsClock M more (last_stamp (entry_stamps met))
    prefix-clock matched l met prefix = elim (last-among (λ (c : CallOf M). c.stamp) 0 met) [
      | inl z ↦ inl z
      | inr r ↦ (let f = line-deed matched l r.0 (subst (Among r.0) prefix.1 (among-left r.0 met prefix.0 r.1)) in inr (f.0, f.1, f.2 ∙ r.2))
    ]

  module _ {Lock : Type 0} (tells : TellsPlaces M) (lock : M.Place → Lock) (carried : Lock → ℕ) (logs more : ℕ → List (DeedOf M)) (histories : M.Place → List (EntryOf M)) (lines : Lock → List (CallOf M))
      (woven : Woven M lock carried (stream_clocks M logs) more lines) where
    older : (s : ℕ) (d : DeedOf M) → Contains (logs s) d → Contains (joined_logs M logs more s) d
    older s d m = Contains-append_left (logs s) (more s) d m

    newer : (s : ℕ) (d : DeedOf M) → Contains (more s) d → Contains (joined_logs M logs more s) d
    newer s d m = Contains-append_right (logs s) (more s) d m

    module _ (carries : Carries M lock carried logs histories) where
      carried-clock : (l : Lock) → IsClock M (joined_logs M logs more) (carried l)
      carried-clock l = clock-kept M logs (joined_logs M logs more) older (carried l) (carries.clocks l)

      module _ (matched : Matched more (histories_of M lock lines)) where
        met-clock : (l : Lock) (met : List (CallOf M)) → IsPrefix met (lines l) → IsClock M (joined_logs M logs more) (last_stamp (entry_stamps met))
        met-clock l met prefix = clock-kept M more (joined_logs M logs more) newer (last_stamp (entry_stamps met)) (prefix-clock tells lock carried (stream_clocks M logs) more lines woven matched l met prefix)

        pub not-worn : NoneWorn M (joined_logs M logs more) (joined_histories M histories (histories_of M lock lines)) → (clock : ℕ) → IsClock M (joined_logs M logs more) clock → (l : Lock) (met : List (CallOf M)) → IsPrefix met (lines l) →
            max (max clock (carried l)) (last_stamp (entry_stamps met)) < 2 ^ 62
        not-worn none clock is l met prefix =
            elim (max-clock (joined_logs M logs more) (max clock (carried l)) (last_stamp (entry_stamps met)) (max-clock (joined_logs M logs more) clock (carried l) is (carried-clock l)) (met-clock l met prefix)) [
              | inl z ↦ (let k : max (max clock (carried l)) (last_stamp (entry_stamps met)) ≡ 0 = z in omega arith)
              | inr r ↦ (let k : r.0.stamp ≡ max (max clock (carried l)) (last_stamp (entry_stamps met)) = r.2 in let n : r.0.stamp < 2 ^ 62 = none.deeds r.0.stream r.0 r.1 in omega arith)
            ]

        -- the stamps of the wave are one more than clocks
        stand-clock : (clock : ℕ) (d : DeedOf M) (heard : Option (Heard M.Place M.Act M.Answer)) → IsClock M (joined_logs M logs more) clock → Stands M lock carried lines clock d heard → (c : ℕ) × IsClock M (joined_logs M logs more) c × (d.stamp ≡ suc c)
        stand-clock clock d None is w = (clock, is, w)
        stand-clock clock d (Some h) is w = (
          max (max clock (carried (lock h.0))) (last_stamp (entry_stamps w.0)),
          max-clock (joined_logs M logs more) (max clock (carried (lock h.0))) (last_stamp (entry_stamps w.0)) (max-clock (joined_logs M logs more) clock (carried (lock h.0)) is (carried-clock (lock h.0)))
              (met-clock (lock h.0) w.0 (call_of M d h ∷ w.1, sym w.2)),
          w.3,
        )

        stand-clocks : (clock : ℕ) (ds : List (DeedOf M)) → ((d : DeedOf M) → Among d ds → Contains (joined_logs M logs more d.stream) d) → IsClock M (joined_logs M logs more) clock → AllStand M lock carried lines clock ds →
            (d : DeedOf M) → Among d ds → (c : ℕ) × IsClock M (joined_logs M logs more) c × (d.stamp ≡ suc c)
        stand-clocks clock [] within is w d m = absurd m
        stand-clocks clock (e ∷ es) within is w d m = elim m [
          | inl i ↦ (let r = stand-clock clock e e.heard is w.0 in (r.0, r.1, ap (λ (z : DeedOf M). z.stamp) i ∙ r.2))
          | inr n ↦ stand-clocks e.stamp es (λ f k. within f (inr k)) (inr (e, within e (inl refl), refl)) w.1 d n
        ]

    module _ (parts ends news : ℕ → M.Part) (objects finals results : M.Place → M.Object) (old : Gathered M parts objects logs histories ends finals) (rule : LeavesNoGap logs) (carries : Carries M lock carried logs histories)
        (new : Gathered M ends finals more (histories_of M lock lines) news results) where
      all-gathered : Gathered M parts objects (joined_logs M logs more) (joined_histories M histories (histories_of M lock lines)) news results
      all-gathered = gathered-join M parts ends news objects finals results logs more histories (histories_of M lock lines) old new woven.climb
          (λ x. rises-lower (last_stamp (entry_stamps (histories x))) (carried (lock x)) (entry_stamps (histories_of M lock lines x)) (carries.above x) (rises-at M x (carried (lock x)) (lines (lock x)) (woven.rise (lock x))))

      own : (s : ℕ) (d : DeedOf M) → Contains (joined_logs M logs more s) d → d.stream ≡ s
      own s d m = elim (cases_lt s M.streams) [
        | inl lt ↦ belongs s lt d m
        | inr ge ↦ absurd (to-among [] d (subst (λ ds. Contains ds d) (all-gathered.undeclared s ge) m))
      ] where
        belongs : (r : ℕ) → r < M.streams → (f : DeedOf M) → Contains (joined_logs M logs more r) f → f.stream ≡ r
        belongs r lt f n = own-deeds M r (parts r) (news r) (joined_logs M logs more r) (all-gathered.courses r lt).1 f (to-among (joined_logs M logs more r) f n)

      all-no-gap : LeavesNoGap (joined_logs M logs more)
      all-no-gap s d m = elim (Contains-append_cases (logs s) (more s) d m) [
        | inl k ↦ elim (rule s d k) [ inl e ↦ inl e | inr r ↦ inr (r.0, older r.0.stream r.0 r.1, r.2) ]
        | inr k ↦ (let r = stand-clocks carries new.matched (stream_clocks M logs s) (more s)
            (λ f n. let there : Contains (joined_logs M logs more s) f = newer s f (from-among (more s) f n) in subst (λ t. Contains (joined_logs M logs more t) f) (sym (own s f there)) there)
            (clock-kept M logs (joined_logs M logs more) older (stream_clocks M logs s) ((lasts-are-clocks M parts objects logs histories ends finals old).0 s)) (woven.stand s) d (to-among (more s) d k) in
            after-a-clock M (joined_logs M logs more) r.0 d r.1 r.2)
      ]

      all-carries : Carries M lock (next_clocks carried (λ l. last_stamp (entry_stamps (lines l)))) (joined_logs M logs more) (joined_histories M histories (histories_of M lock lines))
      all-carries = record {
        above = λ x.
            let a : last_stamp (entry_stamps (histories x ++ histories_of M lock lines x)) ≡ last_from (last_stamp (entry_stamps (histories x))) (entry_stamps (histories_of M lock lines x)) = last-append (λ (e : EntryOf M). e.stamp) 0 (histories x) (histories_of M lock lines x) in
            let b : last_from (last_stamp (entry_stamps (histories x))) (entry_stamps (at_place M x (lines (lock x)))) ≤ last_from (carried (lock x)) (entry_stamps (lines (lock x))) = at-last x (last_stamp (entry_stamps (histories x))) (carried (lock x)) (lines (lock x)) (carries.above x) (woven.rise (lock x)) in
            let c : last_from (carried (lock x)) (entry_stamps (lines (lock x))) ≡ max (carried (lock x)) (last_stamp (entry_stamps (lines (lock x)))) = last-max (λ (e : CallOf M). e.stamp) (carried (lock x)) (lines (lock x)) (woven.rise (lock x)) in
            omega arith;
        clocks = λ l. max-clock (joined_logs M logs more) (carried l) (last_stamp (entry_stamps (lines l))) (carried-clock carries l) (met-clock carries new.matched l (lines l) (prefix-self (lines l)));
      }

    -- Each object has a lock of its own.

    module _ (apart : (x y : M.Place) → lock x ≡ lock y → x ≡ y) (last : (x : M.Place) → carried (lock x) ≡ last_stamp (entry_stamps (histories x))) where
      at-home : (x : M.Place) (c : CallOf M) → Among c (lines (lock x)) → c.act.0 ≡ x
      at-home x c m = apart c.act.0 x (All-contains (λ (e : CallOf M). lock e.act.0 ≡ lock x) (lines (lock x)) c (woven.placed (lock x)) (from-among (lines (lock x)) c m))

      -- the last stamp of the object, with a prefix of this wave's line
      prefix-last : (x : M.Place) (met : List (CallOf M)) → IsPrefix met (lines (lock x)) → max (carried (lock x)) (last_stamp (entry_stamps met)) ≡ last_stamp (entry_stamps (histories x ++ at_place M x met))
      prefix-last x met prefix =
          let a : last_stamp (entry_stamps (histories x ++ at_place M x met)) ≡ last_from (last_stamp (entry_stamps (histories x))) (entry_stamps (at_place M x met)) = last-append (λ (e : EntryOf M). e.stamp) 0 (histories x) (at_place M x met) in
          let b : entry_stamps (at_place M x met) ≡ entry_stamps met = at-all tells x met (λ c m. at-home x c (subst (Among c) prefix.1 (among-left c met prefix.0 m))) in
          let c : last_from (carried (lock x)) (entry_stamps met) ≡ max (carried (lock x)) (last_stamp (entry_stamps met)) = last-max (λ (e : CallOf M). e.stamp) (carried (lock x)) met (rises-prefix (λ (e : CallOf M). e.stamp) (carried (lock x)) met prefix.0 (subst (λ line. RisesAbove (carried (lock x)) (entry_stamps line)) (sym prefix.1) (woven.rise (lock x)))) in
          let e : last_from (last_stamp (entry_stamps (histories x))) (entry_stamps (at_place M x met)) ≡ last_from (carried (lock x)) (entry_stamps met) = (λ i. last_from (sym (last x) i) (b i)) in
          sym c ∙ (sym e ∙ sym a)

      stand-timed : (clock : ℕ) (d : DeedOf M) (heard : Option (Heard M.Place M.Act M.Answer)) → Stands M lock carried lines clock d heard → IsTimed (joined_histories M histories (histories_of M lock lines)) clock d heard
      stand-timed clock d None w = w
      stand-timed clock d (Some h) w =
          let x : M.Place = h.0 in
          let entry : EntryOf M = record { stamp = d.stamp; caller = d.stream; act = h.1; answer = h.2 } in
          let parted : histories_of M lock lines x ≡ at_place M x w.0 ++ entry ∷ at_place M x w.1 = ap (at_place M x) w.2 ∙ (at-append x w.0 (call_of M d h ∷ w.1) ∙ ap (λ (es : List (EntryOf M)). at_place M x w.0 ++ es) (at-own tells x (call_of M d h) w.1 refl)) in
          let l : max (carried (lock x)) (last_stamp (entry_stamps w.0)) ≡ last_stamp (entry_stamps (histories x ++ at_place M x w.0)) = prefix-last x w.0 (call_of M d h ∷ w.1, sym w.2) in
          let k : d.stamp ≡ suc (max (max clock (carried (lock x))) (last_stamp (entry_stamps w.0))) = w.3 in
          (histories x ++ at_place M x w.0, at_place M x w.1, ap (λ (es : List (EntryOf M)). histories x ++ es) parted ∙ sym (append_assoc (histories x) (at_place M x w.0) (entry ∷ at_place M x w.1)), omega arith)

      stands-timed : (clock : ℕ) (ds : List (DeedOf M)) → AllStand M lock carried lines clock ds → AllTimed (joined_histories M histories (histories_of M lock lines)) clock ds
      stands-timed clock [] w = tt
      stands-timed clock (d ∷ ds) w = (stand-timed clock d d.heard w.0, stands-timed d.stamp ds w.1)

      all-timed : ((s : ℕ) → AllTimed histories 0 (logs s)) → (s : ℕ) → AllTimed (joined_histories M histories (histories_of M lock lines)) 0 (joined_logs M logs more s)
      all-timed timed s = all-timed-join M (joined_histories M histories (histories_of M lock lines)) 0 (logs s) (more s)
          (all-timed-kept M histories (joined_histories M histories (histories_of M lock lines)) (λ x. (histories_of M lock lines x, refl)) 0 (logs s) (timed s)) (stands-timed (stream_clocks M logs s) (more s) (woven.stand s))

      all-last : (x : M.Place) → next_clocks carried (λ l. last_stamp (entry_stamps (lines l))) (lock x) ≡ last_stamp (entry_stamps (joined_histories M histories (histories_of M lock lines) x))
      all-last x = prefix-last x (lines (lock x)) (prefix-self (lines (lock x)))

-- a member of no list
none-in : {A : Type 0} {B : Type 0} (x : A) → Contains [] x → B
none-in x m = absurd (to-among [] x m)

module _ (M : Machine) (Lock : Type 0) where
  -- the clocks of a wave are its lines' last stamps
  closes : (carried closing : Lock → ℕ) (lines : Lock → List (CallOf M)) → ((l : Lock) → closing l ≡ last_stamp (entry_stamps (lines l))) → next_clocks carried (λ l. last_stamp (entry_stamps (lines l))) ≡ next_clocks carried closing
  closes carried closing lines last = λ i l. max (carried l) (sym (last l) i)

  pub waves-begin : WavesBegin M Lock
  waves-begin lock parts objects = record {
    gathered = record {
      courses = λ s lt. (tt, refl);
      undeclared = λ s ge. refl;
      legal = λ x. (tt, refl);
      matched = record { has_entry = λ d x e m l. none-in d m; has_deed = λ x e m. none-in e m };
    };
    no_gap = λ s d m. none-in d m;
    carries = record { above = λ x. omega arith; clocks = λ l. inl refl };
  }

  pub waves-go-on : WavesGoOn M Lock
  waves-go-on tells lock carried closing parts ends news objects finals results logs more histories old left = record {
    gathered = all-gathered M tells lock carried logs more histories left.lines left.woven parts ends news objects finals results old.gathered old.no_gap old.carries left.gathered;
    no_gap = all-no-gap M tells lock carried logs more histories left.lines left.woven parts ends news objects finals results old.gathered old.no_gap old.carries left.gathered;
    carries = subst (λ clocks. Carries M lock clocks (joined_logs M logs more) (joined_histories M histories (histories_of M lock left.lines))) (closes carried closing left.lines left.last)
        (all-carries M tells lock carried logs more histories left.lines left.woven parts ends news objects finals results old.gathered old.no_gap old.carries left.gathered);
  }

  pub times-begin : TimesBegin M Lock
  times-begin lock = record { deeds = λ s. tt; clocks = λ x. refl }

  pub times-go-on : TimesGoOn M Lock
  times-go-on tells lock apart carried closing ends news finals results logs more histories old left = record {
    deeds = all-timed M tells lock carried logs more histories left.lines left.woven apart old.clocks old.deeds;
    clocks = λ x. subst (λ clocks. clocks (lock x) ≡ last_stamp (entry_stamps (joined_histories M histories (histories_of M lock left.lines) x))) (closes carried closing left.lines left.last)
        (all-last M tells lock carried logs more histories left.lines left.woven apart old.clocks x);
  }

  pub none-meets-worn : NoneMeetsWorn M Lock
  none-meets-worn tells lock carried closing parts ends news objects finals results logs more histories old left none clock is l met prefix =
      not-worn M tells lock carried logs more histories left.lines left.woven old.carries left.gathered.matched none clock is l met prefix
