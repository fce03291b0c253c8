-- What streams saw and what locks have left make logs and histories.
use Rattle.std.proofs.Common.{◌≡◌, ℕ, suc, max, ◌<◌, ◌≤◌, inl, inr, List, [], ◌∷◌, map, Option, Some, None, refl, sym, ◌∙◌, ap, subst, arith}
use Rattle.std.specs.Prelude.{Contains}
use Rattle.std.specs.List.{All}
use Rattle.std.proofs.lemmas.Bool.{cases_lt, cond_both, cond-true}
use Rattle.std.proofs.lemmas.List.Elements.{All-nil, All-contains}
use Rattle.abt_interleave.specs.Histories.{RisesAbove, last_stamp, entry_stamps, Leads}
use Rattle.abt_interleave.specs.Deeds.{Heard, deed_stamps, Does}
use Rattle.abt_interleave.specs.Logs.{LeavesEntry, Matched}
use Rattle.abt_interleave.specs.Machines.{Machine, DeedOf, EntryOf, TellsPlaces, Gathered}
use Rattle.abt_interleave.specs.Laws.{at_place}
use Rattle.abt_interleave.specs.Lines.{CallOf, call_of, histories_of, Walks, Stands, AllStand, Woven, IsLine}
use Rattle.abt_interleave.specs.Weaving.{TellsLocks, WavesWeave, IdleLocksLeave}
use Rattle.abt_interleave.proofs.Members.{Among, to-among, from-among, all-from-among}
use Rattle.abt_interleave.proofs.Histories.{rises-lower, rises-at}
use Rattle.abt_interleave.proofs.Parts.{same-self}
use Rattle.abt_interleave.proofs.Prefixes.{extends-self, extends-calls, among-right, all-stand, IsCalled, walks-calls}

-- stamps that rise, all above n
pub rises-above : {A : Type 0} (stamp : A → ℕ) (m n : ℕ) (xs : List A) → RisesAbove m (map stamp xs) → ((x : A) → Among x xs → n < stamp x) → RisesAbove n (map stamp xs)
rises-above stamp m n [] r h = tt
rises-above stamp m n (x ∷ xs) r h = (h x (inl refl), r.1)

module _ (M : Machine) where
  -- the entry that a call in a line is to its object
  abbrev pub entry_in : CallOf M → EntryOf M
  entry_in c = record { stamp = c.stamp; caller = c.caller; act = c.act.1; answer = c.answer }

  pub at-among : (x : M.Place) (e : EntryOf M) (line : List (CallOf M)) → TellsPlaces M → Among e (at_place M x line) → (c : CallOf M) × Among c line × (c.act.0 ≡ x) × (e ≡ entry_in c)
  at-among x e [] tells = λ m. absurd m
  at-among x e (c ∷ cs) tells =
      cond_both (M.same c.act.0 x) (entry_in c ∷ at_place M x cs) (at_place M x cs) (λ ys. Among e ys → (f : CallOf M) × Among f (c ∷ cs) × (f.act.0 ≡ x) × (e ≡ entry_in f))
      (λ same m. elim m [ inl i ↦ (c, inl refl, (tells c.act.0 x).0 same, i) | inr n ↦ later (at-among x e cs tells n) ])
      (λ _ m. later (at-among x e cs tells m)) where
        later : (f : CallOf M) × Among f cs × (f.act.0 ≡ x) × (e ≡ entry_in f) → (f : CallOf M) × Among f (c ∷ cs) × (f.act.0 ≡ x) × (e ≡ entry_in f)
        later r = (r.0, inr r.1, r.2, r.3)

  pub among-at : TellsPlaces M → (c : CallOf M) (line : List (CallOf M)) → Among c line → Among (entry_in c) (at_place M c.act.0 line)
  among-at tells c [] m = absurd m
  among-at tells c (f ∷ fs) m = elim m [
    | inl i ↦ subst (λ (z : CallOf M). Among (entry_in c) (at_place M c.act.0 (z ∷ fs))) i
        (subst (Among (entry_in c)) (sym (cond-true (M.same c.act.0 c.act.0) (entry_in c ∷ at_place M c.act.0 fs) (at_place M c.act.0 fs) (same-self M tells c.act.0))) (inl refl))
    | inr n ↦ cond_both (M.same f.act.0 c.act.0) (entry_in f ∷ at_place M c.act.0 fs) (at_place M c.act.0 fs) (Among (entry_in c)) (λ _. inr (among-at tells c fs n)) (λ _. among-at tells c fs n)
  ]

  module _ {Lock : Type 0} (lock : M.Place → Lock) (carried : Lock → ℕ) (lines : Lock → List (CallOf M)) where
    -- a deed's stamp is above its stream's clock
    stand-above : (clock : ℕ) (d : DeedOf M) (heard : Option (Heard M.Place M.Act M.Answer)) → Stands M lock carried lines clock d heard → clock < d.stamp
    stand-above clock d None w = let k : d.stamp ≡ suc clock = w in omega arith
    stand-above clock d (Some h) w = let k : d.stamp ≡ suc (max (max clock (carried (lock h.0))) (last_stamp (entry_stamps w.0))) = w.3 in omega arith

    -- and above the clock carried to its lock
    stand-carried : (clock : ℕ) (d : DeedOf M) (heard : Option (Heard M.Place M.Act M.Answer)) (h : Heard M.Place M.Act M.Answer) → heard ≡ Some h → Stands M lock carried lines clock d heard → carried (lock h.0) < d.stamp
    stand-carried clock d heard h q w =
        let v : Stands M lock carried lines clock d (Some h) = subst (Stands M lock carried lines clock d) q w in
        let k : d.stamp ≡ suc (max (max clock (carried (lock h.0))) (last_stamp (entry_stamps v.0))) = v.3 in omega arith

    -- a deed's call is in the line
    pub stand-call : (clock : ℕ) (d : DeedOf M) (heard : Option (Heard M.Place M.Act M.Answer)) (h : Heard M.Place M.Act M.Answer) → heard ≡ Some h → Stands M lock carried lines clock d heard → Among (call_of M d h) (lines (lock h.0))
    stand-call clock d heard h q w =
        let v : Stands M lock carried lines clock d (Some h) = subst (Stands M lock carried lines clock d) q w in
        subst (Among (call_of M d h)) (sym v.2) (among-right (call_of M d h) v.0 (call_of M d h ∷ v.1) (inl refl))

    pub each-stands : (clock : ℕ) (ds : List (DeedOf M)) → AllStand M lock carried lines clock ds → (d : DeedOf M) → Among d ds → (own : ℕ) × Stands M lock carried lines own d d.heard
    each-stands clock [] w d m = absurd m
    each-stands clock (e ∷ es) w d m = elim m [
      | inl i ↦ (clock, subst (λ (z : DeedOf M). Stands M lock carried lines clock z z.heard) (sym i) w.0)
      | inr n ↦ each-stands e.stamp es w.1 d n
    ]

    pub all-climb : (clock : ℕ) (ds : List (DeedOf M)) → AllStand M lock carried lines clock ds → RisesAbove clock (deed_stamps ds)
    all-climb clock [] w = tt
    all-climb clock (d ∷ ds) w = (stand-above clock d d.heard w.0, all-climb d.stamp ds w.1)

  module _ {Lock : Type 0} (tells : TellsPlaces M) (locks : TellsLocks Lock) (lock : M.Place → Lock) (carried : Lock → ℕ) (clocks : ℕ → ℕ)
      (parts ends : ℕ → M.Part) (objects finals : M.Place → M.Object) (logs : ℕ → List (DeedOf M)) (seen : ℕ → Lock → List (CallOf M)) (lines : Lock → List (CallOf M))
      (does : (s : ℕ) → s < M.streams → Does M.Steps s (parts s) (logs s) (ends s)) (undeclared : (s : ℕ) → M.streams ≤ s → logs s ≡ [])
      (walks : (s : ℕ) → s < M.streams → Walks M lock carried s (λ l. []) (clocks s) (logs s) (seen s))
      (closed : (l : Lock) → IsLine M M.streams (λ s. seen s l) (lines l)) where
    stand : (s : ℕ) → AllStand M lock carried lines (clocks s) (logs s)
    stand s = elim (cases_lt s M.streams) [
      | inl lt ↦ all-stand M lock carried locks s (clocks s) (λ l. []) (seen s) lines (logs s) (walks s lt) (λ l. ((closed l).seen s lt).0)
      | inr ge ↦ subst (AllStand M lock carried lines (clocks s)) (sym (undeclared s ge)) tt
    ]

    -- each call in a line is a deed's
    is-called : (l : Lock) (c : CallOf M) → Among c (lines l) → (d : DeedOf M) × Among d (logs c.caller) × IsCalled M lock carried locks l c d
    is-called l c m =
        let lt : c.caller < M.streams = All-contains (λ (e : CallOf M). e.caller < M.streams) (lines l) c (closed l).of_streams (from-among (lines l) c m) in
        elim (walks-calls M lock carried locks c.caller (clocks c.caller) (λ k. []) (seen c.caller) (logs c.caller) (walks c.caller lt) l c (extends-calls c.caller (seen c.caller l) (lines l) ((closed l).seen c.caller lt) c m refl) refl) [
          | inl n ↦ absurd n
          | inr r ↦ r
        ]

    placed : (l : Lock) → All (λ (e : CallOf M). lock e.act.0 ≡ l) (lines l)
    placed l = all-from-among (λ (e : CallOf M). lock e.act.0 ≡ l) (lines l) (λ c m. let r = is-called l c m in ap (λ (e : CallOf M). lock e.act.0) r.2.3 ∙ r.2.2)

    above-carried : (l : Lock) (c : CallOf M) → Among c (lines l) → carried l < c.stamp
    above-carried l c m =
        let r = is-called l c m in
        let w = each-stands lock carried lines (clocks c.caller) (logs c.caller) (stand c.caller) r.0 r.1 in
        subst (λ t. carried l < t) (sym (ap (λ (e : CallOf M). e.stamp) r.2.3)) (subst (λ k. carried k < r.0.stamp) r.2.2 (stand-carried lock carried lines w.0 r.0 r.0.heard r.2.0 r.2.1 w.1))

    rise : (l : Lock) → RisesAbove (carried l) (entry_stamps (lines l))
    rise l = rises-above (λ (e : CallOf M). e.stamp) 0 (carried l) (lines l) (closed l).rises (above-carried l)

    climb : (s : ℕ) → RisesAbove (clocks s) (deed_stamps (logs s))
    climb s = all-climb lock carried lines (clocks s) (logs s) (stand s)

    -- a deed with a call leaves its entry
    has-entry : (d : DeedOf M) (x : M.Place) (e : EntryOf M) → Among d (logs d.stream) → LeavesEntry d x e → Among e (histories_of M lock lines x)
    has-entry d x e m l =
        let w = each-stands lock carried lines (clocks d.stream) (logs d.stream) (stand d.stream) d m in
        let c : CallOf M = call_of M d (x, e.act, e.answer) in
        let there : Among (entry_in c) (at_place M x (lines (lock x))) = among-at tells c (lines (lock x)) (stand-call lock carried lines w.0 d d.heard (x, e.act, e.answer) l.2 w.1) in
        subst (λ (z : EntryOf M). Among z (at_place M x (lines (lock x)))) (λ i. record { stamp = l.0 i; caller = l.1 i; act = e.act; answer = e.answer }) there

    has-deed : (x : M.Place) (e : EntryOf M) → Among e (histories_of M lock lines x) → (d : DeedOf M) × Contains (logs e.caller) d × LeavesEntry d x e
    has-deed x e m =
        let r = at-among x e (lines (lock x)) tells m in
        let q = is-called (lock x) r.0 r.1 in (
          q.0,
          subst (λ t. Contains (logs t) q.0) (sym (ap (λ (z : EntryOf M). z.caller) r.3)) (from-among (logs r.0.caller) q.0 q.1),
          (
            sym (ap (λ (z : EntryOf M). z.stamp) r.3 ∙ ap (λ (z : CallOf M). z.stamp) q.2.3),
            sym (ap (λ (z : EntryOf M). z.caller) r.3 ∙ ap (λ (z : CallOf M). z.caller) q.2.3),
            q.2.1 ∙ (λ i. Some (
              (sym (ap (λ (z : CallOf M). z.act.0) q.2.3) ∙ r.2) i,
              sym (ap (λ (z : EntryOf M). z.act) r.3 ∙ ap (λ (z : CallOf M). z.act.1) q.2.3) i,
              sym (ap (λ (z : EntryOf M). z.answer) r.3 ∙ ap (λ (z : CallOf M). z.answer) q.2.3) i,
            )),
          ),
        )

    matched : Matched logs (histories_of M lock lines)
    matched = record {
      has_entry = λ d x e m l. from-among (histories_of M lock lines x) e (has-entry d x e (to-among (logs d.stream) d m) l);
      has_deed = λ x e m. has-deed x e (to-among (histories_of M lock lines x) e m);
    }

    pub woven : Woven M lock carried clocks logs lines
    woven = record { stand = stand; placed = placed; climb = climb; rise = rise }

    pub gathered : ((x : M.Place) → Leads M.Gives (objects x) (histories_of M lock lines x) (finals x)) → Gathered M parts objects logs (histories_of M lock lines) ends finals
    gathered leads = record {
      courses = λ s lt. (rises-lower 0 (clocks s) (deed_stamps (logs s)) (omega arith) (climb s), does s lt);
      undeclared = undeclared;
      legal = λ x. (rises-at M x 0 (lines (lock x)) (closed (lock x)).rises, leads x);
      matched = matched;
    }

module _ (M : Machine) (Lock : Type 0) where
  pub waves-weave : WavesWeave M Lock
  waves-weave tells locks lock carried closing clocks parts ends objects finals logs seen gone undeclared left =
      let lines : Lock → List (CallOf M) = λ l. (left l).line in
      record {
        lines = lines;
        gathered = gathered M tells locks lock carried clocks parts ends objects finals logs seen lines (λ s lt. (gone s lt).does) undeclared (λ s lt. (gone s lt).walks) (λ l. (left l).is_line) (λ x. (left (lock x)).leads x refl);
        woven = woven M tells locks lock carried clocks parts ends objects finals logs seen lines (λ s lt. (gone s lt).does) undeclared (λ s lt. (gone s lt).walks) (λ l. (left l).is_line);
        last = λ l. (left l).last;
      }

  pub idle-locks-leave : IdleLocksLeave M Lock
  idle-locks-leave lock l n objects finals same = record {
    line = [];
    is_line = record { rises = tt; of_streams = All-nil (λ (c : CallOf M). c.caller < n); seen = λ s lt. extends-self s [] };
    last = refl;
    leads = same;
  }
