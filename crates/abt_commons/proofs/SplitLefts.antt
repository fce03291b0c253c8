-- What the close of a split leaves.
use Rattle.std.proofs.Common.{◌≡◌, ℕ, ◌+◌, ◌<◌, ◌≤◌, ◌^◌, max, List, [], ◌∷◌, map, length, slice_get, get_or, Option, Some, None, refl, sym, ◌∙◌, ap, subst, arith, inl, inr, zero-add}
use Rattle.std.specs.Prelude.{option_map}
use Rattle.std.specs.List.{All}
use Rattle.std.proofs.lemmas.List.{length-map}
use Rattle.std.proofs.lemmas.Option.{slice_get-map, slice_get_cases, get_or_from_slice_get}
use Rattle.abt_machine.specs.declared.events.Site.{Site}
use Rattle.abt_machine.specs.declared.workload.Parts.{Parts}
use Rattle.abt_machine.specs.Start.{start}
use Rattle.abt_machine.specs.Values.{Object, object_of}
use Rattle.abt_machine.specs.Acts as asked
use Rattle.abt_booth.specs.declared.booth.Booth.{Booth}
use Rattle.abt_interleave.specs.declared.entries.Entry.{Entry}
use Rattle.abt_interleave.specs.Histories.{Leads}
use Rattle.abt_booth.specs.Calls.{IsClosed}
use Rattle.abt_booth.specs.Seats.{opening_of}
use Rattle.abt_interleave.specs.Lines.{LockLeft}
use Rattle.abt_interleave.proofs.Members.{from-among}
use Rattle.abt_interleave.proofs.Weaves.{idle-locks-leave}
use Rattle.abt_simulation.specs.Merging.{machine_of}
use Rattle.abt_simulation.proofs.Merged.{tells-sites}
use Rattle.abt_weave.proofs.Booths.{one-is-left}
use Rattle.abt_calls.specs.Allowed.{Allows}
use Rattle.abt_calls.proofs.AllowedStays.{allowed-stays}
use Rattle.abt_commons.specs.declared.acts.Act.{Act}
use Rattle.abt_commons.specs.declared.acts.Answer.{Answer}
use Rattle.abt_commons.specs.declared.split.SplitPass.{SplitPass}
use Rattle.abt_commons.specs.Acts.{act_of, answer_of}
use Rattle.abt_commons.specs.Asks.{Does}
use Rattle.abt_commons.specs.Sites.{sites, site_number}
use Rattle.abt_commons.specs.Held.{IsWhole, OneValue, ObjectsValue, clock_at, clock_from, objects_value, numbered_clock, numbered_object, object_at, object_from}
use Rattle.abt_commons.specs.Sights.{Leaves}
use Rattle.abt_commons.specs.Splits.{AreBooths, SplitLeft, SplitValue, asks_at, carried_to, opening_of_split, own_lock, seen_by, sights_from, site_line}
use Rattle.abt_commons.specs.Closing.{WasClosed, WereClosed, knew, knew_by}
use Rattle.abt_commons.proofs.Legal.{leads-keep}
use Rattle.abt_commons.proofs.Numbers.{number-within}

-- what might be asked may still be asked
leads-allow : (other : asked.Act) (o p : OneValue) (h : List (Entry Act Answer)) → Leads Does o h p → Allows o.object other → Allows p.object other
leads-allow other o p [] l may = subst (λ (q : OneValue). Allows q.object other) l may
leads-allow other o p (e ∷ es) l may = leads-allow other l.0 p es l.2 (allowed-stays o.object (act_of e.act) (answer_of e.answer) l.0.object other l.1.gives may)

module _ (split : SplitValue) (passes : List SplitPass) (are : AreBooths split.workload split.streams split.booths split.clocks) (count : length passes ≡ split.streams)
    (objects : List OneValue) (clocks : List ℕ) (ended : WereClosed split.booths passes split.clocks 0 objects clocks) where
  abbrev W : Parts
  W = split.workload

  abbrev held : ObjectsValue
  held = objects_value W objects clocks

  many : length objects ≡ length split.booths
  many = (let m = ended.many in omega (arith, m))

  booths-many : length split.booths ≡ sites W
  booths-many = sym (length-map (map opening_of split.booths) (λ (one : OneValue). one.object) ∙ length-map split.booths opening_of) ∙ are.whole.objects

  -- the booth of a number, its clocks and its object
  record At (i : ℕ) : Type 0 where
    booth : Booth OneValue Act Answer
    carried : ℕ
    object : OneValue
    clock : ℕ
    booth_at : slice_get split.booths i ≡ Some booth
    carried_at : slice_get split.clocks i ≡ Some carried
    object_at : slice_get objects i ≡ Some object
    clock_at : slice_get clocks i ≡ Some clock
    closes : WasClosed passes i booth carried object clock

  at-from : (i : ℕ) → i < length objects → (b : Booth OneValue Act Answer) → slice_get split.booths i ≡ Some b → (c : ℕ) → slice_get split.clocks i ≡ Some c → (o : OneValue) → slice_get objects i ≡ Some o → (d : ℕ) → slice_get clocks i ≡ Some d → At i
  at-from i lt b eb c ec o eo d ed = record {
    booth = b;
    carried = c;
    object = o;
    clock = d;
    booth_at = eb;
    carried_at = ec;
    object_at = eo;
    clock_at = ed;
    closes =
        (let e : 0 + i ≡ i = zero-add i in
        subst (λ x. WasClosed passes i x c o d) (get_or_from_slice_get split.booths i b b eb)
        (subst (λ x. WasClosed passes i (get_or split.booths i b) x o d) (get_or_from_slice_get split.clocks i c c ec)
        (subst (λ x. WasClosed passes i (get_or split.booths i b) (get_or split.clocks i c) x d) (get_or_from_slice_get objects i o o eo)
        (subst (λ x. WasClosed passes i (get_or split.booths i b) (get_or split.clocks i c) (get_or objects i o) x) (get_or_from_slice_get clocks i d d ed)
        (subst (λ j. WasClosed passes j (get_or split.booths j b) (get_or split.clocks j c) (get_or objects i o) (get_or clocks j d)) e (ended.each i b c d o lt))))));
  }

  item : {A : Type 0} (xs : List A) (i n : ℕ) → i < n → length xs ≡ n → (x : A) × (slice_get xs i ≡ Some x)
  item xs i n lt is = elim (slice_get_cases xs i).1 [
    | inl x ↦ (x.0, x.2)
    | inr past ↦ absurd (omega (arith, past.0, lt, is))
  ]

  at : (i : ℕ) → i < length objects → At i
  at i lt =
      let b = item split.booths i (length objects) lt (sym many) in
      let c = item split.clocks i (length objects) lt (are.whole.clocks ∙ (sym booths-many ∙ sym many)) in
      let o = item objects i (length objects) lt refl in
      let d = item clocks i (length objects) lt (ended.clocks_many ∙ (are.whole.clocks ∙ (sym booths-many ∙ sym many))) in
      at-from i lt b.0 b.1 c.0 c.1 o.0 o.1 d.0 d.1

  of-workload : (i : ℕ) (a : At i) → i < length objects → (opening_of a.booth).workload ≡ W
  of-workload i a lt =
      let ones = map opening_of split.booths in
      let here : slice_get ones i ≡ Some (opening_of a.booth) = slice_get-map opening_of split.booths i ∙ ap (option_map opening_of) a.booth_at in
      let within : i < length ones = subst (λ n. i < n) (sym (length-map split.booths opening_of)) (subst (λ n. i < n) many lt) in
      subst (λ (one : OneValue). one.workload ≡ W) (get_or_from_slice_get ones i (opening_of a.booth) (opening_of a.booth) here) (are.ours i (opening_of a.booth) within)

  pub still-ours : All (λ one. one.workload ≡ W) objects
  still-ours i d lt =
      let a = at i lt in
      subst (λ (one : OneValue). one.workload ≡ W) (sym (get_or_from_slice_get objects i a.object d a.object_at))
      (leads-keep Does (λ (one : OneValue). one.workload) (λ o e r p does. does.workload) (opening_of a.booth) a.object a.closes.closed.history a.closes.closed.legal.1 ∙ of-workload i a lt)

  capped : All (λ clock. clock ≤ 2 ^ 62) clocks
  capped i d lt =
      let less : i < length objects = (let n = ended.clocks_many in let m = are.whole.clocks in omega (arith, lt, n, m, many, booths-many)) in
      let a = at i less in
      let low : get_or split.clocks i a.carried ≤ 2 ^ 62 = are.whole.capped i a.carried (let n = ended.clocks_many in omega (arith, lt, n)) in
      let low' : a.carried ≤ 2 ^ 62 = subst (λ n. n ≤ 2 ^ 62) (get_or_from_slice_get split.clocks i a.carried a.carried a.carried_at) low in
      let top = a.closes.closed.capped in
      let raised = a.closes.raised in
      let both : a.clock ≤ 2 ^ 62 = omega (arith, low', top, raised) in
      subst (λ n. n ≤ 2 ^ 62) (sym (get_or_from_slice_get clocks i a.clock d a.clock_at)) both

  -- The object and the clock of a site.

  within : (x : Site) (i : ℕ) → site_number W x ≡ Some i → i < length objects
  within x i is = subst (λ n. i < n) (sym (many ∙ booths-many)) (number-within W x i is)

  abbrev first : Site → Object
  first x = object_of W (start W) x

  ends : (x : Site) (i : ℕ) (a : At i) → site_number W x ≡ Some i → object_at held x ≡ a.object.object
  ends x i a is = ap (numbered_object held.objects (first x)) is ∙ ap object_from (slice_get-map (λ (one : OneValue). one.object) objects i ∙ ap (option_map (λ (one : OneValue). one.object)) a.object_at)

  begins : (x : Site) (i : ℕ) (a : At i) → site_number W x ≡ Some i → object_at (opening_of_split split) x ≡ (opening_of a.booth).object
  begins x i a is =
      let ones = map opening_of split.booths in
      let here : slice_get ones i ≡ Some (opening_of a.booth) = slice_get-map opening_of split.booths i ∙ ap (option_map opening_of) a.booth_at in
      ap (numbered_object (opening_of_split split).objects (first x)) is ∙ ap object_from (slice_get-map (λ (one : OneValue). one.object) ones i ∙ ap (option_map (λ (one : OneValue). one.object)) here)

  allowed-by : (x : Site) (act : asked.Act) (n : Option ℕ) → site_number W x ≡ n → Allows (first x) act → Allows (object_at held x) act
  allowed-by x act None is may = subst (λ m. Allows (numbered_object held.objects (first x) m) act) (sym is) may
  allowed-by x act (Some i) is may =
      let a = at i (within x i is) in
      let before : Allows (opening_of a.booth).object act = subst (λ o. Allows o act) (begins x i a is) (are.whole.allowed x act may) in
      subst (λ o. Allows o act) (sym (ends x i a is)) (leads-allow act (opening_of a.booth) a.object a.closes.closed.history a.closes.closed.legal.1 before)

  pub still-whole : IsWhole held
  still-whole = record {
    objects = length-map objects (λ (one : OneValue). one.object) ∙ (many ∙ booths-many);
    clocks = ended.clocks_many ∙ are.whole.clocks;
    capped = capped;
    allowed = λ x act may. allowed-by x act (site_number W x) refl may;
  }

  -- What each lock has left.

  seen-at : (x : Site) (i : ℕ) → site_number W x ≡ Some i → (p : Option SplitPass) → site_line W x (knew_by i p) ≡ sights_from split p x
  seen-at x i is None = refl
  seen-at x i is (Some pass) = ap (λ n. site_line W x (seen_by pass.turns.items n)) (sym is)

  unseen : (x : Site) → site_number W x ≡ None → (p : Option SplitPass) → [] ≡ sights_from split p x
  unseen x is None = refl
  unseen x is (Some pass) = ap (λ n. site_line W x (seen_by pass.turns.items n)) (sym is)

  -- the lock's last stamp
  record IsLeft (x : Site) : Type 0 where
    last : ℕ
    leaves : Leaves W own_lock (carried_to split) x split.streams (λ s. sights_from split (slice_get passes s)) (object_at (opening_of_split split)) (object_at held) last
    clock : clock_at held x ≡ max (carried_to split x) last

  idle : (x : Site) → site_number W x ≡ None → IsLeft x
  idle x is = record {
    last = 0;
    leaves = λ Z. subst (λ seen. LockLeft (machine_of W Z) own_lock x split.streams seen (object_at (opening_of_split split)) (object_at held) 0) (λ i s. unseen x is (slice_get passes s) i)
        (idle-locks-leave (machine_of W Z) Site own_lock x split.streams (object_at (opening_of_split split)) (object_at held)
        (λ y e. subst (λ z. object_at (opening_of_split split) z ≡ object_at held z) (sym e)
        (ap (numbered_object (opening_of_split split).objects (first x)) is ∙ sym (ap (numbered_object held.objects (first x)) is))));
    clock = ap (numbered_clock clocks) is ∙ sym (ap (λ n. max n 0) (ap (numbered_clock split.clocks) is));
  }

  busy : (x : Site) (i : ℕ) → site_number W x ≡ Some i → IsLeft x
  busy x i is =
      let a = at i (within x i is) in record {
        last = a.closes.last;
        leaves = λ Z. subst (λ seen. LockLeft (machine_of W Z) own_lock x split.streams seen (object_at (opening_of_split split)) (object_at held) a.closes.last) (λ j s. seen-at x i is (slice_get passes s) j)
            (one-is-left (machine_of W Z) Does Site (tells-sites W Z) own_lock x (λ y e. e) (λ (one : OneValue). one.object) (asks_at x) answer_of (λ act. refl) (λ o act r p does. does.gives)
            (opening_of a.booth) a.object split.streams a.closes.known a.closes.last (λ s. knew passes i s) (object_at (opening_of_split split)) (object_at held)
            (subst (λ n. IsClosed Does (opening_of a.booth) n a.closes.known a.object a.closes.last) count a.closes.closed)
            (λ s lt. from-among a.closes.known (s, knew passes i s) (a.closes.there s (subst (λ n. s < n) (sym count) lt)))
            (sym (begins x i a is)) (sym (ends x i a is)));
        clock = ap (numbered_clock clocks) is ∙ (ap clock_from a.clock_at ∙ (a.closes.raised ∙ ap (λ n. max n a.closes.last) (sym (ap (numbered_clock split.clocks) is ∙ ap clock_from a.carried_at))));
      }

  left-by : (x : Site) (n : Option ℕ) → site_number W x ≡ n → IsLeft x
  left-by x None is = idle x is
  left-by x (Some i) is = busy x i is

  pub split-left : SplitLeft split passes held
  split-left = record {
    workload = refl;
    closing = λ x. (left-by x (site_number W x) refl).last;
    left = λ x. (left-by x (site_number W x) refl).leaves;
    clocks = λ x. (left-by x (site_number W x) refl).clock;
  }

  -- as the objects that come back
  module _ (ones : List OneValue) (ends : List ℕ) (same_ones : ones ≡ objects) (same_clocks : ends ≡ clocks) where
    pub left-whole : All (λ one. one.workload ≡ W) ones × IsWhole (objects_value W ones ends)
    left-whole = (
      subst (λ os. All (λ one. one.workload ≡ W) os) (sym same_ones) still-ours,
      subst (λ os. IsWhole (objects_value W os ends)) (sym same_ones) (subst (λ cs. IsWhole (objects_value W objects cs)) (sym same_clocks) still-whole),
    )

    pub left-split : SplitLeft split passes (objects_value W ones ends)
    left-split = subst (λ os. SplitLeft split passes (objects_value W os ends)) (sym same_ones) (subst (λ cs. SplitLeft split passes (objects_value W objects cs)) (sym same_clocks) split-left)
