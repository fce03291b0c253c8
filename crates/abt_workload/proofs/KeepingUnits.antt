-- A sound line of a unit keeps what is declared proper.
use Rattle.std.proofs.Common.{leb, append_assoc, codes, ◌≡◌, ◌≢◌, ◌<◌, ◌≤◌, ◌+◌, ◌-◌, ◌*◌, ◌&&◌, ◌||◌, ◌∙◌, ℕ, zero, suc, Bool, true, false, List, [], ◌∷◌, ◌++◌, All, Option, Some, None, IfSome, ap, arith, drop, inl, inr, ◌⊎◌, flat_map, get_or, is_none, length, length-append, length-drop, map, nat_le, nat_lt, option_to_list, option_map, refl, slice_get, subst, sym}
use Rattle.std.specs.List.{AllPairs, list_any, range_with_len}
use Rattle.std.specs.Bool.{⊤}
use Rattle.std.specs.Str.{is_utf8}
use Rattle.std.proofs.lemmas.List.{append-nil, get_or-drop}
use Rattle.std.proofs.lemmas.Bool.Decides.{leb_tells}
use Rattle.std.proofs.lemmas.Bool.{leb-true, ltb-false, ltb-true, not-false, not-true}
use Rattle.std.proofs.lemmas.List.Quantifiers.{all_pairs_push}
use Rattle.std.proofs.lemmas.List.Elements.{All-append, All-cons, All-head, All-tail}
use Rattle.std.proofs.lemmas.List.Folds.{list_any-append}
use Rattle.std.proofs.lemmas.Grind.{flat_map-append}
use Rattle.std.proofs.lemmas.Str.{IsUtf8-from_is_utf8}
use Rattle.std.proofs.Math.Nat.{mul-add, mul-le-mul_left}
use Rattle.abt_machine.specs.declared.grammar.Form.{Form}
use Rattle.abt_machine.specs.declared.grammar.Form.TheVariants as form
use Rattle.abt_machine.specs.declared.grammar.Format.TheVariants as format
use Rattle.abt_machine.specs.declared.grammar.Number.{Number}
use Rattle.abt_machine.specs.declared.grammar.Number.TheVariants as number
use Rattle.abt_machine.specs.declared.grammar.Role.{Role}
use Rattle.abt_machine.specs.declared.grammar.Role.TheVariants as role
use Rattle.abt_machine.specs.declared.numbers.PoolNo.{PoolNo}
use Rattle.abt_machine.specs.declared.numbers.SchedNo.{SchedNo}
use Rattle.abt_machine.specs.declared.operations.Body.{Body}
use Rattle.abt_machine.specs.declared.operations.Body.TheVariants as body
use Rattle.abt_machine.specs.declared.operations.Op.{Op}
use Rattle.abt_machine.specs.declared.operations.Op.TheVariants as op
use Rattle.abt_machine.specs.declared.workload.Parts.{Parts}
use Rattle.abt_machine.specs.declared.workload.PoolPart.{PoolPart}
use Rattle.abt_machine.specs.declared.workload.UnitPart.{UnitPart}
use Rattle.abt_machine.specs.Declaring.{Above, at, body_and, body_later, body_with, declared_units, op_later, op_with, repeated, said_in, said_words, pool_place, start_with, unit_and, unit_later, unit_with, units_of, with_operation, with_operations, with_copies, word_in}
use Rattle.abt_machine.specs.Faults.{has_no_room, is_long, is_long_word, is_placed, is_task, is_there, is_task_body, lacks_units, takes_operations, values_of}
use Rattle.abt_machine.specs.Forms.{Fixed, op_slots, fits, slots, suits}
use Rattle.abt_machine.specs.Limits.{operation_limit, unit_operation_limit, word_limit}
use Rattle.abt_machine.specs.Operations.{IsDeclared, may_block, said_by}
use Rattle.abt_machine.specs.Spelling.{has_control, is_empty, words_of}
use Rattle.abt_machine.specs.Valid.{IsBody, IsWord, sched_in}
use Rattle.abt_machine.specs.Words.{Text}
use Rattle.abt_machine.specs.Workloads.{all_ops, is_sched, ops_of}
use Rattle.abt_machine.proofs.Distinct.{not-among}
use Rattle.abt_machine.proofs.Saying.{said_by_units}
use Rattle.abt_workload.specs.Declarable.{op_count}
use Rattle.abt_workload.proofs.Bounds.{at-home, after-section, kind-within, there-at}
use Rattle.abt_workload.proofs.Copies.{all-repeated, count-later, ops-later, units-all, units-length, units-ops, units-said, units-scheds}
use Rattle.abt_workload.proofs.Growing.{all-and, all-one, mains_list}
use Rattle.abt_workload.proofs.Keeping.{most-ops, most-unit-ops, placed-not}
use Rattle.abt_workload.proofs.LineWords.{words-some, words-utf8, words-visible}
use Rattle.abt_workload.proofs.Naming.{IsSoundOp, declared-op, muted-later, op_values}
use Rattle.abt_workload.proofs.Places.{and-left, and-right, at-after, kinds, or-left, or-right}
use Rattle.abt_workload.proofs.Proper.{AreUnits, IsInOrder, IsProper, IsUnitIn, counted, muted, none-of, placed, unit_count, with_form}
use Rattle.abt_workload.proofs.Repeated.{repeated-op}
use Rattle.abt_workload.proofs.Soundness.{IsSound}

-- what the lines above say is there once units are declared
some-none : (c : Option ℕ) → c ≡ None → is_none c ≡ false → ⊥
some-none None e f = cc
some-none (Some n) e f = cc

late : {a : Above} → IsProper a → is_none a.unit_count ≡ false → 8 ≤ a.section
late {a} h some = by (leb_tells 8 a.section)
  where
    by : ((leb 8 a.section ≡ true) × (8 ≤ a.section)) ⊎ ((leb 8 a.section ≡ false) × (a.section < 8)) → 8 ≤ a.section
    by (inl x) = x.1
    by (inr x) = absurd (some-none a.unit_count (h.order.no_count x.1) some)

pub last-of : {A : Type 0} (P : A → Type 0) (xs : List A) (x : A) → All P (xs ++ x ∷ []) → P x
last-of P [] x h = All-head P x [] h
last-of P (y ∷ ys) x h = last-of P ys x (All-tail P y (ys ++ x ∷ []) h)

pub front-of : {A : Type 0} (P : A → Type 0) (xs : List A) (x : A) → All P (xs ++ x ∷ []) → All P xs
front-of P [] x h = none-of P
front-of P (y ∷ ys) x h = All-cons P y ys (All-head P y (ys ++ x ∷ []) h) (front-of P ys x (All-tail P y (ys ++ x ∷ []) h))

-- what lines of units and the last line leave in order
in-order : {a : Above} → IsProper a → 8 ≤ a.section → (b : Above) → 9 ≤ b.section → (b.pools ≡ a.pools) × (b.mains ≡ a.mains) → (9 < b.section → (is_none b.streams ≡ false) × (unit_count b ≤ declared_units b)) → IsInOrder b
in-order {a} h late b later same ended = record {
  no_streams = λ lt. absurd (omega arith);
  no_mains = λ lt. absurd (omega arith);
  no_count = λ lt. absurd (omega arith);
  no_units = λ lt. absurd (omega arith);
  no_last = λ lt. absurd (omega arith);
  has_pools = λ lt. subst (λ (ps : List PoolPart). 0 < length ps) (sym same.0) (h.order.has_pools (omega arith));
  has_mains = λ lt. subst (λ (ms : List (Option SchedNo)). list_any is_none ms ≡ false) (sym same.1) (h.order.has_mains (omega arith));
  has_streams = λ lt. (ended lt).0;
  has_units = λ lt. (ended lt).1;
}

pub keeps-end : {a : Above} {line : Text} {words : List Text} → IsProper a → IsSound a line words form.End → IsProper (with_form a words form.End)
keeps-end {a} {line} {words} h s =
    let streams : is_none a.streams ≡ false = or-left (is_none a.streams) _ (or-left _ (nat_lt (declared_units a) (unit_count a)) s.early) in
    let count : is_none a.unit_count ≡ false = or-right (is_none a.streams) _ (or-left _ (nat_lt (declared_units a) (unit_count a)) s.early) in
    let whole : unit_count a ≤ declared_units a = ltb-false (declared_units a) (unit_count a) (or-right (is_none a.streams || is_none a.unit_count) _ s.early) in
    let order : IsInOrder (with_form a words form.End) = in-order h (late h count) (with_form a words form.End) (omega arith) (refl, refl) (λ _. (streams, whole)) in
    assumption

-- New units.

-- the schedulers of new units have no place yet
abbrev AreFree : Above → UnitPart → Type 0
AreFree a part = All (λ g. All (λ m. m ≢ g) (placed a)) (sched_in part.body)

-- a copy may block where the unit may
same-later : (n : ℕ) (o : Op) → may_block (op_later n o) ≡ may_block o
same-later n (op.Say w) = refl
same-later n _ = refl

blocks-later : (n : ℕ) (ops : List Op) → list_any may_block (map (op_later n) ops) ≡ list_any may_block ops
blocks-later n [] = refl
blocks-later n (o ∷ ops) = ap (λ (b : Bool). b || list_any may_block (map (op_later n) ops)) (same-later n o) ∙ ap (λ (b : Bool). may_block o || b) (blocks-later n ops)

body-later-in : (k n : ℕ) (b : Body) → IsBody k b → IsBody k (body_later n b)
body-later-in k n (body.Ult ops) i = tt
body-later-in k n (body.Task ops) i = blocks-later n ops ∙ i
body-later-in k n (body.Sched g) i = i

ops-later-in : (W : Parts) (n : ℕ) (ops : List Op) → All (λ o. IsDeclared W (muted o)) ops → All (λ o. IsDeclared W (muted o)) (map (op_later n) ops)
ops-later-in W n [] all = none-of _
ops-later-in W n (o ∷ ops) all =
    All-cons (λ p. IsDeclared W (muted p)) (op_later n o) (map (op_later n) ops)
    (subst (IsDeclared W) (sym (muted-later n o)) (All-head (λ p. IsDeclared W (muted p)) o ops all))
    (ops-later-in W n ops (All-tail (λ p. IsDeclared W (muted p)) o ops all))

-- what a unit has, a copy of it has
unit-later-in : (W : Parts) (m : ℕ) (part : UnitPart) → IsUnitIn W part → IsUnitIn W (unit_later m part)
unit-later-in W m part h = record {
  kind = body-later-in (length W.scheds) m part.body h.kind;
  few_ops = let n = count-later m part.body in let few = h.few_ops in omega arith;
  ops = subst (λ (os : List Op). All (λ o. IsDeclared W (muted o)) os) (sym (ops-later m part.body)) (ops-later-in W m (ops_of part.body) h.ops);
  start = h.start;
}

-- each unit that is declared is one of the workload
pub units-in : (a : Above) → IsProper a → All (IsUnitIn (counted a)) (units_of a)
units-in a h = units-all a (IsUnitIn (counted a)) (unit-later-in (counted a)) h.units.all

-- a section with one line comes after the units
pub units-below : (a : Above) → IsProper a → length (units_of a) ≤ unit_count a
units-below a h = let e = units-length a in let below = h.units.declared in omega arith

-- the scheduler of a new scheduler unit is there, and has no place
abbrev HasSched : Above → Role → List ℕ → Type 0
HasSched a role.Ult ns = ⊤
HasSched a role.Task ns = ⊤
HasSched a role.Sched ns = (at ns 1 < length a.scheds) × (is_placed a (at ns 1) ≡ false)

-- the pool that a new unit starts in is there
abbrev HasPool : Above → Role → Option PoolNo → List ℕ → Type 0
HasPool a r (Some p) ns = at ns (pool_place r) < length a.pools
HasPool a r None ns = ⊤

-- what is asked of n units that a line declares, of which the first is unit u, by the numbers of a `unit` line
record AreNew (a : Above) (r : Role) (start : Option PoolNo) (u n : ℕ) (ns : List ℕ) : Type 0 where
  early : (is_none a.streams || is_none a.unit_count) ≡ false
  some : 0 < n
  one : is_sched (body_with r ns) ≡ true → n ≡ 1
  new : nat_lt u (declared_units a) ≡ false
  below : lacks_units a (u + n) ≡ false
  sched : HasSched a r ns
  pool : HasPool a r start ns

-- the schedulers that have a place, and that of a new unit
free-places : (a : Above) (gs : List ℕ) → length gs ≤ 1 → AllPairs (λ x y. x ≢ y) (placed a) → All (λ g. All (λ m. m ≢ g) (placed a)) gs → AllPairs (λ x y. x ≢ y) (placed a ++ gs)
free-places a [] few pairs free = subst (λ (ns : List ℕ). AllPairs (λ x y. x ≢ y) ns) (sym (append-nil (placed a))) pairs
free-places a (g ∷ []) few pairs free = all_pairs_push (λ (x y : ℕ). x ≢ y) (placed a) g pairs (λ k d lt. free 0 g (omega arith) k d lt)
free-places a (g ∷ f ∷ gs) few pairs free = absurd (omega arith)

few-scheds : (b : Body) → length (sched_in b) ≤ 1
few-scheds (body.Ult ops) = omega arith
few-scheds (body.Task ops) = omega arith
few-scheds (body.Sched g) = omega arith

no-ops : (r : Role) (ns : List ℕ) → ops_of (body_with r ns) ≡ []
no-ops role.Ult ns = refl
no-ops role.Task ns = refl
no-ops role.Sched ns = refl

-- a unit that a line declares
unit-in : (a : Above) (r : Role) (start : Option PoolNo) (ns : List ℕ) → HasSched a r ns → HasPool a r start ns → IsUnitIn (counted a) (unit_with r start ns)
unit-in a r start ns sched pool = record { kind = by r sched; few_ops = let l = ap length (no-ops r ns) in omega arith; ops = subst (λ (os : List Op). All (λ o. IsDeclared (counted a) (muted o)) os) (sym (no-ops r ns)) (none-of _); start = on start pool }
  where
    by : (q : Role) → HasSched a q ns → IsBody (length a.scheds) (body_with q ns)
    by role.Ult s = tt
    by role.Task s = refl
    by role.Sched s = s.0

    on : (o : Option PoolNo) → HasPool a r o ns → IfSome (start_with r o ns) (λ (p : PoolNo). p.0 < length a.pools)
    on None s = tt
    on (Some p) s = s

-- a new scheduler unit has a scheduler that has no place
unit-free : (a : Above) → IsProper a → (r : Role) (ns : List ℕ) (start : Option PoolNo) → HasSched a r ns → AreFree a (unit_with r start ns)
unit-free a h role.Ult ns start free = none-of _
unit-free a h role.Task ns start free = none-of _
unit-free a h role.Sched ns start free = all-one (λ g. All (λ m. m ≢ g) (placed a)) (at ns 1) (not-among (placed a) (at ns 1) (placed-not a (at ns 1) h.units.copied free.1))

-- new units keep what is declared proper
keeps-new : (a : Above) (r : Role) (start : Option PoolNo) (u n : ℕ) (ns : List ℕ) → IsProper a → AreNew a r start u n ns → IsProper (record (with_copies a n (unit_with r start ns)) { section = 9; begun = true })
keeps-new a r start u n ns h new =
    let part : UnitPart = unit_with r start ns in
    let after : Above = record (with_copies a n part) { section = 9; begun = true } in
    let least = ltb-false u (declared_units a) new.new in
    let most = ltb-false (unit_count a) (u + n) new.below in
    let scheds : List UnitPart → List ℕ = flat_map (λ (x : UnitPart). sched_in x.body) in
    let all_scheds : scheds (units_of a ++ part ∷ []) ≡ scheds (a.units ++ option_to_list a.last) ++ sched_in part.body =
    flat_map-append (λ (x : UnitPart). sched_in x.body) (units_of a) (part ∷ [])
    ∙ (ap (λ (gs : List ℕ). gs ++ (sched_in part.body ++ [])) (units-scheds a h.units.copied)
    ∙ ap (λ (gs : List ℕ). scheds (a.units ++ option_to_list a.last) ++ gs) (append-nil (sched_in part.body))) in
    let places : AllPairs (λ x y. x ≢ y) (placed after) = subst (λ (gs : List ℕ). AllPairs (λ x y. x ≢ y) (mains_list a.mains ++ gs)) (sym all_scheds)
    (subst (λ (ns : List ℕ). AllPairs (λ x y. x ≢ y) ns) (append_assoc (mains_list a.mains) (scheds (a.units ++ option_to_list a.last)) (sched_in part.body))
    (free-places a (sched_in part.body) (few-scheds part.body) h.places (unit-free a h r ns start new.sched))) in
    let units : AreUnits after = record { few = h.units.few; declared = omega arith; all = all-and (IsUnitIn (counted a)) (units_of a) part (units-in a h) (unit-in a r start ns new.sched new.pool); copied = (new.some, new.one) } in
    let few_ops : length (all_ops (units_of a)) + n * op_count (Some part) ≤ operation_limit format.Three =
    let e = units-ops a in
    let few = h.few_ops in
    let zero_ops : n * length (ops_of part.body) ≡ n * 0 = ap (λ (os : List Op). n * length os) (no-ops r ns) in
    omega arith in
    let said : said_by_units (units_of a) ≡ range_with_len 0 (length (said_words a)) = units-said a h.said h.last_said in
    let last_said : flat_map said_by (ops_of part.body) ≡ [] = ap (flat_map said_by) (no-ops r ns) in
    let words : All IsWord (said_words a) = All-append IsWord a.words (repeated a.copies a.said) h.words (all-repeated IsWord a.copies a.said h.last_words) in
    let last_words : All IsWord [] = none-of _ in
    let order : IsInOrder after = in-order h (late h (or-right (is_none a.streams) _ new.early)) after (omega arith) (refl, refl) (λ lt. absurd (omega arith)) in
    assumption

-- The lines of units.

module _ {a : Above} {line : Text} {words : List Text} (h : IsProper a) where
  pub keeps-unit : (r : Role) (start : Option PoolNo) → IsSound a line words (form.Unit r start) → IsProper (with_form a words (form.Unit r start))
  keeps-unit r start s =
      keeps-new a r start (at (values_of (form.Unit r start) words) 0) 1 (values_of (form.Unit r start) words) h
      record { early = s.early; some = omega arith; one = λ _. refl; new = new-unit r s; below = s.beyond; sched = sched-there r s; pool = pool-there r start s }
    where
      new-unit : (q : Role) → IsSound a line words (form.Unit q start) → nat_lt (at (values_of (form.Unit q start) words) 0) (declared_units a) ≡ false
      new-unit role.Ult u = u.once
      new-unit role.Task u = u.once
      new-unit role.Sched u = or-left (nat_lt (at (values_of (form.Unit role.Sched start) words) 0) (declared_units a)) _ u.once

      sched-there : (q : Role) → IsSound a line words (form.Unit q start) → HasSched a q (values_of (form.Unit q start) words)
      sched-there role.Ult u = tt
      sched-there role.Task u = tt
      sched-there role.Sched u = (ltb-true _ _ (there-at (form.Unit role.Sched start) u 1 number.Sched refl), or-right (nat_lt (at (values_of (form.Unit role.Sched start) words) 0) (declared_units a)) _ u.once)

      pool-there : (q : Role) (t : Option PoolNo) → IsSound a line words (form.Unit q t) → HasPool a q t (values_of (form.Unit q t) words)
      pool-there q None u = tt
      pool-there role.Ult (Some o) u = ltb-true _ _ (there-at (form.Unit role.Ult (Some o)) u 1 number.Pool refl)
      pool-there role.Task (Some o) u = ltb-true _ _ (there-at (form.Unit role.Task (Some o)) u 1 number.Pool refl)
      pool-there role.Sched (Some o) u = ltb-true _ _ (there-at (form.Unit role.Sched (Some o)) u 2 number.Pool refl)

  pub keeps-many : (r : Role) (start : Option PoolNo) → IsSound a line words (form.Many r start) → IsProper (with_form a words (form.Many r start))
  keeps-many r start s =
      keeps-new a r start (at vals 0) (at vals 1) (drop 1 vals) h
      record { early = s.early; some = some-copies r s; one = one-copy r s; new = new-unit r s; below = s.beyond; sched = sched-there r s; pool = pool-there r start s }
    where
      vals : List ℕ
      vals = values_of (form.Many r start) words

      -- a number after the count of copies
      after-count : (f : Form) → IsSound a line words f → (k : ℕ) (kind : Number) → slice_get (kinds (slots f)) (k + 1) ≡ Some kind → is_there a kind (at (drop 1 (values_of f words)) k) ≡ true
      after-count f u k kind e = subst (λ (n : ℕ). is_there a kind n ≡ true) (at-after k (values_of f words)) (there-at f u (k + 1) kind e)

      some-copies : (q : Role) → IsSound a line words (form.Many q start) → 1 ≤ at (values_of (form.Many q start) words) 1
      some-copies q u = let n : ℕ = at (values_of (form.Many q start) words) 1 in leb-true 1 n (and-left (nat_le 1 n) _ (kind-within (form.Many q start) u 1 number.Copies refl))

      new-unit : (q : Role) → IsSound a line words (form.Many q start) → nat_lt (at (values_of (form.Many q start) words) 0) (declared_units a) ≡ false
      new-unit role.Ult u = u.once
      new-unit role.Task u = u.once
      new-unit role.Sched u = or-left (nat_lt (at (values_of (form.Many role.Sched start) words) 0) (declared_units a)) _ (or-left _ (is_placed a (at (values_of (form.Many role.Sched start) words) 2)) u.once)

      one-copy : (q : Role) → IsSound a line words (form.Many q start) → is_sched (body_with q (drop 1 (values_of (form.Many q start) words))) ≡ true → at (values_of (form.Many q start) words) 1 ≡ 1
      one-copy role.Ult u e = cc
      one-copy role.Task u e = cc
      one-copy role.Sched u e =
          let ns : List ℕ = values_of (form.Many role.Sched start) words in
          let most = ltb-false 1 (at ns 1) (or-right (nat_lt (at ns 0) (declared_units a)) _ (or-left _ (is_placed a (at ns 2)) u.once)) in
          let least = some-copies role.Sched u in
          omega arith

      sched-there : (q : Role) → IsSound a line words (form.Many q start) → HasSched a q (drop 1 (values_of (form.Many q start) words))
      sched-there role.Ult u = tt
      sched-there role.Task u = tt
      sched-there role.Sched u =
          let ns : List ℕ = values_of (form.Many role.Sched start) words in (
            ltb-true _ _ (after-count (form.Many role.Sched start) u 1 number.Sched refl),
            subst (λ (n : ℕ). is_placed a n ≡ false) (at-after 1 ns) (or-right (nat_lt (at ns 0) (declared_units a) || nat_lt 1 (at ns 1)) _ u.once),
          )

      pool-there : (q : Role) (t : Option PoolNo) → IsSound a line words (form.Many q t) → HasPool a q t (drop 1 (values_of (form.Many q t) words))
      pool-there q None u = tt
      pool-there role.Ult (Some o) u = ltb-true _ _ (after-count (form.Many role.Ult (Some o)) u 1 number.Pool refl)
      pool-there role.Task (Some o) u = ltb-true _ _ (after-count (form.Many role.Task (Some o)) u 1 number.Pool refl)
      pool-there role.Sched (Some o) u = ltb-true _ _ (after-count (form.Many role.Sched (Some o)) u 2 number.Pool refl)

-- Operations.

same-blocks : (o : Op) (said : ℕ) (ns : List ℕ) → may_block (op_with o said ns) ≡ may_block o
same-blocks (op.Set n) said ns = refl
same-blocks _ said ns = refl

pub body-ops : (o : Op) (b : Body) → is_sched b ≡ false → ops_of (body_and o b) ≡ ops_of b ++ o ∷ []
body-ops o (body.Ult ops) e = refl
body-ops o (body.Task ops) e = refl
body-ops o (body.Sched g) e = cc

pub body-sched : (o : Op) (b : Body) → sched_in (body_and o b) ≡ sched_in b
body-sched o (body.Ult ops) = refl
body-sched o (body.Task ops) = refl
body-sched o (body.Sched g) = refl

body-in : (n : ℕ) (o p : Op) (b : Body) → may_block p ≡ may_block o → (is_task_body b && may_block o) ≡ false → IsBody n b → IsBody n (body_and p b)
body-in n o p (body.Ult ops) same e h = tt
body-in n o p (body.Task ops) same e h = list_any-append may_block ops (p ∷ []) ∙ (let no' : may_block p ≡ false = same ∙ e in rw (h, no') refl)
body-in n o p (body.Sched g) same e h = h

range-more : (a n : ℕ) → range_with_len a n ++ (a + n) ∷ [] ≡ range_with_len a (n + 1)
range-more a zero = let e : a + 0 ≡ a = omega arith in ap (λ (x : ℕ). x ∷ []) e
range-more a (suc n) =
    let next : a + suc n ≡ (a + 1) + n = omega arith in
    let more : suc n + 1 ≡ suc (n + 1) = omega arith in
    ap (λ (xs : List ℕ). a ∷ xs) (ap (λ (m : ℕ). range_with_len (a + 1) n ++ m ∷ []) next ∙ range-more (a + 1) n) ∙ ap (range_with_len a) (sym more)

said-more : (o : Op) (f : ℕ) (said ws : List Text) (ns : List ℕ) → range_with_len f (length said) ++ said_by (op_with o (f + length said) ns) ≡ range_with_len f (length (said ++ said_in o ws))
said-more (op.Say w) f said ws ns =
    let grown : length (said ++ word_in ws 1 ∷ []) ≡ length said + 1 = length-append said _ in
    range-more f (length said) ∙ ap (λ (n : ℕ). range_with_len f n) (sym grown)
said-more _ f said ws ns = append-nil (range_with_len f (length said)) ∙ ap (λ (xs : List Text). range_with_len f (length xs)) (sym (append-nil said))

-- a unit that takes operations
pub home : (last : Option UnitPart) → takes_operations last ≡ true → (part : UnitPart) × (last ≡ Some part) × (is_sched part.body ≡ false)
home None e = cc
home (Some part) e = (part, refl, not-true (is_sched part.body) e)

-- a unit with one operation more
unit-more : (W : Parts) (o p : Op) (part : UnitPart) → IsUnitIn W part → is_sched part.body ≡ false → may_block p ≡ may_block o → (is_task_body part.body && may_block o) ≡ false
    → length (ops_of part.body) < unit_operation_limit format.Three → IsDeclared W (muted p) → IsUnitIn W (unit_and p part)
unit-more W o p part h takes' same task few here =
    let ops : ops_of (body_and p part.body) ≡ ops_of part.body ++ p ∷ [] = body-ops p part.body takes' in
    let grown : length (ops_of part.body ++ p ∷ []) ≡ length (ops_of part.body) + 1 = length-append (ops_of part.body) _ in
    record {
      kind = body-in (length W.scheds) o p part.body same task h.kind;
      few_ops = rw ops (omega arith);
      ops = subst (λ (xs : List Op). All (λ q. IsDeclared W (muted q)) xs) (sym ops) (all-and (λ q. IsDeclared W (muted q)) (ops_of part.body) p h.ops here);
      start = h.start;
    }

same-places : (p : Op) (units : List UnitPart) (part : UnitPart) → flat_map (λ (x : UnitPart). sched_in x.body) (units ++ unit_and p part ∷ []) ≡ flat_map (λ (x : UnitPart). sched_in x.body) (units ++ part ∷ [])
same-places p units part =
    flat_map-append (λ (x : UnitPart). sched_in x.body) units (unit_and p part ∷ [])
    ∙ (ap (λ (gs : List ℕ). flat_map (λ (x : UnitPart). sched_in x.body) units ++ (gs ++ [])) (body-sched p part.body)
    ∙ sym (flat_map-append (λ (x : UnitPart). sched_in x.body) units (part ∷ [])))

-- the word that a line says
pub two-words : (w : ℕ) (ws : List Text) → fits (op_slots (op.Say w)) ws ≡ true → 1 < length ws
two-words w [] e = cc
two-words w (x ∷ []) e = let bad = and-right (suits (Fixed (codes "say")) x) false e in cc
two-words w (x ∷ y ∷ zs) e = omega arith

-- a body that takes operations goes on taking them
body-takes : (o : Op) (b : Body) → is_sched (body_and o b) ≡ is_sched b
body-takes o (body.Ult ops) = refl
body-takes o (body.Task ops) = refl
body-takes o (body.Sched g) = refl

body-task : (o : Op) (b : Body) → is_task_body (body_and o b) ≡ is_task_body b
body-task o (body.Ult ops) = refl
body-task o (body.Task ops) = refl
body-task o (body.Sched g) = refl

-- what is asked of n operations more of a unit
record CanOperate (a : Above) (part : UnitPart) (o : Op) (ws : List Text) (ns : List ℕ) (n : ℕ) : Type 0 where
  section_is : a.section ≡ 9
  last_is : a.last ≡ Some part
  takes_ops : is_sched part.body ≡ false
  short : length (ops_of part.body) + n ≤ unit_operation_limit format.Three
  room : length (all_ops a.units) + a.copies * (length (ops_of part.body) + n) ≤ operation_limit format.Three
  task : (is_task_body part.body && may_block o) ≡ false
  named : (k : ℕ) → IsDeclared (counted a) (muted (op_with o k ns))
  word : All IsWord (said_in o ws)

module _ (o : Op) (ws : List Text) (ns : List ℕ) where
  keeps-one : (a : Above) (part : UnitPart) (n : ℕ) → IsProper a → CanOperate a part o ws ns (suc n) → IsProper (with_operation o ws ns a)
  keeps-one a part n h can =
      subst (λ (l : Option UnitPart). IsProper (record a { last = option_map (unit_and p) l; said = a.said ++ said_in o ws })) (sym can.last_is)
      (proper (subst (λ (l : Option UnitPart). IsProper (record a { last = l })) can.last_is h))
    where
      p : Op
      p = op_with o (length a.words + length a.said) ns

      proper : IsProper (record a { last = Some part }) → IsProper (record a { last = Some (unit_and p part); said = a.said ++ said_in o ws })
      proper g =
          let after : Above = record a { last = Some (unit_and p part); said = a.said ++ said_in o ws } in
          let nine = can.section_is in
          let short = can.short in
          let new : IsUnitIn (counted a) (unit_and p part) = unit-more (counted a) o p part (last-of (IsUnitIn (counted a)) a.units part g.units.all) can.takes_ops (same-blocks o (length a.words + length a.said) ns) can.task (omega arith) (can.named (length a.words + length a.said)) in
          let places : AllPairs (λ x y. x ≢ y) (placed after) = subst (λ (gs : List ℕ). AllPairs (λ x y. x ≢ y) (mains_list a.mains ++ gs)) (sym (same-places p a.units part)) g.places in
          let units : AreUnits after = record {
            few = h.units.few;
            declared = g.units.declared;
            all = all-and (IsUnitIn (counted a)) a.units (unit_and p part) (front-of (IsUnitIn (counted a)) a.units part g.units.all) new;
            copied = (g.units.copied.0, λ e. g.units.copied.1 (sym (body-takes p part.body) ∙ e));
          } in
          let few_ops : length (all_ops a.units) + a.copies * length (ops_of (body_and p part.body)) ≤ operation_limit format.Three =
          let more : a.copies * length (ops_of (body_and p part.body)) ≡ a.copies * (length (ops_of part.body) + 1) = ap (λ (os : List Op). a.copies * length os) (body-ops p part.body can.takes_ops) ∙ ap (λ (k : ℕ). a.copies * k) (length-append (ops_of part.body) (p ∷ [])) in
          let le : a.copies * (length (ops_of part.body) + 1) ≤ a.copies * (length (ops_of part.body) + suc n) = mul-le-mul_left a.copies (omega arith) in
          let room = can.room in
          omega arith in
          let last_said : flat_map said_by (ops_of (body_and p part.body)) ≡ range_with_len (length a.words) (length (a.said ++ said_in o ws)) =
          ap (flat_map said_by) (body-ops p part.body can.takes_ops)
          ∙ (flat_map-append said_by (ops_of part.body) (p ∷ [])
          ∙ (ap (λ (xs : List ℕ). flat_map said_by (ops_of part.body) ++ xs) (append-nil (said_by p))
          ∙ (ap (λ (xs : List ℕ). xs ++ said_by p) g.last_said
          ∙ said-more o (length a.words) a.said ws ns))) in
          let last_words : All IsWord (a.said ++ said_in o ws) = All-append IsWord a.said (said_in o ws) h.last_words can.word in
          let order : IsInOrder after = in-order h (omega arith) after (omega arith) (refl, refl) (λ lt. absurd (omega arith)) in
          assumption

  can-next : (a : Above) (part : UnitPart) (n : ℕ) → CanOperate a part o ws ns (suc n) → CanOperate (with_operation o ws ns a) (unit_and (op_with o (length a.words + length a.said) ns) part) o ws ns n
  can-next a part n can =
      let p : Op = op_with o (length a.words + length a.said) ns in
      let ops : length (ops_of (body_and p part.body)) ≡ length (ops_of part.body) + 1 = ap length (body-ops p part.body can.takes_ops) ∙ length-append (ops_of part.body) (p ∷ []) in
      record {
        section_is = can.section_is;
        last_is = ap (option_map (unit_and p)) can.last_is;
        takes_ops = body-takes p part.body ∙ can.takes_ops;
        short = let short = can.short in omega arith;
        room =
            let same : length (ops_of (body_and p part.body)) + n ≡ length (ops_of part.body) + suc n = omega arith in
            let room = can.room in
            subst (λ (k : ℕ). length (all_ops a.units) + a.copies * k ≤ operation_limit format.Three) (sym same) room;
        task = ap (λ (b : Bool). b && may_block o) (body-task p part.body) ∙ can.task;
        named = can.named;
        word = can.word;
      }

  -- as many operations keep what is declared proper
  keeps-operations : (n : ℕ) (a : Above) (part : UnitPart) → IsProper a → CanOperate a part o ws ns n → IsProper (with_operations n o ws ns a) × ((with_operations n o ws ns a).section ≡ 9)
  keeps-operations zero a part h can = (h, can.section_is)
  keeps-operations (suc n) a part h can = keeps-operations n (with_operation o ws ns a) (unit_and (op_with o (length a.words + length a.said) ns) part) (keeps-one a part n h can) (can-next a part n can)

-- what is declared by a line of a section that was reached
pub begun-proper : (a : Above) → IsProper a → IsProper (record a { begun = true })
begun-proper a h = let order : IsInOrder (record a { begun = true }) = assumption h.order in assumption

-- the section of a line of an operation was reached
still-nine : (a : Above) → IsProper a × (a.section ≡ 9) → IsProper (record a { section = 9; begun = true })
still-nine a h = subst (λ (n : ℕ). IsProper (record a { section = n; begun = true })) h.1 (begun-proper a h.0)

-- the word that an operation says
module _ (line : Text) (utf8 : is_utf8 line ≡ true) (control : has_control line ≡ false) where
  said-word : (o : Op) (k : ℕ) (ws : List Text) → fits (op_slots o) ws ≡ true → is_long_word o ws ≡ false → ws ≡ drop k (words_of line) → All IsWord (said_in o ws)
  said-word (op.Say w) k ws op_fits short e =
      let two : 1 < length ws = two-words w ws op_fits in
      let size : length ws ≡ length (words_of line) - k = ap length e ∙ length-drop k (words_of line) in
      let within : k + 1 < length (words_of line) = omega arith in
      let same : word_in ws 1 ≡ get_or (words_of line) (k + 1) [] = ap (λ (xs : List Text). word_in xs 1) e ∙ get_or-drop k (words_of line) 1 [] in
      let some = words-some line (k + 1) [] within in
      let long = ltb-false word_limit (length (word_in ws 1)) short in
      let said : IsWord (get_or (words_of line) (k + 1) []) = record {
        some_byte = some-bytes (get_or (words_of line) (k + 1) []) some;
        few_bytes = subst (λ (t : Text). length t ≤ word_limit) same long;
        visible = words-visible line control (k + 1) [] within;
        utf8 = words-utf8 line (IsUtf8-from_is_utf8 line utf8) (k + 1) [] within;
      } in
      all-one IsWord (word_in ws 1) (subst IsWord (sym same) said)
    where
      some-bytes : (t : Text) → is_empty t ≡ false → 0 < length t
      some-bytes [] f = cc
      some-bytes (b ∷ bs) f = omega arith
  said-word _ k ws op_fits short e = none-of _

module _ (a : Above) (line : Text) (h : IsProper a) where
  -- where n operations more have room
  can-operate : (o : Op) (n k : ℕ) (ws : List Text) → is_utf8 line ≡ true → has_control line ≡ false → a.section ≤ 9 → takes_operations a.last ≡ true → has_no_room a n ≡ false → is_long_word o ws ≡ false
      → (is_task a.last && may_block o) ≡ false → IsSoundOp a o ws → ws ≡ drop k (words_of line) → (part : UnitPart) × CanOperate a part o ws (op_values o ws) n
  can-operate o n k ws utf8 control le takes' room short task sound e = by (home a.last takes')
    where
      by : ((part : UnitPart) × (a.last ≡ Some part) × (is_sched part.body ≡ false)) → (part : UnitPart) × CanOperate a part o ws (op_values o ws) n
      by (part, is, not_sched) = (
        part,
        record {
          section_is = nine a.section le (λ lt. some-last (h.order.no_last lt) is);
          last_is = is;
          takes_ops = not_sched;
          short =
              let most = most-unit-ops a.format in
              let fits' = subst (λ (l : Option UnitPart). is_long a.format l n ≡ false) is (or-left (is_long a.format a.last n) _ room) in
              let few = ltb-false (unit_operation_limit a.format) (length (ops_of part.body) + n) fits' in
              omega arith;
          room = crowd-room part is (ltb-false (operation_limit a.format) (length (all_ops (units_of a)) + a.copies * n) (or-right (is_long a.format a.last n) _ room));
          task = subst (λ (l : Option UnitPart). (is_task l && may_block o) ≡ false) is task;
          named = λ m. declared-op m o sound;
          word = said-word line utf8 control o k ws sound.op_fits short e;
        },
      )
        where
          some-last : a.last ≡ None → a.last ≡ Some part → ⊥
          some-last none some = cc

          nine : (n : ℕ) → n ≤ 9 → (n < 9 → ⊥) → n ≡ 9
          nine n most least = on (leb_tells 9 n)
            where
              on : ((leb 9 n ≡ true) × (9 ≤ n)) ⊎ ((leb 9 n ≡ false) × (n < 9)) → n ≡ 9
              on (inl x) = let y = x.1 in omega arith
              on (inr x) = absurd (least x.1)

          crowd-room : (p : UnitPart) → a.last ≡ Some p → length (all_ops (units_of a)) + a.copies * n ≤ operation_limit a.format
              → length (all_ops a.units) + a.copies * (length (ops_of p.body) + n) ≤ operation_limit format.Three
          crowd-room p e few =
              let most = most-ops a.format in
              let ops = units-ops a in
              let count : a.copies * op_count a.last ≡ a.copies * length (ops_of p.body) = ap (λ (l : Option UnitPart). a.copies * op_count l) e in
              let split : a.copies * (length (ops_of p.body) + n) ≡ a.copies * length (ops_of p.body) + a.copies * n = mul-add a.copies (length (ops_of p.body)) n in
              omega arith

module _ {a : Above} {line : Text} {words : List Text} (h : IsProper a) (ew : words ≡ words_of line) where
  pub keeps-operation : (o : Op) → IsSound a line words (form.Operation o) → IsProper (with_form a words (form.Operation o))
  keeps-operation o s =
      let sound : IsSoundOp a o words = record { op_fits = s.form_fits; there = s.there; within = s.within } in
      let can = can-operate a line h o 1 0 words s.utf8 s.control (after-section (form.Operation o) s) (not-false _ (at-home (form.Operation o) s)) (or-left (has_no_room a 1) _ s.limit) (or-right (has_no_room a 1) _ s.limit) s.task sound ew in
      still-nine (with_operation o words (op_values o words) a) (keeps-operations o words (op_values o words) 1 a can.0 h can.1)

  pub keeps-repeat : (o : Op) → IsSound a line words (form.Repeat o) → IsProper (with_form a words (form.Repeat o))
  keeps-repeat o s =
      let r = repeated-op o s in
      let n : ℕ = at (values_of (form.Repeat o) words) 0 in
      let can = can-operate a line h o n 2 (drop 2 words) s.utf8 s.control (after-section (form.Repeat o) s) (not-false _ (at-home (form.Repeat o) s)) (or-left (has_no_room a n) _ s.limit) (or-right (has_no_room a n) _ s.limit) s.task r.0 (ap (drop 2) ew) in
      subst (λ (ns : List ℕ). IsProper (record (with_operations n o (drop 2 words) ns a) { section = 9; begun = true })) (sym r.1)
      (still-nine (with_operations n o (drop 2 words) (op_values o (drop 2 words)) a) (keeps-operations o (drop 2 words) (op_values o (drop 2 words)) n a can.0 h can.1))
