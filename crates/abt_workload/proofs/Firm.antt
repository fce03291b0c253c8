-- What lines declare is sound so far.
use Rattle.std.proofs.Common.{◌≡◌, ◌<◌, ◌≤◌, ◌+◌, ◌-◌, ◌*◌, ◌^◌, ◌==◌, ◌&&◌, ◌∙◌, ℕ, zero, suc, Bool, true, false, not, List, [], ◌∷◌, All, IsUtf8, Option, Some, None, ap, arith, cond, drop, find, flat_map, fold, get_or, length, length-drop, nat_le, nat_lt, refl, slice_get, subst, sym}
use Rattle.std.specs.Option.{option_map_or}
use Rattle.std.specs.Str.{is_utf8}
use Rattle.std.proofs.lemmas.List.{get_or-drop}
use Rattle.std.proofs.lemmas.List.FromFn.{length-range_with_len}
use Rattle.std.proofs.lemmas.Option.{slice_get_within}
use Rattle.std.proofs.lemmas.Str.{IsUtf8-from_is_utf8}
use Rattle.std.proofs.Math.Nat.{mul-le-mul_right, mul-zero}
use Rattle.std.proofs.lemmas.Bool.{leb-true, ltb-true}
use Rattle.abt_machine.specs.declared.grammar.Form.{Form}
use Rattle.abt_machine.specs.declared.grammar.Form.TheVariants as form
use Rattle.abt_machine.specs.declared.grammar.Format.TheVariants as format
use Rattle.abt_machine.specs.declared.grammar.Number.{Number}
use Rattle.abt_machine.specs.declared.grammar.Number.TheVariants as number
use Rattle.abt_machine.specs.declared.grammar.Role.{Role}
use Rattle.abt_machine.specs.declared.grammar.Role.TheVariants as role
use Rattle.abt_machine.specs.declared.numbers.PoolNo.{PoolNo}
use Rattle.abt_machine.specs.declared.operations.Access.{Access}
use Rattle.abt_machine.specs.declared.operations.Access.TheVariants as access
use Rattle.abt_machine.specs.declared.operations.Op.{Op}
use Rattle.abt_machine.specs.declared.operations.Op.TheVariants as op
use Rattle.abt_machine.specs.declared.operations.Rule.{Rule}
use Rattle.abt_machine.specs.declared.operations.Rule.TheVariants as rule
use Rattle.abt_machine.specs.declared.operations.Thing.{Thing}
use Rattle.abt_machine.specs.declared.operations.Thing.TheVariants as thing
use Rattle.abt_machine.specs.declared.program.Fault.{Fault}
use Rattle.abt_machine.specs.declared.workload.Parts.{Parts}
use Rattle.abt_machine.specs.declared.workload.UnitPart.{UnitPart}
use Rattle.abt_machine.specs.Declaring.{Above, at, listed, nothing, parts_of, said_words, units_of, word_in}
use Rattle.abt_machine.specs.Faults.{faults, has, is_skipped, is_there, is_within, line_fault, numbers_of, valued, values, values_of}
use Rattle.abt_machine.specs.Forms.{fits, form_of, numerals, op_slots, slots}
use Rattle.abt_machine.specs.Grammar.{Reads, and_form, and_line, and_words, declared_by, fault_at}
use Rattle.abt_machine.specs.Limits.{operation_limit, stream_limit, unit_limit, unit_operation_limit}
use Rattle.abt_machine.specs.Operations.{said_by}
use Rattle.abt_machine.specs.Spelling.{lines_of, words_of}
use Rattle.abt_machine.specs.Valid.{IsValid}
use Rattle.abt_machine.specs.Words.{Text}
use Rattle.abt_machine.specs.Workloads.{ops_of}
use Rattle.abt_machine.proofs.Saying.{said_by_units}
use Rattle.abt_workload.specs.Declarable.{AreOpSmall, AreSmall, IsClosable, IsDeclarable, IsSaid, IsSaidBy, IsSmall, IsSmallRule, is_wide, last_ops, op_count, with_line}
use Rattle.abt_workload.specs.Reading.{IsFirm, IsSeen}
use Rattle.abt_workload.proofs.Copies.{AreCopies, ops-say, units-ops, units-said, units-say}
use Rattle.abt_workload.proofs.Keeping.{keeps-keys, keeps-object, keeps-pool, keeps-sched, keeps-stream, keeps-streams, keeps-units, keeps-version, listed-there, most-streams, most-unit-ops, most-units}
use Rattle.abt_workload.proofs.KeepingUnits.{begun-proper, keeps-end, keeps-many, keeps-operation, keeps-repeat, keeps-unit, two-words, units-below}
use Rattle.abt_workload.proofs.LineWords.{words-utf8}
use Rattle.abt_workload.proofs.Naming.{IsSoundOp, op_values}
use Rattle.abt_workload.proofs.Places.{all-both, and-left, and-right, at-after, is_big, is_small_at, small-at}
use Rattle.abt_workload.proofs.Proper.{IsProper, proper-nothing}
use Rattle.abt_workload.proofs.Repeated.{repeated-op}
use Rattle.abt_workload.proofs.Seen.{fault-length, most}
use Rattle.abt_workload.proofs.Soundness.{IsSound, sound-of}
use Rattle.abt_workload.proofs.Taken.{line_fault-of}
use Rattle.abt_workload.proofs.Validity.{valid-of}

-- What lines declare is proper.

keeps-form : (a : Above) (line : Text) (words : List Text) (f : Form) → IsProper a → words ≡ words_of line → IsSound a line words f → IsProper (with_line a f words (values_of f words))
keeps-form a line words (form.Version F) h ew s = keeps-version h F s
keeps-form a line words form.Streams h ew s = keeps-streams h s
keeps-form a line words form.Keys h ew s = keeps-keys h s
keeps-form a line words (form.Pool x) h ew s = keeps-pool h x s
keeps-form a line words (form.Sched r) h ew s = keeps-sched h r s
keeps-form a line words form.Stream h ew s = keeps-stream h s
keeps-form a line words (form.Object t) h ew s = keeps-object h t s
keeps-form a line words form.Units h ew s = keeps-units h s
keeps-form a line words (form.Unit r start) h ew s = keeps-unit h r start s
keeps-form a line words (form.Many r start) h ew s = keeps-many h r start s
keeps-form a line words form.End h ew s = keeps-end h s
keeps-form a line words (form.Operation o) h ew s = keeps-operation h ew o s
keeps-form a line words (form.Repeat o) h ew s = keeps-repeat h ew o s

keeps-line : (a : Above) (line : Text) → IsProper a → IsProper (and_line a line)
keeps-line a line h = by (is_skipped (words_of line)) refl
  where
    form-by : (o : Option Form) → form_of a.format (words_of line) ≡ o → find (has a line (words_of line) (form_of a.format (words_of line))) faults ≡ None → IsProper (record (and_form a (words_of line) o) { begun = true })
    form-by None eo sound = begun-proper a h
    form-by (Some f) eo sound = keeps-form a line (words_of line) f h refl (sound-of a line (words_of line) f sound eo)

    fault-by : (o : Option Fault) → find (has a line (words_of line) (form_of a.format (words_of line))) faults ≡ o → IsProper (record (and_words a (words_of line) o) { begun = true })
    fault-by (Some f) eo = begun-proper a h
    fault-by None eo = form-by (form_of a.format (words_of line)) refl eo

    by : (b : Bool) → is_skipped (words_of line) ≡ b → IsProper (and_line a line)
    by true e = subst (λ (c : Bool). IsProper (cond c a (record (and_words a (words_of line) (line_fault a line)) { begun = true }))) (sym e) h
    by false e = subst (λ (c : Bool). IsProper (cond c a (record (and_words a (words_of line) (line_fault a line)) { begun = true }))) (sym e)
        (subst (λ (o : Option Fault). IsProper (record (and_words a (words_of line) o) { begun = true })) (sym (line_fault-of a line e)) (fault-by (find (has a line (words_of line) (form_of a.format (words_of line))) faults) refl))

proper-from : (a : Above) (lines : List Text) → IsProper a → IsProper (fold and_line a lines)
proper-from a [] h = h
proper-from a (line ∷ lines) h = proper-from (and_line a line) lines (keeps-line a line h)

pub proper-lines : (lines : List Text) → IsProper (declared_by lines)
proper-lines lines = proper-from nothing lines proper-nothing

-- Numbers that are kept in 32 bits.

there-small : (a : Above) → IsProper a → (kind : Number) (n : ℕ) → is_big kind ≡ false → (is_there a kind n && is_within a.format kind n) ≡ true → n < 2 ^ 32
there-small a h kind n e both = by kind e (and-left (is_there a kind n) _ both) (and-right (is_there a kind n) _ both)
  where
    object : (test : Thing → Bool) → option_map_or test (slice_get a.objects n) false ≡ true → n < 2 ^ 32
    object test f = on (slice_get a.objects n) refl
      where
        on : (o : Option Thing) → slice_get a.objects n ≡ o → n < 2 ^ 32
        on None is = let bad = rw is at f in cc
        on (Some t) is = let lt = slice_get_within a.objects n t is in let few = h.objects.few in omega arith

    by : (k : Number) → is_big k ≡ false → is_there a k n ≡ true → is_within a.format k n ≡ true → n < 2 ^ 32
    by (number.Within low high) f t w = let le : n ≤ high = leb-true n high (and-right (nat_le low n) _ w) in let small : high < 2 ^ 32 = ltb-true high (2 ^ 32) (not-not (nat_lt high (2 ^ 32)) f) in omega arith
      where
        not-not : (b : Bool) → not b ≡ false → b ≡ true
        not-not true x = refl
        not-not false x = cc
    by number.StreamCount f t w = let le : n ≤ stream_limit a.format = leb-true n _ (and-right (nat_le 1 n) _ w) in let most = most-streams a.format in omega arith
    by number.UnitCount f t w = let le : n ≤ unit_limit a.format = leb-true n _ w in let most = most-units a.format in omega arith
    by number.Copies f t w = let le : n ≤ unit_limit a.format = leb-true n _ (and-right (nat_le 1 n) _ w) in let most = most-units a.format in omega arith
    by number.Times f t w = let le : n ≤ unit_operation_limit a.format = leb-true n _ (and-right (nat_le 1 n) _ w) in let most = most-unit-ops a.format in omega arith
    by number.NewPool f t w = let le = leb-true n _ t in let few = h.pools.few in omega arith
    by number.NewSched f t w = let le = leb-true n _ t in let few = h.scheds.few in omega arith
    by number.NewObject f t w = let le = leb-true n _ t in let few = h.objects.few in omega arith
    by number.NewUnit f t w = let le : n ≤ length (units_of a) = leb-true n _ t in let below = units-below a h in let few = h.units.few in omega arith
    by number.Stream f t w = let lt = ltb-true n _ t in let few = h.streams.high in omega arith
    by number.Pool f t w = let lt = ltb-true n _ t in let few = h.pools.few in omega arith
    by number.Sched f t w = let lt = ltb-true n _ t in let few = h.scheds.few in omega arith
    by number.Key f t w = let lt = ltb-true n _ t in let few = h.keys in omega arith
    by number.Unit f t w = let lt = ltb-true n _ t in let few = h.units.few in omega arith
    by number.Mutex f t w = object _ t
    by number.Cond f t w = object _ t
    by number.Eventual f t w = object _ t
    by number.Future f t w = object _ t
    by number.Barrier f t w = object _ t
    by number.RwLock f t w = object _ t

pool-places : (x : Access) → (is_small_at (slots (form.Pool x)) 1 ≡ true) × (is_small_at (slots (form.Pool x)) 2 ≡ true)
pool-places (access.Priv s) = (refl, refl)
pool-places _ = (refl, refl)

thing-place : (t : Thing) → is_small_at (slots (form.Object t)) 1 ≡ true
thing-place thing.Mutex = refl
thing-place _ = refl

unit-places : (r : Role) (start : Option PoolNo) → (is_small_at (slots (form.Unit r start)) 1 ≡ true) × (is_small_at (slots (form.Unit r start)) 2 ≡ true)
unit-places role.Ult None = (refl, refl)
unit-places role.Ult (Some p) = (refl, refl)
unit-places role.Task None = (refl, refl)
unit-places role.Task (Some p) = (refl, refl)
unit-places role.Sched None = (refl, refl)
unit-places role.Sched (Some p) = (refl, refl)

op-places : (o : Op) → (is_wide o ≡ false → is_small_at (op_slots o) 0 ≡ true) × (is_small_at (op_slots o) 1 ≡ true)
op-places (op.Set n) = (λ e. cc, refl)
op-places (op.Add n) = (λ e. cc, refl)
op-places _ = (λ e. refl, refl)

-- the numbers of an operation's words
op-small : (a : Above) → IsProper a → (o : Op) (words : List Text) → IsSoundOp a o words → AreOpSmall o (op_values o words)
op-small a h o words s = (λ e. here 0 ((op-places o).0 e), here 1 (op-places o).1)
  where
    here : (k : ℕ) → is_small_at (op_slots o) k ≡ true → IsSmall (at (op_values o words) k)
    here k e = small-at (λ kind n. is_there a kind n && is_within a.format kind n) (there-small a h) (op_slots o) words k s.op_fits e
        (all-both (λ p. is_there a p.0 p.1) (λ p. is_within a.format p.0 p.1) (valued (numerals (op_slots o) words)) s.there s.within)

-- a word that a line says is UTF-8
word-utf8 : (line : Text) → is_utf8 line ≡ true → (o : Op) (k : ℕ) (ws : List Text) → fits (op_slots o) ws ≡ true → ws ≡ drop k (words_of line) → IsSaidBy o ws
word-utf8 line utf8 (op.Say w) k ws op_fits e =
    let two : 1 < length ws = two-words w ws op_fits in
    let size : length ws ≡ length (words_of line) - k = ap length e ∙ length-drop k (words_of line) in
    let same : word_in ws 1 ≡ get_or (words_of line) (k + 1) [] = ap (λ (xs : List Text). word_in xs 1) e ∙ get_or-drop k (words_of line) 1 [] in
    subst IsUtf8 (sym same) (words-utf8 line (IsUtf8-from_is_utf8 line utf8) (k + 1) [] (omega arith))
word-utf8 line utf8 _ k ws op_fits e = tt

module _ (a : Above) (line : Text) (words : List Text) (h : IsProper a) where
  -- no operation is repeated more often than a unit has operations
  repeated-few : (n : ℕ) → is_within a.format number.Times n ≡ true → n ≤ unit_operation_limit format.Three
  repeated-few n w = let le : n ≤ unit_operation_limit a.format = leb-true n _ (and-right (nat_le 1 n) _ w) in let most = most-unit-ops a.format in omega arith

  small : (f : Form) → IsSound a line words f → (k : ℕ) → is_small_at (slots f) k ≡ true → IsSmall (at (values_of f words) k)
  small f s k e = small-at (λ kind n. is_there a kind n && is_within a.format kind n) (there-small a h) (slots f) words k s.form_fits e (all-both (λ p. is_there a p.0 p.1) (λ p. is_within a.format p.0 p.1) (numbers_of f words) s.there s.within)

  listed-small : (r : Rule) → IsSound a line words (form.Sched r) → All IsSmall (listed r (values_of (form.Sched r) words))
  listed-small r s = λ k d lt. let below = listed-there r s k d lt in let few = h.pools.few in omega arith

  rule-small : (r : Rule) → IsSound a line words (form.Sched r) → IsSmallRule r (values_of (form.Sched r) words)
  rule-small rule.Basic s = tt
  rule-small rule.Prio s = tt
  rule-small (rule.Randws n) s = tt
  rule-small (rule.User n) s = small (form.Sched (rule.User n)) s 1 refl

  all-small : (f : Form) → IsSound a line words f → AreSmall f (values_of f words)
  all-small (form.Version F) s = tt
  all-small form.Streams s = small form.Streams s 0 refl
  all-small form.Keys s = small form.Keys s 0 refl
  all-small (form.Pool x) s = (small (form.Pool x) s 1 (pool-places x).0, small (form.Pool x) s 2 (pool-places x).1)
  all-small (form.Sched r) s = (listed-small r s, rule-small r s)
  all-small form.Stream s = small form.Stream s 1 refl
  all-small (form.Object t) s = small (form.Object t) s 1 (thing-place t)
  all-small form.Units s = small form.Units s 0 refl
  all-small (form.Unit r start) s = (small (form.Unit r start) s 1 (unit-places r start).0, small (form.Unit r start) s 2 (unit-places r start).1)
  all-small (form.Many r start) s = (
    small (form.Many r start) s 1 refl,
    (
      subst IsSmall (at-after 1 (values_of (form.Many r start) words)) (small (form.Many r start) s 2 (unit-places r start).0),
      subst IsSmall (at-after 2 (values_of (form.Many r start) words)) (small (form.Many r start) s 3 (unit-places r start).1),
    ),
  )
  all-small form.End s = tt
  all-small (form.Operation o) s = op-small a h o words record { op_fits = s.form_fits; there = s.there; within = s.within }
  all-small (form.Repeat o) s =
      let r = repeated-op o s in (
        repeated-few (at (values_of (form.Repeat o) words) 0) r.2,
        subst (AreOpSmall o) (sym r.1) (op-small a h o (drop 2 words) r.0),
      )

  said-utf8 : (f : Form) → words ≡ words_of line → IsSound a line words f → IsSaid f words
  said-utf8 (form.Operation o) ew s = word-utf8 line s.utf8 o 0 words s.form_fits ew
  said-utf8 (form.Repeat o) ew s = word-utf8 line s.utf8 o 2 (drop 2 words) (repeated-op o s).0.op_fits (ap (drop 2) ew)
  said-utf8 _ ew s = tt

-- The last unit and its copies.

-- few words are said
words-few : (a : Above) → IsProper a → length a.words + length a.said ≤ operation_limit format.Three
words-few a h =
    let above : length (said_by_units a.units) ≡ length a.words = ap length h.said ∙ length-range_with_len 0 (length a.words) in
    let say = units-say a.units in
    let here : length (flat_map said_by (last_ops a.last)) ≡ length a.said = ap length h.last_said ∙ length-range_with_len (length a.words) (length a.said) in
    let ops = ops-say (last_ops a.last) in
    let some : op_count a.last ≤ a.copies * op_count a.last = by a.last h.units.copied in
    let few = h.few_ops in
    omega arith
  where
    by : (last : Option UnitPart) → AreCopies a.copies last → op_count last ≤ a.copies * op_count last
    by None c = let e : a.copies * 0 ≡ 0 = mul-zero a.copies in omega arith
    by (Some part) c = let le = mul-le-mul_right (length (ops_of part.body)) c.0 in omega arith

-- what lines declare can go on
pub closable : (a : Above) → IsProper a → IsClosable a
closable a h = record {
  few_said = words-few a h;
  few_ops = let e = units-ops a in let few = h.few_ops in omega arith;
  few_words =
      let said : length (said_by_units (units_of a)) ≡ length (said_words a) = ap length (units-said a h.said h.last_said) ∙ length-range_with_len 0 (length (said_words a)) in
      let say = units-say (units_of a) in
      let e = units-ops a in
      let few = h.few_ops in
      omega arith;
  said = h.last_said;
}

pub declarable : (a : Above) (line : Text) (words : List Text) (f : Form) (numbers : List (Number × ℕ)) → IsFirm a → words ≡ words_of line → is_skipped words ≡ false
    → find (has a line words (form_of a.format words)) faults ≡ None → form_of a.format words ≡ Some f → numbers ≡ numbers_of f words → IsDeclarable a f words (values numbers)
declarable a line words f numbers firm ew es sound ef en =
    let h : IsProper a = subst IsProper (sym firm.1) (proper-lines firm.0) in
    let s : IsSound a line words f = sound-of a line words f sound ef in
    let here : IsDeclarable a f words (values_of f words) = record { small = all-small a line words h f s; said = said-utf8 a line words h f ew s; closable = closable a h } in
    subst (λ (ns : List (Number × ℕ)). IsDeclarable a f words (values ns)) (sym en) here

-- The whole text.

pub valid-end : (text : Text) → ((declared_by (lines_of text)).section == 10) ≡ true → IsValid (parts_of (declared_by (lines_of text)))
valid-end text end = valid-of (declared_by (lines_of text)) (proper-lines (lines_of text)) end

-- the parts that are made of what was seen
pub seen-valid : (text : Text) (a : Above) (W : Parts) → IsSeen text a → W ≡ parts_of a → IsValid W
seen-valid text a W seen is =
    subst IsValid (sym (is ∙ ap parts_of seen.declared)) (valid-end text (ap (λ (b : Above). b.section == 10) (sym seen.declared) ∙ seen.ended))

pub seen-reads : (text : Text) (a : Above) (W : Parts) → length text ≤ most text → IsSeen text a → W ≡ parts_of a → Reads text W
seen-reads text a W le seen is = record { faultless = by; parts = is ∙ ap parts_of seen.declared }
  where
    by : (line : ℕ) → fault_at text line ≡ None
    by zero = fault-length text le
    by (suc i) = seen.faultless i

-- what was seen can be made parts
pub seen-closable : (text : Text) (a : Above) → IsSeen text a → IsClosable a
seen-closable text a seen = subst IsClosable (sym seen.declared) (closable (declared_by (lines_of text)) (proper-lines (lines_of text)))
