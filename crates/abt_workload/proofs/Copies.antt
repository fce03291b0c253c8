-- Units that are alike.
use Rattle.std.proofs.Common.{◌≡◌, ◌<◌, ◌≤◌, ◌+◌, ◌-◌, ◌*◌, ◌^◌, ◌==◌, ◌&&◌, ◌||◌, ◌∙◌, ℕ, zero, suc, Bool, true, false, List, [], ◌∷◌, ◌++◌, All, Option, Some, None, ap, append_assoc, arith, flat_map, length, length-append, map, nat_lt, option_to_list, refl, subst, suc-mul, sym, zero-mul}
use Rattle.std.specs.List.{list_any, range_with_len}
use Rattle.std.proofs.lemmas.Bool.{lt-ltb}
use Rattle.std.proofs.lemmas.Grind.{flat_map-append}
use Rattle.std.proofs.lemmas.List.{append-nil, length-map}
use Rattle.std.proofs.lemmas.List.Elements.{All-append, All-cons, All-head, All-tail}
use Rattle.std.proofs.lemmas.List.Folds.{list_any-append}
use Rattle.std.proofs.lemmas.List.FromFn.{get_or-range_with_len, length-range_with_len}
use Rattle.std.proofs.Math.Nat.{mul-add}
use Rattle.abt_machine.specs.declared.grammar.Format.TheVariants as format
use Rattle.abt_machine.specs.declared.operations.Body.{Body}
use Rattle.abt_machine.specs.declared.operations.Body.TheVariants as body
use Rattle.abt_machine.specs.declared.operations.Op.{Op}
use Rattle.abt_machine.specs.declared.operations.Op.TheVariants as op
use Rattle.abt_machine.specs.declared.workload.UnitPart.{UnitPart}
use Rattle.abt_machine.specs.Declaring.{Above, alike, body_later, last_units, op_later, repeated, said_words, unit_later, units_of}
use Rattle.abt_machine.specs.Limits.{operation_limit}
use Rattle.abt_machine.specs.Operations.{said_by}
use Rattle.abt_machine.specs.Valid.{sched_in}
use Rattle.abt_machine.specs.Words.{Text}
use Rattle.abt_machine.specs.Workloads.{all_ops, is_sched, ops_of}
use Rattle.abt_machine.proofs.Saying.{said_by_units}
use Rattle.abt_workload.specs.Declarable.{last_count, last_ops, op_count}

-- Numbers in order.

-- numbers that count up, and those after them
pub range-append : (f m n : ℕ) → range_with_len f m ++ range_with_len (f + m) n ≡ range_with_len f (m + n)
range-append f zero n = let e : f + 0 ≡ f = omega arith in let z : 0 + n ≡ n = omega arith in ap (λ (k : ℕ). range_with_len k n) e ∙ ap (range_with_len f) (sym z)
range-append f (suc m) n =
    let e : f + suc m ≡ (f + 1) + m = omega arith in
    let s : suc m + n ≡ suc (m + n) = omega arith in
    ap (λ (k : ℕ). f ∷ (range_with_len (f + 1) m ++ range_with_len k n)) e ∙ (ap (λ (ns : List ℕ). f ∷ ns) (range-append (f + 1) m n) ∙ ap (range_with_len f) (sym s))

-- numbers that count up, each so much higher
range-later : (k f m : ℕ) → map (λ (w : ℕ). w + k) (range_with_len f m) ≡ range_with_len (f + k) m
range-later k f zero = refl
range-later k f (suc m) =
    let e : (f + 1) + k ≡ (f + k) + 1 = omega arith in
    ap (λ (ns : List ℕ). (f + k) ∷ ns) (range-later k (f + 1) m ∙ ap (λ (j : ℕ). range_with_len j m) e)

-- What a copy has.

-- an operation whose words are no higher is the same
same-op : (o : Op) → op_later 0 o ≡ o
same-op (op.Say w) = let e : w + 0 ≡ w = omega arith in ap op.Say e
same-op _ = refl

-- and so is a program
pub same-ops : (ops : List Op) → map (op_later 0) ops ≡ ops
same-ops [] = refl
same-ops (o ∷ ops) = ap (λ (q : Op). q ∷ map (op_later 0) ops) (same-op o) ∙ ap (λ (qs : List Op). o ∷ qs) (same-ops ops)

-- the operations of a copy
pub ops-later : (n : ℕ) (b : Body) → ops_of (body_later n b) ≡ map (op_later n) (ops_of b)
ops-later n (body.Ult ops) = refl
ops-later n (body.Task ops) = refl
ops-later n (body.Sched g) = refl

pub said-op : (n : ℕ) (o : Op) → said_by (op_later n o) ≡ map (λ (w : ℕ). w + n) (said_by o)
said-op n (op.Say w) = refl
said-op n _ = refl

map-append : (n : ℕ) (xs ys : List ℕ) → map (λ (w : ℕ). w + n) (xs ++ ys) ≡ map (λ (w : ℕ). w + n) xs ++ map (λ (w : ℕ). w + n) ys
map-append n [] ys = refl
map-append n (x ∷ xs) ys = ap (λ (zs : List ℕ). (x + n) ∷ zs) (map-append n xs ys)

said-later : (n : ℕ) (ops : List Op) → flat_map said_by (map (op_later n) ops) ≡ map (λ (w : ℕ). w + n) (flat_map said_by ops)
said-later n [] = refl
said-later n (o ∷ ops) =
    ap (λ (xs : List ℕ). xs ++ flat_map said_by (map (op_later n) ops)) (said-op n o)
    ∙ (ap (λ (xs : List ℕ). map (λ (w : ℕ). w + n) (said_by o) ++ xs) (said-later n ops)
    ∙ sym (map-append n (said_by o) (flat_map said_by ops)))

-- the words of a copy count up where those of the unit do
pub said-copy : (f m n : ℕ) (part : UnitPart) → flat_map said_by (ops_of part.body) ≡ range_with_len f m → flat_map said_by (ops_of (body_later n part.body)) ≡ range_with_len (f + n) m
said-copy f m n part e = ap (flat_map said_by) (ops-later n part.body) ∙ (said-later n (ops_of part.body) ∙ (ap (map (λ (w : ℕ). w + n)) e ∙ range-later n f m))

pub count-later : (n : ℕ) (b : Body) → length (ops_of (body_later n b)) ≡ length (ops_of b)
count-later n b = ap length (ops-later n b) ∙ length-map (ops_of b) (op_later n)

sched-later : (n : ℕ) (b : Body) → is_sched (body_later n b) ≡ is_sched b
sched-later n (body.Ult ops) = refl
sched-later n (body.Task ops) = refl
sched-later n (body.Sched g) = refl

no-sched : (b : Body) → is_sched b ≡ false → sched_in b ≡ []
no-sched (body.Ult ops) e = refl
no-sched (body.Task ops) e = refl
no-sched (body.Sched g) e = cc

-- What all copies have.

pub length-alike : (n m : ℕ) (part : UnitPart) → length (alike n m part) ≡ n
length-alike zero m part = refl
length-alike (suc n) m part = ap suc (length-alike n m (unit_later m part))

pub ops-alike : (n m : ℕ) (part : UnitPart) → length (all_ops (alike n m part)) ≡ n * length (ops_of part.body)
ops-alike zero m part = sym (zero-mul (length (ops_of part.body)))
ops-alike (suc n) m part =
    let here : length (ops_of part.body ++ all_ops (alike n m (unit_later m part))) ≡ length (ops_of part.body) + length (all_ops (alike n m (unit_later m part))) = length-append (ops_of part.body) _ in
    let rest : length (all_ops (alike n m (unit_later m part))) ≡ n * length (ops_of part.body) = ops-alike n m (unit_later m part) ∙ ap (λ (k : ℕ). n * k) (count-later m part.body) in
    let more = suc-mul n (length (ops_of part.body)) in
    omega arith

pub said-alike : (f m n : ℕ) (part : UnitPart) → flat_map said_by (ops_of part.body) ≡ range_with_len f m → said_by_units (alike n m part) ≡ range_with_len f (n * m)
said-alike f m zero part e = sym (ap (range_with_len f) (zero-mul m))
said-alike f m (suc n) part e =
    let rest : said_by_units (alike n m (unit_later m part)) ≡ range_with_len (f + m) (n * m) = said-alike (f + m) m n (unit_later m part) (said-copy f m m part e) in
    ap (λ (xs : List ℕ). xs ++ said_by_units (alike n m (unit_later m part))) e
    ∙ (ap (λ (xs : List ℕ). range_with_len f m ++ xs) rest
    ∙ (range-append f m (n * m)
    ∙ ap (range_with_len f) (let more = suc-mul n m in let e : m + n * m ≡ suc n * m = omega arith in e)))

scheds-alike : (n m : ℕ) (part : UnitPart) → is_sched part.body ≡ false → flat_map (λ (p : UnitPart). sched_in p.body) (alike n m part) ≡ []
scheds-alike zero m part e = refl
scheds-alike (suc n) m part e =
    ap (λ (xs : List ℕ). xs ++ flat_map (λ (p : UnitPart). sched_in p.body) (alike n m (unit_later m part))) (no-sched part.body e)
    ∙ scheds-alike n m (unit_later m part) (sched-later m part.body ∙ e)

-- a scheduler is a copy's where it is the unit's, if there is one
pub any-alike : (g n m : ℕ) (part : UnitPart) → list_any (λ h. h == g) (flat_map (λ (p : UnitPart). sched_in p.body) (alike n m part)) ≡ (nat_lt 0 n && list_any (λ h. h == g) (sched_in part.body))
any-alike g zero m part = refl
any-alike g (suc n) m part =
    list_any-append (λ h. h == g) (sched_in part.body) (flat_map (λ (p : UnitPart). sched_in p.body) (alike n m (unit_later m part)))
    ∙ (ap (λ (b : Bool). list_any (λ h. h == g) (sched_in part.body) || b) (any-alike g n m (unit_later m part) ∙ ap (λ (gs : List ℕ). nat_lt 0 n && list_any (λ h. h == g) gs) (in-later m part.body))
    ∙ (twice (list_any (λ h. h == g) (sched_in part.body)) (nat_lt 0 n)
    ∙ sym (ap (λ (b : Bool). b && list_any (λ h. h == g) (sched_in part.body)) (lt-ltb 0 (suc n) (omega arith)))))
  where
    in-later : (k : ℕ) (b : Body) → sched_in (body_later k b) ≡ sched_in b
    in-later k (body.Ult ops) = refl
    in-later k (body.Task ops) = refl
    in-later k (body.Sched h) = refl

    twice : (x y : Bool) → (x || (y && x)) ≡ x
    twice true y = refl
    twice false true = refl
    twice false false = refl

-- what a unit has, and each copy of one that has it
pub all-alike : (P : UnitPart → Type 0) (m : ℕ) → ((part : UnitPart) → P part → P (unit_later m part)) → (n : ℕ) (part : UnitPart) → P part → All P (alike n m part)
all-alike P m more zero part h = λ k d lt. absurd (omega arith)
all-alike P m more (suc n) part h = All-cons P part (alike n m (unit_later m part)) h (all-alike P m more n (unit_later m part) (more part h))

pub length-repeated : (n : ℕ) (words : List Text) → length (repeated n words) ≡ n * length words
length-repeated zero words = sym (zero-mul (length words))
length-repeated (suc n) words = let here : length (words ++ repeated n words) ≡ length words + length (repeated n words) = length-append words _ in let rest = length-repeated n words in let more = suc-mul n (length words) in omega arith

pub all-repeated : (P : Text → Type 0) (n : ℕ) (words : List Text) → All P words → All P (repeated n words)
all-repeated P zero words h = λ k d lt. absurd (omega arith)
all-repeated P (suc n) words h = All-append P words (repeated n words) h (all-repeated P n words h)

-- What is declared.

-- there is a unit, and no second one that is a scheduler
abbrev pub AreCopies : ℕ → Option UnitPart → Type 0
AreCopies copies None = Unit {0}
AreCopies copies (Some part) = (0 < copies) × (is_sched part.body ≡ true → copies ≡ 1)

module _ (a : Above) where
  last-length : (last : Option UnitPart) → length (last_units a last) ≡ last_count a.copies last
  last-length None = refl
  last-length (Some part) = length-alike a.copies (length a.said) part

  pub units-length : length (units_of a) ≡ length a.units + last_count a.copies a.last
  units-length = let e : length (a.units ++ last_units a a.last) ≡ length a.units + length (last_units a a.last) = length-append a.units _ in let l = last-length a.last in omega arith

  last-ops : (last : Option UnitPart) → length (all_ops (last_units a last)) ≡ a.copies * op_count last
  last-ops None = let e : a.copies * 0 ≡ 0 = omega arith in sym e
  last-ops (Some part) = ops-alike a.copies (length a.said) part

  pub units-ops : length (all_ops (units_of a)) ≡ length (all_ops a.units) + a.copies * op_count a.last
  units-ops =
      let parts : all_ops (units_of a) ≡ all_ops a.units ++ all_ops (last_units a a.last) = flat_map-append (λ (p : UnitPart). ops_of p.body) a.units (last_units a a.last) in
      let e : length (all_ops a.units ++ all_ops (last_units a a.last)) ≡ length (all_ops a.units) + length (all_ops (last_units a a.last)) = length-append (all_ops a.units) _ in
      let l = last-ops a.last in
      let same = ap length parts in
      omega arith

  pub words-length : length (said_words a) ≡ length a.words + a.copies * length a.said
  words-length = let e : length (a.words ++ repeated a.copies a.said) ≡ length a.words + length (repeated a.copies a.said) = length-append a.words _ in let r = length-repeated a.copies a.said in omega arith

  -- the words of all units count up where those of the units above do, and then those of the last
  pub units-said : said_by_units a.units ≡ range_with_len 0 (length a.words) → flat_map said_by (last_ops a.last) ≡ range_with_len (length a.words) (length a.said) → said_by_units (units_of a) ≡ range_with_len 0 (length (said_words a))
  units-said above here =
      flat_map-append (λ (p : UnitPart). flat_map said_by (ops_of p.body)) a.units (last_units a a.last)
      ∙ (ap (λ (xs : List ℕ). xs ++ said_by_units (last_units a a.last)) above
      ∙ (ap (λ (xs : List ℕ). range_with_len 0 (length a.words) ++ xs) (by a.last here)
      ∙ (range-append 0 (length a.words) (a.copies * length a.said)
      ∙ ap (λ (n : ℕ). range_with_len 0 n) (sym words-length))))
    where
      by : (last : Option UnitPart) → flat_map said_by (last_ops last) ≡ range_with_len (length a.words) (length a.said) → said_by_units (last_units a last) ≡ range_with_len (0 + length a.words) (a.copies * length a.said)
      by None e =
          let zero_said : length a.said ≡ 0 = sym (length-range_with_len (length a.words) (length a.said)) ∙ sym (ap length e) in
          let none : a.copies * length a.said ≡ 0 = ap (λ (k : ℕ). a.copies * k) zero_said ∙ omega arith in
          sym (ap (range_with_len (0 + length a.words)) none)
      by (Some part) e = let z : 0 + length a.words ≡ length a.words = omega arith in said-alike (0 + length a.words) (length a.said) a.copies part (e ∙ ap (λ (k : ℕ). range_with_len k (length a.said)) (sym z))

  -- the schedulers that are units: copies add none
  pub units-scheds : AreCopies a.copies a.last → flat_map (λ (p : UnitPart). sched_in p.body) (units_of a) ≡ flat_map (λ (p : UnitPart). sched_in p.body) (a.units ++ option_to_list a.last)
  units-scheds h =
      flat_map-append (λ (p : UnitPart). sched_in p.body) a.units (last_units a a.last)
      ∙ (ap (λ (xs : List ℕ). flat_map (λ (p : UnitPart). sched_in p.body) a.units ++ xs) (by a.last h)
      ∙ sym (flat_map-append (λ (p : UnitPart). sched_in p.body) a.units (option_to_list a.last)))
    where
      one : (part : UnitPart) (t : Bool) → is_sched part.body ≡ t → (is_sched part.body ≡ true → a.copies ≡ 1)
          → flat_map (λ (p : UnitPart). sched_in p.body) (alike a.copies (length a.said) part) ≡ sched_in part.body ++ []
      one part true e only = ap (λ (n : ℕ). flat_map (λ (p : UnitPart). sched_in p.body) (alike n (length a.said) part)) (only e)
      one part false e only = scheds-alike a.copies (length a.said) part e ∙ sym (append-nil (sched_in part.body) ∙ no-sched part.body e)

      by : (last : Option UnitPart) → AreCopies a.copies last → flat_map (λ (p : UnitPart). sched_in p.body) (last_units a last) ≡ flat_map (λ (p : UnitPart). sched_in p.body) (option_to_list last)
      by None c = refl
      by (Some part) c = one part (is_sched part.body) refl c.1

  -- what the units above and the last have, all units have
  pub units-all : (P : UnitPart → Type 0) → ((m : ℕ) (part : UnitPart) → P part → P (unit_later m part)) → All P (a.units ++ option_to_list a.last) → All P (units_of a)
  units-all P more h = by a.last h
    where
      front : (xs ys : List UnitPart) → All P (xs ++ ys) → All P xs
      front [] ys all = λ k d lt. absurd (omega arith)
      front (x ∷ xs) ys all = All-cons P x xs (All-head P x (xs ++ ys) all) (front xs ys (All-tail P x (xs ++ ys) all))

      back : (xs ys : List UnitPart) → All P (xs ++ ys) → All P ys
      back [] ys all = all
      back (x ∷ xs) ys all = back xs ys (All-tail P x (xs ++ ys) all)

      by : (last : Option UnitPart) → All P (a.units ++ option_to_list last) → All P (a.units ++ last_units a last)
      by None all = all
      by (Some part) all =
          All-append P a.units (alike a.copies (length a.said) part) (front a.units (part ∷ []) all)
          (all-alike P (length a.said) (more (length a.said)) a.copies part (All-head P part [] (back a.units (part ∷ []) all)))

-- Few words are said.

said-few : (o : Op) → length (said_by o) ≤ 1
said-few (op.Say w) = omega arith
said-few _ = omega arith

-- operations say no more words than there are operations
pub ops-say : (ops : List Op) → length (flat_map said_by ops) ≤ length ops
ops-say [] = omega arith
ops-say (o ∷ ops) =
    let here = said-few o in
    let rest = ops-say ops in
    let e : length (said_by o ++ flat_map said_by ops) ≡ length (said_by o) + length (flat_map said_by ops) = length-append (said_by o) _ in
    omega arith

pub units-say : (units : List UnitPart) → length (said_by_units units) ≤ length (all_ops units)
units-say [] = omega arith
units-say (part ∷ units) =
    let here = ops-say (ops_of part.body) in
    let rest = units-say units in
    let e : length (flat_map said_by (ops_of part.body) ++ said_by_units units) ≡ length (flat_map said_by (ops_of part.body)) + length (said_by_units units) = length-append (flat_map said_by (ops_of part.body)) _ in
    let f : length (ops_of part.body ++ all_ops units) ≡ length (ops_of part.body) + length (all_ops units) = length-append (ops_of part.body) _ in
    omega arith

-- The limit on operations.

-- the operations of all units, where each that the last line declares has n more
pub crowd : (a : Above) (n : ℕ) → length (all_ops a.units) + a.copies * (op_count a.last + n) ≡ length (all_ops (units_of a)) + a.copies * n
crowd a n = let e = units-ops a in let split = mul-add a.copies (op_count a.last) n in omega arith

-- the numbers of the next copy's words
pub later-words : (n m : ℕ) (part later : UnitPart) → 1 < n → later ≡ unit_later m part → All (λ w. w + n * m < 2 ^ 32) (flat_map said_by (ops_of part.body))
    → All (λ w. w + (n - 1) * m < 2 ^ 32) (flat_map said_by (ops_of later.body))
later-words n m part later some e all = subst (λ (p : UnitPart). All (λ w. w + (n - 1) * m < 2 ^ 32) (flat_map said_by (ops_of p.body))) (sym e)
    (subst (λ (ns : List ℕ). All (λ w. w + (n - 1) * m < 2 ^ 32) ns) (sym (ap (flat_map said_by) (ops-later m part.body) ∙ said-later m (ops_of part.body)))
    (moved (flat_map said_by (ops_of part.body)) all))
  where
    moved : (ns : List ℕ) → All (λ w. w + n * m < 2 ^ 32) ns → All (λ w. w + (n - 1) * m < 2 ^ 32) (map (λ (w : ℕ). w + m) ns)
    moved [] h = λ k d lt. absurd (omega arith)
    moved (x ∷ ns) h =
        let here = All-head (λ w. w + n * m < 2 ^ 32) x ns h in
        let less : n ≡ suc (n - 1) = omega arith in
        let split : n * m ≡ (n - 1) * m + m = ap (λ (k : ℕ). k * m) less ∙ suc-mul (n - 1) m in
        All-cons (λ w. w + (n - 1) * m < 2 ^ 32) (x + m) (map (λ (w : ℕ). w + m) ns) (omega arith) (moved ns (All-tail (λ w. w + n * m < 2 ^ 32) x ns h))

-- a unit, and the copies after it
pub alike-more : (n m : ℕ) (units : List UnitPart) (part : UnitPart) → 0 < n → units ++ alike n m part ≡ (units ++ part ∷ []) ++ alike (n - 1) m (unit_later m part)
alike-more zero m units part some = absurd (omega arith)
alike-more (suc n) m units part some =
    let less : suc n - 1 ≡ n = omega arith in
    sym (append_assoc units (part ∷ []) (alike (suc n - 1) m (unit_later m part)) ∙ ap (λ (k : ℕ). units ++ part ∷ alike k m (unit_later m part)) less)

-- the last unit's words, each a copy's number higher, have 32 bits
pub words-later : (n f m : ℕ) (ns : List ℕ) → ns ≡ range_with_len f m → f + m ≤ operation_limit format.Three → f + n * m ≤ operation_limit format.Three → All (λ w. w + n * m < 2 ^ 32) ns
words-later n f m ns e here few = subst (λ (ks : List ℕ). All (λ w. w + n * m < 2 ^ 32) ks) (sym e) (λ k d lt.
    let long = length-range_with_len f m in
    let is = get_or-range_with_len f m k d (omega arith) in
    omega arith)

-- whether a scheduler is one of the units of the last line
pub last-any : (a : Above) (g : ℕ) → list_any (λ h. h == g) (flat_map (λ (p : UnitPart). sched_in p.body) (last_units a a.last)) ≡ (nat_lt 0 a.copies && list_any (λ h. h == g) (flat_map (λ (p : UnitPart). sched_in p.body) (option_to_list a.last)))
last-any a g = by a.last
  where
    none : (b : Bool) → false ≡ (b && false)
    none true = refl
    none false = refl

    by : (last : Option UnitPart) → list_any (λ h. h == g) (flat_map (λ (p : UnitPart). sched_in p.body) (last_units a last)) ≡ (nat_lt 0 a.copies && list_any (λ h. h == g) (flat_map (λ (p : UnitPart). sched_in p.body) (option_to_list last)))
    by None = none (nat_lt 0 a.copies)
    by (Some part) = any-alike g a.copies (length a.said) part ∙ ap (λ (gs : List ℕ). nat_lt 0 a.copies && list_any (λ h. h == g) gs) (sym (append-nil (sched_in part.body)))

-- the same units, parted in two ways, have as many operations
pub more-ops : (us vs xs ys : List UnitPart) → us ++ vs ≡ xs ++ ys → length (all_ops xs) + length (all_ops ys) ≤ operation_limit format.Three
    → length (all_ops us) + length (all_ops vs) ≤ operation_limit format.Three
more-ops us vs xs ys e few =
    let both : (first later : List UnitPart) → length (all_ops (first ++ later)) ≡ length (all_ops first) + length (all_ops later) =
    (λ first later. ap length (flat_map-append (λ (p : UnitPart). ops_of p.body) first later) ∙ length-append (all_ops first) (all_ops later)) in
    let a = both us vs in
    let b = both xs ys in
    let same : length (all_ops (us ++ vs)) ≡ length (all_ops (xs ++ ys)) = ap (λ (ps : List UnitPart). length (all_ops ps)) e in
    omega arith
