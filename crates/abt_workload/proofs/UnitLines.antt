-- The lines of units and of their operations are taken.
use Rattle.std.proofs.Common.{◌≡◌, ◌≢◌, ◌<◌, ◌≤◌, ◌+◌, ◌==◌, ◌∙◌, ℕ, false, true, List, [], ◌∷◌, ◌++◌, All, Option, Some, None, ap, append_assoc, arith, flat_map, length, length-append, map, nat_lt, option_to_list, refl, slice_get, subst, sym}
use Rattle.std.specs.List.{AllPairs, list_any}
use Rattle.std.proofs.lemmas.Bool.{le-ltb}
use Rattle.std.proofs.lemmas.Grind.{flat_map-append}
use Rattle.std.proofs.lemmas.List.{append-nil}
use Rattle.std.proofs.lemmas.List.FromFn.{fill_by_all}
use Rattle.abt_machine.specs.declared.grammar.Form.{Form}
use Rattle.abt_machine.specs.declared.grammar.Format.{Format}
use Rattle.abt_machine.specs.declared.numbers.PoolNo.{PoolNo}
use Rattle.abt_machine.specs.declared.numbers.SchedNo.{SchedNo}
use Rattle.abt_machine.specs.declared.operations.Body.{Body}
use Rattle.abt_machine.specs.declared.operations.Body.TheVariants as body
use Rattle.abt_machine.specs.declared.workload.Parts.{Parts}
use Rattle.abt_machine.specs.declared.workload.UnitPart.{UnitPart}
use Rattle.abt_machine.specs.Canonical.{op_words, unit_lines, word_of, role_of, unit_header}
use Rattle.abt_machine.specs.Declaring.{Above, declared_units, parts_of, said_words, start_with, unit_with, units_of}
use Rattle.abt_machine.specs.Faults.{is_beyond, is_placed, is_twice, values}
use Rattle.abt_machine.specs.Limits.{operation_limit, unit_operation_limit}
use Rattle.abt_machine.specs.Operations.{IsDeclared, said_by}
use Rattle.abt_machine.specs.Valid.{IsBody, IsUnit, IsValid, placed_scheds, sched_in, words_said}
use Rattle.abt_machine.specs.Words.{Text}
use Rattle.abt_machine.specs.Workloads.{all_ops, ops_of}
use Rattle.abt_machine.proofs.Elements.{all-at}
use Rattle.abt_machine.proofs.Saying.{said_by_units}
use Rattle.abt_workload.proofs.Allowing.{Allows, AllowsUnit, HasOp}
use Rattle.abt_workload.proofs.Filled.{in-each, takes}
use Rattle.abt_workload.proofs.Fitting.{all-fit}
use Rattle.abt_workload.proofs.Heads.{head, units_lines}
use Rattle.abt_workload.proofs.InOrder.{front-shorter, get-here, not-before, placed-among}
use Rattle.abt_workload.proofs.OperationLines.{body_like, ops-taken}
use Rattle.abt_workload.proofs.Reaching.{IsQuiet, reached, reached-small, reached-units, reached-words}
use Rattle.abt_workload.proofs.Taking.{Takes, TakesAll, takes-append}
use Rattle.abt_workload.proofs.UnitForms.{unit-made, unit-met, unit-written, unit_form, unit_given, unit_numbers}

-- all of the workload is declared
pub record IsWhole (W : Parts) (b : Above) : Type 0 where
  pub begun : b.begun ≡ true
  pub streams : b.streams ≡ Some W.streams
  pub unit_count : b.unit_count ≡ Some (length W.units)
  pub section : b.section ≤ 9
  pub declared : declared_units b ≡ length W.units
  pub parts : parts_of b ≡ W

-- Main schedulers.

-- if each stream has a main scheduler, these are all
mains-back : (ms : List SchedNo) → flat_map option_to_list (map (λ (g : SchedNo). Some g) ms) ≡ ms
mains-back [] = refl
mains-back (m ∷ ms) = ap (λ (gs : List SchedNo). m ∷ gs) (mains-back ms)

-- The lines of a unit.

-- the operations of some units, one after them, and more
ops-within : (front : List UnitPart) (part : UnitPart) (rest : List UnitPart) → length (all_ops front) + length (ops_of part.body) ≤ length (all_ops (front ++ part ∷ rest))
ops-within front part rest =
    let all : all_ops (front ++ part ∷ rest) ≡ all_ops front ++ (ops_of part.body ++ all_ops rest) = flat_map-append (λ (p : UnitPart). ops_of p.body) front (part ∷ rest) in
    let first : length (all_ops front ++ (ops_of part.body ++ all_ops rest)) ≡ length (all_ops front) + length (ops_of part.body ++ all_ops rest) = length-append (all_ops front) _ in
    let next : length (ops_of part.body ++ all_ops rest) ≡ length (ops_of part.body) + length (all_ops rest) = length-append (ops_of part.body) _ in
    let same = ap length all in
    omega arith

module _ (F : Format) (W : Parts) (v : IsValid W) (allows : Allows F W) (front : List UnitPart) (part : UnitPart) (rest : List UnitPart) (e : front ++ part ∷ rest ≡ W.units) where
  -- the next unit is one of the workload
  below : length front < length W.units
  below = front-shorter front part rest W.units e

  -- it is this one
  here : slice_get W.units (length front) ≡ Some part
  here = get-here front part rest W.units e

  -- it is right
  right : IsUnit W part
  right = all-at (IsUnit W) W.units v.units (length front) part here

  -- the format allows its operations
  fine : AllowsUnit F part
  fine = all-at (AllowsUnit F) W.units allows.units (length front) part here

  -- a unit's scheduler is in no place above
  not-placed : (g : ℕ) → sched_in part.body ≡ g ∷ []
      → list_any (λ h. h == g) (map (λ (m : SchedNo). m.0) W.mains ++ flat_map (λ (p : UnitPart). sched_in p.body) front) ≡ false
  not-placed g is =
      let S : UnitPart → List ℕ = λ p. sched_in p.body in
      let M : List ℕ = map (λ (m : SchedNo). m.0) W.mains in
      let all : flat_map S W.units ≡ flat_map S front ++ (g ∷ flat_map S rest) =
      ap (flat_map S) (sym e) ∙ (flat_map-append S front (part ∷ rest) ∙ ap (λ (ns : List ℕ). flat_map S front ++ (ns ++ flat_map S rest)) is) in
      let places : placed_scheds W ≡ (M ++ flat_map S front) ++ (g ∷ flat_map S rest) =
      ap (λ (ns : List ℕ). M ++ ns) all ∙ sym (append_assoc M (flat_map S front) (g ∷ flat_map S rest)) in
      not-before (M ++ flat_map S front) g (flat_map S rest) (subst (λ (ns : List ℕ). AllPairs (λ x y. x ≢ y) ns) places v.one_place)

  -- its operations have room
  room : length (all_ops front) + length (ops_of part.body) ≤ operation_limit F
  room =
      let within = ops-within front part rest in
      let all : length (all_ops (front ++ part ∷ rest)) ≡ length (all_ops W.units) = ap (λ (us : List UnitPart). length (all_ops us)) e in
      let few = allows.few_ops in
      omega arith

  module _ (s : ℕ) (at : s ≤ 9) (units : List UnitPart) (last : Option UnitPart) (reach : units ++ option_to_list last ≡ front) (before said : List ℕ) (quiet : IsQuiet last said) where
    -- the units in front are declared
    all-units : units_of (reached F W s units last before said) ≡ front
    all-units = reached-units F W s units last before said ∙ reach

    -- as many units are declared as the prefix has
    count : declared_units (reached F W s units last before said) ≡ length front
    count = ap length all-units

    -- the next number is not declared
    new : nat_lt (length front) (declared_units (reached F W s units last before said)) ≡ false
    new = let same = count in le-ltb (length front) (declared_units (reached F W s units last before said)) (omega arith)

    -- the unit's scheduler has no place
    free : (g : ℕ) → sched_in part.body ≡ g ∷ [] → is_placed (reached F W s units last before said) g ≡ false
    free g is =
        let S : UnitPart → List ℕ = λ p. sched_in p.body in
        ap (λ (ms : List SchedNo). list_any (λ h. h == g) (map (λ (m : SchedNo). m.0) ms ++ flat_map S (units_of (reached F W s units last before said)))) (mains-back W.mains)
        ∙ (ap (λ (us : List UnitPart). list_any (λ h. h == g) (map (λ (m : SchedNo). m.0) W.mains ++ flat_map S us)) all-units ∙ not-placed g is)

    -- nothing is declared twice
    once : (b : Body) (o : Option PoolNo) → part.body ≡ b → is_twice (reached F W s units last before said) (unit_form b o) (values (unit_given (length front) b o)) ≡ false
    once (body.Sched g) o is = let a = new in let b = free g.0 (ap sched_in is) in rw (a, b) refl
    once _ o is = new

    -- it is one of those that `units` has
    within-units : (b : Body) (o : Option PoolNo) → is_beyond (reached F W s units last before said) (unit_form b o) (values (unit_given (length front) b o)) ≡ false
    within-units (body.Ult ops) o = let lt = below in le-ltb (length W.units) (length front + 1) (omega arith)
    within-units _ o = let lt = below in le-ltb (length W.units) (length front + 1) (omega arith)

    -- the line of the next unit is taken
    unit-taken : Takes (reached F W s units last before said) (unit_header (length front) part) (reached F W 9 front (Some (record { body = body_like part.body []; start = part.start })) (before ++ said) [])
    unit-taken =
        let a : Above = reached F W s units last before said in
        let u : ℕ = length front in
        let f : Form = unit_form part.body part.start in
        let made : UnitPart = unit_with (role_of part.body) (start_with (role_of part.body) part.start []) (values (unit_given u part.body part.start)) in
        takes a (reached F W 9 front (Some (record { body = body_like part.body []; start = part.start })) (before ++ said) []) f [] (unit_numbers u part.body part.start) (unit_header u part)
        (unit-written u part.body part.start)
        (in-each F f refl)
        (all-fit a (reached-small F W v s units last before said) (unit_given u part.body part.start)
        (unit-met F W s units last before said u part.body part.start (sym count) below right.kind right.start))
        record { version = refl; placed = placed-among a f at (omega arith) refl refl; once = once part.body part.start refl; beyond = within-units part.body part.start; limit = refl; task = refl; access = refl; early = refl }
        (ap (λ (us : List UnitPart). record a { section = 9; units = us; last = Some made; copies = 1; words = said_words a; said = [] }) all-units
        ∙ (ap (λ (ws : List Text). record a { section = 9; units = front; last = Some made; copies = 1; words = ws; said = [] }) (reached-words F W s units last before said quiet)
        ∙ ap (λ (p : UnitPart). record a { section = 9; units = front; last = Some p; copies = 1; words = map (word_of W) (before ++ said); said = [] }) (unit-made u part.body part.start)))

  -- the lines of its operations are taken, if there are any
  ops-of-body : (b : Body) (o : Option PoolNo) (before after : List ℕ) → IsBody (length W.scheds) b → length (ops_of b) ≤ unit_operation_limit F
      → length (all_ops front) + length (ops_of b) ≤ operation_limit F → All (IsDeclared W) (ops_of b)
      → All (HasOp F) (ops_of b)
      → words_said W ≡ before ++ (flat_map said_by (ops_of b) ++ after)
      → TakesAll (reached F W 9 front (Some (record { body = body_like b []; start = o })) before []) (map (op_words W) (ops_of b))
      (reached F W 9 front (Some (record { body = b; start = o })) before (flat_map said_by (ops_of b)))
  ops-of-body (body.Ult ops) o before after h few fits' all has is = ops-taken F W v front (body.Ult ops) o refl before [] ops [] after (omega arith) (omega arith) refl all has is
  ops-of-body (body.Task ops) o before after h few fits' all has is = ops-taken F W v front (body.Task ops) o refl before [] ops [] after (omega arith) (omega arith) h all has is
  ops-of-body (body.Sched g) o before after h few fits' all has is = refl

  -- the lines of the next unit are taken
  unit-whole : (s : ℕ) → s ≤ 9 → (units : List UnitPart) (last : Option UnitPart) → units ++ option_to_list last ≡ front
      → (before said after : List ℕ) → IsQuiet last said → words_said W ≡ (before ++ said) ++ (flat_map said_by (ops_of part.body) ++ after)
      → TakesAll (reached F W s units last before said) (unit_lines W (length front) part) (reached F W 9 front (Some part) (before ++ said) (flat_map said_by (ops_of part.body)))
  unit-whole s at units last reach before said after quiet is = (
    reached F W 9 front (Some (record { body = body_like part.body []; start = part.start })) (before ++ said) [],
    unit-taken s at units last reach before said quiet,
    ops-of-body part.body part.start (before ++ said) after right.kind fine.few_ops room right.ops fine.ops is,
  )

-- Units one after the other.

module _ (F : Format) (W : Parts) (v : IsValid W) (allows : Allows F W) where
  -- the words that are said are all words
  all-words : (said : List ℕ) → words_said W ≡ said → map (word_of W) said ≡ W.words
  all-words said is = ap (map (word_of W)) (sym is ∙ v.said) ∙ sym (fill_by_all (word_of W) W.words (length W.words) [] refl (λ k lt. refl))

  -- below all units the workload is declared
  whole : (s : ℕ) → s ≤ 9 → (units : List UnitPart) (last : Option UnitPart) (before said : List ℕ) → IsQuiet last said → units ++ option_to_list last ≡ W.units → words_said W ≡ before ++ said
      → IsWhole W (reached F W s units last before said)
  whole s at units last before said quiet e is =
      let all : units_of (reached F W s units last before said) ≡ W.units = reached-units F W s units last before said ∙ e in
      record {
        begun = refl;
        streams = refl;
        unit_count = refl;
        section = at;
        declared = ap length all;
        parts =
            ap (λ (ms : List SchedNo). record W { mains = ms; units = units_of (reached F W s units last before said); words = said_words (reached F W s units last before said) }) (mains-back W.mains)
            ∙ (ap (λ (us : List UnitPart). record W { units = us; words = said_words (reached F W s units last before said) }) all
            ∙ ap (λ (ws : List Text). record W { words = ws }) (reached-words F W s units last before said quiet ∙ all-words (before ++ said) is));
      }

  -- the lines of the units after a prefix are taken
  units-from : (front rest : List UnitPart) → front ++ rest ≡ W.units → (s : ℕ) → s ≤ 9
      → (units : List UnitPart) (last : Option UnitPart) → units ++ option_to_list last ≡ front
      → (before said : List ℕ) → IsQuiet last said → words_said W ≡ (before ++ said) ++ said_by_units rest
      → (b : Above) × TakesAll (reached F W s units last before said) (units_lines W (length front) rest) b × IsWhole W b
  units-from front [] e s at units last reach before said quiet is =
      (reached F W s units last before said, refl, whole s at units last before said quiet (reach ∙ (sym (append-nil front) ∙ e)) (is ∙ append-nil (before ++ said)))
  units-from front (part ∷ rest) e s at units last reach before said quiet is =
      let more : List ℕ = flat_map said_by (ops_of part.body) in
      let after : List ℕ = said_by_units rest in
      let below : Above = reached F W 9 front (Some part) (before ++ said) more in
      let first = unit-whole F W v allows front part rest e s at units last reach before said after quiet is in
      let next =
      units-from (front ++ part ∷ []) rest (append_assoc front (part ∷ []) rest ∙ e) 9 (omega arith) front (Some part) refl
      (before ++ said) more tt (is ∙ sym (append_assoc (before ++ said) more after)) in
      let count : length (front ++ part ∷ []) ≡ length front + 1 = length-append front (part ∷ []) in
      let others : TakesAll below (units_lines W (length front + 1) rest) next.0 = subst (λ (n : ℕ). TakesAll below (units_lines W n rest) next.0) count next.1 in
      (next.0, takes-append (reached F W s units last before said) below next.0 (unit_lines W (length front) part) (units_lines W (length front + 1) rest) first others, next.2)

-- the lines of units are taken below those before them, and then all of the workload is declared
pub units-taken : (F : Format) (W : Parts) → IsValid W → Allows F W → (b : Above) × TakesAll (head F W) (units_lines W 0 W.units) b × IsWhole W b
units-taken F W v allows = units-from F W v allows [] W.units refl 8 (omega arith) [] None refl [] [] refl refl
