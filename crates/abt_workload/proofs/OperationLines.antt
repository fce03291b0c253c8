-- The lines of a unit's operations are taken.
use Rattle.std.proofs.Common.{◌≡◌, ◌<◌, ◌≤◌, ◌+◌, ◌&&◌, ◌||◌, ◌∙◌, ℕ, zero, suc, Bool, true, false, List, [], ◌∷◌, ◌++◌, All, Option, Some, ap, append_assoc, arith, flat_map, length, length-append, map, nat_lt, refl, subst, sym}
use Rattle.std.specs.List.{list_any, range_with_len}
use Rattle.std.proofs.lemmas.Bool.{le-ltb}
use Rattle.std.proofs.lemmas.Grind.{flat_map-append}
use Rattle.std.proofs.lemmas.List.{append-nil, length-map, map-append}
use Rattle.std.proofs.lemmas.List.Elements.{All-cons, All-head, All-tail}
use Rattle.abt_machine.specs.declared.grammar.Form.TheVariants as form
use Rattle.abt_machine.specs.declared.grammar.Format.{Format}
use Rattle.abt_machine.specs.declared.numbers.PoolNo.{PoolNo}
use Rattle.abt_machine.specs.declared.operations.Body.{Body}
use Rattle.abt_machine.specs.declared.operations.Body.TheVariants as body
use Rattle.abt_machine.specs.declared.operations.Op.{Op}
use Rattle.abt_machine.specs.declared.operations.Op.TheVariants as op
use Rattle.abt_machine.specs.declared.workload.Parts.{Parts}
use Rattle.abt_machine.specs.declared.workload.UnitPart.{UnitPart}
use Rattle.abt_machine.specs.Canonical.{op_numbers, op_word, op_words, word_of}
use Rattle.abt_machine.specs.Declaring.{Above, body_and, op_with, said_in, unit_and}
use Rattle.abt_machine.specs.Faults.{has_no_room, is_long_word, is_task_body, values}
use Rattle.abt_machine.specs.Forms.{op_slots}
use Rattle.abt_machine.specs.Limits.{operation_limit, unit_operation_limit}
use Rattle.abt_machine.specs.Operations.{IsDeclared, may_block, said_by}
use Rattle.abt_machine.specs.Valid.{IsValid, words_said}
use Rattle.abt_machine.specs.Words.{Text}
use Rattle.abt_machine.specs.Workloads.{all_ops, is_sched, ops_of}
use Rattle.abt_workload.proofs.Allowing.{HasOp, op-in}
use Rattle.abt_workload.proofs.Filled.{given, takes}
use Rattle.abt_workload.proofs.Fitting.{AreMet, all-fit}
use Rattle.abt_workload.proofs.OperationForms.{IsFormed, formed, op-met}
use Rattle.abt_workload.proofs.Places.{or-both}
use Rattle.abt_workload.proofs.Proper.{none-of}
use Rattle.abt_workload.proofs.Reaching.{reached, reached-small}
use Rattle.abt_workload.proofs.Taking.{Takes, TakesAll}

module _ (F : Format) (W : Parts) (v : IsValid W) (units : List UnitPart) where
  -- there is room for one operation more
  room-here : (part : UnitPart) (before said : List ℕ) → length (ops_of part.body) < unit_operation_limit F → length (all_ops units) + length (ops_of part.body) < operation_limit F
      → has_no_room (reached F W 9 units (Some part) before said) 1 ≡ false
  room-here part before said few room =
      let ops : all_ops (units ++ part ∷ []) ≡ all_ops units ++ (ops_of part.body ++ []) = flat_map-append (λ (p : UnitPart). ops_of p.body) units (part ∷ []) in
      let count : length (all_ops units ++ (ops_of part.body ++ [])) ≡ length (all_ops units) + length (ops_of part.body ++ []) = length-append (all_ops units) _ in
      let alone : length (ops_of part.body ++ []) ≡ length (ops_of part.body) = ap length (append-nil (ops_of part.body)) in
      let all : length (all_ops (units ++ part ∷ [])) ≡ length (all_ops units) + length (ops_of part.body) = ap length ops ∙ (count ∙ ap (λ (n : ℕ). length (all_ops units) + n) alone) in
      or-both (nat_lt (unit_operation_limit F) (length (ops_of part.body) + 1)) _
      (le-ltb (unit_operation_limit F) (length (ops_of part.body) + 1) (omega arith)) (le-ltb (operation_limit F) (length (all_ops (units ++ part ∷ [])) + 1) (omega arith))

  -- the line of an operation is taken below a unit's that may have one more
  op-taken : (part : UnitPart) (before said : List ℕ) (o : Op) → is_sched part.body ≡ false → length (ops_of part.body) < unit_operation_limit F
      → length (all_ops units) + length (ops_of part.body) < operation_limit F → (is_task_body part.body && may_block o) ≡ false
      → IsDeclared W o → HasOp F o → All (λ w. w ≡ length before + length said) (said_by o)
      → Takes (reached F W 9 units (Some part) before said) (op_words W o) (reached F W 9 units (Some (unit_and o part)) before (said ++ said_by o))
  op-taken part before said o no_sched few room task h has next = by (op_with o 0 []) (formed W v o h) (op-met F W units (Some part) before said o h)
    where
      by : (f : Op) → IsFormed W o f → AreMet (reached F W 9 units (Some part) before said) (given (op_slots f) (op_numbers o))
          → Takes (reached F W 9 units (Some part) before said) (op_words W o) (reached F W 9 units (Some (unit_and o part)) before (said ++ said_by o))
      by f d met =
          let a : Above = reached F W 9 units (Some part) before said in
          let texts : List ℕ → List Text = map (word_of W) in
          let ns : List ℕ = values (given (op_slots f) (op_numbers o)) in
          let fits' : has_no_room a 1 ≡ false = room-here part before said few room in
          let short : is_long_word f (op_words W o) ≡ false = d.short in
          let number : length (texts before) + length (texts said) ≡ length before + length said = let x = length-map before (word_of W) in let y = length-map said (word_of W) in omega arith in
          let made : op_with f (length (texts before) + length (texts said)) ns ≡ o = d.made _ (subst (λ (n : ℕ). All (λ w. w ≡ n) (said_by o)) (sym number) next) in
          let more : texts said ++ said_in f (op_words W o) ≡ texts (said ++ said_by o) =
          ap (λ (ws : List Text). texts said ++ ws) d.said ∙ sym (map-append (word_of W) said (said_by o)) in
          takes a (reached F W 9 units (Some (unit_and o part)) before (said ++ said_by o)) (form.Operation f) (op_word W o) (op_numbers o) (op_words W o) d.written
          (op-in F f o d.computing has)
          (all-fit a (reached-small F W v 9 units (Some part) before said) (given (op_slots f) (op_numbers o)) met)
          record {
            version = refl;
            placed = rw no_sched refl;
            once = refl;
            beyond = refl;
            limit = or-both (has_no_room a 1) _ fits' short;
            task = ap (λ (b : Bool). is_task_body part.body && b) d.blocks ∙ task;
            access = refl;
            early = refl;
          }
          (ap (λ (p : Op). record a { last = Some (unit_and p part); said = texts said ++ said_in f (op_words W o) }) made
          ∙ ap (λ (ws : List Text). record a { last = Some (unit_and o part); said = ws }) more)

-- Operations one after the other.

-- a body like this one, with these operations if it has any
abbrev pub body_like : Body → List Op → Body
body_like (body.Ult os) ops = body.Ult ops
body_like (body.Task os) ops = body.Task ops
body_like (body.Sched g) ops = body.Sched g

-- it is a scheduler if the other is
like-sched : (b : Body) (ops : List Op) → is_sched (body_like b ops) ≡ is_sched b
like-sched (body.Ult os) ops = refl
like-sched _ ops = refl

-- it is a tasklet's if the other is
like-task : (b : Body) (ops : List Op) → is_task_body (body_like b ops) ≡ is_task_body b
like-task (body.Ult os) ops = refl
like-task _ ops = refl

-- these are its operations
like-ops : (b : Body) (ops : List Op) → is_sched b ≡ false → ops_of (body_like b ops) ≡ ops
like-ops (body.Ult os) ops e = refl
like-ops (body.Task os) ops e = refl
like-ops (body.Sched g) ops e = cc

-- one operation more
like-and : (b : Body) (ops : List Op) (o : Op) → body_and o (body_like b ops) ≡ body_like b (ops ++ o ∷ [])
like-and (body.Ult os) ops o = refl
like-and _ ops o = refl

-- a number of a range, by those before it
range-place : (k n w : ℕ) (xs ys : List ℕ) → range_with_len k n ≡ xs ++ w ∷ ys → w ≡ k + length xs
range-place k zero w [] ys e = cc
range-place k (suc n) w [] ys e = let same : k ≡ w = cc in omega arith
range-place k zero w (x ∷ xs) ys e = cc
range-place k (suc n) w (x ∷ xs) ys e = let rest : range_with_len (k + 1) n ≡ xs ++ w ∷ ys = cc in let h = range-place (k + 1) n w xs ys rest in omega arith

-- the word that is said next has the count of those before it as its number
next-said : (o : Op) (n : ℕ) (before said rest : List ℕ) → range_with_len 0 n ≡ before ++ (said ++ (said_by o ++ rest)) → All (λ w. w ≡ length before + length said) (said_by o)
next-said (op.Say w) n before said rest e =
    let h = range-place 0 n w (before ++ said) rest (e ∙ sym (append_assoc before said (w ∷ rest))) in
    let both : length (before ++ said) ≡ length before + length said = length-append before said in
    All-cons (λ k. k ≡ length before + length said) w [] (omega arith) (none-of _)
next-said _ n before said rest e = none-of _

module _ (F : Format) (W : Parts) (v : IsValid W) (units : List UnitPart) (b : Body) (start : Option PoolNo) (no_sched : is_sched b ≡ false) (before : List ℕ) where
  -- the unit with these operations
  abbrev with_ops : List Op → UnitPart
  with_ops ops = record { body = body_like b ops; start = start }

  -- below these operations of the unit
  abbrev after_ops : List Op → List ℕ → Above
  after_ops ops said = reached F W 9 units (Some (with_ops ops)) before said

  -- the lines of a unit's operations are taken below those of the operations before them
  pub ops-taken : (done ops : List Op) (said after : List ℕ) → length done + length ops ≤ unit_operation_limit F
      → length (all_ops units) + (length done + length ops) ≤ operation_limit F → (is_task_body b && list_any may_block ops) ≡ false
      → All (IsDeclared W) ops → All (HasOp F) ops
      → words_said W ≡ before ++ (said ++ (flat_map said_by ops ++ after))
      → TakesAll (after_ops done said) (map (op_words W) ops) (after_ops (done ++ ops) (said ++ flat_map said_by ops))
  ops-taken done [] said after few room task all has all_said =
      ap (λ (os : List Op). after_ops os said) (sym (append-nil done)) ∙ ap (λ (ns : List ℕ). after_ops (done ++ []) ns) (sym (append-nil said))
  ops-taken done (o ∷ os) said after few room task all has all_said =
      let mine : length (ops_of (body_like b done)) ≡ length done = ap length (like-ops b done no_sched) in
      let no_block : (is_task_body (body_like b done) && may_block o) ≡ false =
      ap (λ (t : Bool). t && may_block o) (like-task b done) ∙ and-first (is_task_body b) (may_block o) (list_any may_block os) task in
      let seam : words_said W ≡ before ++ (said ++ (said_by o ++ (flat_map said_by os ++ after))) =
      all_said ∙ ap (λ (ns : List ℕ). before ++ (said ++ ns)) (append_assoc (said_by o) (flat_map said_by os) after) in
      let next = next-said o (length W.words) before said (flat_map said_by os ++ after) (sym v.said ∙ seam) in
      let took = op-taken F W v units (with_ops done) before said o (like-sched b done ∙ no_sched) (omega arith) (omega arith) no_block
      (All-head (IsDeclared W) o os all) (All-head (HasOp F) o os has) next in
      let more : Takes (after_ops done said) (op_words W o) (after_ops (done ++ o ∷ []) (said ++ said_by o)) =
      subst (λ (c : Body). Takes (after_ops done said) (op_words W o) (reached F W 9 units (Some (record { body = c; start = start })) before (said ++ said_by o)))
      (like-and b done o) took in
      let counted : length (done ++ o ∷ []) ≡ length done + 1 = length-append done (o ∷ []) in
      let rest =
      ops-taken (done ++ o ∷ []) os (said ++ said_by o) after (omega arith) (omega arith) (and-rest (is_task_body b) (may_block o) (list_any may_block os) task)
      (All-tail (IsDeclared W) o os all) (All-tail (HasOp F) o os has) (seam ∙ ap (λ (ns : List ℕ). before ++ ns) (sym (append_assoc said (said_by o) (flat_map said_by os ++ after)))) in
      let at_end : after_ops ((done ++ o ∷ []) ++ os) ((said ++ said_by o) ++ flat_map said_by os) ≡ after_ops (done ++ o ∷ os) (said ++ (said_by o ++ flat_map said_by os)) =
      ap (λ (ps : List Op). after_ops ps ((said ++ said_by o) ++ flat_map said_by os)) (append_assoc done (o ∷ []) os)
      ∙ ap (λ (ns : List ℕ). after_ops (done ++ o ∷ os) ns) (append_assoc said (said_by o) (flat_map said_by os)) in
      let below : Above = after_ops (done ++ o ∷ []) (said ++ said_by o) in
      (below, more, subst (λ (c : Above). TakesAll below (map (op_words W) os) c) at_end rest)
    where
      and-first : (t x y : Bool) → (t && (x || y)) ≡ false → (t && x) ≡ false
      and-first true true y e = e
      and-first true false y e = refl
      and-first false x y e = refl

      and-rest : (t x y : Bool) → (t && (x || y)) ≡ false → (t && y) ≡ false
      and-rest true true y e = cc
      and-rest true false y e = e
      and-rest false x y e = refl
