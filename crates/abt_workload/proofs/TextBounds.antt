-- The text of a valid workload is never too long for format 3.
use Rattle.std.proofs.Common.{◌≡◌, ◌<◌, ◌≤◌, ◌+◌, ◌*◌, ◌^◌, ℕ, zero, suc, true, false, List, [], ◌∷◌, ◌++◌, All, Option, Some, None, IfSome, ap, arith, decimal, flat_map, get_or, length, length-append, map, refl, suc-mul}
use Rattle.std.specs.List.{enumerate_from}
use Rattle.std.proofs.lemmas.List.Elements.{All-head, All-tail}
use Rattle.std.proofs.lemmas.Option.{slice_get-get_or}
use Rattle.abt_machine.specs.declared.grammar.Form.TheVariants as form
use Rattle.abt_machine.specs.declared.grammar.Format.{Format}
use Rattle.abt_machine.specs.declared.grammar.Format.TheVariants as format
use Rattle.abt_machine.specs.declared.numbers.PoolNo.{PoolNo}
use Rattle.abt_machine.specs.declared.numbers.SchedNo.{SchedNo}
use Rattle.abt_machine.specs.declared.operations.Access.{Access}
use Rattle.abt_machine.specs.declared.operations.Access.TheVariants as access
use Rattle.abt_machine.specs.declared.operations.Body.{Body}
use Rattle.abt_machine.specs.declared.operations.Body.TheVariants as body
use Rattle.abt_machine.specs.declared.operations.Calc.TheVariants as calc
use Rattle.abt_machine.specs.declared.operations.Combine.{Combine}
use Rattle.abt_machine.specs.declared.operations.Combine.TheVariants as combine
use Rattle.abt_machine.specs.declared.operations.Kind.{Kind}
use Rattle.abt_machine.specs.declared.operations.Kind.TheVariants as kind
use Rattle.abt_machine.specs.declared.operations.Op.{Op}
use Rattle.abt_machine.specs.declared.operations.Op.TheVariants as op
use Rattle.abt_machine.specs.declared.operations.Rule.{Rule}
use Rattle.abt_machine.specs.declared.operations.Rule.TheVariants as rule
use Rattle.abt_machine.specs.declared.operations.Thing.{Thing}
use Rattle.abt_machine.specs.declared.operations.Thing.TheVariants as thing
use Rattle.abt_machine.specs.declared.workload.Parts.{Parts}
use Rattle.abt_machine.specs.declared.workload.PoolPart.{PoolPart}
use Rattle.abt_machine.specs.declared.workload.SchedPart.{SchedPart}
use Rattle.abt_machine.specs.declared.workload.UnitPart.{UnitPart}
use Rattle.abt_machine.specs.Canonical.{filled, keys_lines, object_line, op_numbers, op_word, op_words, pool_line, sched_line, stream_line, text_in, unit_lines, access_numbers, form_words, rule_numbers, thing_numbers, thing_word, unit_header, opening_lines, units_words}
use Rattle.abt_machine.specs.Declaring.{Above, op_with}
use Rattle.abt_machine.specs.Forms.{Slot, Fixed, Numeral, PoolList, access_slots, combine_name, kind_name, op_slots, rule_slots, thing_slots}
use Rattle.abt_machine.specs.Limits.{key_limit, object_limit, sched_limit, text_limit, word_limit}
use Rattle.abt_machine.specs.Operations.{IsDeclared}
use Rattle.abt_machine.specs.Valid.{IsAccess, IsBody, IsRule, IsSched, IsThing, IsUnit, IsValid}
use Rattle.abt_machine.specs.Words.{Text, numbered}
use Rattle.abt_machine.specs.Workloads.{all_ops, ops_of}
use Rattle.abt_machine.proofs.Checked.{mains-places}
use Rattle.abt_machine.proofs.Decimals.{few-digits}
use Rattle.abt_machine.proofs.Weighing.{has_words, size, size-append, size-line, size-nil, some-op, weight}
use Rattle.abt_workload.proofs.Filled.{given, has_choice}
use Rattle.abt_workload.proofs.Fitting.{AreFit, all-fit}
use Rattle.abt_workload.proofs.Growing.{ends_list}
use Rattle.abt_workload.proofs.OperationForms.{IsFormed, formed, op-met}
use Rattle.abt_workload.proofs.Reaching.{reached, reached-small}

-- Lines that are short.

-- a line of words that has so many bytes at most
abbrev IsLight : ℕ → List Text → Type 0
IsLight most line = (has_words line ≡ true) × (weight line ≤ most)

-- so are the lines of things, each with its number
lines-light : {A : Type 0} (f : ℕ → A → List Text) (most : ℕ) (P : A → Type 0) → ((i : ℕ) (x : A) → i < 2 ^ 64 → P x → IsLight most (f i x))
    → (k : ℕ) (xs : List A) → k + length xs < 2 ^ 64 → All P xs → size (map (λ p. f p.0 p.1) (enumerate_from k xs)) ≤ length xs * most
lines-light f most P light k [] few all = let e = size-nil in omega arith
lines-light f most P light k (x ∷ xs) few all =
    let here = light k x (omega arith) (All-head P x xs all) in
    let e = size-line (f k x) (map (λ p. f p.0 p.1) (enumerate_from (k + 1) xs)) here.0 in
    let rest = lines-light f most P light (k + 1) xs (omega arith) (All-tail P x xs all) in
    let short = here.1 in
    let more = suc-mul (length xs) most in
    omega arith

-- and those of things alone
map-light : {A : Type 0} (f : A → List Text) (most : ℕ) (P : A → Type 0) → ((x : A) → P x → IsLight most (f x)) → (xs : List A) → All P xs → size (map f xs) ≤ length xs * most
map-light f most P light [] all = let e = size-nil in omega arith
map-light f most P light (x ∷ xs) all =
    let here = light x (All-head P x xs all) in
    let e = size-line (f x) (map f xs) here.0 in
    let rest = map-light f most P light xs (All-tail P x xs all) in
    let short = here.1 in
    let more = suc-mul (length xs) most in
    omega arith

-- Lines that are filled.

-- as many bytes as the words at these places have at most, with one after each
abbrev most_weight : List Slot → ℕ
most_weight [] = 0
most_weight (Fixed t ∷ places) = length t + 1 + most_weight places
most_weight (Numeral n ∷ places) = 21 + most_weight places
most_weight (slot ∷ places) = word_limit + 1 + most_weight places

-- the words have no more where no pools are listed
filled-light : (a : Above) (places : List Slot) (word : Text) (ns : List ℕ) → ends_list places ≡ false → (has_choice places ≡ true → length word ≤ word_limit) → AreFit a (given places ns) → weight (filled places word ns) ≤ most_weight places
filled-light a [] word ns e w h = omega arith
filled-light a (Fixed t ∷ places) word ns e w h = let rest = filled-light a places word ns e w h in omega arith
filled-light a (Numeral n ∷ places) word [] e w h = omega arith
filled-light a (Numeral n ∷ places) word (m ∷ ms) e w h = let d = few-digits m h.0.small in let rest = filled-light a places word ms e w h.1 in omega arith
filled-light a (PoolList ∷ places) word ns e w h = cc
filled-light a (choice ∷ places) word ns e w h = let here = w refl in let rest = filled-light a places word ns e (λ _. here) h in omega arith

-- those of an operation's line
op-places : (o : Op) → (ends_list (op_slots o) ≡ false) × (most_weight (op_slots o) ≤ 69)
op-places (op.Set n) = (refl, omega arith)
op-places (op.Calc calc.Add k) = (refl, omega arith)
op-places _ = (refl, omega arith)

-- Each kind of line.

module _ (W : Parts) (v : IsValid W) where
  pool-small : (n : ℕ) → n < length W.pools → n < 2 ^ 64
  pool-small n lt = let few = v.few_pools in omega arith

  stream-small : (n : ℕ) → n < W.streams → n < 2 ^ 64
  stream-small n lt = let few = v.few_streams in omega arith

  sched-small : (n : ℕ) → n < length W.scheds → n < 2 ^ 64
  sched-small n lt = let few = v.few_scheds in omega arith

  access-light : (x : Access) (word : Text) → IsAccess W.streams x → weight (filled (access_slots x) word (access_numbers x)) ≤ 60
  access-light (access.Priv s) word h = let d = few-digits s.0 (stream-small s.0 h) in omega arith
  access-light (access.Spsc s t) word h = let d = few-digits s.0 (stream-small s.0 h.0) in let e = few-digits t.0 (stream-small t.0 h.1) in omega arith
  access-light (access.Mpsc t) word h = let d = few-digits t.0 (stream-small t.0 h) in omega arith
  access-light (access.Spmc s) word h = let d = few-digits s.0 (stream-small s.0 h) in omega arith
  access-light access.Mpmc word h = omega arith

  kind-light : (k : Kind) → length (kind_name k) ≤ 5
  kind-light kind.Fifo = omega arith
  kind-light kind.Deque = omega arith

  pool-light : (p : ℕ) (part : PoolPart) → p < 2 ^ 64 → IsAccess W.streams part.access → IsLight 119 (pool_line p part)
  pool-light p part lt h = let d = few-digits p lt in let k = kind-light part.kind in let x = access-light part.access (kind_name part.kind) h in (refl, omega arith)

  -- the numbers of pools
  listed-light : (pools : List PoolNo) → All (λ (p : PoolNo). p.0 < length W.pools) pools → weight (map decimal (map (λ (p : PoolNo). p.0) pools)) ≤ length pools * 21
  listed-light [] all = omega arith
  listed-light (p ∷ pools) all =
      let d = few-digits p.0 (pool-small p.0 (All-head (λ (q : PoolNo). q.0 < length W.pools) p pools all)) in
      let rest = listed-light pools (All-tail (λ (q : PoolNo). q.0 < length W.pools) p pools all) in
      omega arith

  rule-light : (r : Rule) (pools : List PoolNo) → IsRule r → All (λ (p : PoolNo). p.0 < length W.pools) pools
      → weight (filled (rule_slots r) [] (rule_numbers r ++ map (λ (p : PoolNo). p.0) pools)) ≤ 60 + length pools * 21
  rule-light (rule.Randws seed) pools h all = let d = few-digits seed h in let l = listed-light pools all in omega arith
  rule-light (rule.User k) pools h all = let d = few-digits k (omega arith) in let l = listed-light pools all in omega arith
  rule-light _ pools h all = let l = listed-light pools all in omega arith

  sched-light : (g : ℕ) (part : SchedPart) → g < 2 ^ 64 → IsSched (length W.pools) part → IsLight 300 (sched_line g part)
  sched-light g part lt h =
      let d = few-digits g lt in
      let r = rule-light part.rule part.pools h.rule h.listed in
      let few = h.few_pools in
      (refl, omega arith)

  stream-light : (s : ℕ) (g : SchedNo) → s < 2 ^ 64 → g.0 < sched_limit format.Three → IsLight 119 (stream_line s g)
  stream-light s g lt h = let d = few-digits s lt in let e = few-digits g.0 (omega arith) in (refl, omega arith)

  -- an object's numbers are small
  abbrev IsSmallThing : Thing → Type 0
  IsSmallThing t = (x : ℕ) × (x < object_limit format.Three) × IsThing W.objects x t

  combine-light : (c : Combine) → length (combine_name c) ≤ 5
  combine-light combine.Sum = omega arith
  combine-light combine.Max = omega arith
  combine-light combine.Count = omega arith

  thing-light : (x : ℕ) (t : Thing) → x < object_limit format.Three → IsThing W.objects x t → weight (filled (thing_slots t) (thing_word t) (thing_numbers t)) ≤ 60
  thing-light x (thing.Cond m) lt h = let below = h.0 in let d = few-digits m.0 (omega arith) in omega arith
  thing-light x (thing.Future n c) lt h = let most = h.1 in let d = few-digits n (omega arith) in let e = combine-light c in omega arith
  thing-light x (thing.Barrier n) lt h = let most = h.1 in let d = few-digits n (omega arith) in omega arith
  thing-light x _ lt h = omega arith

  object-light : (x : ℕ) (t : Thing) → x < 2 ^ 64 → IsSmallThing t → IsLight 119 (object_line x t)
  object-light x t lt h = let d = few-digits x lt in let w = thing-light h.0 t h.1 h.2 in (refl, omega arith)

  op-light : (o : Op) → IsDeclared W o → IsLight 69 (op_words W o)
  op-light o h =
      let a : Above = reached format.One W 9 [] None [] [] in
      let d : IsFormed W o (op_with o 0 []) = formed W v o h in
      let places : List Slot = op_slots (op_with o 0 []) in
      let few = op-places (op_with o 0 []) in
      let fit = all-fit a (reached-small format.One W v 9 [] None [] []) (given places (op_numbers o)) (op-met format.One W [] None [] [] o h) in
      let light : weight (filled places (op_word W o) (op_numbers o)) ≤ most_weight places = filled-light a places (op_word W o) (op_numbers o) few.0 (λ e. (d.written.chosen e).few_bytes) fit in
      let same : weight (op_words W o) ≡ weight (filled places (op_word W o) (op_numbers o)) = ap weight d.written.words_are in
      (some-op W o, omega (arith, few.1))

  header-light : (u : ℕ) (b : Body) (o : Option PoolNo) → u < 2 ^ 64 → IsBody (length W.scheds) b → IfSome o (λ (p : PoolNo). p.0 < length W.pools) → weight (unit_header u (record { body = b; start = o })) ≤ 119
  header-light u (body.Sched g) None lt h at = let d = few-digits u lt in let e = few-digits g.0 (sched-small g.0 h) in omega arith
  header-light u (body.Sched g) (Some p) lt h at =
      let d = few-digits u lt in let e = few-digits g.0 (sched-small g.0 h) in let f = few-digits p.0 (pool-small p.0 at) in omega arith
  header-light u _ None lt h at = let d = few-digits u lt in omega arith
  header-light u _ (Some p) lt h at = let d = few-digits u lt in let f = few-digits p.0 (pool-small p.0 at) in omega arith

  -- the lines of units and of their operations
  units-light : (k : ℕ) (units : List UnitPart) → k + length units < 2 ^ 64 → All (IsUnit W) units
      → size (flat_map (λ p. unit_lines W p.0 p.1) (enumerate_from k units)) ≤ length units * 119 + length (all_ops units) * 69
  units-light k [] few all = let e = size-nil in omega arith
  units-light k (part ∷ units) few all =
      let right = All-head (IsUnit W) part units all in
      let light = header-light k part.body part.start (omega arith) right.kind right.start in
      let ops = map-light (op_words W) 69 (IsDeclared W) op-light (ops_of part.body) right.ops in
      let head = size-line (unit_header k part) (map (op_words W) (ops_of part.body)) refl in
      let here = size-append (unit_lines W k part) (flat_map (λ p. unit_lines W p.0 p.1) (enumerate_from (k + 1) units)) in
      let rest = units-light (k + 1) units (omega arith) (All-tail (IsUnit W) part units all) in
      let count : length (ops_of part.body ++ all_ops units) ≡ length (ops_of part.body) + length (all_ops units) = length-append (ops_of part.body) _ in
      omega arith

  -- the parts of the workload
  objects-all : All IsSmallThing W.objects
  objects-all = λ k d lt. (k, (let few = v.few_objects in omega arith), v.objects k (get_or W.objects k d) (slice_get-get_or W.objects k d lt))

  keys-light : (k : ℕ) → k ≤ key_limit → size (keys_lines k) ≤ 119
  keys-light zero few = let e = size-nil in omega arith
  keys-light (suc k) few = let e = size-line (form_words form.Keys [] (suc k ∷ [])) [] refl in let n = size-nil in let d = few-digits (suc k) (omega arith) in omega arith

  -- the lines of a workload, part by part
  version-light : (F : Format) → size (opening_lines F W.streams W.keys) ≤ 6 + 119 + 119
  version-light F =
      let a = size-line (form_words (form.Version F) [] []) (form_words form.Streams [] (W.streams ∷ []) ∷ keys_lines W.keys) (some F) in
      let b = size-line (form_words form.Streams [] (W.streams ∷ [])) (keys_lines W.keys) refl in
      let k = keys-light W.keys v.few_keys in
      let few = v.few_streams in
      let d = few-digits W.streams (omega arith) in
      let e = six F in
      omega arith
    where
      some : (G : Format) → has_words (form_words (form.Version G) [] []) ≡ true
      some format.One = refl
      some format.Two = refl
      some format.Three = refl

      six : (G : Format) → weight (form_words (form.Version G) [] []) ≡ 6
      six format.One = refl
      six format.Two = refl
      six format.Three = refl

  -- it has fewer bytes than format 3 allows
  pub text-fits : (F : Format) → length (text_in F W) ≤ text_limit format.Three
  unfolding size
  text-fits F =
      let V : List (List Text) = opening_lines F W.streams W.keys in
      let P : List (List Text) = numbered pool_line W.pools in
      let S : List (List Text) = numbered sched_line W.scheds in
      let M : List (List Text) = numbered stream_line W.mains in
      let O : List (List Text) = numbered object_line W.objects in
      let U : List (List Text) = flat_map (λ p. unit_lines W p.0 p.1) (enumerate_from 0 W.units) in
      let units : List Text = units_words W in
      let few_streams = v.few_streams in
      let few_pools = v.few_pools in
      let few_scheds = v.few_scheds in
      let few_objects = v.few_objects in
      let few_units = v.few_units in
      let few_ops = v.few_ops in
      let mains = v.mains in
      let p = lines-light pool_line 119 (λ (part : PoolPart). IsAccess W.streams part.access) pool-light 0 W.pools (omega arith) v.pools in
      let s = lines-light sched_line 300 (IsSched (length W.pools)) sched-light 0 W.scheds (omega arith) v.scheds in
      let m = lines-light stream_line 119 (λ (g : SchedNo). g.0 < sched_limit format.Three) stream-light 0 W.mains (omega arith) (mains-places W v) in
      let o = lines-light object_line 119 IsSmallThing object-light 0 W.objects (omega arith) objects-all in
      let u = units-light 0 W.units (omega arith) v.units in
      let h = version-light F in
      let a = size-append ((((V ++ P) ++ S) ++ M) ++ O ++ units ∷ U) (form_words form.End [] [] ∷ []) in
      let b = size-append (((V ++ P) ++ S) ++ M ++ O) (units ∷ U) in
      let c = size-append (((V ++ P) ++ S) ++ M) O in
      let d = size-append ((V ++ P) ++ S) M in
      let e = size-append (V ++ P) S in
      let f = size-append (V) P in
      let i = size-line units U refl in
      let digits = few-digits (length W.units) (omega arith) in
      let j = size-line (form_words form.End [] []) [] refl in
      let k = size-nil in
      omega arith
