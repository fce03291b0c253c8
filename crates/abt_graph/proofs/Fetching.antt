-- How a unit goes through its operations, and the values that it keeps in its keys.
use Rattle.std.proofs.Common.{◌≡◌, ℕ, zero, suc, ◌≤◌, ◌+◌, ◌-◌, List, [], ◌∷◌, ◌++◌, Option, Some, None, length, replicate, take, slice_get, refl, sym, ◌∙◌, ap, subst, arith, append_assoc, length-append}
use Rattle.std.specs.Prelude.{◌%◌, ◌^◌, ⊤, slice_set}
use Rattle.abt_machine.specs.declared.events.Piece.TheVariants as piece
use Rattle.abt_machine.specs.declared.numbers.UnitNo.{UnitNo}
use Rattle.abt_machine.specs.declared.operations.Op.{Op}
use Rattle.abt_machine.specs.declared.operations.Op.TheVariants as op
use Rattle.abt_machine.specs.declared.workload.Parts.{Parts}
use Rattle.abt_machine.specs.Limits.{key_limit}
use Rattle.abt_machine.specs.Workloads.{body_at, op_at, ops_of}
use Rattle.abt_flow.specs.Effects.{Memory, effect, fresh, with_acc, with_key, with_number}
use Rattle.abt_flow.specs.Flow.{Becomes, Executes, Functions, Made}
use Rattle.abt_generate.proofs.Lists.{none-some, some-same}
use Rattle.abt_graph.specs.Graphs.{keys_of, returned, word_of}
use Rattle.abt_graph.specs.Workloads.{fetch_ops}
use Rattle.abt_graph.specs.declared.nodes.Node.{Node}

-- Keys.

-- keys after these values were kept, from key k on
abbrev pub kept : List ℕ → ℕ → List ℕ → List ℕ
kept keys k [] = keys
kept keys k (v ∷ vs) = kept (slice_set keys k v) (suc k) vs

set-behind : (ps : List ℕ) (x v : ℕ) (rest : List ℕ) → slice_set (ps ++ x ∷ rest) (length ps) v ≡ (ps ++ v ∷ []) ++ rest
set-behind [] x v rest = refl
set-behind (p ∷ ps) x v rest = ap (λ ys. p ∷ ys) (set-behind ps x v rest)

kept-behind : (ps : List ℕ) (k m : ℕ) (vs : List ℕ) → k ≡ length ps → length vs ≤ m → kept (ps ++ replicate m 0) k vs ≡ ps ++ (vs ++ replicate (m - length vs) 0)
kept-behind ps k m [] at few = ap (λ n. ps ++ replicate n 0) (let e : m ≡ m - 0 = omega arith in e)
kept-behind ps k zero (v ∷ vs) at few = absurd (omega arith)
kept-behind ps k (suc m) (v ∷ vs) at few =
    let set : slice_set (ps ++ 0 ∷ replicate m 0) k v ≡ (ps ++ v ∷ []) ++ replicate m 0 = ap (λ j. slice_set (ps ++ 0 ∷ replicate m 0) j v) at ∙ set-behind ps 0 v (replicate m 0) in
    let long : length (ps ++ v ∷ []) ≡ length ps + 1 = length-append ps (v ∷ []) in
    let left : m - length vs ≡ suc m - suc (length vs) = omega arith in
    ap (λ keys. kept keys (suc k) vs) set ∙ (kept-behind (ps ++ v ∷ []) (suc k) m vs (omega arith) (omega arith) ∙
    (append_assoc ps (v ∷ []) (vs ++ replicate (m - length vs) 0) ∙ ap (λ n. ps ++ (v ∷ (vs ++ replicate n 0))) left))

-- of keys that are zero
pub keys-kept : (vs : List ℕ) → length vs ≤ key_limit → kept (replicate key_limit 0) 0 vs ≡ keys_of vs
keys-kept vs few = kept-behind [] 0 key_limit vs refl few

-- Operations one after the other, from the first on.

take-next : {A : Type 0} (xs : List A) (k : ℕ) (x : A) → slice_get xs k ≡ Some x → take (suc k) xs ≡ take k xs ++ x ∷ []
take-next [] k x is = absurd (none-some is)
take-next (y ∷ xs) zero x is = ap (λ z. z ∷ []) (some-same is)
take-next (y ∷ xs) (suc k) x is = ap (λ zs. y ∷ zs) (take-next xs k x is)

-- these are values of these eventuals
abbrev pub AreFound : (ℕ → ℕ → Type 0) → List UnitNo → List ℕ → Type 0
AreFound Found [] [] = ⊤
AreFound Found [] (v ∷ vs) = ⊥
AreFound Found (x ∷ after) [] = ⊥
AreFound Found (x ∷ after) (v ∷ vs) = Found x.0 v × AreFound Found after vs

pub length-found : (Found : ℕ → ℕ → Type 0) (after : List UnitNo) (vs : List ℕ) → AreFound Found after vs → length vs ≡ length after
length-found Found [] [] are = refl
length-found Found [] (v ∷ vs) are = absurd are
length-found Found (x ∷ after) [] are = absurd are
length-found Found (x ∷ after) (v ∷ vs) are = ap (λ n. suc n) (length-found Found after vs are.1)

-- a memory that has put out its word alone
abbrev pub word_set : ℕ → List ℕ → Memory
word_set w keys = record { acc = w; keys = keys; output = piece.Number w ∷ [] }

module _ (R : Functions) (u : ℕ) (Found : ℕ → ℕ → Type 0) where
  abbrev pub Passes : List Op → Memory → Memory → Type 0
  Passes [] old new = new ≡ old
  Passes (o ∷ os) old new = (mid : Memory) × Becomes R u Found (effect o) old mid × Passes os mid new

  passes-push : (os : List Op) (o : Op) (old mid new : Memory) → Passes os old mid → Becomes R u Found (effect o) mid new → Passes (os ++ o ∷ []) old new
  passes-push [] o old mid new is leads = (new, subst (λ m. Becomes R u Found (effect o) m new) is leads, refl)
  passes-push (p ∷ os) o old mid new is leads = (is.0, is.1, passes-push os o is.0 mid new is.2 leads)

  does-some : (o : Option Op) (old new : Memory) → Executes R u Found o old new → (p : Op) × (o ≡ Some p) × Becomes R u Found (effect p) old new
  does-some None old new is = absurd is
  does-some (Some p) old new is = (p, refl, is)

  pub made-passes : (W : Parts) (k : ℕ) (m : Memory) → Made W R Found u k m → Passes (take k (ops_of (body_at W u))) (fresh W) m
  made-passes W zero m is = is
  made-passes W (suc k) m is =
      let next = does-some (op_at W u k) is.0 m is.2 in
      subst (λ os. Passes os (fresh W) m) (sym (take-next (ops_of (body_at W u)) k next.0 next.1))
      (passes-push (take k (ops_of (body_at W u))) next.0 (fresh W) is.0 m (made-passes W k is.0 is.1) next.2)

  -- a unit that keeps values has them in its keys
  passes-fetch : (k : ℕ) (after : List UnitNo) (rest : List Op) (old new : Memory) → Passes (fetch_ops k after ++ rest) old new →
      (vs : List ℕ) × (a : ℕ) × AreFound Found after vs × Passes rest (record { acc = a; keys = kept old.keys k vs; output = old.output }) new
  passes-fetch k [] rest old new is = ([], old.acc, tt, is)
  passes-fetch k (x ∷ after) rest old new is =
      let n : ℕ = is.1.0 in
      let mid : Memory = record { acc = n; keys = slice_set old.keys k n; output = old.output } in
      let same : is.2.0 ≡ mid = is.2.1 ∙ ap (with_key k) is.1.2 in
      let there = passes-fetch (suc k) after rest mid new (subst (λ (m : Memory). Passes (fetch_ops (suc k) after ++ rest) m new) same is.2.2) in
      (n ∷ there.0, there.1, (is.1.1, there.2), there.3)

  -- then it calls its function and puts out what that returns
  passes-call : (c f : ℕ) (rest : List Op) (old new : Memory) → Passes (op.Set c ∷ op.Call f ∷ op.Print ∷ rest) old new →
      Passes rest (with_number (with_acc (word_of (R f u c old.keys)) old)) new
  passes-call c f rest old new is =
      let counted : is.0 ≡ with_acc c old = is.1 in
      let called = is.2.1 in
      let word : called.0 % 2 ^ 64 ≡ word_of (R f u c old.keys) = sym (ap word_of (ap (λ (m : Memory). R f u m.acc m.keys) (sym counted) ∙ called.1)) in
      let mid : is.2.0 ≡ with_acc (word_of (R f u c old.keys)) old = called.2 ∙ (ap (λ (m : Memory). with_acc (called.0 % 2 ^ 64) m) counted ∙ ap (λ w. with_acc w old) word) in
      let printed : is.2.2.0 ≡ with_number (with_acc (word_of (R f u c old.keys)) old) = is.2.2.1 ∙ ap with_number mid in
      subst (λ (m : Memory). Passes rest m new) printed is.2.2.2

  -- a node, from its beginning
  pub passes-node : (node : Node) (rest : List Op) (new : Memory) → length node.after ≤ key_limit → Passes (fetch_ops 0 node.after ++ op.Set (length node.after) ∷ op.Call node.function ∷ op.Print ∷ rest) (record { acc = 0; keys = replicate key_limit 0; output = [] }) new →
      (vs : List ℕ) × AreFound Found node.after vs × Passes rest (word_set (returned R node.function u vs) (keys_of vs)) new
  passes-node node rest new few is =
      let start : Memory = record { acc = 0; keys = replicate key_limit 0; output = [] } in
      let fetched = passes-fetch 0 node.after (op.Set (length node.after) ∷ op.Call node.function ∷ op.Print ∷ rest) start new is in
      let vs : List ℕ = fetched.0 in
      let count : length vs ≡ length node.after = length-found Found node.after vs fetched.2 in
      let keys : kept (replicate key_limit 0) 0 vs ≡ keys_of vs = keys-kept vs (omega arith) in
      let called = passes-call (length node.after) node.function rest (record { acc = fetched.1; keys = kept (replicate key_limit 0) 0 vs; output = [] }) new fetched.3 in
      (vs, fetched.2, subst (λ n. Passes rest (word_set (word_of (R node.function u n (keys_of vs))) (keys_of vs)) new) (sym count) (subst (λ ks. Passes rest (word_set (word_of (R node.function u (length node.after) ks)) ks) new) keys called))
