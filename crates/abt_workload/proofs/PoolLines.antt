-- The lines of pools are taken.
use Rattle.std.proofs.Common.{◌≡◌, ◌<◌, ◌≤◌, ℕ, List, [], ◌∷◌, ◌++◌, None, ap, arith, length, refl, replicate}
use Rattle.std.proofs.lemmas.Bool.{le-ltb, lt-leb}
use Rattle.abt_machine.specs.declared.grammar.Form.{Form}
use Rattle.abt_machine.specs.declared.grammar.Form.TheVariants as form
use Rattle.abt_machine.specs.declared.grammar.Format.{Format}
use Rattle.abt_machine.specs.declared.grammar.Format.TheVariants as format
use Rattle.abt_machine.specs.declared.operations.Access.{Access}
use Rattle.abt_machine.specs.declared.operations.Access.TheVariants as access
use Rattle.abt_machine.specs.declared.operations.Kind.{Kind}
use Rattle.abt_machine.specs.declared.operations.Kind.TheVariants as kind
use Rattle.abt_machine.specs.declared.workload.Parts.{Parts}
use Rattle.abt_machine.specs.declared.workload.PoolPart.{PoolPart}
use Rattle.abt_machine.specs.Canonical.{access_numbers, pool_line}
use Rattle.abt_machine.specs.Declaring.{Above, access_with, pool_with}
use Rattle.abt_machine.specs.Faults.{values}
use Rattle.abt_machine.specs.Forms.{kind_name, slots}
use Rattle.abt_machine.specs.Limits.{pool_limit}
use Rattle.abt_machine.specs.Valid.{IsAccess, IsValid}
use Rattle.abt_machine.specs.Words.{numbered}
use Rattle.abt_machine.proofs.Elements.{all-at}
use Rattle.abt_workload.proofs.Allowing.{Allows}
use Rattle.abt_workload.proofs.Filled.{IsWritten, blank, given, in-each, takes}
use Rattle.abt_workload.proofs.Fitting.{AreMet, IsSmall, all-fit}
use Rattle.abt_workload.proofs.Heads.{placing}
use Rattle.abt_workload.proofs.InOrder.{front-shorter, get-here, placed-among, reached, section-taken}
use Rattle.abt_workload.proofs.Taking.{Takes, TakesAll, plain-word}

-- what is declared while pools are
abbrev pub pooling : Format → ℕ → ℕ → ℕ → List PoolPart → Above
pooling F section streams keys pools = placing F section streams keys pools [] (replicate streams None) []

-- a pool's line is written of its form
written : (p : ℕ) (k : Kind) (x : Access) → IsWritten (blank (form.Pool x)) (kind_name k) (p ∷ access_numbers x) (pool_line p (record { kind = k; access = x }))
written p kind.Fifo (access.Priv s) = record { words_are = refl; form_is = refl; skipped = refl; plain = refl; chosen = λ _. plain-word (kind_name kind.Fifo) refl }
written p kind.Fifo _ = record { words_are = refl; form_is = refl; skipped = refl; plain = refl; chosen = λ _. plain-word (kind_name kind.Fifo) refl }
written p kind.Deque (access.Priv s) = record { words_are = refl; form_is = refl; skipped = refl; plain = refl; chosen = λ _. plain-word (kind_name kind.Deque) refl }
written p kind.Deque _ = record { words_are = refl; form_is = refl; skipped = refl; plain = refl; chosen = λ _. plain-word (kind_name kind.Deque) refl }

-- the numbers of a line are in order
met : (F : Format) (W : Parts) (section : ℕ) (front : List PoolPart) (x : Access) → IsAccess W.streams x
    → AreMet (pooling F section W.streams W.keys front) (given (slots (blank (form.Pool x))) (length front ∷ access_numbers x))
met F W section front access.Mpmc h = refl
met F W section front _ h = (refl, h)

-- the line says the pool
part-again : (p : ℕ) (k : Kind) (x : Access)
    → pool_with (access_with x []) (pool_line p (record { kind = k; access = x })) (values (given (slots (blank (form.Pool x))) (p ∷ access_numbers x)))
    ≡ record { kind = k; access = x }
part-again p kind.Fifo (access.Priv s) = refl
part-again p kind.Fifo _ = refl
part-again p kind.Deque (access.Priv s) = refl
part-again p kind.Deque _ = refl

-- the line of the next pool is taken
pool-taken : (F : Format) (W : Parts) → IsValid W → Allows F W → (section : ℕ) → section ≤ 4 → (front : List PoolPart) (part : PoolPart) (rest : List PoolPart) → front ++ part ∷ rest ≡ W.pools
    → Takes (pooling F section W.streams W.keys front) (pool_line (length front) part) (pooling F 4 W.streams W.keys (front ++ part ∷ []))
pool-taken F W v allows section le front part rest e =
    let a : Above = pooling F section W.streams W.keys front in
    let p : ℕ = length front in
    let f : Form = blank (form.Pool part.access) in
    let ns : List ℕ = p ∷ access_numbers part.access in
    let lt : p < length W.pools = front-shorter front part rest W.pools e in
    let few : length W.pools ≤ pool_limit F = allows.pools in
    let valid : length W.pools ≤ pool_limit format.Three = v.few_pools in
    let h : IsAccess W.streams part.access = all-at (λ (q : PoolPart). IsAccess W.streams q.access) W.pools v.pools p part (get-here front part rest W.pools e) in
    let small : IsSmall a = record { streams = v.few_streams; keys = v.few_keys; pools = omega arith; scheds = omega arith; objects = omega arith; units = omega arith } in
    takes a (pooling F 4 W.streams W.keys (front ++ part ∷ [])) f (kind_name part.kind) ns (pool_line p part)
    (written p part.kind part.access)
    (in-each F f refl)
    (all-fit a small (given (slots f) ns) (met F W section front part.access h))
    record {
      version = refl;
      placed = placed-among a f le (omega arith) refl refl;
      once = le-ltb p p (omega arith);
      beyond = refl;
      limit = lt-leb (pool_limit F) p (omega arith);
      task = refl;
      access = refl;
      early = refl;
    }
    (ap (λ (x : PoolPart). pooling F 4 W.streams W.keys (front ++ x ∷ [])) (part-again p part.kind part.access))

-- the lines of a workload's pools are taken
pub pools-taken : (F : Format) (W : Parts) → IsValid W → Allows F W → (section : ℕ) → section ≤ 4
    → TakesAll (pooling F section W.streams W.keys []) (numbered pool_line W.pools) (pooling F (reached section 4 W.pools) W.streams W.keys W.pools)
pools-taken F W v allows section le = section-taken pool_line (λ s front. pooling F s W.streams W.keys front) section 4 le W.pools (pool-taken F W v allows)
