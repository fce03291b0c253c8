-- The lines of schedulers are taken.
use Rattle.std.proofs.Common.{◌≡◌, ◌≢◌, ◌<◌, ◌≤◌, ◌^◌, ◌-◌, ◌∙◌, ◌==◌, ℕ, suc, All, false, List, [], ◌∷◌, ◌++◌, None, ap, arith, length, map, nat_le, nat_lt, refl, replicate, sym}
use Rattle.std.specs.List.{AllPairs, list_any}
use Rattle.std.proofs.lemmas.Bool.{le-ltb, lt-leb, ne_eqb}
use Rattle.std.proofs.lemmas.List.{length-map}
use Rattle.std.proofs.lemmas.List.Folds.{list_any_none}
use Rattle.std.proofs.lemmas.List.Elements.{All-head, All-map, All-tail}
use Rattle.abt_machine.specs.declared.grammar.Form.{Form}
use Rattle.abt_machine.specs.declared.grammar.Form.TheVariants as form
use Rattle.abt_machine.specs.declared.grammar.Format.{Format}
use Rattle.abt_machine.specs.declared.grammar.Format.TheVariants as format
use Rattle.abt_machine.specs.declared.grammar.Number.TheVariants as number
use Rattle.abt_machine.specs.declared.numbers.PoolNo.{PoolNo}
use Rattle.abt_machine.specs.declared.operations.Rule.{Rule}
use Rattle.abt_machine.specs.declared.operations.Rule.TheVariants as rule
use Rattle.abt_machine.specs.declared.workload.Parts.{Parts}
use Rattle.abt_machine.specs.declared.workload.PoolPart.{PoolPart}
use Rattle.abt_machine.specs.declared.workload.SchedPart.{SchedPart}
use Rattle.abt_machine.specs.Canonical.{sched_line, rule_numbers}
use Rattle.abt_machine.specs.Declaring.{Above, listed, rule_with, sched_with}
use Rattle.abt_machine.specs.Faults.{has_repeated, values}
use Rattle.abt_machine.specs.Forms.{rule_slots, slots}
use Rattle.abt_machine.specs.Limits.{listed_limit, sched_limit}
use Rattle.abt_machine.specs.Numbers.{pool_no}
use Rattle.abt_machine.specs.Valid.{IsRule, IsSched, IsValid}
use Rattle.abt_machine.specs.Words.{numbered}
use Rattle.abt_machine.proofs.Elements.{all-at, pairs-map}
use Rattle.abt_workload.proofs.Allowing.{Allows}
use Rattle.abt_workload.proofs.Filled.{IsWritten, as_pools, blank, given, in-each, takes}
use Rattle.abt_workload.proofs.Fitting.{AreFit, IsSmall, fit, fit-within}
use Rattle.abt_workload.proofs.Heads.{placing}
use Rattle.abt_workload.proofs.InOrder.{front-shorter, get-here, placed-among, reached, section-taken}
use Rattle.abt_workload.proofs.Places.{or-both}
use Rattle.abt_workload.proofs.Taking.{Takes, TakesAll}

-- the pools that a scheduler lists
abbrev pools_in : List PoolNo → List ℕ
pools_in = map (λ (p : PoolNo). p.0)

-- the numbers of a line
abbrev numbers_in : ℕ → Rule → List ℕ → List ℕ
numbers_in g r ps = g ∷ rule_numbers r ++ ps

-- what is declared while schedulers are
abbrev pub scheduling : Format → ℕ → ℕ → ℕ → List PoolPart → List SchedPart → Above
scheduling F section streams keys pools scheds = placing F section streams keys pools scheds (replicate streams None) []

-- What a line says.

-- a line's numbers end with its pools
listed-again : (g : ℕ) (r : Rule) (ps : List ℕ) → listed (rule_with r []) (numbers_in g r ps) ≡ ps
listed-again g rule.Basic ps = refl
listed-again g _ ps = refl

-- pools are those of their numbers
pools-again : (ps : List PoolNo) → map pool_no (pools_in ps) ≡ ps
pools-again [] = refl
pools-again (p ∷ ps) = ap (λ (qs : List PoolNo). p ∷ qs) (pools-again ps)

-- the numbers and the form say the scheduler
part-again : (g : ℕ) (r : Rule) (ps : List PoolNo) → sched_with (rule_with r []) (numbers_in g r (pools_in ps)) ≡ record { rule = r; pools = ps }
part-again g rule.Basic ps = ap (λ (qs : List PoolNo). record { rule = rule.Basic; pools = qs }) (pools-again ps)
part-again g r ps = ap (λ (qs : List PoolNo). record { rule = r; pools = qs }) (pools-again ps)

-- a scheduler's line, which lists a pool, is written of its form
written : (g : ℕ) (r : Rule) (ps : List PoolNo) → 0 < length ps
    → IsWritten (blank (form.Sched r)) [] (numbers_in g r (pools_in ps)) (sched_line g (record { rule = r; pools = ps }))
written g r [] some = absurd (omega arith)
written g rule.Basic (p ∷ ps) some = record { words_are = refl; form_is = refl; skipped = refl; plain = refl; chosen = λ e. cc }
written g _ (p ∷ ps) some = record { words_are = refl; form_is = refl; skipped = refl; plain = refl; chosen = λ e. cc }

-- The numbers of a line.

-- pools are read as they were written
pools-read : (ps : List ℕ) → values (as_pools ps) ≡ ps
pools-read [] = refl
pools-read (p ∷ ps) = ap (λ (ms : List ℕ). p ∷ ms) (pools-read ps)

-- and so are all numbers of a line
numbers-read : (g : ℕ) (r : Rule) (ps : List ℕ) → values (given (slots (blank (form.Sched r))) (numbers_in g r ps)) ≡ numbers_in g r ps
numbers-read g rule.Basic ps = ap (λ (ms : List ℕ). g ∷ ms) (pools-read ps)
numbers-read g rule.Prio ps = ap (λ (ms : List ℕ). g ∷ ms) (pools-read ps)
numbers-read g (rule.Randws seed) ps = ap (λ (ms : List ℕ). g ∷ seed ∷ ms) (pools-read ps)
numbers-read g (rule.User k) ps = ap (λ (ms : List ℕ). g ∷ k ∷ ms) (pools-read ps)

module _ (a : Above) (small : IsSmall a) where
  -- declared pools may stand in a line
  pools-fit : (ps : List ℕ) → All (λ p. p < length a.pools) ps → AreFit a (as_pools ps)
  pools-fit [] h = tt
  pools-fit (p ∷ ps) h = (fit a small number.Pool p (All-head (λ q. q < length a.pools) p ps h), pools-fit ps (All-tail (λ q. q < length a.pools) p ps h))

  -- so may a rule's number before them
  rule-fit : (r : Rule) (ps : List ℕ) → IsRule r → All (λ p. p < length a.pools) ps → AreFit a (given (rule_slots (rule_with r [])) (rule_numbers r ++ ps))
  rule-fit (rule.Randws seed) ps h there = (fit-within a 0 (2 ^ 64 - 1) seed (omega arith) (omega arith) h, pools-fit ps there)
  rule-fit (rule.User k) ps h there = (fit-within a 0 1 k (omega arith) (omega arith) (omega arith), pools-fit ps there)
  rule-fit _ ps h there = pools-fit ps there

-- of numbers that differ none stands twice
none-repeated : (ns : List ℕ) → AllPairs (λ x y. x ≢ y) ns → has_repeated ns ≡ false
none-repeated [] h = refl
none-repeated (n ∷ ns) h =
    or-both (list_any (λ m. m == n) ns) _
    (list_any_none (λ m. m == n) ns (λ k d lt. ne_eqb _ n (λ e. h 0 (suc k) d (omega arith) (omega arith) (sym e))))
    (none-repeated ns (λ i j d lt within. h (suc i) (suc j) d (omega arith) (omega arith)))

-- Lines.

-- the line of the next scheduler is taken
sched-taken : (F : Format) (W : Parts) → IsValid W → Allows F W → (section : ℕ) → section ≤ 5 → (front : List SchedPart) (part : SchedPart) (rest : List SchedPart) → front ++ part ∷ rest ≡ W.scheds
    → Takes (scheduling F section W.streams W.keys W.pools front) (sched_line (length front) part) (scheduling F 5 W.streams W.keys W.pools (front ++ part ∷ []))
sched-taken F W v allows section le front part rest e =
    let a : Above = scheduling F section W.streams W.keys W.pools front in
    let g : ℕ = length front in
    let f : Form = blank (form.Sched part.rule) in
    let ps : List ℕ = pools_in part.pools in
    let lt : g < length W.scheds = front-shorter front part rest W.scheds e in
    let few : length W.scheds ≤ sched_limit F = allows.scheds in
    let valid : length W.scheds ≤ sched_limit format.Three = v.few_scheds in
    let h : IsSched (length W.pools) part = all-at (IsSched (length W.pools)) W.scheds v.scheds g part (get-here front part rest W.scheds e) in
    let there : All (λ p. p < length W.pools) ps = All-map (λ p. p < length W.pools) (λ (p : PoolNo). p.0) part.pools h.listed in
    let small : IsSmall a = record { streams = v.few_streams; keys = v.few_keys; pools = v.few_pools; scheds = omega arith; objects = omega arith; units = omega arith } in
    let read : values (given (slots f) (numbers_in g part.rule ps)) ≡ numbers_in g part.rule ps = numbers-read g part.rule ps in
    let pools : listed (rule_with part.rule []) (values (given (slots f) (numbers_in g part.rule ps))) ≡ ps =
    ap (listed (rule_with part.rule [])) read ∙ listed-again g part.rule ps in
    let few_listed : length ps ≤ listed_limit = let most = h.few_pools in rw length-map most in
    takes a (scheduling F 5 W.streams W.keys W.pools (front ++ part ∷ [])) f [] (numbers_in g part.rule ps) (sched_line g part)
    (written g part.rule part.pools h.some_pool)
    (in-each F f refl)
    (fit a small number.NewSched g refl, rule-fit a small part.rule ps h.rule there)
    record {
      version = refl;
      placed = placed-among a f le (omega arith) refl refl;
      once = or-both (nat_lt g g) _ (le-ltb g g (omega arith)) (ap has_repeated pools ∙ none-repeated ps (pairs-map part.pools h.once));
      beyond = refl;
      limit = or-both (nat_le (sched_limit F) g) _ (lt-leb (sched_limit F) g (omega arith)) (ap (λ (ns : List ℕ). nat_lt listed_limit (length ns)) pools ∙ le-ltb listed_limit (length ps) few_listed);
      task = refl;
      access = refl;
      early = refl;
    }
    (ap (λ (x : SchedPart). scheduling F 5 W.streams W.keys W.pools (front ++ x ∷ []))
    (ap (sched_with (rule_with part.rule [])) read ∙ part-again g part.rule part.pools))

-- the lines of a workload's schedulers are taken
pub scheds-taken : (F : Format) (W : Parts) → IsValid W → Allows F W → (section : ℕ) → section ≤ 5
    → TakesAll (scheduling F section W.streams W.keys W.pools []) (numbered sched_line W.scheds) (scheduling F (reached section 5 W.scheds) W.streams W.keys W.pools W.scheds)
scheds-taken F W v allows section le = section-taken sched_line (λ s front. scheduling F s W.streams W.keys W.pools front) section 5 le W.scheds (sched-taken F W v allows)
