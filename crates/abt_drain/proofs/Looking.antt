-- What streams and objects show of a run's end.
use Rattle.std.proofs.Common.{◌≡◌, ℕ, ◌<◌, ◌+◌, ◌==◌, true, false, List, [], ◌∷◌, length, map, get_or, slice_get, Option, Some, None, refl, sym, ◌∙◌, ap, subst, arith, inl, inr}
use Rattle.std.specs.Prelude.{◌↔◌}
use Rattle.std.specs.List.{All}
use Rattle.std.proofs.lemmas.Bool.{eq-eqb, ne_eqb}
use Rattle.std.proofs.lemmas.Bool.Decides.{eqb_tells}
use Rattle.std.proofs.lemmas.List.Elements.{All-contains, All-map, Contains-get_or}
use Rattle.std.proofs.lemmas.Option.{slice_get_read}
use Rattle.abt_machine.specs.declared.events.Outcome.{Outcome}
use Rattle.abt_machine.specs.declared.numbers.PoolNo.{PoolNo}
use Rattle.abt_machine.specs.declared.numbers.SchedNo.{SchedNo}
use Rattle.abt_machine.specs.declared.workload.Parts.{Parts}
use Rattle.abt_machine.specs.declared.workload.SchedPart.{SchedPart}
use Rattle.abt_machine.specs.Outcomes.{steps_in}
use Rattle.abt_machine.specs.Runs.{last_state}
use Rattle.abt_machine.specs.Turns.{due_of}
use Rattle.abt_machine.specs.Valid.{IsValid}
use Rattle.abt_machine.proofs.Declared.{listed-declared}
use Rattle.abt_machine.proofs.Elements.{map-all}
use Rattle.abt_machine.specs.Values.{Owned, Object, PoolIs}
use Rattle.abt_machine.specs.Workloads.{main_from, main_of, pools_from, pools_of}
use Rattle.abt_calls.specs.Keeps.{contents_of}
use Rattle.abt_calls.specs.Starts.{start_part}
use Rattle.abt_commons.specs.Held.{ObjectsValue, object_at}
use Rattle.abt_commons.specs.Reading.{IsPool}
use Rattle.abt_outcomes.specs.Values.{IsEmptyPool, IsIdle}
use Rattle.abt_outcomes.proofs.Outcomes.{outcome-seen}
use Rattle.abt_outcomes.proofs.Seen.{quiet-seen, spent-seen}
use Rattle.abt_stream.specs.Streams.{StreamValue}
use Rattle.abt_stream.specs.Streams as stream
use Rattle.abt_stream.specs.Turned.{IsSpent}
use Rattle.abt_drain.specs.Looks.{AreStreams, EndedWith, HasEmptyPools, IsEmptyAt, IsOutcomeOfRuns, IsQuietAt, IsQuietWith, IsSpentAt, IsStreamOf, held_from, parts_held, steps_from, steps_made}

-- One stream.

module _ (W : Parts) (streams : List StreamValue) (many : length streams ≡ W.streams) (s : ℕ) (one : StreamValue) (lt : s < W.streams) (at : one ≡ get_or streams s one) where
  here : slice_get streams s ≡ Some one
  here = slice_get_read streams W.streams s one (sym many) lt at

  part-here : parts_held W streams s ≡ one.held
  part-here = ap (held_from (start_part W s)) here

  -- it is idle
  pub idle-here : IsIdle (parts_held W streams s) ↔ (stream.IsIdle one × (one.held.own.below ≡ []))
  idle-here = (
    λ idle. (
      (subst (λ held. held.tray ≡ []) part-here idle.tray, subst (λ held. held.next ≡ None) part-here idle.next, subst (λ held. held.hand ≡ None) part-here idle.hand),
      subst (λ held. held.own.below ≡ []) part-here idle.frames,
    ),
    λ idle. subst IsIdle (sym part-here) (record { tray = idle.0.0; next = idle.0.1; hand = idle.0.2; frames = idle.1 }),
  )

  module _ (n : ℕ) (are : AreStreams W n streams) where
    pub is-here : IsStreamOf W n s one
    is-here = are.own s one here

    steps-here : steps_made streams s ≡ steps_in one.log
    steps-here = ap steps_from here

    due-here : due_of W s (parts_held W streams s) ≡ due_of W one.number.0 one.held
    due-here = (let number = is-here.number in ap (due_of W s) part-here ∙ ap (λ r. due_of W r one.held) (sym number))

    -- it is spent
    pub spent-here : IsSpentAt W n streams s ↔ IsSpent W one
    spent-here = (
      λ spent. (sym due-here ∙ spent.2, (let budget = is-here.budget in sym steps-here ∙ (spent.1 ∙ sym budget))),
      λ spent. (lt, (let budget = is-here.budget in steps-here ∙ (spent.1 ∙ budget)), due-here ∙ spent.0),
    )

-- Facts of all numbers below one.

pub one-further : (F : ℕ → Type 0) (i : ℕ) → ((k : ℕ) → k < i → F k) → F i → (k : ℕ) → k < i + 1 → F k
one-further F i before here k lt = elim (eqb_tells k i) [
  | inl same ↦ subst F (sym same.1) here
  | inr other ↦ before k (let ne = other.1 in omega (arith, lt, ne))
]

-- Pools.

nothing-in : {A : Type 0} (xs : List A) → length xs ≡ 0 → xs ≡ []
nothing-in [] none = refl
nothing-in (x ∷ xs) none = absurd (omega (arith, none))

-- a pool that has no unit
pub empty-pool : (o : Object) → IsPool o → (length (contents_of o).units == 0) ≡ true → IsEmptyPool o
empty-pool (PoolIs pool) may none = elim (eqb_tells (length pool.units) 0) [
  | inl same ↦ nothing-in pool.units same.1
  | inr other ↦ (let some = ne_eqb (length pool.units) 0 other.1 in cc)
]
empty-pool _ may none = absurd may

pub used-pool : (o : Object) → (length (contents_of o).units == 0) ≡ false → IsEmptyPool o → ⊥
used-pool (PoolIs pool) some empty = (let none : length pool.units ≡ 0 = ap (λ (us : List Owned). length us) empty in let yes : (length pool.units == 0) ≡ true = eq-eqb (length pool.units) 0 none in cc)
used-pool _ some empty = empty

module _ (W : Parts) (s : ℕ) (g : SchedNo) (part : SchedPart) (pools : List PoolNo) (main : slice_get W.mains s ≡ Some g) (sched : slice_get W.scheds g.0 ≡ Some part) (same : pools ≡ part.pools) where
  listed : pools_of W (main_of W s) ≡ map (λ (p : PoolNo). p.0) pools
  listed = ap (pools_of W) (ap main_from main) ∙ (ap pools_from sched ∙ ap (map (λ (p : PoolNo). p.0)) (sym same))

  -- the pools that the main scheduler lists are declared
  pub one-declared : IsValid W → s < W.streams → (k : ℕ) (d : PoolNo) → k < length pools → (get_or pools k d).0 < length W.pools
  one-declared valid declared =
      map-all (λ (p : PoolNo). p.0) (λ p. p < length W.pools) pools (subst (All (λ p. p < length W.pools)) listed (listed-declared W (main_of W s) valid))

  module _ (objects : ObjectsValue) where
    pub all-empty : All (λ (p : PoolNo). IsEmptyAt objects p.0) pools → HasEmptyPools W objects s
    all-empty all = subst (All (IsEmptyAt objects)) (sym listed) (All-map (IsEmptyAt objects) (λ (p : PoolNo). p.0) pools all)

    pub one-empty : HasEmptyPools W objects s → (k : ℕ) (d : PoolNo) → k < length pools → IsEmptyAt objects (get_or pools k d).0
    one-empty all = map-all (λ (p : PoolNo). p.0) (IsEmptyAt objects) pools (subst (All (IsEmptyAt objects)) listed all)

-- All streams.

pub quiet-all : (W : Parts) (streams : List StreamValue) (objects : ObjectsValue) → ((s : ℕ) → s < W.streams → IsQuietAt W streams objects s) ↔ IsQuietWith W streams objects
quiet-all W streams objects = (
  λ each. record {
    idle = λ s lt. (each s lt).0;
    pools = λ s p lt listed. All-contains (IsEmptyAt objects) (pools_of W (main_of W s)) p (each s lt).1 listed;
  },
  λ quiet s lt. (quiet.idle s lt, λ k d within. quiet.pools s (get_or (pools_of W (main_of W s)) k d) lt (Contains-get_or (pools_of W (main_of W s)) k d within)),
)

-- Runs.

pub runs-end : (W : Parts) (n : ℕ) (streams : List StreamValue) (objects : ObjectsValue) (o : Option Outcome) → IsValid W → EndedWith W n streams objects o → IsOutcomeOfRuns W n streams objects o
runs-end W n streams objects (Some o) valid ended = λ Z J stored run stand made.
    (let seen = outcome-seen W Z valid stored n J o (parts_held W streams) (object_at objects) (steps_made streams) run stand made in seen.1 ended)
runs-end W n streams objects None valid goes = λ Z J stored run stand made. (
  λ quiet. goes.busy ((quiet-seen W (last_state W J) (parts_held W streams) (object_at objects) stand).0 quiet),
  λ s spent. goes.steps s ((spent-seen W n s J (parts_held W streams) (object_at objects) (steps_made streams) stand made).0 spent),
)
