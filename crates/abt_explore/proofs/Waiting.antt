-- An event that waits may come before what other streams do.
use Rattle.std.proofs.Common.{◌≡◌, ◌<◌, ◌+◌, ◌-◌, ◌⊎◌, ◌∙◌, ℕ, suc, List, [], ◌∷◌, ◌++◌, length, length-append, Option, Some, None, ap, arith, inl, inr, refl, subst, sym}
use Rattle.std.proofs.lemmas.Bool.{cases_eq}
use Rattle.abt_machine.specs.declared.events.Event.{Event}
use Rattle.abt_machine.specs.declared.events.Place.TheVariants as place
use Rattle.abt_machine.specs.declared.events.What.{What}
use Rattle.abt_machine.specs.declared.events.What.TheVariants as what
use Rattle.abt_machine.specs.declared.numbers.PoolNo.{PoolNo}
use Rattle.abt_machine.specs.Stored.{Returns, Stored}
use Rattle.abt_machine.specs.declared.workload.Parts.{Parts}
use Rattle.abt_machine.specs.Codes.{code_at}
use Rattle.abt_machine.specs.Numbers.{stream_no, unit_no}
use Rattle.abt_machine.specs.Queues.{first}
use Rattle.abt_machine.specs.Rounds.{IsNextPool}
use Rattle.abt_machine.specs.Sound.{Sound}
use Rattle.abt_machine.specs.Valid.{IsValid}
use Rattle.abt_machine.specs.Workloads.{op_at}
use Rattle.abt_machine.specs.Events.{May, after}
use Rattle.abt_machine.specs.Fronts.{front}
use Rattle.abt_machine.specs.Lines.{InTray, hand}
use Rattle.abt_machine.specs.Next.{RoundDue, due}
use Rattle.abt_machine.specs.Runs.{RunFrom, state_after}
use Rattle.abt_machine.specs.State.{Carried, State, Stream}
use Rattle.abt_bounds.specs.Laws.{returned, visited}
use Rattle.abt_bounds.proofs.Choosing.{one-at-each-pool}
use Rattle.abt_laws.specs.Footprint.{Within, holder}
use Rattle.abt_laws.proofs.Alike.{IsAlike, caller-alike, due-alike, hand-alike, next-alike, standing-alike}
use Rattle.abt_laws.proofs.Keeping.{IsKept, first-kept}
use Rattle.abt_laws.proofs.RunParts.{run-front, run-join, run-rest, state_after-append}
use Rattle.abt_explore.specs.Alone.{IsAlone, IsWithout, Waits}
use Rattle.abt_explore.proofs.AlikeRuns.{alike-alone}

-- Events of one kind.

-- an event of the stream that visits the same pool and returns the same word, if any, may come in state S
abbrev HasBefore : Parts → Stored → State → ℕ → What → Type 0
HasBefore W Z S s v = (w : What) × May W Z S s w × (visited w ≡ visited v) × (returned w ≡ returned v)

module _ (W : Parts) (Z : Stored) (S T : State) (s : ℕ) (alike : IsAlike W s None S T) where
  due-before : due W S s ≡ due W T s
  due-before = due-alike W s None S T alike

  hand-before : hand W S s ≡ hand W T s
  hand-before = hand-alike W s None S T alike

  carried-before : (u : ℕ) → hand W T s ≡ Some u → S.carried u ≡ T.carried u
  carried-before u e = caller-alike W s None S T alike u (hand-before ∙ e)

  -- a round visits the same pools
  visit-before : (p : ℕ) → IsNextPool W Z.orders (T.stream s).top p → IsNextPool W Z.orders (S.stream s).top p
  visit-before p is = subst (λ (own : Stream). IsNextPool W Z.orders own.top p) (sym alike.stream) is

  round-before : (p : PoolNo) (o : Option ℕ) → front W S s p.0 ≡ o → due W T s ≡ RoundDue → IsNextPool W Z.orders (T.stream s).top p.0 → HasBefore W Z S s (what.Miss p)
  round-before p None is round next = (what.Miss p, (due-before ∙ round, is, visit-before p.0 next), refl, refl)
  round-before p (Some u) is round next = (what.Take p (unit_no u), (due-before ∙ round, is, visit-before p.0 next), refl, refl)

  -- if the stream holds the same, each of its events has one of its kind that may come before
  pub has-before : (v : What) → May W Z T s v → HasBefore W Z S s v
  has-before (what.Miss p) may = round-before p (front W S s p.0) refl may.0 may.2
  has-before (what.Take p u) may = round-before p (front W S s p.0) refl may.0 may.2
  has-before (what.Look u) may = (what.Look u, (due-before ∙ may.0, next-alike W s None S T alike ∙ may.1), refl, refl)
  has-before (what.Step u k c) may = (
    what.Step u k (code_at W S s u.0 (op_at W u.0 k)),
    (due-before ∙ may.0, hand-before ∙ may.1, ap (λ (c : Carried). c.position) (carried-before u.0 may.1) ∙ may.2, refl, may.4),
    refl,
    refl,
  )
  has-before (what.Call u k n) may =
      let same : S.carried u.0 ≡ T.carried u.0 = carried-before u.0 may.1 in (
        what.Call u k n,
        (due-before ∙ may.0, hand-before ∙ may.1, ap (λ (c : Carried). c.position) same ∙ may.2, subst (λ c. Returns Z (op_at W u.0 k) u.0 c n) (sym same) may.3),
        refl,
        refl,
      )
  has-before (what.Put u p) may =
      let kept : IsKept W T s None u.0 = first-kept W T s None (InTray s) u.0 refl may.1 in (
        what.Put u p,
        (due-before ∙ may.0, ap first (standing-alike W s None S T alike (InTray s) refl) ∙ may.1, ap (λ (c : Carried). c.home) (alike.units u.0 (inr kept)).1 ∙ may.2),
        refl,
        refl,
      )
  has-before (what.End u c) may = (what.End u c, (due-before ∙ may.0, hand-before ∙ may.1), refl, refl)
  has-before (what.Enter u) may = (what.Enter u, (due-before ∙ may.0, hand-before ∙ may.1), refl, refl)
  has-before (what.Leave u) may =
      let kept : IsKept W T s None u.0 = subst (λ pl. Within s None (holder W u.0 pl)) (sym may.1) refl in (
        what.Leave u,
        (due-before ∙ may.0, (alike.units u.0 (inr kept)).0 ∙ (may.1 ∙ ap (λ (own : Stream). place.Frame (stream_no s) (length own.below - 1)) (sym alike.stream))),
        refl,
        refl,
      )

-- The event waits.

module _ (W : Parts) (Z : Stored) (s : ℕ) (w : What) where
  -- it waits after an event of another stream
  waits-later : (S : State) (f : Event) → f.stream.0 < W.streams → (f.stream.0 ≡ s → ⊥) → May W Z S f.stream.0 f.what → Waits W Z S s w → Waits W Z (after W S f.stream.0 f.what) s w
  waits-later S f declared other may waits = record {
    stays = λ K without run. waits.stays (f ∷ K) (other, without) (declared, may, run);
    swaps = λ K r v without run there ne later. waits.swaps (f ∷ K) r v (other, without) (declared, may, run) there ne later;
  }

  -- if it comes first, they may follow, with the same state after all
  pub record ComesFirst (S : State) (K : List Event) : Type 0 where
    pub run : RunFrom W Z (after W S s w) K
    pub same : state_after W (after W S s w) K ≡ after W (state_after W S K) s w

  pub comes-first : (S : State) (K : List Event) → Waits W Z S s w → IsWithout s K → RunFrom W Z S K → ComesFirst S K
  comes-first S [] waits without run = record { run = tt; same = refl }
  comes-first S (f ∷ fs) waits without run =
      let T : State = after W S f.stream.0 f.what in
      let swap = waits.swaps [] f.stream.0 f.what tt tt run.0 without.0 run.1 in
      let same : after W T s w ≡ after W (after W S s w) f.stream.0 f.what = sym swap.same in
      let rest : ComesFirst T fs = comes-first T fs (waits-later S f run.0 without.0 run.1 waits) without.1 run.2 in
      record {
        run = (run.0, swap.may, subst (λ (R : State). RunFrom W Z R fs) same rest.run);
        same = ap (λ (R : State). state_after W R fs) (sym same) ∙ rest.same;
      }

-- The first event of a stream.

pub record FirstOf (s : ℕ) (K : List Event) : Type 0 where
  pub front : List Event
  pub event : Event
  pub back : List Event
  pub is : K ≡ front ++ event ∷ back
  pub own : event.stream.0 ≡ s
  pub without : IsWithout s front

first-behind : (s : ℕ) (e : Event) (es : List Event) → (e.stream.0 ≡ s → ⊥) → FirstOf s es ⊎ IsWithout s es → FirstOf s (e ∷ es) ⊎ IsWithout s (e ∷ es)
first-behind s e es other (inl f) = inl (record { front = e ∷ f.front; event = f.event; back = f.back; is = ap (λ (xs : List Event). e ∷ xs) f.is; own = f.own; without = (other, f.without) })
first-behind s e es other (inr without) = inr (other, without)

pub first-of : (s : ℕ) (K : List Event) → FirstOf s K ⊎ IsWithout s K
first-of s [] = inr tt
first-of s (e ∷ es) = elim (cases_eq e.stream.0 s) [
  | inl own ↦ inl (record { front = []; event = e; back = es; is = refl; own = own; without = tt })
  | inr other ↦ first-behind s e es other (first-of s es)
]

-- Runs.

-- a run from after the event to the same state, with one event fewer
pub record IsShortened (W : Parts) (Z : Stored) (S : State) (s : ℕ) (w : What) (K : List Event) : Type 0 where
  pub rest : List Event
  pub shorter : suc (length rest) ≡ length K
  pub run : RunFrom W Z (after W S s w) rest
  pub same : state_after W (after W S s w) rest ≡ state_after W S K

module _ (W : Parts) (valid : IsValid W) (Z : Stored) (S : State) (sounds : (K : List Event) → RunFrom W Z S K → Sound W Z (state_after W S K)) (s : ℕ) (w : What) (alone : IsAlone W Z S s w) where
  -- what the stream does first is the event
  first-is : (K : List Event) (v : What) → IsWithout s K → RunFrom W Z S K → May W Z (state_after W S K) s v → v ≡ w
  first-is K v without run other =
      let before = has-before W Z S (state_after W S K) s (alike-alone W valid Z s S K without run) v other in
      let same : before.0 ≡ w = alone.only before.0 before.1 in
      sym (one-at-each-pool W Z (state_after W S K) s w v (sounds K run) (alone.waits.stays K without run) other (ap visited (sym same) ∙ before.2) (ap returned (sym same) ∙ before.3))

  shortened-by : (front back : List Event) (v : What) → IsWithout s front → RunFrom W Z S front → May W Z (state_after W S front) s v → RunFrom W Z (after W (state_after W S front) s v) back
      → ComesFirst W Z s w S front
      → RunFrom W Z (after W S s w) (front ++ back) × (state_after W (after W S s w) (front ++ back) ≡ state_after W (after W (state_after W S front) s v) back)
  shortened-by front back v without run other behind first =
      let same : after W (state_after W S front) s v ≡ state_after W (after W S s w) front = ap (after W (state_after W S front) s) (first-is front v without run other) ∙ sym first.same in (
        run-join W Z (after W S s w) front back first.run (subst (λ (R : State). RunFrom W Z R back) same behind),
        state_after-append W (after W S s w) front back ∙ ap (λ (R : State). state_after W R back) (sym same),
      )

  pub shortened : (K : List Event) → RunFrom W Z S K → FirstOf s K → IsShortened W Z S s w K
  shortened K run f =
      let whole : RunFrom W Z S (f.front ++ f.event ∷ f.back) = subst (RunFrom W Z S) f.is run in
      let before : RunFrom W Z S f.front = run-front W Z S f.front (f.event ∷ f.back) whole in
      let behind : RunFrom W Z (state_after W S f.front) (f.event ∷ f.back) = run-rest W Z S f.front (f.event ∷ f.back) whole in
      let other : May W Z (state_after W S f.front) s f.event.what = subst (λ r. May W Z (state_after W S f.front) r f.event.what) f.own behind.1 in
      let later : RunFrom W Z (after W (state_after W S f.front) s f.event.what) f.back = subst (λ r. RunFrom W Z (after W (state_after W S f.front) r f.event.what) f.back) f.own behind.2 in
      let both = shortened-by f.front f.back f.event.what f.without before other later (comes-first W Z s w S f.front alone.waits f.without before) in
      record {
        rest = f.front ++ f.back;
        shorter =
            let many : length K ≡ length f.front + length (f.event ∷ f.back) = ap length f.is ∙ length-append f.front (f.event ∷ f.back) in
            let few : length (f.front ++ f.back) ≡ length f.front + length f.back = length-append f.front f.back in
            omega arith;
        run = both.0;
        same = both.1 ∙ (ap (λ r. state_after W (after W (state_after W S f.front) r f.event.what) f.back) (sym f.own)
            ∙ (sym (state_after-append W S f.front (f.event ∷ f.back)) ∙ ap (state_after W S) (sym f.is)));
      }
