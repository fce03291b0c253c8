-- How large runs are.
use Rattle.std.proofs.Common.{◌≡◌, ℕ, ◌<◌, ◌≤◌, ◌+◌, ◌*◌, Bool, true, false, List, [], ◌∷◌, length, Option, Some, None, refl, sym, arith}
use Rattle.std.specs.Prelude.{◌&&◌, is_some, not}
use Rattle.std.proofs.lemmas.List.Sums.{sum_by-cons}
use Rattle.abt_machine.specs.declared.events.Code.{Code}
use Rattle.abt_machine.specs.declared.events.Code.TheVariants as code
use Rattle.abt_machine.specs.declared.events.Event.{Event}
use Rattle.abt_machine.specs.declared.events.What.{What}
use Rattle.abt_machine.specs.declared.events.What.TheVariants as what
use Rattle.abt_machine.specs.declared.operations.Op.{Op}
use Rattle.abt_machine.specs.declared.workload.Parts.{Parts}
use Rattle.abt_machine.specs.declared.events.Place.TheVariants as place
use Rattle.abt_machine.specs.Carrying.{refused, with_acc}
use Rattle.abt_machine.specs.Changes.{changed, no_change}
use Rattle.abt_machine.specs.Codes.{code_at}
use Rattle.abt_machine.specs.Events.{May, after}
use Rattle.abt_machine.specs.Next.{StepDue}
use Rattle.abt_machine.specs.Numbers.{stream_no}
use Rattle.abt_machine.specs.Operations.{nature_of}
use Rattle.abt_machine.specs.Outcomes.{is_step, steps_in}
use Rattle.abt_machine.specs.Rounds.{OrdersStored}
use Rattle.abt_machine.specs.Runs.{RunFrom}
use Rattle.abt_machine.specs.Sound.{Sound}
use Rattle.abt_machine.specs.Start.{start, start_place}
use Rattle.abt_machine.specs.State.{Mark, State}
use Rattle.abt_machine.specs.Steps.{step_row}
use Rattle.abt_machine.specs.Stored.{Stored}
use Rattle.abt_machine.specs.Valid.{IsValid}
use Rattle.abt_machine.specs.Workloads.{body_at, op_at, start_of}
use Rattle.abt_laws.proofs.Dues.{due-unit, step-due}
use Rattle.abt_laws.proofs.SoundRuns.{events-keep-sound, runs-are-sound}
use Rattle.abt_laws.proofs.Standing.{hand-place}
use Rattle.abt_laws.proofs.Sums.{sum_up, sum_up-plus, sum_up-rises, sum_up-times}
use Rattle.abt_bounds.specs.Laws.{ops_in}
use Rattle.abt_bounds.proofs.Budgets.{steps-are-few}
use Rattle.abt_bounds.proofs.Counting.{one_if}
use Rattle.abt_sizes.specs.Laws.{EventsAreFew, RunsAreBounded, RunsAreSmall, begins_by, begins_life, begins_sched, begins_sched_by, events_in, is_miss, is_sched_birth, lives_begun, scheds_begun, scheds_started, started}
use Rattle.abt_sizes.proofs.Falling.{end-falls, enter-falls, leave-falls, look-falls, miss-keeps, put-falls, take-falls}
use Rattle.abt_sizes.proofs.Rows.{call-small, op-small, refused-small}
use Rattle.abt_sizes.proofs.Sizes.{extra, extra-twice, marks_of, place_size, sched_at, state_size, unit_size}

-- Events.

-- 1 for an event that is no miss
abbrev counted : What → ℕ
counted w = one_if (not (is_miss w))

-- what a step gives, and more with a birth
abbrev allowed : Parts → What → ℕ
allowed W w = 4 * one_if (is_step w) + one_if (begins_life W w) + 2 * one_if (begins_sched W w)

module _ (W : Parts) (Z : Stored) (S : State) (s : ℕ) (sound : Sound W Z S) where
  module _ (u : ℕ) (program : sched_at W u ≡ false) (held : S.place u ≡ place.Hand (stream_no s)) where
    step-small : (o : Option Op) (d : Code) → d ≡ code_at W S s u o → state_size W (changed S (step_row W S s u o d)) ≤ state_size W S + 3 + (one_if (begins_by o d) + 2 * one_if (begins_sched_by W o d))
    step-small None d e = omega arith
    step-small (Some o) code.Ok e = op-small W S s u program held Z sound o (sym e)
    step-small (Some o) d e = refused-given d (refused-small W S s u program held d) where
      refused-given : (d : Code) → state_size W (changed S (record no_change { carried = (u, refused d (S.carried u)) ∷ [] })) ≤ state_size W S + 3 →
          state_size W (changed S (record no_change { carried = (u, refused d (S.carried u)) ∷ [] })) ≤ state_size W S + 3 + (one_if false + 2 * one_if false)
      refused-given d l = omega arith

  event-small : (w : What) → May W Z S s w → counted w + state_size W (after W S s w) ≤ state_size W S + allowed W w
  event-small (what.Miss p) may = let kept : state_size W (after W S s (what.Miss p)) ≤ state_size W S = miss-keeps W S s p in omega arith
  event-small (what.Take p u) may = let less : state_size W (after W S s (what.Take p u)) < state_size W S = take-falls W S s p u may.1 in omega arith
  event-small (what.Look u) may = let less : state_size W (after W S s (what.Look u)) < state_size W S = look-falls W Z S s u sound may.1 in omega arith
  event-small (what.Step u k c) may =
      let program : sched_at W u.0 ≡ false = (step-due W s (S.stream s).mark (body_at W u.0) (S.carried u.0).position (due-unit W S s StepDue u.0 may.0 tt may.1)).0 in
      let small : state_size W (after W S s (what.Step u k c)) ≤ state_size W S + 3 + (one_if (begins_life W (what.Step u k c)) + 2 * one_if (begins_sched W (what.Step u k c))) =
      step-small u.0 program (hand-place W S s u.0 may.1) (op_at W u.0 k) c may.3 in omega arith
  event-small (what.Call u k n) may =
      let program : sched_at W u.0 ≡ false = (step-due W s (S.stream s).mark (body_at W u.0) (S.carried u.0).position (due-unit W S s StepDue u.0 may.0 tt may.1)).0 in
      let small : state_size W (after W S s (what.Call u k n)) ≤ state_size W S + 3 = call-small W S s u.0 program (hand-place W S s u.0 may.1) (with_acc n (S.carried u.0)) in omega arith
  event-small (what.Put u p) may = let less : state_size W (after W S s (what.Put u p)) < state_size W S = put-falls W S s u p may.1 in omega arith
  event-small (what.End u c) may = let less : state_size W (after W S s (what.End u c)) < state_size W S = end-falls W S s u c may.1 in omega arith
  event-small (what.Enter u) may = let less : state_size W (after W S s (what.Enter u)) < state_size W S = enter-falls W S s u may.0 may.1 in omega arith
  event-small (what.Leave u) may = let less : state_size W (after W S s (what.Leave u)) < state_size W S = leave-falls W Z S s u sound may.0 may.1 in omega arith

-- The start.

start-unit : (b : Bool) (marks : ℕ → Mark) (W : Parts) (u : ℕ) (o : Option ℕ) → place_size b marks (start_place W u o) ≤ 3 * one_if (is_some o) + 2 * one_if (is_some o && b)
start-unit b marks W u None = omega arith
start-unit b marks W u (Some p) = let twice : extra b ≡ 2 * one_if b = extra-twice b in omega arith

start-small : (W : Parts) → state_size W (start W) ≤ 3 * started W + 2 * scheds_started W
start-small W =
    let units : ℕ → ℕ = λ u. one_if (is_some (start_of W u)) in
    let scheds : ℕ → ℕ = λ u. one_if (is_some (start_of W u) && sched_at W u) in
    let n : ℕ = length W.units in
    let each : state_size W (start W) ≤ sum_up (λ u. 3 * units u + 2 * scheds u) n =
    sum_up-rises (unit_size W (start W)) (λ u. 3 * units u + 2 * scheds u) n
    (λ u l. (let here : place_size (sched_at W u) (marks_of (start W)) (start_place W u (start_of W u)) ≤ 3 * units u + 2 * scheds u = start-unit (sched_at W u) (marks_of (start W)) W u (start_of W u) in omega arith)) in
    let parts : sum_up (λ u. 3 * units u + 2 * scheds u) n ≡ sum_up (λ u. 3 * units u) n + sum_up (λ u. 2 * scheds u) n = sum_up-plus (λ u. 3 * units u) (λ u. 2 * scheds u) n in
    let one : sum_up (λ u. 3 * units u) n ≡ 3 * started W = sum_up-times 3 units n in
    let two : sum_up (λ u. 2 * scheds u) n ≡ 2 * scheds_started W = sum_up-times 2 scheds n in omega arith

-- Runs.

size-along : (W : Parts) (Z : Stored) → IsValid W → OrdersStored W Z.orders → (S : State) (es : List Event) → Sound W Z S → RunFrom W Z S es → events_in es ≤ state_size W S + 4 * steps_in es + lives_begun W es + 2 * scheds_begun W es
size-along W Z valid stored S [] sound run = omega arith
size-along W Z valid stored S (e ∷ es) sound run =
    let T : State = after W S e.stream.0 e.what in
    let here : counted e.what + state_size W T ≤ state_size W S + allowed W e.what = event-small W Z S e.stream.0 sound e.what run.1 in
    let rest : events_in es ≤ state_size W T + 4 * steps_in es + lives_begun W es + 2 * scheds_begun W es =
    size-along W Z valid stored T es (events-keep-sound W Z valid stored S T e sound (run.0, run.1, refl)) run.2 in
    let sizes : events_in (e ∷ es) ≡ counted e.what + events_in es = sum_by-cons (λ (x : Event). counted x.what) e es in
    let steps : steps_in (e ∷ es) ≡ one_if (is_step e.what) + steps_in es = sum_by-cons (λ (x : Event). one_if (is_step x.what)) e es in
    let lives : lives_begun W (e ∷ es) ≡ one_if (begins_life W e.what) + lives_begun W es = sum_by-cons (λ (x : Event). one_if (begins_life W x.what)) e es in
    let scheds : scheds_begun W (e ∷ es) ≡ one_if (begins_sched W e.what) + scheds_begun W es = sum_by-cons (λ (x : Event). one_if (begins_sched W x.what)) e es in omega arith

pub events-are-few : (W : Parts) (Z : Stored) → EventsAreFew W Z
events-are-few W Z valid stored J run =
    let along : events_in J ≤ state_size W (start W) + 4 * steps_in J + lives_begun W J + 2 * scheds_begun W J = size-along W Z valid stored (start W) J (runs-are-sound W Z valid stored J 0 run) run in
    let first : state_size W (start W) ≤ 3 * started W + 2 * scheds_started W = start-small W in omega arith

if-most : (b : Bool) → one_if b ≤ 1
if-most true = omega arith
if-most false = omega arith

-- only a step begins a life
births-are-steps : (W : Parts) (w : What) → one_if (begins_life W w) ≤ one_if (is_step w)
births-are-steps W (what.Step u k c) = if-most (begins_life W (what.Step u k c))
births-are-steps W (what.Call u k n) = omega arith
births-are-steps W _ = omega arith

lives-are-steps : (W : Parts) (es : List Event) → lives_begun W es ≤ steps_in es
lives-are-steps W [] = omega arith
lives-are-steps W (e ∷ es) =
    let rest : lives_begun W es ≤ steps_in es = lives-are-steps W es in
    let here : one_if (begins_life W e.what) ≤ one_if (is_step e.what) = births-are-steps W e.what in
    let steps : steps_in (e ∷ es) ≡ one_if (is_step e.what) + steps_in es = sum_by-cons (λ (x : Event). one_if (is_step x.what)) e es in
    let lives : lives_begun W (e ∷ es) ≡ one_if (begins_life W e.what) + lives_begun W es = sum_by-cons (λ (x : Event). one_if (begins_life W x.what)) e es in omega arith

-- and of those lives some are of scheduler units
scheds-are-born : (W : Parts) (o : Option ℕ) → one_if (is_sched_birth W o) ≤ one_if (is_some o)
scheds-are-born W None = omega arith
scheds-are-born W (Some v) = if-most (sched_at W v)

scheds-begin : (W : Parts) (o : Option Op) (c : Code) → one_if (begins_sched_by W o c) ≤ one_if (begins_by o c)
scheds-begin W None c = omega arith
scheds-begin W (Some o) code.Ok = scheds-are-born W (nature_of o).birth
scheds-begin W (Some o) _ = omega arith

begun-scheds : (W : Parts) (w : What) → one_if (begins_sched W w) ≤ one_if (begins_life W w)
begun-scheds W (what.Step u k c) = scheds-begin W (op_at W u.0 k) c
begun-scheds W _ = omega arith

scheds-are-lives : (W : Parts) (es : List Event) → scheds_begun W es ≤ lives_begun W es
scheds-are-lives W [] = omega arith
scheds-are-lives W (e ∷ es) =
    let rest : scheds_begun W es ≤ lives_begun W es = scheds-are-lives W es in
    let here : one_if (begins_sched W e.what) ≤ one_if (begins_life W e.what) = begun-scheds W e.what in
    let lives : lives_begun W (e ∷ es) ≡ one_if (begins_life W e.what) + lives_begun W es = sum_by-cons (λ (x : Event). one_if (begins_life W x.what)) e es in
    let scheds : scheds_begun W (e ∷ es) ≡ one_if (begins_sched W e.what) + scheds_begun W es = sum_by-cons (λ (x : Event). one_if (begins_sched W x.what)) e es in omega arith

both-most : (a b : Bool) → one_if (a && b) ≤ one_if a
both-most true b = if-most b
both-most false b = omega arith

started-scheds : (W : Parts) → scheds_started W ≤ started W
started-scheds W = sum_up-rises (λ u. one_if (is_some (start_of W u) && sched_at W u)) (λ u. one_if (is_some (start_of W u))) (length W.units) (λ u l. both-most (is_some (start_of W u)) (sched_at W u))

pub runs-are-small : (W : Parts) (Z : Stored) → RunsAreSmall W Z
runs-are-small W Z valid stored J run =
    let few : events_in J ≤ 4 * steps_in J + lives_begun W J + 3 * started W + 2 * (scheds_begun W J + scheds_started W) = events-are-few W Z valid stored J run in
    let lives : lives_begun W J ≤ steps_in J = lives-are-steps W J in
    let scheds : scheds_begun W J ≤ lives_begun W J = scheds-are-lives W J in
    let first : scheds_started W ≤ started W = started-scheds W in omega arith

pub runs-are-bounded : (W : Parts) (Z : Stored) → RunsAreBounded W Z
runs-are-bounded W Z valid stored none J run =
    let small : events_in J ≤ 7 * steps_in J + 5 * started W = runs-are-small W Z valid stored J run in
    let few : steps_in J ≤ ops_in W = steps-are-few W Z valid stored none J run in omega arith
