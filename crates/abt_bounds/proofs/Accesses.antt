-- Along every run streams keep to the access of pools.
use Rattle.std.proofs.Common.{◌≡◌, ℕ, zero, suc, ◌<◌, ◌==◌, nat_lt, Bool, true, false, List, [], ◌∷◌, ◌++◌, length, Option, Some, None, slice_index_or, refl, sym, ◌∙◌, ap₂, subst, arith, inl, inr}
use Rattle.std.specs.Prelude.{IfSome, IsTrue}
use Rattle.std.proofs.lemmas.Bool.{cond_both, false≢true}
use Rattle.std.proofs.lemmas.List.Elements.{All-contains}
use Rattle.std.proofs.lemmas.List.Sums.{AllPass-from_list_all}
use Rattle.abt_machine.specs.declared.events.Cause.TheVariants as cause
use Rattle.abt_machine.specs.declared.events.Code.TheVariants as code
use Rattle.abt_machine.specs.declared.events.Event.{Event}
use Rattle.abt_machine.specs.declared.events.What.{What}
use Rattle.abt_machine.specs.declared.events.What.TheVariants as what
use Rattle.abt_machine.specs.declared.operations.Body.{Body}
use Rattle.abt_machine.specs.declared.operations.Body.TheVariants as body
use Rattle.abt_machine.specs.declared.operations.Op.{Op}
use Rattle.abt_machine.specs.Stored.{Stored}
use Rattle.abt_machine.specs.declared.workload.Parts.{Parts}
use Rattle.abt_machine.specs.Access.{may_put, may_take, may_take_all, pool_given, pool_taken}
use Rattle.abt_machine.specs.Codes.{code_at}
use Rattle.abt_machine.specs.Events.{May, after, look_row}
use Rattle.abt_machine.specs.Frames.{entered, frame_at, frame_missed, left, left_to, marked, round_missed, round_taken, sched_of}
use Rattle.abt_machine.specs.Maps.{put_all, put_at}
use Rattle.abt_machine.specs.Next.{EndDue, EnterDue, StepDue, due_of_ops, due_of_unit}
use Rattle.abt_machine.specs.Rounds.{IsNextPool}
use Rattle.abt_machine.specs.Runs.{RunFrom, state_after}
use Rattle.abt_machine.specs.Sound.{frames_of}
use Rattle.abt_machine.specs.Start.{start}
use Rattle.abt_machine.specs.State.{State, Stream, Frame, Mark, Plain, Asked, Left, Exited}
use Rattle.abt_machine.specs.Workloads.{body_at, op_at, pools_of}
use Rattle.abt_laws.proofs.Dues.{due-unit}
use Rattle.abt_laws.proofs.Lists.{EachOf}
use Rattle.abt_laws.proofs.Maps.{put_at-cases}
use Rattle.abt_laws.proofs.Orders.{next_pool-listed}
use Rattle.abt_laws.proofs.StepStreams.{step-keeps-frames}
use Rattle.abt_bounds.specs.Accesses.{FramesHaveAccess, IsWithinAccess, KeepsAccess, MayRun}
use Rattle.abt_bounds.specs.Laws.{EventsKeepAccess, RunsKeepAccess, StartHasAccess}
use Rattle.abt_bounds.proofs.Denied.{denied}

-- Events.

-- the next pool of a scheduler's round, if all of its pools may be taken from
next-taken : (W : Parts) (Z : Stored) (s p : ℕ) (f : Frame) → IsTrue (may_take_all W s f.sched) → IsNextPool W Z.orders f p → IsTrue (may_take W s p)
next-taken W Z s p f all next =
    All-contains (λ q. may_take W s q ≡ true) (pools_of W f.sched) p (AllPass-from_list_all (may_take W s) (pools_of W f.sched) all) (next_pool-listed W Z f p next)

-- what can't be refused is so
stays : (test : Bool) → ((IsTrue test → ⊥) → ⊥) → IsTrue test
stays true h = refl
stays false h = absurd (h (λ e. false≢true e))

all-stays : (o : Option ℕ) (may : ℕ → Bool) → ((IfSome o (λ p. IsTrue (may p)) → ⊥) → ⊥) → IfSome o (λ p. IsTrue (may p))
all-stays None may h = tt
all-stays (Some p) may h = stays (may p) h

-- an operation that goes through
within : (W : Parts) (S : State) (s u : ℕ) (o : Option Op) → code_at W S s u o ≡ code.Ok → IfSome o (IsWithinAccess W s)
within W S s u None h = tt
within W S s u (Some o) h =
    let goes : (IsWithinAccess W s o → ⊥) → ⊥ = λ none. (let e : code.Ok ≡ code.PoolAccess = sym h ∙ (denied W S s u o).1 none in cc) in
    (all-stays (pool_taken o) (may_take W s) (λ out. goes (λ is. out is.0)), all-stays (pool_given W o) (may_put W s) (λ out. goes (λ is. out is.1)))

event-within : (W : Parts) (Z : Stored) (S : State) (s : ℕ) (w : What) → s < W.streams → FramesHaveAccess W S → May W Z S s w → KeepsAccess W s w
event-within W Z S s (what.Miss p) declared has may = next-taken W Z s p.0 (S.stream s).top (has s declared).0 may.2
event-within W Z S s (what.Take p u) declared has may = next-taken W Z s p.0 (S.stream s).top (has s declared).0 may.2
event-within W Z S s (what.Step u k c) declared has may = λ ok. within W S s u.0 (op_at W u.0 k) (sym may.3 ∙ ok)
event-within W Z S s (what.Call u k n) declared has may = tt
event-within W Z S s (what.Look u) declared has may = tt
event-within W Z S s (what.Put u p) declared has may = tt
event-within W Z S s (what.End u c) declared has may = tt
event-within W Z S s (what.Enter u) declared has may = tt
event-within W Z S s (what.Leave u) declared has may = tt

-- Frames.

-- what holds of stream s with new frames, and of the others as they were
each-runs : (W : Parts) (S : State) (s : ℕ) (own : Stream) → FramesHaveAccess W S → MayRun W s (frames_of own) → (r : ℕ) → r < W.streams → MayRun W r (frames_of (put_at S.stream s own r))
each-runs W S s own has new r l =
    elim (put_at-cases S.stream s own r) [
      | inl x ↦ subst (λ k. MayRun W r (frames_of k)) (sym x.1) (subst (λ q. MayRun W q (frames_of own)) (sym x.0) new)
      | inr x ↦ subst (λ k. MayRun W r (frames_of k)) (sym x.1) (has r l)
    ]

missed-sched : (W : Parts) (f : Frame) (p : ℕ) → (frame_missed W f p).sched ≡ f.sched
missed-sched W f p =
    cond_both (length (pools_of W f.sched) == suc (length f.seen)) (frame_at f.sched (suc f.round) true) (record { sched = f.sched; round = f.round; seen = f.seen ++ p ∷ []; empty = false })
    (λ (g : Frame). g.sched ≡ f.sched) (λ _. refl) (λ _. refl)

-- a unit with a program does not enter
no-enter : (ops : List Op) (k : ℕ) → due_of_ops ops k ≡ EnterDue → ⊥
no-enter ops k e = cond_both (nat_lt k (length ops)) StepDue (EndDue cause.Done) (λ d. d ≡ EnterDue → ⊥) (λ _ e. cc) (λ _ e. cc) e

-- a scheduler unit enters where its stream may take from all of its pools
enter-access : (W : Parts) (s k : ℕ) (m : Mark) (b : Body) → due_of_unit W s m b k ≡ EnterDue → IsTrue (may_take_all W s (sched_of b))
enter-access W s k Asked b e = cc
enter-access W s k Exited b e = cc
enter-access W s k Plain (body.Sched g) e = cond_both (may_take_all W s g.0) EnterDue (EndDue cause.Access) (λ d. d ≡ EnterDue → IsTrue (may_take_all W s g.0)) (λ yes _. yes) (λ _ e. cc) e
enter-access W s k Left (body.Sched g) e = cc
enter-access W s k Plain (body.Ult ops) e = absurd (no-enter ops k e)
enter-access W s k Left (body.Ult ops) e = absurd (no-enter ops k e)
enter-access W s k Plain (body.Task ops) e = absurd (no-enter ops k e)
enter-access W s k Left (body.Task ops) e = absurd (no-enter ops k e)

left-runs : (W : Parts) (s : ℕ) (own : Stream) (fs : List Frame) → MayRun W s (frames_of own) → MayRun W s fs → MayRun W s (frames_of (left_to own fs))
left-runs W s own [] all below = all
left-runs W s own (f ∷ fs) all below = below

look-runs : (W : Parts) (S : State) (s u : ℕ) (cancel : Bool) (migrate : Option ℕ) → s < W.streams → FramesHaveAccess W S → (r : ℕ) → r < W.streams → MayRun W r (frames_of (put_all S.stream (look_row W S s u cancel migrate).streams r))
look-runs W S s u true migrate declared has r l = each-runs W S s (marked Asked (S.stream s)) has (has s declared) r l
look-runs W S s u false (Some p) declared has r l = has r l
look-runs W S s u false None declared has r l = each-runs W S s (marked Plain (S.stream s)) has (has s declared) r l

frames-keep : (W : Parts) (Z : Stored) (S : State) (s : ℕ) (w : What) → s < W.streams → FramesHaveAccess W S → May W Z S s w → FramesHaveAccess W (after W S s w)
frames-keep W Z S s (what.Miss p) declared has may =
    each-runs W S s (round_missed W p.0 (S.stream s)) has (subst (λ g. IsTrue (may_take_all W s g)) (sym (missed-sched W (S.stream s).top p.0)) (has s declared).0, (has s declared).1)
frames-keep W Z S s (what.Take p u) declared has may = each-runs W S s (round_taken (S.stream s)) has (has s declared)
frames-keep W Z S s (what.Look u) declared has may = look-runs W S s u.0 (S.desk u.0).cancel (S.desk u.0).migrate declared has
frames-keep W Z S s (what.Step u k c) declared has may = λ r l. subst (MayRun W r) (sym (ap₂ (λ (f : Frame) fs. f ∷ fs) (step-keeps-frames W S s u.0 k c r).0 (step-keeps-frames W S s u.0 k c r).1)) (has r l)
frames-keep W Z S s (what.Call u k n) declared has may = has
frames-keep W Z S s (what.Put u p) declared has may = has
frames-keep W Z S s (what.End u c) declared has may = has
frames-keep W Z S s (what.Enter u) declared has may =
    each-runs W S s (entered (sched_of (body_at W u.0)) (S.stream s)) has
    (enter-access W s (S.carried u.0).position (S.stream s).mark (body_at W u.0) (due-unit W S s EnterDue u.0 may.0 tt may.1), has s declared)
frames-keep W Z S s (what.Leave u) declared has may = each-runs W S s (left (S.stream s)) has (left-runs W s (S.stream s) (S.stream s).below (has s declared) (has s declared).1)

pub events-keep-access : (W : Parts) (Z : Stored) → EventsKeepAccess W Z
events-keep-access W Z S T e has came =
    (event-within W Z S e.stream.0 e.what came.0 has came.1, subst (FramesHaveAccess W) (sym came.2) (frames-keep W Z S e.stream.0 e.what came.0 has came.1))

-- Runs.

pub start-has-access : (W : Parts) → StartHasAccess W
start-has-access W valid s declared = ((valid.streams s declared).takes, tt)

abbrev EventKeeps : Parts → Event → Type 0
EventKeeps W e = KeepsAccess W e.stream.0 e.what

along : (W : Parts) (Z : Stored) (S : State) (es : List Event) → FramesHaveAccess W S → RunFrom W Z S es → EachOf (EventKeeps W) es × FramesHaveAccess W (state_after W S es)
along W Z S [] has run = (tt, has)
along W Z S (e ∷ es) has run =
    let rest : EachOf (EventKeeps W) es × FramesHaveAccess W (state_after W (after W S e.stream.0 e.what) es) =
    along W Z (after W S e.stream.0 e.what) es (frames-keep W Z S e.stream.0 e.what run.0 has run.1) run.2 in
    ((event-within W Z S e.stream.0 e.what run.0 has run.1, rest.0), rest.1)

-- what holds of each item of a list holds of that at a place
pub each-at : {A : Type 0} (P : A → Type 0) (xs : List A) (k : ℕ) (x : A) → EachOf P xs → k < length xs → P (slice_index_or xs k x)
each-at P [] k x each l = absurd (omega arith)
each-at P (y ∷ ys) zero x each l = each.0
each-at P (y ∷ ys) (suc k) x each l = each-at P ys k x each.1 (omega arith)

pub runs-keep-access : (W : Parts) (Z : Stored) → RunsKeepAccess W Z
runs-keep-access W Z valid J run =
    let all : EachOf (EventKeeps W) J × FramesHaveAccess W (state_after W (start W) J) = along W Z (start W) J (start-has-access W valid) run in
    (λ e has. subst (EventKeeps W) has.2 (each-at (EventKeeps W) J has.0 e all.0 has.1), all.1)
