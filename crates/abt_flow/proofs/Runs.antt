-- Along each run of a confluent workload places say of programs.
use Rattle.std.proofs.Common.{◌≡◌, ℕ, suc, ◌+◌, ◌-◌, ◌%◌, ◌^◌, ◌<◌, if◌then◌else◌, List, [], ◌∷◌, length, Option, Some, None, refl, sym, ◌∙◌, ap, subst, arith}
use Rattle.std.proofs.lemmas.List.Sums.{sum_by-cons}
use Rattle.std.proofs.lemmas.Option.{slice_get-get_or}
use Rattle.abt_machine.specs.declared.events.Code.{Code}
use Rattle.abt_machine.specs.declared.events.Code.TheVariants as code
use Rattle.abt_machine.specs.declared.events.Event.{Event}
use Rattle.abt_machine.specs.declared.events.Place.{Place}
use Rattle.abt_machine.specs.declared.events.Place.TheVariants as place
use Rattle.abt_machine.specs.declared.events.What.{What}
use Rattle.abt_machine.specs.declared.events.What.TheVariants as what
use Rattle.abt_machine.specs.declared.operations.Op.{Op}
use Rattle.abt_machine.specs.declared.operations.Op.TheVariants as op
use Rattle.abt_machine.specs.Stored.{IsNoCall, IsReturned, Returns, Stored}
use Rattle.abt_machine.specs.declared.workload.Parts.{Parts}
use Rattle.abt_machine.specs.Carrying.{with_acc}
use Rattle.abt_machine.specs.Changes.{changed, goes_with}
use Rattle.abt_machine.specs.Codes.{code_at, code_of}
use Rattle.abt_machine.specs.Events.{May, after}
use Rattle.abt_machine.specs.Frames.{sched_of}
use Rattle.abt_machine.specs.Lines.{InPool, InTray}
use Rattle.abt_machine.specs.Next.{EndDue, StepDue}
use Rattle.abt_machine.specs.Numbers.{stream_no}
use Rattle.abt_machine.specs.Outcomes.{is_step, steps_in}
use Rattle.abt_machine.specs.Runs.{Run, RunFrom, last_state, state_after}
use Rattle.abt_machine.specs.Start.{start, start_place}
use Rattle.abt_machine.specs.State.{State}
use Rattle.abt_machine.specs.Steps.{op_row, step_row}
use Rattle.abt_machine.specs.Valid.{IsValid}
use Rattle.abt_machine.specs.Workloads.{body_at, op_at, ops_of, start_of}
use Rattle.abt_laws.proofs.Dues.{due-unit, step-due}
use Rattle.abt_laws.proofs.Options.{none≢some}
use Rattle.abt_laws.proofs.Standing.{StandsIn, first-stands, front-stands, hand-place, next-place}
use Rattle.abt_flow.specs.Confluent.{Confluent}
use Rattle.abt_flow.specs.Effects.{Memory}
use Rattle.abt_flow.specs.Flow.{AtPoint, Functions, IsReached, Starts}
use Rattle.abt_flow.proofs.Goes.{goes}
use Rattle.abt_flow.proofs.Moving.{before}
use Rattle.abt_flow.proofs.Passing.{end-due, passes-end, passes-enter, passes-leave, passes-look, passes-miss, passes-put, passes-take}
use Rattle.abt_flow.proofs.Rows.{row-goes_with}
use Rattle.abt_flow.proofs.Stepping.{Stepped, steps-on}
use Rattle.abt_flow.proofs.Tells.{Before, Flowing, IsPlain, Tells, memory_of}

-- each call that a unit comes to may return one word alone
abbrev pub CallsAreOne : Parts → Functions → Type 0
CallsAreOne W R = (u k f t : ℕ) (m : Memory) → IsReached W u → AtPoint W R t u k m → op_at W u k ≡ Some (op.Call f) → (n : ℕ) × (R f u m.acc m.keys ≡ Some n)

-- The start.

start-tells : (W : Parts) (R : Functions) (u : ℕ) (o : Option ℕ) → start_of W u ≡ o → Tells W R 0 u ((start W).carried u) (start_place W u o)
start-tells W R u None e = (e, refl, refl)
start-tells W R u (Some p) e = (Starts u p e, refl)

start-late : (W : Parts) (u : ℕ) (o : Option ℕ) → o ≡ None → start_place W u o ≡ place.Unborn
start-late W u o e = ap (start_place W u) e

pub start-flows : (W : Parts) (R : Functions) → Flowing W R 0 (start W)
start-flows W R = record {
  units = λ u. start-tells W R u (start_of W u) refl;
  values = λ x n e. absurd (none≢some e);
  born = λ u c e. (let l = c.behind in absurd (omega arith));
  created = λ u there late. absurd (there (start-late W u (start_of W u) late));
  calm = λ u. refl;
  marks = λ s. tt;
}

-- how many steps there are after an event, t being those before
abbrev pub steps-after : ℕ → What → ℕ
steps-after t (what.Step u k c) = suc t
steps-after t (what.Call u k n) = suc t
steps-after t _ = t

-- The events.

module _ (W : Parts) (Z : Stored) (valid : IsValid W) (confluent : Confluent W) (one : CallsAreOne W Z.returns) (t : ℕ) (S : State) (flowing : Flowing W Z.returns t S) (s : ℕ) where
  plain : (u : ℕ) (pl : Place) → S.place u ≡ pl → IsPlain pl → IsPlain (S.place u)
  plain u pl e h = subst IsPlain (sym e) h

  -- a step by its code, which is that its operation goes through
  step-flows : (u : ℕ) (o : Option Op) (c : Code) → S.place u ≡ place.Hand (stream_no s) → op_at W u (S.carried u).position ≡ o → (o ≡ None → ⊥) → IsNoCall o → c ≡ code_at W S s u o →
      Flowing W Z.returns (suc t) (changed S (step_row W S s u o c))
  step-flows u None c held is some step e = absurd (some refl)
  step-flows u (Some o) c held is some step e =
      let went : (code_of W S s u o ≡ code.Ok) × Stepped W Z.returns t S (changed S (op_row W S s u o)) u o = goes W Z.returns valid confluent t S flowing s u held o is step in
      subst (λ d. Flowing W Z.returns (suc t) (changed S (step_row W S s u (Some o) d))) (sym (e ∙ went.0))
      (steps-on W Z.returns t S (changed S (op_row W S s u o)) u o flowing is (before W Z.returns t S flowing s u held o is) went.1)

  -- a call sets the accumulator to what the function returns
  pub call-steps : (u n f : ℕ) → S.place u ≡ place.Hand (stream_no s) → op_at W u (S.carried u).position ≡ Some (op.Call f) → Returns Z (Some (op.Call f)) u (S.carried u) n →
      Stepped W Z.returns t S (changed S (goes_with u (with_acc n (S.carried u)))) u (op.Call f)
  call-steps u n f held here may =
      let own : Before W Z.returns t u (S.carried u) = before W Z.returns t S flowing s u held (op.Call f) here in
      let word : (m : ℕ) × (Z.returns f u (S.carried u).acc (S.carried u).keys ≡ Some m) = one u (S.carried u).position f (suc t) (memory_of (S.carried u)) own.0 own.1 here in
      let same : n ≡ word.0 % 2 ^ 64 = subst (λ r. IsReturned r n) word.1 may in
      row-goes_with W Z.returns t S flowing s u held (op.Call f) here (λ x e. cc) (λ v q e. cc) (with_acc n (S.carried u)) refl (word.0, word.1, ap (λ m. memory_of (with_acc m (S.carried u))) same)

  -- a call by the operation
  call-flows : (u k n : ℕ) (o : Option Op) → S.place u ≡ place.Hand (stream_no s) → (S.carried u).position ≡ k → op_at W u k ≡ o → Returns Z o u (S.carried u) n → Flowing W Z.returns (suc t)
      (changed S (goes_with u (with_acc n (S.carried u))))
  call-flows u k n (Some (op.Call f)) held at is may =
      let here : op_at W u (S.carried u).position ≡ Some (op.Call f) = ap (op_at W u) at ∙ is in
      steps-on W Z.returns t S (changed S (goes_with u (with_acc n (S.carried u)))) u (op.Call f) flowing here (before W Z.returns t S flowing s u held (op.Call f) here) (call-steps u n f held here may)
  call-flows u k n None held at is may = absurd may
  call-flows u k n (Some o) held at is may = absurd may

  pub event-flows : (w : What) → May W Z S s w → Flowing W Z.returns (steps-after t w) (after W S s w)
  event-flows (what.Miss p) may = passes-miss W Z.returns t S flowing s p.0
  event-flows (what.Take p u) may =
      let stands : StandsIn W S (InPool p.0) u.0 = front-stands W S s p.0 u.0 may.1 in
      passes-take W Z.returns t S flowing s p.0 u.0 (plain u.0 (place.Pool p stands.ticket) stands.at tt)
  event-flows (what.Look u) may = passes-look W Z.returns t S flowing s u.0 (S.desk u.0).cancel (S.desk u.0).migrate (flowing.calm u.0)
      (plain u.0 (place.Next (stream_no s)) (next-place W S s u.0 may.1) tt)
  event-flows (what.Step u k c) may =
      let held : S.place u.0 ≡ place.Hand (stream_no s) = hand-place W S s u.0 may.1 in
      let left : (S.carried u.0).position < length (ops_of (body_at W u.0)) = (step-due W s (S.stream s).mark (body_at W u.0) (S.carried u.0).position (due-unit W S s StepDue u.0 may.0 tt may.1)).1 in
      let some : op_at W u.0 (S.carried u.0).position ≡ None → ⊥ = λ e. none≢some (sym e ∙ slice_get-get_or (ops_of (body_at W u.0)) (S.carried u.0).position op.Print left) in
      subst (λ j. IsNoCall (op_at W u.0 j) → c ≡ code_at W S s u.0 (op_at W u.0 j) → Flowing W Z.returns (suc t) (changed S (step_row W S s u.0 (op_at W u.0 j) c))) may.2
      (λ step e. step-flows u.0 (op_at W u.0 (S.carried u.0).position) c held refl some step e) may.4 may.3
  event-flows (what.Call u k n) may = call-flows u.0 k n (op_at W u.0 k) (hand-place W S s u.0 may.1) may.2 refl may.3
  event-flows (what.Put u p) may =
      let stands : StandsIn W S (InTray s) u.0 = first-stands W S (InTray s) u.0 may.1 in
      passes-put W Z.returns t S flowing s u.0 p (S.pool_next p.0) ((p.0, suc (S.pool_next p.0)) ∷ []) (plain u.0 (place.Tray (stream_no s) stands.ticket) stands.at tt)
  event-flows (what.End u c) may =
      passes-end W Z.returns t S flowing s u.0 c
      (end-due W Z.returns t S flowing s (body_at W u.0) (S.stream s).mark (S.carried u.0).position c (flowing.marks s) (due-unit W S s (EndDue c) u.0 may.0 tt may.1))
      (plain u.0 (place.Hand (stream_no s)) (hand-place W S s u.0 may.1) tt)
  event-flows (what.Enter u) may = passes-enter W Z.returns t S flowing s u.0 (length (S.stream s).below) (sched_of (body_at W u.0))
      (plain u.0 (place.Hand (stream_no s)) (hand-place W S s u.0 may.1) tt)
  event-flows (what.Leave u) may = passes-leave W Z.returns t S flowing s u.0 (plain u.0 (place.Frame (stream_no s) (length (S.stream s).below - 1)) may.1 tt)

-- Runs.

next-count : (t n : ℕ) (w : What) → steps-after t w + n ≡ t + ((if is_step w then 1 else 0) + n)
next-count t n (what.Step u k c) = omega arith
next-count t n (what.Call u k m) = omega arith
next-count t n (what.Miss p) = omega arith
next-count t n (what.Take p u) = omega arith
next-count t n (what.Look u) = omega arith
next-count t n (what.Put u p) = omega arith
next-count t n (what.End u c) = omega arith
next-count t n (what.Enter u) = omega arith
next-count t n (what.Leave u) = omega arith

module _ (W : Parts) (Z : Stored) (valid : IsValid W) (confluent : Confluent W) (one : CallsAreOne W Z.returns) where
  flows-along : (t : ℕ) (S : State) (es : List Event) → Flowing W Z.returns t S → RunFrom W Z S es → Flowing W Z.returns (t + steps_in es) (state_after W S es)
  flows-along t S [] flowing run = subst (λ n. Flowing W Z.returns n S) (let e : t ≡ t + 0 = omega arith in e) flowing
  flows-along t S (e ∷ es) flowing run =
      subst (λ n. Flowing W Z.returns n (state_after W S (e ∷ es)))
      (next-count t (steps_in es) e.what ∙ ap (λ n. t + n) (sym (sum_by-cons (λ (e : Event). if is_step e.what then 1 else 0) e es)))
      (flows-along (steps-after t e.what) (after W S e.stream.0 e.what) es (event-flows W Z valid confluent one t S flowing e.stream.0 e.what run.1) run.2)

  -- after a run, with as many points as it has steps
  pub run-flows : (J : List Event) → Run W Z J → Flowing W Z.returns (steps_in J) (last_state W J)
  run-flows J run = subst (λ n. Flowing W Z.returns n (last_state W J)) (let e : 0 + steps_in J ≡ steps_in J = omega arith in e) (flows-along 0 (start W) J (start-flows W Z.returns) run)
