-- How far the rounds of a stream have come.
use Rattle.std.proofs.Common.{ℕ, suc, ◌≤◌, ◌==◌, Bool, true, false, List, [], ◌∷◌, Option, None, Some, arith, length, subst, sym}
use Rattle.std.specs.Prelude.{if◌then◌else◌}
use Rattle.std.specs.List.{AllByRecursion}
use Rattle.abt_machine.specs.declared.events.Code.{Code}
use Rattle.abt_machine.specs.declared.events.What.{What}
use Rattle.abt_machine.specs.declared.events.What.TheVariants as what
use Rattle.abt_machine.specs.Stored.{Stored}
use Rattle.abt_machine.specs.declared.workload.Parts.{Parts}
use Rattle.abt_machine.specs.Frames.{frame_at, left_to, round_missed}
use Rattle.abt_machine.specs.Plans.{Calls, Does, Exits, Plan, plan_of}
use Rattle.abt_machine.specs.State.{Frame, Stream}
use Rattle.abt_machine.specs.Turns.{Heard, Performs, Steps, looked}
use Rattle.abt_machine.specs.Values.{Held, Owned}
use Rattle.abt_machine.specs.Workloads.{pools_of}
use Rattle.abt_model.specs.Models.{HasBegun}

begun-frames : (n : ℕ) (fs : List Frame) → AllByRecursion (λ (f : Frame). f.round ≤ n) fs → AllByRecursion (λ (f : Frame). f.round ≤ suc n) fs
begun-frames n [] h = tt
begun-frames n (f ∷ fs) h = let l : f.round ≤ n = h.0 in (omega arith, begun-frames n fs h.1)

-- what is true of n events is true of one more
pub begun : (n : ℕ) (own : Stream) → HasBegun n own → HasBegun (suc n) own
begun n own h = let l : own.top.round ≤ n = h.0 in (omega arith, begun-frames n own.below h.1)

missed-round : (n : ℕ) (b : Bool) (one two : Frame) → one.round ≤ suc n → two.round ≤ suc n → (if b then one else two).round ≤ suc n
missed-round n true one two h k = h
missed-round n false one two h k = k

missed-begun : (W : Parts) (n p : ℕ) (own : Stream) → HasBegun n own → HasBegun (suc n) (round_missed W p own)
missed-begun W n p own h =
    let l : own.top.round ≤ n = h.0 in
    (missed-round n (length (pools_of W own.top.sched) == suc (length own.top.seen)) (frame_at own.top.sched (suc own.top.round) true) _ (omega arith) (omega arith), begun-frames n own.below h.1)

left-begun : (n : ℕ) (own : Stream) (fs : List Frame) → HasBegun n own → AllByRecursion (λ (f : Frame). f.round ≤ n) fs → HasBegun (suc n) (left_to own fs)
left-begun n own [] h k = begun n own h
left-begun n own (f ∷ fs) h k = let l : f.round ≤ n = k.0 in (omega arith, begun-frames n fs k.1)

looked-begun : (n : ℕ) (old : Held) (o : Owned) (cancel : Bool) (migrate : Option ℕ) → HasBegun n old.own → HasBegun (suc n) (looked old o cancel migrate).own
looked-begun n old o true migrate h = begun n old.own h
looked-begun n old o false None h = begun n old.own h
looked-begun n old o false (Some p) h = begun n old.own h

performed-begun : (n : ℕ) (old : Held) (plan : Plan) (heard : Option Heard) (c : Code) (new : Held) → Performs old plan heard c new → HasBegun n old.own → HasBegun (suc n) new.own
performed-begun n old (Does e) heard c new st h = subst (λ (held : Held). HasBegun (suc n) held.own) (sym st.2) (begun n old.own h)
performed-begun n old (Calls x asked brings) heard c new st h = subst (λ (held : Held). HasBegun (suc n) held.own) (sym st.3) (begun n old.own h)
performed-begun n old (Exits b) heard c new st h = subst (λ (held : Held). HasBegun (suc n) held.own) (sym st.2) (begun n old.own h)

-- an event begins one round at most
pub steps-begun : (W : Parts) (Z : Stored) (n s : ℕ) (old : Held) (w : What) (heard : Option Heard) (new : Held) → Steps W Z s old w heard new → HasBegun n old.own → HasBegun (suc n) new.own
steps-begun W Z n s old (what.Miss p) heard new st h = subst (λ (held : Held). HasBegun (suc n) held.own) (sym st.3) (missed-begun W n p.0 old.own h)
steps-begun W Z n s old (what.Take p u) heard new st h =
    let l : old.own.top.round ≤ n = h.0 in subst (λ (held : Held). HasBegun (suc n) held.own) (sym st.5) (omega arith, begun-frames n old.own.below h.1)
steps-begun W Z n s old (what.Look u) heard new st h = subst (λ (held : Held). HasBegun (suc n) held.own) (sym st.7) (looked-begun n old st.1 st.4 st.5 h)
steps-begun W Z n s old (what.Step u k c) heard new st h = performed-begun n old (plan_of W s st.5 st.1) heard c new st.7 h
steps-begun W Z n s old (what.Call u k m) heard new st h = subst (λ (held : Held). HasBegun (suc n) held.own) (sym st.7) (begun n old.own h)
steps-begun W Z n s old (what.Put u p) heard new st h = subst (λ (held : Held). HasBegun (suc n) held.own) (sym st.7) (begun n old.own h)
steps-begun W Z n s old (what.End u c) heard new st h = subst (λ (held : Held). HasBegun (suc n) held.own) (sym st.6) (begun n old.own h)
steps-begun W Z n s old (what.Enter u) heard new st h =
    let l : old.own.top.round ≤ n = h.0 in subst (λ (held : Held). HasBegun (suc n) held.own) (sym st.5) (omega arith, begun n old.own h)
steps-begun W Z n s old (what.Leave u) heard new st h = subst (λ (held : Held). HasBegun (suc n) held.own) (sym st.6) (left-begun n old.own old.own.below h h.1)
