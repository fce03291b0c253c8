-- Each event of a stream, with the answer of the object that it called, is an event of the machine.
use Rattle.std.proofs.Common.{◌≡◌, ℕ, [], ◌∷◌, ◌++◌, Option, Some, None, sym, ◌∙◌, ap, ap₂, subst}
use Rattle.abt_machine.specs.declared.events.What.{What}
use Rattle.abt_machine.specs.declared.events.What.TheVariants as what
use Rattle.abt_machine.specs.declared.events.Site.TheVariants as site
use Rattle.abt_machine.specs.Stored.{Stored, Returns}
use Rattle.abt_machine.specs.declared.workload.Parts.{Parts}
use Rattle.abt_machine.specs.Numbers.{unit_no}
use Rattle.abt_machine.specs.Workloads.{body_at, op_at}
use Rattle.abt_machine.specs.Valid.{IsValid}
use Rattle.abt_machine.specs.State.{State}
use Rattle.abt_machine.specs.Frames.{entered, sched_of}
use Rattle.abt_machine.specs.Sound.{Sound}
use Rattle.abt_machine.specs.Values.{Held, part_of, Object}
use Rattle.abt_machine.specs.Acts as act
use Rattle.abt_machine.specs.Turns.{Heard, Steps}
use Rattle.abt_simulation.specs.Simulation.{CalledAnswers, Simulation}
use Rattle.abt_simulation.proofs.Simulated.{Simulated, with-call, without-call, is-event}
use Rattle.abt_simulation.proofs.CalledSites.{steps-site}
use Rattle.abt_simulation.proofs.PoolEvents.{simulate-miss, simulate-take, simulate-put}
use Rattle.abt_simulation.proofs.DeskEvents.{simulate-end, simulate-look}
use Rattle.abt_simulation.proofs.FrameEvents.{simulate-enter, simulate-leave}
use Rattle.abt_simulation.proofs.StepEvents.{simulate-step}
use Rattle.abt_simulation.proofs.CallEvents.{simulate-call}

module _ (W : Parts) (Z : Stored) (S : State) (s : ℕ) (heard : Option Heard) (part : Held) (object : Object) (valid : IsValid W) (sound : Sound W Z S) (answers : CalledAnswers W S heard object) where
  -- the event's unit is the one that is held
  of-unit : (w : ℕ → What) (n m : ℕ) → n ≡ m → Simulated W Z S s (w n) heard part object → Simulated W Z S s (w m) heard part object
  of-unit w n m e done = subst (λ k. Simulated W Z S s (w k) heard part object) e done

  -- each event
  pub simulate : (w : What) → Steps W Z s (part_of W S s) w heard part → Simulated W Z S s w heard part object
  simulate (what.Miss p) st = with-call W Z S s (what.Miss p) heard part _ object _ _ _ st.2 st.3 answers (simulate-miss W Z S s p.0 sound object st.0 st.1)
  simulate (what.Take p u) st =
      of-unit (λ n. what.Take p (unit_no n)) st.2.number u.0 st.3 (with-call W Z S s (what.Take p (unit_no st.2.number)) heard part _ object _ _ _ st.4 st.5 answers (simulate-take W Z S s p.0 sound object st.2 st.0 st.1))
  simulate (what.Look u) st =
      of-unit (λ n. what.Look (unit_no n)) st.1.number u.0 st.3
      (with-call W Z S s (what.Look (unit_no st.1.number)) heard part _ object _ _ _ (st.6 ∙ ap (λ n. Some (site.Desk (unit_no n), act.Look, act.Asks st.4 st.5)) (sym st.3)) st.7 answers (simulate-look W Z S s sound object st.1 st.4 st.5 st.0 st.2))
  simulate (what.Step u k c) st =
      subst (λ (q : ℕ × ℕ). Simulated W Z S s (what.Step (unit_no q.0) q.1 c) heard part object) (λ i. (st.3 i, st.4 i))
      (simulate-step W Z S s heard part object st.1 c st.5 valid sound st.0 st.2 (ap₂ (op_at W) st.3 st.4 ∙ st.6) st.7 answers st.8)
  simulate (what.Call u k n) st =
      subst (λ (q : ℕ × ℕ). Simulated W Z S s (what.Call (unit_no q.0) q.1 n) heard part object) (λ i. (st.3 i, st.4 i))
      (without-call W Z S s (what.Call (unit_no st.1.number) st.1.carried.position n) heard part _ object st.6 st.7
      (simulate-call W Z S s sound object st.1 n st.0 st.2 (subst (λ m. Returns Z m st.1.number st.1.carried n) (sym (ap₂ (op_at W) st.3 st.4)) st.5)))
  simulate (what.Put u p) st =
      of-unit (λ n. what.Put (unit_no n) p) st.1.number u.0 st.4 (with-call W Z S s (what.Put (unit_no st.1.number) p) heard part _ object _ _ _ st.6 st.7 answers (simulate-put W Z S s p.0 sound object st.1 st.2 st.0 st.3 st.5))
  simulate (what.End u cause) st =
      of-unit (λ n. what.End (unit_no n) cause) st.1.number u.0 st.3
      (with-call W Z S s (what.End (unit_no st.1.number) cause) heard part _ object _ _ _ (st.5 ∙ ap (λ n. Some (site.Desk (unit_no n), act.End st.1 cause, act.Woke st.4)) (sym st.3)) st.6 answers (simulate-end W Z S s sound object st.1 cause st.4 st.0 st.2))
  simulate (what.Enter u) st =
      of-unit (λ n. what.Enter (unit_no n)) st.1.number u.0 st.3
      (without-call W Z S s (what.Enter (unit_no st.1.number)) heard part _ object st.4
      (st.5 ∙ ap (λ n. record (part_of W S s) { own = entered (sched_of (body_at W n)) (S.stream s); hand = None; framed = (part_of W S s).framed ++ st.1 ∷ [] }) (sym st.3)) (simulate-enter W Z S s sound object st.1 st.0 st.2))
  simulate (what.Leave u) st =
      of-unit (λ n. what.Leave (unit_no n)) st.1.number u.0 st.4 (without-call W Z S s (what.Leave (unit_no st.1.number)) heard part _ object st.5 st.6 (simulate-leave W Z S s sound object st.1 st.2 st.0 st.3))

-- the law
pub simulation : (W : Parts) (Z : Stored) → Simulation W Z
simulation W Z valid stored S e heard part object sound declared steps answers =
    is-event W Z S e heard part object valid declared (steps-site W Z e.stream.0 (part_of W S e.stream.0) e.what heard part steps) (simulate W Z S e.stream.0 heard part object valid sound answers e.what steps)
