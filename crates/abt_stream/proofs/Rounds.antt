-- That visits are answered, event by event.
use Rattle.std.proofs.Common.{◌≡◌, ◌≢◌, ◌++◌, ℕ, Bool, true, false, List, [], ◌∷◌, Option, Some, None, inl, inr, refl, sym, ap, ◌∙◌, subst}
use Rattle.abt_machine.specs.declared.events.Code.{Code}
use Rattle.abt_machine.specs.declared.events.Event.{Event}
use Rattle.abt_machine.specs.declared.events.What.{What}
use Rattle.abt_machine.specs.declared.events.What.TheVariants as what
use Rattle.abt_machine.specs.declared.numbers.StreamNo.{StreamNo}
use Rattle.abt_machine.specs.declared.workload.Parts.{Parts}
use Rattle.abt_machine.specs.Frames.{left_to}
use Rattle.abt_machine.specs.Plans.{Calls, Does, Exits, Plan}
use Rattle.abt_machine.specs.State.{Frame, Stream}
use Rattle.abt_machine.specs.Turns.{Heard, Performs, looked}
use Rattle.abt_machine.specs.Values.{Held, Owned}
use Rattle.abt_order.specs.Schedulers.{pool_numbers}
use Rattle.abt_stream.specs.Answers.{FitsAnswers, Follows, Frames, IsHeldOrder, IsNextAnswered, MakesVisit, RoundsAnswered, VisitsAnswered, frames_after, frames_left, frames_of, start_frames}
use Rattle.abt_stream.specs.Streams.{StreamValue}

-- one event more
rounds-push : (W : Parts) (Answered : ℕ → ℕ → List ℕ → Type 0) (fs : Frames) (log : List Event) (e : Event) (mid last : Frames)
    → RoundsAnswered W Answered fs log mid → VisitsAnswered Answered mid.0 e.what → last ≡ frames_after W mid e.what → RoundsAnswered W Answered fs (log ++ e ∷ []) last
rounds-push W Answered fs [] e mid last same visit is =
    (subst (λ (f : Frames). VisitsAnswered Answered f.0 e.what) (sym same) visit, ap (λ (f : Frames). frames_after W f e.what) same ∙ sym is)
rounds-push W Answered fs (d ∷ log) e mid last h visit is = (h.0, rounds-push W Answered (frames_after W fs d.what) log e mid last h.1 visit is)

-- what is answered of the order that is held
visit-held : (Answered : ℕ → ℕ → List ℕ → Type 0) (s : StreamValue) → ((s.order ≢ []) → Answered s.top.scheduler.number s.top.round (pool_numbers s.order)) → (g round : ℕ) (order : List ℕ)
    → IsHeldOrder s g round order → Answered g round order
visit-held Answered s answered g round order held = subst (λ (q : ℕ × ℕ × List ℕ). Answered q.0 q.1 q.2) (λ i. (sym held.1 i, sym held.2 i, sym held.3 i)) (answered held.0)

next-held : (Answered : ℕ → ℕ → List ℕ → Type 0) (s : StreamValue) → ((s.order ≢ []) → Answered s.top.scheduler.number s.top.round (pool_numbers s.order)) → (f : Frame) (p : ℕ)
    → IsNextAnswered (IsHeldOrder s) f p → IsNextAnswered Answered f p
next-held Answered s answered f p h = (h.0, visit-held Answered s answered f.sched f.round h.0 h.1, h.2)

visits-held : (Answered : ℕ → ℕ → List ℕ → Type 0) (s : StreamValue) → ((s.order ≢ []) → Answered s.top.scheduler.number s.top.round (pool_numbers s.order)) → (f : Frame) (w : What)
    → VisitsAnswered (IsHeldOrder s) f w → VisitsAnswered Answered f w
visits-held Answered s answered f (what.Miss p) h = next-held Answered s answered f p.0 h
visits-held Answered s answered f (what.Take p u) h = next-held Answered s answered f p.0 h
visits-held Answered s answered f (what.Look u) h = tt
visits-held Answered s answered f (what.Step u k c) h = tt
visits-held Answered s answered f (what.Call u k n) h = tt
visits-held Answered s answered f (what.Put u p) h = tt
visits-held Answered s answered f (what.End u c) h = tt
visits-held Answered s answered f (what.Enter u) h = tt
visits-held Answered s answered f (what.Leave u) h = tt

-- a turn keeps that visits are answered
pub follows-answers : (W : Parts) (Answered : ℕ → ℕ → List ℕ → Type 0) (old new : StreamValue) → Follows W old new → FitsAnswers W Answered old → FitsAnswers W Answered new
follows-answers W Answered old new follows fits = record {
  order = λ some. visit-held Answered old fits.order new.top.scheduler.number new.top.round (pool_numbers new.order) (follows.order some);
  visits = subst (λ (s : StreamNo). RoundsAnswered W Answered (start_frames W s.0) new.log (frames_of new.held.own)) (sym follows.number) (elim follows.event [
    | inl none ↦ subst (λ (q : List Event × Frames). RoundsAnswered W Answered (start_frames W old.number.0) q.0 q.1) (λ i. (sym none.0 i, sym none.1 i)) fits.visits
    | inr made ↦ subst (λ (log : List Event). RoundsAnswered W Answered (start_frames W old.number.0) log (frames_of new.held.own)) (sym made.1.log)
        (rounds-push W Answered (start_frames W old.number.0) old.log made.0 (frames_of old.held.own) (frames_of new.held.own) fits.visits (visits-held Answered old fits.order old.held.own.top made.0.what made.1.visit) made.1.frames)
  ]);
}

-- an event, and the order that is held after it
pub follows-event : (W : Parts) (old new : StreamValue) (e : Event) → new.number ≡ old.number → new.log ≡ old.log ++ e ∷ []
    → frames_of new.held.own ≡ frames_after W (frames_of old.held.own) e.what → VisitsAnswered (IsHeldOrder old) old.held.own.top e.what
    → ((new.order ≢ []) → IsHeldOrder old new.top.scheduler.number new.top.round (pool_numbers new.order)) → Follows W old new
follows-event W old new e number log frames visit order = record { number = number; event = inr (e, record { log = log; frames = frames; visit = visit }); order = order }

-- looks and steps leave the frames alone

pub looked-frames : (held : Held) (o : Owned) (cancel : Bool) (migrate : Option ℕ) → frames_of (looked held o cancel migrate).own ≡ frames_of held.own
looked-frames held o true migrate = refl
looked-frames held o false (Some p) = refl
looked-frames held o false None = refl

pub performed-frames : (old new : Held) (plan : Plan) (heard : Option Heard) (c : Code) → Performs old plan heard c new → frames_of new.own ≡ frames_of old.own
performed-frames old new (Does e) heard c h = ap (λ (held : Held). frames_of held.own) h.2
performed-frames old new (Calls x asked brings) heard c h = ap (λ (held : Held). frames_of held.own) h.3
performed-frames old new (Exits o) heard c h = ap (λ (held : Held). frames_of held.own) h.2

-- the top frame is gone
pub left-frames : (own : Stream) (fs : List Frame) → frames_of (left_to own fs) ≡ frames_left (frames_of own) fs
left-frames own [] = refl
left-frames own (f ∷ fs) = refl
