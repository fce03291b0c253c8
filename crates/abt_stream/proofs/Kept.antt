-- What each event keeps.
use Rattle.std.proofs.Common.{◌≡◌, ◌≢◌, ◌≤◌, ◌++◌, ℕ, suc, List, [], ◌∷◌, inl, length, refl, sym, ap, ◌∙◌, subst, arith}
use Rattle.std.proofs.lemmas.List.{length-append}
use Rattle.std.proofs.lemmas.List.Elements.{All-cons, All-head, All-nil, All-push, All-tail}
use Rattle.std.specs.List.{All}
use Rattle.abt_machine.specs.declared.events.Event.{Event}
use Rattle.abt_machine.specs.declared.numbers.PoolNo.{PoolNo}
use Rattle.abt_machine.specs.declared.workload.Parts.{Parts}
use Rattle.abt_stream.specs.Answers.{IsHeldOrder, VisitsAnswered, frames_after, frames_of}
use Rattle.abt_stream.specs.Keeping.{FitsFrames, KeepsStream}
use Rattle.abt_order.specs.Schedulers.{IsSchedulerOf, SchedulerValue, pool_numbers}
use Rattle.abt_machine.specs.Rounds.{IsOrder}
use Rattle.abt_machine.specs.Stored.{Stored}
use Rattle.abt_machine.specs.declared.events.What.{What}
use Rattle.abt_machine.specs.Values.{Held, Owned}
use Rattle.abt_machine.specs.Numbers.{unit_no}
use Rattle.abt_machine.specs.declared.events.What.TheVariants as what
use Rattle.abt_stream.specs.Events.{IsFreshFrame, Leaves, emptied, entering, holding, passed, took, wrote}
use Rattle.abt_stream.specs.Streams.{FrameValue, IsFrame, IsOrderFor, FitsShapes, Rooms, StreamValue, ahead}
use Rattle.abt_stream.proofs.Rounds.{follows-event, left-frames}

-- after more events
grows : (W : Parts) (n m : ℕ) (order : List PoolNo) (f : FrameValue) → n ≤ m → IsFrame W n order f → IsFrame W m order f
grows W n m order f h is = record { scheduler = is.scheduler; round = is.round; few = let few = is.few in omega arith }

all-grow : (W : Parts) (n m : ℕ) (fs : List FrameValue) → n ≤ m → All (IsFrame W n []) fs → All (IsFrame W m []) fs
all-grow W n m fs h all = λ k d lt. grows W n m [] _ h (all k d lt)

-- one event more
longer : (old new : List Event) (e : Event) → new ≡ old ++ e ∷ [] → length old ≤ length new
longer old new e is = let n : length new ≡ length (old ++ e ∷ []) = ap (λ (l : List Event). length l) is in let m = length-append old (e ∷ []) in omega arith

-- if scheduler, round, frames below and order are as before
frames-same : (W : Parts) (old new : StreamValue) (e : Event) → new.log ≡ old.log ++ e ∷ [] → new.top.scheduler ≡ old.top.scheduler → new.top.round ≡ old.top.round
    → new.below ≡ old.below → new.order ≡ old.order → FitsFrames W old → FitsFrames W new
frames-same W old new e log scheduler round below order fits =
    let more = longer old.log new.log e log in
    record {
      top = record {
        scheduler = subst (λ (s : SchedulerValue). IsSchedulerOf W s) (sym scheduler) fits.top.scheduler;
        round = ap (λ (s : SchedulerValue). s.round) scheduler ∙ (fits.top.round ∙ (ap (ahead old.order) (sym round) ∙ ap (λ (ps : List PoolNo). ahead ps new.top.round) (sym order)));
        few = let few = fits.top.few in omega arith;
      };
      below = subst (λ (fs : List FrameValue). All (IsFrame W (length new.log) []) fs) (sym below) (all-grow W (length old.log) (length new.log) old.below more fits.below);
      order = subst (λ (s : SchedulerValue). IsOrderFor W s.number new.order) (sym scheduler)
          (subst (λ (ps : List PoolNo). IsOrderFor W old.top.scheduler.number ps) (sym order) fits.order);
    }

-- and so many more
grown : (old new : List Event) (e : Event) → new ≡ old ++ e ∷ [] → suc (length old) ≤ length new
grown old new e is = let n : length new ≡ length (old ++ e ∷ []) = ap (λ (l : List Event). length l) is in let m = length-append old (e ∷ []) in omega arith

ahead-of : (order : List PoolNo) (round : ℕ) → order ≢ [] → (n : ℕ) → n ≡ ahead order round → n ≡ suc round
ahead-of [] round some n e = absurd (some refl)
ahead-of (p ∷ ps) round some n e = e

-- if a round has ended: the top frame has the next round, and no order is held
round-ended : (W : Parts) (old new : StreamValue) (e : Event) → new.log ≡ old.log ++ e ∷ [] → new.top.scheduler ≡ old.top.scheduler → new.top.round ≡ suc old.top.round
    → new.below ≡ old.below → new.order ≡ [] → old.order ≢ [] → FitsFrames W old → FitsFrames W new
round-ended W old new e log scheduler round below order some fits =
    let more = longer old.log new.log e log in
    let one : suc (length old.log) ≤ length new.log = grown old.log new.log e log in
    let was : old.top.scheduler.round ≡ suc old.top.round = ahead-of old.order old.top.round some old.top.scheduler.round fits.top.round in
    record {
      top = record {
        scheduler = subst (λ (s : SchedulerValue). IsSchedulerOf W s) (sym scheduler) fits.top.scheduler;
        round = ap (λ (s : SchedulerValue). s.round) scheduler ∙ (was ∙ (sym round ∙ ap (λ (ps : List PoolNo). ahead ps new.top.round) (sym order)));
        few = let few = fits.top.few in omega arith;
      };
      below = subst (λ (fs : List FrameValue). All (IsFrame W (length new.log) []) fs) (sym below) (all-grow W (length old.log) (length new.log) old.below more fits.below);
      order = λ holds. absurd (holds order);
    }

last-of : (W : Parts) (n : ℕ) (fs : List FrameValue) (f : FrameValue) → All (IsFrame W n []) (fs ++ f ∷ []) → IsFrame W n [] f
last-of W n [] f all = All-head (IsFrame W n []) f [] all
last-of W n (g ∷ fs) f all = last-of W n fs f (All-tail (IsFrame W n []) g (fs ++ f ∷ []) all)

front-of : (W : Parts) (n : ℕ) (fs : List FrameValue) (f : FrameValue) → All (IsFrame W n []) (fs ++ f ∷ []) → All (IsFrame W n []) fs
front-of W n [] f all = All-nil (IsFrame W n [])
front-of W n (g ∷ fs) f all =
    All-cons (IsFrame W n []) g fs (All-head (IsFrame W n []) g (fs ++ f ∷ []) all) (front-of W n fs f (All-tail (IsFrame W n []) g (fs ++ f ∷ []) all))

-- if a frame is stacked on those that there are
frame-entered : (W : Parts) (g : ℕ) (old new : StreamValue) (e : Event) → new.log ≡ old.log ++ e ∷ [] → IsFreshFrame W g new.top → new.below ≡ old.below ++ old.top ∷ [] → new.order ≡ old.order → old.order ≡ []
    → FitsFrames W old → FitsFrames W new
frame-entered W g old new e log fresh below order none fits =
    let more = longer old.log new.log e log in
    let empty : new.order ≡ [] = order ∙ none in
    record {
      top = record {
        scheduler = fresh.scheduler;
        round = fresh.before ∙ (sym fresh.round ∙ ap (λ (ps : List PoolNo). ahead ps new.top.round) (sym empty));
        few = let first = fresh.round in omega arith;
      };
      below = subst (λ (fs : List FrameValue). All (IsFrame W (length new.log) []) fs) (sym below)
          (All-push (IsFrame W (length new.log) []) old.below old.top (all-grow W (length old.log) (length new.log) old.below more fits.below)
          (grows W (length old.log) (length new.log) [] old.top more (subst (λ (ps : List PoolNo). IsFrame W (length old.log) ps old.top) none fits.top)));
      order = λ holds. absurd (holds empty);
    }

-- if the top frame is gone
frame-left : (W : Parts) (old new : StreamValue) (e : Event) → new.log ≡ old.log ++ e ∷ [] → old.below ≡ new.below ++ new.top ∷ [] → new.order ≡ [] → FitsFrames W old → FitsFrames W new
frame-left W old new e log below order fits =
    let more = longer old.log new.log e log in
    let both = subst (λ (fs : List FrameValue). All (IsFrame W (length new.log) []) fs) below (all-grow W (length old.log) (length new.log) old.below more fits.below) in
    record {
      top = subst (λ (ps : List PoolNo). IsFrame W (length new.log) ps new.top) (sym order) (last-of W (length new.log) new.below new.top both);
      below = front-of W (length new.log) new.below new.top both;
      order = λ holds. absurd (holds order);
    }

-- what is held stays of its shape
shapes-same : (W : Parts) (Z : Stored) (old new : StreamValue) → new.top.scheduler ≡ old.top.scheduler → new.top.round ≡ old.top.round → new.order ≡ old.order → FitsShapes W Z old → FitsShapes W Z new
shapes-same W Z old new scheduler round order shaped =
    subst (λ (ps : List PoolNo). (ps ≢ []) → IsOrder W Z.orders new.top.scheduler.number new.top.round (pool_numbers ps)) (sym order)
    (subst (λ (s : SchedulerValue). (old.order ≢ []) → IsOrder W Z.orders s.number new.top.round (pool_numbers old.order)) (sym scheduler)
    (subst (λ n. (old.order ≢ []) → IsOrder W Z.orders old.top.scheduler.number n (pool_numbers old.order)) (sym round) shaped))

shapes-none : (W : Parts) (Z : Stored) (new : StreamValue) → new.order ≡ [] → FitsShapes W Z new
shapes-none W Z new order = λ holds. absurd (holds order)

-- an order that is as before is the one that was held
order-same : (old new : StreamValue) → new.top.scheduler ≡ old.top.scheduler → new.top.round ≡ old.top.round → new.order ≡ old.order → (new.order ≢ [])
    → IsHeldOrder old new.top.scheduler.number new.top.round (pool_numbers new.order)
order-same old new scheduler round order some =
    (subst (λ (ps : List PoolNo). ps ≢ []) order some, ap (λ (s : SchedulerValue). s.number) scheduler, round, ap pool_numbers order)

-- The events.

-- no event
pub keeps-same : (W : Parts) (old new : StreamValue) → new ≡ old → KeepsStream W old new
keeps-same W old new same = subst (λ (s : StreamValue). KeepsStream W old s) (sym same) (record { number = refl; keeps = refl; budget = refl; frames = λ fits. fits; shapes = λ Z shaped. shaped; follows = record { number = refl; event = inl (refl, refl); order = order-same old old refl refl refl } })

module _ (W : Parts) (old new : StreamValue) (w : What) (n : ℕ) (rooms : Rooms) where
  abbrev written : Event
  written = record { stamp = n; stream = old.number; what = w }

  -- a visit is of the order that was held
  abbrev Visits : Type 0
  Visits = VisitsAnswered (IsHeldOrder old) old.held.own.top w

  -- the frames are as the event leaves them
  abbrev Leads : StreamValue → Type 0
  Leads s = frames_of s.held.own ≡ frames_after W (frames_of old.held.own) w

  -- a stream whose frames and order are as before
  kept : (s : StreamValue) → s.number ≡ old.number → s.keeps ≡ old.keeps → s.budget ≡ old.budget → s.log ≡ old.log ++ written ∷ [] → s.top.scheduler ≡ old.top.scheduler → s.top.round ≡ old.top.round
      → s.below ≡ old.below → s.order ≡ old.order → Visits → Leads s → new ≡ s → KeepsStream W old new
  kept s number keeps budget log scheduler round below order visits leads same = subst (λ (t : StreamValue). KeepsStream W old t) (sym same) (record {
    number = number;
    keeps = keeps;
    budget = budget;
    frames = frames-same W old s written log scheduler round below order;
    shapes = λ Z. shapes-same W Z old s scheduler round order;
    follows = follows-event W old s written number log leads visits (order-same old s scheduler round order);
  })

  -- an event that leaves the frames alone
  pub keeps-holding : (held : Held) → Visits → frames_of held.own ≡ frames_after W (frames_of old.held.own) w → new ≡ wrote (holding old held) w n rooms → KeepsStream W old new
  keeps-holding held visits leads = kept (wrote (holding old held) w n rooms) refl refl refl refl refl refl refl refl visits leads

  -- a missed pool, after which the round goes on
  pub keeps-passed : (p : PoolNo) → Visits → Leads (passed old p) → new ≡ wrote (passed old p) w n rooms → KeepsStream W old new
  keeps-passed p visits leads = kept (wrote (passed old p) w n rooms) refl refl refl refl refl refl refl refl visits leads

  -- a stream whose round has ended
  ended : (s : StreamValue) → old.order ≢ [] → s.number ≡ old.number → s.keeps ≡ old.keeps → s.budget ≡ old.budget → s.log ≡ old.log ++ written ∷ [] → s.top.scheduler ≡ old.top.scheduler → s.top.round ≡ suc old.top.round
      → s.below ≡ old.below → s.order ≡ [] → Visits → Leads s → new ≡ s → KeepsStream W old new
  ended s some number keeps budget log scheduler round below order visits leads same = subst (λ (t : StreamValue). KeepsStream W old t) (sym same) (record {
    number = number;
    keeps = keeps;
    budget = budget;
    frames = round-ended W old s written log scheduler round below order some;
    shapes = λ Z shaped. shapes-none W Z s order;
    follows = follows-event W old s written number log leads visits (λ holds. absurd (holds order));
  })

  -- a taken unit, which ends the round
  pub keeps-took : (o : Owned) → old.order ≢ [] → Visits → Leads (took old o) → new ≡ wrote (took old o) w n rooms → KeepsStream W old new
  keeps-took o some visits leads = ended (wrote (took old o) w n rooms) some refl refl refl refl refl refl refl refl visits leads

  -- a missed pool, which ends the round empty
  pub keeps-emptied : old.order ≢ [] → Visits → Leads (emptied old) → new ≡ wrote (emptied old) w n rooms → KeepsStream W old new
  keeps-emptied some visits leads = ended (wrote (emptied old) w n rooms) some refl refl refl refl refl refl refl refl visits leads

  -- a frame that is entered
  pub keeps-entered : (g : ℕ) (o : Owned) → IsFreshFrame W g new.top → old.order ≡ [] → Visits → Leads (entering g old new.top o) → new ≡ wrote (entering g old new.top o) w n rooms → KeepsStream W old new
  keeps-entered g o fresh none visits leads same =
      let order : new.order ≡ old.order = ap (λ (s : StreamValue). s.order) same in
      record {
        number = ap (λ (s : StreamValue). s.number) same;
        keeps = ap (λ (s : StreamValue). s.keeps) same;
        budget = ap (λ (s : StreamValue). s.budget) same;
        frames = frame-entered W g old new written (ap (λ (s : StreamValue). s.log) same) fresh (ap (λ (s : StreamValue). s.below) same) order none;
        shapes = λ Z shaped. shapes-none W Z new (order ∙ none);
        follows = follows-event W old new written (ap (λ (s : StreamValue). s.number) same) (ap (λ (s : StreamValue). s.log) same)
            (ap (λ (s : StreamValue). frames_of s.held.own) same ∙ leads) visits (λ holds. absurd (holds (order ∙ none)));
      }

-- a frame that is left
pub keeps-left : (W : Parts) (old new : StreamValue) (os : List Owned) (o : Owned) → Leaves old new os o → KeepsStream W old new
keeps-left W old new os o leaves =
    let order : new.order ≡ [] = ap (λ (s : StreamValue). s.order) leaves.same in
    let event : Event = record { stamp = suc old.clock; stream = old.number; what = what.Leave (unit_no o.number) } in
    record {
      number = ap (λ (s : StreamValue). s.number) leaves.same;
      keeps = ap (λ (s : StreamValue). s.keeps) leaves.same;
      budget = ap (λ (s : StreamValue). s.budget) leaves.same;
      frames = frame-left W old new event (ap (λ (s : StreamValue). s.log) leaves.same) leaves.below order;
      shapes = λ Z shaped. shapes-none W Z new order;
      follows = follows-event W old new event (ap (λ (s : StreamValue). s.number) leaves.same) (ap (λ (s : StreamValue). s.log) leaves.same)
          (ap (λ (s : StreamValue). frames_of s.held.own) leaves.same ∙ left-frames old.held.own old.held.own.below) tt (λ holds. absurd (holds order));
    }
