-- A sound state stays sound without the numbers of rounds.
use Rattle.std.proofs.Common.{◌≡◌, ℕ, ◌<◌, ◌≤◌, ◌-◌, List, [], ◌∷◌, length, map, Option, Some, ap, sym, ◌∙◌, subst, option_map, slice_get, arith}
use Rattle.std.specs.Prelude.{IfSome}
use Rattle.std.proofs.lemmas.List.{length-map}
use Rattle.std.proofs.lemmas.Option.{slice_get-map}
use Rattle.abt_machine.specs.declared.events.Place.{Place}
use Rattle.abt_machine.specs.declared.events.Place.TheVariants as place
use Rattle.abt_machine.specs.declared.events.Spot.TheVariants as spot
use Rattle.abt_machine.specs.declared.operations.Body.{Body}
use Rattle.abt_machine.specs.declared.operations.Body.TheVariants as body
use Rattle.abt_machine.specs.declared.operations.OrderShape.{OrderShape}
use Rattle.abt_machine.specs.declared.operations.Thing.{Thing}
use Rattle.abt_machine.specs.declared.operations.Thing.TheVariants as thing
use Rattle.abt_machine.specs.Stored.{Stored}
use Rattle.abt_machine.specs.declared.workload.Parts.{Parts}
use Rattle.abt_machine.specs.Queues.{last}
use Rattle.abt_machine.specs.Sound.{AllAtRest, AllUnderWay, HoldsUp, IsPlaced, IsUnderWay, RunsSched, Sound, frames_of, stacked_frame}
use Rattle.abt_machine.specs.State.{Frame, State, Stream}
use Rattle.abt_machine.specs.Workloads.{body_at, thing_at}
use Rattle.abt_model.specs.Models.{IsAfter}
use Rattle.std.specs.List.{AllByRecursion}
use Rattle.abt_explore.specs.Orders.{KeepsOrder}
use Rattle.abt_replay.specs.Unnumbered.{unnumbered, unnumbered_frame}
use Rattle.abt_explore.specs.Unnumbered.{unnumbered_state}
use Rattle.abt_explore.proofs.SameEvents.{order-forgotten}

-- Frames.

rest-forgotten : (fs : List Frame) → AllAtRest fs → AllAtRest (map unnumbered_frame fs)
rest-forgotten [] rest = tt
rest-forgotten (f ∷ []) rest = rest
rest-forgotten (f ∷ g ∷ fs) rest = (rest.0, rest.1, rest-forgotten (g ∷ fs) rest.2)

way-forgotten : (W : Parts) (orders : List OrderShape) → KeepsOrder W orders → (fs : List Frame) → AllUnderWay W orders fs → AllUnderWay W orders (map unnumbered_frame fs)
way-forgotten W orders keeps [] way = tt
way-forgotten W orders keeps (f ∷ fs) way =
    let first : IsUnderWay W orders f = way.0 in
    ((first.0, order-forgotten W orders keeps f first.0 first.1, first.2, first.3, first.4), way-forgotten W orders keeps fs way.1)

last-forgotten : (n : ℕ) (fs : List Frame) → IfSome (last fs) (λ f. f.sched ≡ n) → IfSome (last (map unnumbered_frame fs)) (λ f. f.sched ≡ n)
last-forgotten n [] is = tt
last-forgotten n (f ∷ []) is = is
last-forgotten n (f ∷ g ∷ fs) is = last-forgotten n (g ∷ fs) is

begun-forgotten : (fs : List Frame) → AllByRecursion (λ (f : Frame). f.round ≤ 0) (map unnumbered_frame fs)
begun-forgotten [] = tt
begun-forgotten (f ∷ fs) = (omega arith, begun-forgotten fs)

runs-forgotten : (b : Body) (f : Option Frame) → RunsSched b f → RunsSched b (option_map unnumbered_frame f)
runs-forgotten (body.Sched g) (Some f) runs = runs
runs-forgotten b f runs = absurd runs

stacked-forgotten : (own : Stream) (d : ℕ) → stacked_frame (unnumbered own) d ≡ option_map unnumbered_frame (stacked_frame own d)
stacked-forgotten own d =
    ap (λ n. slice_get (map unnumbered_frame (frames_of own)) ((n - 1) - d)) (length-map own.below unnumbered_frame)
    ∙ slice_get-map unnumbered_frame (frames_of own) ((length own.below - 1) - d)

-- Units.

module _ (W : Parts) (S : State) where
  holds-forgotten : (x : ℕ) (t : Option Thing) → HoldsUp W S x t → HoldsUp W (unnumbered_state S) x t
  holds-forgotten x (Some thing.Mutex) holds = holds
  holds-forgotten x t holds = holds

  placed-forgotten : (u : ℕ) (pl : Place) → IsPlaced W S u pl → IsPlaced W (unnumbered_state S) u pl
  placed-forgotten u (place.Hand s) is = (is.0, rest-forgotten (frames_of (S.stream s.0)) is.1)
  placed-forgotten u (place.Next s) is = (is.0, rest-forgotten (frames_of (S.stream s.0)) is.1)
  placed-forgotten u (place.Tray s t) is = (is.0, rest-forgotten (frames_of (S.stream s.0)) is.1)
  placed-forgotten u (place.Frame s d) is = (
    is.0,
    subst (λ n. d < n) (sym (length-map (S.stream s.0).below unnumbered_frame)) is.1,
    subst (RunsSched (body_at W u)) (sym (stacked-forgotten (S.stream s.0) d)) (runs-forgotten (body_at W u) (stacked_frame (S.stream s.0) d) is.2),
  )
  placed-forgotten u (place.Blocked (spot.Object x) t) is = (is.0, holds-forgotten x.0 (thing_at W x.0) is.1)
  placed-forgotten u pl is = is

-- States.

module _ (W : Parts) (Z : Stored) (keeps : KeepsOrder W Z.orders) (S : State) (sound : Sound W Z S) where
  pub sound-forgotten : Sound W Z (unnumbered_state S)
  sound-forgotten = record {
    one_each = sound.one_each;
    hand_or_next = sound.hand_or_next;
    undeclared = sound.undeclared;
    placed = λ u. placed-forgotten W S u (S.place u) (sound.placed u);
    frames_hold = λ s d l. sound.frames_hold s d (subst (λ n. d < n) (length-map (S.stream s).below unnumbered_frame) l);
    lowest = λ s l. last-forgotten _ (frames_of (S.stream s)) (sound.lowest s l);
    under_way = λ s l. way-forgotten W Z.orders keeps (frames_of (S.stream s)) (sound.under_way s l);
    below_rest = λ s l. rest-forgotten (S.stream s).below (sound.below_rest s l);
    filled = sound.filled;
    waiting = sound.waiting;
    counts = sound.counts;
    wishes = sound.wishes;
    locks = sound.locks;
    keys = sound.keys;
    homes = sound.homes;
    requests = sound.requests;
    positions = sound.positions;
  }

  -- events can have led to it, and no frame has begun a round
  pub after-forgotten : IsAfter W Z 0 (unnumbered_state S)
  after-forgotten = record { sound = sound-forgotten; rounds = λ s. begun-forgotten (frames_of (S.stream s)) }
