-- Turns of streams, one event or one turn more.
use Rattle.std.proofs.Common.{◌≡◌, ◌∙◌, ◌||◌, ℕ, Bool, true, false, List, [], ◌∷◌, ◌++◌, ap, append-nil, append_assoc, inl, inr, refl, subst, sym}
use Rattle.abt_machine.specs.declared.events.Event.{Event}
use Rattle.abt_machine.specs.declared.events.What.{What}
use Rattle.abt_machine.specs.declared.workload.Parts.{Parts}
use Rattle.abt_machine.specs.Outcomes.{Spent, is_step}
use Rattle.abt_machine.specs.Runs.{last_state}
use Rattle.abt_drain.specs.InRotation.{EndsTurns}
use Rattle.abt_outcomes.specs.Rotations.{HasNoStep}
use Rattle.abt_explore.specs.Laws.{next_event}
use Rattle.abt_schedule.specs.declared.reached.Turn.{Turn}
use Rattle.abt_schedule.specs.declared.reached.Turn.TheVariants as last
use Rattle.abt_schedule.specs.Reaching.{IsTurnBy}
use Rattle.abt_schedule.specs.Courses.{HasMade, HasStepped, HasTurned, HaveTurned}
use Rattle.abt_schedule.specs.Seeds.{AreTurnsOf, IsTurn}

-- no step in both
pub no-steps : (es fs : List Event) → HasNoStep es → HasNoStep fs → HasNoStep (es ++ fs)
no-steps [] fs a b = b
no-steps (e ∷ es) fs a b = (a.0, no-steps es fs a.1 b)

no-steps-first : (es fs : List Event) → HasNoStep (es ++ fs) → HasNoStep es
no-steps-first [] fs h = tt
no-steps-first (e ∷ es) fs h = (h.0, no-steps-first es fs h.1)

no-steps-rest : (es fs : List Event) → HasNoStep (es ++ fs) → HasNoStep fs
no-steps-rest [] fs h = h
no-steps-rest (e ∷ es) fs h = no-steps-rest es fs h.1

pub has-stepped : (a b : Bool) (es fs : List Event) → HasStepped a es → HasStepped b fs → HasStepped (a || b) (es ++ fs)
has-stepped true b es fs h k = λ none. h (no-steps-first es fs none)
has-stepped false true es fs h k = λ none. k (no-steps-rest es fs none)
has-stepped false false es fs h k = no-steps es fs h k

-- One turn.

-- stream s went on from the events J to K by events that are no steps, and its turn goes on
pub record GoesOn (W : Parts) (n s : ℕ) (J K : List Event) : Type 0 where
  pub events : List Event
  pub all : K ≡ J ++ events
  pub none : HasNoStep events
  pub rest : (es : List Event) → IsTurn W n s K es → IsTurn W n s J (events ++ es)

pub goes-none : (W : Parts) (n s : ℕ) (J : List Event) → GoesOn W n s J J
goes-none W n s J = record { events = []; all = sym (append-nil J); none = tt; rest = λ es turn. turn }

module _ (W : Parts) (n s : ℕ) (J K : List Event) (goes : GoesOn W n s J K) where
  -- one event more, which does not end the turn
  goes-more : (L : List Event) (e : Event) → L ≡ K ++ e ∷ [] → (Spent W n K s → ⊥) → e.stream.0 ≡ s → (EndsTurns W s K e → ⊥) → is_step e.what ≡ false → GoesOn W n s J L
  goes-more L e is able own other step = record {
    events = goes.events ++ e ∷ [];
    all = is ∙ (ap (λ xs. xs ++ e ∷ []) goes.all ∙ append_assoc J goes.events (e ∷ []));
    none = no-steps goes.events (e ∷ []) goes.none (step, tt);
    rest = λ es turn. subst (IsTurn W n s J) (sym (append_assoc goes.events (e ∷ []) es)) (goes.rest (e ∷ es) (able, own, inr (other, subst (λ xs. IsTurn W n s xs es) is turn)));
  }

  -- the stream is spent
  pub turned-spent : Spent W n K s → HasTurned W n s J false K
  turned-spent spent = (goes.events ++ [], goes.all ∙ ap (λ xs. J ++ xs) (sym (append-nil goes.events)), goes.rest [] spent, subst HasNoStep (sym (append-nil goes.events)) goes.none)

  -- an event ends the turn
  turned-last : (L : List Event) (e : Event) (b : Bool) → L ≡ K ++ e ∷ [] → (Spent W n K s → ⊥) → e.stream.0 ≡ s → EndsTurns W s K e → is_step e.what ≡ b → HasTurned W n s J b L
  turned-last L e b is able own ends step = (
    goes.events ++ e ∷ [],
    is ∙ (ap (λ xs. xs ++ e ∷ []) goes.all ∙ append_assoc J goes.events (e ∷ [])),
    goes.rest (e ∷ []) (able, own, inl (ends, refl)),
    stepped b step,
  ) where
    stepped : (b : Bool) → is_step e.what ≡ b → HasStepped b (goes.events ++ e ∷ [])
    stepped true step = λ none. let here : HasNoStep (e ∷ []) = no-steps-rest goes.events (e ∷ []) none in let both : true ≡ false = sym step ∙ here.0 in cc
    stepped false step = no-steps goes.events (e ∷ []) goes.none (step, tt)

-- Turns of several streams.

-- the first of these streams had their turns after the events J, by which came K, and the others are to have theirs
pub record AreOn (W : Parts) (n : ℕ) (streams others : List ℕ) (J : List Event) (stepped : Bool) (K : List Event) : Type 0 where
  pub events : List Event
  pub all : K ≡ J ++ events
  pub step : HasStepped stepped events
  pub rest : (es : List Event) → AreTurnsOf W n others K es → AreTurnsOf W n streams J (events ++ es)

pub are-none : (W : Parts) (n : ℕ) (streams : List ℕ) (J : List Event) → AreOn W n streams streams J false J
are-none W n streams J = record { events = []; all = sym (append-nil J); step = tt; rest = λ es turns. turns }

-- one turn more
pub are-more : (W : Parts) (n s : ℕ) (streams others : List ℕ) (J K L : List Event) (a b : Bool) → AreOn W n streams (s ∷ others) J a K → HasTurned W n s K b L → AreOn W n streams others J (a || b) L
are-more W n s streams others J K L a b on (turn, is, first, step) = record {
  events = on.events ++ turn;
  all = is ∙ (ap (λ xs. xs ++ turn) on.all ∙ append_assoc J on.events turn);
  step = has-stepped a b on.events turn on.step step;
  rest = λ es turns. subst (AreTurnsOf W n streams J) (sym (append_assoc on.events turn es))
      (on.rest (turn ++ es) (turn, es, refl, first, subst (λ xs. AreTurnsOf W n others xs es) is turns));
}

-- all turns
pub are-all : (W : Parts) (n : ℕ) (streams : List ℕ) (J K : List Event) (a : Bool) → AreOn W n streams [] J a K → HaveTurned W n streams J a K
are-all W n streams J K a on = (
  on.events ++ [],
  on.all ∙ ap (λ xs. J ++ xs) (sym (append-nil on.events)),
  on.rest [] refl,
  subst (HasStepped a) (sym (append-nil on.events)) on.step,
)

-- Events.

module _ (W : Parts) (s : ℕ) (J K : List Event) (w : What) (is : K ≡ J ++ next_event J s w ∷ []) where
  -- a step ends the turn
  stepped-ends : IsTurnBy W K s w last.Stepped → EndsTurns W s J (next_event J s w)
  stepped-ends step = inl step

  -- so does a miss that ends the round empty
  emptied-ends : IsTurnBy W K s w last.Emptied → EndsTurns W s J (next_event J s w)
  emptied-ends made = inr (refl, made.1, subst (λ xs. ((last_state W xs).stream s).top.empty ≡ true) is made.2)

  -- and no other event
  other-goes : IsTurnBy W K s w last.GoesOn → EndsTurns W s J (next_event J s w) → ⊥
  other-goes made (inl step) = let both : true ≡ false = sym step ∙ made.0 in cc
  other-goes made (inr ends) =
      let empty : ((last_state W K).stream s).top.empty ≡ true = subst (λ xs. ((last_state W xs).stream s).top.empty ≡ true) (sym is) ends.2 in
      let both : true ≡ false = sym empty ∙ made.1 ends.1 in cc

module _ (W : Parts) (n s : ℕ) (J K L : List Event) (turn : Turn) (goes : GoesOn W n s J K) (made : HasMade W s K turn L) (able : Spent W n K s → ⊥) where
  -- the stream made an event, which is a step
  pub turned-stepped : turn ≡ last.Stepped → HasTurned W n s J true L
  turned-stepped is =
      let by : IsTurnBy W L s made.0 last.Stepped = subst (λ (t : Turn). IsTurnBy W L s made.0 t) is made.2 in
      turned-last W n s J K goes L (next_event K s made.0) true made.1 able refl (stepped-ends W s K L made.0 made.1 by) by

  -- or ends the round empty
  pub turned-emptied : turn ≡ last.Emptied → HasTurned W n s J false L
  turned-emptied is =
      let by : IsTurnBy W L s made.0 last.Emptied = subst (λ (t : Turn). IsTurnBy W L s made.0 t) is made.2 in
      turned-last W n s J K goes L (next_event K s made.0) false made.1 able refl (emptied-ends W s K L made.0 made.1 by) by.0

  -- or does not end the turn
  pub goes-further : turn ≡ last.GoesOn → GoesOn W n s J L
  goes-further is =
      let by : IsTurnBy W L s made.0 last.GoesOn = subst (λ (t : Turn). IsTurnBy W L s made.0 t) is made.2 in
      goes-more W n s J K goes L (next_event K s made.0) made.1 able refl (other-goes W s K L made.0 made.1 by) by.0
