-- What each part of the code makes of a stream is a step of it.
use Rattle.std.proofs.Common.{◌≡◌, ◌∙◌, ℕ, ◌<◌, Bool, true, false, List, [], ◌∷◌, Option, None, Some, ap, inr, length, option_map, refl, subst, sym}
use Rattle.std.proofs.lemmas.List.Elements.{All-contains}
use Rattle.std.specs.Prelude.{IfSome}
use Rattle.abt_machine.specs.declared.events.Site.TheVariants as site
use Rattle.abt_machine.specs.declared.events.What.{What}
use Rattle.abt_machine.specs.declared.events.What.TheVariants as what
use Rattle.abt_machine.specs.declared.numbers.PoolNo.{PoolNo}
use Rattle.abt_machine.specs.declared.numbers.UnitNo.{UnitNo}
use Rattle.abt_machine.specs.Stored.{Stored}
use Rattle.abt_machine.specs.declared.workload.Parts.{Parts}
use Rattle.abt_machine.specs.Acts.{Answer}
use Rattle.abt_machine.specs.Acts as act
use Rattle.abt_machine.specs.Next.{Due, LookDue, PutDue, RoundDue, due_by, due_of_unit}
use Rattle.abt_machine.specs.Numbers.{pool_no, unit_no}
use Rattle.abt_machine.specs.Queues.{first}
use Rattle.abt_machine.specs.Rounds.{IsNextPool}
use Rattle.abt_machine.specs.State.{Frame}
use Rattle.abt_machine.specs.Fronts.{side_of}
use Rattle.abt_machine.specs.Turns.{Heard, Steps, due_of, looked, number_and_position}
use Rattle.abt_machine.specs.Values.{Held, Object, Owned}
use Rattle.abt_machine.specs.Valid.{IsValid}
use Rattle.abt_machine.specs.Workloads.{body_at, pools_of}
use Rattle.abt_machine.proofs.Declared.{listed-declared}
use Rattle.abt_laws.proofs.Dues.{no-round-in-hand}
use Rattle.abt_laws.proofs.Orders.{next_pool-listed}
use Rattle.abt_bounds.specs.Laws.{returned, visited}
use Rattle.abt_calls.specs.Allowed.{Allows}
use Rattle.abt_calls.specs.Suits.{Suits}
use Rattle.abt_calls.proofs.Asked.{takes-may-call}
use Rattle.abt_calls.proofs.Suited.{answers-suit}
use Rattle.abt_replay.specs.Events.{AreObjects, CannotCall, Looks, MakesEvent, ReturnsSaid, Runs, Visits, Woken, in_hand}
use Rattle.abt_replay.specs.Objects.{ObjectsValue, object_at}
use Rattle.abt_model.specs.Turns.{IsOfWorkload, MovesAs}

-- What may be asked.

pub put-allowed : (W : Parts) (objects : ObjectsValue) (o : Owned) → AreObjects W objects → o.carried.home < length W.pools → Allows (object_at objects (site.Pool (pool_no o.carried.home))) (act.Put o)
put-allowed W objects o are home = subst (λ (q : Object). Allows q (act.Put o)) (sym (are.1 (site.Pool (pool_no o.carried.home)) home)) tt

pub look-allowed : (W : Parts) (objects : ObjectsValue) (o : Owned) → AreObjects W objects → o.number < length W.units → Allows (object_at objects (site.Desk (unit_no o.number))) act.Look
look-allowed W objects o are number = subst (λ (q : Object). Allows q act.Look) (sym (are.1 (site.Desk (unit_no o.number)) number)) tt

pub take-allowed : (W : Parts) (objects : ObjectsValue) (s : ℕ) (p : PoolNo) → AreObjects W objects → p.0 < length W.pools → Allows (object_at objects (site.Pool p)) (act.Take (side_of W s p.0))
take-allowed W objects s p are declared =
    subst (λ (q : Object). Allows q (act.Take (side_of W s p.0))) (sym (are.1 (site.Pool p) declared)) ((takes-may-call W s p declared).allowed are.0)

-- a unit that is there is the workload's
pub some-of : (W : Parts) (held : Option Owned) (o : Owned) → held ≡ Some o → IfSome held (IsOfWorkload W) → IsOfWorkload W o
some-of W held o is h = subst (λ (x : Option Owned). IfSome x (IsOfWorkload W)) is h

pub first-of : (W : Parts) (tray os : List Owned) (o : Owned) → tray ≡ o ∷ os → IfSome (first tray) (IsOfWorkload W) → IsOfWorkload W o
first-of W tray os o is h = some-of W (first tray) o (ap first is) h

-- What is due.

-- what is due for these parts of a stream
abbrev due_for : Parts → ℕ → Held → List Owned → Option Owned → Option Owned → Due
due_for W s held tray next hand = due_by {X = Owned} {Y = Owned} W s held.own tray next (option_map number_and_position hand)

module _ (W : Parts) (s : ℕ) (held : Held) where
  put-due : (o : Owned) (os : List Owned) → held.tray ≡ o ∷ os → due_of W s held ≡ PutDue
  put-due o os tray = ap (λ (t : List Owned). due_for W s held t held.next held.hand) tray

  look-due : (o : Owned) → held.tray ≡ [] → held.next ≡ Some o → due_of W s held ≡ LookDue
  look-due o tray next = ap (λ (t : List Owned). due_for W s held t held.next held.hand) tray ∙ ap (λ (n : Option Owned). due_for W s held [] n held.hand) next

  hand-due : (o : Owned) → held.tray ≡ [] → held.next ≡ None → held.hand ≡ Some o → due_of W s held ≡ due_of_unit W s held.own.mark (body_at W o.number) o.carried.position
  hand-due o tray next hand =
      ap (λ (t : List Owned). due_for W s held t held.next held.hand) tray ∙ (ap (λ (n : Option Owned). due_for W s held [] n held.hand) next ∙ ap (λ (h : Option Owned). due_for W s held [] None h) hand)

-- Steps.

put-rested : (o : Owned) (a : Answer) → Suits (act.Put o) a → a ≡ act.Rested
put-rested o act.Rested h = refl
put-rested o a h = absurd h

looked-taken : (old : Held) (o : Owned) (cancel : Bool) (migrate : Option ℕ) → looked (record old { next = None }) o cancel migrate ≡ looked old o cancel migrate
looked-taken old o true migrate = refl
looked-taken old o false None = refl
looked-taken old o false (Some p) = refl

module _ (W : Parts) (Z : Stored) (s : ℕ) (old : Held) (before : ObjectsValue) (named : What) (made : What) (new : Held) (after : ObjectsValue) where
  -- a kind of event that is no round
  no-round : (d : Due) → due_of W s old ≡ d → (d ≡ RoundDue → ⊥) → MakesEvent W Z s old before made new after → ReturnsSaid (returned named) made → MovesAs W Z s old before named (Some made) new after
  no-round d due other moves says = (moves, λ r. absurd (other (sym due ∙ r)), says)

  pub put-moves : (o : Owned) → old.tray ≡ o ∷ new.tray → new ≡ record old { tray = new.tray } → Woken before o made after → MovesAs W Z s old before named (Some made) new after
  put-moves o tray others h =
      let x = site.Pool (pool_no o.carried.home) in
      let is : h.call.0 ≡ act.Rested = put-rested o h.call.0 (answers-suit (object_at before x) (act.Put o) h.call.0 (object_at after x) h.call.1.gives) in
      let due : due_of W s old ≡ PutDue = put-due W s old o new.tray tray in
      let heard : Option Heard = Some (x, act.Put o, h.call.0) in
      no-round PutDue due (λ e. cc)
      (heard, subst (λ (w : What). Steps W Z s old w heard new) (sym h.made_is) (due, o, new.tray, tray, refl, refl, ap (λ (a : Answer). Some (x, act.Put o, a)) is, others), h.call.1)
      (subst (ReturnsSaid (returned named)) (sym h.made_is) tt)

  pub look-moves : (o : Owned) (taken : Held) → old.tray ≡ [] → old.next ≡ Some o → taken ≡ record old { next = None } → Looks taken before o made new after → MovesAs W Z s old before named (Some made) new after
  look-moves o taken tray next rest h =
      let due : due_of W s old ≡ LookDue = look-due W s old o tray next in
      let heard : Option Heard = Some (site.Desk (unit_no o.number), act.Look, act.Asks h.call.0 h.call.1) in
      no-round LookDue due (λ e. cc) (
        heard,
        subst (λ (w : What). Steps W Z s old w heard new) (sym h.made_is)
            (due, o, next, refl, h.call.0, h.call.1, refl, h.call.3 ∙ (ap (λ (held : Held). looked held o h.call.0 h.call.1) rest ∙ looked-taken old o h.call.0 h.call.1)),
        h.call.2,
      ) (subst (ReturnsSaid (returned named)) (sym h.made_is) tt)

-- the unit in hand, which goes on or cannot call
module _ (W : Parts) (Z : Stored) (s : ℕ) (old : Held) (before : ObjectsValue) (named : What) (new : Held) (after : ObjectsValue) where
  pub run-moves : (made : Option What) (o : Owned) (taken : Held) → old.tray ≡ [] → old.next ≡ None → old.hand ≡ Some o → taken ≡ record old { hand = None } → Runs W Z s o taken before (returned named) made new after
      → MovesAs W Z s old before named made new after
  run-moves (Some made) o taken tray next hand rest moves =
      let same : in_hand o taken ≡ old = ap (in_hand o) rest ∙ ap (λ (h : Option Owned). record old { hand = h }) (sym hand) in
      no-round W Z s old before named made new after (due_of_unit W s old.own.mark (body_at W o.number) o.carried.position) (hand-due W s old o tray next hand) (no-round-in-hand W s old.own.mark (body_at W o.number) o.carried.position)
      (subst (λ (held : Held). MakesEvent W Z s held before made new after) same moves.0) moves.1
  run-moves None o taken tray next hand rest moves =
      let same : in_hand o taken ≡ old = ap (in_hand o) rest ∙ ap (λ (h : Option Owned). record old { hand = h }) (sym hand) in
      inr (o, subst (λ (held : Held). CannotCall W Z s o held (returned named)) same moves)

-- a round at a pool that may be next
pub visit-moves : (W : Parts) (Z : Stored) (s : ℕ) (old : Held) (before : ObjectsValue) (named : What) (p : PoolNo) (made : What) (new : Held) (after : ObjectsValue) → due_of W s old ≡ RoundDue
    → IsNextPool W Z.orders old.own.top p.0 → visited named ≡ Some p.0 → Visits W s old before p made new after → MovesAs W Z s old before named (Some made) new after
visit-moves W Z s old before named p (what.Miss q) new after due next is h =
    let same : q.0 ≡ p.0 = ap (λ (x : PoolNo). x.0) h.0 in
    let heard : Option Heard = Some (site.Pool p, act.Take (side_of W s p.0), act.Miss) in
    (subst (λ (x : PoolNo). MakesEvent W Z s old before (what.Miss x) new after) (sym h.0) (heard, (due, next, refl, h.2), h.1), λ r. ap (λ n. Some n) same ∙ sym is, tt)
visit-moves W Z s old before named p (what.Take q u) new after due next is h =
    let same : q.0 ≡ p.0 = ap (λ (x : PoolNo). x.0) h.0 in
    let heard : Option Heard = Some (site.Pool p, act.Take (side_of W s p.0), act.Given h.1) in
    (subst (λ (x : PoolNo). MakesEvent W Z s old before (what.Take x u) new after) (sym h.0) (heard, (due, next, h.1, sym (ap (λ (v : UnitNo). v.0) h.2), refl, h.4), h.3), λ r. ap (λ n. Some n) same ∙ sym is, tt)
visit-moves W Z s old before named p made new after due next is h = absurd h

-- the pools of a round
pub next-declared : (W : Parts) (Z : Stored) (f : Frame) (p : ℕ) → IsValid W → IsNextPool W Z.orders f p → p < length W.pools
next-declared W Z f p valid next =
    All-contains (λ q. q < length W.pools) (pools_of W f.sched) p (listed-declared W f.sched valid) (next_pool-listed W Z f p next)
