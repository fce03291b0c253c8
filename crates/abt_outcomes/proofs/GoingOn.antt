-- A journal that has not stopped goes on, or to its stop.
use Rattle.std.proofs.Common.{◌≡◌, ℕ, List, [], ◌∷◌, ◌++◌, Option, Some, None, option_map, refl, ap, sym, ◌∙◌, subst, ◌⊎◌, inl, inr}
use Rattle.abt_machine.specs.declared.events.Event.{Event}
use Rattle.abt_machine.specs.declared.workload.Parts.{Parts}
use Rattle.abt_machine.specs.Workloads.{start_of}
use Rattle.abt_machine.specs.Queues.{first}
use Rattle.abt_machine.specs.Lines.{Line, InTray, InHand, InNext, hand, next, standing, ticket_in}
use Rattle.abt_machine.specs.Next.{StepDue, RoundDue, at_position, due, due_by, due_by_hand, due_by_next}
use Rattle.abt_laws.proofs.Options.{none≢some}
use Rattle.abt_laws.proofs.Standing.{empty-standing}
use Rattle.abt_machine.specs.Runs.{state_after}
use Rattle.abt_machine.specs.Start.{start, start_place}
use Rattle.abt_machine.specs.State.{State}
use Rattle.abt_machine.specs.Events.{after}
use Rattle.abt_outcomes.specs.Laws.{EmptiedGrows, StopsAreLast, StopsGrow}
use Rattle.abt_outcomes.specs.OneStream.{EndsRound, GoesToItsStop, HasEndedEmpty, HasNotStopped, HasStopped}
use Rattle.abt_outcomes.specs.Rotations.{HasEmptied}

tail-is : {A : Type 0} {x y : A} {xs ys : List A} → x ∷ xs ≡ y ∷ ys → xs ≡ ys
tail-is e = cc

head-is : {A : Type 0} {x y : A} {xs ys : List A} → x ∷ xs ≡ y ∷ ys → x ≡ y
head-is e = cc

-- a prefix of a list with one more item is the whole, or a prefix of the list
prefix-cases : (J prefix rest : List Event) (e : Event) → J ++ e ∷ [] ≡ prefix ++ rest → (prefix ≡ J ++ e ∷ []) ⊎ ((more : List Event) × (J ≡ prefix ++ more))
prefix-cases J [] rest e is = inr (J, refl)
prefix-cases [] (f ∷ []) rest e is = inl (ap (λ x. x ∷ []) (sym (head-is is)))
prefix-cases [] (f ∷ g ∷ prefix) rest e is = cc
prefix-cases (j ∷ J) (f ∷ prefix) rest e is =
    let same : j ≡ f = head-is is in
    elim (prefix-cases J prefix rest e (tail-is is)) [
      | inl whole ↦ inl (ap (λ xs. f ∷ xs) whole ∙ ap (λ x. x ∷ J ++ e ∷ []) (sym same))
      | inr less ↦ inr (less.0, ap (λ x. x ∷ J) same ∙ ap (λ xs. f ∷ xs) less.1)
    ]

goes-on : (W : Parts) (n : ℕ) (J : List Event) (e : Event) → HasNotStopped W n J → (HasStopped W n (J ++ e ∷ []) → ⊥) → HasNotStopped W n (J ++ e ∷ [])
goes-on W n J e none not prefix rest is stops =
    elim (prefix-cases J prefix rest e is) [
      | inl whole ↦ not (subst (HasStopped W n) whole stops)
      | inr less ↦ none prefix less.0 less.1 stops
    ]

-- a prefix before an event is a prefix without the last one
shorter : (J prefix rest : List Event) (e f : Event) → J ++ e ∷ [] ≡ prefix ++ f ∷ rest → (more : List Event) × (J ≡ prefix ++ more)
shorter J [] rest e f is = (J, refl)
shorter [] (g ∷ []) rest e f is = cc
shorter [] (g ∷ h ∷ prefix) rest e f is = cc
shorter (j ∷ J) (g ∷ prefix) rest e f is =
    let less : (more : List Event) × (J ≡ prefix ++ more) = shorter J prefix rest e f (tail-is is) in
    (less.0, ap (λ x. x ∷ J) (head-is is) ∙ ap (λ xs. g ∷ xs) less.1)

goes-to : (W : Parts) (n : ℕ) (J : List Event) (e : Event) → HasNotStopped W n J → HasStopped W n (J ++ e ∷ []) → GoesToItsStop W n (J ++ e ∷ [])
goes-to W n J e none stops = record {
  stops = stops;
  not_before = λ prefix rest f is stop. (let less : (more : List Event) × (J ≡ prefix ++ more) = shorter J prefix rest e f is in none prefix less.0 less.1 stop);
}

-- at the start no stream holds a unit

start-tray : (W : Parts) (u : ℕ) (o : Option ℕ) → ticket_in (InTray 0) (start_place W u o) ≡ None
start-tray W u None = refl
start-tray W u (Some p) = refl

start-next : (W : Parts) (u : ℕ) (o : Option ℕ) → ticket_in (InNext 0) (start_place W u o) ≡ None
start-next W u None = refl
start-next W u (Some p) = refl

start-hand : (W : Parts) (u : ℕ) (o : Option ℕ) → ticket_in (InHand 0) (start_place W u o) ≡ None
start-hand W u None = refl
start-hand W u (Some p) = refl

start-empty : (W : Parts) (l : Line) → ((u : ℕ) → ticket_in l ((start W).place u) ≡ None) → standing W (start W) l ≡ []
start-empty W l none = empty-standing W (start W) l (λ v t h. none≢some (sym (none v) ∙ h))

start-due : (W : Parts) → due W (start W) 0 ≡ RoundDue
start-due W =
    let S : State = start W in
    ap (λ us. due_by W 0 (S.stream 0) us (next W S 0) (option_map (at_position S) (hand W S 0))) (start-empty W (InTray 0) (λ u. start-tray W u (start_of W u)))
    ∙ ap (λ us. due_by_next W 0 (S.stream 0) (first us) (option_map (at_position S) (hand W S 0))) (start-empty W (InNext 0) (λ u. start-next W u (start_of W u)))
    ∙ ap (λ us. due_by_hand W 0 (S.stream 0) (option_map (at_position S) (first us))) (start-empty W (InHand 0) (λ u. start-hand W u (start_of W u)))

no-last : (prefix : List Event) (e : Event) → [] ≡ prefix ++ e ∷ [] → ⊥
no-last [] e is = cc
no-last (f ∷ prefix) e is = cc

start-idle : (W : Parts) (n : ℕ) → HasStopped W n [] → ⊥
start-idle W n stops =
    elim stops [
      | inl ended ↦ no-last ended.0 ended.1 ended.2
      | inr spent ↦ (let e : RoundDue ≡ StepDue = sym (start-due W) ∙ spent.2 in cc)
    ]

prefix-none : (prefix rest : List Event) → [] ≡ prefix ++ rest → prefix ≡ []
prefix-none [] rest e = refl
prefix-none (f ∷ prefix) rest e = cc

pub stops-grow : (W : Parts) → StopsGrow W
stops-grow W n = (
  (λ prefix rest is stops. start-idle W n (subst (HasStopped W n) (prefix-none prefix rest is) stops)),
  (λ J e none. (goes-on W n J e none, goes-to W n J e none)),
)

-- what stands before the last event of a journal is all but that
last-is : (J prefix : List Event) (e f : Event) → J ++ e ∷ [] ≡ prefix ++ f ∷ [] → (J ≡ prefix) × (e ≡ f)
last-is [] [] e f is = (refl, head-is is)
last-is [] (g ∷ []) e f is = cc
last-is [] (g ∷ h ∷ prefix) e f is = cc
last-is (j ∷ []) [] e f is = cc
last-is (j ∷ k ∷ J) [] e f is = cc
last-is (j ∷ J) (g ∷ prefix) e f is =
    let rest : (J ≡ prefix) × (e ≡ f) = last-is J prefix e f (tail-is is) in
    (ap (λ x. x ∷ J) (head-is is) ∙ ap (λ xs. g ∷ xs) rest.0, rest.1)

ended-last : (W : Parts) (J : List Event) (e : Event) → HasEndedEmpty W (J ++ e ∷ []) → EndsRound W J e
ended-last W J e ended =
    let same : (J ≡ ended.0) × (e ≡ ended.1) = last-is J ended.0 e ended.1 ended.2 in
    subst (λ K. EndsRound W K e) (sym same.0) (subst (EndsRound W ended.0) (sym same.1) ended.3)

pub stops-are-last : (W : Parts) → StopsAreLast W
stops-are-last W n J e = (
  (λ stops. elim stops [ inl ended ↦ inl (ended-last W J e ended) | inr spent ↦ inr spent ]),
  (λ how. elim how [ inl ends ↦ inl (J, e, refl, ends) | inr spent ↦ inr spent ]),
)

-- Rounds that ended empty.

emptied-prefix : (W : Parts) (s : ℕ) (S : State) (es fs : List Event) → HasEmptied W s S es → HasEmptied W s S (es ++ fs)
emptied-prefix W s S [] fs emptied = absurd emptied
emptied-prefix W s S (e ∷ es) fs emptied = elim emptied [ inl now ↦ inl now | inr later ↦ inr (emptied-prefix W s (after W S e.stream.0 e.what) es fs later) ]

emptied-rest : (W : Parts) (s : ℕ) (S : State) (es fs : List Event) → HasEmptied W s (state_after W S es) fs → HasEmptied W s S (es ++ fs)
emptied-rest W s S [] fs emptied = emptied
emptied-rest W s S (e ∷ es) fs emptied = inr (emptied-rest W s (after W S e.stream.0 e.what) es fs emptied)

pub emptied-grows : (W : Parts) → EmptiedGrows W
emptied-grows W s S es fs = (emptied-prefix W s S es fs, emptied-rest W s S es fs)
