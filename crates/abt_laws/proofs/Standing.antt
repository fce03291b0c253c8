-- Who stands in a line.
use Rattle.std.proofs.Common.{◌≡◌, ℕ, ◌<◌, ◌≤◌, Bool, true, false, List, [], ◌∷◌, length, Some, None, refl, sym, ◌∙◌, ap, inl, inr}
use Rattle.std.proofs.lemmas.Bool.{cases_lt}
use Rattle.abt_machine.specs.declared.events.Place.{Place}
use Rattle.abt_machine.specs.declared.events.Place.TheVariants as place
use Rattle.abt_machine.specs.declared.operations.Kind.{Kind}
use Rattle.abt_machine.specs.declared.operations.Kind.TheVariants as kind
use Rattle.abt_machine.specs.declared.workload.Parts.{Parts}
use Rattle.abt_machine.specs.Numbers.{stream_no}
use Rattle.abt_machine.specs.Workloads.{kind_of}
use Rattle.abt_machine.specs.Queues.{first}
use Rattle.abt_machine.specs.State.{State}
use Rattle.abt_machine.specs.Lines.{Line, InPool, InHand, InNext, ticket_in, standing, hand, next}
use Rattle.abt_machine.specs.Fronts.{at_end, front, owns, side_by}
use Rattle.abt_laws.proofs.Lists.{EachOf, EachOf-then, EachOf-first, EachOf-last, Among}
use Rattle.abt_laws.proofs.Options.{none≢some}
use Rattle.abt_laws.proofs.Queues.{HasTicket, queue-each, queue-among, queue-none}
use Rattle.abt_laws.proofs.Places.{same-self, place_in, ticket-place, ticket_at, ticket_in-place_in, line_of, line_of-place_in}
use Rattle.abt_laws.proofs.Arrivals.{IsEmpty}

-- unit u stands in line l
pub record StandsIn (W : Parts) (S : State) (l : Line) (u : ℕ) : Type 0 where
  pub declared : u < length W.units
  pub ticket : ℕ
  pub at : S.place u ≡ place_in l ticket

-- units that are not declared are unborn
abbrev pub UndeclaredUnborn : Parts → State → Type 0
UndeclaredUnborn W S = (u : ℕ) → length W.units ≤ u → S.place u ≡ place.Unborn

stands : (W : Parts) (S : State) (l : Line) (u : ℕ) → HasTicket (λ v. ticket_in l (S.place v)) (length W.units) u → StandsIn W S l u
stands W S l u h = record { declared = h.in_range; ticket = h.ticket; at = ticket-place l (S.place u) h.ticket h.has }

-- each of a line stands in it
pub each-stands : (W : Parts) (S : State) (l : Line) → EachOf (StandsIn W S l) (standing W S l)
each-stands W S l = EachOf-then _ (StandsIn W S l) (standing W S l) (stands W S l) (queue-each (λ v. ticket_in l (S.place v)) (length W.units))

-- so does its first
pub first-stands : (W : Parts) (S : State) (l : Line) (u : ℕ) → first (standing W S l) ≡ Some u → StandsIn W S l u
first-stands W S l u e = EachOf-first (StandsIn W S l) (standing W S l) u (each-stands W S l) e

-- the unit that a stream takes stands in the pool
pub front-stands : (W : Parts) (S : State) (s p u : ℕ) → front W S s p ≡ Some u → StandsIn W S (InPool p) u
front-stands W S s p u e = by (kind_of W p) (owns W s p) e where
  by : (k : Kind) (own : Bool) → at_end (side_by k own) (standing W S (InPool p)) ≡ Some u → StandsIn W S (InPool p) u
  by kind.Fifo own e = first-stands W S (InPool p) u e
  by kind.Deque false e = first-stands W S (InPool p) u e
  by kind.Deque true e = EachOf-last (StandsIn W S (InPool p)) (standing W S (InPool p)) u (each-stands W S (InPool p)) e

pub is-declared : (W : Parts) (S : State) → UndeclaredUnborn W S → (v : ℕ) (to : Place) → S.place v ≡ to → (place.Unborn ≡ to → ⊥) → v < length W.units
is-declared W S undeclared v to h differs = elim (cases_lt v (length W.units)) [ inl l ↦ l | inr l ↦ absurd (differs (sym (undeclared v l) ∙ h)) ]

-- a unit with a ticket in a line is declared
ticket-declared : (W : Parts) (S : State) → UndeclaredUnborn W S → (l : Line) (v t : ℕ) → ticket_in l (S.place v) ≡ Some t → v < length W.units
ticket-declared W S undeclared l v t h =
    is-declared W S undeclared v (place_in l t) (ticket-place l (S.place v) t h) (λ e. none≢some (ap line_of e ∙ line_of-place_in l t))

-- who has a ticket in a line is one of those who stand there
pub among-standing : (W : Parts) (S : State) → UndeclaredUnborn W S → (l : Line) (v t : ℕ) → ticket_in l (S.place v) ≡ Some t → Among v (standing W S l)
among-standing W S undeclared l v t h = queue-among (λ u. ticket_in l (S.place u)) (length W.units) v t (ticket-declared W S undeclared l v t h) h

-- if nobody is first, the line is empty
pub none-first : (W : Parts) (S : State) → UndeclaredUnborn W S → (l : Line) → first (standing W S l) ≡ None → IsEmpty l S.place
none-first W S undeclared l e v t h = queue-none (λ u. ticket_in l (S.place u)) (length W.units) v t e (ticket-declared W S undeclared l v t h) h

-- nobody stands in an empty line
pub empty-standing : (W : Parts) (S : State) (l : Line) → IsEmpty l S.place → standing W S l ≡ []
empty-standing W S l empty = by (standing W S l) (each-stands W S l) where
  by : (us : List ℕ) → EachOf (StandsIn W S l) us → us ≡ []
  by [] each = refl
  by (u ∷ us) each = absurd (empty u (ticket_at l each.0.ticket) (ap (ticket_in l) each.0.at ∙ ticket_in-place_in l each.0.ticket))

-- The hand and the Next.

pub hand-place : (W : Parts) (S : State) (s u : ℕ) → hand W S s ≡ Some u → S.place u ≡ place.Hand (stream_no s)
hand-place W S s u e = let is : StandsIn W S (InHand s) u = first-stands W S (InHand s) u e in is.at

pub next-place : (W : Parts) (S : State) (s u : ℕ) → next W S s ≡ Some u → S.place u ≡ place.Next (stream_no s)
next-place W S s u e = let is : StandsIn W S (InNext s) u = first-stands W S (InNext s) u e in is.at

-- no declared unit is in an empty hand
pub hand-none : (W : Parts) (S : State) (s u : ℕ) → u < length W.units → hand W S s ≡ None → S.place u ≡ place.Hand (stream_no s) → ⊥
hand-none W S s u declared e at = queue-none (λ v. ticket_in (InHand s) (S.place v)) (length W.units) u 0 e declared (ap (ticket_in (InHand s)) at ∙ same-self s 0)
