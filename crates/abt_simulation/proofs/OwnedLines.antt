-- The units of a line, with what they carry, after a change.
use Rattle.std.proofs.Common.{◌≡◌, ℕ, ◌<◌, List, [], ◌∷◌, ◌++◌, length, map, Some, None, refl, ◌∙◌, ap, ap₂, subst}
use Rattle.std.proofs.lemmas.List.{map-append}
use Rattle.abt_machine.specs.declared.events.Place.{Place}
use Rattle.abt_machine.specs.declared.workload.Parts.{Parts}
use Rattle.abt_machine.specs.Maps.{put_at}
use Rattle.abt_machine.specs.Queues.{first}
use Rattle.abt_machine.specs.State.{State, Carried}
use Rattle.abt_machine.specs.Lines.{Line, ticket_in, standing}
use Rattle.abt_machine.specs.Changes.{Change, changed}
use Rattle.abt_machine.specs.Monitors.{number_of}
use Rattle.abt_machine.specs.Values.{Owned, owned_at, owned_in}
use Rattle.abt_laws.proofs.Lists.{EachOf, EachOf-then}
use Rattle.abt_laws.proofs.Maps.{KeyOf, put_all-other}
use Rattle.abt_laws.proofs.Options.{none≢some, some-injective}
use Rattle.abt_laws.proofs.Queues.{HasTicket, queue-each}
use Rattle.abt_laws.proofs.Places.{place_in}
use Rattle.abt_laws.proofs.Arrivals.{IsBelow}
use Rattle.abt_laws.proofs.LinesAfter.{NoneTo, NoneFrom, none-from, line-stays, line-emptied, line-gets}

-- Lists of units with what they carry.

-- units that carry the same
pub owned-same : (S T : State) (us : List ℕ) → EachOf (λ u. T.carried u ≡ S.carried u) us → map (owned_at T) us ≡ map (owned_at S) us
owned-same S T [] a = refl
owned-same S T (u ∷ us) a = ap₂ (λ (c : Carried) (os : List Owned). record { number = u; carried = c } ∷ os) a.0 (owned-same S T us a.1)

-- the unit that stands first, by what it carries
pub record Head (S : State) (us : List ℕ) (o : Owned) : Type 0 where
  pub is : first us ≡ Some o.number
  pub owns : owned_at S o.number ≡ o

-- the first of the units is the first of the numbers
pub head-of : (S : State) (us : List ℕ) (o : Owned) → first (map (owned_at S) us) ≡ Some o → Head S us o
head-of S [] o e = absurd (none≢some e)
head-of S (u ∷ us) o e =
    let same : owned_at S u ≡ o = some-injective e in
    subst (Head S (u ∷ us)) same (record { is = refl; owns = refl })

-- if there is no unit there is no number
pub nobody-owned : (S : State) (us : List ℕ) → map (owned_at S) us ≡ [] → us ≡ []
nobody-owned S [] e = refl
nobody-owned S (u ∷ us) e = absurd cc

-- if each unit carries what it carries in the state, the units are those of their numbers
pub owned-again : (S : State) (os : List Owned) → EachOf (λ (o : Owned). owned_at S o.number ≡ o) os → map (owned_at S) (map number_of os) ≡ os
owned-again S [] a = refl
owned-again S (o ∷ os) a = ap₂ (λ (p : Owned) (ps : List Owned). p ∷ ps) a.0 (owned-again S os a.1)

-- each unit of the state does
pub owned-each : (S : State) (us : List ℕ) → EachOf (λ (o : Owned). owned_at S o.number ≡ o) (map (owned_at S) us)
owned-each S [] = tt
owned-each S (u ∷ us) = (refl, owned-each S us)

-- After a change.

module _ (W : Parts) (S : State) (c : Change) where
  -- who stands in a line, and is not changed, carries the same
  pub carried-stays : (l : Line) → NoneFrom l S.place c.carried → EachOf (λ u. (changed S c).carried u ≡ S.carried u) (standing W S l)
  carried-stays l keys =
      EachOf-then (HasTicket (λ u. ticket_in l (S.place u)) (length W.units)) (λ u. (changed S c).carried u ≡ S.carried u) (standing W S l)
      (λ u h. put_all-other S.carried c.carried u (none-from l S.place c.carried keys u h.ticket h.has))
      (queue-each (λ u. ticket_in l (S.place u)) (length W.units))

  -- nobody comes to the line or leaves it, and what its units carry stays
  pub owned-stays : (l : Line) → NoneTo l c.moves → NoneFrom l S.place c.moves → NoneFrom l S.place c.carried → owned_in W (changed S c) l ≡ owned_in W S l
  owned-stays l to from keys =
      ap (map (owned_at (changed S c))) (line-stays (length W.units) l S.place c.moves to from) ∙ owned-same S (changed S c) (standing W S l) (carried-stays l keys)

  -- all leave the line
  pub owned-emptied : (l : Line) → NoneTo l c.moves → EachOf (λ u. KeyOf u c.moves) (standing W S l) → owned_in W (changed S c) l ≡ []
  owned-emptied l to all = ap (map (owned_at (changed S c))) (line-emptied (length W.units) l S.place c.moves to all)

-- a unit comes to the end of the line, and other units move elsewhere
pub owned-joined : (W : Parts) (S : State) (l : Line) (u t : ℕ) (ms : List (ℕ × Place)) (c : Change) → ((k : ℕ) → ticket_in l (place_in l k) ≡ Some k) → u < length W.units → ticket_in l (S.place u) ≡ None → IsBelow l t S.place →
    NoneTo l ms → NoneFrom l (put_at S.place u (place_in l t)) ms → NoneFrom l S.place c.carried →
    owned_in W (changed S (record c { moves = (u, place_in l t) ∷ ms })) l ≡ owned_in W S l ++ owned_at (changed S (record c { moves = (u, place_in l t) ∷ ms })) u ∷ []
owned-joined W S l u t ms c has declared none below to from keys =
    let T : State = changed S (record c { moves = (u, place_in l t) ∷ ms }) in
    ap (map (owned_at T)) (line-stays (length W.units) l (put_at S.place u (place_in l t)) ms to from ∙ line-gets (length W.units) l S.place u t (has t) declared none below)
    ∙ (map-append (owned_at T) (standing W S l) (u ∷ []) ∙ ap (λ os. os ++ owned_at T u ∷ []) (owned-same S T (standing W S l) (carried-stays W S (record c { moves = (u, place_in l t) ∷ ms }) l keys)))
