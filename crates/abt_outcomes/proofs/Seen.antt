-- What parts and objects show of a state.
use Rattle.std.proofs.Common.{◌≡◌, ℕ, ◌<◌, List, [], ◌∷◌, length, map, None, Contains, refl, ap, sym, subst, ◌∙◌, inl, inr}
use Rattle.std.specs.Prelude.{◌↔◌}
use Rattle.std.proofs.lemmas.Bool.{cases_lt}
use Rattle.abt_machine.specs.declared.events.Event.{Event}
use Rattle.abt_machine.specs.declared.events.Place.{Place}
use Rattle.abt_machine.specs.declared.events.Place.TheVariants as place
use Rattle.abt_machine.specs.declared.events.Site.{Site}
use Rattle.abt_machine.specs.declared.events.Site.TheVariants as site
use Rattle.abt_machine.specs.declared.events.Spot.TheVariants as spot
use Rattle.abt_machine.specs.Stored.{Stored}
use Rattle.abt_machine.specs.declared.workload.Parts.{Parts}
use Rattle.abt_machine.specs.Numbers.{pool_no, unit_no}
use Rattle.abt_machine.specs.Workloads.{pools_of, main_of}
use Rattle.abt_machine.specs.Queues.{first}
use Rattle.abt_machine.specs.State.{State}
use Rattle.abt_machine.specs.Lines.{InPool, InTray, InHand, InNext, standing}
use Rattle.abt_machine.specs.Next.{due}
use Rattle.abt_machine.specs.Runs.{last_state}
use Rattle.abt_machine.specs.Sound.{Sound}
use Rattle.abt_machine.specs.Outcomes.{Quiet, AllEnded, IsOver, Spent}
use Rattle.abt_machine.specs.Turns.{due_of}
use Rattle.abt_machine.specs.Values.{Owned, Held, Object, owned_at, part_of, object_of, phase_at}
use Rattle.abt_laws.proofs.DueParts.{due-same}
use Rattle.abt_outcomes.specs.Values.{HaveMade, StandFor, IsIdle, IsEmptyPool, LooksQuiet, IsOverIn, IsOverAt, LooksEnded, LooksSpent}

-- Empty lines.

-- if no units are owned, there are none
pub owned-none : (S : State) (us : List ℕ) → map (owned_at S) us ≡ [] → us ≡ []
owned-none S [] e = refl
owned-none S (u ∷ us) e = cc

-- and none if there is no first
pub first-none : (S : State) (us : List ℕ) → first (map (owned_at S) us) ≡ None → us ≡ []
first-none S [] e = refl
first-none S (u ∷ us) e = cc

-- a stream of which nothing is left to do is idle
idle-part : (W : Parts) (S : State) (s : ℕ) → standing W S (InTray s) ≡ [] → standing W S (InNext s) ≡ [] → standing W S (InHand s) ≡ [] → (S.stream s).below ≡ [] → IsIdle (part_of W S s)
idle-part W S s tray next hand frames = record {
  tray = ap (map (owned_at S)) tray;
  next = ap (λ us. first (map (owned_at S) us)) next;
  hand = ap (λ us. first (map (owned_at S) us)) hand;
  frames = frames;
}

-- Nothing is left to do.

pub quiet-seen : (W : Parts) (S : State) (parts : ℕ → Held) (objects : Site → Object) → StandFor W S parts objects → Quiet W S ↔ LooksQuiet W parts objects
quiet-seen W S parts objects stand = (to, from) where
  to : Quiet W S → LooksQuiet W parts objects
  to quiet = record {
    idle = λ s l. subst IsIdle (stand.streams s l) (idle-part W S s (quiet.trays s l) (quiet.nexts s l) (quiet.hands s l) (quiet.frames s l));
    pools = λ s p l listed. subst IsEmptyPool (stand.sites (site.Pool (pool_no p))) (ap (map (owned_at S)) (quiet.pools s p l listed));
  }

  is-idle : LooksQuiet W parts objects → (s : ℕ) → s < W.streams → IsIdle (part_of W S s)
  is-idle looks s l = subst IsIdle (sym (stand.streams s l)) (looks.idle s l)

  is-empty : LooksQuiet W parts objects → (s p : ℕ) → s < W.streams → Contains (pools_of W (main_of W s)) p → IsEmptyPool (object_of W S (site.Pool (pool_no p)))
  is-empty looks s p l listed = subst IsEmptyPool (sym (stand.sites (site.Pool (pool_no p)))) (looks.pools s p l listed)

  from : LooksQuiet W parts objects → Quiet W S
  from looks = record {
    trays = λ s l. (let idle = is-idle looks s l in owned-none S (standing W S (InTray s)) idle.tray);
    nexts = λ s l. (let idle = is-idle looks s l in first-none S (standing W S (InNext s)) idle.next);
    hands = λ s l. (let idle = is-idle looks s l in first-none S (standing W S (InHand s)) idle.hand);
    frames = λ s l. (let idle = is-idle looks s l in idle.frames);
    pools = λ s p l listed. owned-none S (standing W S (InPool p)) (is-empty looks s p l listed);
  }

-- Every unit has ended.

over-shows : (o : Owned) (at : Place) → IsOver at → IsOverIn (phase_at o at)
over-shows o place.Unborn over = tt
over-shows o (place.Ended c) over = tt
over-shows o _ over = absurd over

shown-over : (o : Owned) (at : Place) → IsOverIn (phase_at o at) → IsOver at
shown-over o place.Unborn shows = tt
shown-over o (place.Ended c) shows = tt
shown-over o (place.Blocked spot.Suspended t) shows = shows
shown-over o _ shows = shows

pub ends-seen : (W : Parts) (Z : Stored) (S : State) (parts : ℕ → Held) (objects : Site → Object) → Sound W Z S → StandFor W S parts objects → AllEnded S ↔ LooksEnded W objects
ends-seen W Z S parts objects sound stand = (to, from) where
  to : AllEnded S → LooksEnded W objects
  to ended u l = subst IsOverAt (stand.sites (site.Desk (unit_no u))) (over-shows (owned_at S u) (S.place u) (ended u))

  from : LooksEnded W objects → AllEnded S
  from looks u =
      elim (cases_lt u (length W.units)) [
        | inl l ↦ shown-over (owned_at S u) (S.place u) (subst IsOverAt (sym (stand.sites (site.Desk (unit_no u)))) (looks u l))
        | inr l ↦ subst IsOver (sym (sound.undeclared u l)) tt
      ]

-- A stream is spent.

pub spent-seen : (W : Parts) (n s : ℕ) (J : List Event) (parts : ℕ → Held) (objects : Site → Object) (made : ℕ → ℕ) → StandFor W (last_state W J) parts objects → HaveMade W J made → Spent W n J s ↔ LooksSpent W n parts made s
spent-seen W n s J parts objects made stand count = (to, from) where
  same : s < W.streams → due W (last_state W J) s ≡ due_of W s (parts s)
  same l = due-same W (last_state W J) s ∙ ap (due_of W s) (stand.streams s l)

  to : Spent W n J s → LooksSpent W n parts made s
  to spent = (spent.0, sym (count s spent.0) ∙ spent.1, sym (same spent.0) ∙ spent.2)

  from : LooksSpent W n parts made s → Spent W n J s
  from looks = (looks.0, count s looks.0 ∙ looks.1, same looks.0 ∙ looks.2)
