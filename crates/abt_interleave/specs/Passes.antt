-- A stream's turns, each with at most one call by its pass. A pass is whatever gives the stream its right to call.
use Rattle.std.specs.Prelude.{ℕ, suc, ◌≡◌, List, [], ◌∷◌, ◌++◌, Option, Some, None}
use Rattle.abt_interleave.specs.Deeds.{Heard}
use Rattle.abt_interleave.specs.Machines.{Machine, DeedOf}
use Rattle.abt_interleave.specs.Histories.{Extends}
use Rattle.abt_interleave.specs.Lines.{CallOf, Sees, Gone}

-- what came of a call: a stamp and an answer, or nothing if the clock was worn
abbrev pub ReplyOf : Machine → Type 0
ReplyOf M = Option (ℕ × M.Answer)

-- how passes move: the pass before, the place that was asked, the caller's clock, the act, what came of it, and the pass after
abbrev pub MovesOf : Machine → Type 0 → Type 1
MovesOf M Pass = Pass → M.Place → ℕ → M.Act → ReplyOf M → Pass → Type 0

-- a turn of a stream: a deed, or an act at a place that met a worn clock and came to nothing
pub data Turn (M : Machine) : Type 0 where
  Did : DeedOf M → Turn M
  Met : M.Place → M.Act → Turn M

-- the deeds of some turns
abbrev pub deeds_of : (M : Machine) → List (Turn M) → List (DeedOf M)
deeds_of M [] = []
deeds_of M (Did d ∷ ts) = d ∷ deeds_of M ts
deeds_of M (Met x a ∷ ts) = deeds_of M ts

module _ (M : Machine) {Pass : Type 0} (moves : MovesOf M Pass) where
  -- the pass makes the deed's call at the stream's clock; if there was none, it stays, and the stamp is the clock's next
  abbrev pub Calls : ℕ → DeedOf M → Option (Heard M.Place M.Act M.Answer) → Pass → Pass → Type 0
  Calls clock d None pass new = (d.stamp ≡ suc clock) × (new ≡ pass)
  Calls clock d (Some h) pass new = moves pass h.0 clock h.1 (Some (d.stamp, h.2)) new

  -- stream s takes these turns, its clock, its part and its pass going from the first to the last
  abbrev pub Turns : ℕ → ℕ → M.Part → Pass → List (Turn M) → M.Part → Pass → Type 0
  Turns s clock part pass [] last left = (part ≡ last) × (pass ≡ left)
  Turns s clock part pass (Did d ∷ ts) last left =
      (d.stream ≡ s) × (mid : M.Part) × (between : Pass) × M.Steps s part d.what d.heard mid × Calls clock d d.heard pass between × Turns s d.stamp mid between ts last left
  Turns s clock part pass (Met x a ∷ ts) last left = (between : Pass) × moves pass x clock a None between × Turns s clock part between ts last left

-- the stream's clock after some turns
abbrev pub clock_after : (M : Machine) → ℕ → List (Turn M) → ℕ
clock_after M clock [] = clock
clock_after M clock (Did d ∷ ts) = clock_after M d.stamp ts
clock_after M clock (Met x a ∷ ts) = clock_after M clock ts

-- The laws of turns.

-- a deed more
abbrev pub TurnsGoOn : (M : Machine) {Pass : Type 0} → MovesOf M Pass → Type 0
TurnsGoOn M {Pass} moves = (s clock : ℕ) (part mid new_part : M.Part) (pass between new_pass : Pass) (ts : List (Turn M)) (d : DeedOf M) →
    Turns M moves s clock part pass ts mid between → d.stream ≡ s → M.Steps s mid d.what d.heard new_part → Calls M moves (clock_after M clock ts) d d.heard between new_pass →
    Turns M moves s clock part pass (ts ++ Did d ∷ []) new_part new_pass

-- a call more that met a worn clock
abbrev pub TurnsMeet : (M : Machine) {Pass : Type 0} → MovesOf M Pass → Type 0
TurnsMeet M {Pass} moves = (s clock : ℕ) (part mid : M.Part) (pass between new_pass : Pass) (ts : List (Turn M)) (x : M.Place) (a : M.Act) →
    Turns M moves s clock part pass ts mid between → moves between x (clock_after M clock ts) a None new_pass → Turns M moves s clock part pass (ts ++ Met x a ∷ []) mid new_pass

-- what passes see of lines: the passes of stream s stay its own, a move with an answer shows the stream its deed, and one
-- that met a worn clock shows it no call of its own
pub record Shows (M : Machine) {Lock Pass : Type 0} (lock : M.Place → Lock) (carried : Lock → ℕ) (s : ℕ) (own : Pass → Type 0) (seen : Pass → Lock → List (CallOf M)) (moves : MovesOf M Pass) : Type 0 where
  pub stays : (p q : Pass) (x : M.Place) (at : ℕ) (a : M.Act) (reply : ReplyOf M) → own p → moves p x at a reply q → own q
  pub answered : (p q : Pass) (x : M.Place) (at : ℕ) (a : M.Act) (r : M.Answer) (d : DeedOf M) → own p → moves p x at a (Some (d.stamp, r)) q → d.stream ≡ s →
      Sees M lock carried s (seen p) at d (Some (x, a, r)) (seen q)
  pub worn : (p q : Pass) (x : M.Place) (at : ℕ) (a : M.Act) → own p → moves p x at a None q → (l : Lock) → Extends s (seen p l) (seen q l)

-- by turns of a stream whose pass had seen nothing, the stream has gone so
abbrev pub TurnsAreGone : (M : Machine) {Pass : Type 0} → MovesOf M Pass → (Pass → Type 0) → Type 0 → Type 0
TurnsAreGone M {Pass} moves own Lock = (lock : M.Place → Lock) (carried : Lock → ℕ) (s clock : ℕ) (seen : Pass → Lock → List (CallOf M)) (part last : M.Part) (pass left : Pass) (ts : List (Turn M)) →
    Shows M lock carried s own seen moves → own pass → ((l : Lock) → seen pass l ≡ []) → Turns M moves s clock part pass ts last left →
    Gone M lock carried s clock part (deeds_of M ts) last (seen left)
