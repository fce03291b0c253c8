-- Moves to free places: no two units share a ticket in a line afterwards.
use Rattle.std.proofs.Common.{◌≡◌, ◌≢◌, ℕ, suc, ◌<◌, List, [], ◌∷◌, ◌++◌, Some, None, sym, ◌∙◌, ap, subst, arith, inl, inr}
use Rattle.abt_machine.specs.declared.events.Place.{Place}
use Rattle.abt_machine.specs.Maps.{put_at, put_all}
use Rattle.abt_machine.specs.Lines.{Line, InTray, Waiting, ticket_in}
use Rattle.abt_machine.specs.Changes.{tray_moves, waiting_moves}
use Rattle.abt_laws.proofs.LineMoves.{line_moves, line_moves-tray, line_moves-waiting}
use Rattle.abt_laws.proofs.Options.{none≢some, some-injective}
use Rattle.abt_laws.proofs.Lists.{EachOf}
use Rattle.abt_laws.proofs.Maps.{put_at-cases}
use Rattle.abt_laws.proofs.Places.{place_in, line_of, line_of-ticket, line-unique, same-self}

-- no two units share a ticket in a line
abbrev pub OneEach : (ℕ → Place) → Type 0
OneEach f = (l : Line) (u v t : ℕ) → ticket_in l (f u) ≡ Some t → ticket_in l (f v) ≡ Some t → u ≡ v

-- nobody stands in the line
abbrev pub IsEmpty : Line → (ℕ → Place) → Type 0
IsEmpty l f = (v t : ℕ) → ticket_in l (f v) ≡ Some t → ⊥

-- the tickets in the line are below i
abbrev pub IsBelow : Line → ℕ → (ℕ → Place) → Type 0
IsBelow l i f = (v t : ℕ) → ticket_in l (f v) ≡ Some t → t < i

-- nobody but u has this place's ticket in its line
abbrev pub IsFreeFor : (ℕ → Place) → ℕ → Place → Type 0
IsFreeFor f u pl = (l : Line) (v t : ℕ) → v ≢ u → ticket_in l pl ≡ Some t → ticket_in l (f v) ≡ Some t → ⊥

-- each of these moves, one after the other, goes to a free place
abbrev pub AllFree : (ℕ → Place) → List (ℕ × Place) → Type 0
AllFree f [] = Unit {0}
AllFree f (m ∷ ms) = IsFreeFor f m.0 m.1 × AllFree (put_at f m.0 m.1) ms

OneEach-move : (f : ℕ → Place) (u : ℕ) (pl : Place) → OneEach f → IsFreeFor f u pl → OneEach (put_at f u pl)
OneEach-move f u pl one free l a b t ha hb =
    elim (put_at-cases f u pl a) [
      | inl x ↦ elim (put_at-cases f u pl b) [
        | inl y ↦ x.0 ∙ sym y.0
        | inr y ↦ absurd (free l b t y.0 (ap (ticket_in l) (sym x.1) ∙ ha) (ap (ticket_in l) (sym y.1) ∙ hb))
      ]
      | inr x ↦ elim (put_at-cases f u pl b) [
        | inl y ↦ absurd (free l a t x.0 (ap (ticket_in l) (sym y.1) ∙ hb) (ap (ticket_in l) (sym x.1) ∙ ha))
        | inr y ↦ one l a b t (ap (ticket_in l) (sym x.1) ∙ ha) (ap (ticket_in l) (sym y.1) ∙ hb)
      ]
    ]

pub OneEach-moves : (f : ℕ → Place) (ms : List (ℕ × Place)) → OneEach f → AllFree f ms → OneEach (put_all f ms)
OneEach-moves f [] one free = one
OneEach-moves f (m ∷ ms) one free = OneEach-moves (put_at f m.0 m.1) ms (OneEach-move f m.0 m.1 one free.0) free.1

pub AllFree-append : (f : ℕ → Place) (ms ns : List (ℕ × Place)) → AllFree f ms → AllFree (put_all f ms) ns → AllFree f (ms ++ ns)
AllFree-append f [] ns a b = b
AllFree-append f (m ∷ ms) ns a b = (a.0, AllFree-append (put_at f m.0 m.1) ms ns a.1 b)

-- ticket k of line m, which nobody but u has
free-at : (f : ℕ → Place) (u : ℕ) (pl : Place) (m : Line) (k : ℕ) → ticket_in m pl ≡ Some k → ((v : ℕ) → v ≢ u → ticket_in m (f v) ≡ Some k → ⊥) → IsFreeFor f u pl
free-at f u pl m k has free = λ l v t ne h g.
    let e : (l ≡ m) × (t ≡ k) = line-unique l m pl t k h has in
    free v ne (ap (λ o. ticket_in o (f v)) (sym e.0) ∙ (g ∙ ap (λ (n : ℕ). Some n) e.1))

-- an empty line, as a hand or a Next
pub free-empty : (f : ℕ → Place) (u : ℕ) (pl : Place) (m : Line) (k : ℕ) → ticket_in m pl ≡ Some k → IsEmpty m f → IsFreeFor f u pl
free-empty f u pl m k has empty = free-at f u pl m k has (λ v ne h. empty v k h)

-- a place of no line is free
pub free-nowhere : (f : ℕ → Place) (u : ℕ) (pl : Place) → line_of pl ≡ None → IsFreeFor f u pl
free-nowhere f u pl none = λ l v t ne h g. none≢some (sym none ∙ line_of-ticket l pl t h)

-- a ticket above all others is free
pub free-above : (f : ℕ → Place) (u : ℕ) (pl : Place) (m : Line) (k : ℕ) → ticket_in m pl ≡ Some k → IsBelow m k f → IsFreeFor f u pl
free-above f u pl m k has below = free-at f u pl m k has (λ v ne h. let l : k < k = below v k h in omega arith)

-- a move to another line keeps a line below
pub IsBelow-move : (l : Line) (i : ℕ) (f : ℕ → Place) (u : ℕ) (pl : Place) → (line_of pl ≡ Some l → ⊥) → IsBelow l i f → IsBelow l i (put_at f u pl)
IsBelow-move l i f u pl out below v t h =
    elim (put_at-cases f u pl v) [
      | inl x ↦ absurd (out (line_of-ticket l pl t (ap (ticket_in l) (sym x.1) ∙ h)))
      | inr x ↦ below v t (ap (ticket_in l) (sym x.1) ∙ h)
    ]

-- so do such moves
pub IsBelow-moves : (l : Line) (i : ℕ) (f : ℕ → Place) (ms : List (ℕ × Place)) → EachOf (λ (m : ℕ × Place). line_of m.1 ≡ Some l → ⊥) ms → IsBelow l i f → IsBelow l i (put_all f ms)
IsBelow-moves l i f [] out below = below
IsBelow-moves l i f (m ∷ ms) out below = IsBelow-moves l i (put_at f m.0 m.1) ms out.1 (IsBelow-move l i f m.0 m.1 out.0 below)

pub IsBelow-empty : (l : Line) (i : ℕ) (f : ℕ → Place) → IsEmpty l f → IsBelow l i f
IsBelow-empty l i f empty v t h = absurd (empty v t h)

line-below : (l : Line) (i : ℕ) (f : ℕ → Place) (u : ℕ) → ((t : ℕ) → ticket_in l (place_in l t) ≡ Some t) → IsBelow l i f → IsBelow l (suc i) (put_at f u (place_in l i))
line-below l i f u has below v t h =
    elim (put_at-cases f u (place_in l i) v) [
      | inl x ↦ (let e : i ≡ t = some-injective (sym (has i) ∙ (ap (ticket_in l) (sym x.1) ∙ h)) in omega arith)
      | inr x ↦ (let k : t < i = below v t (ap (ticket_in l) (sym x.1) ∙ h) in omega arith)
    ]

line-free : (l : Line) (i : ℕ) (f : ℕ → Place) (us : List ℕ) → ((t : ℕ) → ticket_in l (place_in l t) ≡ Some t) → IsBelow l i f → AllFree f (line_moves l i us)
line-free l i f [] has below = tt
line-free l i f (u ∷ us) has below = (free-above f u (place_in l i) l i (has i) below, line-free l (suc i) (put_at f u (place_in l i)) us has (line-below l i f u has below))

-- the end of a tray is free
pub tray-free : (s i : ℕ) (f : ℕ → Place) (us : List ℕ) → IsBelow (InTray s) i f → AllFree f (tray_moves s i us)
tray-free s i f us below = subst (AllFree f) (sym (line_moves-tray s i us)) (line-free (InTray s) i f us (same-self s) below)

-- the end of an object's waiters is free
pub waiting-free : (x i : ℕ) (f : ℕ → Place) (us : List ℕ) → IsBelow (Waiting x) i f → AllFree f (waiting_moves x i us)
waiting-free x i f us below = subst (AllFree f) (sym (line_moves-waiting x i us)) (line-free (Waiting x) i f us (same-self x) below)
