-- Moves of units to the end of a line, in order.
use Rattle.std.proofs.Common.{◌≡◌, ℕ, suc, ◌+◌, ◌<◌, List, [], ◌∷◌, length, refl, sym, ap, subst, arith, inl, inr}
use Rattle.abt_machine.specs.declared.events.Place.{Place}
use Rattle.abt_machine.specs.declared.events.Place.TheVariants as place
use Rattle.abt_machine.specs.declared.events.Spot.TheVariants as spot
use Rattle.abt_machine.specs.Numbers.{stream_no, object_no}
use Rattle.abt_machine.specs.Lines.{Line, InTray, Waiting}
use Rattle.abt_machine.specs.Changes.{tray_moves, waiting_moves}
use Rattle.abt_laws.proofs.Lists.{EachOf, EachOf-all, Among}
use Rattle.abt_laws.proofs.Maps.{KeyOf}
use Rattle.abt_laws.proofs.Places.{place_in}

-- these units to the end of a line, in order, with tickets from i
abbrev pub line_moves : Line → ℕ → List ℕ → List (ℕ × Place)
line_moves l i [] = []
line_moves l i (u ∷ us) = (u, place_in l i) ∷ line_moves l (suc i) us

pub line_moves-tray : (s i : ℕ) (us : List ℕ) → tray_moves s i us ≡ line_moves (InTray s) i us
line_moves-tray s i [] = refl
line_moves-tray s i (u ∷ us) = ap (λ ms. (u, place_in (InTray s) i) ∷ ms) (line_moves-tray s (suc i) us)

pub line_moves-waiting : (x i : ℕ) (us : List ℕ) → waiting_moves x i us ≡ line_moves (Waiting x) i us
line_moves-waiting x i [] = refl
line_moves-waiting x i (u ∷ us) = ap (λ ms. (u, place_in (Waiting x) i) ∷ ms) (line_moves-waiting x (suc i) us)

-- What holds of each of these moves.

line_moves-each : (P : ℕ × Place → Type 0) (Q : ℕ → Type 0) (l : Line) (i : ℕ) (us : List ℕ) → ((u t : ℕ) → t < i + length us → Q u → P (u, place_in l t)) → EachOf Q us → EachOf P (line_moves l i us)
line_moves-each P Q l i [] h a = tt
line_moves-each P Q l i (u ∷ us) h a = (h u i (omega arith) a.0, line_moves-each P Q l (suc i) us (λ v t b. h v t (omega arith)) a.1)

pub tray_moves-each : (P : ℕ × Place → Type 0) (Q : ℕ → Type 0) (s i : ℕ) (us : List ℕ) → ((u t : ℕ) → Q u → P (u, place.Tray (stream_no s) t)) → EachOf Q us → EachOf P (tray_moves s i us)
tray_moves-each P Q s i us h a = subst (EachOf P) (sym (line_moves-tray s i us)) (line_moves-each P Q (InTray s) i us (λ u t _. h u t) a)

pub waiting_moves-each : (P : ℕ × Place → Type 0) (Q : ℕ → Type 0) (x i : ℕ) (us : List ℕ) → ((u t : ℕ) → t < i + length us → Q u → P (u, place.Blocked (spot.Object (object_no x)) t)) → EachOf Q us → EachOf P (waiting_moves x i us)
waiting_moves-each P Q x i us h a = subst (EachOf P) (sym (line_moves-waiting x i us)) (line_moves-each P Q (Waiting x) i us h a)

-- what holds of each place in the tray
pub tray_moves-places : (P : Place → Type 0) (s i : ℕ) (us : List ℕ) → ((t : ℕ) → P (place.Tray (stream_no s) t)) → EachOf (λ (m : ℕ × Place). P m.1) (tray_moves s i us)
tray_moves-places P s i us p = tray_moves-each (λ m. P m.1) (λ _. Unit {0}) s i us (λ u t _. p t) (EachOf-all (λ _. Unit {0}) us (λ _. tt))

-- what holds of each place of those who wait at x
pub waiting_moves-places : (P : Place → Type 0) (x i : ℕ) (us : List ℕ) → ((t : ℕ) → P (place.Blocked (spot.Object (object_no x)) t)) → EachOf (λ (m : ℕ × Place). P m.1) (waiting_moves x i us)
waiting_moves-places P x i us p = waiting_moves-each (λ m. P m.1) (λ _. Unit {0}) x i us (λ u t _ _. p t) (EachOf-all (λ _. Unit {0}) us (λ _. tt))

-- each of the units moves
pub tray_moves-key : (s i : ℕ) (us : List ℕ) (v : ℕ) → Among v us → KeyOf v (tray_moves s i us)
tray_moves-key s i [] v m = absurd m
tray_moves-key s i (u ∷ us) v m = elim m [ inl e ↦ inl e | inr b ↦ inr (tray_moves-key s (suc i) us v b) ]

-- and no other
pub tray_moves-among : (s i : ℕ) (us : List ℕ) (v : ℕ) → KeyOf v (tray_moves s i us) → Among v us
tray_moves-among s i [] v k = absurd k
tray_moves-among s i (u ∷ us) v k = elim k [ inl e ↦ inl e | inr b ↦ inr (tray_moves-among s (suc i) us v b) ]
