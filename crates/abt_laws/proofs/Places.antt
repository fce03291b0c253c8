-- Places: the line that a place is in, and its ticket there.
use Rattle.std.proofs.Common.{◌≡◌, ℕ, ◌==◌, Option, Some, None, refl, ◌∙◌, ap, ap₂, arith}
use Rattle.std.proofs.lemmas.Bool.{cond-true, eq-eqb}
use Rattle.std.proofs.lemmas.Bool.Decides.{nat_tests}
use Rattle.abt_machine.specs.declared.events.Place.{Place}
use Rattle.abt_machine.specs.declared.events.Place.TheVariants as place
use Rattle.abt_machine.specs.declared.events.Spot.TheVariants as spot
use Rattle.abt_machine.specs.declared.numbers.StreamNo.{StreamNo}
use Rattle.abt_machine.specs.Numbers.{stream_no, pool_no, unit_no, object_no}
use Rattle.abt_machine.specs.Lines.{Line, InPool, InTray, InHand, InNext, InFrames, Joining, Waiting, if_same, ticket_in}
use Rattle.abt_laws.proofs.Options.{none≢some}

pub same-self : (a t : ℕ) → if_same a a t ≡ Some t
same-self a t = cond-true (a == a) (Some t) None (eq-eqb a a refl)

same-is : (a b t k : ℕ) → if_same a b t ≡ Some k → (a ≡ b) × (t ≡ k)
same-is a b t k h = grind (arith, nat_tests)

-- the place with ticket t in a line
abbrev pub place_in : Line → ℕ → Place
place_in (InPool p) t = place.Pool (pool_no p) t
place_in (InTray s) t = place.Tray (stream_no s) t
place_in (InHand s) t = place.Hand (stream_no s)
place_in (InNext s) t = place.Next (stream_no s)
place_in (InFrames s) t = place.Frame (stream_no s) t
place_in (Joining v) t = place.Blocked (spot.Join (unit_no v)) t
place_in (Waiting x) t = place.Blocked (spot.Object (object_no x)) t

pub ticket-place : (l : Line) (pl : Place) (t : ℕ) → ticket_in l pl ≡ Some t → pl ≡ place_in l t
ticket-place (InPool p) (place.Pool q k) t h = let e : (q.0 ≡ p) × (k ≡ t) = same-is q.0 p k t h in ap₂ (λ (n k : ℕ). place.Pool (pool_no n) k) e.0 e.1
ticket-place (InTray s) (place.Tray r k) t h = let e : (r.0 ≡ s) × (k ≡ t) = same-is r.0 s k t h in ap₂ (λ (n k : ℕ). place.Tray (stream_no n) k) e.0 e.1
ticket-place (InHand s) (place.Hand r) t h = let e : (r.0 ≡ s) × (0 ≡ t) = same-is r.0 s 0 t h in ap (λ (n : ℕ). place.Hand (stream_no n)) e.0
ticket-place (InNext s) (place.Next r) t h = let e : (r.0 ≡ s) × (0 ≡ t) = same-is r.0 s 0 t h in ap (λ (n : ℕ). place.Next (stream_no n)) e.0
ticket-place (InFrames s) (place.Frame r k) t h = let e : (r.0 ≡ s) × (k ≡ t) = same-is r.0 s k t h in ap₂ (λ (n k : ℕ). place.Frame (stream_no n) k) e.0 e.1
ticket-place (Joining v) (place.Blocked (spot.Join w) k) t h = let e : (w.0 ≡ v) × (k ≡ t) = same-is w.0 v k t h in ap₂ (λ (n k : ℕ). place.Blocked (spot.Join (unit_no n)) k) e.0 e.1
ticket-place (Waiting x) (place.Blocked (spot.Object y) k) t h = let e : (y.0 ≡ x) × (k ≡ t) = same-is y.0 x k t h in ap₂ (λ (n k : ℕ). place.Blocked (spot.Object (object_no n)) k) e.0 e.1
ticket-place _ _ t h = absurd (none≢some h)

-- whoever has a hand or a Next has it with ticket 0
abbrev pub ticket_at : Line → ℕ → ℕ
ticket_at (InHand s) t = 0
ticket_at (InNext s) t = 0
ticket_at l t = t

pub ticket_in-place_in : (l : Line) (t : ℕ) → ticket_in l (place_in l t) ≡ Some (ticket_at l t)
ticket_in-place_in (InPool p) t = same-self p t
ticket_in-place_in (InTray s) t = same-self s t
ticket_in-place_in (InHand s) t = same-self s 0
ticket_in-place_in (InNext s) t = same-self s 0
ticket_in-place_in (InFrames s) t = same-self s t
ticket_in-place_in (Joining v) t = same-self v t
ticket_in-place_in (Waiting x) t = same-self x t

-- the line that a place is in
abbrev pub line_of : Place → Option Line
line_of (place.Pool p t) = Some (InPool p.0)
line_of (place.Tray s t) = Some (InTray s.0)
line_of (place.Hand s) = Some (InHand s.0)
line_of (place.Next s) = Some (InNext s.0)
line_of (place.Frame s d) = Some (InFrames s.0)
line_of (place.Blocked (spot.Join v) t) = Some (Joining v.0)
line_of (place.Blocked (spot.Object x) t) = Some (Waiting x.0)
line_of _ = None

pub line_of-place_in : (l : Line) (t : ℕ) → line_of (place_in l t) ≡ Some l
line_of-place_in (InPool p) t = refl
line_of-place_in _ t = refl

pub line_of-ticket : (l : Line) (pl : Place) (t : ℕ) → ticket_in l pl ≡ Some t → line_of pl ≡ Some l
line_of-ticket l pl t h = ap line_of (ticket-place l pl t h) ∙ line_of-place_in l t

-- a place is in one line at most
pub line-unique : (l m : Line) (pl : Place) (t k : ℕ) → ticket_in l pl ≡ Some t → ticket_in m pl ≡ Some k → (l ≡ m) × (t ≡ k)
line-unique l m pl t k h g =
    let a : line_of pl ≡ Some l = line_of-ticket l pl t h in
    let b : line_of pl ≡ Some m = line_of-ticket m pl k g in
    let e : l ≡ m = cc in
    let d : ticket_in l pl ≡ ticket_in m pl = ap (λ o. ticket_in o pl) e in
    let f : t ≡ k = cc in (e, f)

-- equal stream numbers have equal values
pub stream-is : (r s : ℕ) → stream_no r ≡ stream_no s → r ≡ s
stream-is r s e = ap (λ (n : StreamNo). n.0) e
