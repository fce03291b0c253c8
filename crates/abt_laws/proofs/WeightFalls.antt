-- Each event that moves units and is no step lowers their weight.
use Rattle.std.proofs.Common.{◌≡◌, ◌≢◌, ℕ, ◌<◌, ◌≤◌, ◌-◌, Bool, true, false, List, ◌∷◌, length, Option, Some, None, refl, ◌∙◌, ap, arith}
use Rattle.abt_machine.specs.declared.events.Cause.{Cause}
use Rattle.abt_machine.specs.declared.events.Place.{Place}
use Rattle.abt_machine.specs.declared.events.Place.TheVariants as place
use Rattle.abt_machine.specs.declared.events.What.TheVariants as what
use Rattle.abt_machine.specs.declared.numbers.PoolNo.{PoolNo}
use Rattle.abt_machine.specs.declared.numbers.StreamNo.{StreamNo}
use Rattle.abt_machine.specs.declared.numbers.UnitNo.{UnitNo}
use Rattle.abt_machine.specs.Stored.{Stored}
use Rattle.abt_machine.specs.declared.workload.Parts.{Parts}
use Rattle.abt_machine.specs.Numbers.{stream_no}
use Rattle.abt_machine.specs.Maps.{put_at, put_all}
use Rattle.abt_machine.specs.Workloads.{body_at}
use Rattle.abt_machine.specs.Queues.{first}
use Rattle.abt_machine.specs.State.{State, Stream, Frame, Desk, Mark, Plain, Asked, Left, Exited}
use Rattle.abt_machine.specs.Lines.{InPool, InTray, InHand, InNext, Joining, hand, next, standing, ticket_in, tray_end}
use Rattle.abt_machine.specs.Next.{EnterDue, LeaveDue, due}
use Rattle.abt_machine.specs.Fronts.{front}
use Rattle.abt_machine.specs.Frames.{entered, left, marked, round_taken, sched_of}
use Rattle.abt_machine.specs.Changes.{changed, tray_moves}
use Rattle.abt_machine.specs.Events.{after, look_row, without_requests}
use Rattle.abt_machine.specs.Sound.{Sound}
use Rattle.abt_laws.specs.Measure.{hand_weight, place_weight, request_weight, unit_weight, state_weight}
use Rattle.abt_laws.proofs.SoundEvents.{handed}
use Rattle.abt_laws.proofs.Marks.{marks-kept, marks-elsewhere, left-mark}
use Rattle.abt_laws.proofs.Places.{same-self}
use Rattle.abt_laws.proofs.Standing.{StandsIn, each-stands, first-stands, front-stands, is-declared, none-first}
use Rattle.abt_laws.proofs.Maps.{put_at-other, put_at-same}
use Rattle.abt_laws.proofs.Lists.{EachOf-then}
use Rattle.abt_laws.proofs.Dues.{due-idle, enters-plain, leave-below}
use Rattle.abt_laws.proofs.Weights.{place_weight-kept, stands-weight, tray_moves-weight, unit_weight-kept, weight-falls}

-- no unit is in the hand of s
abbrev HandIsFree : State → ℕ → Type 0
HandIsFree S s = (v : ℕ) → S.place v ≡ place.Hand (stream_no s) → ⊥

-- Events that move one unit.

-- unit u is lighter, and every other unit stays where it is
one-lighter : (W : Parts) (S T : State) (u : ℕ) → u < length W.units → unit_weight T u < unit_weight S u → ((v : ℕ) → v ≢ u → T.place v ≡ S.place v) → ((v : ℕ) → v ≢ u → T.desk v ≡ S.desk v) →
    ((v : ℕ) (r : StreamNo) → S.place v ≡ place.Hand r → (T.stream r.0).mark ≡ (S.stream r.0).mark) → state_weight W T < state_weight W S
one-lighter W S T u declared less places desks marks =
    weight-falls W S T u declared less (λ v other. unit_weight-kept S T v (places v other) (desks v other) (marks v))

pub take-falls : (W : Parts) (S : State) (s : ℕ) (p : PoolNo) (u : UnitNo) → front W S s p.0 ≡ Some u.0 → state_weight W (after W S s (what.Take p u)) < state_weight W S
take-falls W S s p u taken =
    let T : State = after W S s (what.Take p u) in
    let stands : StandsIn W S (InPool p.0) u.0 = front-stands W S s p.0 u.0 taken in
    let was : place_weight S (S.place u.0) ≡ 5 = stands-weight W S (InPool p.0) u.0 stands in
    let now : place_weight T (T.place u.0) ≡ 4 = ap (place_weight T) (put_at-same S.place u.0 (place.Next (stream_no s))) in
    one-lighter W S T u.0 stands.declared (omega arith) (put_at-other S.place u.0 (place.Next (stream_no s))) (λ v _. refl) (λ v r _. marks-kept S s (round_taken (S.stream s)) refl r)

pub put-falls : (W : Parts) (S : State) (s : ℕ) (u : UnitNo) (p : PoolNo) → first (standing W S (InTray s)) ≡ Some u.0 → state_weight W (after W S s (what.Put u p)) < state_weight W S
put-falls W S s u p put =
    let T : State = after W S s (what.Put u p) in
    let stands : StandsIn W S (InTray s) u.0 = first-stands W S (InTray s) u.0 put in
    let was : place_weight S (S.place u.0) ≡ 6 = stands-weight W S (InTray s) u.0 stands in
    let now : place_weight T (T.place u.0) ≡ 5 = ap (place_weight T) (put_at-same S.place u.0 (place.Pool p (S.pool_next p.0))) in
    one-lighter W S T u.0 stands.declared (omega arith) (put_at-other S.place u.0 (place.Pool p (S.pool_next p.0))) (λ v _. refl) (λ v r _. refl)

pub enter-falls : (W : Parts) (S : State) (s : ℕ) (u : UnitNo) → due W S s ≡ EnterDue → hand W S s ≡ Some u.0 → state_weight W (after W S s (what.Enter u)) < state_weight W S
enter-falls W S s u comes held =
    let T : State = after W S s (what.Enter u) in
    let to : Place = place.Frame (stream_no s) (length (S.stream s).below) in
    let stands : StandsIn W S (InHand s) u.0 = first-stands W S (InHand s) u.0 held in
    let was : place_weight S (S.place u.0) ≡ 3 = stands-weight W S (InHand s) u.0 stands ∙ ap hand_weight (enters-plain W S s u.0 comes held) in
    let now : place_weight T (T.place u.0) ≡ 2 = ap (place_weight T) (put_at-same S.place u.0 to) in
    one-lighter W S T u.0 stands.declared (omega arith) (put_at-other S.place u.0 to) (λ v _. refl) (λ v r _. marks-kept S s (entered (sched_of (body_at W u.0)) (S.stream s)) refl r)

-- Leave.

idle-hand-free : (W : Parts) (Z : Stored) (S : State) (s : ℕ) → Sound W Z S → hand W S s ≡ None → HandIsFree S s
idle-hand-free W Z S s sound none v held = none-first W S sound.undeclared (InHand s) none v 0 (ap (ticket_in (InHand s)) held ∙ same-self s 0)

pub leave-falls : (W : Parts) (Z : Stored) (S : State) (s : ℕ) (u : UnitNo) → Sound W Z S → due W S s ≡ LeaveDue → S.place u.0 ≡ place.Frame (stream_no s) (length (S.stream s).below - 1) →
    state_weight W (after W S s (what.Leave u)) < state_weight W S
leave-falls W Z S s u sound comes framed =
    let T : State = after W S s (what.Leave u) in
    let below : (f : Frame) × (rest : List Frame) × ((S.stream s).below ≡ f ∷ rest) = leave-below W S s comes in
    let free : HandIsFree S s = idle-hand-free W Z S s sound (due-idle W S s LeaveDue comes tt).0 in
    let mark : (T.stream s).mark ≡ Left = ap (λ (x : Stream). x.mark) (put_at-same S.stream s (left (S.stream s))) ∙ left-mark (S.stream s) below.0 below.1 below.2 in
    let was : place_weight S (S.place u.0) ≡ 2 = ap (place_weight S) framed in
    let now : place_weight T (T.place u.0) ≡ 1 = ap (place_weight T) (put_at-same S.place u.0 (place.Hand (stream_no s))) ∙ ap hand_weight mark in
    one-lighter W S T u.0 (is-declared W S sound.undeclared u.0 _ framed (λ e. cc)) (omega arith) (put_at-other S.place u.0 (place.Hand (stream_no s))) (λ v _. refl) (λ v. marks-elsewhere S s v (left (S.stream s)) (free v))

-- Look.

-- a unit in the Next of s leaves its hand free
next-hand-free : (W : Parts) (Z : Stored) (S : State) (s u : ℕ) → Sound W Z S → StandsIn W S (InNext s) u → HandIsFree S s
next-hand-free W Z S s u sound stands v held = sound.hand_or_next s v u held stands.at

handed-falls : (W : Parts) (S : State) (s u : ℕ) (m : Mark) → hand_weight m ≡ 3 → StandsIn W S (InNext s) u → HandIsFree S s → state_weight W (changed S (handed S s u m)) < state_weight W S
handed-falls W S s u m heavy stands free =
    let T : State = changed S (handed S s u m) in
    let mark : (T.stream s).mark ≡ m = ap (λ (x : Stream). x.mark) (put_at-same S.stream s (marked m (S.stream s))) in
    let was : place_weight S (S.place u) ≡ 4 = stands-weight W S (InNext s) u stands in
    let now : place_weight T (T.place u) ≡ 3 = ap (place_weight T) (put_at-same S.place u (place.Hand (stream_no s))) ∙ (ap hand_weight mark ∙ heavy) in
    let asks : request_weight (T.desk u).migrate ≡ 0 = ap (λ (d : Desk). request_weight d.migrate) (put_at-same S.desk u (without_requests (S.desk u))) in
    one-lighter W S T u stands.declared (omega arith) (put_at-other S.place u (place.Hand (stream_no s))) (put_at-other S.desk u (without_requests (S.desk u))) (λ v. marks-elsewhere S s v (marked m (S.stream s)) (free v))

-- a unit that is to migrate goes to the tray, without its request
migrate-falls : (W : Parts) (S : State) (s u p : ℕ) → (S.desk u).migrate ≡ Some p → StandsIn W S (InNext s) u → state_weight W (changed S (look_row W S s u false (Some p))) < state_weight W S
migrate-falls W S s u p asked stands =
    let T : State = changed S (look_row W S s u false (Some p)) in
    let to : Place = place.Tray (stream_no s) (tray_end W S s) in
    let was : place_weight S (S.place u) ≡ 4 = stands-weight W S (InNext s) u stands in
    let asks : request_weight (S.desk u).migrate ≡ 3 = ap request_weight asked in
    let now : place_weight T (T.place u) ≡ 6 = ap (place_weight T) (put_at-same S.place u to) in
    let forgets : request_weight (T.desk u).migrate ≡ 0 = ap (λ (d : Desk). request_weight d.migrate) (put_at-same S.desk u (without_requests (S.desk u))) in
    one-lighter W S T u stands.declared (omega arith) (put_at-other S.place u to) (put_at-other S.desk u (without_requests (S.desk u))) (λ v r _. refl)

look_row-falls : (W : Parts) (S : State) (s u : ℕ) (cancel : Bool) (migrate : Option ℕ) → (S.desk u).migrate ≡ migrate → StandsIn W S (InNext s) u → HandIsFree S s → state_weight W (changed S (look_row W S s u cancel migrate)) < state_weight W S
look_row-falls W S s u true migrate e stands free = handed-falls W S s u Asked refl stands free
look_row-falls W S s u false None e stands free = handed-falls W S s u Plain refl stands free
look_row-falls W S s u false (Some p) e stands free = migrate-falls W S s u p e stands

pub look-falls : (W : Parts) (Z : Stored) (S : State) (s : ℕ) (u : UnitNo) → Sound W Z S → next W S s ≡ Some u.0 → state_weight W (after W S s (what.Look u)) < state_weight W S
look-falls W Z S s u sound taken =
    let stands : StandsIn W S (InNext s) u.0 = first-stands W S (InNext s) u.0 taken in
    look_row-falls W S s u.0 (S.desk u.0).cancel (S.desk u.0).migrate refl stands (next-hand-free W Z S s u.0 sound stands)

-- End.

hand_weight-light : (m : Mark) → hand_weight m ≤ 3
hand_weight-light Plain = omega arith
hand_weight-light Asked = omega arith
hand_weight-light Left = omega arith
hand_weight-light Exited = omega arith

hand_weight-some : (m : Mark) → 0 < hand_weight m
hand_weight-some Plain = omega arith
hand_weight-some Asked = omega arith
hand_weight-some Left = omega arith
hand_weight-some Exited = omega arith

-- the places after unit u has ended and its joiners have gone to the tray weigh as those where it has ended and they still join it
ended-joiners : (W : Parts) (S : State) (s u : ℕ) (c : Cause) → StandsIn W S (InHand s) u → (v : ℕ) →
    place_weight S (put_all (put_at S.place u (place.Ended c)) (tray_moves s (tray_end W S s) (standing W S (Joining u))) v) ≡ place_weight S (put_at S.place u (place.Ended c) v)
ended-joiners W S s u c held =
    let light : place_weight S (S.place u) ≡ hand_weight (S.stream s).mark = stands-weight W S (InHand s) u held in
    tray_moves-weight S s (tray_end W S s) (standing W S (Joining u)) (put_at S.place u (place.Ended c))
    (EachOf-then (StandsIn W S (Joining u)) _ (standing W S (Joining u))
    (λ w joins.
    let heavy : place_weight S (S.place w) ≡ 6 = stands-weight W S (Joining u) w joins in
    ap (place_weight S) (put_at-other S.place u (place.Ended c) w
    (λ same. let one : place_weight S (S.place w) ≡ place_weight S (S.place u) = ap (λ x. place_weight S (S.place x)) same in omega (arith, hand_weight-light (S.stream s).mark))) ∙ heavy)
    (each-stands W S (Joining u)))

pub end-falls : (W : Parts) (S : State) (s : ℕ) (u : UnitNo) (c : Cause) → hand W S s ≡ Some u.0 → state_weight W (after W S s (what.End u c)) < state_weight W S
end-falls W S s u c ending =
    let T : State = after W S s (what.End u c) in
    let held : StandsIn W S (InHand s) u.0 = first-stands W S (InHand s) u.0 ending in
    let there : (v : ℕ) → place_weight T (T.place v) ≡ place_weight S (put_at S.place u.0 (place.Ended c) v) =
    λ v. place_weight-kept S T (T.place v) (λ r _. refl) ∙ ended-joiners W S s u.0 c held v in
    let was : place_weight S (S.place u.0) ≡ hand_weight (S.stream s).mark = stands-weight W S (InHand s) u.0 held in
    let now : place_weight T (T.place u.0) ≡ 0 = there u.0 ∙ ap (place_weight S) (put_at-same S.place u.0 (place.Ended c)) in
    let forgets : request_weight (T.desk u.0).migrate ≡ 0 = ap (λ (d : Desk). request_weight d.migrate) (put_at-same S.desk u.0 (without_requests (S.desk u.0))) in
    weight-falls W S T u.0 held.declared (omega (arith, hand_weight-some (S.stream s).mark))
    (λ v other.
    let places : place_weight T (T.place v) ≡ place_weight S (S.place v) = there v ∙ ap (place_weight S) (put_at-other S.place u.0 (place.Ended c) v other) in
    let requests : request_weight (T.desk v).migrate ≡ request_weight (S.desk v).migrate = ap (λ (d : Desk). request_weight d.migrate) (put_at-other S.desk u.0 (without_requests (S.desk u.0)) v other) in
    omega arith)
