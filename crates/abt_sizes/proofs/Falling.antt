-- Each event that is neither a miss nor a step lowers the size of a state.
use Rattle.std.proofs.Common.{◌≡◌, ◌≢◌, ℕ, ◌<◌, ◌≤◌, ◌+◌, ◌-◌, Bool, true, false, List, ◌∷◌, length, Option, Some, None, refl, sym, ◌∙◌, ap, arith}
use Rattle.abt_machine.specs.declared.events.Cause.{Cause}
use Rattle.abt_machine.specs.declared.events.Place.{Place}
use Rattle.abt_machine.specs.declared.events.Place.TheVariants as place
use Rattle.abt_machine.specs.declared.events.Spot.TheVariants as spot
use Rattle.abt_machine.specs.declared.events.What.TheVariants as what
use Rattle.abt_machine.specs.declared.numbers.PoolNo.{PoolNo}
use Rattle.abt_machine.specs.declared.numbers.StreamNo.{StreamNo}
use Rattle.abt_machine.specs.declared.numbers.UnitNo.{UnitNo}
use Rattle.abt_machine.specs.declared.operations.Body.{Body}
use Rattle.abt_machine.specs.Stored.{Stored}
use Rattle.abt_machine.specs.declared.workload.Parts.{Parts}
use Rattle.abt_machine.specs.Changes.{changed, tray_moves}
use Rattle.abt_machine.specs.Events.{after, look_row, without_requests}
use Rattle.abt_machine.specs.Frames.{entered, left, marked, round_missed, round_taken, sched_of}
use Rattle.abt_machine.specs.Fronts.{front}
use Rattle.abt_machine.specs.Lines.{InHand, InNext, InPool, InTray, Joining, hand, next, standing, ticket_in, tray_end}
use Rattle.abt_machine.specs.Maps.{put_all, put_at}
use Rattle.abt_machine.specs.Next.{EnterDue, LeaveDue, due}
use Rattle.abt_machine.specs.Numbers.{stream_no, unit_no}
use Rattle.abt_machine.specs.Queues.{first}
use Rattle.abt_machine.specs.Sound.{Sound}
use Rattle.abt_machine.specs.State.{Asked, Desk, Frame, Left, Mark, Plain, State, Stream}
use Rattle.abt_machine.specs.Workloads.{body_at, is_sched}
use Rattle.abt_laws.specs.Measure.{request_weight}
use Rattle.abt_laws.proofs.Dues.{due-idle, due-unit, enter-due, leave-below}
use Rattle.abt_laws.proofs.LineMoves.{tray_moves-each}
use Rattle.abt_laws.proofs.Maps.{put_all-kept, put_at-other, put_at-same}
use Rattle.abt_laws.proofs.Marks.{left-mark, marks-elsewhere, marks-kept}
use Rattle.abt_laws.proofs.Places.{same-self}
use Rattle.abt_laws.proofs.SoundEvents.{handed}
use Rattle.abt_laws.proofs.Standing.{StandsIn, each-stands, first-stands, front-stands, is-declared, none-first}
use Rattle.abt_sizes.proofs.Sizes.{extra, hand-most, hand-some, hand_size, left-size, marks_of, place_size, sched_at, size-falls, size-kept, state_size, unit_size, unit_size-kept}

-- no unit is in the hand of s
abbrev HandIsFree : State → ℕ → Type 0
HandIsFree S s = (v : ℕ) → S.place v ≡ place.Hand (stream_no s) → ⊥

pub miss-keeps : (W : Parts) (S : State) (s : ℕ) (p : PoolNo) → state_size W (after W S s (what.Miss p)) ≤ state_size W S
miss-keeps W S s p = size-kept W S (after W S s (what.Miss p)) (λ v. unit_size-kept W S (after W S s (what.Miss p)) v refl refl (λ r _. marks-kept S s (round_missed W p.0 (S.stream s)) refl r))

-- Events that move one unit.

-- unit u has less, and every other unit stays where it is
one-smaller : (W : Parts) (S T : State) (u : ℕ) → u < length W.units → unit_size W T u < unit_size W S u → ((v : ℕ) → v ≢ u → T.place v ≡ S.place v) → ((v : ℕ) → v ≢ u → T.desk v ≡ S.desk v) →
    ((v : ℕ) (r : StreamNo) → S.place v ≡ place.Hand r → marks_of T r.0 ≡ marks_of S r.0) → state_size W T < state_size W S
one-smaller W S T u declared less places desks marks = size-falls W S T u declared less (λ v other. unit_size-kept W S T v (places v other) (desks v other) (marks v))

pub take-falls : (W : Parts) (S : State) (s : ℕ) (p : PoolNo) (u : UnitNo) → front W S s p.0 ≡ Some u.0 → state_size W (after W S s (what.Take p u)) < state_size W S
take-falls W S s p u taken =
    let T : State = after W S s (what.Take p u) in
    let stands : StandsIn W S (InPool p.0) u.0 = front-stands W S s p.0 u.0 taken in
    let was : place_size (sched_at W u.0) (marks_of S) (S.place u.0) ≡ 3 + extra (sched_at W u.0) = ap (place_size (sched_at W u.0) (marks_of S)) stands.at in
    let now : place_size (sched_at W u.0) (marks_of T) (T.place u.0) ≡ 2 + extra (sched_at W u.0) = ap (place_size (sched_at W u.0) (marks_of T)) (put_at-same S.place u.0 (place.Next (stream_no s))) in
    one-smaller W S T u.0 stands.declared (omega arith) (put_at-other S.place u.0 (place.Next (stream_no s))) (λ v _. refl) (λ v r _. marks-kept S s (round_taken (S.stream s)) refl r)

pub put-falls : (W : Parts) (S : State) (s : ℕ) (u : UnitNo) (p : PoolNo) → first (standing W S (InTray s)) ≡ Some u.0 → state_size W (after W S s (what.Put u p)) < state_size W S
put-falls W S s u p put =
    let T : State = after W S s (what.Put u p) in
    let to : Place = place.Pool p (S.pool_next p.0) in
    let stands : StandsIn W S (InTray s) u.0 = first-stands W S (InTray s) u.0 put in
    let was : place_size (sched_at W u.0) (marks_of S) (S.place u.0) ≡ 4 + extra (sched_at W u.0) = ap (place_size (sched_at W u.0) (marks_of S)) stands.at in
    let now : place_size (sched_at W u.0) (marks_of T) (T.place u.0) ≡ 3 + extra (sched_at W u.0) = ap (place_size (sched_at W u.0) (marks_of T)) (put_at-same S.place u.0 to) in
    one-smaller W S T u.0 stands.declared (omega arith) (put_at-other S.place u.0 to) (λ v _. refl) (λ v r _. refl)

pub enter-falls : (W : Parts) (S : State) (s : ℕ) (u : UnitNo) → due W S s ≡ EnterDue → hand W S s ≡ Some u.0 → state_size W (after W S s (what.Enter u)) < state_size W S
enter-falls W S s u comes held =
    let T : State = after W S s (what.Enter u) in
    let to : Place = place.Frame (stream_no s) (length (S.stream s).below) in
    let stands : StandsIn W S (InHand s) u.0 = first-stands W S (InHand s) u.0 held in
    let enters = enter-due W s (S.stream s).mark (body_at W u.0) (S.carried u.0).position (due-unit W S s EnterDue u.0 comes tt held) in
    let was : place_size (sched_at W u.0) (marks_of S) (S.place u.0) ≡ 3 =
    ap (place_size (sched_at W u.0) (marks_of S)) stands.at ∙ (ap (hand_size (sched_at W u.0)) enters.0 ∙ ap (λ (b : Body). hand_size (is_sched b) Plain) enters.1.1) in
    let now : place_size (sched_at W u.0) (marks_of T) (T.place u.0) ≡ 2 = ap (place_size (sched_at W u.0) (marks_of T)) (put_at-same S.place u.0 to) in
    one-smaller W S T u.0 stands.declared (omega arith) (put_at-other S.place u.0 to) (λ v _. refl) (λ v r _. marks-kept S s (entered (sched_of (body_at W u.0)) (S.stream s)) refl r)

-- Leave.

idle-hand-free : (W : Parts) (Z : Stored) (S : State) (s : ℕ) → Sound W Z S → hand W S s ≡ None → HandIsFree S s
idle-hand-free W Z S s sound none v held = none-first W S sound.undeclared (InHand s) none v 0 (ap (ticket_in (InHand s)) held ∙ same-self s 0)

pub leave-falls : (W : Parts) (Z : Stored) (S : State) (s : ℕ) (u : UnitNo) → Sound W Z S → due W S s ≡ LeaveDue → S.place u.0 ≡ place.Frame (stream_no s) (length (S.stream s).below - 1) →
    state_size W (after W S s (what.Leave u)) < state_size W S
leave-falls W Z S s u sound comes framed =
    let T : State = after W S s (what.Leave u) in
    let below : (f : Frame) × (rest : List Frame) × ((S.stream s).below ≡ f ∷ rest) = leave-below W S s comes in
    let free : HandIsFree S s = idle-hand-free W Z S s sound (due-idle W S s LeaveDue comes tt).0 in
    let mark : marks_of T s ≡ Left = ap (λ (x : Stream). x.mark) (put_at-same S.stream s (left (S.stream s))) ∙ left-mark (S.stream s) below.0 below.1 below.2 in
    let was : place_size (sched_at W u.0) (marks_of S) (S.place u.0) ≡ 2 = ap (place_size (sched_at W u.0) (marks_of S)) framed in
    let now : place_size (sched_at W u.0) (marks_of T) (T.place u.0) ≡ 1 =
    ap (place_size (sched_at W u.0) (marks_of T)) (put_at-same S.place u.0 (place.Hand (stream_no s))) ∙ (ap (hand_size (sched_at W u.0)) mark ∙ left-size (sched_at W u.0)) in
    one-smaller W S T u.0 (is-declared W S sound.undeclared u.0 _ framed (λ e. cc)) (omega arith) (put_at-other S.place u.0 (place.Hand (stream_no s))) (λ v _. refl) (λ v. marks-elsewhere S s v (left (S.stream s)) (free v))

-- Look.

-- a unit in the Next of s leaves its hand free
next-hand-free : (W : Parts) (Z : Stored) (S : State) (s u : ℕ) → Sound W Z S → StandsIn W S (InNext s) u → HandIsFree S s
next-hand-free W Z S s u sound stands v held = sound.hand_or_next s v u held stands.at

handed-falls : (W : Parts) (S : State) (s u : ℕ) (m : Mark) → StandsIn W S (InNext s) u → HandIsFree S s → state_size W (changed S (handed S s u m)) < state_size W S
handed-falls W S s u m stands free =
    let T : State = changed S (handed S s u m) in
    let was : place_size (sched_at W u) (marks_of S) (S.place u) ≡ 2 + extra (sched_at W u) = ap (place_size (sched_at W u) (marks_of S)) stands.at in
    let now : place_size (sched_at W u) (marks_of T) (T.place u) ≡ hand_size (sched_at W u) (marks_of T s) = ap (place_size (sched_at W u) (marks_of T)) (put_at-same S.place u (place.Hand (stream_no s))) in
    let few : hand_size (sched_at W u) (marks_of T s) ≤ 1 + extra (sched_at W u) = hand-most (sched_at W u) (marks_of T s) in
    let asks : request_weight (T.desk u).migrate ≡ 0 = ap (λ (d : Desk). request_weight d.migrate) (put_at-same S.desk u (without_requests (S.desk u))) in
    one-smaller W S T u stands.declared (omega arith) (put_at-other S.place u (place.Hand (stream_no s))) (put_at-other S.desk u (without_requests (S.desk u))) (λ v. marks-elsewhere S s v (marked m (S.stream s)) (free v))

-- a unit that is to migrate goes to the tray, without its request
migrate-falls : (W : Parts) (S : State) (s u p : ℕ) → (S.desk u).migrate ≡ Some p → StandsIn W S (InNext s) u → state_size W (changed S (look_row W S s u false (Some p))) < state_size W S
migrate-falls W S s u p asked stands =
    let T : State = changed S (look_row W S s u false (Some p)) in
    let to : Place = place.Tray (stream_no s) (tray_end W S s) in
    let was : place_size (sched_at W u) (marks_of S) (S.place u) ≡ 2 + extra (sched_at W u) = ap (place_size (sched_at W u) (marks_of S)) stands.at in
    let asks : request_weight (S.desk u).migrate ≡ 3 = ap request_weight asked in
    let now : place_size (sched_at W u) (marks_of T) (T.place u) ≡ 4 + extra (sched_at W u) = ap (place_size (sched_at W u) (marks_of T)) (put_at-same S.place u to) in
    let forgets : request_weight (T.desk u).migrate ≡ 0 = ap (λ (d : Desk). request_weight d.migrate) (put_at-same S.desk u (without_requests (S.desk u))) in
    one-smaller W S T u stands.declared (omega arith) (put_at-other S.place u to) (put_at-other S.desk u (without_requests (S.desk u))) (λ v r _. refl)

look_row-falls : (W : Parts) (S : State) (s u : ℕ) (cancel : Bool) (migrate : Option ℕ) → (S.desk u).migrate ≡ migrate → StandsIn W S (InNext s) u → HandIsFree S s → state_size W (changed S (look_row W S s u cancel migrate)) < state_size W S
look_row-falls W S s u true migrate e stands free = handed-falls W S s u Asked stands free
look_row-falls W S s u false None e stands free = handed-falls W S s u Plain stands free
look_row-falls W S s u false (Some p) e stands free = migrate-falls W S s u p e stands

pub look-falls : (W : Parts) (Z : Stored) (S : State) (s : ℕ) (u : UnitNo) → Sound W Z S → next W S s ≡ Some u.0 → state_size W (after W S s (what.Look u)) < state_size W S
look-falls W Z S s u sound taken =
    let stands : StandsIn W S (InNext s) u.0 = first-stands W S (InNext s) u.0 taken in
    look_row-falls W S s u.0 (S.desk u.0).cancel (S.desk u.0).migrate refl stands (next-hand-free W Z S s u.0 sound stands)

-- End.

-- after unit u has ended and its joiners have gone to the tray each unit has what it has where they still join u
ended-joiners : (W : Parts) (S : State) (s u : ℕ) (c : Cause) → StandsIn W S (InHand s) u → (v : ℕ) →
    place_size (sched_at W v) (marks_of S) (put_all (put_at S.place u (place.Ended c)) (tray_moves s (tray_end W S s) (standing W S (Joining u))) v)
    ≡ place_size (sched_at W v) (marks_of S) (put_at S.place u (place.Ended c) v)
ended-joiners W S s u c held v =
    put_all-kept (λ n pl. place_size (sched_at W n) (marks_of S) pl ≡ place_size (sched_at W n) (marks_of S) (put_at S.place u (place.Ended c) n)) (put_at S.place u (place.Ended c))
    (tray_moves s (tray_end W S s) (standing W S (Joining u))) v
    (tray_moves-each (λ (m : ℕ × Place). place_size (sched_at W m.0) (marks_of S) m.1 ≡ place_size (sched_at W m.0) (marks_of S) (put_at S.place u (place.Ended c) m.0)) (StandsIn W S (Joining u)) s
    (tray_end W S s) (standing W S (Joining u))
    (λ w t joins. sym (ap (place_size (sched_at W w) (marks_of S)) (put_at-other S.place u (place.Ended c) w
    (λ same. (let x : S.place w ≡ place.Hand (stream_no s) = ap S.place same ∙ held.at in let y : place.Hand (stream_no s) ≡ place.Blocked (spot.Join (unit_no u)) joins.ticket = sym x ∙ joins.at in cc)) ∙ joins.at))) (each-stands W S (Joining u))) refl

pub end-falls : (W : Parts) (S : State) (s : ℕ) (u : UnitNo) (c : Cause) → hand W S s ≡ Some u.0 → state_size W (after W S s (what.End u c)) < state_size W S
end-falls W S s u c ending =
    let T : State = after W S s (what.End u c) in
    let held : StandsIn W S (InHand s) u.0 = first-stands W S (InHand s) u.0 ending in
    let there : (v : ℕ) → place_size (sched_at W v) (marks_of T) (T.place v) ≡ place_size (sched_at W v) (marks_of S) (put_at S.place u.0 (place.Ended c) v) = ended-joiners W S s u.0 c held in
    let was : place_size (sched_at W u.0) (marks_of S) (S.place u.0) ≡ hand_size (sched_at W u.0) (marks_of S s) = ap (place_size (sched_at W u.0) (marks_of S)) held.at in
    let now : place_size (sched_at W u.0) (marks_of T) (T.place u.0) ≡ 0 = there u.0 ∙ ap (place_size (sched_at W u.0) (marks_of S)) (put_at-same S.place u.0 (place.Ended c)) in
    let forgets : request_weight (T.desk u.0).migrate ≡ 0 = ap (λ (d : Desk). request_weight d.migrate) (put_at-same S.desk u.0 (without_requests (S.desk u.0))) in
    size-falls W S T u.0 held.declared (omega (arith, hand-some (sched_at W u.0) (marks_of S s)))
    (λ v other.
    let places : place_size (sched_at W v) (marks_of T) (T.place v) ≡ place_size (sched_at W v) (marks_of S) (S.place v) = there v ∙ ap (place_size (sched_at W v) (marks_of S)) (put_at-other S.place u.0 (place.Ended c) v other) in
    let requests : request_weight (T.desk v).migrate ≡ request_weight (S.desk v).migrate = ap (λ (d : Desk). request_weight d.migrate) (put_at-other S.desk u.0 (without_requests (S.desk u.0)) v other) in
    omega arith)
