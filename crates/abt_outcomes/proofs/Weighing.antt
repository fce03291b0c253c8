-- The units' weight is that of what streams and objects hold.
use Rattle.std.proofs.Common.{◌≡◌, ◌≢◌, ℕ, zero, suc, ◌<◌, ◌≤◌, ◌+◌, ◌*◌, ◌==◌, List, [], ◌∷◌, length, Option, Some, None, refl, ap, sym, ◌∙◌, arith, add-zero}
use Rattle.std.proofs.lemmas.Bool.{cond-false, ne_eqb}
use Rattle.std.proofs.lemmas.List.{length-map}
use Rattle.abt_machine.specs.declared.events.Place.{Place}
use Rattle.abt_machine.specs.declared.events.Place.TheVariants as place
use Rattle.abt_machine.specs.declared.events.Site.TheVariants as site
use Rattle.abt_machine.specs.declared.events.Spot.TheVariants as spot
use Rattle.abt_machine.specs.Stored.{Stored}
use Rattle.abt_machine.specs.declared.workload.Parts.{Parts}
use Rattle.abt_machine.specs.Numbers.{pool_no, unit_no}
use Rattle.abt_machine.specs.Queues.{first, ticketed}
use Rattle.abt_machine.specs.State.{State}
use Rattle.abt_machine.specs.Lines.{Line, InPool, InTray, InHand, InNext, InFrames, Joining, if_same, standing, ticket_in}
use Rattle.abt_machine.specs.Sound.{Sound, IsPlaced}
use Rattle.abt_machine.specs.Values.{Owned, Held, owned_at, owned_in, part_of, object_of}
use Rattle.abt_laws.specs.Measure.{hand_weight, open_frames_of, place_weight, request_weight, unit_weight, state_weight}
use Rattle.abt_laws.proofs.Counts.{length-step, ticket_count, ticket_count-one}
use Rattle.abt_laws.proofs.Places.{same-self, ticket-place, ticket_at, ticket_in-place_in}
use Rattle.abt_laws.proofs.Sums.{sum_up, sum_up-none, sum_up-one, sum_up-plus, sum_up-same, sum_up-single, sum_up-suc, sum_up-swap, sum_up-times}
use Rattle.abt_outcomes.specs.Laws.{FramesAreSeen, WeightIsSeen}
use Rattle.abt_outcomes.specs.Measured.{held_weight, object_weight, one_of, weight_seen}

-- How many stand in a line.

length-ticketed : (at : ℕ → Option ℕ) (n : ℕ) → length (ticketed at n) ≡ sum_up (λ u. ticket_count (at u)) n
length-ticketed at zero = refl
length-ticketed at (suc n) =
    let rest : length (ticketed at n) ≡ sum_up (λ u. ticket_count (at u)) n = length-ticketed at n in
    omega (arith, length-step n (at n) (ticketed at n), sum_up-suc (λ u. ticket_count (at u)) n)

-- 1 if unit u stands in line l
abbrev stands_in : State → Line → ℕ → ℕ
stands_in S l u = ticket_count (ticket_in l (S.place u))

count-line : (W : Parts) (S : State) (l : Line) → length (owned_in W S l) ≡ sum_up (stands_in S l) (length W.units)
count-line W S l =
    length-map (standing W S l) (owned_at S)
    ∙ (length-map (ticketed (λ u. ticket_in l (S.place u)) (length W.units)) (λ (p : ℕ × ℕ). p.1)
    ∙ length-ticketed (λ u. ticket_in l (S.place u)) (length W.units))

counted-ticket : (o : Option ℕ) → ticket_count o ≡ 1 → (t : ℕ) × (o ≡ Some t)
counted-ticket None e = absurd (omega arith)
counted-ticket (Some t) e = (t, refl)

-- A hand and a Next hold one unit at most.

one-first : (os : List Owned) → length os ≤ 1 → one_of (first os) ≡ length os
one-first [] l = refl
one-first (o ∷ []) l = refl
one-first (o ∷ p ∷ os) l = absurd (omega arith)

-- a line in which all tickets are 0
module _ (W : Parts) (Z : Stored) (S : State) (l : Line) (sound : Sound W Z S) (zero_at : (t : ℕ) → ticket_at l t ≡ 0) where
  ticket-zero : (u : ℕ) → stands_in S l u ≡ 1 → ticket_in l (S.place u) ≡ Some 0
  ticket-zero u stands =
      let has : (t : ℕ) × (ticket_in l (S.place u) ≡ Some t) = counted-ticket (ticket_in l (S.place u)) stands in
      ap (ticket_in l) (ticket-place l (S.place u) has.0 has.1) ∙ (ticket_in-place_in l has.0 ∙ ap (λ (t : ℕ). Some t) (zero_at has.0))

  alone : sum_up (stands_in S l) (length W.units) ≤ 1
  alone = sum_up-one (stands_in S l) (length W.units) (λ v. ticket_count-one (ticket_in l (S.place v))) (λ u v a b. sound.one_each l u v 0 (ticket-zero u a) (ticket-zero v b))

  count-one : one_of (first (owned_in W S l)) ≡ sum_up (stands_in S l) (length W.units)
  count-one =
      let most : sum_up (stands_in S l) (length W.units) ≤ 1 = alone in
      let count : length (owned_in W S l) ≡ sum_up (stands_in S l) (length W.units) = count-line W S l in
      one-first (owned_in W S l) (omega arith) ∙ count

-- What a place weighs, by lines.

abbrev term_at : State → Place → ℕ → ℕ
term_at S at s = 6 * ticket_count (ticket_in (InTray s) at) + (4 * ticket_count (ticket_in (InNext s) at) + (hand_weight (S.stream s).mark * ticket_count (ticket_in (InHand s) at) + 2 * ticket_count (ticket_in (InFrames s) at)))

abbrev pool_at : Place → ℕ → ℕ
pool_at at p = 5 * ticket_count (ticket_in (InPool p) at)

abbrev join_at : Place → ℕ → ℕ
join_at at v = 6 * ticket_count (ticket_in (Joining v) at)

abbrev by_lines : Parts → State → Place → ℕ
by_lines W S at = sum_up (term_at S at) W.streams + (sum_up (pool_at at) (length W.pools) + sum_up (join_at at) (length W.units))

-- if these are the three sums
sums-are : (W : Parts) (S : State) (at : Place) (a b c : ℕ) → sum_up (term_at S at) W.streams ≡ a → sum_up (pool_at at) (length W.pools) ≡ b → sum_up (join_at at) (length W.units) ≡ c → by_lines W S at ≡ a + (b + c)
sums-are W S at a b c x y z = omega arith

ticket_count-same : (a t : ℕ) → ticket_count (if_same a a t) ≡ 1
ticket_count-same a t = ap ticket_count (same-self a t)

ticket_count-other : (a b t : ℕ) → b ≢ a → ticket_count (if_same a b t) ≡ 0
ticket_count-other a b t other = ap ticket_count (cond-false (a == b) (Some t) None (ne_eqb a b (λ e. other (sym e))))

-- of one stream's terms
one-term : (S : State) (at : Place) (n s c : ℕ) → s < n → term_at S at s ≡ c → ((r : ℕ) → r ≢ s → term_at S at r ≡ 0) → sum_up (term_at S at) n ≡ c
one-term S at n s c l here others = sum_up-single (term_at S at) n s l others ∙ here

-- in a line of stream s, where each stream's line has its own weight
in-stream : (W : Parts) (S : State) (at : Place) (n : ℕ → ℕ) (s t : ℕ) → s < W.streams → ((r : ℕ) → term_at S at r ≡ n r * ticket_count (if_same s r t)) → ((p : ℕ) → pool_at at p ≡ 0) → ((v : ℕ) → join_at at v ≡ 0) → by_lines W S at ≡ n s
in-stream W S at n s t l term no_pool no_join =
    sums-are W S at (n s) 0 0
    (one-term S at W.streams s (n s) l
    (let e : n s * ticket_count (if_same s s t) ≡ n s * 1 = ap (λ k. n s * k) (ticket_count-same s t) in omega (arith, term s))
    (λ r other. (let e : n r * ticket_count (if_same s r t) ≡ n r * 0 = ap (λ k. n r * k) (ticket_count-other s r t other) in omega (arith, term r))))
    (sum_up-none _ (length W.pools) (λ p l. no_pool p)) (sum_up-none _ (length W.units) (λ v l. no_join v))
    ∙ add-zero (n s)

weighs : (W : Parts) (S : State) (u : ℕ) (at : Place) → IsPlaced W S u at → by_lines W S at ≡ place_weight S at
weighs W S u place.Unborn placed = sums-are W S place.Unborn 0 0 0 (sum_up-none _ W.streams (λ s l. omega arith)) (sum_up-none _ (length W.pools) (λ p l. refl)) (sum_up-none _ (length W.units) (λ v l. refl))
weighs W S u (place.Pool p t) placed =
    sums-are W S (place.Pool p t) 0 5 0
    (sum_up-none _ W.streams (λ s l. omega arith))
    (sum_up-single (pool_at (place.Pool p t)) (length W.pools) p.0 placed.0 (λ q other. ap (λ k. 5 * k) (ticket_count-other p.0 q t other)) ∙ ap (λ k. 5 * k) (ticket_count-same p.0 t))
    (sum_up-none _ (length W.units) (λ v l. refl))
weighs W S u (place.Hand s) placed = in-stream W S (place.Hand s) (λ r. hand_weight (S.stream r).mark) s.0 0 placed.0 (λ r. omega arith) (λ p. refl) (λ v. refl)
weighs W S u (place.Next s) placed = in-stream W S (place.Next s) (λ r. 4) s.0 0 placed.0 (λ r. omega arith) (λ p. refl) (λ v. refl)
weighs W S u (place.Tray s t) placed = in-stream W S (place.Tray s t) (λ r. 6) s.0 t placed.0 (λ r. omega arith) (λ p. refl) (λ v. refl)
weighs W S u (place.Frame s d) placed = in-stream W S (place.Frame s d) (λ r. 2) s.0 d placed.0 (λ r. omega arith) (λ p. refl) (λ v. refl)
weighs W S u (place.Blocked spot.Suspended t) placed = sums-are W S (place.Blocked spot.Suspended t) 0 0 0 (sum_up-none _ W.streams (λ s l. omega arith)) (sum_up-none _ (length W.pools) (λ p l. refl)) (sum_up-none _ (length W.units) (λ v l. refl))
weighs W S u (place.Blocked (spot.Join v) t) placed =
    sums-are W S (place.Blocked (spot.Join v) t) 0 0 6
    (sum_up-none _ W.streams (λ s l. omega arith))
    (sum_up-none _ (length W.pools) (λ p l. refl))
    (sum_up-single (join_at (place.Blocked (spot.Join v) t)) (length W.units) v.0 placed.0 (λ w other. ap (λ k. 6 * k) (ticket_count-other v.0 w t other)) ∙ ap (λ k. 6 * k) (ticket_count-same v.0 t))
weighs W S u (place.Blocked (spot.Object x) t) placed = sums-are W S (place.Blocked (spot.Object x) t) 0 0 0 (sum_up-none _ W.streams (λ s l. omega arith)) (sum_up-none _ (length W.pools) (λ p l. refl)) (sum_up-none _ (length W.units) (λ v l. refl))
weighs W S u (place.Ended c) placed = sums-are W S (place.Ended c) 0 0 0 (sum_up-none _ W.streams (λ s l. omega arith)) (sum_up-none _ (length W.pools) (λ p l. refl)) (sum_up-none _ (length W.units) (λ v l. refl))

-- What streams and objects hold weighs.

-- how many units stand in a line
abbrev count : Parts → State → Line → ℕ
count W S l = sum_up (stands_in S l) (length W.units)

stream-weighs : (W : Parts) (Z : Stored) (S : State) (s : ℕ) → Sound W Z S → held_weight (part_of W S s) ≡ sum_up (λ u. term_at S (S.place u) s) (length W.units)
stream-weighs W Z S s sound =
    let n : ℕ = length W.units in
    let hw : ℕ = hand_weight (S.stream s).mark in
    let tray : length (owned_in W S (InTray s)) ≡ count W S (InTray s) = count-line W S (InTray s) in
    let next : one_of (first (owned_in W S (InNext s))) ≡ count W S (InNext s) = count-one W Z S (InNext s) sound (λ t. refl) in
    let hand : hw * one_of (first (owned_in W S (InHand s))) ≡ hw * count W S (InHand s) = ap (λ k. hw * k) (count-one W Z S (InHand s) sound (λ t. refl)) in
    let frames : length (owned_in W S (InFrames s)) ≡ count W S (InFrames s) = count-line W S (InFrames s) in
    let f : ℕ → ℕ = λ u. 6 * stands_in S (InTray s) u in
    let g : ℕ → ℕ = λ u. 4 * stands_in S (InNext s) u in
    let h : ℕ → ℕ = λ u. hw * stands_in S (InHand s) u in
    let k : ℕ → ℕ = λ u. 2 * stands_in S (InFrames s) u in
    let one : sum_up (λ u. f u + (g u + (h u + k u))) n ≡ sum_up f n + sum_up (λ u. g u + (h u + k u)) n = sum_up-plus f (λ u. g u + (h u + k u)) n in
    let two : sum_up (λ u. g u + (h u + k u)) n ≡ sum_up g n + sum_up (λ u. h u + k u) n = sum_up-plus g (λ u. h u + k u) n in
    let three : sum_up (λ u. h u + k u) n ≡ sum_up h n + sum_up k n = sum_up-plus h k n in
    omega (arith, sum_up-times 6 (stands_in S (InTray s)) n, sum_up-times 4 (stands_in S (InNext s)) n, sum_up-times hw (stands_in S (InHand s)) n, sum_up-times 2 (stands_in S (InFrames s)) n)

pool-weighs : (W : Parts) (S : State) (p : ℕ) → object_weight (object_of W S (site.Pool (pool_no p))) ≡ sum_up (λ u. pool_at (S.place u) p) (length W.units)
pool-weighs W S p = ap (λ k. 5 * k) (count-line W S (InPool p)) ∙ sym (sum_up-times 5 (stands_in S (InPool p)) (length W.units))

desk-weighs : (W : Parts) (S : State) (v : ℕ) → object_weight (object_of W S (site.Desk (unit_no v))) ≡ sum_up (λ u. join_at (S.place u) v) (length W.units) + request_weight (S.desk v).migrate
desk-weighs W S v = ap (λ k. k + request_weight (S.desk v).migrate) (ap (λ k. 6 * k) (count-line W S (Joining v)) ∙ sym (sum_up-times 6 (stands_in S (Joining v)) (length W.units)))

weight-held : (W : Parts) (Z : Stored) (S : State) → Sound W Z S → state_weight W S ≡ weight_seen W (part_of W S) (object_of W S)
weight-held W Z S sound =
    let n : ℕ = length W.units in
    let a : ℕ → ℕ = λ u. sum_up (term_at S (S.place u)) W.streams in
    let b : ℕ → ℕ = λ u. sum_up (pool_at (S.place u)) (length W.pools) in
    let c : ℕ → ℕ = λ u. sum_up (join_at (S.place u)) n in
    let r : ℕ → ℕ = λ u. request_weight (S.desk u).migrate in
    let each : state_weight W S ≡ sum_up (λ u. (a u + (b u + c u)) + r u) n =
    sum_up-same (unit_weight S) (λ u. (a u + (b u + c u)) + r u) n (λ u l. ap (λ k. k + r u) (sym (weighs W S u (S.place u) (sound.placed u)))) in
    let one : sum_up (λ u. (a u + (b u + c u)) + r u) n ≡ sum_up (λ u. a u + (b u + c u)) n + sum_up r n = sum_up-plus (λ u. a u + (b u + c u)) r n in
    let two : sum_up (λ u. a u + (b u + c u)) n ≡ sum_up a n + sum_up (λ u. b u + c u) n = sum_up-plus a (λ u. b u + c u) n in
    let three : sum_up (λ u. b u + c u) n ≡ sum_up b n + sum_up c n = sum_up-plus b c n in
    let streams : sum_up a n ≡ sum_up (λ s. held_weight (part_of W S s)) W.streams =
    sum_up-swap (λ s u. term_at S (S.place u) s) W.streams n ∙ sum_up-same _ _ W.streams (λ s l. sym (stream-weighs W Z S s sound)) in
    let pools : sum_up b n ≡ sum_up (λ p. object_weight (object_of W S (site.Pool (pool_no p)))) (length W.pools) =
    sum_up-swap (λ p u. pool_at (S.place u) p) (length W.pools) n ∙ sum_up-same _ _ (length W.pools) (λ p l. sym (pool-weighs W S p)) in
    let joins : sum_up c n ≡ sum_up (λ v. sum_up (λ u. join_at (S.place u) v) n) n = sum_up-swap (λ v u. join_at (S.place u) v) n n in
    let desks : sum_up (λ v. object_weight (object_of W S (site.Desk (unit_no v)))) n ≡ sum_up (λ v. sum_up (λ u. join_at (S.place u) v) n) n + sum_up r n =
    sum_up-same _ (λ v. sum_up (λ u. join_at (S.place u) v) n + r v) n (λ v l. desk-weighs W S v) ∙ sum_up-plus (λ v. sum_up (λ u. join_at (S.place u) v) n) r n in
    omega arith

-- By any values that stand for the state.

pub weight-is-seen : (W : Parts) (Z : Stored) → WeightIsSeen W Z
weight-is-seen W Z S parts objects sound stand =
    let streams : sum_up (λ s. held_weight (part_of W S s)) W.streams ≡ sum_up (λ s. held_weight (parts s)) W.streams =
    sum_up-same _ _ W.streams (λ s l. ap held_weight (stand.streams s l)) in
    let pools : sum_up (λ p. object_weight (object_of W S (site.Pool (pool_no p)))) (length W.pools) ≡ sum_up (λ p. object_weight (objects (site.Pool (pool_no p)))) (length W.pools) =
    sum_up-same _ _ (length W.pools) (λ p l. ap object_weight (stand.sites (site.Pool (pool_no p)))) in
    let desks : sum_up (λ u. object_weight (object_of W S (site.Desk (unit_no u)))) (length W.units) ≡ sum_up (λ u. object_weight (objects (site.Desk (unit_no u)))) (length W.units) =
    sum_up-same _ _ (length W.units) (λ u l. ap object_weight (stand.sites (site.Desk (unit_no u)))) in
    let held : state_weight W S ≡ weight_seen W (part_of W S) (object_of W S) = weight-held W Z S sound in
    omega arith

pub frames-are-seen : (W : Parts) → FramesAreSeen W
frames-are-seen W S parts objects stand = sum_up-same _ _ W.streams (λ s l. ap (λ (h : Held). open_frames_of h.own) (stand.streams s l))
