-- What the calls of all seats come to.
use Rattle.std.proofs.Common.{◌≡◌, ℕ, zero, suc, ◌+◌, ◌<◌, ◌≤◌, ◌^◌, ◌⊎◌, inl, inr, ⊎_elim, List, [], ◌∷◌, ◌++◌, length, length-append, map, replicate, cond, eq-eqb, ne_eqb, slice_index_or, refl, drop, take, sym, ap, ◌∙◌, subst, arith, ◌*◌, suc-mul, zero-mul}
use Rattle.std.specs.Prelude.{◌==◌}
use Rattle.std.specs.List.{All, filter, sum_by}
use Rattle.std.proofs.lemmas.List.{append_assoc, append-nil, length-map, map-append, replicate-append-replicate}
use Rattle.std.proofs.lemmas.List.Elements.{All-cons, All-head, All-nil, All-tail, filter-append}
use Rattle.std.proofs.lemmas.List.Sums.{sum_by-cons}
use Rattle.std.proofs.Math.Nat.{zero-max}
use mathlib.Core.Logic.{dite}
use native.Mathlib.Decide.{ℕ_discrete}
use Rattle.abt_interleave.specs.declared.entries.Entry.{Entry}
use Rattle.abt_interleave.specs.Histories.{calls_of, last_from, last_stamp, RisesAbove, Extends, entry_stamps}
use Rattle.abt_booth.specs.declared.object.Object.{Ghosts}
use Rattle.abt_booth.specs.declared.booth.Booth.{Booth}
use Rattle.abt_booth.specs.declared.booth.Seat.{Seat}
use Rattle.abt_booth.specs.declared.booth.Called.{Called}
use Rattle.abt_booth.specs.declared.booth.Called.TheVariants as called
use Rattle.abt_booth.specs.Seats.{opening_of, number_of, seats_of, seen_of, known_of, AreAllSeatsOf, AreInOrder, IsSeatOf, Replies}
use Rattle.abt_booth.specs.Calls.{IsAnswered, IsWorn, IsClosed}
use Rattle.abt_booth.proofs.Answered.{calls-answered}
use Rattle.abt_booth.proofs.Seats.{all-seats, written-back}
use Rattle.booth_caller.specs.Calling.{acts_of, AsksMore, Follows, HasAsked}

-- what is added to a list and leaves it as it was is nothing
no-more : {X : Type 0} (xs ys : List X) → xs ++ ys ≡ xs → ys ≡ []
no-more [] ys e = e
no-more (x ∷ xs) ys e = let t : xs ++ ys ≡ xs = cc in no-more xs ys t

-- A list in classes, of which each element has one.

-- the numbers that f makes of those below n, added up
abbrev pub sum_below : (ℕ → ℕ) → ℕ → ℕ
sum_below f zero = 0
sum_below f (suc n) = sum_below f n + f n

-- equal numbers have equal sums
pub same-sums : (f g : ℕ → ℕ) (n : ℕ) → ((k : ℕ) → k < n → f k ≡ g k) → sum_below f n ≡ sum_below g n
same-sums f g zero same = refl
same-sums f g (suc n) same =
    let rest = same-sums f g n (λ k lt. same k (omega arith)) in let last = same n (omega arith) in omega arith

-- numbers that are no greater have no greater sum
pub less-sums : (f g : ℕ → ℕ) (n : ℕ) → ((k : ℕ) → k < n → f k ≤ g k) → sum_below f n ≤ sum_below g n
less-sums f g zero less = omega arith
less-sums f g (suc n) less =
    let rest = less-sums f g n (λ k lt. less k (omega arith)) in let last = less n (omega arith) in omega arith

module _ {X : Type 0} (class_of : X → ℕ) where
  -- the elements of one class
  abbrev pub in_class : ℕ → List X → List X
  in_class k xs = filter (λ x. class_of x == k) xs

  -- an element stands first in its class
  pub class-mine : (k : ℕ) (x : X) (xs : List X) → class_of x ≡ k → in_class k (x ∷ xs) ≡ x ∷ in_class k xs
  class-mine k x xs e = ap (λ b. cond b (x ∷ in_class k xs) (in_class k xs)) (eq-eqb (class_of x) k e)

  -- and in no other class
  pub class-other : (k : ℕ) (x : X) (xs : List X) → ¬ (class_of x ≡ k) → in_class k (x ∷ xs) ≡ in_class k xs
  class-other k x xs ne = ap (λ b. cond b (x ∷ in_class k xs) (in_class k xs)) (ne_eqb (class_of x) k ne)

  -- one more element adds its number to the sum of its class alone
  with-one : (f : X → ℕ) (x : X) (xs : List X) (n : ℕ)
      → (class_of x < n → sum_below (λ k. sum_by f (in_class k (x ∷ xs))) n ≡ f x + sum_below (λ k. sum_by f (in_class k xs)) n)
      × (n ≤ class_of x → sum_below (λ k. sum_by f (in_class k (x ∷ xs))) n ≡ sum_below (λ k. sum_by f (in_class k xs)) n)
  with-one f x xs zero = ((λ lt. absurd (omega arith)), λ _. refl)
  with-one f x xs (suc n) = let rest = with-one f x xs n in dite (ℕ_discrete (class_of x) n)
      (λ mine.
      let here = ap (sum_by f) (class-mine n x xs mine) ∙ sum_by-cons f x (in_class n xs) in
      let below = rest.1 (omega arith) in ((λ lt. omega arith), λ le. absurd (omega arith)))
      (λ other.
      let here = ap (sum_by f) (class-other n x xs other) in
      ((λ lt. let below = rest.0 (omega arith) in omega arith), λ le. let below = rest.1 (omega arith) in omega arith))

  -- nothing adds up to nothing
  none : (n : ℕ) → sum_below (λ k. 0) n ≡ 0
  none zero = refl
  none (suc n) = let rest = none n in omega arith

  -- a sum is that of its classes' sums
  pub sum-of-classes : (f : X → ℕ) (n : ℕ) (xs : List X) → All (λ x. class_of x < n) xs → sum_by f xs ≡ sum_below (λ k. sum_by f (in_class k xs)) n
  sum-of-classes f n [] below = sym (none n)
  sum-of-classes f n (x ∷ xs) below =
      let rest = sum-of-classes f n xs (All-tail (λ y. class_of y < n) x xs below) in
      let one = (with-one f x xs n).0 (All-head (λ y. class_of y < n) x xs below) in
      let cons = sum_by-cons f x xs in omega arith

  -- what holds of each class's elements holds of all
  pub all-of-classes : (P : X → Type 0) (n : ℕ) (xs : List X) → All (λ x. class_of x < n) xs → ((k : ℕ) → k < n → All P (in_class k xs)) → All P xs
  all-of-classes P n [] below each = All-nil P
  all-of-classes P n (x ∷ xs) below each =
      let C : X → Type 0 = λ y. class_of y < n in
      let mine = each (class_of x) (All-head C x xs below) in
      let here : All P (x ∷ in_class (class_of x) xs) = subst (All P) (class-mine (class_of x) x xs refl) mine in
      let rest : (k : ℕ) → k < n → All P (in_class k xs) = λ k lt. dite (ℕ_discrete (class_of x) k)
      (λ is. All-tail P x (in_class k xs) (subst (All P) (class-mine k x xs is) (each k lt)))
      (λ other. subst (All P) (class-other k x xs other) (each k lt)) in
      All-cons P x xs (All-head P x (in_class (class_of x) xs) here) (all-of-classes P n xs (All-tail C x xs below) rest)

module _ {A R : Type 0} where
  -- if a history has no call of a seat, that seat's calls follow
  follows-none : (k s : ℕ) (h : List (Entry A R)) → calls_of k h ≡ [] → Follows k s h
  follows-none k s [] none = tt
  follows-none k s (e ∷ es) none = dite (ℕ_discrete e.caller k)
      (λ mine. absurd (let t = sym (class-mine (λ (x : Entry A R). x.caller) k e es mine) ∙ none in cc))
      (λ other. ((λ mine. absurd (other mine)), follows-none k e.stamp es (sym (class-other (λ (x : Entry A R). x.caller) k e es other) ∙ none)))

  -- one history after the other
  follows-append : (k s : ℕ) (xs ys : List (Entry A R)) → Follows k s xs → Follows k (last_from s (entry_stamps xs)) ys → Follows k s (xs ++ ys)
  follows-append k s [] ys f g = g
  follows-append k s (x ∷ xs) ys f g = (f.0, follows-append k x.stamp xs ys f.1 g)

  -- a history that extends what a seat had seen adds no call of it
  none-added : (k : ℕ) (xs ys : List (Entry A R)) → calls_of k (xs ++ ys) ≡ calls_of k xs → calls_of k ys ≡ []
  none-added k xs ys e = no-more (calls_of k xs) (calls_of k ys) (sym (filter-append (λ (x : Entry A R). x.caller == k) xs ys) ∙ e)

  -- so the seat's calls follow there too
  follows-extends : (k : ℕ) (seen h : List (Entry A R)) → Extends k seen h → Follows k 0 seen → Follows k 0 h
  follows-extends k seen h x f =
      let rest = x.0.0 in
      let same : calls_of k (seen ++ rest) ≡ calls_of k seen = ap (calls_of k) x.0.1 ∙ x.1 in
      subst (Follows k 0) x.0.1 (follows-append k 0 seen rest f (follows-none k (last_from 0 (entry_stamps seen)) rest (none-added k seen rest same)))

  -- if stamps rise, the last is no less than the first
  last-above : (s : ℕ) (h : List (Entry A R)) → RisesAbove s (entry_stamps h) → s ≤ last_from s (entry_stamps h)
  last-above s [] r = omega arith
  last-above s (x ∷ xs) r = let l = last-above x.stamp xs r.1 in let m = r.0 in omega arith

  -- and no less than the last of each prefix
  last-grows : (s : ℕ) (xs ys : List (Entry A R)) → RisesAbove s (entry_stamps (xs ++ ys)) → last_from s (entry_stamps xs) ≤ last_from s (entry_stamps (xs ++ ys))
  last-grows s [] ys r = last-above s ys r
  last-grows s (x ∷ xs) ys r = last-grows x.stamp xs ys r.1

  -- what was seen of a history has no later stamp than the history
  pub last-seen : (k : ℕ) (seen h : List (Entry A R)) → Extends k seen h → RisesAbove 0 (entry_stamps h) → last_stamp (entry_stamps seen) ≤ last_stamp (entry_stamps h)
  last-seen k seen h x r = let P : List (Entry A R) → Type 0 = λ z. last_stamp (entry_stamps seen) ≤ last_stamp (entry_stamps z) in
      subst P x.0.1 (last-grows 0 seen x.0.0 (subst (λ (l : List (Entry A R)). RisesAbove 0 (entry_stamps l)) (sym x.0.1) r))

  -- the stamps before the last call rise
  rises-front : (s : ℕ) (h : List (Entry A R)) (e : Entry A R) → RisesAbove s (entry_stamps (h ++ e ∷ [])) → RisesAbove s (entry_stamps h)
  rises-front s [] e r = tt
  rises-front s (x ∷ xs) e r = (r.0, rises-front x.stamp xs e r.1)

  -- if the calls of all seats follow, there are as many as the last stamp says
  follow-all : (n s : ℕ) (h : List (Entry A R)) → All (λ e. e.caller < n) h → ((k : ℕ) → k < n → Follows k s h) → last_from s (entry_stamps h) ≡ s + length h
  follow-all n s [] below each = omega arith
  follow-all n s (e ∷ es) below each =
      let C : Entry A R → Type 0 = λ x. x.caller < n in
      let lt = All-head C e es below in
      let stamp : e.stamp ≡ suc s = (each e.caller lt).0 refl in
      let rest = follow-all n e.stamp es (All-tail C e es below) (λ k l. (each k l).1) in omega arith

  -- the acts of an extended history are those that the seat had seen
  acts-extend : (k : ℕ) (seen h : List (Entry A R)) → Extends k seen h → acts_of k h ≡ acts_of k seen
  acts-extend k seen h x = ap (map (λ (e : Entry A R). e.act)) x.1

module _ {O A R : Type 0} (does : O → A → R → O → Type 0) (opening : O) (number : ℕ) (before after : List (Entry A R)) (acts : List A) (act : A) where
  -- an answered call at 0 is one more act asked
  asked-answered : (stamp : ℕ) (answer : R) → HasAsked number acts before → IsAnswered does opening number before after 0 act stamp answer → HasAsked number (acts ++ act ∷ []) after
  asked-answered stamp answer asked a =
      let e : Entry A R = record { stamp = stamp; caller = number; act = act; answer = answer } in
      let rises : RisesAbove 0 (entry_stamps a.met) = rises-front 0 a.met e (subst (λ (l : List (Entry A R)). RisesAbove 0 (entry_stamps l)) a.entered a.legal.0) in
      let grown = last-seen number before a.met a.extends rises in
      let stamped : stamp ≡ suc (last_stamp (entry_stamps a.met)) = a.stamped ∙ ap suc (zero-max (last_stamp (entry_stamps a.met))) in
      let follows = follows-append number 0 a.met (e ∷ []) (follows-extends number before a.met a.extends asked.follows) ((λ _. stamped), tt) in
      let acted : acts_of number after ≡ acts_of number before ++ act ∷ [] =
      ap (map (λ (x : Entry A R). x.act)) (calls-answered does opening number before after 0 act stamp answer a) ∙ map-append (λ (x : Entry A R). x.act) (calls_of number before) (e ∷ []) in
      let same : acts_of number before ≡ acts = ⊎_elim (λ s. s) (λ worn. absurd (let c = a.capped in omega arith)) asked.whole in
      let whole : acts_of number after ≡ acts ++ act ∷ [] = acted ∙ ap (λ l. l ++ act ∷ []) same in record {
        follows = subst (Follows number 0) (sym a.entered) follows;
        begun = ([], append-nil (acts_of number after) ∙ whole);
        whole = inl whole;
      }

  -- a call at 0 that found the clock worn is one more act, not asked
  asked-worn : (back : A) → HasAsked number acts before → IsWorn does opening number before after 0 act back → HasAsked number (acts ++ act ∷ []) after
  asked-worn back asked w =
      let b = asked.begun in record {
        follows = follows-extends number before after w.extends asked.follows;
        begun = (b.0 ++ act ∷ [], ap (λ l. l ++ (b.0 ++ act ∷ [])) (acts-extend number before after w.extends) ∙ (sym (append_assoc (acts_of number before) b.0 (act ∷ [])) ∙ ap (λ l. l ++ act ∷ []) b.1));
        whole = inr (sym (zero-max (last_stamp (entry_stamps after))) ∙ w.worn);
      }

module _ {O A R : Type 0} {g : Ghosts O A R} where
  -- a call at 0 is one more act
  pub asked-more : (does : O → A → R → O → Type 0) (booth : Booth O A R) (old new : Seat O A R g) (acts : List A) (act : A) (reply : Called O A R)
      → HasAsked (number_of old) acts (seen_of old) → Replies does booth old new 0 act reply → HasAsked (number_of old) (acts ++ act ∷ []) (seen_of new)
  asked-more does booth old new acts act (called.Done stamp answer) asked a = asked-answered does (opening_of booth) (number_of old) (seen_of old) (seen_of new) acts act stamp answer asked a
  asked-more does booth old new acts act (called.Worn back) asked w = asked-worn does (opening_of booth) (number_of old) (seen_of old) (seen_of new) acts act back asked w

  -- the same, after other acts
  pub asks-more : (does : O → A → R → O → Type 0) (booth : Booth O A R) (old new : Seat O A R g) (number : ℕ) (more : List A) (act : A) (reply : Called O A R) (before : List (Entry A R))
      → number_of old ≡ number → AsksMore number more before (seen_of old) → Replies does booth old new 0 act reply → AsksMore number (more ++ act ∷ []) before (seen_of new)
  asks-more does booth old new number more act reply before same asks replies acts asked =
      let P : ℕ → Type 0 = λ n. HasAsked n (acts ++ more) (seen_of old) in
      let Q : ℕ → Type 0 = λ n. HasAsked n (acts ++ (more ++ act ∷ [])) (seen_of new) in
      let S : List A → Type 0 = λ l. HasAsked (number_of old) l (seen_of new) in
      subst Q same (subst S (append_assoc acts more (act ∷ [])) (asked-more does booth old new (acts ++ more) act reply (subst P (sym same) (asks acts asked)) replies))

  -- each seat had seen a prefix of the history, with all its own calls
  extends-at : (seats : List (Seat O A R g)) (h : List (Entry A R)) (i : ℕ) (d : Seat O A R g) → All (λ k. Extends k.0 k.1 h) (map known_of seats) → i < length seats
      → Extends (number_of (slice_index_or seats i d)) (seen_of (slice_index_or seats i d)) h
  extends-at [] h i d seen lt = absurd (omega arith)
  extends-at (x ∷ xs) h zero d seen lt = All-head (λ (k : ℕ × List (Entry A R)). Extends k.0 k.1 h) (known_of x) (map known_of xs) seen
  extends-at (x ∷ xs) h (suc i) d seen lt = extends-at xs h i d (All-tail (λ (k : ℕ × List (Entry A R)). Extends k.0 k.1 h) (known_of x) (map known_of xs) seen) (omega arith)

  -- a list that is not empty has a first seat
  some-seat : (seats : List (Seat O A R g)) (i : ℕ) → i < length seats → Seat O A R g
  some-seat [] i lt = absurd (omega arith)
  some-seat (x ∷ xs) i lt = x

  -- what each seat asked stands in the history of the closed booth
  all-asked : (does : O → A → R → O → Type 0) (opening object : O) (seats : List (Seat O A R g)) (clock : ℕ) (acts : ℕ → List A) → AreInOrder seats
      → ((i : ℕ) (d : Seat O A R g) → i < length seats → HasAsked i (acts i) (seen_of (slice_index_or seats i d)))
      → (closed : IsClosed does opening (length seats) (map known_of seats) object clock) → (k : ℕ) → k < length seats → HasAsked k (acts k) closed.history
  all-asked does opening object seats clock acts order asked closed k lt =
      let h = closed.history in
      let d = some-seat seats k lt in
      let seen = seen_of (slice_index_or seats k d) in
      let mine : Extends k seen h = subst (λ (i : ℕ). Extends i seen h) (order k d lt) (extends-at seats h k d closed.seen lt) in
      let a = asked k d lt in
      let same = acts-extend k seen h mine in
      let grown = last-seen k seen h mine closed.legal.0 in record {
        follows = follows-extends k seen h mine a.follows;
        begun = (a.begun.0, ap (λ l. l ++ a.begun.0) same ∙ a.begun.1);
        whole = ⊎_elim (λ e. inl (same ∙ e)) (λ worn. inr (let c = closed.capped in let l = closed.last in omega arith)) a.whole;
      }

  -- new seats that made these calls asked these acts
  new-asked : (before after : List (Seat O A R g)) (acts : ℕ → List A) → All (λ s. seen_of s ≡ []) before → length after ≡ length before
      → ((i : ℕ) (d : Seat O A R g) → i < length before → AsksMore i (acts i) (seen_of (slice_index_or before i d)) (seen_of (slice_index_or after i d)))
      → (i : ℕ) (d : Seat O A R g) → i < length after → HasAsked i (acts i) (seen_of (slice_index_or after i d))
  new-asked before after acts fresh many asks i d lt =
      let below : i < length before = omega arith in
      let P : List (Entry A R) → Type 0 = λ h. HasAsked i [] h in
      asks i d below [] (subst P (sym (fresh i d below)) (record { follows = tt; begun = ([], refl); whole = inl refl }))

  -- a booth that was closed with the seats of a vector which were lent as a slice was closed with those of the slice
  closed-back : (does : O → A → R → O → Type 0) (opening object : O) (many n : ℕ) (items after : List (Seat O A R g)) (clock : ℕ) → many ≡ n → length after ≡ n → length items ≡ n
      → IsClosed does opening many (map known_of (take n (after ++ drop (length after) items))) object clock → IsClosed does opening (length after) (map known_of after) object clock
  closed-back does opening object many n items after clock is len old closed =
      let C : ℕ → List (Seat O A R g) → Type 0 = λ m s. IsClosed does opening m (map known_of s) object clock in
      subst (C (length after)) (written-back n after items len old) (subst (λ m. C m (take n (after ++ drop (length after) items))) (is ∙ sym len) closed)

  -- and it can be closed with them
  pub closes-back : (booth : Booth O A R) (n : ℕ) (items after : List (Seat O A R g)) → length items ≡ n → length after ≡ n → length after ≡ seats_of booth → All (IsSeatOf booth) after → AreInOrder after
      → AreAllSeatsOf booth (take n (after ++ drop (length after) items))
  closes-back booth n items after old len many each order = subst (AreAllSeatsOf booth) (sym (written-back n after items len old)) (all-seats booth after many each order)

  -- what new seats of a vector asked that were lent as a slice stands in the history of the booth that is closed with them
  pub asked-back : (does : O → A → R → O → Type 0) (opening object : O) (many n : ℕ) (items before after : List (Seat O A R g)) (clock : ℕ) (acts : ℕ → List A)
      → many ≡ n → length after ≡ n → length items ≡ n → before ≡ items → AreInOrder after → All (λ s. seen_of s ≡ []) items
      → ((i : ℕ) (d : Seat O A R g) → i < length before → AsksMore i (acts i) (seen_of (slice_index_or before i d)) (seen_of (slice_index_or after i d)))
      → IsClosed does opening many (map known_of (take n (after ++ drop (length after) items))) object clock
      → (closed : IsClosed does opening (length after) (map known_of after) object clock) × ((k : ℕ) → k < length after → HasAsked k (acts k) closed.history)
  asked-back does opening object many n items before after clock acts is len old same order fresh asks closed =
      let back = closed-back does opening object many n items after clock is len old closed in
      let new = subst (λ (l : List (Seat O A R g)). All (λ s. seen_of s ≡ []) l) (sym same) fresh in
      (back, all-asked does opening object after clock acts order (new-asked before after acts new (len ∙ sym (ap length same ∙ old)) asks) back)

-- a list has as many elements as ones add up to
pub sum_by-one : {X : Type 0} (xs : List X) → sum_by (λ x. 1) xs ≡ length xs
sum_by-one [] = refl
sum_by-one {X} (x ∷ xs) = let c = sum_by-cons (λ (y : X). 1) x xs in let rest = sum_by-one xs in omega arith

-- what f makes of elements that g makes
pub sum_by-of_map : {X Y : Type 0} (f : Y → ℕ) (g : X → Y) (xs : List X) → sum_by f (map g xs) ≡ sum_by (λ x. f (g x)) xs
sum_by-of_map f g [] = refl
sum_by-of_map {X} f g (x ∷ xs) =
    let a = sum_by-cons f (g x) (map g xs) in let b = sum_by-cons (λ (y : X). f (g y)) x xs in let rest = sum_by-of_map f g xs in omega arith

module _ {A R : Type 0} (n : ℕ) (acts : ℕ → List A) (h : List (Entry A R)) (of_seats : All (λ e. e.caller < n) h) (asked : (k : ℕ) → k < n → HasAsked k (acts k) h) where
  -- there are as many calls as the last stamp says
  pub stamps-count : last_stamp (entry_stamps h) ≡ length h
  stamps-count = let t = follow-all n 0 h of_seats (λ k lt. (asked k lt).follows) in omega arith

  -- there are no more calls than acts
  pub calls-below : length h ≤ sum_below (λ k. length (acts k)) n
  calls-below =
      let all = sum-of-classes (λ (e : Entry A R). e.caller) (λ e. 1) n h of_seats in
      let one = sum_by-one h in
      let less = less-sums (λ k. sum_by (λ e. 1) (calls_of k h)) (λ k. length (acts k)) n
      (λ k lt.
      let b = (asked k lt).begun in
      let count = sum_by-one (calls_of k h) in
      let mapped = length-map (calls_of k h) (λ (e : Entry A R). e.act) in
      let whole = ap length b.1 in
      let parts = length-append (acts_of k h) b.0 in omega arith) in omega arith

  -- all acts were asked, or the clock is worn
  pub whole-or-worn : ((k : ℕ) → k < n → acts_of k h ≡ acts k) ⊎ (last_stamp (entry_stamps h) ≡ 2 ^ 62)
  whole-or-worn = dite (ℕ_discrete (last_stamp (entry_stamps h)) (2 ^ 62)) inr
      (λ fresh. inl (λ k lt. ⊎_elim (λ e. e) (λ worn. absurd (fresh worn)) (asked k lt).whole))

  -- all acts were asked, if there are fewer than stamps
  pub wholly-asked : sum_below (λ k. length (acts k)) n < 2 ^ 62 → (k : ℕ) → k < n → acts_of k h ≡ acts k
  wholly-asked few = ⊎_elim (λ all. all) (λ worn. absurd (let a = stamps-count in let b = calls-below in omega arith)) whole-or-worn

  -- what f makes of the acts of all calls, if each seat asked its acts
  pub weighed : (f : A → ℕ) → ((k : ℕ) → k < n → acts_of k h ≡ acts k) → sum_by (λ e. f e.act) h ≡ sum_below (λ k. sum_by f (acts k)) n
  weighed f all =
      sum-of-classes (λ (e : Entry A R). e.caller) (λ e. f e.act) n h of_seats
      ∙ same-sums (λ k. sum_by (λ (e : Entry A R). f e.act) (calls_of k h)) (λ k. sum_by f (acts k)) n
      (λ k lt. sym (sum_by-of_map f (λ (e : Entry A R). e.act) (calls_of k h)) ∙ ap (sum_by f) (all k lt))

  -- the calls are as many as the acts, if each seat asked its acts
  pub calls-count : ((k : ℕ) → k < n → acts_of k h ≡ acts k) → length h ≡ sum_below (λ k. length (acts k)) n
  calls-count all = sym (sum_by-one h) ∙ (weighed (λ a. 1) all ∙ same-sums (λ k. sum_by (λ a. 1) (acts k)) (λ k. length (acts k)) n (λ k lt. sum_by-one (acts k)))

-- what holds of the acts to be asked holds of those that were asked
pub acts-hold : {A R : Type 0} (P : A → Type 0) (calls : List (Entry A R)) (rest : List A) → All P (map (λ e. e.act) calls ++ rest) → All (λ e. P e.act) calls
acts-hold P [] rest all = All-nil (λ e. P e.act)
acts-hold {A} {R} P (e ∷ es) rest all =
    let acts = map (λ (x : Entry A R). x.act) es ++ rest in
    All-cons (λ (x : Entry A R). P x.act) e es (All-head P e.act acts all) (acts-hold P es rest (All-tail P e.act acts all))

-- the same number n times
pub sum-below-same : (m n : ℕ) → sum_below (λ k. m) n ≡ n * m
sum-below-same m zero = sym (zero-mul m)
sum-below-same m (suc n) = let rest = sum-below-same m n in let more = suc-mul n m in omega arith

-- one more of the same
pub replicate-more : {X : Type 0} (n : ℕ) (x : X) → replicate n x ++ x ∷ [] ≡ replicate (n + 1) x
replicate-more n x = replicate-append-replicate n 1 x
