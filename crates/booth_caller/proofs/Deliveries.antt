-- A letter that goes from one seat to another.
use Rattle.std.proofs.Common.{◌≡◌, ℕ, suc, max, ◌<◌, ◌≤◌, List, [], ◌∷◌, ◌++◌, length, length-append, Box, None, Option, refl, sym, ap, ◌∙◌, subst, arith}
use Rattle.std.specs.declared.alloc.Global.{Global}
use Rattle.std.specs.List.{All}
use Rattle.std.proofs.lemmas.List.{append_assoc}
use Rattle.std.proofs.lemmas.List.Elements.{All-head, All-tail}
use Rattle.std.proofs.Math.Nat.{le-max_left, max-le, zero-max}
use mathlib.Core.Logic.{dite}
use native.Mathlib.Decide.{ℕ_discrete}
use Rattle.abt_interleave.specs.declared.entries.Entry.{Entry}
use Rattle.abt_interleave.specs.Histories.{calls_of, last_stamp, RisesAbove, Extends, Leads, entry_stamps}
use Rattle.abt_booth.specs.declared.object.Object.{Ghosts}
use Rattle.abt_booth.specs.declared.booth.Booth.{Booth}
use Rattle.abt_booth.specs.declared.booth.Seat.{Seat}
use Rattle.abt_booth.specs.declared.booth.Called.{Called}
use Rattle.abt_booth.specs.declared.booth.Called.TheVariants as called
use Rattle.abt_booth.specs.Seats.{added_by, known_of, number_of, opening_of, seats_of, seen_of, HasNumber, HasEachNumber, AreInOrder, AreNewSeatsOf}
use Rattle.abt_booth.specs.Calls.{GrowsBy, IsAnswered, IsClosed}
use Rattle.booth_caller.specs.declared.letters.Letter.{Letter}
use Rattle.booth_caller.specs.declared.letters.Tray.{Tray}
use Rattle.booth_caller.specs.declared.letters.Ask.{Ask}
use Rattle.booth_caller.specs.declared.letters.Ask.TheVariants as ask
use Rattle.booth_caller.specs.declared.letters.Reply.{Reply}
use Rattle.booth_caller.specs.declared.letters.Reply.TheVariants as reply
use Rattle.booth_caller.specs.Trays.{TrayAnswers, Does}
use Rattle.booth_caller.specs.Letters.{ArePassed}
use Rattle.booth_caller.proofs.Calling.{class-mine, class-other, last-seen}

module _ {A R : Type 0} where
  -- a call of the seat stands first among its calls
  first-mine : (k : ℕ) (x : Entry A R) (xs : List (Entry A R)) → x.caller ≡ k → calls_of k (x ∷ xs) ≡ x ∷ calls_of k xs
  first-mine = class-mine (λ x. x.caller)

  -- a call of another seat is none of its calls
  first-other : (k : ℕ) (x : Entry A R) (xs : List (Entry A R)) → ¬ (x.caller ≡ k) → calls_of k (x ∷ xs) ≡ calls_of k xs
  first-other = class-other (λ x. x.caller)

  -- if one of two seats has no call, all are the other's
  all-second : (xs : List (Entry A R)) → All (λ e. e.caller < 2) xs → calls_of 0 xs ≡ [] → calls_of 1 xs ≡ xs
  all-second [] two none = refl
  all-second (x ∷ xs) two none = let lt = All-head (λ (e : Entry A R). e.caller < 2) x xs two in dite (ℕ_discrete x.caller 0)
      (λ first. absurd (let e = sym (first-mine 0 x xs first) ∙ none in cc))
      (λ other. let one : x.caller ≡ 1 = omega arith in first-mine 1 x xs one ∙ ap (λ l. x ∷ l) (all-second xs (All-tail (λ (e : Entry A R). e.caller < 2) x xs two) (sym (first-other 0 x xs other) ∙ none)))

  -- the same of the other seat
  all-first : (xs : List (Entry A R)) → All (λ e. e.caller < 2) xs → calls_of 1 xs ≡ [] → calls_of 0 xs ≡ xs
  all-first [] two none = refl
  all-first (x ∷ xs) two none = let lt = All-head (λ (e : Entry A R). e.caller < 2) x xs two in dite (ℕ_discrete x.caller 1)
      (λ second. absurd (let e = sym (first-mine 1 x xs second) ∙ none in cc))
      (λ other. let zero : x.caller ≡ 0 = omega arith in first-mine 0 x xs zero ∙ ap (λ l. x ∷ l) (all-first xs (All-tail (λ (e : Entry A R). e.caller < 2) x xs two) (sym (first-other 1 x xs other) ∙ none)))

  -- a prefix that has no call of the seat of the first call is empty
  prefix-none : (x : Entry A R) (xs met rest : List (Entry A R)) → met ++ rest ≡ x ∷ xs → calls_of x.caller met ≡ [] → met ≡ []
  prefix-none x xs [] rest e none = refl
  prefix-none x xs (y ∷ ys) rest e none = let is : y ≡ x = cc in absurd (let f = sym (first-mine x.caller y ys (ap (λ (z : Entry A R). z.caller) is)) ∙ none in cc)

  -- a seat's first call of a history, at 0, has the stamp 1 if it is the only one there
  first-stamp : {O : Type 0} (does : O → A → R → O → Type 0) (opening : O) (number : ℕ) (seen h : List (Entry A R)) (act : A) (stamp : ℕ) (answer : R)
      → IsAnswered does opening number [] seen 0 act stamp answer → Extends number seen h → h ≡ record { stamp = stamp; caller = number; act = act; answer = answer } ∷ [] → stamp ≡ 1
  first-stamp does opening number seen h act stamp answer a x is =
      let e : Entry A R = record { stamp = stamp; caller = number; act = act; answer = answer } in
      let whole : a.met ++ (e ∷ x.0.0) ≡ e ∷ [] = sym (append_assoc a.met (e ∷ []) x.0.0) ∙ (ap (λ (l : List (Entry A R)). l ++ x.0.0) (sym a.entered) ∙ (x.0.1 ∙ is)) in
      let none : a.met ≡ [] = prefix-none e [] a.met (e ∷ x.0.0) whole a.extends.1 in
      a.stamped ∙ ap (λ (l : List (Entry A R)). suc (max 0 (last_stamp (entry_stamps l)))) none

  -- a seat's first call has a greater stamp than all before the history
  later : (k s : ℕ) (xs : List (Entry A R)) (a : Entry A R) → RisesAbove s (entry_stamps xs) → calls_of k xs ≡ a ∷ [] → s < a.stamp
  later k s [] a r e = absurd (cc)
  later k s (x ∷ xs) a r e = dite (ℕ_discrete x.caller k)
      (λ mine. let same = sym (first-mine k x xs mine) ∙ e in let is : x ≡ a = cc in subst (λ (y : Entry A R). s < y.stamp) is r.0)
      (λ other. let after = later k x.stamp xs a r.1 (sym (first-other k x xs other) ∙ e) in let lt = r.0 in omega arith)

  -- two seats with one call each, the second one's stamp the greater: these two are the history
  pub two-calls : (s : ℕ) (xs : List (Entry A R)) (a b : Entry A R) → All (λ e. e.caller < 2) xs → calls_of 0 xs ≡ a ∷ [] → calls_of 1 xs ≡ b ∷ [] → a.stamp < b.stamp → RisesAbove s (entry_stamps xs) → xs ≡ a ∷ b ∷ []
  two-calls s [] a b two first second lt r = absurd (cc)
  two-calls s (x ∷ xs) a b two first second lt r = let below = All-head (λ (e : Entry A R). e.caller < 2) x xs two in let rest = All-tail (λ (e : Entry A R). e.caller < 2) x xs two in dite (ℕ_discrete x.caller 0)
      (λ mine.
      let same = sym (first-mine 0 x xs mine) ∙ first in
      let is : x ≡ a = cc in
      let none : calls_of 0 xs ≡ [] = cc in
      let other : ¬ (x.caller ≡ 1) = λ one. absurd (omega arith) in
      let tail : xs ≡ b ∷ [] = sym (all-second xs rest none) ∙ (sym (first-other 1 x xs other) ∙ second) in (λ i. is i ∷ tail i))
      (λ other.
      let one : x.caller ≡ 1 = omega arith in
      let same = sym (first-mine 1 x xs one) ∙ second in
      let is : x ≡ b = cc in
      let after = later 0 x.stamp xs a r.1 (sym (first-other 0 x xs other) ∙ first) in
      let stamps : x.stamp ≡ b.stamp = ap (λ (y : Entry A R). y.stamp) is in absurd (omega arith))

-- two were taken off the end of a list of two
pub two-of : {X : Type 0} (seats xs ys : List X) (last first : X) → seats ≡ xs ++ last ∷ [] → xs ≡ ys ++ first ∷ [] → length seats ≡ 2 → seats ≡ first ∷ last ∷ []
two-of seats xs [] last first e f n = e ∙ ap (λ l. l ++ last ∷ []) f
two-of seats xs (y ∷ ys) last first e f n =
    absurd (omega (arith, ap length e, ap length f, length-append xs (last ∷ []), length-append ys (first ∷ [])))

-- each of two numbers is that of a seat
each-of-two : {A R : Type 0} (known : List (ℕ × List (Entry A R))) (n m : ℕ) → HasNumber n known → HasNumber m known → n ≡ 0 → m ≡ 1 → HasEachNumber 2 known
each-of-two known n m has has' first second number lt = dite (ℕ_discrete number 0)
    (λ is. subst (λ (k : ℕ). HasNumber k known) (first ∙ sym is) has)
    (λ other. let one : m ≡ number = omega arith in subst (λ (k : ℕ). HasNumber k known) one has')

module _ {O A R : Type 0} {g : Ghosts O A R} where
  -- the numbers of two new seats, which have seen nothing
  pub new-pair : (booth : Booth O A R) (seats : List (Seat O A R g)) (first last : Seat O A R g) → AreNewSeatsOf booth seats → seats ≡ first ∷ last ∷ []
      → (number_of first ≡ 0) × (number_of last ≡ 1) × (seen_of first ≡ []) × (seen_of last ≡ [])
  new-pair booth seats first last new e =
      let S : Type 0 = Seat O A R g in
      let P : S → Type 0 = λ s. seen_of s ≡ [] in
      let order : AreInOrder (first ∷ last ∷ []) = subst (λ (l : List S). AreInOrder l) e new.in_order in
      let fresh : All P (first ∷ last ∷ []) = subst (λ (l : List S). All P l) e new.fresh in
      (order 0 first (omega arith), order 1 first (omega arith), All-head P first (last ∷ []) fresh, All-head P last [] (All-tail P first (last ∷ []) fresh))

-- the call was answered with the letter
abbrev pub IsGiven : Box Letter Global → Called Tray Ask Reply → Type 0
IsGiven letter (called.Done stamp answer) = answer ≡ reply.Given letter
IsGiven letter (called.Worn back) = ⊥

-- what the second seat took out is what the first put in, and both calls were answered
module _ {g : Ghosts Tray Ask Reply} (booth : Booth Tray Ask Reply) (p p' t t' : Seat Tray Ask Reply g) (letter : Box Letter Global)
    (first : number_of p ≡ 0) (second : number_of t ≡ 1) (fresh : seen_of p ≡ []) (fresh' : seen_of t ≡ []) (empty : (opening_of booth).letter ≡ None)
    (object : Tray) (clock : ℕ) (known : List (ℕ × List (Entry Ask Reply))) (is : known ≡ (0, seen_of p') ∷ (1, seen_of t') ∷ []) (closed : IsClosed Does (opening_of booth) 2 known object clock) where
  abbrev E : Type 0
  E = Entry Ask Reply

  abbrev h : List E
  h = closed.history

  abbrev Fits : ℕ × List E → Type 0
  Fits k = Extends k.0 k.1 h

  seen : All Fits ((0, seen_of p') ∷ (1, seen_of t') ∷ [])
  seen = subst (λ (l : List (ℕ × List E)). All Fits l) is closed.seen

  mine : Extends 0 (seen_of p') h
  mine = All-head Fits (0, seen_of p') ((1, seen_of t') ∷ []) seen

  theirs : Extends 1 (seen_of t') h
  theirs = All-head Fits (1, seen_of t') [] (All-tail Fits (0, seen_of p') ((1, seen_of t') ∷ []) seen)

  -- the calls of the two seats in the history
  put-calls : (added : List E) → GrowsBy (number_of p) (seen_of p) (seen_of p') added → calls_of 0 h ≡ added
  put-calls added grows = mine.1 ∙ (ap (λ (n : ℕ). calls_of n (seen_of p')) (sym first) ∙ (grows.calls ∙ ap (λ (l : List E). calls_of (number_of p) l ++ added) fresh))

  taken-calls : (added : List E) → GrowsBy (number_of t) (seen_of t) (seen_of t') added → calls_of 1 h ≡ added
  taken-calls added grows = theirs.1 ∙ (ap (λ (n : ℕ). calls_of n (seen_of t')) (sym second) ∙ (grows.calls ∙ ap (λ (l : List E). calls_of (number_of t) l ++ added) fresh'))

  -- the last stamp that a seat has seen is at most that of the history
  low : (l : List E) (number : ℕ) (seen : List E) → Extends number seen h → h ≡ l → last_stamp (entry_stamps seen) ≤ last_stamp (entry_stamps l)
  low l number seen x same = subst (λ (z : List E). last_stamp (entry_stamps seen) ≤ last_stamp (entry_stamps z)) same (last-seen number seen h x closed.legal.0)

  answered-first : (stamp : ℕ) (stored : Reply) → IsAnswered Does (opening_of booth) (number_of p) (seen_of p) (seen_of p') 0 (ask.Put letter) stamp stored → IsAnswered Does (opening_of booth) 0 [] (seen_of p') 0 (ask.Put letter) stamp stored
  answered-first stamp stored a =
      subst (λ (k : ℕ). IsAnswered Does (opening_of booth) k [] (seen_of p') 0 (ask.Put letter) stamp stored) first
      (subst (λ (l : List E). IsAnswered Does (opening_of booth) (number_of p) l (seen_of p') 0 (ask.Put letter) stamp stored) fresh a)

  answered-second : (at stamp : ℕ) (given : Reply) → IsAnswered Does (opening_of booth) (number_of t) (seen_of t) (seen_of t') at ask.Take stamp given → IsAnswered Does (opening_of booth) 1 [] (seen_of t') at ask.Take stamp given
  answered-second at stamp given a =
      subst (λ (k : ℕ). IsAnswered Does (opening_of booth) k [] (seen_of t') at ask.Take stamp given) second
      (subst (λ (l : List E). IsAnswered Does (opening_of booth) (number_of t) l (seen_of t') at ask.Take stamp given) fresh' a)

  -- what a call adds, by its seat's number
  added-first : (put : Called Tray Ask Reply) → GrowsBy (number_of p) (seen_of p) (seen_of p') (added_by (number_of p) (ask.Put letter) put) → calls_of 0 h ≡ added_by 0 (ask.Put letter) put
  added-first put grows = put-calls (added_by (number_of p) (ask.Put letter) put) grows ∙ ap (λ (k : ℕ). added_by k (ask.Put letter) put) first

  added-second : (taken : Called Tray Ask Reply) → GrowsBy (number_of t) (seen_of t) (seen_of t') (added_by (number_of t) ask.Take taken) → calls_of 1 h ≡ added_by 1 ask.Take taken
  added-second taken grows = taken-calls (added_by (number_of t) ask.Take taken) grows ∙ ap (λ (k : ℕ). added_by k ask.Take taken) second

  delivered : (put taken : Called Tray Ask Reply) → ArePassed booth p p' t t' letter put taken → IsGiven letter taken
  delivered (called.Worn back) (called.Worn back') pass =
      let none : h ≡ [] = sym (all-second h closed.of_seats (added-first (called.Worn back) pass.put_grows)) ∙ added-second (called.Worn back') pass.taken_grows in
      let seen_low = low [] 0 (seen_of p') mine none in
      let worn = sym (zero-max (last_stamp (entry_stamps (seen_of p')))) ∙ pass.put_replies.worn in absurd (omega arith)
  delivered (called.Worn back) (called.Done stamp' given) pass =
      let b : E = record { stamp = stamp'; caller = 1; act = ask.Take; answer = given } in
      let one : h ≡ b ∷ [] = sym (all-second h closed.of_seats (added-first (called.Worn back) pass.put_grows)) ∙ added-second (called.Done stamp' given) pass.taken_grows in
      let is_one = first-stamp Does (opening_of booth) 1 (seen_of t') h ask.Take stamp' given (answered-second 0 stamp' given pass.taken_replies) theirs one in
      let seen_low = low (b ∷ []) 0 (seen_of p') mine one in
      let worn = sym (zero-max (last_stamp (entry_stamps (seen_of p')))) ∙ pass.put_replies.worn in absurd (omega arith)
  delivered (called.Done stamp stored) (called.Worn back') pass =
      let a : E = record { stamp = stamp; caller = 0; act = ask.Put letter; answer = stored } in
      let one : h ≡ a ∷ [] = sym (all-first h closed.of_seats (added-second (called.Worn back') pass.taken_grows)) ∙ added-first (called.Done stamp stored) pass.put_grows in
      let is_one = first-stamp Does (opening_of booth) 0 (seen_of p') h (ask.Put letter) stamp stored (answered-first stamp stored pass.put_replies) mine one in
      let seen_low = low (a ∷ []) 1 (seen_of t') theirs one in
      let worn = pass.taken_replies.worn in
      let small : stamp ≤ 1 = omega arith in
      let seen_small : last_stamp (entry_stamps (seen_of t')) ≤ 1 = omega arith in
      let most : max stamp (last_stamp (entry_stamps (seen_of t'))) ≤ 1 = max-le small seen_small in absurd (omega arith)
  delivered (called.Done stamp stored) (called.Done stamp' given) pass =
      let take = pass.taken_replies in
      let a : E = record { stamp = stamp; caller = 0; act = ask.Put letter; answer = stored } in
      let b : E = record { stamp = stamp'; caller = 1; act = ask.Take; answer = given } in
      let later : stamp < stamp' = omega (arith, le-max_left stamp (last_stamp (entry_stamps take.met)), take.stamped) in
      let pair : h ≡ a ∷ b ∷ [] = two-calls 0 h a b closed.of_seats (added-first (called.Done stamp stored) pass.put_grows) (added-second (called.Done stamp' given) pass.taken_grows) later closed.legal.0 in
      let leads = subst (λ (l : List E). Leads Does (opening_of booth) l object) pair closed.legal.1 in
      let held = subst (λ (l : Option (Box Letter Global)). TrayAnswers l (ask.Put letter) stored leads.0.letter) empty leads.1 in
      (subst (λ (l : Option (Box Letter Global)). TrayAnswers l ask.Take given leads.2.0.letter) held.1 leads.2.1).0

-- so with the two new seats of a booth, which were taken off the end of a list and are gathered when their calls are made
pub sent : {g : Ghosts Tray Ask Reply} (booth : Booth Tray Ask Reply) (items rest rest' : List (Seat Tray Ask Reply g)) (p p' t t' : Seat Tray Ask Reply g) (letter : Box Letter Global) (put taken : Called Tray Ask Reply)
    (object : Tray) (clock : ℕ) (known : List (ℕ × List (Entry Ask Reply))) → AreNewSeatsOf booth items → items ≡ rest ++ t ∷ [] → rest ≡ rest' ++ p ∷ [] → seats_of booth ≡ 2 → (opening_of booth).letter ≡ None
    → number_of p' ≡ number_of p → number_of t' ≡ number_of t → ArePassed booth p p' t t' letter put taken
    → known ≡ known_of p' ∷ known_of t' ∷ [] → IsClosed Does (opening_of booth) (seats_of booth) known object clock → IsGiven letter taken
sent booth items rest rest' p p' t t' letter put taken object clock known new last before two empty same same' pass is closed =
    let are = new-pair booth items p t new (two-of items rest rest' t p last before (new.many ∙ two)) in
    delivered booth p p' t t' letter are.0 are.1 are.2 are.3 empty object clock known
    (is ∙ (λ i. ((same ∙ are.0) i, seen_of p') ∷ ((same' ∙ are.1) i, seen_of t') ∷ []))
    (subst (λ (n : ℕ). IsClosed Does (opening_of booth) n known object clock) two closed) put taken pass

module _ {O A R : Type 0} {g : Ghosts O A R} where
  -- two new seats that were taken off the end of a list, and gathered when their calls are made, are all there are
  pub all-two : (booth : Booth O A R) (items rest rest' : List (Seat O A R g)) (p p' t t' : Seat O A R g) (known : List (ℕ × List (Entry A R))) → AreNewSeatsOf booth items
      → items ≡ rest ++ t ∷ [] → rest ≡ rest' ++ p ∷ [] → seats_of booth ≡ 2 → number_of p' ≡ number_of p → number_of t' ≡ number_of t
      → HasNumber (number_of p') known → HasNumber (number_of t') known → HasEachNumber (seats_of booth) known
  all-two booth items rest rest' p p' t t' known new last before two same same' has has' =
      let are = new-pair booth items p t new (two-of items rest rest' t p last before (new.many ∙ two)) in
      subst (λ (n : ℕ). HasEachNumber n known) (sym two) (each-of-two known (number_of p') (number_of t') has has' (same ∙ are.0) (same' ∙ are.1))
