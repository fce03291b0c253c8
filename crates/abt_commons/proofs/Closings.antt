-- Locks are closed, from the last to the first.
use Rattle.std.proofs.Common.{◌≡◌, ◌≢◌, ℕ, zero, suc, ◌+◌, ◌<◌, ◌≤◌, max, List, [], ◌∷◌, ◌++◌, set, length, slice_get, get_or, Some, refl, sym, ◌∙◌, ap, subst, arith, inl, inr, ◌⊎◌, length-append, length-set, append_assoc}
use Rattle.std.specs.List.{All}
use Rattle.std.proofs.Math.Seq.{get_or-append_seam}
use Rattle.std.proofs.lemmas.List.{get_or-set_same, get_or-set_other, get_or_default}
use Rattle.std.proofs.lemmas.Option.{slice_get-get_or}
use Rattle.abt_booth.specs.declared.booth.Booth.{Booth}
use Rattle.abt_booth.specs.Calls.{IsClosed}
use Rattle.abt_booth.specs.Seats.{opening_of, seats_of}
use Rattle.abt_interleave.proofs.Members.{Among}
use Rattle.abt_commons.specs.declared.acts.Act.{Act}
use Rattle.abt_commons.specs.declared.acts.Answer.{Answer}
use Rattle.abt_commons.specs.declared.split.SplitPass.{SplitPass}
use Rattle.abt_commons.specs.Asks.{Does}
use Rattle.abt_commons.specs.Held.{OneValue}
use Rattle.abt_commons.specs.Splits.{seen_from}
use Rattle.abt_commons.specs.Parting.{LastTurnHas, IsClosedWith}
use Rattle.abt_commons.specs.Turns.{IsTurnOf, TurnValue}
use Rattle.abt_commons.specs.Closing.{WasClosed, WereClosed, HaveTurns, knew, knew_by}
use Rattle.abt_commons.proofs.Ranges.{get-right}

abbrev SiteBooth : Type 0
SiteBooth = Booth OneValue Act Answer

-- What passes have left.

-- this pass has the first turns of those that it had
pub record Remains (left : ℕ) (old now : SplitPass) : Type 0 where
  pub many : length now.turns.items ≡ left
  pub gone : List TurnValue
  pub rest : old.turns.items ≡ now.turns.items ++ gone

-- so has each of these
pub record Remain (left : ℕ) (old now : List SplitPass) : Type 0 where
  pub many : length now ≡ length old
  pub each : (k : ℕ) (p q : SplitPass) → k < length old → Remains left (get_or old k p) (get_or now k q)

-- a list that is not empty has a last item
last-of : {A : Type 0} (xs : List A) → 0 < length xs → (ys : List A) × (y : A) × (xs ≡ ys ++ y ∷ [])
last-of [] lt = absurd (omega (arith, lt))
last-of (x ∷ []) lt = ([], x, refl)
last-of (x ∷ z ∷ zs) lt = let r = last-of (z ∷ zs) (omega arith) in (x ∷ r.0, r.1, ap (λ ys. x ∷ ys) r.2)

-- the item between two parts of a list
get-between : {A : Type 0} (all xs ys : List A) (x d : A) → all ≡ (xs ++ x ∷ []) ++ ys → get_or all (length xs) d ≡ x
get-between all xs ys x d is = ap (λ zs. get_or zs (length xs) d) (is ∙ append_assoc xs (x ∷ []) ys) ∙ get_or-append_seam xs x ys d

find-between : {A : Type 0} (all xs ys : List A) (x : A) → all ≡ (xs ++ x ∷ []) ++ ys → slice_get all (length xs) ≡ Some x
find-between all xs ys x is =
    let e : length xs ≡ length xs + 0 = omega arith in
    ap (λ zs. slice_get zs (length xs)) (is ∙ append_assoc xs (x ∷ []) ys) ∙ (ap (slice_get (xs ++ x ∷ ys)) e ∙ get-right xs (x ∷ ys) 0)

within-between : {A : Type 0} (all xs ys : List A) (x : A) → all ≡ (xs ++ x ∷ []) ++ ys → length xs < length all
within-between all xs ys x is =
    let a : length all ≡ length (xs ++ x ∷ []) + length ys = ap length is ∙ length-append (xs ++ x ∷ []) ys in
    let b : length (xs ++ x ∷ []) ≡ length xs + 1 = length-append xs (x ∷ []) in
    omega (arith, a, b)

pub remain-all : (booths : List SiteBooth) (passes : List SplitPass) → HaveTurns booths passes → Remain (length booths) passes passes
remain-all booths passes have = record {
  many = refl;
  each = λ k p q lt. subst (λ v. Remains (length booths) (get_or passes k p) v) (get_or_default passes k p q lt)
      (record { many = (have k p lt).many; gone = []; rest = and-nothing (get_or passes k p).turns.items });
} where
  and-nothing : (xs : List TurnValue) → xs ≡ xs ++ []
  and-nothing [] = refl
  and-nothing (x ∷ xs) = ap (λ ys. x ∷ ys) (and-nothing xs)

-- The last booth that is left is closed.

module _ (booths : List SiteBooth) (passes : List SplitPass) (have : HaveTurns booths passes) (left gone : List SiteBooth) (booth : SiteBooth) (is : booths ≡ (left ++ booth ∷ []) ++ gone)
    (now : List SplitPass) (remain : Remain (length left + 1) passes now) where
  within : length left < length booths
  within = within-between booths left gone booth is

  -- the last turn that pass k had and has still
  turn-at : (k : ℕ) (p : SplitPass) (init : List TurnValue) (turn : TurnValue) → k < length passes → (get_or now k p).turns.items ≡ init ++ turn ∷ []
      → IsTurnOf booth turn × (turn.number ≡ k) × (length init ≡ length left) × (slice_get (get_or passes k p).turns.items (length left) ≡ Some turn)
  turn-at k p init turn lt ends =
      let r = remain.each k p p lt in
      let turns = (get_or passes k p).turns.items in
      let n : length init ≡ length left =
      (let a : length (get_or now k p).turns.items ≡ length init + 1 = ap length ends ∙ length-append init (turn ∷ []) in let b = r.many in omega (arith, a, b)) in
      let split : turns ≡ (init ++ turn ∷ []) ++ r.gone = r.rest ∙ ap (λ xs. xs ++ r.gone) ends in
      let own = (have k p lt).own (length left) booth turn within in
      let at : get_or turns (length left) turn ≡ turn = ap (λ i. get_or turns i turn) (sym n) ∙ get-between turns init r.gone turn turn split in
      let its = subst (λ v. IsTurnOf v turn × (turn.number ≡ k)) (get-between booths left gone booth booth is)
      (subst (λ (v : TurnValue). IsTurnOf (get_or booths (length left) booth) v × (v.number ≡ k)) at own) in
      (its.0, its.1, n, ap (slice_get turns) (sym n) ∙ find-between turns init r.gone turn split)

  pub ends-as : (k : ℕ) (p : SplitPass) → k < length now → LastTurnHas booth k (get_or now k p).turns.items
  ends-as k p lt =
      let less : k < length passes = subst (λ m. k < m) remain.many lt in
      let r = remain.each k p p less in
      let some : 0 < length (get_or now k p).turns.items = (let m = r.many in omega (arith, m)) in
      let l = last-of (get_or now k p).turns.items some in
      let at = turn-at k p l.0 l.1 less l.2 in
      (l.0, l.1, l.2, at.0, at.1)

  module _ (after : List SplitPass) (object : OneValue) (last : ℕ) (ending : IsClosedWith booth now after object last) where
    remains-by : (k : ℕ) (p q : SplitPass) → k < length passes → Remains (length left) (get_or passes k p) (get_or after k q)
    remains-by k p q lt =
        let r = remain.each k p p lt in
        let gave = ending.parted.gave k p q (subst (λ m. k < m) (sym remain.many) lt) (subst (λ m. k < m) (sym remain.many) lt) in
        let turns = (get_or after k q).turns.items in record {
          many = (let a : length (get_or now k p).turns.items ≡ length turns + 1 = ap length gave.last ∙ length-append turns (gave.turn ∷ []) in let b = r.many in omega (arith, a, b));
          gone = gave.turn ∷ r.gone;
          rest = r.rest ∙ (ap (λ xs. xs ++ r.gone) gave.last ∙ append_assoc turns (gave.turn ∷ []) r.gone);
        }

    pub remain-less : Remain (length left) passes after
    remain-less = record { many = ending.parted.many ∙ remain.many; each = remains-by }

    knew-there : (k : ℕ) → k < length passes → (p : SplitPass) → slice_get passes k ≡ Some (get_or passes k p) → Among (k, knew passes (length left) k) ending.known
    knew-there k lt p found =
        let gave = ending.parted.gave k p p (subst (λ m. k < m) (sym remain.many) lt) (subst (λ m. k < m) (sym remain.many) lt) in
        let at = turn-at k p (get_or after k p).turns.items gave.turn lt gave.last in
        let seen : knew passes (length left) k ≡ gave.turn.seen = ap (knew_by (length left)) found ∙ ap seen_from at.3 in
        subst (λ entry. Among entry ending.known) (λ i. (at.1 i, sym seen i)) gave.there

    pub has-ended : (some : 0 < length passes) (count : seats_of booth ≡ length passes) (carried clock : ℕ) → clock ≡ max carried last → WasClosed passes (length left) booth carried object clock
    has-ended some count carried clock raised = record {
      known = ending.known;
      last = last;
      closed = subst (λ n. IsClosed Does (opening_of booth) n ending.known object last) count ending.closed;
      there = λ k lt. there-by k lt;
      raised = raised;
    } where
      pass-of : (ps : List SplitPass) → 0 < length ps → SplitPass
      pass-of [] lt = absurd (omega (arith, lt))
      pass-of (p ∷ ps) lt = p

      first : SplitPass
      first = pass-of passes some

      there-by : (k : ℕ) → k < length passes → Among (k, knew passes (length left) k) ending.known
      there-by k lt = knew-there k lt first (slice_get-get_or passes k first lt)

-- One booth more has ended.

module _ (booths : List SiteBooth) (passes : List SplitPass) (carried : List ℕ) (from : ℕ) (objects : List OneValue) (clocks : List ℕ) (ended : WereClosed booths passes carried (from + 1) objects clocks)
    (many : length booths ≤ length carried) (object : OneValue) (raised : ℕ)
    (one : (booth : SiteBooth) (c : ℕ) → WasClosed passes from (get_or booths from booth) (get_or carried from c) object raised) where
  in-clocks : from < length clocks
  in-clocks = (let a = ended.many in let b = ended.clocks_many in omega (arith, a, b, many))

  raised-at : (i d : ℕ) → i ≡ from → raised ≡ get_or (set clocks from raised) i d
  raised-at i d is = sym (get_or-set_same clocks from raised d in-clocks) ∙ ap (λ j. get_or (set clocks from raised) j d) (sym is)

  each-by : (j : ℕ) (booth : SiteBooth) (c d : ℕ) (o : OneValue) → j < length (object ∷ objects)
      → WasClosed passes (from + j) (get_or booths (from + j) booth) (get_or carried (from + j) c) (get_or (object ∷ objects) j o) (get_or (set clocks from raised) (from + j) d)
  each-by zero booth c d o lt =
      let e : from + 0 ≡ from = omega arith in
      subst (λ i. WasClosed passes i (get_or booths i booth) (get_or carried i c) object (get_or (set clocks from raised) i d)) (sym e)
      (subst (λ n. WasClosed passes from (get_or booths from booth) (get_or carried from c) object n) (raised-at from d refl) (one booth c))
  each-by (suc j) booth c d o lt =
      let e : from + 1 + j ≡ from + suc j = omega arith in
      let there : get_or clocks (from + suc j) d ≡ get_or (set clocks from raised) (from + suc j) d = sym (get_or-set_other clocks from (from + suc j) raised d (λ s. omega (arith, s))) in
      subst (λ n. WasClosed passes (from + suc j) (get_or booths (from + suc j) booth) (get_or carried (from + suc j) c) (get_or objects j o) n) there
      (subst (λ i. WasClosed passes i (get_or booths i booth) (get_or carried i c) (get_or objects j o) (get_or clocks i d)) e (ended.each j booth c d o (omega (arith, lt))))

  others-by : (i c : ℕ) → (i < from) ⊎ (length booths ≤ i) → get_or (set clocks from raised) i c ≡ get_or carried i c
  others-by i c out =
      let m = ended.many in
      let ne : i ≢ from = λ e. elim out [ inl l ↦ omega (arith, l, e) | inr l ↦ omega (arith, l, e, m) ] in
      get_or-set_other clocks from i raised c ne ∙ ended.others i c (elim out [ inl l ↦ inl (omega (arith, l)) | inr l ↦ inr l ])

  pub ended-more : WereClosed booths passes carried from (object ∷ objects) (set clocks from raised)
  ended-more = record {
    many = (let m = ended.many in omega (arith, m));
    clocks_many = length-set clocks from raised ∙ ended.clocks_many;
    each = each-by;
    others = others-by;
  }

pub none-ended : (booths : List SiteBooth) (passes : List SplitPass) (carried : List ℕ) → WereClosed booths passes carried (length booths) [] carried
none-ended booths passes carried = record {
  many = omega arith;
  clocks_many = refl;
  each = λ j booth c d o lt. absurd (omega (arith, lt));
  others = λ i c out. refl;
}

-- the last booth that is left has ended too
module _ (booths : List SiteBooth) (passes : List SplitPass) (have : HaveTurns booths passes) (left gone : List SiteBooth) (booth : SiteBooth) (is : booths ≡ (left ++ booth ∷ []) ++ gone)
    (now : List SplitPass) (remain : Remain (length left + 1) passes now) (after : List SplitPass) (object : OneValue) (last : ℕ) (ending : IsClosedWith booth now after object last)
    (carried : List ℕ) (objects : List OneValue) (clocks : List ℕ) (ended : WereClosed booths passes carried (length left + 1) objects clocks) (many : length booths ≤ length carried)
    (some : 0 < length passes) (count : seats_of booth ≡ length passes) where
  pub closed-more : (raised : ℕ) → raised ≡ max (get_or clocks (length left) 0) last → WereClosed booths passes carried (length left) (object ∷ objects) (set clocks (length left) raised)
  closed-more raised is-raised =
      let lt : length left < length booths = within-between booths left gone booth is in
      let in-carried : length left < length carried = omega (arith, lt, many) in
      ended-more booths passes carried (length left) objects clocks ended many object raised
      (λ b c. subst (λ v. WasClosed passes (length left) v (get_or carried (length left) c) object raised) (sym (get-between booths left gone booth b is))
      (has-ended booths passes have left gone booth is now remain after object last ending some count (get_or carried (length left) c) raised
      (is-raised ∙ ap (λ n. max n last) (ended.others (length left) 0 (inl (omega arith)) ∙ get_or_default carried (length left) 0 c in-carried))))

-- the booth's seats are as many as the passes
pub same-count : (booths left gone : List SiteBooth) (booth : SiteBooth) (n : ℕ) → booths ≡ (left ++ booth ∷ []) ++ gone → All (λ (b : SiteBooth). seats_of b ≡ n) booths → seats_of booth ≡ n
same-count booths left gone booth n is seated =
    subst (λ b. seats_of b ≡ n) (get-between booths left gone booth booth is) (seated (length left) booth (within-between booths left gone booth is))
