-- Seats are dealt to passes, as turns.
use Rattle.std.proofs.Common.{◌≡◌, ℕ, suc, ◌+◌, ◌<◌, ◌≤◌, List, [], ◌∷◌, ◌++◌, reverse, set, length, get_or, sym, ◌∙◌, ap, subst, arith, inl, inr, length-append, length-set, append_assoc}
use Rattle.std.specs.Prelude.{vec_capacity}
use Rattle.std.specs.List.{All}
use Rattle.std.proofs.Math.Seq.{get_or-append_seam}
use Rattle.std.proofs.lemmas.Bool.Decides.{eqb_tells}
use Rattle.std.proofs.lemmas.List.{get_or-set_same, get_or-set_other, get_or_default, get_or_append_left, reverse-append}
use Rattle.std.proofs.lemmas.List.Elements.{All-nil, All-cons, All-append}
use Rattle.abt_booth.specs.declared.booth.Booth.{Booth}
use Rattle.abt_booth.specs.declared.booth.Seat.{Seat}
use Rattle.abt_booth.specs.Seats.{AreNewSeatsOf, IsSeatOf, number_of, seen_of}
use Rattle.abt_commons.specs.declared.acts.Act.{Act}
use Rattle.abt_commons.specs.declared.acts.Answer.{Answer}
use Rattle.abt_commons.specs.declared.split.SplitPass.{SplitPass}
use Rattle.abt_commons.specs.contracts.one.OneObject.TheImpl as OneObject
use Rattle.abt_commons.specs.AllPasses.{AreAll}
use Rattle.abt_commons.specs.Held.{OneValue}
use Rattle.abt_commons.specs.Locking.{AreDealt, Gets, HaveGot, IsDealt}
use Rattle.abt_commons.specs.Splits.{AreTurns, HasSeenNothing, IsPassOf, SplitValue, pass_stream}
use Rattle.abt_commons.specs.Turns.{IsTurnOf, TurnValue}

abbrev pub SiteBooth : Type 0
SiteBooth = Booth OneValue Act Answer

abbrev pub SiteSeat : Type 0
SiteSeat = Seat OneValue Act Answer OneObject.ghosts

-- A seat goes to the pass of its number.

-- the last of the seats that are left
pub gets-last : (booth : SiteBooth) (all now rest : List SiteSeat) (seat : SiteSeat) → AreNewSeatsOf booth all → all ≡ (now ++ seat ∷ []) ++ rest
    → IsSeatOf booth seat × (number_of seat ≡ length now) × (seen_of seat ≡ [])
gets-last booth all now rest seat new is =
    let split : all ≡ now ++ seat ∷ rest = is ∙ append_assoc now (seat ∷ []) rest in
    let here : get_or all (length now) seat ≡ seat = ap (λ xs. get_or xs (length now) seat) split ∙ get_or-append_seam now seat rest seat in
    let many : length all ≡ length now + suc (length rest) = ap length split ∙ length-append now (seat ∷ rest) in
    let lt : length now < length all = omega (arith, many) in (
      subst (IsSeatOf booth) here (new.each (length now) seat lt),
      subst (λ s. number_of s ≡ length now) here (new.in_order (length now) seat lt),
      subst (λ s. seen_of s ≡ []) here (new.fresh (length now) seat lt),
    )

module _ (booth : SiteBooth) (old : List SplitPass) where
  pub got-more : (left : ℕ) (mid : List SplitPass) (q : SplitPass) → HaveGot booth (left + 1) old mid → left < length old → ((p : SplitPass) → Gets booth left (get_or old left p) q) → HaveGot booth left old (set mid left q)
  got-more left mid q got lt gets = record {
    many = length-set mid left q ∙ got.many;
    got = λ k p r le less. elim (eqb_tells k left) [
      | inl s ↦
          let within : left < length mid = subst (λ n. left < n) (sym got.many) lt in
          let now : q ≡ get_or (set mid left q) k r = sym (get_or-set_same mid left q r within) ∙ ap (λ j. get_or (set mid left q) j r) (sym s.1) in
          subst (λ v. Gets booth k (get_or old k p) v) now (subst (λ j. Gets booth j (get_or old j p) q) (sym s.1) (gets p))
      | inr s ↦
          let more : left + 1 ≤ k = (let ne = s.1 in omega (arith, le, ne)) in
          subst (λ v. Gets booth k (get_or old k p) v) (sym (get_or-set_other mid left k q r s.1)) (got.got k p r more less)
    ];
    others = λ k p less. get_or-set_other mid left k q p (λ e. omega (arith, less, e)) ∙ got.others k p (omega (arith, less));
  }

-- the pass of the last seat that is left gets it
pub got-last : (booth : SiteBooth) (old mid : List SplitPass) (all now rest : List SiteSeat) (seat : SiteSeat) (turn : TurnValue) (left : ℕ) (d q : SplitPass) → AreNewSeatsOf booth all → all ≡ (now ++ seat ∷ []) ++ rest → length all ≡ length old
    → left ≡ length now → HaveGot booth (left + 1) old mid → (IsSeatOf booth seat → IsTurnOf booth turn) → turn.number ≡ number_of seat → turn.seen ≡ seen_of seat
    → q.stream ≡ (get_or mid left d).stream → q.turns.items ≡ (get_or mid left d).turns.items ++ turn ∷ [] → vec_capacity q.turns ≡ vec_capacity (get_or mid left d).turns → HaveGot booth left old (set mid left q)
got-last booth old mid all now rest seat turn left d q new is many at got of number seen stream more room =
    let its = gets-last booth all now rest seat new is in
    let n : length all ≡ length now + suc (length rest) = ap length (is ∙ append_assoc now (seat ∷ []) rest) ∙ length-append now (seat ∷ rest) in
    let lt : left < length old = omega (arith, n, many, at) in
    let in-mid : left < length mid = subst (λ m. left < m) (sym got.many) lt in
    got-more booth old left mid q got lt (λ p.
    (let was : get_or mid left d ≡ get_or old left p = get_or_default mid left d p in-mid ∙ got.others left p (omega arith) in
    subst (λ v. Gets booth left v q) was (record { stream = stream; turn = turn; more = more; its = of its.0; number = number ∙ (its.1 ∙ sym at); fresh = seen ∙ its.2; room = room })))

-- One booth more, with a turn for each pass.

module _ (booths : List SiteBooth) (booth : SiteBooth) (number : ℕ) where
  turns-more : (turns : List TurnValue) (turn : TurnValue) → AreTurns number booths turns → IsTurnOf booth turn → turn.number ≡ number → AreTurns number (booths ++ booth ∷ []) (turns ++ turn ∷ [])
  turns-more turns turn have its is = record {
    many = length-append turns (turn ∷ []) ∙ (ap (λ n. n + 1) have.many ∙ sym (length-append booths (booth ∷ [])));
    own = λ i b t lt. elim (eqb_tells i (length booths)) [
      | inl e ↦
          let bo : booth ≡ get_or (booths ++ booth ∷ []) i b = sym (get_or-append_seam booths booth [] b) ∙ ap (λ j. get_or (booths ++ booth ∷ []) j b) (sym e.1) in
          let tu : turn ≡ get_or (turns ++ turn ∷ []) i t = sym (get_or-append_seam turns turn [] t) ∙ ap (λ j. get_or (turns ++ turn ∷ []) j t) (have.many ∙ sym e.1) in
          subst (λ v. IsTurnOf v (get_or (turns ++ turn ∷ []) i t) × ((get_or (turns ++ turn ∷ []) i t).number ≡ number)) bo (subst (λ (v : TurnValue). IsTurnOf booth v × (v.number ≡ number)) tu (its, is))
      | inr e ↦
          let many : length (booths ++ booth ∷ []) ≡ length booths + 1 = length-append booths (booth ∷ []) in
          let less : i < length booths = (let ne = e.1 in omega (arith, lt, many, ne)) in
          let less' : i < length turns = subst (λ n. i < n) (sym have.many) less in
          subst (λ v. IsTurnOf v (get_or (turns ++ turn ∷ []) i t) × ((get_or (turns ++ turn ∷ []) i t).number ≡ number)) (sym (get_or_append_left booths (booth ∷ []) b i less))
          (subst (λ (v : TurnValue). IsTurnOf (get_or booths i b) v × (v.number ≡ number)) (sym (get_or_append_left turns (turn ∷ []) t i less')) (have.own i b t less))
    ];
  }

  dealt-by : (room : ℕ) (old new : SplitPass) → IsDealt booths (room + 1) number old → Gets booth number old new → IsDealt (booths ++ booth ∷ []) room number new
  dealt-by room old new dealt gets = record {
    stream = gets.stream ∙ dealt.stream;
    turns = subst (AreTurns number (booths ++ booth ∷ [])) (sym gets.more) (turns-more old.turns.items gets.turn dealt.turns gets.its gets.number);
    fresh = subst (λ turns. All (λ turn. turn.seen ≡ []) turns) (sym gets.more)
        (All-append (λ (turn : TurnValue). turn.seen ≡ []) old.turns.items (gets.turn ∷ []) dealt.fresh (All-cons (λ (turn : TurnValue). turn.seen ≡ []) gets.turn [] gets.fresh (All-nil (λ (turn : TurnValue). turn.seen ≡ []))));
    room =
        (let many : length new.turns.items ≡ length old.turns.items + 1 = ap length gets.more ∙ length-append old.turns.items (gets.turn ∷ []) in
        let r = dealt.room in
        let s = gets.room in
        omega (arith, many, r, s));
  }

pub dealt-more : (booths : List SiteBooth) (booth : SiteBooth) (room n : ℕ) (old new : List SplitPass) → AreDealt booths (room + 1) n old → HaveGot booth 0 old new → AreDealt (booths ++ booth ∷ []) room n new
dealt-more booths booth room n old new dealt got = record {
  many = got.many ∙ dealt.many;
  each = λ k pass lt. dealt-by booths booth k room (get_or old k pass) (get_or new k pass) (dealt.each k pass lt) (got.got k pass pass (omega arith) (subst (λ m. k < m) (sym dealt.many) lt));
}

-- one pass more
pub dealt-next : (booths : List SiteBooth) (room n : ℕ) (passes : List SplitPass) (pass : SplitPass) → AreDealt booths room n passes → IsDealt booths room n pass → AreDealt booths room (n + 1) (passes ++ pass ∷ [])
dealt-next booths room n passes pass dealt one = record {
  many = length-append passes (pass ∷ []) ∙ ap (λ m. m + 1) dealt.many;
  each = λ k d lt. elim (eqb_tells k (length passes)) [
    | inl e ↦
        let here : pass ≡ get_or (passes ++ pass ∷ []) k d = sym (get_or-append_seam passes pass [] d) ∙ ap (λ j. get_or (passes ++ pass ∷ []) j d) (sym e.1) in
        let last : n ≡ k = sym dealt.many ∙ sym e.1 in
        subst (IsDealt booths room k) here (subst (λ m. IsDealt booths room m pass) last one)
    | inr e ↦
        let many = dealt.many in
        let less : k < n = (let ne = e.1 in omega (arith, lt, many, ne)) in
        subst (IsDealt booths room k) (sym (get_or_append_left passes (pass ∷ []) d k (subst (λ m. k < m) (sym many) less))) (dealt.each k d less)
  ];
}

-- the object that goes from the room into a booth stays where it is among all
pub one-locked : (os room : List OneValue) (one : OneValue) → (os ++ one ∷ []) ++ reverse room ≡ os ++ reverse (room ++ one ∷ [])
one-locked os room one = append_assoc os (one ∷ []) (reverse room) ∙ ap (λ xs. os ++ xs) (sym (reverse-append room (one ∷ [])))

-- passes that are dealt are those of a split
pub dealt-passes : (split : SplitValue) (room n : ℕ) (passes : List SplitPass) → AreDealt split.booths room n passes → AreAll (IsPassOf split) pass_stream n passes × All HasSeenNothing passes
dealt-passes split room n passes dealt = (
  record {
    many = dealt.many;
    each = λ k pass lt.
        (let d = dealt.each k pass (subst (λ m. k < m) dealt.many lt) in
        subst (λ s. AreTurns s split.booths (get_or passes k pass).turns.items) (sym d.stream) d.turns);
    in_order = λ k pass lt. (dealt.each k pass (subst (λ m. k < m) dealt.many lt)).stream;
  },
  λ k pass lt. (dealt.each k pass (subst (λ m. k < m) dealt.many lt)).fresh,
)
