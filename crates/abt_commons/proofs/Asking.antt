-- One turn of a pass changes.
use Rattle.std.proofs.Common.{◌≡◌, ℕ, ◌<◌, List, set, length, get_or, sym, ◌∙◌, ap, subst, inl, inr, length-set}
use Rattle.std.proofs.lemmas.Bool.Decides.{eqb_tells}
use Rattle.std.proofs.lemmas.List.{get_or-set_same, get_or-set_other, get_or_default, set-set}
use Rattle.abt_booth.specs.declared.booth.Booth.{Booth}
use Rattle.abt_booth.specs.declared.booth.Called.{Called}
use Rattle.abt_booth.specs.Seats.{IsReply, opening_of}
use Rattle.abt_booth.proofs.Answered.{reply-earlier}
use Rattle.abt_commons.specs.declared.acts.Act.{Act}
use Rattle.abt_commons.specs.declared.acts.Answer.{Answer}
use Rattle.abt_commons.specs.declared.split.SplitPass.{SplitPass}
use Rattle.abt_commons.specs.Asks.{Does}
use Rattle.abt_commons.specs.Held.{OneValue}
use Rattle.abt_commons.specs.Splits.{AreTurns, AsksAt, TakesAt}
use Rattle.abt_commons.specs.Turns.{IsTurnOf, TurnValue}

module _ (booths : List (Booth OneValue Act Answer)) (turns : List TurnValue) (s : ℕ) (have : AreTurns s booths turns) (i : ℕ) (lt : i < length booths) (booth : Booth OneValue Act Answer) (at : booth ≡ get_or booths i booth) where
  pub in-turns : i < length turns
  in-turns = subst (λ m. i < m) (sym have.many) lt

  -- the turn of this lock
  pub turn-is : (turn : TurnValue) → turn ≡ get_or turns i turn → IsTurnOf booth turn × (turn.number ≡ s)
  turn-is turn here =
      subst (λ (t : TurnValue). IsTurnOf booth t × (t.number ≡ s)) (sym here)
      (subst (λ bo. IsTurnOf bo (get_or turns i turn) × ((get_or turns i turn).number ≡ s)) (sym at) (have.own i booth turn lt))

  pub turn-there : (turn : TurnValue) → IsTurnOf booth (get_or turns i turn) × ((get_or turns i turn).number ≡ s)
  turn-there turn = subst (λ bo. IsTurnOf bo (get_or turns i turn) × ((get_or turns i turn).number ≡ s)) (sym at) (have.own i booth turn lt)

  -- with another turn of the lock
  pub turns-set : (new : TurnValue) → IsTurnOf booth new → new.number ≡ s → AreTurns s booths (set turns i new)
  turns-set new its number = record {
    many = length-set turns i new ∙ have.many;
    own = λ j b e less. elim (eqb_tells j i) [
      | inl k ↦
          let jb : booth ≡ get_or booths j b = at ∙ (get_or_default booths i booth b lt ∙ ap (λ m. get_or booths m b) (sym k.1)) in
          let js : new ≡ get_or (set turns i new) j e = sym (get_or-set_same turns i new e in-turns) ∙ ap (λ m. get_or (set turns i new) m e) (sym k.1) in
          subst (λ bo. IsTurnOf bo (get_or (set turns i new) j e) × ((get_or (set turns i new) j e).number ≡ s)) jb (subst (λ (t : TurnValue). IsTurnOf booth t × (t.number ≡ s)) js (its, number))
      | inr k ↦ subst (λ (t : TurnValue). IsTurnOf (get_or booths j b) t × (t.number ≡ s)) (sym (get_or-set_other turns i j new e k.1)) (have.own j b e less)
    ];
  }

-- the turn that was there
module _ (booth : Booth OneValue Act Answer) (number : ℕ) (old new : SplitPass) (was now : TurnValue) (lt : number < length old.turns.items) (here : was ≡ get_or old.turns.items number was)
    (stream : new.stream ≡ old.stream) (turns : new.turns.items ≡ set old.turns.items number now) (its : IsTurnOf booth now) (numbered : now.number ≡ was.number) where
  same : was ≡ get_or old.turns.items number now
  same = here ∙ get_or_default old.turns.items number was now lt

  pub asks-by : (at : ℕ) (act : Act) (called : Called OneValue Act Answer) → IsReply Does (opening_of booth) was.number was.seen now.seen at act called → AsksAt booth number old at act called new
  asks-by at act called reply = record {
    stream = stream;
    turn = now;
    turns = turns;
    its = its;
    numbered = numbered ∙ ap (λ (t : TurnValue). t.number) same;
    reply = subst (λ (t : TurnValue). IsReply Does (opening_of booth) t.number t.seen now.seen at act called) same reply;
  }

-- the turn that was there met more calls before it asked
module _ (booth : Booth OneValue Act Answer) (number : ℕ) (old mid new : SplitPass) (lt : number < length old.turns.items) (takes : TakesAt booth number old mid) (taken now : TurnValue)
    (here : taken ≡ get_or mid.turns.items number taken) (stream : new.stream ≡ mid.stream) (turns : new.turns.items ≡ set mid.turns.items number now) (its : IsTurnOf booth now) (numbered : now.number ≡ taken.number) where
  abbrev was : TurnValue
  was = get_or old.turns.items number takes.turn

  taken-is : taken ≡ takes.turn
  taken-is = here ∙ (ap (λ ts. get_or ts number taken) takes.turns ∙ get_or-set_same old.turns.items number takes.turn taken lt)

  pub asks-then : (at : ℕ) (act : Act) (called : Called OneValue Act Answer) → IsReply Does (opening_of booth) taken.number taken.seen now.seen at act called → AsksAt booth number old at act called new
  asks-then at act called reply =
      let opening = opening_of booth in
      let by-turn = subst (λ (t : TurnValue). IsReply Does opening t.number t.seen now.seen at act called) taken-is reply in
      let by-number = subst (λ n. IsReply Does opening n takes.turn.seen now.seen at act called) takes.numbered by-turn in
      asks-by booth number old new was now lt (get_or_default old.turns.items number takes.turn was lt) (stream ∙ takes.stream)
      (turns ∙ (ap (λ ts. set ts number now) takes.turns ∙ set-set old.turns.items number takes.turn now)) its (numbered ∙ (ap (λ (t : TurnValue). t.number) taken-is ∙ takes.numbered))
      at act called (reply-earlier Does opening was.number was.seen takes.turn.seen now.seen at act called takes.met by-number)
