-- The units that a stream has after an event.
use Rattle.std.proofs.Common.{◌≡◌, ℕ, ◌+◌, Bool, true, false, List, [], ◌∷◌, ◌++◌, Option, Some, None, refl, sym, ◌∙◌, ap, subst, arith, inl, inr, All}
use Rattle.std.proofs.lemmas.List.Elements.{All-append, All-cons, All-head, All-nil, All-tail}
use Rattle.abt_machine.specs.declared.events.Code.{Code}
use Rattle.abt_machine.specs.declared.events.What.{What}
use Rattle.abt_machine.specs.declared.events.What.TheVariants as what
use Rattle.abt_machine.specs.declared.operations.Op.{Op}
use Rattle.abt_machine.specs.declared.operations.Op.TheVariants as op
use Rattle.abt_machine.specs.Stored.{Stored, Returns}
use Rattle.abt_machine.specs.declared.workload.Parts.{Parts}
use Rattle.abt_machine.specs.Frames.{entered, left, round_missed, round_taken, sched_of}
use Rattle.abt_machine.specs.Workloads.{body_at, op_at}
use Rattle.abt_machine.specs.Next.{StepDue, LeaveDue, RoundDue}
use Rattle.abt_machine.specs.Valid.{IsValid}
use Rattle.abt_machine.specs.Values.{Owned, Held}
use Rattle.abt_machine.specs.Acts.{carrying, moved, received}
use Rattle.abt_machine.specs.Carrying.{with_home}
use Rattle.abt_machine.specs.Plans.{Effect, Plan, Does, Calls, Exits, keeps, plan_of}
use Rattle.abt_machine.specs.Turns.{Heard, Performs, Steps, exited, looked, stepped}
use Rattle.abt_laws.proofs.Options.{none≢some}
use Rattle.abt_unit.specs.Fits.{Fits}
use Rattle.abt_unit.proofs.Fitting.{Fits-moved, Fits-received, Fits-with_home}
use Rattle.abt_chain.specs.Keeping.{Have, IsPoolOf, contents_answered, pools_in}
use Rattle.abt_machine.proofs.Elements.{All-left, All-right}
use Rattle.abt_calls.specs.Effects.{unit_in, units_left}
use Rattle.abt_calls.specs.Holders.{units_held}
use Rattle.abt_calls.specs.Suits.{Suits}
use Rattle.abt_calls.specs.Streams.{EventsFit, EventsKeepUnits, HoldsOne, IsSuited, contents_heard, contents_sent}
use Rattle.abt_calls.proofs.EffectsKept.{effect-even, exit-number, own-step-even}
use Rattle.abt_calls.proofs.Fitting.{effects-fit, exits-fit, own-steps-fit}
use Rattle.abt_calls.proofs.Tallies.{tally, tally-append, tally-cons, tally-nil, tally-number, times-from}
use Rattle.abt_calls.proofs.Turns.{hand-none, next-none}

-- Facts of all units of a stream.

record Each (F : Owned → Type 0) (held : Held) : Type 0 where
  hand : All F (unit_in held.hand)
  next : All F (unit_in held.next)
  tray : All F held.tray
  framed : All F held.framed

each-of : (F : Owned → Type 0) (held : Held) → All F (units_held held) → Each F held
each-of F held all =
    let hand : List Owned = unit_in held.hand in
    let next : List Owned = unit_in held.next in
    let three : All F (hand ++ next ++ held.tray) = All-left F (hand ++ next ++ held.tray) held.framed all in
    let two : All F (hand ++ next) = All-left F (hand ++ next) held.tray three in
    record {
      hand = All-left F hand next two;
      next = All-right F hand next two;
      tray = All-right F (hand ++ next) held.tray three;
      framed = All-right F (hand ++ next ++ held.tray) held.framed all;
    }

all-of : (F : Owned → Type 0) (held : Held) → Each F held → All F (units_held held)
all-of F held each =
    let hand : List Owned = unit_in held.hand in
    let next : List Owned = unit_in held.next in
    All-append F (hand ++ next ++ held.tray) held.framed (All-append F (hand ++ next) held.tray (All-append F hand next each.hand each.next) each.tray) each.framed

module _ (W : Parts) where
  abbrev IsFit : Owned → Type 0
  IsFit o = Fits W o

  one-fits : (o : Owned) → Fits W o → All IsFit (o ∷ [])
  one-fits o fits = All-cons IsFit o [] fits (All-nil IsFit)

  -- the unit in hand or in Next
  that-fits : (f : Option Owned) (o : Owned) → All IsFit (unit_in f) → f ≡ Some o → Fits W o
  that-fits f o all is = All-head IsFit o [] (subst (λ g. All IsFit (unit_in g)) is all)

  -- what came is the workload's
  come : (heard : Option Heard) (h : Heard) → heard ≡ Some h → Have IsFit (IsPoolOf W) (contents_heard heard) → Have IsFit (IsPoolOf W) (contents_answered h.2)
  come heard h is have = subst (λ g. Have IsFit (IsPoolOf W) (contents_heard g)) is have

  becomes : (new held : Held) → new ≡ held → Each IsFit held → All IsFit (units_held new)
  becomes new held is each = subst (λ h. All IsFit (units_held h)) (sym is) (all-of IsFit held each)

  looked-fits : (old : Held) (o : Owned) (cancel : Bool) (migrate : Option ℕ) → Each IsFit old → Fits W o → All (IsPoolOf W) (pools_in migrate) → Each IsFit (looked old o cancel migrate)
  looked-fits old o true migrate each fits pools = record { hand = one-fits o fits; next = All-nil IsFit; tray = each.tray; framed = each.framed }
  looked-fits old o false (Some p) each fits pools = record {
    hand = each.hand;
    next = All-nil IsFit;
    tray = All-append IsFit old.tray (carrying (with_home p) o ∷ []) each.tray (one-fits (carrying (with_home p) o) (Fits-with_home fits p (All-head (IsPoolOf W) p [] pools)));
    framed = each.framed;
  }
  looked-fits old o false None each fits pools = record { hand = one-fits o fits; next = All-nil IsFit; tray = each.tray; framed = each.framed }

  stepped-fits : (old : Held) (e : Effect) → Each IsFit old → All IsFit (units_left e) → Each IsFit (stepped old e)
  stepped-fits old e each left =
      let hand : List Owned = unit_in e.hand in
      let next : List Owned = unit_in e.next in
      let two : All IsFit (hand ++ next) = All-left IsFit (hand ++ next) e.wakes left in
      record {
        hand = All-left IsFit hand next two;
        next = All-right IsFit hand next two;
        tray = All-append IsFit old.tray e.wakes each.tray (All-right IsFit (hand ++ next) e.wakes left);
        framed = each.framed;
      }

  exited-fits : (old : Held) (b : Owned) → Each IsFit old → Fits W b → Each IsFit (exited old b)
  exited-fits old b each fits = record { hand = one-fits b fits; next = All-nil IsFit; tray = each.tray; framed = each.framed }

  performs-fits : (s : ℕ) (old : Held) (a : Op) (o : Owned) (plan : Plan) (heard : Option Heard) (c : Code) (new : Held) → plan_of W s a o ≡ plan → IsValid W → Fits W o → op_at W o.number o.carried.position ≡ Some a
      → Each IsFit old → Have IsFit (IsPoolOf W) (contents_heard heard) → Performs old plan heard c new → All IsFit (units_held new)
  performs-fits s old a o (Does e) heard c new plan valid fits is each have st = becomes new (stepped old e) st.2 (stepped-fits old e each (own-steps-fit W s a o e valid fits is plan))
  performs-fits s old a o (Calls x asked brings) heard c new plan valid fits is each have st =
      becomes new (stepped old (brings st.0)) st.3 (stepped-fits old (brings st.0) each (effects-fit W s a o x asked brings st.0 fits is plan (come heard (x, asked, st.0) st.1 have).0))
  performs-fits s old a o (Exits b) heard c new plan valid fits is each have st = becomes new (exited old b) st.2 (exited-fits old b each (exits-fit W s a o b fits is plan))

  that-op : (o : Owned) (u k : ℕ) (a : Op) → o.number ≡ u → o.carried.position ≡ k → op_at W u k ≡ Some a → op_at W o.number o.carried.position ≡ Some a
  that-op o u k a number position is = (λ i. op_at W (number i) (position i)) ∙ is

-- the unit after a call of its function
call-fits : (W : Parts) (Z : Stored) (o : Owned) (n : ℕ) (a : Option Op) → op_at W o.number o.carried.position ≡ a → Returns Z a o.number o.carried n → Fits W o → Fits W (received n (moved o))
call-fits W Z o n (Some (op.Call f)) is h fits = Fits-received (Fits-moved fits (op.Call f) is) n
call-fits W Z o n None is h fits = absurd h
call-fits W Z o n (Some a) is h fits = absurd h

pub events-fit : EventsFit
events-fit W Z s old (what.Miss p) heard new valid st all have =
    let each : Each (IsFit W) old = each-of (IsFit W) old all in
    becomes W new _ st.3 (record { hand = each.hand; next = each.next; tray = each.tray; framed = each.framed })
events-fit W Z s old (what.Take p u) heard new valid st all have =
    let each : Each (IsFit W) old = each-of (IsFit W) old all in
    becomes W new _ st.5 (record { hand = each.hand; next = (come W heard _ st.4 have).0; tray = each.tray; framed = each.framed })
events-fit W Z s old (what.Look u) heard new valid st all have =
    let each : Each (IsFit W) old = each-of (IsFit W) old all in
    becomes W new _ st.7 (looked-fits W old st.1 st.4 st.5 each (that-fits W old.next st.1 each.next st.2) (come W heard _ st.6 have).1)
events-fit W Z s old (what.Step u k c) heard new valid st all have =
    let each : Each (IsFit W) old = each-of (IsFit W) old all in
    performs-fits W s old st.5 st.1 (plan_of W s st.5 st.1) heard c new refl valid (that-fits W old.hand st.1 each.hand st.2) (that-op W st.1 u.0 k st.5 st.3 st.4 st.6) each have st.7
events-fit W Z s old (what.Call u k n) heard new valid st all have =
    let each : Each (IsFit W) old = each-of (IsFit W) old all in
    let returned : Returns Z (op_at W st.1.number st.1.carried.position) st.1.number st.1.carried n = subst (λ m. Returns Z m st.1.number st.1.carried n) (sym (λ i. op_at W (st.3 i) (st.4 i))) st.5 in
    becomes W new _ st.7
    (stepped-fits W old (keeps (received n (moved st.1)) []) each
    (one-fits W _ (call-fits W Z st.1 n (op_at W st.1.number st.1.carried.position) refl returned (that-fits W old.hand st.1 each.hand st.2))))
events-fit W Z s old (what.Put u p) heard new valid st all have =
    let each : Each (IsFit W) old = each-of (IsFit W) old all in
    becomes W new _ st.7 (record { hand = each.hand; next = each.next; tray = All-tail (IsFit W) st.1 st.2 (subst (All (IsFit W)) st.3 each.tray); framed = each.framed })
events-fit W Z s old (what.End u cause) heard new valid st all have =
    let each : Each (IsFit W) old = each-of (IsFit W) old all in
    becomes W new _ st.6 (record { hand = All-nil (IsFit W); next = each.next; tray = All-append (IsFit W) old.tray st.4 each.tray (come W heard _ st.5 have).0; framed = each.framed })
events-fit W Z s old (what.Enter u) heard new valid st all have =
    let each : Each (IsFit W) old = each-of (IsFit W) old all in
    becomes W new _ st.5 (record { hand = All-nil (IsFit W); next = each.next; tray = each.tray; framed = All-append (IsFit W) old.framed (st.1 ∷ []) each.framed (one-fits W st.1 (that-fits W old.hand st.1 each.hand st.2)) })
events-fit W Z s old (what.Leave u) heard new valid st all have =
    let each : Each (IsFit W) old = each-of (IsFit W) old all in
    let framed : All (IsFit W) (st.2 ++ st.1 ∷ []) = subst (All (IsFit W)) st.3 each.framed in
    becomes W new _ st.6 (record { hand = All-right (IsFit W) st.2 (st.1 ∷ []) framed; next = each.next; tray = each.tray; framed = All-left (IsFit W) st.2 (st.1 ∷ []) framed })

-- How many units of a number a stream has.

module _ (u : ℕ) where
  part_tally : Held → ℕ
  part_tally held = tally u (units_held held)

  -- by where they are
  parts-tally : (held : Held) → part_tally held ≡ tally u (unit_in held.hand) + tally u (unit_in held.next) + tally u held.tray + tally u held.framed
  unfolding part_tally
  parts-tally held =
      let hand : List Owned = unit_in held.hand in
      let next : List Owned = unit_in held.next in
      omega (arith, tally-append u (hand ++ next ++ held.tray) held.framed, tally-append u (hand ++ next) held.tray, tally-append u hand next)

  -- as many units before as afterwards
  abbrev Same : Held → Option Heard → Held → Type 0
  Same old heard new = part_tally old + tally u (contents_heard heard).units ≡ part_tally new + tally u (contents_sent heard).units

  same-from : (old : Held) (heard h : Option Heard) (new held : Held) → heard ≡ h → new ≡ held → Same old h held → Same old heard new
  same-from old heard h new held is to same = subst (λ (q : Option Heard × Held). Same old q.0 q.1) (λ i. (sym is i, sym to i)) same

  unit-tally : (f : Option Owned) (o : Owned) → f ≡ Some o → tally u (unit_in f) ≡ tally u (o ∷ [])
  unit-tally f o is = ap (λ g. tally u (unit_in g)) is

  none-tally : (f : Option Owned) → f ≡ None → tally u (unit_in f) ≡ 0
  none-tally f is = ap (λ g. tally u (unit_in g)) is ∙ tally-nil u

  looked-tally : (old : Held) (o : Owned) (cancel : Bool) (migrate : Option ℕ) → old.hand ≡ None → old.next ≡ Some o → part_tally old ≡ part_tally (looked old o cancel migrate)
  looked-tally old o true migrate none is = omega (arith, parts-tally old, parts-tally (looked old o true migrate), none-tally old.hand none, unit-tally old.next o is, tally-nil u)
  looked-tally old o false (Some p) none is =
      omega (arith, parts-tally old, parts-tally (looked old o false (Some p)), none-tally old.hand none, unit-tally old.next o is, tally-nil u, tally-append u old.tray (carrying (with_home p) o ∷ []), tally-number u (carrying (with_home p) o) o refl)
  looked-tally old o false None none is = omega (arith, parts-tally old, parts-tally (looked old o false None), none-tally old.hand none, unit-tally old.next o is, tally-nil u)

  left-tally : (e : Effect) → tally u (units_left e) ≡ tally u (unit_in e.hand) + tally u (unit_in e.next) + tally u e.wakes
  left-tally e = let hand : List Owned = unit_in e.hand in let next : List Owned = unit_in e.next in omega (arith, tally-append u (hand ++ next) e.wakes, tally-append u hand next)

  stepped-tally : (old : Held) (o : Owned) (e : Effect) → old.hand ≡ Some o → old.next ≡ None → part_tally (stepped old e) + tally u (o ∷ []) ≡ part_tally old + tally u (units_left e)
  stepped-tally old o e is none =
      omega (arith, parts-tally old, parts-tally (stepped old e), unit-tally old.hand o is, none-tally old.next none, left-tally e, tally-append u old.tray e.wakes)

  performs-same : (W : Parts) (s : ℕ) (old : Held) (a : Op) (o : Owned) (plan : Plan) (heard : Option Heard) (c : Code) (new : Held) → plan_of W s a o ≡ plan → old.hand ≡ Some o → old.next ≡ None → IsSuited heard
      → Performs old plan heard c new → Same old heard new
  performs-same W s old a o (Does e) heard c new plan is none suited st =
      same-from old heard None new (stepped old e) st.0 st.2 (omega (arith, stepped-tally old o e is none, own-step-even u W s a o e plan))
  performs-same W s old a o (Calls x asked brings) heard c new plan is none suited st =
      let suits : Suits asked st.0 = subst IsSuited st.1 suited in
      same-from old heard (Some (x, asked, st.0)) new (stepped old (brings st.0)) st.1 st.3
      (omega (arith, stepped-tally old o (brings st.0) is none, effect-even u W s a o x asked brings st.0 plan suits))
  performs-same W s old a o (Exits b) heard c new plan is none suited st =
      same-from old heard None new (exited old b) st.0 st.2
      (omega (arith, parts-tally old, parts-tally (exited old b), unit-tally old.hand o is, none-tally old.next none, tally-nil u, tally-number u b o (exit-number W s a o b plan)))

  -- if Next holds a unit, the hand is empty
  hand-empty : (old : Held) (o : Owned) → HoldsOne old → old.next ≡ Some o → old.hand ≡ None
  hand-empty old o (inl none) is = none
  hand-empty old o (inr none) is = absurd (none≢some (sym none ∙ is))

  events-same : (W : Parts) (Z : Stored) (s : ℕ) (old : Held) (w : What) (heard : Option Heard) (new : Held) → Steps W Z s old w heard new → HoldsOne old → IsSuited heard → Same old heard new
  events-same W Z s old (what.Miss p) heard new st one suited =
      same-from old heard _ new _ st.2 st.3 (omega (arith, parts-tally old, parts-tally (record old { own = round_missed W p.0 old.own })))
  events-same W Z s old (what.Take p v) heard new st one suited =
      same-from old heard _ new (record old { own = round_taken old.own; next = Some st.2 }) st.4 st.5
      (omega (arith, parts-tally old, parts-tally (record old { own = round_taken old.own; next = Some st.2 }), none-tally old.next (next-none W s old RoundDue st.0 tt), tally-nil u))
  events-same W Z s old (what.Look v) heard new st one suited =
      same-from old heard _ new (looked old st.1 st.4 st.5) st.6 st.7 (omega (arith, looked-tally old st.1 st.4 st.5 (hand-empty old st.1 one st.2) st.2))
  events-same W Z s old (what.Step v k c) heard new st one suited =
      performs-same W s old st.5 st.1 (plan_of W s st.5 st.1) heard c new refl st.2 (next-none W s old StepDue st.0 tt) suited st.7
  events-same W Z s old (what.Call v k n) heard new st one suited =
      let e : Effect = keeps (received n (moved st.1)) [] in
      same-from old heard None new (stepped old e) st.6 st.7
      (omega (arith, stepped-tally old st.1 e st.2 (next-none W s old StepDue st.0 tt), tally-number u (received n (moved st.1)) st.1 refl, tally-nil u))
  events-same W Z s old (what.Put v p) heard new st one suited =
      let e : tally u old.tray ≡ tally u (st.1 ∷ st.2) = ap (tally u) st.3 in
      same-from old heard _ new (record old { tray = st.2 }) st.6 st.7 (omega (arith, parts-tally old, parts-tally (record old { tray = st.2 }), e, tally-cons u st.1 st.2, tally-nil u))
  events-same W Z s old (what.End v cause) heard new st one suited =
      same-from old heard _ new (record old { hand = None; tray = old.tray ++ st.4 }) st.5 st.6
      (omega (arith, parts-tally old, parts-tally (record old { hand = None; tray = old.tray ++ st.4 }), unit-tally old.hand st.1 st.2, tally-append u old.tray st.4, tally-nil u))
  events-same W Z s old (what.Enter v) heard new st one suited =
      same-from old heard _ new (record old { own = entered (sched_of (body_at W v.0)) old.own; hand = None; framed = old.framed ++ st.1 ∷ [] }) st.4 st.5
      (omega (arith, parts-tally old, parts-tally (record old { own = entered (sched_of (body_at W v.0)) old.own; hand = None; framed = old.framed ++ st.1 ∷ [] }), unit-tally old.hand st.1 st.2, tally-append u old.framed (st.1 ∷ []), tally-nil u))
  events-same W Z s old (what.Leave v) heard new st one suited =
      let e : tally u old.framed ≡ tally u (st.2 ++ st.1 ∷ []) = ap (tally u) st.3 in
      same-from old heard _ new (record old { own = left old.own; hand = Some st.1; framed = st.2 }) st.5 st.6
      (omega (arith, parts-tally old, parts-tally (record old { own = left old.own; hand = Some st.1; framed = st.2 }), e, none-tally old.hand (hand-none W s old LeaveDue st.0 tt), tally-append u st.2 (st.1 ∷ []), tally-nil u))

  events-times : (W : Parts) (Z : Stored) (s : ℕ) (old : Held) (w : What) (heard : Option Heard) (new : Held) → Steps W Z s old w heard new → HoldsOne old → IsSuited heard
      → tally u (units_held old) + tally u (contents_heard heard).units ≡ tally u (units_held new) + tally u (contents_sent heard).units
  unfolding part_tally
  events-times W Z s old w heard new st one suited = events-same W Z s old w heard new st one suited

pub events-keep-units : EventsKeepUnits
events-keep-units W Z s old w heard new st one suited u =
    times-from u (units_held old) (contents_heard heard).units (units_held new) (contents_sent heard).units (events-times u W Z s old w heard new st one suited)
