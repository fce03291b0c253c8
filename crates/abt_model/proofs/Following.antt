-- From what the code makes of a stream to an event of the machine.
use Rattle.std.proofs.Common.{◌≡◌, ◌≢◌, ◌∙◌, ◌↔◌, ℕ, suc, ◌<◌, ◌≤◌, ◌-◌, ◌^◌, ◌⊎◌, Bool, true, false, Option, None, Some, IsTrue, ap, arith, get_or, inl, inr, length, refl, slice_set, subst, sym}
use Rattle.std.specs.Prelude.{IfSome}
use Rattle.std.proofs.lemmas.Bool.{cases_lt}
use Rattle.abt_machine.specs.declared.events.Code.{Code}
use Rattle.abt_machine.specs.declared.events.Event.{Event}
use Rattle.abt_machine.specs.declared.events.Site.{Site}
use Rattle.abt_machine.specs.declared.events.What.{What}
use Rattle.abt_machine.specs.declared.events.What.TheVariants as what
use Rattle.abt_machine.specs.declared.operations.Op.{Op}
use Rattle.abt_machine.specs.declared.operations.Op.TheVariants as op
use Rattle.abt_machine.specs.Stored.{IsNoCall, Returns, Stored}
use Rattle.abt_machine.specs.declared.workload.Parts.{Parts}
use Rattle.abt_machine.specs.Acts.{Act, Answer}
use Rattle.abt_machine.specs.Events.{May}
use Rattle.abt_machine.specs.Events as events
use Rattle.abt_machine.specs.Gives.{SiteGives}
use Rattle.abt_machine.specs.Lines.{InHand, InNext, InTray, Line, hand, standing}
use Rattle.abt_machine.specs.Next.{RoundDue, StepDue, due}
use Rattle.abt_machine.specs.Numbers.{stream_no}
use Rattle.abt_machine.specs.Plans.{Calls, Does, Effect, Exits, Plan, plan_of}
use Rattle.abt_machine.specs.Queues.{first}
use Rattle.abt_machine.specs.Rounds.{IsNextPool, OrdersStored}
use Rattle.abt_machine.specs.Sound.{Sound}
use Rattle.abt_machine.specs.State.{Carried, State}
use Rattle.abt_machine.specs.Turns.{Heard, Performs, Steps, due_of}
use Rattle.abt_machine.specs.Valid.{IsValid}
use Rattle.abt_machine.specs.Values.{Held, NotHere, Object, Owned, object_of, owned_in, part_of}
use Rattle.abt_machine.specs.Workloads.{op_at}
use Rattle.abt_machine.proofs.Declared.{op-declared}
use Rattle.abt_bounds.specs.Laws.{returned, visited}
use Rattle.abt_bounds.proofs.Choosing.{one-at-each-pool}
use Rattle.abt_calls.specs.Asking.{IsSite}
use Rattle.abt_laws.proofs.DueParts.{due-same}
use Rattle.abt_laws.proofs.Options.{none≢some, some-injective}
use Rattle.abt_laws.proofs.SoundRuns.{events-keep-sound}
use Rattle.abt_laws.proofs.Standing.{StandsIn, first-stands}
use Rattle.abt_replay.specs.Events.{CannotCall, Heeds, MakesEvent, ReturnsSaid}
use Rattle.abt_replay.specs.Objects.{HasPlaces, ObjectsValue, object_at, same_place}
use Rattle.abt_calls.proofs.Asked.{may-ask}
use Rattle.abt_simulation.specs.Simulation.{CalledAnswers, IsEventFrom, site_heard}
use Rattle.abt_simulation.proofs.CalledSites.{steps-site}
use Rattle.abt_simulation.proofs.Events.{simulation}
use Rattle.abt_simulation.proofs.OwnedLines.{Head, head-of}
use Rattle.abt_model.specs.Hints.{IsHint, IsMade}
use Rattle.abt_model.specs.Models.{MayBeDone, HasBegun, IsAfter, IsDone, ModelValue, StandsFor}
use Rattle.abt_model.specs.Turns.{CanMove, CannotVisit, IsOfWorkload, MovesAs}
use Rattle.abt_model.proofs.Moving.{next-declared, some-of}
use Rattle.abt_model.proofs.Numbered.{numbered-at, numbered-set}
use Rattle.abt_model.proofs.Rounding.{begun, steps-begun}
use Rattle.abt_model.proofs.Sites.{one-place, own-place}

-- Units.

-- the first unit of a line is the workload's
stands-of : (W : Parts) (Z : Stored) (S : State) (l : Line) (o : Owned) → Sound W Z S → first (owned_in W S l) ≡ Some o → IsOfWorkload W o
stands-of W Z S l o sound e =
    let head : Head S (standing W S l) o = head-of S (standing W S l) o e in
    let at : StandsIn W S l o.number = first-stands W S l o.number head.is in
    record { number = at.declared; home = subst (λ (o : Owned). o.carried.home < length W.pools) head.owns (sound.homes o.number) }

if-some : (W : Parts) (x : Option Owned) → ((o : Owned) → x ≡ Some o → IsOfWorkload W o) → IfSome x (IsOfWorkload W)
if-some W None f = tt
if-some W (Some o) f = f o refl

-- the units that a stream may move are the workload's
record HasUnits (W : Parts) (held : Held) : Type 0 where
  hand : IfSome held.hand (IsOfWorkload W)
  next : IfSome held.next (IsOfWorkload W)
  tray : IfSome (first held.tray) (IsOfWorkload W)

has-units : (W : Parts) (Z : Stored) (s : ℕ) (S : State) → Sound W Z S → HasUnits W (part_of W S s)
has-units W Z s S sound = record {
  hand = if-some W (first (owned_in W S (InHand s))) (λ o e. stands-of W Z S (InHand s) o sound e);
  next = if-some W (first (owned_in W S (InNext s))) (λ o e. stands-of W Z S (InNext s) o sound e);
  tray = if-some W (first (owned_in W S (InTray s))) (λ o e. stands-of W Z S (InTray s) o sound e);
}

-- the unit in a stream's hand is the workload's
pub hand-declared : (W : Parts) (Z : Stored) (s : ℕ) (S : State) → Sound W Z S → IfSome (part_of W S s).hand (IsOfWorkload W)
hand-declared W Z s S sound = (has-units W Z s S sound).hand

-- what a stream holds in a state can move
pub can-move : (W : Parts) (Z : Stored) (n s : ℕ) (S : State) → n < 2 ^ 64 - 1 → s < W.streams → IsAfter W Z n S → CanMove W Z.orders (part_of W S s)
can-move W Z n s S few l state =
    let has : HasUnits W (part_of W S s) = has-units W Z s S state.sound in
    let at : (S.stream s).top.round ≤ n = (state.rounds s).0 in
    record { hand = has.hand; next = has.next; tray = has.tray; round = (state.sound.under_way s l).0; counted = omega arith }

-- the stream that the code moves
pub lane-is : (W : Parts) (S : State) (s : ℕ) (model : ModelValue) (lane : Held) → s < W.streams → StandsFor W S model → lane ≡ get_or model.lanes s lane → lane ≡ part_of W S s
lane-is W S s model lane l stands is = is ∙ numbered-at (part_of W S) W.streams s model.lanes lane stands.lanes l

-- Sites.

-- what is heard was called as it is planned
called-by : (old : Held) (plan : Plan) (heard : Option Heard) (c : Code) (new : Held) (x : Site) → Performs old plan heard c new → site_heard heard ≡ Some x
    → (asked : Act) × (brings : Answer → Effect) × (plan ≡ Calls x asked brings)
called-by old (Does e) heard c new x st is = absurd (none≢some (ap site_heard (sym st.0) ∙ is))
called-by old (Exits o) heard c new x st is = absurd (none≢some (ap site_heard (sym st.0) ∙ is))
called-by old (Calls y asked brings) heard c new x st is = (asked, brings, ap (λ z. Calls z asked brings) (some-injective (ap site_heard (sym st.1) ∙ is)))

-- a stream calls declared sites alone
heard-declared : (W : Parts) (Z : Stored) (s : ℕ) (old : Held) (w : What) (heard : Option Heard) (new : Held) (x : Site) → IsValid W → HasUnits W old → Steps W Z s old w heard new → site_heard heard ≡ Some x → IsSite W x
heard-declared W Z s old (what.Miss p) heard new x valid can st is =
    subst (IsSite W) (some-injective (sym (ap site_heard st.2) ∙ is)) (next-declared W Z old.own.top p.0 valid st.1)
heard-declared W Z s old (what.Take p u) heard new x valid can st is =
    subst (IsSite W) (some-injective (sym (ap site_heard st.4) ∙ is)) (next-declared W Z old.own.top p.0 valid st.1)
heard-declared W Z s old (what.Look u) heard new x valid can st is =
    let of : IsOfWorkload W st.1 = some-of W old.next st.1 st.2 can.next in
    subst (IsSite W) (some-injective (sym (ap site_heard st.6) ∙ is)) (subst (λ k. k < length W.units) st.3 of.number)
heard-declared W Z s old (what.Step u k c) heard new x valid can st is =
    let of : IsOfWorkload W st.1 = some-of W old.hand st.1 st.2 can.hand in
    let call = called-by old (plan_of W s st.5 st.1) heard c new x st.7 is in
    (may-ask W s st.5 st.1 x call.0 call.1 valid of.number (op-declared W u.0 k st.5 valid st.6) call.2).site
heard-declared W Z s old (what.Call u k n) heard new x valid can st is = absurd (none≢some (sym (ap site_heard st.6) ∙ is))
heard-declared W Z s old (what.Put u p) heard new x valid can st is =
    let of : IsOfWorkload W st.1 = some-of W (first old.tray) st.1 (ap first st.3) can.tray in
    subst (IsSite W) (some-injective (sym (ap site_heard st.6) ∙ is)) (subst (λ k. k < length W.pools) st.5 of.home)
heard-declared W Z s old (what.End u c) heard new x valid can st is =
    let of : IsOfWorkload W st.1 = some-of W old.hand st.1 st.2 can.hand in
    subst (IsSite W) (some-injective (sym (ap site_heard st.5) ∙ is)) (subst (λ k. k < length W.units) st.3 of.number)
heard-declared W Z s old (what.Enter u) heard new x valid can st is = absurd (none≢some (sym (ap site_heard st.4) ∙ is))
heard-declared W Z s old (what.Leave u) heard new x valid can st is = absurd (none≢some (sym (ap site_heard st.5) ∙ is))

-- Events.

-- the object that was called, as it is afterwards
abbrev called : Option Heard → ObjectsValue → Object
called None after = NotHere
called (Some h) after = object_at after h.0

module _ (W : Parts) (Z : Stored) (n s : ℕ) (S : State) (model : ModelValue) (valid : IsValid W) (stored : OrdersStored W Z.orders) (l : s < W.streams) (state : IsAfter W Z n S) (stands : StandsFor W S model) where
  answers-by : (heard : Option Heard) (after : ObjectsValue) → ((x : Site) → site_heard heard ≡ Some x → IsSite W x) → Heeds model.objects heard after → CalledAnswers W S heard (called heard after)
  answers-by None after declared heeds = tt
  answers-by (Some h) after declared heeds = subst (λ (q : Object). SiteGives q h.1 h.2 (object_at after h.0)) (stands.objects h.0 (declared h.0 refl)) heeds.gives

  -- the objects after the call are those of the state after the event
  same-place-by : (h : Heard) (after : ObjectsValue) (e : Event) (new : Held) (T : State) (x : Site) (b : Bool) → same_place h.0 x ≡ b → IsSite W h.0 → IsSite W x → Heeds model.objects (Some h) after
      → IsEventFrom W Z S e (Some h) new (object_at after h.0) T → object_at after x ≡ object_of W T x
  same-place-by h after e new T x true is there here heeds event =
      let same : h.0 ≡ x = one-place W h.0 x there here is in subst (λ y. object_at after y ≡ object_of W T y) same (sym event.called)
  same-place-by h after e new T x false is there here heeds event =
      let differ : Some h.0 ≢ Some x = λ same. let one : same_place h.0 x ≡ true = subst (λ y. same_place h.0 y ≡ true) (some-injective same) (own-place h.0) in cc in
      heeds.others x is ∙ (stands.objects x here ∙ sym (event.other_objects x differ))

  objects-by : (heard : Option Heard) (after : ObjectsValue) (e : Event) (new : Held) (T : State) → ((x : Site) → site_heard heard ≡ Some x → IsSite W x) → Heeds model.objects heard after
      → IsEventFrom W Z S e heard new (called heard after) T → (x : Site) → IsSite W x → object_at after x ≡ object_of W T x
  objects-by None after e new T declared heeds event x here = ap (λ (o : ObjectsValue). object_at o x) heeds ∙ (stands.objects x here ∙ sym (event.other_objects x (λ same. none≢some same)))
  objects-by (Some h) after e new T declared heeds event x here = same-place-by h after e new T x (same_place h.0 x) refl (declared h.0 refl) here heeds event

  -- the call leaves each place there
  places-by : (heard : Option Heard) (after : ObjectsValue) → Heeds model.objects heard after → HasPlaces W after
  places-by None after heeds = subst (HasPlaces W) (sym heeds) stands.places
  places-by (Some h) after heeds = record {
    pools = heeds.many.pools ∙ stands.places.pools;
    desks = heeds.many.desks ∙ stands.places.desks;
    slots = heeds.many.slots ∙ stands.places.slots;
  }

  rounds-by : (r : ℕ) (T : State) (new : Held) → part_of W T s ≡ new → HasBegun (suc n) new.own → ((q : ℕ) → q ≢ s → part_of W T q ≡ part_of W S q) → HasBegun (suc n) (T.stream r)
  rounds-by r T new own here others =
      let same : (q : ℕ) → q ≡ s → HasBegun (suc n) (T.stream q) = λ q e. subst (λ k. HasBegun (suc n) (T.stream k)) (sym e) (subst (λ (held : Held). HasBegun (suc n) held.own) (sym own) here) in
      let differ : (q : ℕ) → q ≢ s → HasBegun (suc n) (T.stream q) = λ q d. subst (λ (held : Held). HasBegun (suc n) held.own) (sym (others q d)) (begun n (S.stream q) (state.rounds q)) in
      elim (cases_lt r s) [
        | inl a ↦ differ r (λ e. omega arith)
        | inr a ↦ elim (cases_lt s r) [
          | inl b ↦ differ r (λ e. omega arith)
          | inr b ↦ same r (omega arith)
        ]
      ]

  -- a step of the stream is done in the machine
  pub done : (w : What) (new : Held) (after : ObjectsValue) → MakesEvent W Z s (part_of W S s) model.objects w new after → IsDone W Z n S s w (record { lanes = slice_set model.lanes s new; objects = after })
  done w new after (heard, steps, heeds) =
      let e : Event = record { stamp = 0; stream = stream_no s; what = w } in
      let declared : (x : Site) → site_heard heard ≡ Some x → IsSite W x = λ x is. heard-declared W Z s (part_of W S s) w heard new x valid (has-units W Z s S state.sound) steps is in
      let T : State = events.after W S s w in
      let event : IsEventFrom W Z S e heard new (called heard after) T = simulation W Z valid stored S e heard new (called heard after) state.sound l steps (answers-by heard after declared heeds) in
      record {
        may = event.comes.1;
        state = record {
          sound = events-keep-sound W Z valid stored S T e state.sound event.comes;
          rounds = λ r. rounds-by r T new event.own (steps-begun W Z n s (part_of W S s) w heard new steps (state.rounds s)) event.other_parts;
        };
        stands = record {
          lanes = numbered-set (part_of W S) W.streams s model.lanes new (part_of W T) stands.lanes l (sym event.own) event.other_parts;
          objects = objects-by heard after e new T declared heeds event;
          places = places-by heard after heeds;
        };
        site = λ x is. declared x (steps-site W Z s (part_of W S s) w heard new steps ∙ is);
      }

  -- What can't come.

  visits-due : (v : What) (p : ℕ) → May W Z S s v → visited v ≡ Some p → due W S s ≡ RoundDue
  visits-due (what.Miss q) p may e = may.0
  visits-due (what.Take q u) p may e = may.0
  visits-due (what.Look u) p may e = absurd (none≢some e)
  visits-due (what.Step u k c) p may e = absurd (none≢some e)
  visits-due (what.Call u k m) p may e = absurd (none≢some e)
  visits-due (what.Put u q) p may e = absurd (none≢some e)
  visits-due (what.End u c) p may e = absurd (none≢some e)
  visits-due (what.Enter u) p may e = absurd (none≢some e)
  visits-due (what.Leave u) p may e = absurd (none≢some e)

  -- if a round is due, and none of its next pools is visited
  none-may : (named : What) → due_of W s (part_of W S s) ≡ RoundDue → ((p : ℕ) → visited named ≡ Some p → IsNextPool W Z.orders (S.stream s).top p → ⊥) → May W Z S s named → ⊥
  none-may (what.Miss q) round none may = none q.0 refl may.2
  none-may (what.Take q u) round none may = none q.0 refl may.2
  none-may (what.Look u) round none may = let other = sym may.0 ∙ (due-same W S s ∙ round) in cc
  none-may (what.Step u k c) round none may = let other = sym may.0 ∙ (due-same W S s ∙ round) in cc
  none-may (what.Call u k m) round none may = let other = sym may.0 ∙ (due-same W S s ∙ round) in cc
  none-may (what.Put u q) round none may = let other = sym may.0 ∙ (due-same W S s ∙ round) in cc
  none-may (what.End u c) round none may = let other = sym may.0 ∙ (due-same W S s ∙ round) in cc
  none-may (what.Enter u) round none may = let other = sym may.0 ∙ (due-same W S s ∙ round) in cc
  none-may (what.Leave u) round none may = let other = sym may.0 ∙ (due-same W S s ∙ round) in cc

  -- two visits are of one pool if a round is due, and else there is none
  same-visit : (D : Type 0) (a b : Option ℕ) → ((p : ℕ) → a ≡ Some p → D) → ((p : ℕ) → b ≡ Some p → D) → (D → a ≡ b) → a ≡ b
  same-visit D None None f g r = refl
  same-visit D None (Some q) f g r = r (g q refl)
  same-visit D (Some p) b f g r = r (f p refl)

  -- the unit in hand is to call
  record IsCalling : Type 0 where
    unit : ℕ
    due : due W S s ≡ StepDue
    hand : hand W S s ≡ Some unit
    calls : IsNoCall (op_at W unit (S.carried unit).position) → ⊥

  no-call-returns : (o : Option Op) (u m : ℕ) (c : Carried) → Returns Z o u c m → IsNoCall o → ⊥
  no-call-returns (Some (op.Call f)) u m c h own = own
  no-call-returns o u m c h own = h

  -- it is, if a call may come
  is-calling : (v : What) (m : ℕ) → returned v ≡ Some m → May W Z S s v → IsCalling
  is-calling (what.Call u k r) m e may = record {
    unit = u.0;
    due = may.0;
    hand = may.1;
    calls = λ own. no-call-returns (op_at W u.0 k) u.0 r (S.carried u.0) may.3 (subst (λ n. IsNoCall (op_at W u.0 n)) may.2 own);
  }
  is-calling v m e may = absurd (none≢some e)

  -- and then nothing else may
  calling-alone : (w : What) → returned w ≡ None → May W Z S s w → IsCalling → ⊥
  calling-alone (what.Step u k c) e may is =
      let same : u.0 ≡ is.unit = some-injective (sym may.1 ∙ is.hand) in is.calls (subst (λ v. IsNoCall (op_at W v (S.carried v).position)) same (subst (λ n. IsNoCall (op_at W u.0 n)) (sym may.2) may.4))
  calling-alone (what.Call u k m) e may is = absurd (none≢some (sym e))
  calling-alone (what.Miss p) e may is = let other = sym may.0 ∙ is.due in cc
  calling-alone (what.Take p u) e may is = let other = sym may.0 ∙ is.due in cc
  calling-alone (what.Look u) e may is = let other = sym may.0 ∙ is.due in cc
  calling-alone (what.Put u p) e may is = let other = sym may.0 ∙ is.due in cc
  calling-alone (what.End u c) e may is = let other = sym may.0 ∙ is.due in cc
  calling-alone (what.Enter u) e may is = let other = sym may.0 ∙ is.due in cc
  calling-alone (what.Leave u) e may is = let other = sym may.0 ∙ is.due in cc

  said-of : (said : Option ℕ) (made : What) (m : ℕ) → ReturnsSaid said made → returned made ≡ Some m → said ≡ Some m
  said-of said (what.Call u k r) m says e = says ∙ e
  said-of said made m says e = absurd (none≢some e)

  -- the event that was made and the named one return the same
  same-return-by : (made named : What) (a b : Option ℕ) → returned made ≡ a → returned named ≡ b → ReturnsSaid (returned named) made → May W Z S s made → May W Z S s named → a ≡ b
  same-return-by made named (Some m) b is also says may other = sym (said-of (returned named) made m says is) ∙ also
  same-return-by made named None None is also says may other = refl
  same-return-by made named None (Some m) is also says may other = absurd (calling-alone made is may (is-calling named m also other))

  -- the event that was made is the only one that may come there
  only-may : (made named : What) (new : Held) (after : ObjectsValue) → MovesAs W Z s (part_of W S s) model.objects named (Some made) new after → May W Z S s named → made ≡ named
  only-may made named new after moves may =
      let made_may : May W Z S s made = (done made new after moves.0).may in
      one-at-each-pool W Z S s made named state.sound made_may may
      (same-visit (due W S s ≡ RoundDue) (visited made) (visited named) (λ p e. visits-due made p made_may e) (λ p e. visits-due named p may e) (λ d. moves.1 (sym (due-same W S s) ∙ d)))
      (same-return-by made named (returned made) (returned named) refl refl moves.2 made_may may)

  -- a unit that is to call and may not return what is named
  no-call-may : (named : What) (o : Owned) → CannotCall W Z s o (part_of W S s) (returned named) → May W Z S s named → ⊥
  no-call-may named o cannot may =
      let head : Head S (standing W S (InHand s)) o = head-of S (standing W S (InHand s)) o cannot.hand in
      let carries : S.carried o.number ≡ o.carried = ap (λ (b : Owned). b.carried) head.owns in
      let calling : IsCalling = record {
        unit = o.number;
        due = due-same W S s ∙ cannot.due;
        hand = head.is;
        calls = λ own. cannot.calls (subst (λ (c : Carried). IsNoCall (op_at W o.number c.position)) carries own);
      } in by named (returned named) refl may calling cannot.returns head.is carries
    where
      by : (v : What) (said : Option ℕ) → returned v ≡ said → May W Z S s v → IsCalling → ((m : ℕ) → said ≡ Some m → Returns Z (op_at W o.number o.carried.position) o.number o.carried m → ⊥)
          → hand W S s ≡ Some o.number → S.carried o.number ≡ o.carried → ⊥
      by (what.Call u k m) said e m' is none here carries =
          let same : u.0 ≡ o.number = some-injective (sym m'.1 ∙ here) in
          none m (sym e) (subst (λ (c : Carried). Returns Z (op_at W o.number c.position) o.number c m) carries
          (subst (λ v. Returns Z (op_at W v (S.carried v).position) v (S.carried v) m) same (subst (λ n. Returns Z (op_at W u.0 n) u.0 (S.carried u.0) m) (sym m'.2) m'.3)))
      by v said e m' is none here carries = calling-alone v refl m' is

  refuses : (made : Option What) (named : What) (new : Held) (after : ObjectsValue) → MovesAs W Z s (part_of W S s) model.objects named made new after → (made ≡ Some named → ⊥) → May W Z S s named → ⊥
  refuses None named new after (inl visits) other may = none-may named visits.0 visits.1 may
  refuses None named new after (inr calls) other may = no-call-may named calls.0 calls.1 may
  refuses (Some made) named new after moves other may = other (ap (λ (w : What). Some w) (only-may made named new after moves may))

  -- what cannot come with one hint cannot with another that tells the same
  none-told : (hint w : What) → IsHint hint w → CannotVisit W Z s (part_of W S s) hint ⊎ ((o : Owned) × CannotCall W Z s o (part_of W S s) (returned hint))
      → CannotVisit W Z s (part_of W S s) w ⊎ ((o : Owned) × CannotCall W Z s o (part_of W S s) (returned w))
  none-told hint w tells (inl visits) = inl (visits.0, λ p e. visits.1 p (tells.0 ∙ e))
  none-told hint w tells (inr calls) = inr (calls.0, subst (λ said. CannotCall W Z s calls.0 (part_of W S s) said) tells.1 calls.1)

  moves-told : (hint w : What) (made : Option What) (new : Held) (after : ObjectsValue) → IsHint hint w → MovesAs W Z s (part_of W S s) model.objects hint made new after
      → MovesAs W Z s (part_of W S s) model.objects w made new after
  moves-told hint w (Some made) new after tells moves = (moves.0, λ d. moves.1 d ∙ tells.0, subst (λ said. ReturnsSaid said made) tells.1 moves.2)
  moves-told hint w None new after tells moves = none-told hint w tells moves

  -- an event that may come, and that was told, was made
  told-made : (made : Option What) (w : What) (new : Held) (after : ObjectsValue) → MovesAs W Z s (part_of W S s) model.objects w made new after → May W Z S s w → made ≡ Some w
  told-made None w new after moves may = absurd (refuses None w new after moves (λ e. none≢some e) may)
  told-made (Some made) w new after moves may = ap (λ (v : What). Some v) (only-may made w new after moves may)

  made-done : (hint : What) (made : Option What) (new : Held) (after : ObjectsValue) → MovesAs W Z s (part_of W S s) model.objects hint made new after
      → IfSome made (λ w. IsDone W Z n S s w (record { lanes = slice_set model.lanes s new; objects = after }))
  made-done hint None new after moves = tt
  made-done hint (Some made) new after moves = done made new after moves.0

  -- the event that the hint told was made
  pub is-made : (hint : What) (made : Option What) (new : Held) (after : ObjectsValue) → MovesAs W Z s (part_of W S s) model.objects hint made new after
      → IsMade W Z n S s hint made (record { lanes = slice_set model.lanes s new; objects = after })
  is-made hint made new after moves = record { done = made-done hint made new after moves; told = λ w may tells. told-made made w new after (moves-told hint w made new after tells moves) may }

-- whether the named event was made is whether it may come
pub follows-by : (W : Parts) (Z : Stored) (n s : ℕ) (S : State) (made : Option What) (named : What) (b : Bool) (new : ModelValue)
    → (IsTrue b ↔ (made ≡ Some named)) → IsMade W Z n S s named made new → MayBeDone W Z n S s named b new
follows-by W Z n s S made named true new is h = subst (λ m. IfSome m (λ w. IsDone W Z n S s w new)) (is.0 refl) h.done
follows-by W Z n s S made named false new is h = λ may. (let no : IsTrue false = is.1 (h.told named may (refl, refl)) in cc)
