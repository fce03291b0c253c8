-- If an event may come its stream makes a step, with the answer of the object that it then calls.
use Rattle.std.proofs.Common.{subst, ◌≡◌, ℕ, ◌<◌, ◌-◌, List, [], ◌∷◌, ◌++◌, length, map, Option, Some, None, refl, sym, ◌∙◌, ap, arith, inl, inr}
use Rattle.std.proofs.lemmas.List.{map-append}
use Rattle.std.proofs.lemmas.List.Elements.{All-contains}
use Rattle.std.proofs.lemmas.Option.{slice_get_cases}
use Rattle.abt_machine.specs.declared.events.Code.{Code}
use Rattle.abt_machine.specs.declared.events.Code.TheVariants as code
use Rattle.abt_machine.specs.declared.events.Site.{Site}
use Rattle.abt_machine.specs.declared.events.Site.TheVariants as site
use Rattle.abt_machine.specs.declared.events.What.{What}
use Rattle.abt_machine.specs.declared.events.What.TheVariants as what
use Rattle.abt_machine.specs.declared.numbers.PoolNo.{PoolNo}
use Rattle.abt_machine.specs.declared.operations.Op.{Op}
use Rattle.abt_machine.specs.Stored.{Stored, IsNoCall}
use Rattle.abt_machine.specs.declared.workload.Parts.{Parts}
use Rattle.abt_machine.specs.Numbers.{unit_no}
use Rattle.abt_machine.specs.Valid.{IsValid}
use Rattle.abt_machine.specs.Workloads.{body_at, op_at, ops_of, pools_of}
use Rattle.abt_machine.specs.Queues.{first}
use Rattle.abt_machine.specs.Rounds.{IsNextPool}
use Rattle.abt_machine.specs.State.{Frame, State}
use Rattle.abt_machine.specs.Lines.{InFrames, InHand, InNext, InTray, hand, standing, ticket_in}
use Rattle.abt_machine.specs.Next.{RoundDue, StepDue, due}
use Rattle.abt_machine.specs.Events.{May}
use Rattle.abt_machine.specs.Sound.{Sound}
use Rattle.abt_machine.specs.Values.{Held, NotHere, Object, Owned, object_of, owned_at, part_of}
use Rattle.abt_machine.specs.Acts.{Act, Answer, Given, Miss}
use Rattle.abt_machine.specs.Acts as act
use Rattle.abt_machine.specs.Gives.{SiteGives}
use Rattle.abt_machine.specs.Plans.{Calls, Does, Effect, Exits, Plan, plan_of}
use Rattle.abt_machine.specs.Fronts.{side_of}
use Rattle.abt_machine.specs.Turns.{Heard, Performs, Steps, exited, stepped}
use Rattle.abt_machine.proofs.Declared.{listed-declared, op-declared}
use Rattle.abt_laws.proofs.DueParts.{due-same}
use Rattle.abt_laws.proofs.Dues.{due-unit, step-due}
use Rattle.abt_laws.proofs.Lists.{Among}
use Rattle.abt_laws.proofs.Options.{none≢some, some-injective}
use Rattle.abt_laws.proofs.Orders.{next_pool-listed}
use Rattle.abt_laws.proofs.Places.{same-self}
use Rattle.abt_laws.proofs.Standing.{StandsIn, among-standing, first-stands}
use Rattle.abt_simulation.specs.Simulation.{CalledAnswers}
use Rattle.abt_bounds.specs.Laws.{returned, visited}
use Rattle.abt_calls.specs.Allowed.{Allows}
use Rattle.abt_calls.specs.Asking.{MayCall}
use Rattle.abt_calls.proofs.Asked.{may-ask, takes-may-call}
use Rattle.abt_calls.proofs.SiteCalls.{MayAsk}
use Rattle.abt_calls.proofs.Replies.{allowed-is-answered}

-- Lists.

-- the first unit, with what it carries
first-owned : (S : State) (us : List ℕ) (u : ℕ) → first us ≡ Some u → first (map (owned_at S) us) ≡ Some (owned_at S u)
first-owned S [] u is = absurd (none≢some is)
first-owned S (v ∷ us) u is = ap (λ n. Some (owned_at S n)) (some-injective is)

-- a list with a first item
begins : (us : List ℕ) (u : ℕ) → first us ≡ Some u → (rest : List ℕ) × (us ≡ u ∷ rest)
begins [] u is = absurd (none≢some is)
begins (v ∷ us) u is = (us, ap (λ n. n ∷ us) (some-injective is))

-- a list with an item has a last one
has-last : (u : ℕ) (us : List ℕ) → (before : List ℕ) × (v : ℕ) × (u ∷ us ≡ before ++ v ∷ [])
has-last u [] = ([], u, refl)
has-last u (w ∷ us) = let is : (before : List ℕ) × (v : ℕ) × (w ∷ us ≡ before ++ v ∷ []) = has-last w us in (u ∷ is.0, is.1, ap (λ vs. u ∷ vs) is.2)

last-of : (us : List ℕ) (u : ℕ) → Among u us → (before : List ℕ) × (v : ℕ) × (us ≡ before ++ v ∷ [])
last-of [] u among = absurd among
last-of (w ∷ us) u among = has-last w us

-- What a stream does.

-- if event w may come, stream s makes this step of its part, with this answer of the object that it calls; in a round at the same pool
pub record Turn (W : Parts) (Z : Stored) (S : State) (s : ℕ) (w : What) : Type 0 where
  pub does : What
  pub heard : Option Heard
  pub part : Held
  pub object : Object
  pub steps : Steps W Z s (part_of W S s) does heard part
  pub answers : CalledAnswers W S heard object
  pub at_pool : visited does ≡ visited w
  pub said : returned does ≡ returned w

-- a stream performs a plan
record Performed (W : Parts) (S : State) (s : ℕ) (plan : Plan) : Type 0 where
  pub heard : Option Heard
  pub code : Code
  pub part : Held
  pub object : Object
  pub performs : Performs (part_of W S s) plan heard code part
  pub answers : CalledAnswers W S heard object

module _ (W : Parts) (Z : Stored) (S : State) (s : ℕ) where
  -- of a pool that is asked for a unit, by its answer
  at-pool : (w : What) (p : PoolNo) → visited w ≡ Some p.0 → returned w ≡ None → due W S s ≡ RoundDue → IsNextPool W Z.orders (S.stream s).top p.0 → (answer : Answer) (object : Object) → SiteGives
      (object_of W S (site.Pool p)) (act.Take (side_of W s p.0)) answer object → Turn W Z S s w
  at-pool w p at none is order (Given o) object gives = record {
    does = what.Take p (unit_no o.number);
    heard = Some (site.Pool p, act.Take (side_of W s p.0), Given o);
    part = _;
    object = object;
    steps = (sym (due-same W S s) ∙ is, order, o, refl, refl, refl);
    answers = gives;
    at_pool = sym at;
    said = sym none;
  }
  at-pool w p at none is order Miss object gives = record {
    does = what.Miss p;
    heard = Some (site.Pool p, act.Take (side_of W s p.0), Miss);
    part = _;
    object = object;
    steps = (sym (due-same W S s) ∙ is, order, refl, refl);
    answers = gives;
    at_pool = sym at;
    said = sym none;
  }
  at-pool w p at none is order _ object gives = absurd gives.2

  performed : (plan : Plan) → ((x : Site) (asked : Act) (brings : Answer → Effect) → plan ≡ Calls x asked brings → Allows (object_of W S x) asked) → Performed W S s plan
  performed (Does e) allowed = record {
    heard = None;
    code = e.code;
    part = stepped (part_of W S s) e;
    object = NotHere;
    performs = (refl, refl, refl);
    answers = tt;
  }
  performed (Calls x asked brings) allowed =
      let is : (answer : Answer) × (new : Object) × SiteGives (object_of W S x) asked answer new = allowed-is-answered (object_of W S x) asked (allowed x asked brings refl) in
      record {
        heard = Some (x, asked, is.0);
        code = (brings is.0).code;
        part = stepped (part_of W S s) (brings is.0);
        object = is.1;
        performs = (is.0, refl, refl, refl);
        answers = is.2;
      }
  performed (Exits b) allowed = record {
    heard = None;
    code = code.Ok;
    part = exited (part_of W S s) b;
    object = NotHere;
    performs = (refl, refl, refl);
    answers = tt;
  }

  module _ (valid : IsValid W) (sound : Sound W Z S) where
    -- a round goes on at pool p
    round : (w : What) (p : PoolNo) → visited w ≡ Some p.0 → returned w ≡ None → due W S s ≡ RoundDue → IsNextPool W Z.orders (S.stream s).top p.0 → Turn W Z S s w
    round w p at none is order =
        let f : Frame = (S.stream s).top in
        let declared : p.0 < length W.pools = All-contains (λ q. q < length W.pools) (pools_of W f.sched) p.0 (listed-declared W f.sched valid) (next_pool-listed W Z f p.0 order) in
        let may : MayCall W (site.Pool p) (act.Take (side_of W s p.0)) = takes-may-call W s p declared in
        let answered : (answer : Answer) × (new : Object) × SiteGives (object_of W S (site.Pool p)) (act.Take (side_of W s p.0)) answer new = allowed-is-answered (object_of W S (site.Pool p)) (act.Take (side_of W s p.0)) (may.allowed S) in
        at-pool w p at none is order answered.0 answered.1 answered.2

    -- a unit has an operation left if a step is due
    has-op : (u : ℕ) → due W S s ≡ StepDue → hand W S s ≡ Some u → (a : Op) × (op_at W u (S.carried u).position ≡ Some a)
    has-op u is hands =
        let ops : List Op = ops_of (body_at W u) in
        let left : (S.carried u).position < length ops = (step-due W s (S.stream s).mark (body_at W u) (S.carried u).position (due-unit W S s StepDue u is tt hands)).1 in
        elim ((slice_get_cases ops (S.carried u).position).1) [
          | inl found ↦ (found.0, found.2)
          | inr past ↦ absurd (omega (arith, left, past.0))
        ]

    -- by the event
    pub turn : (w : What) → May W Z S s w → Turn W Z S s w
    turn (what.Miss p) may = round (what.Miss p) p refl refl may.0 may.2
    turn (what.Take p u) may = round (what.Take p u) p refl refl may.0 may.2
    turn (what.Look u) may = record {
      does = what.Look u;
      heard = _;
      part = _;
      object = _;
      steps = (sym (due-same W S s) ∙ may.0, owned_at S u.0, first-owned S (standing W S (InNext s)) u.0 may.1, refl, (S.desk u.0).cancel, (S.desk u.0).migrate, refl, refl);
      answers = (_, refl, (refl, refl, refl));
      at_pool = refl;
      said = refl;
    }
    turn (what.Step u k c) may =
        let has : (a : Op) × (op_at W u.0 (S.carried u.0).position ≡ Some a) = has-op u.0 may.0 may.1 in
        let is : op_at W u.0 k ≡ Some has.0 = ap (op_at W u.0) (sym may.2) ∙ has.1 in
        let stands : StandsIn W S (InHand s) u.0 = first-stands W S (InHand s) u.0 may.1 in
        let done : Performed W S s (plan_of W s has.0 (owned_at S u.0)) =
        performed (plan_of W s has.0 (owned_at S u.0)) (λ x asked brings planned. (let ask : MayAsk W x asked = may-ask W s has.0 (owned_at S u.0) x asked brings valid stands.declared (op-declared W u.0 k has.0 valid is) planned in ask.allowed S)) in
        record {
          does = what.Step u k done.code;
          heard = done.heard;
          part = done.part;
          object = done.object;
          steps = (sym (due-same W S s) ∙ may.0, owned_at S u.0, first-owned S (standing W S (InHand s)) u.0 may.1, refl, may.2, has.0, is, done.performs, subst IsNoCall is may.4);
          answers = done.answers;
          at_pool = refl;
          said = refl;
        }
    turn (what.Call u k n) may = record {
      does = what.Call u k n;
      heard = None;
      part = _;
      object = NotHere;
      steps = (sym (due-same W S s) ∙ may.0, owned_at S u.0, first-owned S (standing W S (InHand s)) u.0 may.1, refl, may.2, may.3, refl, refl);
      answers = tt;
      at_pool = refl;
      said = refl;
    }
    turn (what.Put u p) may =
        let tray : (rest : List ℕ) × (standing W S (InTray s) ≡ u.0 ∷ rest) = begins (standing W S (InTray s)) u.0 may.1 in
        record {
          does = what.Put u p;
          heard = Some (site.Pool p, act.Put (owned_at S u.0), act.Rested);
          part = _;
          object = _;
          steps = (sym (due-same W S s) ∙ may.0, owned_at S u.0, map (owned_at S) tray.0, ap (map (owned_at S)) tray.1, refl, may.2, refl, refl);
          answers = (_, refl, refl);
          at_pool = refl;
          said = refl;
        }
    turn (what.End u c) may = record {
      does = what.End u c;
      heard = _;
      part = _;
      object = _;
      steps = (sym (due-same W S s) ∙ may.0, owned_at S u.0, first-owned S (standing W S (InHand s)) u.0 may.1, refl, _, refl, refl);
      answers = (_, refl, (refl, refl));
      at_pool = refl;
      said = refl;
    }
    turn (what.Enter u) may = record {
      does = what.Enter u;
      heard = None;
      part = _;
      object = NotHere;
      steps = (sym (due-same W S s) ∙ may.0, owned_at S u.0, first-owned S (standing W S (InHand s)) u.0 may.1, refl, refl, refl);
      answers = tt;
      at_pool = refl;
      said = refl;
    }
    turn (what.Leave u) may =
        let d : ℕ = length (S.stream s).below - 1 in
        let among : Among u.0 (standing W S (InFrames s)) = among-standing W S sound.undeclared (InFrames s) u.0 d (ap (ticket_in (InFrames s)) may.1 ∙ same-self s d) in
        let top : (before : List ℕ) × (v : ℕ) × (standing W S (InFrames s) ≡ before ++ v ∷ []) = last-of (standing W S (InFrames s)) u.0 among in
        let os : List Owned = map (owned_at S) top.0 in
        record {
          does = what.Leave (unit_no top.1);
          heard = None;
          part = _;
          object = NotHere;
          steps = (sym (due-same W S s) ∙ may.0, owned_at S top.1, os, ap (map (owned_at S)) top.2 ∙ map-append (owned_at S) top.0 (top.1 ∷ []), refl, refl, refl);
          answers = tt;
          at_pool = refl;
          said = refl;
        }
