-- What hints tell.
use Rattle.std.proofs.Common.{◌≡◌, ◌≢◌, ◌∙◌, ℕ, ◌+◌, ◌<◌, ◌==◌, ◌%◌, ◌^◌, true, List, [], ◌∷◌, ◌++◌, Contains, Option, None, Some, ap, append_assoc, arith, get_or, inl, inr, length, map, refl, subst, sym, take}
use Rattle.std.specs.List.{list_any}
use Rattle.std.proofs.lemmas.List.{map-append, take_more}
use Rattle.std.proofs.Math.Seq.{take-length}
use Rattle.std.proofs.lemmas.List.Elements.{Contains-append_left, Contains-push, Contains-push_cases}
use Rattle.abt_machine.specs.declared.events.What.{What}
use Rattle.abt_machine.specs.declared.events.What.TheVariants as what
use Rattle.abt_machine.specs.declared.numbers.PoolNo.{PoolNo}
use Rattle.abt_machine.specs.declared.operations.OrderShape.{OrderShape}
use Rattle.abt_machine.specs.declared.operations.Op.TheVariants as op
use Rattle.abt_machine.specs.declared.numbers.UnitNo.{UnitNo}
use Rattle.abt_machine.specs.Stored.{IsNoCall, IsReturned, Returns, Stored}
use Rattle.abt_machine.specs.declared.workload.Parts.{Parts}
use Rattle.abt_machine.specs.Events.{May}
use Rattle.abt_machine.specs.Fronts.{front}
use Rattle.abt_machine.specs.Lines.{InHand, hand, standing}
use Rattle.abt_machine.specs.Next.{Due, RoundDue, StepDue, due}
use Rattle.abt_machine.specs.Numbers.{pool_no, unit_no}
use Rattle.abt_machine.specs.Queues.{first}
use Rattle.abt_machine.specs.Rounds.{IsNextPool, choice_of}
use Rattle.abt_machine.specs.Valid.{IsValid}
use Rattle.abt_machine.specs.Sound.{IsUnderWay, Sound}
use Rattle.abt_machine.specs.State.{Carried, Frame, State}
use Rattle.abt_machine.specs.Turns.{due_of}
use Rattle.abt_machine.specs.Values.{Held, Owned, owned_at, part_of}
use Rattle.abt_machine.specs.Workloads.{op_at, pools_of}
use Rattle.abt_bounds.specs.Laws.{returned, visited}
use Rattle.abt_bounds.proofs.Coming.{some-next}
use Rattle.abt_laws.proofs.DueParts.{due-same}
use Rattle.abt_laws.proofs.Options.{some-injective}
use Rattle.abt_laws.proofs.Orders.{next_pool-listed}
use Rattle.abt_order.specs.Schedulers.{pool_numbers}
use Rattle.abt_simulation.proofs.OwnedLines.{head-of}
use Rattle.abt_replay.specs.Nexts.{NextIs}
use Rattle.abt_replay.specs.declared.rounds.Next.{Next}
use Rattle.abt_replay.specs.declared.rounds.Next.TheVariants as next
use Rattle.abt_model.specs.Choices.{CallsAny, Give}
use Rattle.abt_model.specs.declared.choices.Choices.{Choices}
use Rattle.abt_model.specs.declared.choices.Choices.TheVariants as choices
use Rattle.abt_model.specs.Hints.{AreHints, HasHints, HoldsCall, MayBeTold, Tell, TellUnseen, TellVisits, TellsSome}
use Rattle.abt_model.specs.Stored.{stored_with}
use Rattle.abt_model.proofs.InHand.{returns-call}
use Rattle.abt_model.proofs.Visiting.{any-listed, next-is, next-unseen}

-- Lists of hints.

-- a hint tells what it visits and returns
pub tell-one : (hint : What) → Tell (hint ∷ []) (visited hint) (returned hint)
tell-one hint = (hint, (0, omega arith, refl), refl, refl)

pub tell-more : (hints : List What) (hint : What) (pool word : Option ℕ) → Tell hints pool word → Tell (hints ++ hint ∷ []) pool word
tell-more hints hint pool word tell = (tell.0, Contains-append_left hints (hint ∷ []) tell.0 tell.1, tell.2, tell.3)

pub tell-last : (hints : List What) (hint : What) → Tell (hints ++ hint ∷ []) (visited hint) (returned hint)
tell-last hints hint = (hint, Contains-push hints hint, refl, refl)

-- choices of which less is said
pub give-weaker : (Are Be : List What → Type 0) (Is Js : ℕ → Type 0) → ((hints : List What) → Are hints → Be hints) → ((f : ℕ) → Is f → Js f) → (c : Choices) → Give Are Is c → Give Be Js c
give-weaker Are Be Is Js weaker less (choices.These hints) are = weaker hints.items are
give-weaker Are Be Is Js weaker less (choices.AnyWord f) any = less f any

-- What may come.

-- the first of a line, as the stream holds it
first-owned : (S : State) (us : List ℕ) (u : ℕ) → first us ≡ Some u → first (map (owned_at S) us) ≡ Some (owned_at S u)
first-owned S [] u e = cc
first-owned S (v ∷ us) u e = ap (λ w. Some (owned_at S w)) (some-injective e)

module _ (W : Parts) (Z : Stored) (S : State) (s : ℕ) where
  -- what is due is no round
  no-round : (d : Due) → due W S s ≡ d → (d ≡ RoundDue → ⊥) → due_of W s (part_of W S s) ≢ RoundDue
  no-round d is other e = other (sym is ∙ (due-same W S s ∙ e))

  -- an event other than a visit or a step
  other-told : (d : Due) → due W S s ≡ d → (d ≡ RoundDue → ⊥) → (d ≡ StepDue → ⊥) → MayBeTold W Z s (part_of W S s) None None
  other-told d is round step = (no-round d is round, λ o f h. step (sym is ∙ (due-same W S s ∙ h.1)))

  -- a step
  step-told : (u k : ℕ) → due W S s ≡ StepDue → hand W S s ≡ Some u → (S.carried u).position ≡ k → IsNoCall (op_at W u k) → MayBeTold W Z s (part_of W S s) None None
  step-told u k is holds at own = (
    no-round StepDue is (λ e. cc),
    λ o f h. (
        let same : o ≡ owned_at S u = some-injective (sym h.0 ∙ first-owned S (standing W S (InHand s)) u holds) in
        let call : op_at W u (S.carried u).position ≡ Some (op.Call f) = subst (λ (q : Owned). op_at W q.number q.carried.position ≡ Some (op.Call f)) same h.2 in
        subst IsNoCall (subst (λ j. op_at W u j ≡ Some (op.Call f)) at call) own),
  )

  -- what stream s holds tells each event that may come
  told : (w : What) → May W Z S s w → MayBeTold W Z s (part_of W S s) (visited w) (returned w)
  told (what.Miss p) may = (sym (due-same W S s) ∙ may.0, may.2)
  told (what.Take p u) may = (sym (due-same W S s) ∙ may.0, may.2)
  told (what.Look u) may = other-told _ may.0 (λ e. cc) (λ e. cc)
  told (what.Step u k c) may = step-told u.0 k may.0 may.1 may.2 may.4
  told (what.Call u k n) may = (
    owned_at S u.0,
    sym (due-same W S s) ∙ may.0,
    first-owned S (standing W S (InHand s)) u.0 may.1,
    subst (λ j. Returns Z (op_at W u.0 j) u.0 (S.carried u.0) n) (sym may.2) may.3,
  )
  told (what.Put u p) may = other-told _ may.0 (λ e. cc) (λ e. cc)
  told (what.End u c) may = other-told _ may.0 (λ e. cc) (λ e. cc)
  told (what.Enter u) may = other-told _ may.0 (λ e. cc) (λ e. cc)
  told (what.Leave u) may = other-told _ may.0 (λ e. cc) (λ e. cc)

  -- Events that come.

  -- what the unit in hand carries
  carries : (o : Owned) → (part_of W S s).hand ≡ Some o → S.carried o.number ≡ o.carried
  carries o e = ap (λ (b : Owned). b.carried) (head-of S (standing W S (InHand s)) o e).owns

  -- the one that visits or returns this, if any
  comes : Sound W Z S → s < W.streams → (pool word : Option ℕ) → MayBeTold W Z s (part_of W S s) pool word → (w : What) × May W Z S s w × (visited w ≡ pool) × (returned w ≡ word)
  comes sound declared (Some p) None may = by (front W S s p) refl where
    by : (x : Option ℕ) → front W S s p ≡ x → (w : What) × May W Z S s w × (visited w ≡ Some p) × (returned w ≡ None)
    by None e = (what.Miss (pool_no p), (due-same W S s ∙ may.0, e, may.1), refl, refl)
    by (Some u) e = (what.Take (pool_no p) (unit_no u), (due-same W S s ∙ may.0, e, may.1), refl, refl)
  comes sound declared None (Some n) (o, is, holds, h) = (
    what.Call (unit_no o.number) o.carried.position n,
    (
      due-same W S s ∙ is,
      (head-of S (standing W S (InHand s)) o holds).is,
      ap (λ (c : Carried). c.position) (carries o holds),
      subst (λ (c : Carried). Returns Z (op_at W o.number o.carried.position) o.number c n) (sym (carries o holds)) h,
    ),
    refl,
    refl,
  )
  comes sound declared None None may =
      let is : (w : What) × May W Z S s w = some-next W Z S s sound declared in
      let none = neither (visited is.0) (returned is.0) (told is.0 is.1) in (is.0, is.1, none.0, none.1)
    where
      neither : (pool word : Option ℕ) → MayBeTold W Z s (part_of W S s) pool word → (pool ≡ None) × (word ≡ None)
      neither None None also = (refl, refl)
      neither (Some p) None also = absurd (may.0 also.0)
      neither None (Some n) (o, is, holds, h) = let call = returns-call Z (op_at W o.number o.carried.position) o.number n o.carried h in absurd (may.1 o call.0 (holds, is, call.1))
      neither (Some p) (Some n) also = absurd also
  comes sound declared (Some p) (Some n) may = absurd may

  -- by what the stream holds a hint tells one
  pub tells-some : (held : Held) (hint : What) → held ≡ part_of W S s → Sound W Z S → s < W.streams → MayBeTold W Z s held (visited hint) (returned hint) → TellsSome W Z S s hint
  tells-some held hint is sound declared may =
      let one = comes sound declared (visited hint) (returned hint) (subst (λ (h : Held). MayBeTold W Z s h (visited hint) (returned hint)) is may) in
      (one.0, one.1, (sym one.2, sym one.3))

  -- and the unit in hand may be to call what may return any word
  pub calls-any : (held : Held) (f : ℕ) → held ≡ part_of W S s → (o : Owned) × HoldsCall W s held o f × (Z.returns f o.number o.carried.acc o.carried.keys ≡ None) → CallsAny W Z S s f
  calls-any held f is (o, h, any) =
      let here : HoldsCall W s (part_of W S s) o f = subst (λ (k : Held). HoldsCall W s k o f) is h in
      let own : S.carried o.number ≡ o.carried = carries o here.0 in
      record {
        unit = o.number;
        step = due-same W S s ∙ here.1;
        here = (head-of S (standing W S (InHand s)) o here.0).is;
        call = subst (λ (c : Carried). op_at W o.number c.position ≡ Some (op.Call f)) (sym own) here.2;
        any = subst (λ (c : Carried). Z.returns f o.number c.acc c.keys ≡ None) (sym own) any;
      }

  -- hints by what the stream holds are hints
  pub are-hints : (held : Held) (hints : List What) → held ≡ part_of W S s → AreHints W Z s held hints → HasHints W Z S s hints
  are-hints held hints is tell w may =
      let here : AreHints W Z s (part_of W S s) hints = subst (λ (h : Held). AreHints W Z s h hints) is tell in
      let one : Tell hints (visited w) (returned w) = here (visited w) (returned w) (told w may) in
      (one.0, one.1, (one.2, one.3))

-- a hint of a call
pub call-tells : (r : Option ℕ) (hints : List What) (u : UnitNo) (k value n : ℕ) → hints ≡ what.Call u k value ∷ [] → (m : ℕ) × (r ≡ Some m) × (value ≡ m % 2 ^ 64) → IsReturned r n → Tell hints None (Some n)
call-tells r hints u k value n is (m, e, v) h =
    let same : n ≡ m % 2 ^ 64 = subst (λ x. IsReturned x n) e h in
    subst (λ xs. Tell xs None (Some n)) (sym is) (subst (λ x. Tell (what.Call u k value ∷ []) None (Some x)) (v ∙ sym same) (tell-one (what.Call u k value)))

-- What tells it.

module _ (W : Parts) (Z : Stored) (s : ℕ) (held : Held) (hints : List What) where
  -- visits, if a round is due
  pub visit-hints : due_of W s held ≡ RoundDue → TellVisits W Z.orders held.own.top hints → AreHints W Z s held hints
  visit-hints is tell (Some p) None may = tell p may.1
  visit-hints is tell None (Some n) may = let other : StepDue ≡ RoundDue = sym may.1 ∙ is in cc
  visit-hints is tell None None may = absurd (may.0 is)
  visit-hints is tell (Some p) (Some n) may = absurd may

-- Rounds.

-- a visit of the one pool that may be next
pub one-visits : (W : Parts) (Z : List OrderShape) (f : Frame) (visit : Next) (q : PoolNo) (hints : List What)
    → NextIs (choice_of W Z f.sched f.round) (length f.seen) visit → visit ≡ next.One q → hints ≡ what.Miss q ∷ [] → TellVisits W Z f hints
one-visits W Z f visit q hints is e one p may =
    let found : NextIs (choice_of W Z f.sched f.round) (length f.seen) (next.One q) = subst (NextIs (choice_of W Z f.sched f.round) (length f.seen)) e is in
    let same : q.0 ≡ p = next-is W Z f found.0 p q.0 found.1 found.2 may in
    subst (λ hints. Tell hints (Some p) None) (sym one) (subst (λ n. Tell (what.Miss q ∷ []) (Some n) None) same (tell-one (what.Miss q)))

-- visits of all pools that were not seen
pub any-visits : (W : Parts) (Z : List OrderShape) (f : Frame) (pools seen : List PoolNo) (hints : List What)
    → IsValid W → pool_numbers pools ≡ pools_of W f.sched → pool_numbers seen ≡ f.seen → TellUnseen pools seen hints → TellVisits W Z f hints
any-visits W Z f pools seen hints valid listed before tell p may =
    tell p (subst (λ xs. Contains xs p) (sym listed) (next_pool-listed W (stored_with Z (λ f u acc keys. None)) f p may))
    (λ has. next-unseen W Z f p valid may (subst (λ xs. Contains xs p) before has))

-- no pool
pub none-unseen : (pools seen : List PoolNo) (hints : List What) → TellUnseen (take 0 pools) seen hints
none-unseen pools seen hints p (k, l, is) = absurd (omega arith)

-- one pool more
module _ (pools seen : List PoolNo) (hints : List What) (at : ℕ) (d : PoolNo) (within : at < length pools) (before : TellUnseen (take at pools) seen hints) where
  abbrev here : ℕ
  here = (get_or pools at d).0

  split : pool_numbers (take (at + 1) pools) ≡ pool_numbers (take at pools) ++ here ∷ []
  split = ap pool_numbers (take_more pools at d within) ∙ map-append (λ (p : PoolNo). p.0) (take at pools) (get_or pools at d ∷ [])

  by-cases : (more : List What) → ((p : ℕ) → Tell hints (Some p) None → Tell more (Some p) None)
      → ((Contains (pool_numbers seen) here → ⊥) → Tell more (Some here) None) → TellUnseen (take (at + 1) pools) seen more
  by-cases more keeps last p has other = elim (Contains-push_cases (pool_numbers (take at pools)) here p (subst (λ xs. Contains xs p) split has)) [
    | inl old ↦ keeps p (before p old other)
    | inr same ↦ subst (λ n. Tell more (Some n) None) same (last (subst (λ n. Contains (pool_numbers seen) n → ⊥) (sym same) other))
  ]

  -- which was seen
  pub seen-more : (more : List What) → more ≡ hints → list_any (λ (q : PoolNo). q.0 == here) seen ≡ true → TellUnseen (take (at + 1) pools) seen more
  seen-more more same on = by-cases more (λ p tell. subst (λ xs. Tell xs (Some p) None) (sym same) tell) (λ other. absurd (other (any-listed seen here on)))

  -- which was not
  pub unseen-more : (more : List What) → more ≡ hints ++ what.Miss (get_or pools at d) ∷ [] → TellUnseen (take (at + 1) pools) seen more
  unseen-more more pushed = by-cases more (λ p tell. subst (λ xs. Tell xs (Some p) None) (sym pushed) (tell-more hints (what.Miss (get_or pools at d)) (Some p) None tell))
      (λ other. subst (λ xs. Tell xs (Some here) None) (sym pushed) (tell-last hints (what.Miss (get_or pools at d))))

-- all pools
pub all-unseen : (pools seen : List PoolNo) (hints : List What) (at : ℕ) → length pools ≡ at → TellUnseen (take at pools) seen hints → TellUnseen pools seen hints
all-unseen pools seen hints at all tell = subst (λ xs. TellUnseen xs seen hints) (ap (λ n. take n pools) (sym all) ∙ take-length pools) tell

-- Pools among which none may be next.

module _ (P : ℕ → Type 0) (pools : List PoolNo) where
  pub first-none : (p : ℕ) → Contains (pool_numbers (take 0 pools)) p → P p → ⊥
  first-none p (k, l, is) h = absurd (omega arith)

  -- one pool more
  pub first-more : (at : ℕ) (d : PoolNo) → at < length pools → ((p : ℕ) → Contains (pool_numbers (take at pools)) p → P p → ⊥) → (P (get_or pools at d).0 → ⊥)
      → (p : ℕ) → Contains (pool_numbers (take (at + 1) pools)) p → P p → ⊥
  first-more at d within before other p has h =
      let split : pool_numbers (take (at + 1) pools) ≡ pool_numbers (take at pools) ++ (get_or pools at d).0 ∷ [] =
      ap pool_numbers (take_more pools at d within) ∙ map-append (λ (p : PoolNo). p.0) (take at pools) (get_or pools at d ∷ []) in
      elim (Contains-push_cases (pool_numbers (take at pools)) (get_or pools at d).0 p (subst (λ xs. Contains xs p) split has)) [
        | inl old ↦ before p old h
        | inr same ↦ other (subst P (sym same) h)
      ]

  -- all pools
  pub first-all : (at : ℕ) → length pools ≡ at → ((p : ℕ) → Contains (pool_numbers (take at pools)) p → P p → ⊥) → (p : ℕ) → Contains (pool_numbers pools) p → P p → ⊥
  first-all at all none p has = none p (subst (λ xs. Contains (pool_numbers xs) p) (sym (ap (λ n. take n pools) (sym all) ∙ take-length pools)) has)

-- one of the pools that the scheduler lists may be next
pub some-listed : (W : Parts) (Z : List OrderShape) (f : Frame) (pools : List PoolNo) → pool_numbers pools ≡ pools_of W f.sched → IsUnderWay W Z f → ((p : ℕ) → Contains (pool_numbers pools) p → IsNextPool W Z f p → ⊥) → ⊥
some-listed W Z f pools listed (order, is, p, rest, all) none =
    let next : IsNextPool W Z f p = (order, is, (rest, append_assoc f.seen (p ∷ []) rest ∙ all)) in
    none p (subst (λ xs. Contains xs p) (sym listed) (next_pool-listed W (stored_with Z (λ f u acc keys. None)) f p next)) next
