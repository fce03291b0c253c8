-- All that is kept, at the beginning and after one more operation.
use Rattle.std.proofs.Common.{Vec, ◌≡◌, ℕ, suc, ◌+◌, ◌<◌, ◌≤◌, false, List, [], ◌∷◌, ◌++◌, length, Option, None, Some, replicate, set, get_or, length-set, sym, ◌∙◌, ap, subst, arith, ◌⊎◌, inl, inr}
use Rattle.std.specs.declared.alloc.Global.{Global}
use Rattle.std.specs.Prelude.{Contains, MatchOption, option_to_list, slice_index_or}
use Rattle.std.specs.Vec.{vec_len, with_item}
use Rattle.std.proofs.lemmas.List.{length-replicate}
use Rattle.std.proofs.lemmas.List.Elements.{Contains-append_left, Contains-push, Contains-push_cases}
use Rattle.std.proofs.lemmas.Option.{slice_get-get_or}
use Rattle.abt_machine.specs.declared.numbers.UnitNo.{UnitNo}
use Rattle.abt_machine.specs.declared.workload.Parts.{Parts}
use Rattle.abt_machine.specs.Numbers.{unit_no}
use Rattle.abt_flow.specs.Finishing.{op_count}
use Rattle.abt_orderly.specs.declared.passing.Passing.{Passing}
use Rattle.abt_orderly.specs.declared.scanning.Standing.{Standing}
use Rattle.abt_orderly.specs.declared.scanning.Standing.TheVariants as standing
use Rattle.abt_orderly.specs.Needs.{needs_in}
use Rattle.abt_orderly.specs.Passing.{AllPass, AllRest, AreLists, AreMet, AreStanding, AreUnits, Creates, Halts, HasOrder, IsBorn, IsDone, Looks, MayPass, Meets, Passes, Takes, Wait, done_at, listed_in, one_more, points_done, points_in, work_left}
use Rattle.abt_orderly.specs.Scanning.{HasUnits, HasWaitedAll}
use Rattle.abt_orderly.proofs.Entries.{all-same, none-marked, read-is}
use Rattle.abt_orderly.proofs.Looking.{seen-done, units-more, within-more}
use Rattle.abt_orderly.proofs.Ordering.{order-more}
use Rattle.abt_orderly.proofs.Standing.{stands-born}
use Rattle.abt_orderly.proofs.Work.{one-counted, one-longer, points-within}

-- At the beginning.

none-done : (n u k : ℕ) → IsDone (replicate n 0) u k → ⊥
none-done n u k d = let e : done_at (replicate n 0) u ≡ 0 = all-same n u 0 in absurd (omega arith)

none-ordered : (W : Parts) (n : ℕ) → HasOrder W (replicate n 0)
none-ordered W n = (
  λ u k. 0,
  0,
  record {
    past = λ u k d. absurd (none-done n u k d);
    rises = λ u k d. absurd (none-done n u (suc k) d);
    creates = λ u k t is d. absurd (none-done n t 0 d);
    needs = λ u k i is d. absurd (none-done n u k d);
  },
)

none-met : (W : Parts) → AreMet W (replicate (length W.units) 0) (replicate (needs_in W) false)
none-met W = record {
  all = length-replicate (needs_in W) false;
  only = λ i m. absurd (none-marked (needs_in W) i m);
  every = λ i h. absurd (none-done (length W.units) h.0 h.1 h.4);
}

pub begins : (W : Parts) (p : Passing) → p.done.items ≡ replicate (length W.units) 0 → p.met.items ≡ replicate (needs_in W) false → AreStanding W (replicate (length W.units) 0) p.standing.items →
    HasWaitedAll W p.waiting.items → HasUnits (length W.units) p.ready.items → AllPass W p
begins W p done met standing waits units = record {
  passes = record {
    all = ap length done ∙ length-replicate (length W.units) 0;
    within = λ u. (let e : done_at p.done.items u ≡ 0 = ap (λ ds. done_at ds u) done ∙ all-same (length W.units) u 0 in omega arith);
    order = subst (HasOrder W) (sym done) (none-ordered W (length W.units));
    standing = subst (λ ds. AreStanding W ds p.standing.items) (sym done) standing;
    met = subst (λ ds. AreMet W ds p.met.items) (sym done) (subst (AreMet W (replicate (length W.units) 0)) (sym met) (none-met W));
    lists = waits.lists;
    waits = λ u k i need not. waits.waits u k i need;
    ready = units.only;
  };
  seen = λ v l. inl (units.every v l);
}

-- After one more operation.

module _ (W : Parts) (old mid new : Passing) (u : UnitNo) (declared : u.0 < length W.units) (passes : Passes W old) (may : MayPass W old u.0) (meets : Meets W u.0 old mid)
    (creates : Creates W u.0 mid new) (k : ℕ) (at : k ≡ get_or new.done.items u.0 k) (us : Vec UnitNo Global) (more : us.items ≡ new.ready.items ++ u ∷ []) where
  abbrev done : List ℕ
  done = old.done.items

  abbrev result : Passing
  result = record new { done = with_item new.done u.0 (k + 1); ready = us }

  done-new : new.done.items ≡ done
  done-new = creates.done ∙ meets.done

  below : u.0 < length done
  below = let e = passes.all in omega arith

  below-new : u.0 < length new.done.items
  below-new = subst (λ (ds : List ℕ). u.0 < length ds) (sym done-new) below

  next : done_at done u.0 ≡ k
  next = ap (λ ds. done_at ds u.0) (sym done-new) ∙ read-is new.done.items u.0 k 0 below-new at

  result-done : set new.done.items u.0 (k + 1) ≡ one_more done u.0
  result-done = ap (λ ds. set ds u.0 (k + 1)) done-new ∙ ap (λ j. set done u.0 (j + 1)) (sym next)

  born : IsBorn W done u.0
  born =
      let stands : u.0 < length old.standing.items = (let e = passes.standing.all in omega arith) in
      stands-born W done u.0 (slice_index_or old.standing.items u.0 standing.Unborn) may.born
      (passes.standing.each u.0 (slice_index_or old.standing.items u.0 standing.Unborn) (slice_get-get_or old.standing.items u.0 standing.Unborn stands))

  within : (v : ℕ) → done_at (one_more done u.0) v ≤ op_count W v + 1
  within = within-more W done u.0 below may.there passes.within

  result-passes : Passes W result
  result-passes = record {
    all = ap length result-done ∙ (length-set done u.0 (done_at done u.0 + 1) ∙ passes.all);
    within = λ v. subst (λ ds. done_at ds v ≤ op_count W v + 1) (sym result-done) (within v);
    order = subst (HasOrder W) (sym result-done) (order-more W done u.0 below passes.order born (λ i need. passes.met.only i (may.met i need)));
    standing = subst (λ ds. AreStanding W ds new.standing.items) (sym result-done) (subst (λ ds. AreStanding W (one_more ds u.0) new.standing.items) meets.done creates.standing);
    met = subst (λ ds. AreMet W ds new.met.items) (sym result-done) (subst (AreMet W (one_more done u.0)) (sym creates.met) meets.met);
    lists = subst (AreLists W) (sym creates.waiting) meets.lists;
    waits = subst (λ ms. Wait W ms new.waiting.items) (sym creates.met) (subst (Wait W mid.met.items) (sym creates.waiting) meets.waits);
    ready = units-more W u new.ready.items us.items more declared creates.ready;
  }

  seen : (v : ℕ) → v < length W.units → Contains us.items (unit_no v) ⊎ Halts W new.met.items v (done_at (set new.done.items u.0 (k + 1)) v) (slice_index_or new.standing.items v standing.Unborn)
  seen v l =
      let s : Standing = slice_index_or new.standing.items v standing.Unborn in
      subst (λ ds. Contains us.items (unit_no v) ⊎ Halts W new.met.items v (done_at ds v) s) (sym result-done)
      (seen-done W u new.ready.items us.items more new.met.items done s v below
      (λ other. subst (λ ds. Contains new.ready.items (unit_no v) ⊎ Halts W new.met.items v (done_at ds v) s) done-new (creates.others v l other)))

  less : work_left W result ≤ work_left W old
  less =
      let one : points_done (one_more done u.0) ≡ points_done done + 1 = one-counted done u.0 below in
      let same : points_done (set new.done.items u.0 (k + 1)) ≡ points_done (one_more done u.0) = ap points_done result-done in
      let few : points_done (one_more done u.0) ≤ points_in W = points-within W (one_more done u.0) (length-set done u.0 (done_at done u.0 + 1) ∙ passes.all) within in
      let longer : length us.items ≡ length new.ready.items + 1 = one-longer new.ready.items us.items u more in
      let kept : listed_in mid ≡ listed_in old = meets.left in
      let grown : listed_in new ≤ listed_in mid + 1 = creates.left in
      omega arith

  pub looks : Looks W old result
  looks = record { all = record { passes = result-passes; seen = seen }; left = less }

-- A unit that is taken from the list.

module _ (W : Parts) (old : Passing) (us : Vec UnitNo Global) (all : AllPass W old) where
  abbrev left : Passing
  left = record old { ready = us }

  left-passes : AreUnits W us.items → Passes W left
  left-passes units = record {
    all = all.passes.all;
    within = all.passes.within;
    order = all.passes.order;
    standing = all.passes.standing;
    met = all.passes.met;
    lists = all.passes.lists;
    waits = all.passes.waits;
    ready = units;
  }

  pub takes : (o : Option UnitNo) → old.ready.items ≡ us.items ++ option_to_list o → MatchOption o ((vec_len old.ready ≡ 0) × (vec_len us ≡ 0)) (λ _. vec_len us + 1 ≡ vec_len old.ready) →
      MatchOption o (AllRest W left) (Takes W old left)
  takes None items none = record {
    passes = left-passes (λ u has. (let l : has.0 < length us.items = has.1 in let z = none.1 in let e = us.ok in absurd (omega arith)));
    rest = λ v l. elim (all.seen v l) [ inl has ↦ (let m : has.0 < length old.ready.items = has.1 in let z = none.0 in let e = old.ready.ok in absurd (omega arith)) | inr halts ↦ halts ];
  }
  takes (Some u) items more = record {
    unit = all.passes.ready u (subst (λ (vs : List UnitNo). Contains vs u) (sym items) (Contains-push us.items u));
    passes = left-passes (λ v has. all.passes.ready v (subst (λ (vs : List UnitNo). Contains vs v) (sym items) (Contains-append_left us.items (u ∷ []) v has)));
    others = λ v l other. elim (all.seen v l) [
      | inl has ↦ elim (Contains-push_cases us.items u (unit_no v) (subst (λ (vs : List UnitNo). Contains vs (unit_no v)) items has)) [
        | inl old ↦ inl old
        | inr same ↦ absurd (other (sym (ap (λ (w : UnitNo). w.0) same)))
      ]
      | inr halts ↦ inr halts
    ];
    left = (let e = one-longer us.items old.ready.items u items in omega arith);
  }
