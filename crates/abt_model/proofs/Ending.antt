-- What streams and objects show of the end of a run.
use Rattle.std.proofs.Common.{◌≡◌, ◌≢◌, ◌∙◌, not, ℕ, ◌+◌, ◌<◌, ◌==◌, Bool, true, false, IsTrue, List, [], ◌∷◌, Contains, Option, None, Some, ap, arith, get_or, inl, inr, length, map, refl, slice_get, subst, sym}
use Rattle.std.specs.Prelude.{◌↔◌}
use Rattle.std.specs.List.{All}
use Rattle.std.proofs.lemmas.Bool.{cases_lt, eq-eqb, eqb-true}
use Rattle.std.proofs.lemmas.List.{nil_from_length}
use Rattle.std.proofs.lemmas.List.Elements.{All-contains, All-map, Contains-get_or}
use Rattle.abt_machine.specs.declared.events.Site.TheVariants as site
use Rattle.abt_machine.specs.declared.numbers.PoolNo.{PoolNo}
use Rattle.abt_machine.specs.declared.numbers.SchedNo.{SchedNo}
use Rattle.abt_machine.specs.declared.workload.Parts.{Parts}
use Rattle.abt_machine.specs.declared.workload.SchedPart.{SchedPart}
use Rattle.abt_machine.specs.Numbers.{pool_no, unit_no}
use Rattle.abt_machine.specs.Outcomes.{AllEnded, Quiet}
use Rattle.abt_machine.specs.Sound.{Sound}
use Rattle.abt_machine.specs.State.{State}
use Rattle.abt_machine.specs.Stored.{Stored}
use Rattle.abt_machine.specs.Valid.{IsValid}
use Rattle.abt_machine.specs.Values.{Held, Owned, PoolValue, object_of, part_of}
use Rattle.abt_machine.specs.Workloads.{main_from, main_of, pools_from, pools_of}
use Rattle.abt_machine.proofs.Declared.{listed-declared}
use Rattle.abt_machine.proofs.Elements.{map-all}
use Rattle.abt_outcomes.specs.Values.{IsEmptyPool, IsIdle, IsOverAt, LooksEnded, LooksQuiet, StandFor}
use Rattle.abt_outcomes.proofs.Seen.{ends-seen, quiet-seen}
use Rattle.abt_replay.specs.Objects.{ObjectsValue, object_at, pool_from}
use Rattle.abt_model.specs.Ends.{AreEmptyPools, HasEmptyPools, IsEmptyAt}
use Rattle.abt_model.specs.Models.{ModelValue, StandsFor}
use Rattle.abt_model.proofs.Numbered.{numbered-at}

-- a fact of all numbers below one, and of that
pub one-further : (F : ℕ → Type 0) (i : ℕ) → ((k : ℕ) → k < i → F k) → F i → (k : ℕ) → k < i + 1 → F k
one-further F i before here k l = elim (cases_lt k i) [
  | inl below ↦ before k below
  | inr above ↦ (let same : i ≡ k = omega arith in subst F same here)
]

-- One stream.

none-below : {A : Type 0} (xs : List A) → (xs ≢ [] → ⊥) → xs ≡ []
none-below [] h = refl
none-below (x ∷ xs) h = absurd (h (λ e. cc))

-- a stream without a unit is idle if no frame is stacked
pub idle-by : (held : Held) (stacked : Bool) → held.tray ≡ [] → held.next ≡ None → held.hand ≡ None → (IsTrue stacked ↔ (held.own.below ≢ [])) → IsTrue (not stacked) ↔ IsIdle held
idle-by held true tray next hand is = (λ no. cc, λ idle. absurd (is.0 refl idle.frames))
idle-by held false tray next hand is = (λ yes. record { tray = tray; next = next; hand = hand; frames = none-below held.own.below (λ some. let no : IsTrue false = is.1 some in cc) }, λ idle. refl)

-- Pools.

pub none-there : (us : List Owned) (n : ℕ) (b : Bool) → n ≡ length us → b ≡ (n == 0) → IsTrue b ↔ (us ≡ [])
none-there us n b many is = (
  λ yes. nil_from_length us (sym many ∙ eqb-true n 0 (sym is ∙ yes)),
  λ none. is ∙ eq-eqb n 0 (many ∙ ap (λ (us : List Owned). length us) none),
)

pub empty-by : (o : Option PoolValue) (pool : PoolValue) (b : Bool) → o ≡ Some pool → (IsTrue b ↔ (pool.units ≡ [])) → IsTrue b ↔ IsEmptyPool (pool_from o)
empty-by o pool b is empty = subst (λ o. IsTrue b ↔ IsEmptyPool (pool_from o)) (sym is) empty

pub absent-by : (o : Option PoolValue) → o ≡ None → IsTrue false ↔ IsEmptyPool (pool_from o)
absent-by o is = subst (λ o. IsTrue false ↔ IsEmptyPool (pool_from o)) (sym is) (λ no. cc, λ no. absurd no)

-- The pools of one stream.

module _ (W : Parts) (s : ℕ) (g : SchedNo) (part : SchedPart) (pools : List PoolNo) (main : slice_get W.mains s ≡ Some g)
    (sched : slice_get W.scheds g.0 ≡ Some part) (same : pools ≡ part.pools) (objects : ObjectsValue) where
  listed : pools_of W (main_of W s) ≡ map (λ (p : PoolNo). p.0) pools
  listed = ap (pools_of W) (ap main_from main) ∙ (ap pools_from sched ∙ ap (map (λ (p : PoolNo). p.0)) (sym same))

  pub all-empty : All (λ (p : PoolNo). IsEmptyAt objects p.0) pools → HasEmptyPools W objects s
  all-empty all = subst (All (IsEmptyAt objects)) (sym listed) (All-map (IsEmptyAt objects) (λ (p : PoolNo). p.0) pools all)

  pub one-empty : HasEmptyPools W objects s → (k : ℕ) (d : PoolNo) → k < length pools → IsEmptyAt objects (get_or pools k d).0
  one-empty all = map-all (λ (p : PoolNo). p.0) (IsEmptyAt objects) pools (subst (All (IsEmptyAt objects)) listed all)

-- A state.

module _ (W : Parts) (S : State) (model : ModelValue) (stands : StandsFor W S model) where
  itself : StandFor W S (part_of W S) (object_of W S)
  itself = record { streams = λ s l. refl; sites = λ x. refl }

  lane-at : (s : ℕ) (d : Held) → s < W.streams → get_or model.lanes s d ≡ part_of W S s
  lane-at s d l = numbered-at (part_of W S) W.streams s model.lanes d stands.lanes l

  -- pools that schedulers list are declared
  module _ (valid : IsValid W) (s p : ℕ) (listed : Contains (pools_of W (main_of W s)) p) where
    pool-at : object_at model.objects (site.Pool (pool_no p)) ≡ object_of W S (site.Pool (pool_no p))
    pool-at = stands.objects (site.Pool (pool_no p)) (All-contains (λ q. q < length W.pools) (pools_of W (main_of W s)) p (listed-declared W (main_of W s) valid) listed)

  -- nothing is left to do
  pub quiet-shown : IsValid W → (All IsIdle model.lanes × AreEmptyPools W model.objects) ↔ Quiet W S
  quiet-shown valid = (λ shows. (quiet-seen W S (part_of W S) (object_of W S) itself).1 (to shows), λ quiet. from ((quiet-seen W S (part_of W S) (object_of W S) itself).0 quiet))
    where
      to : (All IsIdle model.lanes × AreEmptyPools W model.objects) → LooksQuiet W (part_of W S) (object_of W S)
      to shows = record {
        idle = λ s l. (let many : length model.lanes ≡ W.streams = stands.lanes.many in subst IsIdle (lane-at s (part_of W S s) l) (shows.0 s (part_of W S s) (omega arith)));
        pools = λ s p l listed. subst IsEmptyPool (pool-at valid s p listed) (All-contains (IsEmptyAt model.objects) (pools_of W (main_of W s)) p (shows.1 s l) listed);
      }

      from : LooksQuiet W (part_of W S) (object_of W S) → All IsIdle model.lanes × AreEmptyPools W model.objects
      from looks = (
        λ k d l. (let many : length model.lanes ≡ W.streams = stands.lanes.many in let below : k < W.streams = omega arith in subst IsIdle (sym (lane-at k d below)) (looks.idle k below)),
        λ s l k d within.
            (let p = get_or (pools_of W (main_of W s)) k d in
            let listed = Contains-get_or (pools_of W (main_of W s)) k d within in subst IsEmptyPool (sym (pool-at valid s p listed)) (looks.pools s p l listed)),
      )

  -- every unit has ended
  pub ended-shown : (Z : Stored) → Sound W Z S → LooksEnded W (object_at model.objects) ↔ AllEnded S
  ended-shown Z sound = (
    λ looks. (ends-seen W Z S (part_of W S) (object_of W S) sound itself).1 (λ u l. subst IsOverAt (stands.objects (site.Desk (unit_no u)) l) (looks u l)),
    λ ended u l. subst IsOverAt (sym (stands.objects (site.Desk (unit_no u)) l)) ((ends-seen W Z S (part_of W S) (object_of W S) sound itself).0 ended u l),
  )
