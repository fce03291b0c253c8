-- A sound line keeps what is declared proper.
use Rattle.std.proofs.Common.{◌≡◌, ◌≢◌, ◌<◌, ◌≤◌, ◌+◌, ◌-◌, ◌^◌, ◌==◌, ◌||◌, ◌∙◌, ℕ, zero, suc, true, false, List, [], ◌∷◌, ◌++◌, All, Option, Some, None, ap, arith, drop, flat_map, is_none, length, length-append, lit≤, map, nat_le, nat_lt, option_to_list, refl, replicate, slice_get, slice_set, subst, sym, unwrap_or}
use Rattle.std.specs.List.{AllPairs, list_any}
use Rattle.std.proofs.lemmas.Bool.{leb-false, leb-true, ltb-false, ltb-true, not-false}
use Rattle.std.proofs.lemmas.List.{length-replicate, length-set}
use Rattle.std.proofs.lemmas.Option.{slice_get_within}
use Rattle.abt_machine.specs.declared.grammar.Form.TheVariants as form
use Rattle.abt_machine.specs.declared.grammar.Format.{Format}
use Rattle.abt_machine.specs.declared.grammar.Format.TheVariants as format
use Rattle.abt_machine.specs.declared.grammar.Number.TheVariants as number
use Rattle.abt_machine.specs.declared.numbers.SchedNo.{SchedNo}
use Rattle.abt_machine.specs.declared.operations.Access.{Access}
use Rattle.abt_machine.specs.declared.operations.Access.TheVariants as access
use Rattle.abt_machine.specs.declared.operations.Rule.{Rule}
use Rattle.abt_machine.specs.declared.operations.Rule.TheVariants as rule
use Rattle.abt_machine.specs.declared.operations.Thing.{Thing}
use Rattle.abt_machine.specs.declared.operations.Thing.TheVariants as thing
use Rattle.abt_machine.specs.declared.workload.PoolPart.{PoolPart}
use Rattle.abt_machine.specs.declared.workload.SchedPart.{SchedPart}
use Rattle.abt_machine.specs.declared.workload.UnitPart.{UnitPart}
use Rattle.abt_machine.specs.Declaring.{Above, access_with, at, listed, pool_with, rule_with, sched_with, thing_with}
use Rattle.abt_machine.specs.Limits.{key_limit, listed_limit, object_limit, operation_limit, pool_limit, sched_limit, size_limit, stream_limit, unit_limit, unit_operation_limit}
use Rattle.abt_machine.specs.Numbers.{sched_no}
use Rattle.abt_machine.specs.Valid.{IsAccess, IsRule, IsSched, IsThing, sched_in}
use Rattle.abt_machine.specs.Faults.{has_main, is_placed, is_there, values_of}
use Rattle.abt_machine.specs.Forms.{slots}
use Rattle.abt_machine.specs.Words.{Text}
use Rattle.abt_machine.proofs.Distinct.{listing, not-among}
use Rattle.abt_workload.proofs.Bounds.{after-section, after-single, between, kind-within, mutex-there, there-at, within-at}
use Rattle.abt_workload.proofs.Copies.{AreCopies, units-scheds}
use Rattle.abt_workload.proofs.Naming.{any-fits}
use Rattle.abt_workload.proofs.Growing.{access-grows, all-and, any-none, empty-of, ends_list, get-replicate, holds-and, holds-set, main-none, mains_list, no-mains, no-units, pairs-set, sched-grows, tail-all, tail-some, thing-grows}
use Rattle.abt_workload.proofs.Places.{kinds, or-left, or-right}
use Rattle.abt_workload.proofs.Proper.{AreUnits, AreUnset, HasMains, HasObjects, HasPools, HasScheds, HasStreams, IsInOrder, IsProper, counted, placed, stream_count, takes_all, unit_count, with_form}
use Rattle.abt_workload.proofs.Soundness.{IsSound}

access-in : {a : Above} {line : Text} {words : List Text} (x : Access) → IsSound a line words (form.Pool x) → IsAccess (stream_count a) (access_with x (values_of (form.Pool x) words))
access-in (access.Priv x) s = ltb-true _ _ (there-at (form.Pool (access.Priv x)) s 1 number.Stream refl)
access-in (access.Spsc x y) s = (ltb-true _ _ (there-at (form.Pool (access.Spsc x y)) s 1 number.Stream refl), ltb-true _ _ (there-at (form.Pool (access.Spsc x y)) s 2 number.Stream refl))
access-in (access.Mpsc y) s = ltb-true _ _ (there-at (form.Pool (access.Mpsc y)) s 1 number.Stream refl)
access-in (access.Spmc x) s = ltb-true _ _ (there-at (form.Pool (access.Spmc x)) s 1 number.Stream refl)
access-in access.Mpmc s = tt

-- where a `sched` line's pools stand
pools-last : (r : Rule) (ns : List ℕ) → (listed r ns ≡ drop (length (kinds (slots (form.Sched r)))) ns) × (ends_list (slots (form.Sched r)) ≡ true)
pools-last rule.Basic ns = (refl, refl)
pools-last rule.Prio ns = (refl, refl)
pools-last (rule.Randws seed) ns = (refl, refl)
pools-last (rule.User k) ns = (refl, refl)

module _ {a : Above} {line : Text} {words : List Text} (r : Rule) (s : IsSound a line words (form.Sched r)) where
  -- a scheduler lists a pool
  pub listed-some : 0 < length (listed r (values_of (form.Sched r) words))
  listed-some = let p = pools-last r (values_of (form.Sched r) words) in subst (λ (ns : List ℕ). 0 < length ns) (sym p.0) (tail-some (slots (form.Sched r)) words s.form_fits p.1)

  -- the pools that it lists are there
  pub listed-there : All (λ n. n < length a.pools) (listed r (values_of (form.Sched r) words))
  listed-there =
      let p = pools-last r (values_of (form.Sched r) words) in
      let all = tail-all (is_there a) (slots (form.Sched r)) words s.form_fits p.1 s.there in
      subst (λ (ns : List ℕ). All (λ n. n < length a.pools) ns) (sym p.0) (λ k d lt. ltb-true _ _ (all k d lt))

  sched-in : IsSched (length a.pools) (sched_with r (values_of (form.Sched r) words))
  sched-in =
      let vals : List ℕ = values_of (form.Sched r) words in
      listing (length a.pools) (rule_with r vals) (listed r vals) (rule-in r s) listed-some
      (ltb-false listed_limit (length (listed r vals)) (or-right (nat_le (sched_limit a.format) (length a.scheds)) _ s.limit)) listed-there
      (or-right (nat_lt (at vals 0) (length a.scheds)) _ s.once)
    where
      rule-in : (q : Rule) → IsSound a line words (form.Sched q) → IsRule (rule_with q (values_of (form.Sched q) words))
      rule-in rule.Basic t = tt
      rule-in rule.Prio t = tt
      rule-in (rule.Randws n) t = any-fits a.format _ (within-at (form.Sched (rule.Randws n)) t 1 0 (2 ^ 64 - 1) refl)
      rule-in (rule.User n) t = let w = between 0 1 (at (values_of (form.Sched (rule.User n)) words) 1) (within-at (form.Sched (rule.User n)) t 1 0 1 refl) in omega arith

thing-in : {a : Above} {line : Text} {words : List Text} (x : Thing) → IsSound a line words (form.Object x) → IsThing a.objects (length a.objects) (thing_with x words (values_of (form.Object x) words))
thing-in {a} (thing.Cond m) s =
    let there = mutex-there (slice_get a.objects _) (there-at (form.Object (thing.Cond m)) s 1 number.Mutex refl) in
    (slice_get_within a.objects _ thing.Mutex there, there)
thing-in (thing.Future n c) s = between 1 size_limit _ (within-at (form.Object (thing.Future n c)) s 1 1 size_limit refl)
thing-in (thing.Barrier n) s = between 1 size_limit _ (within-at (form.Object (thing.Barrier n)) s 1 1 size_limit refl)
thing-in _ s = tt

-- no format has more of anything than format 3
pub most-streams : (F : Format) → stream_limit F ≤ stream_limit format.Three
most-streams format.One = lit≤ tt
most-streams format.Two = lit≤ tt
most-streams format.Three = lit≤ tt

pub most-pools : (F : Format) → pool_limit F ≤ pool_limit format.Three
most-pools format.One = lit≤ tt
most-pools format.Two = lit≤ tt
most-pools format.Three = lit≤ tt

pub most-scheds : (F : Format) → sched_limit F ≤ sched_limit format.Three
most-scheds format.One = lit≤ tt
most-scheds format.Two = lit≤ tt
most-scheds format.Three = lit≤ tt

pub most-objects : (F : Format) → object_limit F ≤ object_limit format.Three
most-objects format.One = lit≤ tt
most-objects format.Two = lit≤ tt
most-objects format.Three = lit≤ tt

pub most-units : (F : Format) → unit_limit F ≤ unit_limit format.Three
most-units format.One = lit≤ tt
most-units format.Two = lit≤ tt
most-units format.Three = lit≤ tt

pub most-unit-ops : (F : Format) → unit_operation_limit F ≤ unit_operation_limit format.Three
most-unit-ops format.One = lit≤ tt
most-unit-ops format.Two = lit≤ tt
most-unit-ops format.Three = lit≤ tt

pub most-ops : (F : Format) → operation_limit F ≤ operation_limit format.Three
most-ops format.One = lit≤ tt
most-ops format.Two = lit≤ tt
most-ops format.Three = lit≤ tt

-- a scheduler without a place is none of those that have one
pub placed-not : (a : Above) (g : ℕ) → AreCopies a.copies a.last → is_placed a g ≡ false → list_any (λ h. h == g) (placed a) ≡ false
placed-not a g copied e = ap (λ (gs : List ℕ). list_any (λ h. h == g) (mains_list a.mains ++ gs)) (sym (units-scheds a copied)) ∙ e

-- Lines above those of units.

-- no unit is declared yet, nor their number
above-units : {a : Above} → IsProper a → a.section < 8 → (b : Above) → b.section < 8 → (b.section < 2 → b.streams ≡ None) → (b.section < 6 → AreUnset b.mains) → (b.unit_count ≡ a.unit_count) × (b.units ≡ a.units) × (b.last ≡ a.last) → IsInOrder b × AreUnits b
above-units {a} h early b below streams mains same =
    let count : b.unit_count ≡ None = same.0 ∙ h.order.no_count early in
    let units : b.units ≡ [] = same.1 ∙ h.order.no_units (omega arith) in
    let last : b.last ≡ None = same.2 ∙ h.order.no_last (omega arith) in
    let zero_units : unit_count b ≡ 0 = ap (λ (n : Option ℕ). unwrap_or n 0) count in (
      record {
        no_streams = streams;
        no_mains = mains;
        no_count = λ lt. count;
        no_units = λ lt. units;
        no_last = λ lt. last;
        has_pools = λ lt. absurd (omega arith);
        has_mains = λ lt. absurd (omega arith);
        has_streams = λ lt. absurd (omega arith);
        has_units = λ lt. absurd (omega arith);
      },
      no-units (counted b) (unit_count b) b.units b.last b.copies units last (omega arith),
    )

module _ {a : Above} {line : Text} {words : List Text} (h : IsProper a) where
  pub keeps-version : (F : Format) → IsSound a line words (form.Version F) → IsProper (with_form a words (form.Version F))
  keeps-version F s =
      let le = after-single (form.Version F) s refl in
      let above = above-units h (omega arith) (with_form a words (form.Version F)) (omega arith) (λ lt. h.order.no_streams (omega arith)) (λ lt. h.order.no_mains (omega arith)) (refl, refl, refl) in
      assumption

  pub keeps-streams : IsSound a line words form.Streams → IsProper (with_form a words form.Streams)
  keeps-streams s =
      let le = after-single form.Streams s refl in
      let n : ℕ = at (values_of form.Streams words) 0 in
      let w = between 1 (stream_limit a.format) n (kind-within form.Streams s 0 number.StreamCount refl) in
      let most = most-streams a.format in
      let zero_streams : stream_count a ≡ 0 = ap (λ (x : Option ℕ). unwrap_or x 0) (h.order.no_streams (omega arith)) in
      let no_mains : a.mains ≡ [] = empty-of a.mains (h.mains.count ∙ zero_streams) in
      let mains_same : flat_map option_to_list a.mains ≡ flat_map option_to_list (let none : Option SchedNo = None in replicate n none) = ap (λ (ms : List (Option SchedNo)). flat_map option_to_list ms) no_mains ∙ sym (any-none n) in
      let streams : HasStreams (Some n) = record { low = λ m e. let same : n ≡ m = cc in omega arith; high = omega arith } in
      let pools : HasPools n a.pools = record { few = h.pools.few; all = λ k d lt. access-grows (stream_count a) n (omega arith) _ (h.pools.all k d lt) } in
      let mains : HasMains n a.pools a.scheds (replicate n None) = no-mains n a.pools a.scheds (replicate n None) (length-replicate n None) (get-replicate n) in
      let places : AllPairs (λ x y. x ≢ y) (placed (with_form a words form.Streams)) =
      subst (λ (gs : List SchedNo). AllPairs (λ x y. x ≢ y) (map (λ (g : SchedNo). g.0) gs ++ flat_map (λ (part : UnitPart). sched_in part.body) (a.units ++ option_to_list a.last))) mains_same h.places in
      let above = above-units h (omega arith) (with_form a words form.Streams) (omega arith) (λ lt. absurd (omega arith)) (λ lt. get-replicate n) (refl, refl, refl) in
      assumption

  pub keeps-keys : IsSound a line words form.Keys → IsProper (with_form a words form.Keys)
  keeps-keys s =
      let le = after-single form.Keys s refl in
      let n : ℕ = at (values_of form.Keys words) 0 in
      let keys = between 0 key_limit n (within-at form.Keys s 0 0 key_limit refl) in
      let above = above-units h (omega arith) (with_form a words form.Keys) (omega arith) (λ lt. absurd (omega arith)) (λ lt. h.order.no_mains (omega arith)) (refl, refl, refl) in
      assumption

  pub keeps-pool : (x : Access) → IsSound a line words (form.Pool x) → IsProper (with_form a words (form.Pool x))
  keeps-pool x s =
      let le = after-section (form.Pool x) s in
      let most = most-pools a.format in
      let few = leb-false (pool_limit a.format) (length a.pools) s.limit in
      let new : PoolPart = pool_with x words (values_of (form.Pool x) words) in
      let grown : length (a.pools ++ new ∷ []) ≡ length a.pools + 1 = length-append a.pools _ in
      let pools : HasPools (stream_count a) (a.pools ++ new ∷ []) = record { few = omega arith; all = all-and (λ (part : PoolPart). IsAccess (stream_count a) part.access) a.pools new h.pools.all (access-in x s) } in
      let scheds : HasScheds (length (a.pools ++ new ∷ [])) a.scheds = record { few = h.scheds.few; all = λ k d lt. sched-grows (length a.pools) _ (omega arith) _ (h.scheds.all k d lt) } in
      let mains : HasMains (stream_count a) (a.pools ++ new ∷ []) a.scheds a.mains = no-mains _ _ _ a.mains h.mains.count (h.order.no_mains (omega arith)) in
      let above = above-units h (omega arith) (with_form a words (form.Pool x)) (omega arith) (λ lt. absurd (omega arith)) (λ lt. h.order.no_mains (omega arith)) (refl, refl, refl) in
      assumption

  pub keeps-sched : (r : Rule) → IsSound a line words (form.Sched r) → IsProper (with_form a words (form.Sched r))
  keeps-sched r s =
      let le = after-section (form.Sched r) s in
      let most = most-scheds a.format in
      let few = leb-false (sched_limit a.format) (length a.scheds) (or-left (nat_le (sched_limit a.format) (length a.scheds)) _ s.limit) in
      let new : SchedPart = sched_with r (values_of (form.Sched r) words) in
      let grown : length (a.scheds ++ new ∷ []) ≡ length a.scheds + 1 = length-append a.scheds _ in
      let scheds : HasScheds (length a.pools) (a.scheds ++ new ∷ []) = record { few = omega arith; all = all-and (IsSched (length a.pools)) a.scheds new h.scheds.all (sched-in r s) } in
      let mains : HasMains (stream_count a) a.pools (a.scheds ++ new ∷ []) a.mains = no-mains _ _ _ a.mains h.mains.count (h.order.no_mains (omega arith)) in
      let above = above-units h (omega arith) (with_form a words (form.Sched r)) (omega arith) (λ lt. absurd (omega arith)) (λ lt. h.order.no_mains (omega arith)) (refl, refl, refl) in
      assumption

  pub keeps-stream : IsSound a line words form.Stream → IsProper (with_form a words form.Stream)
  keeps-stream s =
      let le = after-section form.Stream s in
      let t : ℕ = at (values_of form.Stream words) 0 in
      let g : ℕ = at (values_of form.Stream words) 1 in
      let stream : t < stream_count a = ltb-true _ _ (there-at form.Stream s 0 number.Stream refl) in
      let sched : g < length a.scheds = ltb-true _ _ (there-at form.Stream s 1 number.Sched refl) in
      let takes' : takes_all a.pools a.scheds t g ≡ true = not-false _ s.access in
      let free : slice_get a.mains t ≡ Some None = main-none a.mains t (let c = h.mains.count in omega arith) (or-left (has_main a t) _ s.once) in
      let out = not-among (placed a) g (placed-not a g h.units.copied (or-right (has_main a t) _ s.once)) in
      let mains : HasMains (stream_count a) a.pools a.scheds (slice_set a.mains t (Some (sched_no g))) = record {
        count = length-set a.mains t _ ∙ h.mains.count;
        there = holds-set (λ u k. k < length a.scheds) a.mains t (sched_no g) h.mains.there sched;
        taking = holds-set (λ u k. takes_all a.pools a.scheds u k ≡ true) a.mains t (sched_no g) h.mains.taking takes';
      } in
      let places : AllPairs (λ x y. x ≢ y) (placed (with_form a words form.Stream)) = pairs-set a.mains _ t (sched_no g) free out h.places in
      let above = above-units h (omega arith) (with_form a words form.Stream) (omega arith) (λ lt. absurd (omega arith)) (λ lt. absurd (omega arith)) (refl, refl, refl) in
      assumption

  pub keeps-object : (x : Thing) → IsSound a line words (form.Object x) → IsProper (with_form a words (form.Object x))
  keeps-object x s =
      let le = after-section (form.Object x) s in
      let most = most-objects a.format in
      let few = leb-false (object_limit a.format) (length a.objects) s.limit in
      let new : Thing = thing_with x words (values_of (form.Object x) words) in
      let grown : length (a.objects ++ new ∷ []) ≡ length a.objects + 1 = length-append a.objects _ in
      let objects : HasObjects (a.objects ++ new ∷ []) = record { few = omega arith; all = λ k t e. thing-grows a.objects new k t (holds-and (IsThing a.objects) a.objects new h.objects.all (thing-in x s) k t e) } in
      let above = above-units h (omega arith) (with_form a words (form.Object x)) (omega arith) (λ lt. absurd (omega arith)) (λ lt. absurd (omega arith)) (refl, refl, refl) in
      assumption

  pub keeps-units : IsSound a line words form.Units → IsProper (with_form a words form.Units)
  keeps-units s =
      let le = after-single form.Units s refl in
      let most = most-units a.format in
      let below : at (values_of form.Units words) 0 ≤ unit_limit a.format = leb-true _ _ (kind-within form.Units s 0 number.UnitCount refl) in
      let none : AreUnits (with_form a words form.Units) = no-units _ _ _ _ _ (h.order.no_units (omega arith)) (h.order.no_last (omega arith)) (omega arith) in
      let order : IsInOrder (with_form a words form.Units) = record {
        no_streams = λ lt. absurd (omega arith);
        no_mains = λ lt. absurd (omega arith);
        no_count = λ lt. absurd (omega arith);
        no_units = λ lt. h.order.no_units (omega arith);
        no_last = λ lt. h.order.no_last (omega arith);
        has_pools = λ lt. some-length (length a.pools) (or-right (is_none a.streams) _ (or-left _ (list_any is_none a.mains) s.early));
        has_mains = λ lt. or-right (is_none a.streams || (length a.pools == 0)) _ s.early;
        has_streams = λ lt. absurd (omega arith);
        has_units = λ lt. absurd (omega arith);
      } in
      assumption
    where
      some-length : (n : ℕ) → (n == 0) ≡ false → 0 < n
      some-length zero e = cc
      some-length (suc n) e = omega arith
