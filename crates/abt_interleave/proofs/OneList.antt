-- The one list of many logs: that it exists, that there is but one, and what it has.
use Rattle.std.proofs.Common.{◌≡◌, ◌≢◌, ℕ, zero, suc, ◌<◌, ◌≤◌, ◌==◌, true, false, List, [], ◌∷◌, map, refl, sym, ◌∙◌, ap, subst, arith, ◌⊎◌, inl, inr}
use Rattle.std.specs.Prelude.{Contains, if◌then◌else◌}
use Rattle.std.specs.List.{All}
use Rattle.std.proofs.lemmas.Bool.{cond-true, cond-false, cond_both, cases_lt, cases_eq, eq-eqb, ne_eqb, eqb-true}
use Rattle.std.proofs.lemmas.List.Elements.{All-head, All-tail, All-contains}
use Rattle.abt_interleave.specs.Histories.{RisesAbove}
use Rattle.abt_interleave.specs.Logs.{IsSooner, BeforeAll, InOrder}
use Rattle.abt_interleave.specs.Merges.{Rises, of_stream, IsLogOf, IsByStamp, IsMergeOf}
use Rattle.abt_interleave.specs.MergeLaws.{MergesExist, MergesAreOne, MembersMakeMerges, MergesHaveMembers}
use Rattle.abt_interleave.proofs.Members.{Among, to-among, from-among}
use Rattle.abt_interleave.proofs.Clocks.{among-above}
use Rattle.abt_interleave.proofs.Orders.{earlier-first, in-order-unique, rises-earlier, sooner-one-way}

-- numbers that rise above another rise
pub above-rises : (n : ℕ) (ts : List ℕ) → RisesAbove n ts → Rises ts
above-rises n [] r = tt
above-rises n (t ∷ ts) r = r.1

module _ {E : Type 0} (stamp stream : E → ℕ) where
  abbrev pub IsItemBefore : E → E → Type 0
  IsItemBefore e f = IsSooner (stamp e) (stream e) (stamp f) (stream f)

  pub item-one-way : (e f : E) → IsItemBefore e f → IsItemBefore f e → ⊥
  item-one-way e f = sooner-one-way (stamp e) (stream e) (stamp f) (stream f)

  pub item-then : (e f g : E) → IsItemBefore e f → IsItemBefore f g → IsItemBefore e g
  item-then e f g h k =
      elim h [
        | inl l ↦ (let a : stamp e < stamp f = l in elim k [ inl m ↦ (let b : stamp f < stamp g = m in inl (omega arith)) | inr q ↦ (let b : stamp f ≡ stamp g = q.0 in inl (omega arith)) ])
        | inr p ↦ (let a : stamp e ≡ stamp f = p.0 in let c : stream e < stream f = p.1 in elim k [ inl m ↦ (let b : stamp f < stamp g = m in inl (omega arith)) | inr q ↦ (let b : stamp f ≡ stamp g = q.0 in let d : stream f < stream g = q.1 in inr (omega arith, omega arith)) ])
      ]

  -- items of different streams come one before the other
  apart-items : (e f : E) → stream f ≢ stream e → IsItemBefore e f ⊎ IsItemBefore f e
  apart-items e f ne = elim (cases_lt (stamp e) (stamp f)) [
    | inl l ↦ inl (inl l)
    | inr le ↦ elim (cases_lt (stamp f) (stamp e)) [
      | inl l ↦ inr (inl l)
      | inr ge ↦ elim (cases_lt (stream e) (stream f)) [
        | inl l ↦ inl (inr (omega arith, l))
        | inr other ↦ elim (cases_lt (stream f) (stream e)) [ inl l ↦ inr (inr (omega arith, l)) | inr more ↦ absurd (ne (omega arith)) ]
      ]
    ]
  ]

  before-then : (e f : E) (xs : List E) → IsItemBefore e f → BeforeAll IsItemBefore f xs → BeforeAll IsItemBefore e xs
  before-then e f [] h k = tt
  before-then e f (x ∷ xs) h k = (item-then e f x h k.0, before-then e f xs h k.1)

  -- What a list has of one stream.

  before-of : (R : E → E → Type 0) (s : ℕ) (a : E) (J : List E) → BeforeAll R a J → BeforeAll R a (of_stream stream s J)
  before-of R s a [] h = tt
  before-of R s a (d ∷ ds) h = cond_both (stream d == s) (d ∷ of_stream stream s ds) (of_stream stream s ds) (BeforeAll R a) (λ _. (h.0, before-of R s a ds h.1)) (λ _. before-of R s a ds h.1)

  in-order-of : (R : E → E → Type 0) (s : ℕ) (J : List E) → InOrder R J → InOrder R (of_stream stream s J)
  in-order-of R s [] h = tt
  in-order-of R s (d ∷ ds) h = cond_both (stream d == s) (d ∷ of_stream stream s ds) (of_stream stream s ds) (InOrder R) (λ _. (before-of R s d ds h.0, in-order-of R s ds h.1)) (λ _. in-order-of R s ds h.1)

  pub among-of : (s : ℕ) (a : E) (J : List E) → Among a (of_stream stream s J) → Among a J × (stream a ≡ s)
  among-of s a [] = λ m. absurd m
  among-of s a (d ∷ ds) =
      cond_both (stream d == s) (d ∷ of_stream stream s ds) (of_stream stream s ds) (λ ys. Among a ys → Among a (d ∷ ds) × (stream a ≡ s))
      (λ e m. elim m [ inl q ↦ (inl q, ap stream q ∙ eqb-true (stream d) s e) | inr n ↦ (let r : Among a ds × (stream a ≡ s) = among-of s a ds n in (inr r.0, r.1)) ])
      (λ _ m. let r : Among a ds × (stream a ≡ s) = among-of s a ds m in (inr r.0, r.1))

  pub to-of : (s : ℕ) (a : E) (J : List E) → Among a J → stream a ≡ s → Among a (of_stream stream s J)
  to-of s a [] m e = absurd m
  to-of s a (d ∷ ds) m e =
      cond_both (stream d == s) (d ∷ of_stream stream s ds) (of_stream stream s ds) (Among a)
      (λ _. elim m [ inl q ↦ inl q | inr n ↦ inr (to-of s a ds n e) ])
      (λ f. elim m [ inl q ↦ absurd (differ (sym (eq-eqb (stream d) s (sym (ap stream q) ∙ e)) ∙ f)) | inr n ↦ to-of s a ds n e ]) where
        differ : true ≡ false → ⊥
        differ e = cc

  pub of-own : (s : ℕ) (d : E) (ds : List E) → stream d ≡ s → of_stream stream s (d ∷ ds) ≡ d ∷ of_stream stream s ds
  of-own s d ds e = cond-true (stream d == s) (d ∷ of_stream stream s ds) (of_stream stream s ds) (eq-eqb (stream d) s e)

  pub of-other : (s : ℕ) (d : E) (ds : List E) → stream d ≢ s → of_stream stream s (d ∷ ds) ≡ of_stream stream s ds
  of-other s d ds ne = cond-false (stream d == s) (d ∷ of_stream stream s ds) (of_stream stream s ds) (ne_eqb (stream d) s ne)

  -- One item is put where it comes.

  record Placed (e : E) (J : List E) : Type 0 where
    list : List E
    in_order : IsByStamp stamp stream list
    own : of_stream stream (stream e) list ≡ e ∷ of_stream stream (stream e) J
    others : (r : ℕ) → stream e ≢ r → of_stream stream r list ≡ of_stream stream r J
    low : (a : E) → BeforeAll IsItemBefore a J → IsItemBefore a e → BeforeAll IsItemBefore a list

  place : (e : E) (J : List E) → IsByStamp stamp stream J → ((f : E) → Among f J → IsItemBefore e f ⊎ IsItemBefore f e) → ((f : E) → Among f J → stream f ≡ stream e → IsItemBefore e f) → Placed e J
  place e [] order apart first = record {
    list = e ∷ [];
    in_order = (tt, tt);
    own = of-own (stream e) e [] refl;
    others = λ r ne. of-other r e [] ne;
    low = λ a h k. (k, tt);
  }
  place e (f ∷ fs) order apart first = elim (apart f (inl refl)) [
    | inl here ↦ record {
      list = e ∷ f ∷ fs;
      in_order = ((here, before-then e f fs here order.0), order);
      own = of-own (stream e) e (f ∷ fs) refl;
      others = λ r ne. of-other r e (f ∷ fs) ne;
      low = λ a h k. (k, h);
    }
    | inr later ↦ (let r : Placed e fs = place e fs order.1 (λ g m. apart g (inr m)) (λ g m. first g (inr m)) in
        let ne : stream f ≢ stream e = λ q. item-one-way f e later (first f (inl refl) q) in
        record {
          list = f ∷ r.list;
          in_order = (r.low f order.0 later, r.in_order);
          own = of-other (stream e) f r.list ne ∙ (r.own ∙ ap (λ (ys : List E). e ∷ ys) (sym (of-other (stream e) f fs ne)));
          others = λ s other. ap (λ (ys : List E). if stream f == s then f ∷ ys else ys) (r.others s other);
          low = λ a h k. (h.0, r.low a h.1 k);
        })
  ]

  -- A whole log is added.

  record Added (s : ℕ) (log J : List E) : Type 0 where
    list : List E
    in_order : IsByStamp stamp stream list
    own : of_stream stream s list ≡ log
    others : (r : ℕ) → s ≢ r → of_stream stream r list ≡ of_stream stream r J

  add : (s : ℕ) (log J : List E) → Rises (map stamp log) → All (λ e. stream e ≡ s) log → IsByStamp stamp stream J → of_stream stream s J ≡ [] → Added s log J
  add s [] J rises all order none = record { list = J; in_order = order; own = none; others = λ r ne. refl }
  add s (e ∷ es) J rises all order none =
      let own : stream e ≡ s = All-head (λ x. stream x ≡ s) e es all in
      let r : Added s es J = add s es J (above-rises (stamp e) (map stamp es) rises) (All-tail (λ x. stream x ≡ s) e es all) order none in
      let later : (f : E) → Among f r.list → stream f ≡ stream e → IsItemBefore e f = (λ f m q. inl (among-above stamp (stamp e) es f rises (subst (Among f) r.own (to-of s f r.list m (q ∙ own))))) in
      let p : Placed e r.list = place e r.list r.in_order (λ f m. elim (cases_eq (stream f) (stream e)) [ inl q ↦ inl (later f m q) | inr ne ↦ apart-items e f ne ]) later in
      record {
        list = p.list;
        in_order = p.in_order;
        own = subst (λ t. of_stream stream t p.list ≡ e ∷ of_stream stream t r.list) own p.own ∙ ap (λ (ys : List E). e ∷ ys) r.own;
        others = λ t ne. p.others t (λ q. ne (sym own ∙ q)) ∙ r.others t ne;
      }

  -- The first logs are merged.

  record MergedBelow (logs : ℕ → List E) (n : ℕ) : Type 0 where
    list : List E
    in_order : IsByStamp stamp stream list
    each : (s : ℕ) → s < n → of_stream stream s list ≡ logs s
    none : (s : ℕ) → n ≤ s → of_stream stream s list ≡ []

  merged-below : (logs : ℕ → List E) → ((s : ℕ) → IsLogOf stamp stream s (logs s)) → (n : ℕ) → MergedBelow logs n
  merged-below logs are zero = record { list = []; in_order = tt; each = λ s l. absurd (omega arith); none = λ s l. refl }
  merged-below logs are (suc n) =
      let r : MergedBelow logs n = merged-below logs are n in
      let a : Added n (logs n) r.list = add n (logs n) r.list (are n).0 (are n).1 r.in_order (r.none n (omega arith)) in
      record {
        list = a.list;
        in_order = a.in_order;
        each = λ s l. elim (cases_eq n s) [
          | inl e ↦ subst (λ t. of_stream stream t a.list ≡ logs t) e a.own
          | inr ne ↦ a.others s ne ∙ r.each s (below s l ne)
        ];
        none = λ s l. a.others s (λ e. above s l e) ∙ r.none s (omega arith);
      } where
        below : (s : ℕ) → s < suc n → n ≢ s → s < n
        below s l ne = omega (arith, ne)

        above : (s : ℕ) → suc n ≤ s → n ≡ s → ⊥
        above s l e = omega arith

  pub merge-exists : (n : ℕ) (logs : ℕ → List E) → ((s : ℕ) → IsLogOf stamp stream s (logs s)) → ((s : ℕ) → n ≤ s → logs s ≡ []) → (J : List E) × IsMergeOf stamp stream logs J
  merge-exists n logs are none =
      let r : MergedBelow logs n = merged-below logs are n in
      (r.list, record { in_order = r.in_order; each = λ s. elim (cases_lt s n) [ inl l ↦ r.each s l | inr g ↦ r.none s g ∙ sym (none s g) ] })

  -- Members.

  pub in-merge : (logs : ℕ → List E) (J : List E) → IsMergeOf stamp stream logs J → (s : ℕ) (e : E) → Among e (logs s) → Among e J × (stream e ≡ s)
  in-merge logs J merged s e m = among-of s e J (subst (Among e) (sym (merged.each s)) m)

  pub in-log : (logs : ℕ → List E) (J : List E) → IsMergeOf stamp stream logs J → (e : E) → Among e J → Among e (logs (stream e))
  in-log logs J merged e m = subst (Among e) (merged.each (stream e)) (to-of (stream e) e J m refl)

  have-members : (logs : ℕ → List E) (J : List E) → IsMergeOf stamp stream logs J →
      ((s : ℕ) (e : E) → Contains (logs s) e → Contains J e) × ((e : E) → Contains J e → Contains (logs (stream e)) e)
  have-members logs J merged = (λ s e m. from-among J e (in-merge logs J merged s e (to-among (logs s) e m)).0, λ e m. from-among (logs (stream e)) e (in-log logs J merged e (to-among J e m)))

  merges-one : (logs : ℕ → List E) (J K : List E) → IsMergeOf stamp stream logs J → IsMergeOf stamp stream logs K → J ≡ K
  merges-one logs J K j k = in-order-unique IsItemBefore item-one-way J K j.in_order k.in_order
      (λ e m. (in-merge logs K k (stream e) e (in-log logs J j e m)).0)
      (λ e m. (in-merge logs J j (stream e) e (in-log logs K k e m)).0)

  -- a log is in order
  log-in-order : (log : List E) → Rises (map stamp log) → InOrder IsItemBefore log
  log-in-order [] r = tt
  log-in-order (e ∷ es) r = (earlier-first stamp IsItemBefore (λ a b l. inl l) e es (rises-earlier stamp e (stamp e) es (omega arith) r), log-in-order es (above-rises (stamp e) (map stamp es) r))

  pub members-make : (logs : ℕ → List E) (J : List E) → ((s : ℕ) → IsLogOf stamp stream s (logs s)) → IsByStamp stamp stream J →
      ((s : ℕ) (e : E) → Contains (logs s) e → Contains J e) → ((e : E) → Contains J e → Contains (logs (stream e)) e) → IsMergeOf stamp stream logs J
  members-make logs J are order all only = record {
    in_order = order;
    each = λ s. in-order-unique IsItemBefore item-one-way (of_stream stream s J) (logs s)
        (in-order-of IsItemBefore s J order)
        (log-in-order (logs s) (are s).0)
        (λ e m. let r : Among e J × (stream e ≡ s) = among-of s e J m in subst (λ t. Among e (logs t)) r.1 (to-among (logs (stream e)) e (only e (from-among J e r.0))))
        (λ e m. to-of s e J (to-among J e (all s e (from-among (logs s) e m))) (All-contains (λ x. stream x ≡ s) (logs s) e (are s).1 (from-among (logs s) e m)));
  }

module _ (E : Type 0) where
  pub merges-exist : MergesExist E
  merges-exist stamp stream n logs are none = merge-exists stamp stream n logs are none

  pub merges-are-one : MergesAreOne E
  merges-are-one stamp stream logs J K j k = merges-one stamp stream logs J K j k

  pub members-make-merges : MembersMakeMerges E
  members-make-merges stamp stream logs J are order all only = members-make stamp stream logs J are order all only

  pub merges-have-members : MergesHaveMembers E
  merges-have-members stamp stream logs J merged = have-members stamp stream logs J merged
