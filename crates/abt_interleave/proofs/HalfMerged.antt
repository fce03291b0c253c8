-- Logs are merged item by item.
use Rattle.std.proofs.Common.{◌≡◌, ◌≢◌, ℕ, ◌==◌, List, [], ◌∷◌, ◌++◌, map, refl, sym, ◌∙◌, ap, subst, inl, inr}
use Rattle.std.proofs.lemmas.Bool.{cases_eq}
use Rattle.std.proofs.lemmas.List.{append_assoc, append-nil}
use Rattle.std.proofs.lemmas.List.Elements.{All-contains, filter-append}
use Rattle.abt_interleave.specs.Histories.{RisesAbove}
use Rattle.abt_interleave.specs.Logs.{BeforeAll, InOrder}
use Rattle.abt_interleave.specs.Merges.{Rises, of_stream, IsLogOf, IsMergeOf, IsMerging}
use Rattle.abt_interleave.specs.MergeLaws.{MergingBegins, MergingGoesOn, MergingEnds}
use Rattle.abt_interleave.proofs.Members.{Among, to-among, from-among}
use Rattle.abt_interleave.proofs.Clocks.{among-above}
use Rattle.abt_interleave.proofs.Prefixes.{among-push, among-right}
use Rattle.abt_interleave.proofs.OneList.{above-rises, IsItemBefore, item-then, of-own, of-other}

before-push : {A : Type 0} (R : A → A → Type 0) (a b : A) (xs : List A) → BeforeAll R a xs → R a b → BeforeAll R a (xs ++ b ∷ [])
before-push R a b [] h r = (r, tt)
before-push R a b (x ∷ xs) h r = (h.0, before-push R a b xs h.1 r)

in-order-push : {A : Type 0} (R : A → A → Type 0) (b : A) (xs : List A) → InOrder R xs → ((a : A) → Among a xs → R a b) → InOrder R (xs ++ b ∷ [])
in-order-push R b [] h r = (tt, tt)
in-order-push R b (x ∷ xs) h r = (before-push R x b xs h.0 (r x (inl refl)), in-order-push R b xs h.1 (λ a m. r a (inr m)))

module _ {E : Type 0} (stamp stream : E → ℕ) where
  rises-back : (n : ℕ) (xs ys : List E) → RisesAbove n (map stamp (xs ++ ys)) → Rises (map stamp ys)
  rises-back n [] ys r = above-rises n (map stamp ys) r
  rises-back n (x ∷ xs) ys r = rises-back (stamp x) xs ys r.1

  rises-end : (xs ys : List E) → Rises (map stamp (xs ++ ys)) → Rises (map stamp ys)
  rises-end [] ys r = r
  rises-end (x ∷ xs) ys r = rises-back (stamp x) xs ys r

  begins : (logs : ℕ → List E) → IsMerging stamp stream logs logs []
  begins logs = record { in_order = tt; each = λ s. refl; behind = λ s e f m n. absurd (to-among [] f n) }

  ends : (logs left : ℕ → List E) (J : List E) → IsMerging stamp stream logs left J → ((s : ℕ) → left s ≡ []) → IsMergeOf stamp stream logs J
  ends logs left J way none = record { in_order = way.in_order; each = λ s. sym (append-nil (of_stream stream s J)) ∙ (sym (ap (λ (ys : List E). of_stream stream s J ++ ys) (none s)) ∙ way.each s) }

  module _ (logs left new : ℕ → List E) (J : List E) (s : ℕ) (e : E) (are : (r : ℕ) → IsLogOf stamp stream r (logs r)) (way : IsMerging stamp stream logs left J)
      (here : left s ≡ e ∷ new s) (else : (r : ℕ) → s ≢ r → new r ≡ left r)
      (first : (r : ℕ) (f : E) (fs : List E) → s ≢ r → left r ≡ f ∷ fs → IsItemBefore stamp stream e f) where
    -- what is left of a log rises
    left-rises : (r : ℕ) → Rises (map stamp (left r))
    left-rises r = rises-end (of_stream stream r J) (left r) (subst (λ (ys : List E). Rises (map stamp ys)) (sym (way.each r)) (are r).0)

    e-left : Among e (left s)
    e-left = subst (Among e) (sym here) (inl refl)

    -- the item is of that stream
    own : stream e ≡ s
    own = All-contains (λ x. stream x ≡ s) (logs s) e (are s).1 (from-among (logs s) e (subst (Among e) (way.each s) (among-right e (of_stream stream s J) (left s) e-left)))

    done-before : (f : E) → Among f J → IsItemBefore stamp stream f e
    done-before f m = way.behind s e f (from-among (left s) e e-left) (from-among J f m)

    -- it comes before all that is left
    later-own : (f : E) → Among f (new s) → IsItemBefore stamp stream e f
    later-own f m = inl (among-above stamp (stamp e) (new s) f (subst (λ (ys : List E). Rises (map stamp ys)) here (left-rises s)) m)

    later-in : (fs : List E) → Rises (map stamp fs) → ((f : E) (gs : List E) → fs ≡ f ∷ gs → IsItemBefore stamp stream e f) → (f : E) → Among f fs → IsItemBefore stamp stream e f
    later-in [] rises h f m = absurd m
    later-in (g ∷ gs) rises h f m = elim m [
      | inl q ↦ subst (IsItemBefore stamp stream e) (sym q) (h g gs refl)
      | inr k ↦ item-then stamp stream e g f (h g gs refl) (inl (among-above stamp (stamp g) gs f rises k))
    ]

    later-other : (r : ℕ) → s ≢ r → (f : E) → Among f (left r) → IsItemBefore stamp stream e f
    later-other r ne f m = later-in (left r) (left-rises r) (λ g gs q. first r g gs ne q) f m

    still-left : (r : ℕ) (f : E) → Among f (new r) → Among f (left r)
    still-left r f m = elim (cases_eq s r) [
      | inl q ↦ subst (λ t. Among f (left t)) q (subst (Among f) (sym here) (inr (subst (λ t. Among f (new t)) (sym q) m)))
      | inr ne ↦ subst (Among f) (else r ne) m
    ]

    before-left : (r : ℕ) (f : E) → Among f (new r) → IsItemBefore stamp stream e f
    before-left r f m = elim (cases_eq s r) [
      | inl q ↦ later-own f (subst (λ t. Among f (new t)) (sym q) m)
      | inr ne ↦ later-other r ne f (subst (Among f) (else r ne) m)
    ]

    of-push : (r : ℕ) → of_stream stream r (J ++ e ∷ []) ≡ of_stream stream r J ++ of_stream stream r (e ∷ [])
    of-push r = filter-append (λ x. stream x == r) J (e ∷ [])

    pub goes-on : IsMerging stamp stream logs new (J ++ e ∷ [])
    goes-on = record {
      in_order = in-order-push (IsItemBefore stamp stream) e J way.in_order done-before;
      each = λ r. elim (cases_eq s r) [
        | inl q ↦ subst (λ t. of_stream stream t (J ++ e ∷ []) ++ new t ≡ logs t) q
            (ap (λ (ys : List E). ys ++ new s) (of-push s ∙ ap (λ (ys : List E). of_stream stream s J ++ ys) (of-own stamp stream s e [] own))
            ∙ (append_assoc (of_stream stream s J) (e ∷ []) (new s) ∙ (ap (λ (ys : List E). of_stream stream s J ++ ys) (sym here) ∙ way.each s)))
        | inr ne ↦ ap (λ (ys : List E). ys ++ new r) (of-push r ∙ (ap (λ (ys : List E). of_stream stream r J ++ ys) (of-other stamp stream r e [] (λ q. ne (sym own ∙ q))) ∙ append-nil (of_stream stream r J)))
            ∙ (ap (λ (ys : List E). of_stream stream r J ++ ys) (else r ne) ∙ way.each r)
      ];
      behind = λ r f g m n. elim (among-push g e J (to-among (J ++ e ∷ []) g n)) [
        | inl k ↦ way.behind r f g (from-among (left r) f (still-left r f (to-among (new r) f m))) (from-among J g k)
        | inr q ↦ subst (λ z. IsItemBefore stamp stream z f) (sym q) (before-left r f (to-among (new r) f m))
      ];
    }

module _ (E : Type 0) where
  pub merging-begins : MergingBegins E
  merging-begins stamp stream logs = begins stamp stream logs

  pub merging-goes-on : MergingGoesOn E
  merging-goes-on stamp stream logs left new J s e are way here else first = goes-on stamp stream logs left new J s e are way here else first

  pub merging-ends : MergingEnds E
  merging-ends stamp stream logs left J way none = ends stamp stream logs left J way none
