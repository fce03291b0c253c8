-- What items are seen as has the stamps that they have.
use Rattle.std.proofs.Common.{◌≡◌, ℕ, ◌<◌, List, [], ◌∷◌, ◌++◌, map, Option, refl, sym, ◌∙◌, ap, subst, inl, inr}
use Rattle.std.proofs.lemmas.List.{map-append}
use Rattle.abt_interleave.specs.Stamps as of
use Rattle.abt_interleave.proofs.Members.{Among, to-among, from-among}
use Rattle.abt_interleave.proofs.Prefixes.{among-push}

-- Items of one kind are seen as items of another, with these stamps, streams and places; `place` is where they call themselves.
module _ {Item Seen Place : Type 0} (see : Item → Seen) (stamp stream : Seen → ℕ) (site : Seen → Option Place) (place : Item → Option Place) where
  -- the item calls where it is seen to
  abbrev pub Agrees : Item → Type 0
  Agrees a = place a ≡ site (see a)

  abbrev Shares : Item → Item → Type 0
  Shares a b = of.Shares (λ c. stamp (see c)) (λ c. stream (see c)) place a b

  -- items that share something
  shares-seen : (a b : Item) → Agrees a → Agrees b → Shares a b → of.Shares stamp stream site (see a) (see b)
  shares-seen a b ca cb h = elim h [ inl same ↦ inl same | inr both ↦ inr (both.0, sym ca ∙ both.1, sym cb ∙ both.2) ]

  -- and if they are seen to
  seen-shares : (a b : Item) → Agrees a → Agrees b → of.Shares stamp stream site (see a) (see b) → Shares a b
  seen-shares a b ca cb h = elim h [ inl same ↦ inl same | inr both ↦ inr (both.0, ca ∙ both.1, cb ∙ both.2) ]

  -- all items after one
  all-after : (a : Item) (bs : List Item) → Agrees a → ((b : Item) → Among b bs → Agrees b) → of.AllAfter (λ c. stamp (see c)) (λ c. stream (see c)) place a bs → of.AllAfter stamp stream site (see a) (map see bs)
  all-after a [] ca agree h = tt
  all-after a (b ∷ bs) ca agree h = ((λ shares. h.0 (seen-shares a b ca (agree b (inl refl)) shares)), all-after a bs ca (λ c m. agree c (inr m)) h.1)

  -- items from one on
  stamped-from : (a : Item) (bs : List Item) → Agrees a → ((b : Item) → Among b bs → Agrees b) → of.StampedFrom (λ c. stamp (see c)) (λ c. stream (see c)) place a bs → of.StampedFrom stamp stream site (see a) (map see bs)
  stamped-from a [] ca agree h = tt
  stamped-from a (b ∷ bs) ca agree h = (h.0, all-after a (b ∷ bs) ca agree h.1, stamped-from b bs (agree b (inl refl)) (λ c m. agree c (inr m)) h.2)

  -- what stamped items are seen as is stamped
  pub stamped-seen : (bs : List Item) → ((b : Item) → Among b bs → Agrees b) → of.Stamped (λ c. stamp (see c)) (λ c. stream (see c)) place bs → of.Stamped stamp stream site (map see bs)
  stamped-seen [] agree h = tt
  stamped-seen (b ∷ bs) agree h = (h.0, stamped-from b bs (agree b (inl refl)) (λ c m. agree c (inr m)) h.1)

  -- what is among those that are seen is seen of one of them
  of-seen : (x : Seen) (bs : List Item) → Among x (map see bs) → (b : Item) × Among b bs × (see b ≡ x)
  of-seen x [] m = absurd m
  of-seen x (b ∷ bs) m = elim m [ inl same ↦ (b, inl refl, sym same) | inr later ↦ (let r : (c : Item) × Among c bs × (see c ≡ x) = of-seen x bs later in (r.0, inr r.1, r.2)) ]

  among-seen : (a : Item) (bs : List Item) → Among a bs → Among (see a) (map see bs)
  among-seen a [] m = m
  among-seen a (b ∷ bs) m = elim m [ inl same ↦ inl (ap see same) | inr later ↦ inr (among-seen a bs later) ]

  -- a least stamp
  least : (earlier : List Item) (a : Item) → ((b : Item) → Among b earlier → Agrees b) → Agrees a → of.IsLeast (λ c. stamp (see c)) (λ c. stream (see c)) place earlier a → of.IsLeast stamp stream site (map see earlier) (see a)
  least earlier a agree ca h =
      elim h [
        | inl one ↦ inl one
        | inr after ↦ (let m : Among after.0 earlier = to-among earlier after.0 after.1 in
            inr (see after.0, from-among (map see earlier) (see after.0) (among-seen after.0 earlier m), shares-seen after.0 a (agree after.0 m) ca after.2, after.3))
      ]

  -- Lamport's stamps from one item on
  lamport-from : (earlier bs : List Item) → ((b : Item) → Among b earlier → Agrees b) → ((b : Item) → Among b bs → Agrees b) → of.LamportFrom (λ c. stamp (see c)) (λ c. stream (see c)) place earlier bs → of.LamportFrom stamp stream site (map see earlier) (map see bs)
  lamport-from earlier [] before agree h = tt
  lamport-from earlier (b ∷ bs) before agree h =
      let cb : Agrees b = agree b (inl refl) in (
        (λ x m shares.
            let r : (c : Item) × Among c earlier × (see c ≡ x) = of-seen x earlier (to-among (map see earlier) x m) in
            subst (λ (y : Seen). stamp y < stamp (see b)) r.2 (h.0 r.0 (from-among earlier r.0 r.1) (seen-shares r.0 b (before r.0 r.1) cb (subst (λ y. of.Shares stamp stream site y (see b)) (sym r.2) shares)))),
        least earlier b before cb h.1,
        subst (λ xs. of.LamportFrom stamp stream site xs (map see bs)) (map-append see earlier (b ∷ []))
            (lamport-from (earlier ++ b ∷ []) bs (λ c m. elim (among-push c b earlier m) [ inl old ↦ before c old | inr same ↦ subst Agrees (sym same) cb ]) (λ c m. agree c (inr m)) h.2),
      )

  -- what items with Lamport's stamps are seen as has Lamport's stamps
  pub lamport-seen : (bs : List Item) → ((b : Item) → Among b bs → Agrees b) → of.Lamport (λ c. stamp (see c)) (λ c. stream (see c)) place bs → of.Lamport stamp stream site (map see bs)
  lamport-seen bs agree h = (stamped-seen bs agree h.0, lamport-from [] bs (λ c m. absurd m) agree h.1)
