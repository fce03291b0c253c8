-- States that are alike at a stream and a site: what is seen from there is the same.
use Rattle.std.proofs.Common.{◌≡◌, ◌≢◌, ℕ, List, length, Option, Some, None, option_map, refl, sym, ◌∙◌, ap, subst, ◌⊎◌, inl, inr}
use Rattle.abt_machine.specs.declared.events.Place.{Place}
use Rattle.abt_machine.specs.declared.events.Site.{Site}
use Rattle.abt_machine.specs.declared.events.Site.TheVariants as site
use Rattle.abt_machine.specs.declared.workload.Parts.{Parts}
use Rattle.abt_machine.specs.Numbers.{pool_no, unit_no, object_no}
use Rattle.abt_machine.specs.Maps.{put_all}
use Rattle.abt_machine.specs.Sites.{object_site}
use Rattle.abt_machine.specs.Queues.{first, last}
use Rattle.abt_machine.specs.State.{State, Carried}
use Rattle.abt_machine.specs.Lines.{Line, InPool, InTray, InHand, InNext, ticket_in, standing, hand, next, end_from, tray_end}
use Rattle.abt_machine.specs.Next.{due, due_by, at_position}
use Rattle.abt_machine.specs.Fronts.{at_end, front, side_of}
use Rattle.abt_machine.specs.Changes.{Change, changed}
use Rattle.abt_laws.specs.Footprint.{Holder, OfStream, OfSite, holder, Within, Apart}
use Rattle.abt_laws.proofs.Lists.{EachOf}
use Rattle.abt_laws.proofs.Queues.{queue-cong}
use Rattle.abt_laws.proofs.Maps.{KeyOf-cases, put_all-other}
use Rattle.abt_laws.proofs.Keeping.{IsKept, line_holder, ticket-kept, hand-kept}
use Rattle.abt_laws.proofs.Local.{IsLocal, site-stays, stream-stays, unit-stays, lands-kept}

-- the same at stream s and site x, and the same units that these keep
pub record IsAlike (W : Parts) (s : ℕ) (x : Option Site) (S T : State) : Type 0 where
  pub units : (u : ℕ) → IsKept W S s x u ⊎ IsKept W T s x u → (S.place u ≡ T.place u) × (S.carried u ≡ T.carried u)
  pub desk : (v : ℕ) → x ≡ Some (site.Desk (unit_no v)) → S.desk v ≡ T.desk v
  pub pool_next : (p : ℕ) → x ≡ Some (site.Pool (pool_no p)) → S.pool_next p ≡ T.pool_next p
  pub join_next : (v : ℕ) → x ≡ Some (site.Desk (unit_no v)) → S.join_next v ≡ T.join_next v
  pub object_next : (y : ℕ) → x ≡ Some (object_site W y) → S.object_next y ≡ T.object_next y
  pub mutex : (y : ℕ) → x ≡ Some (site.Monitor (object_no y)) → S.mutex y ≡ T.mutex y
  pub eventual : (y : ℕ) → x ≡ Some (site.Eventual (object_no y)) → S.eventual y ≡ T.eventual y
  pub future : (y : ℕ) → x ≡ Some (site.Future (object_no y)) → S.future y ≡ T.future y
  pub rwlock : (y : ℕ) → x ≡ Some (site.Rw (object_no y)) → S.rwlock y ≡ T.rwlock y
  pub stream : S.stream s ≡ T.stream s

-- as seen from the other state
pub alike-sym : (W : Parts) (s : ℕ) (x : Option Site) (S T : State) → IsAlike W s x S T → IsAlike W s x T S
alike-sym W s x S T alike = record {
  units = λ u k. let same : (S.place u ≡ T.place u) × (S.carried u ≡ T.carried u) = alike.units u (elim k [ inl a ↦ inr a | inr b ↦ inl b ]) in (sym same.0, sym same.1);
  desk = λ v e. sym (alike.desk v e);
  pool_next = λ p e. sym (alike.pool_next p e);
  join_next = λ v e. sym (alike.join_next v e);
  object_next = λ y e. sym (alike.object_next y e);
  mutex = λ y e. sym (alike.mutex y e);
  eventual = λ y e. sym (alike.eventual y e);
  future = λ y e. sym (alike.future y e);
  rwlock = λ y e. sym (alike.rwlock y e);
  stream = sym alike.stream;
}

-- S with what R has at site x, so that states that are alike there become the same
abbrev pub seen : State → Option Site → State → State
seen S (Some (site.Desk v)) R = record S { desk = λ _. R.desk v.0 }
seen S (Some (site.Monitor y)) R = record S { mutex = λ _. R.mutex y.0 }
seen S (Some (site.Eventual y)) R = record S { eventual = λ _. R.eventual y.0 }
seen S (Some (site.Future y)) R = record S { future = λ _. R.future y.0 }
seen S (Some (site.Rw y)) R = record S { rwlock = λ _. R.rwlock y.0 }
seen S _ R = S

pub seen-same : (W : Parts) (s : ℕ) (x : Option Site) (S T : State) → IsAlike W s x S T → seen S x S ≡ seen S x T
seen-same W s (Some (site.Desk v)) S T alike = λ i. record S { desk = λ _. alike.desk v.0 refl i }
seen-same W s (Some (site.Monitor y)) S T alike = λ i. record S { mutex = λ _. alike.mutex y.0 refl i }
seen-same W s (Some (site.Eventual y)) S T alike = λ i. record S { eventual = λ _. alike.eventual y.0 refl i }
seen-same W s (Some (site.Future y)) S T alike = λ i. record S { future = λ _. alike.future y.0 refl i }
seen-same W s (Some (site.Rw y)) S T alike = λ i. record S { rwlock = λ _. alike.rwlock y.0 refl i }
seen-same W s _ S T alike = refl

-- nothing is kept at both of two places that are apart
pub not-both : (s r : ℕ) (x y : Option Site) (h : Holder) → s ≢ r → Apart x y → Within s x h → Within r y h → ⊥
not-both s r x y (OfStream q) ne apart a b = ne (sym a ∙ b)
not-both s r x y (OfSite z) ne apart a b = apart z a b

-- A local change leaves the same at another stream and another site.

module _ (W : Parts) (S : State) (s r : ℕ) (x y : Option Site) (c : Change) (ne : s ≢ r) (apart : Apart x y) (here : IsLocal W S s x c) where
  -- what is kept at the other stream or site beforehand
  kept-stays : (u : ℕ) → IsKept W S r y u → (S.place u ≡ put_all S.place c.moves u) × (S.carried u ≡ put_all S.carried c.carried u)
  kept-stays u w =
      let same : (put_all S.place c.moves u ≡ S.place u) × (put_all S.carried c.carried u ≡ S.carried u) = unit-stays W S s x c here u (λ v. not-both s r x y (holder W u (S.place u)) ne apart v w) in
      (sym same.0, sym same.1)

  -- what is kept there afterwards
  kept-stayed : (u : ℕ) → IsKept W (changed S c) r y u → (S.place u ≡ put_all S.place c.moves u) × (S.carried u ≡ put_all S.carried c.carried u)
  kept-stayed u w =
      elim (KeyOf-cases u c.moves) [
        | inl k ↦ absurd (not-both s r x y (holder W u (put_all S.place c.moves u)) ne apart (lands-kept W S s x c here u k) w)
        | inr out ↦ kept-stays u (subst (λ pl. Within r y (holder W u pl)) (put_all-other S.place c.moves u out) w)
      ]

  -- a part at the other site
  stays : {A : Type 0} (at : ℕ → Site) (f : ℕ → A) (ps : List (ℕ × A)) → EachOf (λ (m : ℕ × A). x ≡ Some (at m.0)) ps → (n : ℕ) → y ≡ Some (at n) → f n ≡ put_all f ps n
  stays at f ps a n e = sym (site-stays W S s x c here at f ps a n (λ h. apart (at n) h e))

  pub alike-after : IsAlike W r y S (changed S c)
  alike-after = record {
    units = λ u either. elim either [ inl w ↦ kept-stays u w | inr w ↦ kept-stayed u w ];
    desk = stays (λ n. site.Desk (unit_no n)) S.desk c.desks here.desks;
    pool_next = stays (λ n. site.Pool (pool_no n)) S.pool_next c.pool_next here.pool_next;
    join_next = stays (λ n. site.Desk (unit_no n)) S.join_next c.join_next here.join_next;
    object_next = stays (object_site W) S.object_next c.object_next here.object_next;
    mutex = stays (λ n. site.Monitor (object_no n)) S.mutex c.mutexes here.mutexes;
    eventual = stays (λ n. site.Eventual (object_no n)) S.eventual c.eventuals here.eventuals;
    future = stays (λ n. site.Future (object_no n)) S.future c.futures here.futures;
    rwlock = stays (λ n. site.Rw (object_no n)) S.rwlock c.rwlocks here.rwlocks;
    stream = sym (stream-stays W S s x c here r (λ e. ne (sym e)));
  }

-- What is seen in alike states.

module _ (W : Parts) (s : ℕ) (x : Option Site) (S T : State) (alike : IsAlike W s x S T) where
  -- what is the same at all places that are not kept here, is the same in both
  pub seen-alike : {A : Type 0} (see : Place → A) (other : A) (u : ℕ) → ((pl : Place) → Within s x (holder W u pl) ⊎ (see pl ≡ other)) → see (S.place u) ≡ see (T.place u)
  seen-alike see other u look =
      elim (look (S.place u)) [
        | inl w ↦ ap see (alike.units u (inl w)).0
        | inr a ↦ elim (look (T.place u)) [ inl w ↦ ap see (alike.units u (inr w)).0 | inr b ↦ a ∙ sym b ]
      ]

  ticket-alike : (l : Line) → Within s x (line_holder W l) → (u : ℕ) → ticket_in l (S.place u) ≡ ticket_in l (T.place u)
  ticket-alike l w u = by (ticket_in l (S.place u)) (ticket_in l (T.place u)) refl refl where
    by : (a b : Option ℕ) → ticket_in l (S.place u) ≡ a → ticket_in l (T.place u) ≡ b → ticket_in l (S.place u) ≡ ticket_in l (T.place u)
    by None None e f = e ∙ sym f
    by (Some t) b e f = ap (ticket_in l) (alike.units u (inl (ticket-kept W S s x l u t w e))).0
    by None (Some t) e f = ap (ticket_in l) (alike.units u (inr (ticket-kept W T s x l u t w f))).0

  pub standing-alike : (l : Line) → Within s x (line_holder W l) → standing W S l ≡ standing W T l
  standing-alike l w = queue-cong (λ u. ticket_in l (S.place u)) (λ u. ticket_in l (T.place u)) (length W.units) (λ u _. ticket-alike l w u)

  pub hand-alike : hand W S s ≡ hand W T s
  hand-alike = ap first (standing-alike (InHand s) refl)

  pub next-alike : next W S s ≡ next W T s
  next-alike = ap first (standing-alike (InNext s) refl)

  pub front-alike : (p : ℕ) → x ≡ Some (site.Pool (pool_no p)) → front W S s p ≡ front W T s p
  front-alike p e = ap (at_end (side_of W s p)) (standing-alike (InPool p) e)

  end-alike : (o : Option ℕ) → end_from S (InTray s) o ≡ end_from T (InTray s) o
  end-alike None = refl
  end-alike (Some u) = let same : ticket_in (InTray s) (S.place u) ≡ ticket_in (InTray s) (T.place u) = ticket-alike (InTray s) refl u in rw same

  pub tray_end-alike : tray_end W S s ≡ tray_end W T s
  tray_end-alike = end-alike (last (standing W S (InTray s))) ∙ ap (λ us. end_from T (InTray s) (last us)) (standing-alike (InTray s) refl)

  -- what the unit in hand carries
  pub caller-alike : (u : ℕ) → hand W S s ≡ Some u → S.carried u ≡ T.carried u
  caller-alike u e = (alike.units u (inl (hand-kept W S s x u e))).1

  position-alike : (o : Option ℕ) → hand W S s ≡ o → option_map (at_position S) o ≡ option_map (at_position T) o
  position-alike None e = refl
  position-alike (Some u) e = ap (λ (c : Carried). Some (u, c.position)) (caller-alike u e)

  pub due-alike : due W S s ≡ due W T s
  due-alike =
      ap (due_by W s (S.stream s) (standing W S (InTray s)) (next W S s)) (position-alike (hand W S s) refl ∙ ap (option_map (at_position T)) hand-alike)
      ∙ (ap (λ v. due_by W s (S.stream s) (standing W S (InTray s)) v (option_map (at_position T) (hand W T s))) next-alike
      ∙ (ap (λ us. due_by W s (S.stream s) us (next W T s) (option_map (at_position T) (hand W T s))) (standing-alike (InTray s) refl)
      ∙ ap (λ own. due_by W s own (standing W T (InTray s)) (next W T s) (option_map (at_position T) (hand W T s))) alike.stream))
