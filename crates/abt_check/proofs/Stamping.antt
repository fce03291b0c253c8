-- One event more of a stamped journal.
use Rattle.std.proofs.Common.{◌≡◌, zero, suc, ◌≤◌, ◌<◌, List, [], ◌∷◌, ◌++◌, Contains, Some, arith, length, refl, subst}
use Rattle.abt_machine.specs.declared.events.Event.{Event}
use Rattle.abt_machine.specs.declared.workload.Parts.{Parts}
use Rattle.abt_machine.specs.Queues.{last}
use Rattle.abt_machine.specs.Stamps.{AllAfter, Shares, Stamped, StampedFrom}
use Rattle.abt_check.specs.Clocks.{FollowsLast}

-- Places.

head-there : (a : Event) (fs : List Event) → Contains (a ∷ fs) a
head-there a fs = (0, omega arith, refl)

tail-there : (a f : Event) (fs : List Event) → Contains fs f → Contains (a ∷ fs) f
tail-there a f fs has = let l : has.0 < length fs = has.1 in (suc has.0, omega arith, has.2)

pub last-push : (J : List Event) (e : Event) → last (J ++ e ∷ []) ≡ Some e
last-push [] e = refl
last-push (a ∷ []) e = refl
last-push (a ∷ f ∷ J) e = last-push (f ∷ J) e

module _ (W : Parts) where
  all-push : (a e : Event) (fs : List Event) → AllAfter W a fs → (Shares W a e → a.stamp < e.stamp) → AllAfter W a (fs ++ e ∷ [])
  all-push a e [] all above = (above, tt)
  all-push a e (f ∷ fs) all above = (all.0, all-push a e fs all.1 above)

  all-front : (a : Event) (fs gs : List Event) → AllAfter W a (fs ++ gs) → AllAfter W a fs
  all-front a [] gs all = tt
  all-front a (f ∷ fs) gs all = (all.0, all-front a fs gs all.1)

  all-last : (a e : Event) (fs : List Event) → AllAfter W a (fs ++ e ∷ []) → Shares W a e → a.stamp < e.stamp
  all-last a e [] all = all.0
  all-last a e (f ∷ fs) all = all-last a e fs all.1

  from-push : (a e : Event) (fs : List Event) → StampedFrom W a fs → FollowsLast (last (a ∷ fs)) e → ((f : Event) → Contains (a ∷ fs) f → Shares W f e → f.stamp < e.stamp) → StampedFrom W a (fs ++ e ∷ [])
  from-push a e [] st follows above = (follows, (above a (head-there a []), tt), tt)
  from-push a e (f ∷ fs) st follows above =
      (st.0, all-push a e (f ∷ fs) st.1 (above a (head-there a (f ∷ fs))), from-push f e fs st.2 follows (λ g has. above g (tail-there a g (f ∷ fs) has)))

  from-front : (a : Event) (fs gs : List Event) → StampedFrom W a (fs ++ gs) → StampedFrom W a fs
  from-front a [] gs st = tt
  from-front a (f ∷ fs) gs st = (st.0, all-front a (f ∷ fs) gs st.1, from-front f fs gs st.2)

  from-last : (a e : Event) (fs : List Event) → StampedFrom W a (fs ++ e ∷ []) → FollowsLast (last (a ∷ fs)) e
  from-last a e [] st = st.0
  from-last a e (f ∷ fs) st = from-last f e fs st.2

  from-above : (a e : Event) (fs : List Event) → StampedFrom W a (fs ++ e ∷ []) → (f : Event) → Contains (a ∷ fs) f → Shares W f e → f.stamp < e.stamp
  from-above a e [] st f (zero, l, is) = subst (λ g. Shares W g e → g.stamp < e.stamp) is (all-last a e [] st.1)
  from-above a e [] st f (suc k, l, is) = absurd (omega arith)
  from-above a e (g ∷ fs) st f (zero, l, is) = subst (λ g. Shares W g e → g.stamp < e.stamp) is (all-last a e (g ∷ fs) st.1)
  from-above a e (g ∷ fs) st f (suc k, l, is) = from-above g e fs st.2 f (k, omega arith, is)

  from-some : (a e : Event) (fs : List Event) → 1 ≤ a.stamp → StampedFrom W a (fs ++ e ∷ []) → 1 ≤ e.stamp
  from-some a e [] one st = let up : a.stamp ≤ e.stamp = st.0.0 in omega arith
  from-some a e (f ∷ fs) one st = let up : a.stamp ≤ f.stamp = st.0.0 in from-some f e fs (omega arith) st.2

  -- an event more
  pub stamped-push : (J : List Event) (e : Event) → Stamped W J → FollowsLast (last J) e → ((f : Event) → Contains J f → Shares W f e → f.stamp < e.stamp) → Stamped W (J ++ e ∷ [])
  stamped-push [] e st follows above = (follows, tt)
  stamped-push (a ∷ J) e st follows above = (st.0, from-push a e J st.1 follows above)

  -- first events
  pub stamped-front : (J K : List Event) → Stamped W (J ++ K) → Stamped W J
  stamped-front [] K st = tt
  stamped-front (a ∷ J) K st = (st.0, from-front a J K st.1)

  -- the last event
  pub stamped-last : (J : List Event) (e : Event) → Stamped W (J ++ e ∷ []) → FollowsLast (last J) e
  stamped-last [] e st = st.0
  stamped-last (a ∷ J) e st = from-last a e J st.1

  pub stamped-above : (J : List Event) (e : Event) → Stamped W (J ++ e ∷ []) → (f : Event) → Contains J f → Shares W f e → f.stamp < e.stamp
  stamped-above [] e st f (k, l, is) = absurd (omega arith)
  stamped-above (a ∷ J) e st f has = from-above a e J st.1 f has

  pub stamped-some : (J : List Event) (e : Event) → Stamped W (J ++ e ∷ []) → 1 ≤ e.stamp
  stamped-some [] e st = let one : e.stamp ≡ 1 = st.0 in omega arith
  stamped-some (a ∷ J) e st = let one : a.stamp ≡ 1 = st.0 in from-some a e J (omega arith) st.1
