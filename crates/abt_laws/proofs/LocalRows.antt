-- The rows of operations change only their stream, their site, and units that these keep.
use Rattle.std.proofs.Common.{◌≡◌, ℕ, suc, ◌==◌, if◌then◌else◌, Bool, List, [], ◌∷◌, length, map, Option, Some, None, refl}
use Rattle.std.proofs.lemmas.Bool.{cond_both}
use Rattle.abt_machine.specs.declared.events.Place.{Place}
use Rattle.abt_machine.specs.declared.events.Place.TheVariants as place
use Rattle.abt_machine.specs.declared.events.Site.{Site}
use Rattle.abt_machine.specs.declared.events.Site.TheVariants as site
use Rattle.abt_machine.specs.declared.events.Spot.TheVariants as spot
use Rattle.abt_machine.specs.declared.workload.Parts.{Parts}
use Rattle.abt_machine.specs.Numbers.{stream_no, unit_no, object_no}
use Rattle.abt_machine.specs.Workloads.{size_of}
use Rattle.abt_machine.specs.Sites.{object_site}
use Rattle.abt_machine.specs.Monitors.{number_of}
use Rattle.abt_machine.specs.Queues.{first_alone}
use Rattle.abt_machine.specs.RwLocks.{left_by, passed_on, woken}
use Rattle.abt_machine.specs.State.{State, Carried, Future, RwLock}
use Rattle.abt_machine.specs.Lines.{Waiting, hand, standing, tray_end}
use Rattle.abt_machine.specs.Changes.{Change, no_change, tray_moves, to_tray, waiting_moves, goes_with, goes_on}
use Rattle.abt_machine.specs.Steps.{wakes, begins, joins, waits, locks, hands_over, releases, queues, passes, receives, gives_all, awaits, fills, arrives, gives_up}
use Rattle.abt_machine.specs.Values.{RwLockValue, rwlock_value}
use Rattle.abt_laws.proofs.Granted.{woken-each}
use Rattle.abt_laws.proofs.LineMoves.{tray_moves-each, waiting_moves-each}
use Rattle.abt_laws.proofs.Lists.{EachOf, EachOf-append, EachOf-map}
use Rattle.abt_laws.proofs.Keeping.{IsKept, hand-kept, standing-kept, one-kept}
use Rattle.abt_laws.proofs.Local.{MovesWithin, IsLocal, local-none, local-moves, local-carried, local-desk, local-join_next, local-object_next, local-mutex, local-future, local-rwlock}

-- Units that stream s or site x keeps stay there when they move to a tray or to an object of the site.

module _ (W : Parts) (S : State) (s : ℕ) (x : Option Site) where
  pub tray-within : (us : List ℕ) (i : ℕ) → EachOf (IsKept W S s x) us → EachOf (MovesWithin W S s x) (tray_moves s i us)
  tray-within us i a = tray_moves-each (MovesWithin W S s x) (IsKept W S s x) s i us (λ u t kept. (kept, refl)) a

  waiting-within : (y : ℕ) (us : List ℕ) (t : ℕ) → x ≡ Some (object_site W y) → EachOf (IsKept W S s x) us → EachOf (MovesWithin W S s x) (waiting_moves y t us)
  waiting-within y us t e a = waiting_moves-each (MovesWithin W S s x) (IsKept W S s x) y t us (λ u k b kept. (kept, e)) a

  receives-within : (value : ℕ) (us : List ℕ) → EachOf (IsKept W S s x) us → EachOf (λ m. IsKept W S s x m.0) (map (receives S value) us)
  receives-within value us a = EachOf-map (λ m. IsKept W S s x m.0) (IsKept W S s x) (receives S value) us (λ u kept. kept) a

-- One lemma for each shape of row, of unit u in the hand of stream s.

module _ (W : Parts) (S : State) (s u : ℕ) (x : Option Site) (in_hand : hand W S s ≡ Some u) where
  here : IsKept W S s x u
  here = hand-kept W S s x u in_hand

  pub local-goes_with : (c : Carried) → IsLocal W S s x (goes_with u c)
  local-goes_with c = local-carried W S s x no_change (local-none W S s x) _ (here, tt)

  local-goes_on : IsLocal W S s x (goes_on S u)
  local-goes_on = local-goes_with (S.carried u)

  local-moving : (ms : List (ℕ × Place)) → EachOf (MovesWithin W S s x) ms → IsLocal W S s x (record (goes_on S u) { moves = ms })
  local-moving ms a = local-moves W S s x (goes_on S u) local-goes_on ms a

  pub local-wakes : (us : List ℕ) → EachOf (IsKept W S s x) us → IsLocal W S s x (wakes W S s u us)
  local-wakes us a = local-moving (to_tray W S s us) (tray-within W S s x us (tray_end W S s) a)

  pub local-begins : (v p : ℕ) → x ≡ Some (site.Desk (unit_no v)) → IsKept W S s x v → IsLocal W S s x (begins W S s u v p)
  local-begins v p e k =
      let woken : Change = wakes W S s u (v ∷ []) in
      local-desk W S s x _ (local-carried W S s x woken (local-wakes (v ∷ []) (k, tt)) _ (here, (k, tt))) v _ e

  pub local-joins : (v : ℕ) (pl : Place) → x ≡ Some (site.Desk (unit_no v)) → IsLocal W S s x (joins S u v pl)
  local-joins v (place.Ended c) e = local-goes_on
  local-joins v _ e = local-join_next W S s x _ (local-moving ((u, place.Blocked (spot.Join (unit_no v)) (S.join_next v)) ∷ []) ((here, e), tt)) v _ e

  local-waits : (y : ℕ) → x ≡ Some (object_site W y) → IsLocal W S s x (waits S u y)
  local-waits y e = local-object_next W S s x _ (local-moving ((u, place.Blocked (spot.Object (object_no y)) (S.object_next y)) ∷ []) ((here, e), tt)) y _ e

  pub local-locks : (y : ℕ) (o : Option ℕ) → x ≡ Some (site.Monitor (object_no y)) → x ≡ Some (object_site W y) → IsLocal W S s x (locks S u y o)
  local-locks y None m e = local-mutex W S s x (goes_on S u) local-goes_on y _ m
  local-locks y (Some v) m e = local-waits y e

  pub local-hands_over : (y : ℕ) → x ≡ Some (site.Monitor (object_no y)) → x ≡ Some (object_site W y) → IsLocal W S s x (hands_over W S s u y)
  local-hands_over y m e = local-mutex W S s x _ (local-wakes (first_alone (standing W S (Waiting y))) (one-kept W S s x (Waiting y) e)) y _ m

  pub local-releases : (y z : ℕ) → x ≡ Some (site.Monitor (object_no z)) → x ≡ Some (object_site W y) → x ≡ Some (object_site W z) → IsLocal W S s x (releases W S s u y z)
  local-releases y z m e f =
      local-object_next W S s x _
      (local-moves W S s x (hands_over W S s u z) (local-hands_over z m f) _ ((here, e), tray-within W S s x (first_alone (standing W S (Waiting z))) (tray_end W S s) (one-kept W S s x (Waiting z) f)))
      y _ e

  local-queues : (z : ℕ) (vs : List ℕ) → x ≡ Some (object_site W z) → EachOf (IsKept W S s x) vs → IsLocal W S s x (queues S u z vs)
  local-queues z vs e a = local-object_next W S s x _ (local-moving (waiting_moves z (S.object_next z) vs) (waiting-within W S s x z vs (S.object_next z) e a)) z _ e

  pub local-passes : (z : ℕ) (o : Option ℕ) (vs : List ℕ) → x ≡ Some (site.Monitor (object_no z)) → x ≡ Some (object_site W z) → EachOf (IsKept W S s x) vs → IsLocal W S s x (passes W S s u z o vs)
  local-passes z o [] m e a = local-goes_on
  local-passes z (Some v) (w ∷ ws) m e a = local-queues z (w ∷ ws) e a
  local-passes z None (w ∷ ws) m e a =
      local-mutex W S s x _
      (local-moves W S s x (queues S u z ws) (local-queues z ws e a.1) _
      (EachOf-append (MovesWithin W S s x) (waiting_moves z (S.object_next z) ws) (to_tray W S s (w ∷ [])) (waiting-within W S s x z ws (S.object_next z) e a.1) (tray-within W S s x (w ∷ []) (tray_end W S s) (a.0, tt))))
      z _ m

  pub local-gives_all : (y value : ℕ) → x ≡ Some (object_site W y) → IsLocal W S s x (gives_all W S s u y value)
  local-gives_all y value e =
      let a : EachOf (IsKept W S s x) (standing W S (Waiting y)) = standing-kept W S s x (Waiting y) e in
      local-carried W S s x _ (local-wakes (standing W S (Waiting y)) a) _ (here, receives-within W S s x value (standing W S (Waiting y)) a)

  pub local-awaits : (y : ℕ) (o : Option ℕ) → x ≡ Some (object_site W y) → IsLocal W S s x (awaits S u y o)
  local-awaits y None e = local-waits y e
  local-awaits y (Some value) e = local-goes_with _

  pub local-fills : (y : ℕ) (f : Future) → x ≡ Some (site.Future (object_no y)) → x ≡ Some (object_site W y) → IsLocal W S s x (fills W S s u y f)
  local-fills y f m e =
      local-future W S s x _
      (cond_both (f.filled == size_of W y) (gives_all W S s u y f.value) (goes_on S u) (IsLocal W S s x) (λ _. local-gives_all y f.value e) (λ _. local-goes_on))
      y f m

  pub local-arrives : (y : ℕ) → x ≡ Some (object_site W y) → IsLocal W S s x (arrives W S s u y)
  local-arrives y e =
      cond_both (suc (length (standing W S (Waiting y))) == size_of W y) (wakes W S s u (standing W S (Waiting y))) (waits S u y) (IsLocal W S s x)
      (λ _. local-wakes (standing W S (Waiting y)) (standing-kept W S s x (Waiting y) e))
      (λ _. local-waits y e)

  pub local-goes_or_waits : (y : ℕ) (b : Bool) (held wanted : RwLock) → x ≡ Some (site.Rw (object_no y)) → x ≡ Some (object_site W y) →
      IsLocal W S s x (if b then record (goes_on S u) { rwlocks = (y, held) ∷ [] } else record (waits S u y) { rwlocks = (y, wanted) ∷ [] })
  local-goes_or_waits y b held wanted m e =
      cond_both b (record (goes_on S u) { rwlocks = (y, held) ∷ [] }) (record (waits S u y) { rwlocks = (y, wanted) ∷ [] }) (IsLocal W S s x)
      (λ _. local-rwlock W S s x (goes_on S u) local-goes_on y held m)
      (λ _. local-rwlock W S s x (waits S u y) (local-waits y e) y wanted m)

  pub local-gives_up : (y : ℕ) → x ≡ Some (site.Rw (object_no y)) → x ≡ Some (object_site W y) → IsLocal W S s x (gives_up W S s u y (left_by u (rwlock_value W S y)))
  local-gives_up y m e =
      let left : RwLockValue = left_by u (rwlock_value W S y) in
      local-rwlock W S s x _ (local-wakes (map number_of (woken left)) (woken-each (IsKept W S s x) W S y u (standing-kept W S s x (Waiting y) e))) y (passed_on left).lock m

  pub local-yields_to : (v : ℕ) → IsKept W S s x v → IsLocal W S s x (record (goes_on S u) { moves = (v, place.Next (stream_no s)) ∷ to_tray W S s (u ∷ []) })
  local-yields_to v k = local-moving _ ((k, refl), tray-within W S s x (u ∷ []) (tray_end W S s) (here, tt))

  pub local-suspends : x ≡ Some (site.Desk (unit_no u)) → IsLocal W S s x (record (goes_on S u) { moves = (u, place.Blocked spot.Suspended 0) ∷ [] })
  local-suspends e = local-moving _ ((here, e), tt)
