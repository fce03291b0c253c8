-- Along a run the waiters of a mutex keep their order, and each is served in its turn.
use Rattle.std.proofs.Common.{◌≡◌, ◌+◌, ◌<◌, ◌≤◌, ℕ, zero, suc, Bool, true, false, if◌then◌else◌, List, [], ◌∷◌, ◌++◌, drop, length, slice_get, Option, Some, refl, sym, ◌∙◌, ap, subst, append_assoc, arith}
use Rattle.std.specs.Prelude.{cond}
use Rattle.std.proofs.lemmas.List.{append-nil, length-append}
use Rattle.std.proofs.lemmas.List.Sums.{sum_by-cons}
use Rattle.abt_machine.specs.declared.events.Event.{Event}
use Rattle.abt_machine.specs.Stored.{Stored}
use Rattle.abt_machine.specs.declared.workload.Parts.{Parts}
use Rattle.abt_machine.specs.Events.{After, after}
use Rattle.abt_machine.specs.Operations.{IsMutex}
use Rattle.abt_machine.specs.Queues.{first}
use Rattle.abt_machine.specs.Rounds.{OrdersStored}
use Rattle.abt_machine.specs.Runs.{RunFrom, last_state, state_after}
use Rattle.abt_machine.specs.Sound.{Sound}
use Rattle.abt_machine.specs.Start.{start}
use Rattle.abt_machine.specs.State.{State}
use Rattle.abt_machine.specs.Valid.{IsValid}
use Rattle.abt_laws.proofs.RunParts.{last_state-sound, run-front, run-rest, state_after-append}
use Rattle.abt_laws.proofs.SoundRuns.{events-keep-sound, runs-are-sound}
use Rattle.abt_service.specs.Laws.{ServedInOrder, ServesMutex, WaitersKeepOrder, hand_overs, hands_over, waiters}
use Rattle.abt_service.proofs.Serving.{events-serve}

-- what is dropped from a list that goes on is dropped from its front first
pub drop-front : (m : ℕ) (us vs : List ℕ) → (ws : List ℕ) × (drop m (us ++ vs) ≡ drop m us ++ ws)
drop-front zero us vs = (vs, refl)
drop-front (suc m) [] vs = (drop (suc m) vs, refl)
drop-front (suc m) (u ∷ us) vs = drop-front m us vs

-- one after the other
drop-one : (m : ℕ) (us : List ℕ) → drop m (drop 1 us) ≡ drop (suc m) us
drop-one zero [] = refl
drop-one (suc m) [] = refl
drop-one m (u ∷ us) = refl

-- the line is what is left of another after m were served, with others behind
abbrev LeftOf : ℕ → List ℕ → List ℕ → Type 0
LeftOf m us vs = (ws : List ℕ) × (vs ≡ drop m us ++ ws)

-- an event before others
left-before : (W : Parts) (S T : State) (x m : ℕ) (vs : List ℕ) (b : Bool) → ServesMutex W S T x b → LeftOf m (waiters W T x) vs → LeftOf ((if b then 1 else 0) + m) (waiters W S x) vs
left-before W S T x m vs true serves left =
    let same : suc m ≡ 1 + m = omega arith in
    subst (λ n. LeftOf n (waiters W S x) vs) same (left.0, left.1 ∙ ap (λ us. us ++ left.0) (ap (drop m) serves.1 ∙ drop-one m (waiters W S x)))
left-before W S T x m vs false serves left =
    let more : (ws : List ℕ) × (drop m (waiters W S x ++ serves.0.0) ≡ drop m (waiters W S x) ++ ws) = drop-front m (waiters W S x) serves.0.0 in
    let same : m ≡ 0 + m = omega arith in
    subst (λ n. LeftOf n (waiters W S x) vs) same (more.0 ++ left.0, left.1 ∙ (ap (λ us. us ++ left.0) (ap (drop m) serves.0.1 ∙ more.1) ∙ append_assoc (drop m (waiters W S x)) more.0 left.0))

-- Who owns a mutex.

-- what goes on has the same front
front : (us vs : List ℕ) (n : ℕ) → n < length us → slice_get (us ++ vs) n ≡ slice_get us n
front [] vs n l = absurd (omega arith)
front (u ∷ us) vs zero l = refl
front (u ∷ us) vs (suc n) l = front us vs n (omega arith)

-- the first of a line becomes the owner, and the last owner is who it is by the rest of the line
next-owner : (us vs : List ℕ) (v n : ℕ) (owner last : Option ℕ) → owner ≡ first us → vs ≡ drop 1 us → suc n ≤ length us → ((w : ℕ) → owner ≡ Some w → n ≤ length vs → last ≡ slice_get (w ∷ vs) n) →
    last ≡ slice_get (v ∷ us) (suc n)
next-owner [] vs v n owner last e f few later = absurd (omega arith)
next-owner (u ∷ us) vs v n owner last e f few later = later u e (subst (λ ws. n ≤ length ws) (sym f) (omega arith)) ∙ ap (λ ws. slice_get (u ∷ ws) n) f

-- the owner stays, and the line goes on
same-owner : (us vs ws : List ℕ) (v n : ℕ) (owner last : Option ℕ) → owner ≡ Some v → ws ≡ us ++ vs → n ≤ length us → ((w : ℕ) → owner ≡ Some w → n ≤ length ws → last ≡ slice_get (w ∷ ws) n) →
    last ≡ slice_get (v ∷ us) n
same-owner us vs ws v n owner last e f few later =
    let within : n ≤ length (us ++ vs) = omega (arith, length-append us vs) in
    later v e (subst (λ os. n ≤ length os) (sym f) within) ∙ (ap (λ os. slice_get (v ∷ os) n) f ∙ front (v ∷ us) vs n (omega arith))

-- an event before others
owned-before : (W : Parts) (S T : State) (x n v : ℕ) (last : Option ℕ) (b : Bool) → ServesMutex W S T x b → (S.mutex x).owner ≡ Some v → (if b then 1 else 0) + n ≤ length (waiters W S x) →
    ((w : ℕ) → (T.mutex x).owner ≡ Some w → n ≤ length (waiters W T x) → last ≡ slice_get (w ∷ waiters W T x) n) → last ≡ slice_get (v ∷ waiters W S x) ((if b then 1 else 0) + n)
owned-before W S T x n v last true serves owned few later =
    let same : suc n ≡ 1 + n = omega arith in
    subst (λ m. last ≡ slice_get (v ∷ waiters W S x) m) same (next-owner (waiters W S x) (waiters W T x) v n (T.mutex x).owner last serves.0 serves.1 (omega arith) later)
owned-before W S T x n v last false serves owned few later =
    let same : n ≡ 0 + n = omega arith in
    subst (λ m. last ≡ slice_get (v ∷ waiters W S x) m) same (same-owner (waiters W S x) serves.0.0 (waiters W T x) v n (T.mutex x).owner last (serves.1 v owned) serves.0.1 (omega arith) later)

module _ (W : Parts) (Z : Stored) (valid : IsValid W) (stored : OrdersStored W Z.orders) (x : ℕ) (is : IsMutex W x) where
  left-from : (S : State) (K : List Event) → Sound W Z S → RunFrom W Z S K → LeftOf (hand_overs W x K) (waiters W S x) (waiters W (state_after W S K) x)
  left-from S [] sound run = ([], sym (append-nil (waiters W S x)))
  left-from S (e ∷ es) sound run =
      let T : State = after W S e.stream.0 e.what in
      let came : After W Z S e T = (run.0, run.1, refl) in
      let us : List ℕ = waiters W (state_after W T es) x in
      subst (λ n. LeftOf n (waiters W S x) us) (sym (sum_by-cons (λ (d : Event). cond (hands_over W x d.what) 1 0) e es))
      (left-before W S T x (hand_overs W x es) us (hands_over W x e.what) (events-serve W Z valid stored S T e x is sound came)
      (left-from T es (events-keep-sound W Z valid stored S T e sound came) run.2))

  owned-from : (S : State) (K : List Event) (v : ℕ) → Sound W Z S → RunFrom W Z S K → (S.mutex x).owner ≡ Some v → hand_overs W x K ≤ length (waiters W S x) →
      ((state_after W S K).mutex x).owner ≡ slice_get (v ∷ waiters W S x) (hand_overs W x K)
  owned-from S [] v sound run owned few = owned
  owned-from S (e ∷ es) v sound run owned few =
      let T : State = after W S e.stream.0 e.what in
      let came : After W Z S e T = (run.0, run.1, refl) in
      let n : ℕ = hand_overs W x es in
      let b : Bool = hands_over W x e.what in
      let more : hand_overs W x (e ∷ es) ≡ (if b then 1 else 0) + n = sum_by-cons (λ (d : Event). cond (hands_over W x d.what) 1 0) e es in
      let last : Option ℕ = ((state_after W T es).mutex x).owner in
      subst (λ m. last ≡ slice_get (v ∷ waiters W S x) m) (sym more)
      (owned-before W S T x n v last b (events-serve W Z valid stored S T e x is sound came) owned (subst (λ m. m ≤ length (waiters W S x)) more few)
      (λ w. owned-from T es w (events-keep-sound W Z valid stored S T e sound came) run.2))

pub waiters-keep-order : (W : Parts) (Z : Stored) → WaitersKeepOrder W Z
waiters-keep-order W Z valid stored J K x is run =
    let S : State = last_state W J in
    let sound : Sound W Z S = last_state-sound W Z J (runs-are-sound W Z) valid stored (run-front W Z (start W) J K run) in
    subst (λ (T : State). LeftOf (hand_overs W x K) (waiters W S x) (waiters W T x)) (sym (state_after-append W (start W) J K))
    (left-from W Z valid stored x is S K sound (run-rest W Z (start W) J K run))

pub served-in-order : (W : Parts) (Z : Stored) → ServedInOrder W Z
served-in-order W Z valid stored J K v x is run owned few =
    let S : State = last_state W J in
    let sound : Sound W Z S = last_state-sound W Z J (runs-are-sound W Z) valid stored (run-front W Z (start W) J K run) in
    ap (λ (T : State). (T.mutex x).owner) (state_after-append W (start W) J K) ∙ owned-from W Z valid stored x is S K v sound (run-rest W Z (start W) J K run) owned few
