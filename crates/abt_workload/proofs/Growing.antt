-- What is declared, with one thing more.
use Rattle.std.proofs.Common.{◌≡◌, ◌≢◌, ◌<◌, ◌≤◌, ℕ, zero, suc, Bool, true, false, List, [], ◌∷◌, ◌++◌, All, Option, Some, None, ap, arith, drop, inl, inr, ◌⊎◌, flat_map, is_some, length, map, option_to_list, refl, replicate, slice_get, slice_set, subst, sym}
use Rattle.std.specs.Option.{option_map_or}
use Rattle.std.specs.List.{AllPairs, list_all}
use Rattle.std.proofs.lemmas.List.Kept.{AllPairs-cons}
use Rattle.std.proofs.lemmas.List.Elements.{All-append, All-cons, All-head, All-tail}
use Rattle.abt_machine.specs.declared.grammar.Format.TheVariants as format
use Rattle.abt_machine.specs.declared.grammar.Number.{Number}
use Rattle.abt_machine.specs.declared.grammar.Number.TheVariants as number
use Rattle.abt_machine.specs.declared.numbers.SchedNo.{SchedNo}
use Rattle.abt_machine.specs.declared.operations.Access.{Access}
use Rattle.abt_machine.specs.declared.operations.Access.TheVariants as access
use Rattle.abt_machine.specs.declared.operations.Thing.{Thing}
use Rattle.abt_machine.specs.declared.operations.Thing.TheVariants as thing
use Rattle.abt_machine.specs.declared.workload.Parts.{Parts}
use Rattle.abt_machine.specs.declared.workload.PoolPart.{PoolPart}
use Rattle.abt_machine.specs.declared.workload.SchedPart.{SchedPart}
use Rattle.abt_machine.specs.declared.workload.UnitPart.{UnitPart}
use Rattle.abt_machine.specs.Faults.{valued, values}
use Rattle.abt_machine.specs.Forms.{Slot, Fixed, KindWord, CombineWord, AnyWord, Numeral, PoolList, fits, numerals, suits}
use Rattle.abt_machine.specs.Limits.{unit_limit}
use Rattle.abt_machine.specs.Spelling.{value_of}
use Rattle.abt_machine.specs.Valid.{IsAccess, IsSched, IsThing}
use Rattle.abt_machine.specs.Words.{Text}
use Rattle.abt_machine.proofs.Placing.{pairs-head, pairs-tail}
use Rattle.abt_workload.proofs.Places.{and-left, and-right, kinds}
use Rattle.abt_workload.proofs.Proper.{AreUnset, HasMains, HasUnits, none-of}

-- one element more

pub all-one : {A : Type 0} (P : A → Type 0) (x : A) → P x → All P (x ∷ [])
all-one P x h zero d lt = h
all-one P x h (suc k) d lt = absurd (omega arith)

pub all-and : {A : Type 0} (P : A → Type 0) (xs : List A) (x : A) → All P xs → P x → All P (xs ++ x ∷ [])
all-and P xs x all h = All-append P xs (x ∷ []) all (all-one P x h)

pub empty-of : {A : Type 0} (xs : List A) → length xs ≡ 0 → xs ≡ []
empty-of [] e = refl
empty-of (x ∷ xs) e = absurd (omega arith)

-- no stream has a main scheduler yet
pub get-replicate : (n s : ℕ) (g : SchedNo) → slice_get (replicate n None) s ≡ Some (Some g) → ⊥
get-replicate zero s g e = cc
get-replicate (suc n) zero g e = cc
get-replicate (suc n) (suc s) g e = get-replicate n s g e

-- no stream has a main scheduler: no matter which pools and schedulers are declared
pub no-mains : (streams : ℕ) (pools : List PoolPart) (scheds : List SchedPart) (mains : List (Option SchedNo)) → length mains ≡ streams → AreUnset mains → HasMains streams pools scheds mains
no-mains streams pools scheds mains count none = record { count = count; there = λ s g e. absurd (none s g e); taking = λ s g e. absurd (none s g e) }

pub any-none : (n : ℕ) → flat_map option_to_list (let none : Option SchedNo = None in replicate n none) ≡ []
any-none zero = refl
any-none (suc n) = any-none n

pub access-grows : (m n : ℕ) → m ≤ n → (x : Access) → IsAccess m x → IsAccess n x
access-grows m n le (access.Priv s) h = omega arith
access-grows m n le (access.Spsc s t) h = let x = h.0 in let y = h.1 in (omega arith, omega arith)
access-grows m n le (access.Mpsc t) h = omega arith
access-grows m n le (access.Spmc s) h = omega arith
access-grows m n le access.Mpmc h = tt

pub sched-grows : (m n : ℕ) → m ≤ n → (part : SchedPart) → IsSched m part → IsSched n part
sched-grows m n le part h = record { rule = h.rule; some_pool = h.some_pool; few_pools = h.few_pools; listed = λ k d lt. let x = h.listed k d lt in omega (arith, x); once = h.once }

pub no-units : (W : Parts) (count : ℕ) (units : List UnitPart) (last : Option UnitPart) (copies : ℕ) → units ≡ [] → last ≡ None → count ≤ unit_limit format.Three → HasUnits W count units last copies
no-units W count units last copies eu el le =
    let nothing : HasUnits W count [] None copies = record { few = le; declared = omega arith; all = none-of _; copied = tt } in
    subst (λ (us : List UnitPart). HasUnits W count us last copies) (sym eu) (subst (λ (o : Option UnitPart). HasUnits W count [] o copies) (sym el) nothing)

-- Lists with one element more.

get-and : {A : Type 0} (xs : List A) (y : A) (k : ℕ) (x : A) → slice_get (xs ++ y ∷ []) k ≡ Some x → (slice_get xs k ≡ Some x) ⊎ ((k ≡ length xs) × (y ≡ x))
get-and [] y zero x e = inr (refl, cc)
get-and [] y (suc k) x e = cc
get-and (z ∷ zs) y zero x e = inl e
get-and (z ∷ zs) y (suc k) x e = by (get-and zs y k x e)
  where
    by : (slice_get zs k ≡ Some x) ⊎ ((k ≡ length zs) × (y ≡ x)) → (slice_get (z ∷ zs) (suc k) ≡ Some x) ⊎ ((suc k ≡ length (z ∷ zs)) × (y ≡ x))
    by (inl h) = inl h
    by (inr h) = inr (ap suc h.0, h.1)

-- what holds of all elements and of one more, each with its place
pub holds-and : {A : Type 0} (P : ℕ → A → Type 0) (xs : List A) (y : A) → ((k : ℕ) (x : A) → slice_get xs k ≡ Some x → P k x) → P (length xs) y → (k : ℕ) (x : A) → slice_get (xs ++ y ∷ []) k ≡ Some x → P k x
holds-and {A} P xs y all one k x e = by (get-and xs y k x e)
  where
    by : (slice_get xs k ≡ Some x) ⊎ ((k ≡ length xs) × (y ≡ x)) → P k x
    by (inl old) = all k x old
    by (inr new) = subst (λ (j : ℕ). P j x) (sym new.0) (subst (λ (z : A). P (length xs) z) new.1 one)

pub get-more : {A : Type 0} (xs ys : List A) (k : ℕ) (x : A) → slice_get xs k ≡ Some x → slice_get (xs ++ ys) k ≡ Some x
get-more [] ys k x e = cc
get-more (z ∷ zs) ys zero x e = e
get-more (z ∷ zs) ys (suc k) x e = get-more zs ys k x e

pub thing-grows : (xs : List Thing) (y : Thing) (x : ℕ) (t : Thing) → IsThing xs x t → IsThing (xs ++ y ∷ []) x t
thing-grows xs y x (thing.Cond m) h = (h.0, get-more xs (y ∷ []) m.0 thing.Mutex h.1)
thing-grows xs y x _ h = h

-- Pools that are listed.

abbrev pub ends_list : List Slot → Bool
ends_list [] = false
ends_list (PoolList ∷ places) = true
ends_list (slot ∷ places) = ends_list places

module _ (P : Number → ℕ → Bool) where
  all-pools : (ws : List Text) → list_all (λ p. P p.0 p.1) (valued (map (λ w. (number.Pool, w)) ws)) ≡ true → All (λ n. P number.Pool n ≡ true) (values (valued (map (λ w. (number.Pool, w)) ws)))
  all-pools [] h = none-of _
  all-pools (w ∷ ws) h = All-cons (λ n. P number.Pool n ≡ true) (value_of w) _ (and-left (P number.Pool (value_of w)) _ h) (all-pools ws (and-right (P number.Pool (value_of w)) _ h))

  pub tail-all : (places : List Slot) (words : List Text) → fits places words ≡ true → ends_list places ≡ true → list_all (λ p. P p.0 p.1) (valued (numerals places words)) ≡ true
      → All (λ n. P number.Pool n ≡ true) (drop (length (kinds places)) (values (valued (numerals places words))))
  tail-all [] words f e h = cc
  tail-all (slot ∷ places) [] f e h = cc
  tail-all (PoolList ∷ places) (w ∷ ws) f e h = all-pools (w ∷ ws) h
  tail-all (Numeral n ∷ places) (w ∷ ws) f e h = tail-all places ws f e (and-right (P n (value_of w)) _ h)
  tail-all (Fixed t ∷ places) (w ∷ ws) f e h = tail-all places ws (and-right (suits (Fixed t) w) _ f) e h
  tail-all (KindWord ∷ places) (w ∷ ws) f e h = tail-all places ws (and-right (suits KindWord w) _ f) e h
  tail-all (CombineWord ∷ places) (w ∷ ws) f e h = tail-all places ws (and-right (suits CombineWord w) _ f) e h
  tail-all (AnyWord ∷ places) (w ∷ ws) f e h = tail-all places ws f e h

pub tail-some : (places : List Slot) (words : List Text) → fits places words ≡ true → ends_list places ≡ true → 0 < length (drop (length (kinds places)) (values (valued (numerals places words))))
tail-some [] words f e = cc
tail-some (slot ∷ places) [] f e = cc
tail-some (PoolList ∷ places) (w ∷ ws) f e = omega arith
tail-some (Numeral n ∷ places) (w ∷ ws) f e = tail-some places ws f e
tail-some (Fixed t ∷ places) (w ∷ ws) f e = tail-some places ws (and-right (suits (Fixed t) w) _ f) e
tail-some (KindWord ∷ places) (w ∷ ws) f e = tail-some places ws (and-right (suits KindWord w) _ f) e
tail-some (CombineWord ∷ places) (w ∷ ws) f e = tail-some places ws (and-right (suits CombineWord w) _ f) e
tail-some (AnyWord ∷ places) (w ∷ ws) f e = tail-some places ws f e

-- Main schedulers.

abbrev pub mains_list : List (Option SchedNo) → List ℕ
mains_list mains = map (λ (g : SchedNo). g.0) (flat_map option_to_list mains)

all-set : (P : ℕ → Type 0) (mains : List (Option SchedNo)) (rest : List ℕ) (s : ℕ) (g : SchedNo) → P g.0 → All P (mains_list mains ++ rest) → All P (mains_list (slice_set mains s (Some g)) ++ rest)
all-set P [] rest s g pg h = h
all-set P (None ∷ ms) rest zero g pg h = All-cons P g.0 (mains_list ms ++ rest) pg h
all-set P (Some x ∷ ms) rest zero g pg h = All-cons P g.0 (mains_list ms ++ rest) pg (All-tail P x.0 (mains_list ms ++ rest) h)
all-set P (None ∷ ms) rest (suc s) g pg h = all-set P ms rest s g pg h
all-set P (Some x ∷ ms) rest (suc s) g pg h = All-cons P x.0 _ (All-head P x.0 (mains_list ms ++ rest) h) (all-set P ms rest s g pg (All-tail P x.0 (mains_list ms ++ rest) h))

-- a stream that has no main scheduler gets one that has no place
pub pairs-set : (mains : List (Option SchedNo)) (rest : List ℕ) (s : ℕ) (g : SchedNo) → slice_get mains s ≡ Some None → All (λ m. m ≢ g.0) (mains_list mains ++ rest)
    → AllPairs (λ x y. x ≢ y) (mains_list mains ++ rest) → AllPairs (λ x y. x ≢ y) (mains_list (slice_set mains s (Some g)) ++ rest)
pairs-set [] rest s g e out h = cc
pairs-set (None ∷ ms) rest zero g e out h = AllPairs-cons (λ (x y : ℕ). x ≢ y) g.0 (mains_list ms ++ rest) (λ k d lt is. out k d lt (sym is)) h
pairs-set (Some x ∷ ms) rest zero g e out h = cc
pairs-set (None ∷ ms) rest (suc s) g e out h = pairs-set ms rest s g e out h
pairs-set (Some x ∷ ms) rest (suc s) g e out h =
    AllPairs-cons (λ (a b : ℕ). a ≢ b) x.0 (mains_list (slice_set ms s (Some g)) ++ rest)
    (all-set (λ m. x.0 ≢ m) ms rest s g (All-head (λ m. m ≢ g.0) x.0 (mains_list ms ++ rest) out) (pairs-head (λ a b. a ≢ b) x.0 (mains_list ms ++ rest) h))
    (pairs-set ms rest s g e (All-tail (λ m. m ≢ g.0) x.0 (mains_list ms ++ rest) out) (pairs-tail (λ a b. a ≢ b) x.0 (mains_list ms ++ rest) h))

-- a stream's main scheduler, after one is given
get-set : (mains : List (Option SchedNo)) (s t : ℕ) (g h : SchedNo) → slice_get (slice_set mains s (Some g)) t ≡ Some (Some h) → ((t ≡ s) × (g ≡ h)) ⊎ (slice_get mains t ≡ Some (Some h))
get-set [] s t g h e = inr e
get-set (m ∷ ms) zero zero g h e = inl (refl, cc)
get-set (m ∷ ms) zero (suc t) g h e = inr e
get-set (m ∷ ms) (suc s) zero g h e = inr e
get-set (m ∷ ms) (suc s) (suc t) g h e = by (get-set ms s t g h e)
  where
    by : ((t ≡ s) × (g ≡ h)) ⊎ (slice_get ms t ≡ Some (Some h)) → ((suc t ≡ suc s) × (g ≡ h)) ⊎ (slice_get (m ∷ ms) (suc t) ≡ Some (Some h))
    by (inl x) = inl (ap suc x.0, x.1)
    by (inr x) = inr x

-- what holds of each stream that has a main scheduler, and of the one that gets one
pub holds-set : (P : ℕ → ℕ → Type 0) (mains : List (Option SchedNo)) (s : ℕ) (g : SchedNo) → ((t : ℕ) (k : SchedNo) → slice_get mains t ≡ Some (Some k) → P t k.0) → P s g.0 → (t : ℕ) (k : SchedNo) → slice_get (slice_set mains s (Some g)) t ≡ Some (Some k) → P t k.0
holds-set P mains s g all one t k e = by (get-set mains s t g k e)
  where
    by : ((t ≡ s) × (g ≡ k)) ⊎ (slice_get mains t ≡ Some (Some k)) → P t k.0
    by (inl new) = subst (λ (u : ℕ). P u k.0) (sym new.0) (subst (λ (q : SchedNo). P s q.0) new.1 one)
    by (inr old) = all t k old

-- a declared stream without a main scheduler
pub main-none : (mains : List (Option SchedNo)) (s : ℕ) → s < length mains → option_map_or is_some (slice_get mains s) false ≡ false → slice_get mains s ≡ Some None
main-none [] s lt e = absurd (omega arith)
main-none (None ∷ ms) zero lt e = refl
main-none (Some x ∷ ms) zero lt e = cc
main-none (m ∷ ms) (suc s) lt e = main-none ms s (omega arith) e
