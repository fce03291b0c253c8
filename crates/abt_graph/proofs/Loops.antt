-- Lists that loops build, one element more at a time.
use Rattle.std.proofs.Common.{◌≡◌, ◌∙◌, ◌+◌, ◌<◌, ℕ, suc, List, [], ◌∷◌, ◌++◌, length, map, replicate, take, get_or, refl, sym, ap, append_assoc, arith, zero-add}
use Rattle.std.specs.List.{enumerate_from, range_with_len}
use Rattle.std.proofs.lemmas.List.{length-take-le, map_push, replicate_more, take_more}
use Rattle.std.proofs.lemmas.List.FromFn.{map-range_with_len_more}
use Rattle.abt_machine.specs.declared.numbers.UnitNo.{UnitNo}
use Rattle.abt_machine.specs.declared.operations.Op.{Op}
use Rattle.abt_machine.specs.declared.operations.Op.TheVariants as op
use Rattle.abt_machine.specs.Numbers.{object_no}
use Rattle.abt_machine.specs.Words.{numbered}
use Rattle.abt_machine.proofs.Weighing.{enumerate-behind}
use Rattle.abt_graph.specs.Workloads.{fetch_ops}

-- what is made of each element and its number, with one element behind
numbered-behind : {A B : Type 0} (f : ℕ → A → B) (xs : List A) (x : A) → numbered f (xs ++ x ∷ []) ≡ numbered f xs ++ f (length xs) x ∷ []
numbered-behind f xs x = rw (enumerate-behind 0 xs x, zero-add (length xs)) (map_push (λ p. f p.0 p.1) (enumerate_from 0 xs) (length xs, x))

numbered-to : {A B : Type 0} (f : ℕ → A → B) (xs : List A) (i : ℕ) (x : A) → i < length xs → numbered f (take (i + 1) xs) ≡ numbered f (take i xs) ++ f i (get_or xs i x) ∷ []
numbered-to f xs i x lt =
    let long : length (take i xs) ≡ i = length-take-le i xs (omega arith) in
    rw (take_more xs i x lt, numbered-behind f (take i xs) (get_or xs i x), long) refl

-- one element of a list more
pub numbered-more : {A B : Type 0} (f : ℕ → A → B) (xs : List A) (i : ℕ) (x : A) (now next : List B) (y : B) → i < length xs → x ≡ get_or xs i x → now ≡ numbered f (take i xs) → next ≡ now ++ y ∷ [] → y ≡ f i x → next ≡ numbered f (take (i + 1) xs)
numbered-more f xs i x now next y lt is before push made =
    push ∙ (ap (λ ys. ys ++ y ∷ []) before ∙ (ap (λ z. numbered f (take i xs) ++ z ∷ []) (made ∙ ap (f i) is) ∙ sym (numbered-to f xs i x lt)))

-- one number of a range more
pub range-more : {A : Type 0} (f : ℕ → A) (now next : List A) (k : ℕ) (y : A) → now ≡ map f (range_with_len 0 k) → next ≡ now ++ y ∷ [] → y ≡ f k → next ≡ map f (range_with_len 0 (k + 1))
range-more f now next k y before push made =
    push ∙ (ap (λ ys. ys ++ y ∷ []) before ∙ (ap (λ z. map f (range_with_len 0 k) ++ z ∷ []) made ∙ sym (map-range_with_len_more f 0 k k (zero-add k))))

-- one number more of a range that begins anywhere
pub range-from : {A : Type 0} (f : ℕ → A) (now next : List A) (a k : ℕ) (y : A) → now ≡ map f (range_with_len a k) → next ≡ now ++ y ∷ [] → y ≡ f (a + k) → next ≡ map f (range_with_len a (k + 1))
range-from f now next a k y before push made =
    push ∙ (ap (λ ys. ys ++ y ∷ []) before ∙ (ap (λ z. map f (range_with_len a k) ++ z ∷ []) made ∙ sym (map-range_with_len_more f a k (a + k) refl)))

-- one copy more
pub copies-more : {A : Type 0} (now next : List A) (k : ℕ) (x : A) → now ≡ replicate k x → next ≡ now ++ x ∷ [] → next ≡ replicate (k + 1) x
copies-more now next k x before push = push ∙ (ap (λ ys. ys ++ x ∷ []) before ∙ replicate_more k x)

-- one number of a range more, of which something is made by two steps
pub mapped-more : {A B : Type 0} (g : A → B) (f : ℕ → A) (now next : List B) (k : ℕ) (y : B) → now ≡ map g (map f (range_with_len 0 k)) → next ≡ now ++ y ∷ [] → y ≡ g (f k) → next ≡ map g (map f (range_with_len 0 (k + 1)))
mapped-more g f now next k y before push made =
    push ∙ (ap (λ ys. ys ++ y ∷ []) before ∙ (ap (λ z. map g (map f (range_with_len 0 k)) ++ z ∷ []) made ∙ (sym (map_push g (map f (range_with_len 0 k)) (f k)) ∙
    ap (map g) (sym (map-range_with_len_more f 0 k k (zero-add k))))))

-- Operations that keep values.

fetch-behind : (n m : ℕ) (xs : List UnitNo) (x : UnitNo) → m ≡ n + length xs → fetch_ops n (xs ++ x ∷ []) ≡ fetch_ops n xs ++ op.EvWait (object_no x.0) ∷ op.KeySet m ∷ []
fetch-behind n m [] x at = ap (λ k. op.EvWait (object_no x.0) ∷ op.KeySet k ∷ []) (let e : n ≡ m = omega arith in e)
fetch-behind n m (y ∷ xs) x at = ap (λ os. op.EvWait (object_no y.0) ∷ op.KeySet n ∷ os) (fetch-behind (suc n) m xs x (omega arith))

-- those of one node more
pub fetch-more : (xs : List UnitNo) (i : ℕ) (d : UnitNo) (now next : List Op) → i < length xs → now ≡ fetch_ops 0 (take i xs) → next ≡ now ++ op.EvWait (object_no (get_or xs i d).0) ∷ op.KeySet i ∷ [] → next ≡ fetch_ops 0 (take (i + 1) xs)
fetch-more xs i d now next lt before push =
    let long : length (take i xs) ≡ i = length-take-le i xs (omega arith) in
    push ∙ (ap (λ os. os ++ op.EvWait (object_no (get_or xs i d).0) ∷ op.KeySet i ∷ []) before ∙ (sym (fetch-behind 0 i (take i xs) (get_or xs i d) (omega arith)) ∙ ap (fetch_ops 0) (sym (take_more xs i d lt))))

-- one number of a range more, behind another list
pub behind-more : {A : Type 0} (first : List A) (f : ℕ → A) (now next : List A) (k : ℕ) (y : A) → now ≡ first ++ map f (range_with_len 0 k) → next ≡ now ++ y ∷ [] → y ≡ f k → next ≡ first ++ map f (range_with_len 0 (k + 1))
behind-more first f now next k y before push made =
    push ∙ (ap (λ ys. ys ++ y ∷ []) before ∙ (append_assoc first (map f (range_with_len 0 k)) (y ∷ []) ∙ ap (λ ys. first ++ ys) (range-more f (map f (range_with_len 0 k)) (map f (range_with_len 0 k) ++ y ∷ []) k y refl refl made)))
