-- Numbers that stand twice in a list.
use Rattle.std.proofs.Common.{◌≡◌, ◌<◌, ◌≤◌, ◌-◌, ◌==◌, ◌||◌, ◌∙◌, ℕ, zero, suc, Bool, true, false, List, [], ◌∷◌, length, drop, get_or, refl, ap, sym, arith, nat_cmp, drop-cons, cond, eqb, ltb, inl, inr, ◌⊎◌, ◌≢◌}
use Rattle.std.specs.Ordering.{is_eq}
use Rattle.std.specs.declared.cmp.Ordering.TheVariants.{Less, Equal, Greater}
use Rattle.std.proofs.lemmas.Bool.{ltb-true}
use Rattle.std.proofs.lemmas.Bool.Decides.{eqb_tells}
use Rattle.std.specs.BTreeMap.{is_at}
use Rattle.std.specs.List.{list_any}
use Rattle.std.proofs.lemmas.List.{length-map}
use Rattle.std.proofs.Math.ListN.{get_or-map}
use Rattle.abt_machine.specs.declared.grammar.Number.{Number}
use Rattle.abt_machine.specs.Faults.{has_repeated, values}

-- a number that stands twice in the rest of a list stands twice in it
pub repeated-drop : (k : ℕ) (ns : List ℕ) → has_repeated (drop k ns) ≡ true → has_repeated ns ≡ true
repeated-drop zero ns e = e
repeated-drop (suc k) [] e = e
repeated-drop (suc k) (n ∷ ns) e = rw (repeated-drop k ns e) (or-true (list_any (λ m. m == n) ns))
  where
    or-true : (b : Bool) → (b || true) ≡ true
    or-true true = refl
    or-true false = refl

-- the values from a place on
pub values-from : (ns : List (Number × ℕ)) (left : ℕ) (d : Number × ℕ) → 0 < left → left ≤ length ns → drop (left - 1) (values ns) ≡ (get_or ns (left - 1) d).1 ∷ drop left (values ns)
values-from ns zero d some le = absurd (omega arith)
values-from ns (suc k) d some le =
    let e : suc k - 1 ≡ k = omega arith in
    let lt : k < length (values ns) = rw length-map (omega arith) in
    rw e (drop-cons (values ns) k d.1 lt ∙ ap (λ (n : ℕ). n ∷ drop (suc k) (values ns)) (get_or-map (λ (p : Number × ℕ). p.1) ns k d))

less : (e l : Bool) → e ≡ false → is_eq (cond l Less (cond e Equal Greater)) ≡ e
less true l h = cc
less false true h = refl
less false false h = refl

is_at-nat : (n q : ℕ) → is_at (nat_cmp n) q ≡ (n == q)
is_at-nat n q = by (eqb_tells n q)
  where
    by : ((eqb n q ≡ true) × (n ≡ q)) ⊎ ((eqb n q ≡ false) × (n ≢ q)) → is_at (nat_cmp n) q ≡ eqb n q
    by (inl h) = let not_less : ltb n q ≡ false = grind (arith, ltb-true) in let e = h.0 in rw (not_less, e) refl
    by (inr h) = less (eqb n q) (ltb n q) h.0

-- the number before a place stands after it too
pub found-again : (ns : List (Number × ℕ)) (left : ℕ) (d : Number × ℕ) → 0 < left → left ≤ length ns → list_any (λ m. m == (get_or ns (left - 1) d).1) (drop left (values ns)) ≡ true → true ≡ has_repeated (values ns)
found-again ns left d some le e = sym (repeated-drop (left - 1) (values ns) (ap has_repeated (values-from ns left d some le) ∙ rw e refl))

-- the number before a place does not stand after it
pub single-here : (ns : List (Number × ℕ)) (left : ℕ) (d : Number × ℕ) → 0 < left → left ≤ length ns → list_any (λ m. m == (get_or ns (left - 1) d).1) (drop left (values ns)) ≡ false
    → has_repeated (drop left (values ns)) ≡ false → has_repeated (drop (left - 1) (values ns)) ≡ false
single-here ns left d some le e single = ap has_repeated (values-from ns left d some le) ∙ rw (e, single) refl

-- what was seen from a place on, with the number before it
pub seen-here : (ns : List (Number × ℕ)) (left : ℕ) (d : Number × ℕ) (q : ℕ) (before after : Bool) → 0 < left → left ≤ length ns → after ≡ cond (is_at (nat_cmp (get_or ns (left - 1) d).1) q) true before
    → before ≡ list_any (λ m. m == q) (drop left (values ns)) → after ≡ list_any (λ m. m == q) (drop (left - 1) (values ns))
seen-here ns left d q before after some le e b =
    e ∙ (ap (λ (t : Bool). cond t true before) (is_at-nat (get_or ns (left - 1) d).1 q) ∙ (either ((get_or ns (left - 1) d).1 == q) before ∙ (ap (λ (t : Bool). ((get_or ns (left - 1) d).1 == q) || t) b ∙ sym (ap (list_any (λ m. m == q)) (values-from ns left d some le)))))
  where
    either : (x y : Bool) → cond x true y ≡ (x || y)
    either true y = refl
    either false y = refl
