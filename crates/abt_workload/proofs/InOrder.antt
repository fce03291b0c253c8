-- Lines that are taken in the order of their numbers.
use Rattle.std.proofs.Common.{◌≡◌, ◌≢◌, ◌<◌, ◌≤◌, ◌+◌, ◌==◌, ◌&&◌, ◌∙◌, ℕ, suc, Bool, true, false, List, [], ◌∷◌, ◌++◌, Some, ap, arith, get_or, length, length-append, map, nat_lt, refl, slice_get, subst, sym}
use Rattle.std.specs.List.{AllPairs, enumerate_from, list_any}
use Rattle.std.proofs.lemmas.Bool.{le-ltb, ne_eqb}
use Rattle.std.proofs.lemmas.List.{append-nil, append_assoc, get_or_append_left}
use Rattle.std.proofs.lemmas.Option.{get_or_from_slice_get, slice_get-get_or}
use Rattle.std.proofs.Math.Seq.{get_or-append_seam}
use Rattle.abt_machine.specs.declared.grammar.Form.{Form}
use Rattle.abt_machine.specs.Declaring.{Above}
use Rattle.abt_machine.specs.Faults.{is_homeless, is_misplaced, is_single}
use Rattle.abt_machine.specs.Forms.{section}
use Rattle.abt_machine.specs.Words.{Text, numbered}
use Rattle.abt_workload.proofs.Places.{or-both}
use Rattle.abt_workload.proofs.Taking.{Takes, TakesAll}

-- Sections.

-- the section after some lines of this section, if another was reached before them
abbrev pub reached : {A : Type 0} → ℕ → ℕ → List A → ℕ
reached before section [] = before
reached before section (x ∷ xs) = section

-- a line of a section reaches it
pub reached-and : {A : Type 0} (before section : ℕ) (xs : List A) (x : A) → section ≡ reached before section (xs ++ x ∷ [])
reached-and before section [] x = refl
reached-and before section (y ∷ ys) x = refl

-- a later section is not reached
pub reached-le : {A : Type 0} (before section : ℕ) (xs : List A) → before ≤ section → reached before section xs ≤ section
reached-le before section [] le = le
reached-le before section (x ∷ xs) le = omega arith

-- a conjunction whose second part is false is false
no-and : (x y : Bool) → y ≡ false → (x && y) ≡ false
no-and true y e = e
no-and false y e = refl

-- a line of a section that has any number of lines
pub placed-among : (a : Above) (f : Form) → a.section ≤ section f → section f < 10 → is_single (section f) ≡ false → is_homeless a f ≡ false → is_misplaced a f ≡ false
placed-among a f le low single home =
    let later : nat_lt (section f) a.section ≡ false = le-ltb (section f) a.section le in
    let unended : (a.section == 10) ≡ false = ne_eqb a.section 10 (λ e. omega (arith, e)) in
    let first = or-both (nat_lt (section f) a.section) _ later (no-and (section f == a.section) _ single) in
    or-both _ (a.section == 10) (or-both _ (is_homeless a f) first home) unended

-- a line of a section that has one line
pub placed-alone : (a : Above) (f : Form) → a.section < section f → section f ≤ 10 → is_homeless a f ≡ false → is_misplaced a f ≡ false
placed-alone a f lt low home =
    let later : nat_lt (section f) a.section ≡ false = le-ltb (section f) a.section (omega arith) in
    let other : (section f == a.section) ≡ false = ne_eqb (section f) a.section (λ e. omega (arith, e)) in
    let unended : (a.section == 10) ≡ false = ne_eqb a.section 10 (λ e. omega (arith, e)) in
    let first = or-both (nat_lt (section f) a.section) _ later (ap (λ (b : Bool). b && is_single (section f)) other) in
    or-both _ (a.section == 10) (or-both _ (is_homeless a f) first home) unended

-- Elements.

-- there are fewer in front than in all
pub front-shorter : {A : Type 0} (front : List A) (x : A) (rest all : List A) → front ++ x ∷ rest ≡ all → length front < length all
front-shorter front x rest all e =
    let l : length (front ++ x ∷ rest) ≡ length front + length (x ∷ rest) = length-append front (x ∷ rest) in
    let m : length (front ++ x ∷ rest) ≡ length all = ap length e in
    omega arith

-- the element after those in front
pub get-here : {A : Type 0} (front : List A) (x : A) (rest all : List A) → front ++ x ∷ rest ≡ all → slice_get all (length front) ≡ Some x
get-here front x rest all e =
    slice_get-get_or all (length front) x (front-shorter front x rest all e)
    ∙ ap (λ y. Some y) (ap (λ xs. get_or xs (length front) x) (sym e) ∙ get_or-append_seam front x rest x)

-- an element of those in front
pub get-front : {A : Type 0} (front rest all : List A) (k : ℕ) (x : A) → front ++ rest ≡ all → k < length front → slice_get all k ≡ Some x → slice_get front k ≡ Some x
get-front front rest all k x e lt is =
    slice_get-get_or front k x lt
    ∙ ap (λ y. Some y) (sym (get_or_append_left front rest x k lt) ∙ (ap (λ xs. get_or xs k x) e ∙ get_or_from_slice_get all k x x is))

-- a number that stands once is none of those in front
pub not-before : (front : List ℕ) (n : ℕ) (rest : List ℕ) → AllPairs (λ x y. x ≢ y) (front ++ n ∷ rest) → list_any (λ m. m == n) front ≡ false
not-before [] n rest h = refl
not-before (m ∷ front) n rest h =
    let more : length (front ++ n ∷ rest) ≡ length front + suc (length rest) = length-append front (n ∷ rest) in
    let other : m ≢ n = subst (λ (k : ℕ). m ≢ k) (get_or-append_seam front n rest 0) (h 0 (suc (length front)) 0 (omega arith) (omega arith)) in
    or-both (m == n) _ (ne_eqb m n other) (not-before front n rest (λ i j d lt within. h (suc i) (suc j) d (omega arith) (omega arith)))

-- Lines.

module _ {A : Type 0} (make : ℕ → A → List Text) (below : ℕ → List A → Above) (before section : ℕ) (low : before ≤ section) (all : List A)
    (step : (at : ℕ) → at ≤ section → (front : List A) (x : A) (rest : List A) → front ++ x ∷ rest ≡ all
    → Takes (below at front) (make (length front) x) (below section (front ++ x ∷ []))) where
  -- below these lines
  abbrev after : List A → Above
  after xs = below (reached before section xs) xs

  -- the next line is taken
  next-taken : (front : List A) (x : A) (rest : List A) → front ++ x ∷ rest ≡ all → Takes (after front) (make (length front) x) (after (front ++ x ∷ []))
  next-taken front x rest e =
      subst (λ (s : ℕ). Takes (after front) (make (length front) x) (below s (front ++ x ∷ []))) (reached-and before section front x)
      (step (reached before section front) (reached-le before section front low) front x rest e)

  -- the lines after those in front are taken
  rest-taken : (front rest : List A) → front ++ rest ≡ all → TakesAll (after front) (map (λ p. make p.0 p.1) (enumerate_from (length front) rest)) (after all)
  rest-taken front [] e = ap after (sym (append-nil front) ∙ e)
  rest-taken front (x ∷ rest) e =
      let longer : length (front ++ x ∷ []) ≡ length front + 1 = length-append front (x ∷ []) in
      let others = rest-taken (front ++ x ∷ []) rest (append_assoc front (x ∷ []) rest ∙ e) in (
        after (front ++ x ∷ []),
        next-taken front x rest e,
        subst (λ k. TakesAll (after (front ++ x ∷ [])) (map (λ p. make p.0 p.1) (enumerate_from k rest)) (after all)) longer others,
      )

  -- a section's lines are taken if each is taken below those before it
  pub section-taken : TakesAll (below before []) (numbered make all) (below (reached before section all) all)
  section-taken = rest-taken [] all refl
