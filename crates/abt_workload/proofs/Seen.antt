-- Lines that are taken one after the other.
use Rattle.std.proofs.Common.{◌≡◌, ◌<◌, ◌≤◌, ◌+◌, ◌==◌, ◌&&◌, ◌∙◌, ℕ, zero, suc, Bool, true, false, List, [], ◌∷◌, length, take, drop, get_or, find, Option, Some, None, arith, refl, sym, ap, add-one, length-drop, if◌then◌else◌, nat_lt, rules, tests, subst, inl, inr, ◌⊎◌, lit≤}
use Rattle.std.proofs.lemmas.Bool.{cases_order, lt-ltb}
use Rattle.std.proofs.lemmas.List.{take_all, take_more}
use Rattle.std.proofs.lemmas.List.Sums.{fold-append}
use Rattle.abt_machine.specs.declared.grammar.Format.{Format}
use Rattle.abt_machine.specs.declared.grammar.Format.TheVariants as format
use Rattle.abt_machine.specs.declared.program.Fault.{Fault}
use Rattle.abt_machine.specs.declared.program.Fault.TheVariants as fault
use Rattle.abt_machine.specs.Declaring.{Above, nothing}
use Rattle.abt_machine.specs.Faults.{faults, line_fault, line_has}
use Rattle.abt_machine.specs.Grammar.{Refuses, and_line, declared_by, ends_early, fault_at, format_of, has_at}
use Rattle.abt_machine.specs.Limits.{text_limit}
use Rattle.abt_machine.specs.Spelling.{lines_of}
use Rattle.abt_machine.specs.Words.{Text}

-- The prefix of what is left.

record Front (L : List Text) (n : ℕ) (x : Text) (xs : List Text) : Type 0 where
  lt : n < length L
  item : get_or L n [] ≡ x
  next : drop (suc n) L ≡ xs

front : (L : List Text) (n : ℕ) (x : Text) (xs : List Text) → drop n L ≡ x ∷ xs → Front L n x xs
front [] zero x xs e = cc
front [] (suc n) x xs e = cc
front (y ∷ ys) zero x xs e = record { lt = omega arith; item = cc; next = cc }
front (y ∷ ys) (suc n) x xs e = let h = front ys n x xs e in record { lt = omega (arith, h.lt); item = h.item; next = h.next }

pub declared-more : (L : List Text) (n : ℕ) (x : Text) (xs : List Text) (a b : Above) → drop n L ≡ x ∷ xs → a ≡ declared_by (take n L) → b ≡ and_line a x → b ≡ declared_by (take (n + 1) L)
declared-more L n x xs a b e at is =
    let h = front L n x xs e in
    is ∙ (ap (λ (s : Above). and_line s x) at ∙ (ap (λ (t : Text). and_line (declared_by (take n L)) t) (sym h.item) ∙ sym (ap declared_by (take_more L n [] h.lt) ∙ fold-append and_line nothing (take n L) (get_or L n [] ∷ []))))

pub drop-more : (L : List Text) (n : ℕ) (x : Text) (xs : List Text) → drop n L ≡ x ∷ xs → drop (n + 1) L ≡ xs
drop-more L n x xs e = rw add-one ((front L n x xs e).next)

-- The fault at a place.

-- a line's fault, if there is a line, and that of an end that is missing
abbrev by-place : List Text → ℕ → Bool → Fault → Bool
by-place L n there f = if there then line_has (declared_by (take n L)) (get_or L n []) f else ((n == length L) && ends_early (declared_by L) f)

pub fault-in : (L : List Text) (n : ℕ) → n < length L → find (has_at L n) faults ≡ line_fault (declared_by (take n L)) (get_or L n [])
fault-in L n lt =
    let yes : nat_lt n (length L) ≡ true = lt-ltb n (length L) lt in
    ap (λ (b : Bool). find (by-place L n b) faults) yes

pub fault-here : (L : List Text) (n : ℕ) (x : Text) (xs : List Text) (a : Above) → drop n L ≡ x ∷ xs → a ≡ declared_by (take n L) → find (has_at L n) faults ≡ line_fault a x
fault-here L n x xs a e at =
    let h = front L n x xs e in
    fault-in L n h.lt ∙ (ap (λ (t : Text). line_fault (declared_by (take n L)) t) h.item ∙ ap (λ (s : Above). line_fault s x) (sym at))

-- what the line after the last has
abbrev after-by : Bool → Option Fault
after-by true = None
after-by false = Some fault.NoEnd

pub fault-after : (L : List Text) → find (has_at L (length L)) faults ≡ after-by ((declared_by L).section == 10)
fault-after L =
    let no : nat_lt (length L) (length L) ≡ false = search (rules, tests) in
    let yes : (length L == length L) ≡ true = search (rules, tests) in
    ap (λ (b : Bool). find (by-place L (length L) b) faults) no
    ∙ (ap (λ (b : Bool). find (λ f. b && ends_early (declared_by L) f) faults) yes ∙ by ((declared_by L).section == 10) refl)
  where
    by : (b : Bool) → ((declared_by L).section == 10) ≡ b → find (λ f. ends_early (declared_by L) f) faults ≡ after-by ((declared_by L).section == 10)
    by true e = rw e refl
    by false e = rw e refl

pub fault-past : (L : List Text) (n : ℕ) → length L < n → find (has_at L n) faults ≡ None
fault-past L n lt =
    let no : nat_lt n (length L) ≡ false = search (rules, tests) in
    let other : (n == length L) ≡ false = search (rules, tests) in
    ap (λ (b : Bool). find (by-place L n b) faults) no
    ∙ ap (λ (b : Bool). find (λ f. b && ends_early (declared_by L) f) faults) other

-- The text's length.

-- how long a text may be
abbrev pub most : Text → ℕ
most text = text_limit (format_of (lines_of text))

-- no format has more bytes than format 3
pub most-bytes : (F : Format) → text_limit F ≤ text_limit format.Three
most-bytes format.One = lit≤ tt
most-bytes format.Two = lit≤ tt
most-bytes format.Three = lit≤ tt

-- and none has fewer than format 1
pub least-bytes : (F : Format) → text_limit format.One ≤ text_limit F
least-bytes format.One = lit≤ tt
least-bytes format.Two = lit≤ tt
least-bytes format.Three = lit≤ tt

pub fault-length : (text : Text) → length text ≤ most text → fault_at text 0 ≡ None
fault-length text le =
    let no : nat_lt (most text) (length text) ≡ false = search (rules, tests) in
    ap (λ (b : Bool). find (by-length b) faults) no
  where
    by-length : Bool → Fault → Bool
    by-length b fault.Limit = b
    by-length b f = false

pub length-fault : (text : Text) → most text < length text → fault_at text 0 ≡ Some fault.Limit
length-fault text lt = let yes : nat_lt (most text) (length text) ≡ true = lt-ltb (most text) (length text) lt in rw yes refl

-- Whole texts.

-- no place below n has a fault
abbrev pub IsFaultless : List Text → ℕ → Type 0
IsFaultless L n = (i : ℕ) → i < n → find (has_at L i) faults ≡ None

pub refuses-length : (text : Text) → most text < length text → Refuses text 0 fault.Limit
refuses-length text lt = record { least = λ m h. absurd (omega (arith, h)); first = length-fault text lt }

least-of : (text : Text) (n : ℕ) → length text ≤ most text → IsFaultless (lines_of text) n → (m : ℕ) → m < n + 1 → fault_at text m ≡ None
least-of text n le least zero lt = fault-length text le
least-of text n le least (suc m) lt = least m (omega arith)

refuses-at : (text : Text) (n : ℕ) (f : Fault) → length text ≤ most text → IsFaultless (lines_of text) n → find (has_at (lines_of text) n) faults ≡ Some f → Refuses text (n + 1) f
refuses-at text n f le least here =
    let at : Refuses text (suc n) f = record { least = λ m lt. least-of text n le least m (omega arith); first = here } in
    let e : n + 1 ≡ suc n = add-one n in
    subst (λ j. Refuses text j f) (sym e) at

pub refuses-line : (text : Text) (n : ℕ) (x : Text) (xs : List Text) (a : Above) (f : Fault) (o : Option Fault) → length text ≤ most text → drop n (lines_of text) ≡ x ∷ xs → a ≡ declared_by (take n (lines_of text))
    → IsFaultless (lines_of text) n → o ≡ line_fault a x → o ≡ Some f → Refuses text (n + 1) f
refuses-line text n x xs a f o le e at least here some = refuses-at text n f le least (fault-here (lines_of text) n x xs a e at ∙ (sym here ∙ some))

pub within-more : (L : List Text) (n : ℕ) (x : Text) (xs : List Text) → drop n L ≡ x ∷ xs → n + 1 ≤ length L
within-more L n x xs e = let h = (front L n x xs e).lt in omega (arith, h)

-- all lines were taken
pub all-taken : (L : List Text) (n : ℕ) (a : Above) → drop n L ≡ [] → n ≤ length L → a ≡ declared_by (take n L) → (n ≡ length L) × (a ≡ declared_by L)
all-taken L n a e le at = let same : n ≡ length L = omega (arith, length-drop n L, ap length e) in (same, at ∙ ap declared_by (take_all n L (omega arith)))

pub refuses-end : (text : Text) (n : ℕ) (a : Above) → length text ≤ most text → n ≡ length (lines_of text) → a ≡ declared_by (lines_of text) → IsFaultless (lines_of text) n → (a.section == 10) ≡ false → Refuses text (n + 1) fault.NoEnd
refuses-end text n a le en at least other =
    let other' : ((declared_by (lines_of text)).section == 10) ≡ false = ap (λ (b : Above). b.section == 10) (sym at) ∙ other in
    let here : find (has_at (lines_of text) n) faults ≡ Some fault.NoEnd = ap (λ (i : ℕ). find (has_at (lines_of text) i) faults) en ∙ (fault-after (lines_of text) ∙ ap after-by other') in
    refuses-at text n fault.NoEnd le least here

-- no place has a fault if all lines were taken, and the last was `end`
pub faultless-end : (L : List Text) (n : ℕ) (a : Above) → n ≡ length L → a ≡ declared_by L → IsFaultless L n → (a.section == 10) ≡ true → (i : ℕ) → find (has_at L i) faults ≡ None
faultless-end L n a en at least ended i = by (cases_order i (length L))
  where
    ended' : ((declared_by L).section == 10) ≡ true
    ended' = ap (λ (b : Above). b.section == 10) (sym at) ∙ ended

    by : (i ≡ length L) ⊎ ((i < length L) ⊎ (length L < i)) → find (has_at L i) faults ≡ None
    by (inl e) = ap (λ (j : ℕ). find (has_at L j) faults) e ∙ (fault-after L ∙ ap after-by ended')
    by (inr (inl lt)) = least i (omega arith)
    by (inr (inr gt)) = fault-past L i gt

pub lines-none : (text : Text) → (length text == 0) ≡ true → lines_of text ≡ []
unfolding lines_of
lines-none [] e = refl
lines-none (b ∷ bs) e = let bad : (length (b ∷ bs) == 0) ≡ false = search (rules, tests) in cc
