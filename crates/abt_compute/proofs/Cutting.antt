-- The numbers of the first lines of a text.
use Rattle.std.proofs.Common.{◌≡◌, ◌≤◌, ◌<◌, ◌+◌, ◌∙◌, ℕ, Bool, true, false, List, [], ◌∷◌, ◌++◌, length, map, ap, refl, sym, arith}
use Rattle.std.specs.List.{list_all}
use Rattle.std.specs.Prelude.{◌&&◌, if◌then◌else◌, Some, None}
use Rattle.abt_machine.specs.Spelling.{is_number, lines_of, value_of}
use Rattle.abt_machine.specs.Words.{Text}
use Rattle.abt_workload.proofs.LineEnds.{lines-nil}
use Rattle.abt_workload.specs.Slots.{number_in}
use Rattle.abt_compute.specs.Numbers.{IsNoNumberAt, Lists}

-- the text before `rest` has so many lines, which are these numbers
pub record IsCut (text rest : Text) (numbers : List ℕ) (count : ℕ) : Type 0 where
  pub before : List Text
  pub lines : lines_of text ≡ before ++ lines_of rest
  pub all : list_all is_number before ≡ true
  pub are : numbers ≡ map value_of before
  pub many : count ≡ length before
  pub fits : count + length rest ≤ length text

-- nothing is cut off
pub uncut : (text : Text) → IsCut text text [] 0
uncut text = record { before = []; lines = refl; all = refl; are = refl; many = refl; fits = omega arith }

all-more : (P : Text → Bool) (xs : List Text) (x : Text) → list_all P xs ≡ true → P x ≡ true → list_all P (xs ++ x ∷ []) ≡ true
all-more P [] x all is = rw is refl
all-more P (y ∷ ys) x all is = by (P y) refl all (λ rest. all-more P ys x rest is) where
  by : (b : Bool) → P y ≡ b → (b && list_all P ys) ≡ true → (list_all P ys ≡ true → list_all P (ys ++ x ∷ []) ≡ true) → (P y && list_all P (ys ++ x ∷ [])) ≡ true
  by true e h more = rw e (more h)
  by false e h more = cc

map-more : (f : Text → ℕ) (xs : List Text) (x : Text) → map f (xs ++ x ∷ []) ≡ map f xs ++ f x ∷ []
map-more f [] x = refl
map-more f (y ∷ ys) x = ap (λ ns. f y ∷ ns) (map-more f ys x)

length-more : (xs : List Text) (x : Text) → length (xs ++ x ∷ []) ≡ length xs + 1
length-more [] x = refl
length-more (y ∷ ys) x = let e : length (ys ++ x ∷ []) ≡ length ys + 1 = length-more ys x in omega arith

append-one : (xs : List Text) (x : Text) (ys : List Text) → xs ++ x ∷ ys ≡ (xs ++ x ∷ []) ++ ys
append-one [] x ys = refl
append-one (z ∷ zs) x ys = ap (λ l. z ∷ l) (append-one zs x ys)

-- what a word is, if it is a number
number-is : (word : Text) (n : ℕ) → Some n ≡ number_in word → (is_number word ≡ true) × (n ≡ value_of word)
number-is word n e = by (is_number word) refl e where
  by : (b : Bool) → is_number word ≡ b → Some n ≡ (if b then Some (value_of word) else None) → (is_number word ≡ true) × (n ≡ value_of word)
  by true is e = (is, cc)
  by false is e = cc

-- one more line is cut off
pub cut-more : (text rest after line : Text) (numbers : List ℕ) (count n : ℕ) → IsCut text rest numbers count → lines_of rest ≡ line ∷ lines_of after → length after < length rest → Some n ≡ number_in line
    → IsCut text after (numbers ++ n ∷ []) (count + 1)
cut-more text rest after line numbers count n cut first shorter is =
    let number = number-is line n is in record {
      before = cut.before ++ line ∷ [];
      lines = cut.lines ∙ (ap (λ l. cut.before ++ l) first ∙ append-one cut.before line (lines_of after));
      all = all-more is_number cut.before line cut.all number.0;
      are = ap (λ l. numbers ++ l ∷ []) number.1 ∙ (ap (λ l. l ++ value_of line ∷ []) cut.are ∙ sym (map-more value_of cut.before line));
      many = let a = cut.many in let b = length-more cut.before line in omega arith;
      fits = let a = cut.fits in omega arith;
    }

no-more : (rest : Text) → length rest ≡ 0 → lines_of rest ≡ []
no-more [] none = lines-nil
no-more (b ∷ bs) none = absurd (omega arith)

append-none : (xs : List Text) → xs ++ [] ≡ xs
append-none [] = refl
append-none (x ∷ xs) = ap (λ l. x ∷ l) (append-none xs)

-- or all lines are cut off
pub cut-whole : (text rest : Text) (numbers : List ℕ) (count : ℕ) → IsCut text rest numbers count → length rest ≡ 0 → Lists text numbers
cut-whole text rest numbers count cut none =
    let whole : lines_of text ≡ cut.before = cut.lines ∙ (ap (λ l. cut.before ++ l) (no-more rest none) ∙ append-none cut.before) in record {
      all = ap (list_all is_number) whole ∙ cut.all;
      are = cut.are ∙ ap (map value_of) (sym whole);
    }

all-but : (P : Text → Bool) (xs : List Text) (x : Text) (ys : List Text) → P x ≡ false → list_all P (xs ++ x ∷ ys) ≡ true → ⊥
all-but P [] x ys wrong all = by (P x) wrong all where
  by : (b : Bool) → b ≡ false → (b && list_all P ys) ≡ true → ⊥
  by true e h = cc
  by false e h = cc
all-but P (z ∷ zs) x ys wrong all = by (P z) all (all-but P zs x ys wrong) where
  by : (b : Bool) → (b && list_all P (zs ++ x ∷ ys)) ≡ true → (list_all P (zs ++ x ∷ ys) ≡ true → ⊥) → ⊥
  by true h none = none h
  by false h none = cc

-- a text with a line that is no number lists none
pub no-list : (text : Text) (numbers : List ℕ) (line : ℕ) → Lists text numbers → IsNoNumberAt text line → ⊥
no-list text numbers line lists at = all-but is_number at.before at.word at.after at.wrong (ap (list_all is_number) (sym at.lines) ∙ lists.all)
