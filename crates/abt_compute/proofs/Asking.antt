-- Words ask one question at most.
use Rattle.std.proofs.Common.{◌≡◌, ◌∙◌, ◌+◌, ◌*◌, ℕ, List, [], ◌∷◌, drop, length, map, slice_index, ap, arith, refl, subst, sym}
use Rattle.std.specs.Prelude.{◌==◌, if◌then◌else◌}
use Rattle.abt_machine.specs.Words.{Text}
use Rattle.abt_words.specs.declared.itself.Topic.{Topic}
use Rattle.abt_words.specs.About.{AsksAbout, about_word}
use Rattle.abt_compute.specs.declared.words.Kernel.{Kernel}
use Rattle.abt_compute.specs.declared.words.Kernel.TheVariants as kernel
use Rattle.abt_compute.specs.Questions.{Question, Primes, Queens, Subsequence, Sort, Picture, Turns, Asks, AsksNothing, AsksStreams, Begins, IsNoKernel, Lacks, SaysOne, SaysTwo, kernel_of, kernel_word}

-- the first letter and the length of a name
abbrev mark : Text → ℕ
mark word = slice_index word 0 + 1000 * length word

-- the computation whose name has this mark; marks differ
abbrev kernel_at : ℕ → Kernel
kernel_at m =
    if m == 6112 then kernel.Primes
    else if m == 6113 then kernel.Queens
    else if m == 3108 then kernel.Subsequence
    else if m == 9109 then kernel.Sort
    else if m == 10109 then kernel.Picture
    else kernel.Turns

named : (k : Kernel) → kernel_at (mark (kernel_word k)) ≡ k
named kernel.Primes = refl
named kernel.Queens = refl
named kernel.Subsequence = refl
named kernel.Sort = refl
named kernel.Picture = refl
named kernel.Turns = refl

-- so names differ
same-kernel : (k l : Kernel) → kernel_word k ≡ kernel_word l → k ≡ l
same-kernel k l e = sym (named k) ∙ (ap (λ word. kernel_at (mark word)) e ∙ named l)

-- the same words are the same numbers
one-number : {most least : ℕ} (own : List Text) (n m : ℕ) (more rest : List Text) → SaysOne most own n more → SaysOne least own m rest → n ≡ m
one-number own n m more rest first second =
    let same : first.digits ≡ second.digits = let a = first.are in let b = second.are in cc in
    let a = first.number.1 in let b = second.number.1 in cc

two-numbers : {most least : ℕ} (own : List Text) (n m i j : ℕ) (more rest : List Text) → SaysTwo most own n m more → SaysTwo least own i j rest → (n ≡ i) × (m ≡ j)
two-numbers own n m i j more rest first second =
    let same : first.first ≡ second.first = let a = first.are in let b = second.are in cc in
    let equal : first.second ≡ second.second = let a = first.are in let b = second.are in cc in
    (let a = first.one.1 in let b = second.one.1 in cc, let a = first.other.1 in let b = second.other.1 in cc)

-- the same words are the same data of a computation
same-data : (q u : Question) (own more rest : List Text) → kernel_of q ≡ kernel_of u → Begins own q more → Begins own u rest → q ≡ u
same-data (Primes n) (Primes n1) own more rest e first second =
    ap Primes (one-number own n n1 more rest first second)
same-data (Primes n) (Queens n1) own more rest e first second = cc
same-data (Primes n) (Subsequence x1 y1) own more rest e first second = cc
same-data (Primes n) (Sort f1) own more rest e first second = cc
same-data (Primes n) (Picture w1 h1) own more rest e first second = cc
same-data (Primes n) (Turns w1 h1) own more rest e first second = cc
same-data (Queens n) (Primes n1) own more rest e first second = cc
same-data (Queens n) (Queens n1) own more rest e first second =
    ap Queens (one-number own n n1 more rest first second)
same-data (Queens n) (Subsequence x1 y1) own more rest e first second = cc
same-data (Queens n) (Sort f1) own more rest e first second = cc
same-data (Queens n) (Picture w1 h1) own more rest e first second = cc
same-data (Queens n) (Turns w1 h1) own more rest e first second = cc
same-data (Subsequence x y) (Primes n1) own more rest e first second = cc
same-data (Subsequence x y) (Queens n1) own more rest e first second = cc
same-data (Subsequence x y) (Subsequence x1 y1) own more rest e first second =
    let a = first.are in let b = second.are in
    let e1 : x ≡ x1 = cc in let e2 : y ≡ y1 = cc in ap (λ z. Subsequence z y) e1 ∙ ap (λ z. Subsequence x1 z) e2
same-data (Subsequence x y) (Sort f1) own more rest e first second = cc
same-data (Subsequence x y) (Picture w1 h1) own more rest e first second = cc
same-data (Subsequence x y) (Turns w1 h1) own more rest e first second = cc
same-data (Sort f) (Primes n1) own more rest e first second = cc
same-data (Sort f) (Queens n1) own more rest e first second = cc
same-data (Sort f) (Subsequence x1 y1) own more rest e first second = cc
same-data (Sort f) (Sort f1) own more rest e first second =
    let e1 : f ≡ f1 = cc in ap Sort e1
same-data (Sort f) (Picture w1 h1) own more rest e first second = cc
same-data (Sort f) (Turns w1 h1) own more rest e first second = cc
same-data (Picture w h) (Primes n1) own more rest e first second = cc
same-data (Picture w h) (Queens n1) own more rest e first second = cc
same-data (Picture w h) (Subsequence x1 y1) own more rest e first second = cc
same-data (Picture w h) (Sort f1) own more rest e first second = cc
same-data (Picture w h) (Picture w1 h1) own more rest e first second =
    ap (λ z. Picture z h) (two-numbers own w h w1 h1 more rest first second).0 ∙ ap (λ z. Picture w1 z) (two-numbers own w h w1 h1 more rest first second).1
same-data (Picture w h) (Turns w1 h1) own more rest e first second = cc
same-data (Turns w h) (Primes n1) own more rest e first second = cc
same-data (Turns w h) (Queens n1) own more rest e first second = cc
same-data (Turns w h) (Subsequence x1 y1) own more rest e first second = cc
same-data (Turns w h) (Sort f1) own more rest e first second = cc
same-data (Turns w h) (Picture w1 h1) own more rest e first second = cc
same-data (Turns w h) (Turns w1 h1) own more rest e first second =
    ap (λ z. Turns z h) (two-numbers own w h w1 h1 more rest first second).0 ∙ ap (λ z. Turns w1 z) (two-numbers own w h w1 h1 more rest first second).1

-- the words after a question's data
abbrev data_count : Kernel → ℕ
data_count kernel.Primes = 1
data_count kernel.Queens = 1
data_count kernel.Subsequence = 2
data_count kernel.Sort = 1
data_count kernel.Picture = 2
data_count kernel.Turns = 2

rest-is : (q : Question) (own more : List Text) → Begins own q more → drop (data_count (kernel_of q)) own ≡ more
rest-is (Primes n) own more begins = ap (drop 1) begins.are
rest-is (Queens n) own more begins = ap (drop 1) begins.are
rest-is (Subsequence first second) own more begins = ap (drop 2) begins.are
rest-is (Sort file) own more begins = ap (drop 1) begins
rest-is (Picture width height) own more begins = ap (drop 2) begins.are
rest-is (Turns nodes turns) own more begins = ap (drop 2) begins.are

-- so words ask one question
pub one-question : (words : List Text) (q u : Question) (streams other : ℕ) → Asks words q streams → Asks words u other → q ≡ u
one-question words q u streams other first second =
    let named : kernel_word (kernel_of q) ≡ kernel_word (kernel_of u) = let a = first.name in let b = second.name in cc in
    let same : second.own ≡ first.own = let a = first.name in let b = second.name in cc in
    same-data q u first.own first.more second.more (same-kernel (kernel_of q) (kernel_of u) named) first.begins (subst (λ own. Begins own u second.more) same second.begins)

-- a list with no element
pub none-left : {A B : Type 0} (f : A → B) (xs : List A) → length xs ≡ 0 → map f xs ≡ []
none-left f [] e = refl
none-left f (x ∷ xs) e = absurd (omega arith)

-- Words that ask for nothing.

pub no-words : AsksNothing []
no-words q streams asks = let a = asks.name in cc

module _ (name : Text) (own : List Text) where
  pub no-kernel : IsNoKernel name → AsksNothing (name ∷ own)
  no-kernel none q streams asks = none (kernel_of q) (let a = asks.name in cc)

  module _ (k : Kernel) (named : kernel_word k ≡ name) where
    kernel-is : (q : Question) (streams : ℕ) → Asks (name ∷ own) q streams → kernel_of q ≡ k
    kernel-is q streams asks = same-kernel (kernel_of q) k (let a = asks.name in cc)

    own-is : (q : Question) (streams : ℕ) (asks : Asks (name ∷ own) q streams) → Begins own q asks.more
    own-is q streams asks = subst (λ ws. Begins ws q asks.more) (let e : asks.own ≡ own = let a = asks.name in cc in e) asks.begins

    pub no-data : Lacks k own → AsksNothing (name ∷ own)
    no-data lacks q streams asks = lacks q asks.more (kernel-is q streams asks) (own-is q streams asks)

    pub no-streams : (q : Question) (more : List Text) → kernel_of q ≡ k → Begins own q more → ((streams : ℕ) → AsksStreams more streams → ⊥) → AsksNothing (name ∷ own)
    no-streams q more is begins none u streams asks =
        let rest : asks.more ≡ more = sym (rest-is u own asks.more (own-is u streams asks)) ∙ (ap (λ l. drop (data_count l) own) (kernel-is u streams asks ∙ sym is) ∙ rest-is q own more begins) in
        none streams (subst (λ ws. AsksStreams ws streams) rest asks.streams_asked)

-- a name alone asks no question
no-question : (q : Question) (own more : List Text) → Begins own q more → own ≡ [] → ⊥
no-question (Primes n) own more begins none = let are = begins.are in cc
no-question (Queens n) own more begins none = let are = begins.are in cc
no-question (Subsequence first second) own more begins none = let are = begins.are in cc
no-question (Sort file) own more begins none = cc
no-question (Picture width height) own more begins none = let are = begins.are in cc
no-question (Turns nodes turns) own more begins none = let are = begins.are in cc

-- so words that ask a question do not ask about the program
pub question-or-about : (words : List Text) (q : Question) (streams : ℕ) (topic : Topic) → Asks words q streams → AsksAbout words topic → ⊥
question-or-about words q streams topic asks about =
    no-question q asks.own asks.more asks.begins (tail-is (kernel_word (kernel_of q)) (about_word topic) asks.own (sym asks.name ∙ about)) where
      tail-is : (a b : Text) (own : List Text) → a ∷ own ≡ b ∷ [] → own ≡ []
      tail-is a b own e = cc
