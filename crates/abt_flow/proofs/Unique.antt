-- A confluent workload has one flow at most.
use Rattle.std.proofs.Common.{◌≡◌, ℕ, zero, suc, ◌%◌, ◌^◌, List, [], ◌∷◌, length, Option, Some, None, refl, sym, ◌∙◌, ap, subst, arith, inl, inr}
use Rattle.std.specs.Prelude.{slice_get}
use Rattle.abt_machine.specs.declared.events.Piece.{Piece}
use Rattle.abt_machine.specs.declared.operations.Op.{Op}
use Rattle.abt_machine.specs.declared.workload.Parts.{Parts}
use Rattle.abt_machine.specs.Numbers.{object_no}
use Rattle.abt_machine.specs.Workloads.{body_at, op_at, ops_of}
use Rattle.abt_laws.proofs.Options.{some-injective}
use Rattle.abt_bounds.specs.Laws.{ops_in}
use Rattle.abt_flow.specs.Confluent.{Confluent}
use Rattle.abt_flow.specs.Effects.{Memory, FlowEffect, Computes, Calls, Awaits, Depends, effect, with_acc}
use Rattle.abt_flow.specs.Flow.{AtPoint, Becomes, Executes, Functions, IsRow, Made, SetsTo}
use Rattle.abt_flow.specs.Laws.{FlowIsOne}

-- if values are one, what they lead to is one.

module _ (R : Functions) (Found Other : ℕ → ℕ → Type 0) (one : (x n k : ℕ) → Found x n → Other x k → n ≡ k) where
  leads-one : (u : ℕ) (e : FlowEffect) (old new next : Memory) → Becomes R u Found e old new → Becomes R u Other e old next → new ≡ next
  leads-one u (Computes f) old new next g h = g ∙ sym h
  leads-one u (Calls f) old new next g h =
      let word : g.0 ≡ h.0 = some-injective (sym g.1 ∙ h.1) in
      g.2 ∙ (ap (λ n. with_acc (n % 2 ^ 64) old) word ∙ sym h.2)
  leads-one u (Awaits x) old new next g h = g.2 ∙ (ap (λ n. with_acc n old) (one x g.0 h.0 g.1 h.1) ∙ sym h.2)
  leads-one u Depends old new next g h = absurd g

  does-one : (u : ℕ) (o : Option Op) (old new next : Memory) → Executes R u Found o old new → Executes R u Other o old next → new ≡ next
  does-one u None old new next g h = absurd g
  does-one u (Some o) old new next g h = leads-one u (effect o) old new next g h

  made-one : (W : Parts) (u k : ℕ) (m n : Memory) → Made W R Found u k m → Made W R Other u k n → m ≡ n
  made-one W u zero m n g h = g ∙ sym h
  made-one W u (suc k) m n g h =
      let same : g.0 ≡ h.0 = made-one W u k g.0 h.0 g.1 h.1 in
      does-one u (op_at W u k) g.0 m n g.2 (subst (λ old. Executes R u Other (op_at W u k) old n) (sym same) h.2)

value-one : (W : Parts) (At Other : ℕ → ℕ → Memory → Type 0) → Confluent W → ((u k : ℕ) (m n : Memory) → At u k m → Other u k n → m ≡ n) → (x n k : ℕ) → SetsTo W At x n → SetsTo W Other x k → n ≡ k
value-one W At Other confluent one x n k g h =
    let same : (g.0 ≡ h.0) × (g.1 ≡ h.1) = confluent.sets_once g.0 h.0 g.1 h.1 (object_no x) g.4 h.4 in
    let there : Other g.0 g.1 h.2 = subst (λ v. Other v g.1 h.2) (sym same.0) (subst (λ j. Other h.0 j h.2) (sym same.1) h.5) in
    let memories : g.2 ≡ h.2 = one g.0 g.1 g.2 h.2 g.5 there in
    sym g.6 ∙ (ap (λ (m : Memory). m.acc) memories ∙ h.6)

-- a point has one memory at most
pub point-one : (W : Parts) (R : Functions) → Confluent W → (f g u k : ℕ) (m n : Memory) → AtPoint W R f u k m → AtPoint W R g u k n → m ≡ n
point-one W R confluent zero g u k m n a b = absurd a
point-one W R confluent (suc f) zero u k m n a b = absurd b
point-one W R confluent (suc f) (suc g) u k m n a b =
    made-one R (SetsTo W (λ v j c. AtPoint W R f v j c)) (SetsTo W (λ v j c. AtPoint W R g v j c))
    (value-one W (λ v j c. AtPoint W R f v j c) (λ v j c. AtPoint W R g v j c) confluent (λ v j c d. point-one W R confluent f g v j c d)) W u k m n a b

row-one : (W : Parts) (R : Functions) → Confluent W → (u : ℕ) (one two : List Piece) → IsRow W R u one → IsRow W R u two → one ≡ two
row-one W R confluent u one two (inl a) (inl b) =
    let n : ℕ = suc (ops_in W) in
    sym a.1.2 ∙ (ap (λ (m : Memory). m.output) (point-one W R confluent n n u (length (ops_of (body_at W u))) a.1.0 b.1.0 a.1.1 b.1.1) ∙ b.1.2)
row-one W R confluent u one two (inl a) (inr b) = absurd (b.0 a.0)
row-one W R confluent u one two (inr a) (inl b) = absurd (a.0 b.0)
row-one W R confluent u one two (inr a) (inr b) = a.1 ∙ sym b.1

lists-one : {A : Type 0} (P : ℕ → A → Type 0) → ((k : ℕ) (a b : A) → P k a → P k b → a ≡ b) → (xs ys : List A) → length xs ≡ length ys →
    ((k : ℕ) (a : A) → slice_get xs k ≡ Some a → P k a) → ((k : ℕ) (a : A) → slice_get ys k ≡ Some a → P k a) → xs ≡ ys
lists-one P one [] [] e f g = refl
lists-one P one [] (y ∷ ys) e f g = absurd (omega arith)
lists-one P one (x ∷ xs) [] e f g = absurd (omega arith)
lists-one P one (x ∷ xs) (y ∷ ys) e f g =
    let head : x ≡ y = one 0 x y (f 0 x refl) (g 0 y refl) in
    let tail : xs ≡ ys = lists-one (λ k. P (suc k)) (λ k. one (suc k)) xs ys (omega arith) (λ k. f (suc k)) (λ k. g (suc k)) in
    ap (λ z. z ∷ xs) head ∙ ap (λ zs. y ∷ zs) tail

pub flow-is-one : (W : Parts) (R : Functions) → FlowIsOne W R
flow-is-one W R confluent one two a b = lists-one (IsRow W R) (row-one W R confluent) one two (a.one_each ∙ sym b.one_each) a.each b.each
