-- An operation is refused for access exactly if its stream must not reach the pool that it names.
use Rattle.std.proofs.Common.{◌≡◌, ℕ, Bool, true, false, ◌↔◌, Option, Some, None, refl, subst}
use Rattle.std.specs.Prelude.{◌&&◌, IfSome, IsTrue}
use Rattle.std.proofs.lemmas.Bool.{false≢true}
use Rattle.abt_machine.specs.declared.events.Code.{Code}
use Rattle.abt_machine.specs.declared.events.Code.TheVariants as code
use Rattle.abt_machine.specs.declared.operations.Op.{Op}
use Rattle.abt_machine.specs.declared.operations.Op.TheVariants as op
use Rattle.abt_machine.specs.declared.workload.Parts.{Parts}
use Rattle.abt_machine.specs.Access.{may_put, may_reach, may_take, may_use, pool_given, pool_taken}
use Rattle.abt_machine.specs.Codes.{code_of, reached_code, unless}
use Rattle.abt_machine.specs.State.{State}
use Rattle.abt_bounds.specs.Accesses.{IsWithinAccess}
use Rattle.abt_bounds.specs.Laws.{DeniedAreRefused}

-- every code but PoolAccess
abbrev IsOther : Code → Type 0
IsOther code.PoolAccess = ⊥
IsOther _ = Unit {0}

other : (c : Code) → IsOther c → c ≡ code.PoolAccess → ⊥
other c is e = subst IsOther e is

unless-other : (test : Bool) (c rest : Code) → IsOther c → IsOther rest → IsOther (unless test c rest)
unless-other true c rest a b = b
unless-other false c rest a b = a

-- a code whose first test is that the stream may reach the pools
denied-by : (test : Bool) (rest : Code) → IsOther rest → (unless test code.PoolAccess rest ≡ code.PoolAccess) ↔ (IsTrue test → ⊥)
denied-by true rest is = (λ e _. other rest is e, λ none. absurd (none refl))
denied-by false rest is = (λ e may. false≢true may, λ none. refl)

may-both : (take put : Bool) → IsTrue (take && put) ↔ (IsTrue take × IsTrue put)
may-both true put = (λ h. (refl, h), λ h. h.1)
may-both false put = (λ h. absurd (false≢true h), λ h. h.0)

-- the two pools that an operation may name
may-use : (W : Parts) (s : ℕ) (taken given : Option ℕ)
    → IsTrue (may_use W s taken given) ↔ (IfSome taken (λ p. IsTrue (may_take W s p)) × IfSome given (λ p. IsTrue (may_put W s p)))
may-use W s None None = (λ h. (tt, tt), λ h. refl)
may-use W s (Some p) None = (λ h. (h, tt), λ h. h.0)
may-use W s None (Some q) = (λ h. (tt, h), λ h. h.1)
may-use W s (Some p) (Some q) = may-both (may_take W s p) (may_put W s q)

-- an operation whose pool may be reached is refused for other reasons, if at all; the last line is checked for each operation by itself
own-code : (W : Parts) (S : State) (u : ℕ) (o : Op) → IsOther (reached_code W S u o)
own-code W S u op.Yield = tt
own-code W S u _ = search unless-other

pub denied : (W : Parts) (S : State) (s u : ℕ) (o : Op) → (code_of W S s u o ≡ code.PoolAccess) ↔ (IsWithinAccess W s o → ⊥)
denied W S s u o =
    let may = may-use W s (pool_taken o) (pool_given W o) in
    let by = denied-by (may_reach W s o) (reached_code W S u o) (own-code W S u o) in
    (λ e within. by.0 e (may.1 within), λ none. by.1 (λ h. none (may.0 h)))

pub denied-are-refused : (W : Parts) → DeniedAreRefused W
denied-are-refused W S s u o = denied W S s u o
