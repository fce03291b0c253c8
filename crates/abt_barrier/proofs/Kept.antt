-- What barriers keep of their units.
use Rattle.std.proofs.Common.{ℕ, [], ◌∷◌, ◌++◌, sym, subst, All}
use Rattle.std.proofs.lemmas.List.Elements.{All-append, All-cons, All-head, All-nil}
use Rattle.abt_machine.specs.Acts.{Arrive, Through, Rested}
use Rattle.abt_machine.specs.Barriers.{BarrierGives}
use Rattle.abt_machine.specs.Values.{Owned, BarrierValue}
use Rattle.abt_unit.specs.Fits.{Fits}
use Rattle.abt_chain.specs.Keeping.{Have, IsPoolOf, Keeps}
use Rattle.abt_chain.proofs.Kept.{Have-nothing, Have-units}
use Rattle.abt_barrier.specs.Keeps.{BarriersKeepWhatFits, contents_of_barrier}

-- what a barrier holds has the facts
abbrev HaveIn : (Owned → Type 0) → (ℕ → Type 0) → BarrierValue → Type 0
HaveIn F D barrier = Have F D (contents_of_barrier barrier)

-- barriers keep any fact of units
pub barriers-keep : (F : Owned → Type 0) (D : ℕ → Type 0) → Keeps F D contents_of_barrier BarrierGives
barriers-keep F D old (Arrive o) (Through b os) new gives held asked = (
  Have-units F D (b ∷ os) (All-cons F b os (subst F (sym gives.1) (All-head F o [] asked.0)) (subst (All F) (sym gives.2) held.0)),
  subst (HaveIn F D) (sym gives.3) (Have-units F D [] (All-nil F)),
)
barriers-keep F D old (Arrive o) Rested new gives held asked =
    (Have-nothing F D, subst (HaveIn F D) (sym gives.1) (Have-units F D (old.waiters ++ o ∷ []) (All-append F old.waiters (o ∷ []) held.0 asked.0)))
barriers-keep F D old act answer new gives held asked = absurd gives

pub barriers-keep-what-fits : BarriersKeepWhatFits
barriers-keep-what-fits W = barriers-keep (Fits W) (IsPoolOf W)
