-- What eventuals and futures keep of their units.
use Rattle.std.proofs.Common.{◌≡◌, ℕ, List, [], ◌∷◌, Bool, true, false, Option, None, Some, option_map, if◌then◌else◌, sym, subst, All}
use Rattle.std.proofs.lemmas.List.Elements.{All-append, All-head, All-nil}
use Rattle.abt_machine.specs.declared.events.Code.TheVariants as code
use Rattle.abt_machine.specs.Acts.{Await, Fill, Reset, Test, Given, Woke, Rested, Number, Coded, received}
use Rattle.abt_machine.specs.Eventuals.{EventualGives}
use Rattle.abt_machine.specs.Futures.{FutureGives, is_ready, left_waiting, with_one_more, woken_by}
use Rattle.abt_machine.specs.Values.{EventualValue, FutureValue, Owned}
use Rattle.abt_unit.specs.Fits.{Fits}
use Rattle.abt_chain.specs.Keeping.{Have, IsPoolOf, Keeps, LastsWith}
use Rattle.abt_chain.proofs.Kept.{All-received, Fits-lasts, Have-nothing, Have-unit, Have-units}
use Rattle.abt_eventual.specs.Keeps.{EventualsKeepWhatFits, FuturesKeepWhatFits, contents_of_eventual, contents_of_future}

received-has : (F : Owned → Type 0) (D : ℕ → Type 0) → LastsWith D F → (value : Option ℕ) (o b : Owned) → F o → option_map (λ n. received n o) value ≡ Some b → F b
received-has F D lasts None o b has e = cc
received-has F D lasts (Some n) o b has e = let same : received n o ≡ b = cc in subst F same (lasts.received o n has)

-- Eventuals.

eventual-becomes : (F : Owned → Type 0) (D : ℕ → Type 0) (e new : EventualValue) → new ≡ e → All F e.waiters → Have F D (contents_of_eventual new)
eventual-becomes F D e new same all =
    let P : EventualValue → Type 0 = λ x. Have F D (contents_of_eventual x) in subst P (sym same) (Have-units F D e.waiters all)

-- eventuals keep any fact of units that a received value keeps
pub eventuals-keep : (F : Owned → Type 0) (D : ℕ → Type 0) → LastsWith D F → Keeps F D contents_of_eventual EventualGives
eventuals-keep F D lasts old (Await o) (Given b) new gives have asked =
    (Have-unit F D b (received-has F D lasts old.value o b (All-head F o [] asked.0) gives.0), eventual-becomes F D old new gives.1 have.0)
eventuals-keep F D lasts old (Await o) Rested new gives have asked =
    (Have-nothing F D, eventual-becomes F D _ new gives.1 (All-append F old.waiters (o ∷ []) have.0 asked.0))
eventuals-keep F D lasts old (Fill n) (Woke os) new gives have asked =
    (Have-units F D os (subst (All F) (sym gives.1) (All-received F D lasts n old.waiters have.0)), eventual-becomes F D _ new gives.2 (All-nil F))
eventuals-keep F D lasts old (Fill n) (Coded code.EventualSet) new gives have asked = (Have-nothing F D, eventual-becomes F D old new gives.1 have.0)
eventuals-keep F D lasts old Reset Rested new gives have asked = (Have-nothing F D, eventual-becomes F D _ new gives have.0)
eventuals-keep F D lasts old Test (Number n) new gives have asked = (Have-nothing F D, eventual-becomes F D old new gives.1 have.0)
eventuals-keep F D lasts old act answer new gives have asked = absurd gives

pub eventuals-keep-what-fits : EventualsKeepWhatFits
eventuals-keep-what-fits W = eventuals-keep (Fits W) (IsPoolOf W) (Fits-lasts W)

-- Futures.

future-becomes : (F : Owned → Type 0) (D : ℕ → Type 0) (f new : FutureValue) → new ≡ f → All F f.waiters → Have F D (contents_of_future new)
future-becomes F D f new same all =
    let P : FutureValue → Type 0 = λ x. Have F D (contents_of_future x) in subst P (sym same) (Have-units F D f.waiters all)

All-if : (F : Owned → Type 0) (b : Bool) (xs ys : List Owned) → All F xs → All F ys → All F (if b then xs else ys)
All-if F true xs ys first second = first
All-if F false xs ys first second = second

All-woken_by : (F : Owned → Type 0) (D : ℕ → Type 0) → LastsWith D F → (f : FutureValue) → All F f.waiters → All F (woken_by f)
All-woken_by F D lasts f all = All-if F (is_ready f) _ _ (All-received F D lasts f.value f.waiters all) (All-nil F)

All-left_waiting : (F : Owned → Type 0) (f : FutureValue) → All F f.waiters → All F (left_waiting f).waiters
All-left_waiting F f all = All-if F (is_ready f) _ _ (All-nil F) all

-- futures keep any fact of units that a received value keeps
pub futures-keep : (F : Owned → Type 0) (D : ℕ → Type 0) → LastsWith D F → Keeps F D contents_of_future FutureGives
futures-keep F D lasts old (Await o) (Given b) new gives have asked =
    (Have-unit F D b (subst F (sym gives.1) (lasts.received o old.value (All-head F o [] asked.0))), future-becomes F D old new gives.2 have.0)
futures-keep F D lasts old (Await o) Rested new gives have asked =
    (Have-nothing F D, future-becomes F D _ new gives.1 (All-append F old.waiters (o ∷ []) have.0 asked.0))
futures-keep F D lasts old (Fill n) (Woke os) new gives have asked =
    (Have-units F D os (subst (All F) (sym gives.1) (All-woken_by F D lasts (with_one_more n old) have.0)), future-becomes F D _ new gives.2 (All-left_waiting F (with_one_more n old) have.0))
futures-keep F D lasts old (Fill n) (Coded code.FutureFull) new gives have asked = (Have-nothing F D, future-becomes F D old new gives.1 have.0)
futures-keep F D lasts old Reset Rested new gives have asked = (Have-nothing F D, future-becomes F D _ new gives have.0)
futures-keep F D lasts old Test (Number n) new gives have asked = (Have-nothing F D, future-becomes F D old new gives.1 have.0)
futures-keep F D lasts old act answer new gives have asked = absurd gives

pub futures-keep-what-fits : FuturesKeepWhatFits
futures-keep-what-fits W = futures-keep (Fits W) (IsPoolOf W) (Fits-lasts W)
