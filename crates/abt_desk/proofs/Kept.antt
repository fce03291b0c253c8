-- What desks keep of their units, and of the pools that requests name.
use Rattle.std.proofs.Common.{◌≡◌, ℕ, List, [], ◌∷◌, ◌++◌, Bool, true, false, if◌then◌else◌, Option, None, Some, option_map, sym, subst, All, append_assoc, refl}
use Rattle.std.proofs.lemmas.List.Elements.{All-append, All-cons, All-head, All-nil, All-tail}
use Rattle.abt_machine.specs.declared.events.Cause.{Cause}
use Rattle.abt_machine.specs.declared.events.Code.TheVariants as code
use Rattle.abt_machine.specs.Acts.{Create, End, Join, AskCancel, AskMigrate, Look, Suspend, Resume, Revive, SetMigratable, Given, Woke, Rested, Asks, Coded, reborn}
use Rattle.abt_machine.specs.Desks.{DeskGives, ended_in, suspended_in, takes_back, unborn_in, with_ended, with_joiner, with_phase}
use Rattle.abt_machine.specs.Values.{Owned, Phase, Unborn, Out, Suspended, Ended, DeskValue}
use Rattle.abt_chain.specs.Keeping.{Have, IsPoolOf, Keeps, LastsWith, pools_in}
use Rattle.abt_chain.proofs.Kept.{Fits-lasts, Have-nothing, Have-unit, Have-units}
use Rattle.abt_unit.specs.Fits.{Fits}
use Rattle.abt_desk.specs.Keeps.{DesksKeepWhatFits, contents_of_desk, held_in}

-- what a desk holds has the facts
abbrev HaveIn : (Owned → Type 0) → (ℕ → Type 0) → DeskValue → Type 0
HaveIn F D desk = Have F D (contents_of_desk desk)

-- The unit that a desk holds, by its phase.

unborn-has : (F : Owned → Type 0) (phase : Phase) (os : List Owned) (x : Owned) → All F (held_in phase ++ os) → unborn_in phase ≡ Some x → F x
unborn-has F (Unborn o) os x all e = let same : o ≡ x = cc in subst F same (All-head F o os all)
unborn-has F Out os x all e = cc
unborn-has F (Suspended o) os x all e = cc
unborn-has F (Ended o c) os x all e = cc

suspended-has : (F : Owned → Type 0) (phase : Phase) (os : List Owned) (x : Owned) → All F (held_in phase ++ os) → suspended_in phase ≡ Some x → F x
suspended-has F (Unborn o) os x all e = cc
suspended-has F Out os x all e = cc
suspended-has F (Suspended o) os x all e = let same : o ≡ x = cc in subst F same (All-head F o os all)
suspended-has F (Ended o c) os x all e = cc

ended-has : (F : Owned → Type 0) (phase : Phase) (os : List Owned) (x : Owned) → All F (held_in phase ++ os) → ended_in phase ≡ Some x → F x
ended-has F (Unborn o) os x all e = cc
ended-has F Out os x all e = cc
ended-has F (Suspended o) os x all e = cc
ended-has F (Ended o c) os x all e = let same : o ≡ x = cc in subst F same (All-head F o os all)

-- a unit that begins a life
reborn-has : (F : Owned → Type 0) (D : ℕ → Type 0) → LastsWith D F → (p : ℕ) → D p → (f : Option Owned) (x : Owned) → ((o : Owned) → f ≡ Some o → F o) → option_map (reborn p) f ≡ Some x → F x
reborn-has F D lasts p allowed None x has e = cc
reborn-has F D lasts p allowed (Some o) x has e = let same : reborn p o ≡ x = cc in subst F same (lasts.reborn o p (has o refl) allowed)

-- Joiners.

joiners-have : (F : Owned → Type 0) (phase : Phase) (os : List Owned) → All F (held_in phase ++ os) → All F os
joiners-have F (Unborn o) os all = All-tail F o os all
joiners-have F Out os all = all
joiners-have F (Suspended o) os all = All-tail F o os all
joiners-have F (Ended o c) os all = All-tail F o os all

-- one joiner more
with-joiner-has : (F : Owned → Type 0) (phase : Phase) (os : List Owned) (x : Owned) → All F (held_in phase ++ os) → F x → All F (held_in phase ++ (os ++ x ∷ []))
with-joiner-has F phase os x all has =
    subst (All F) (append_assoc (held_in phase) os (x ∷ [])) (All-append F (held_in phase ++ os) (x ∷ []) all (All-cons F x [] has (All-nil F)))

-- a unit that ends or is suspended, if it comes back to its desk and if it is kept as a joiner

end-keeps : (F : Owned → Type 0) (D : ℕ → Type 0) (old : DeskValue) (o : Owned) (cause : Cause) (back : Bool) → HaveIn F D old → F o
    → All F (if back then old.joiners else []) × HaveIn F D (if back then with_ended o cause old else with_joiner o old)
end-keeps F D old o cause true held has = (joiners-have F old.phase old.joiners held.0, (All-cons F o [] has (All-nil F), All-nil D))
end-keeps F D old o cause false held has = (All-nil F, (with-joiner-has F old.phase old.joiners o held.0 has, held.1))

suspend-keeps : (F : Owned → Type 0) (D : ℕ → Type 0) (old : DeskValue) (o : Owned) (back : Bool) → HaveIn F D old → F o
    → HaveIn F D (if back then with_phase (Suspended o) old else with_joiner o old)
suspend-keeps F D old o true held has = (All-cons F o old.joiners has (joiners-have F old.phase old.joiners held.0), held.1)
suspend-keeps F D old o false held has = (with-joiner-has F old.phase old.joiners o held.0 has, held.1)

-- the desk is out
out-has : (F : Owned → Type 0) (D : ℕ → Type 0) (old : DeskValue) → HaveIn F D old → HaveIn F D (with_phase Out old)
out-has F D old held = (joiners-have F old.phase old.joiners held.0, held.1)

-- desks keep any fact that lasts
pub desks-keep : (F : Owned → Type 0) (D : ℕ → Type 0) → LastsWith D F → Keeps F D contents_of_desk DeskGives
desks-keep F D lasts old (Create p) (Given o) new gives held asked = (
  Have-unit F D o (reborn-has F D lasts p (All-head D p [] asked.1) (unborn_in old.phase) o (λ x. unborn-has F old.phase old.joiners x held.0) gives.0),
  subst (HaveIn F D) (sym gives.1) (out-has F D old held),
)
desks-keep F D lasts old (Create p) (Coded code.Exists) new gives held asked = (Have-nothing F D, subst (HaveIn F D) (sym gives.1) held)
desks-keep F D lasts old (End o cause) (Woke os) new gives held asked =
    let both = end-keeps F D old o cause (takes_back old o) held (All-head F o [] asked.0) in
    (Have-units F D os (subst (All F) (sym gives.0) both.0), subst (HaveIn F D) (sym gives.1) both.1)
desks-keep F D lasts old (Join o) (Given b) new gives held asked = (subst (λ x. Have F D (record { units = x ∷ []; pools = [] })) (sym gives.1) asked, subst (HaveIn F D) (sym gives.2) held)
desks-keep F D lasts old (Join o) Rested new gives held asked =
    (Have-nothing F D, subst (HaveIn F D) (sym gives.1) (with-joiner-has F old.phase old.joiners o held.0 (All-head F o [] asked.0), held.1))
desks-keep F D lasts old AskCancel (Coded code.Ok) new gives held asked = (Have-nothing F D, subst (HaveIn F D) (sym gives.1) held)
desks-keep F D lasts old AskCancel (Coded code.UnitState) new gives held asked = (Have-nothing F D, subst (HaveIn F D) (sym gives.1) held)
desks-keep F D lasts old (AskMigrate p) (Coded code.Ok) new gives held asked = (Have-nothing F D, subst (HaveIn F D) (sym gives.2) (held.0, asked.1))
desks-keep F D lasts old (AskMigrate p) (Coded code.UnitState) new gives held asked = (Have-nothing F D, subst (HaveIn F D) (sym gives.1) held)
desks-keep F D lasts old (AskMigrate p) (Coded code.NotMigratable) new gives held asked = (Have-nothing F D, subst (HaveIn F D) (sym gives.2) held)
desks-keep F D lasts old Look (Asks cancel migrate) new gives held asked =
    ((All-nil F, subst (λ m. All D (pools_in m)) (sym gives.1) held.1), subst (HaveIn F D) (sym gives.2) (held.0, All-nil D))
desks-keep F D lasts old (Suspend o) Rested new gives held asked =
    (Have-nothing F D, subst (HaveIn F D) (sym gives) (suspend-keeps F D old o (takes_back old o) held (All-head F o [] asked.0)))
desks-keep F D lasts old Resume (Given o) new gives held asked =
    (Have-unit F D o (suspended-has F old.phase old.joiners o held.0 gives.0), subst (HaveIn F D) (sym gives.1) (out-has F D old held))
desks-keep F D lasts old Resume (Coded code.UnitState) new gives held asked = (Have-nothing F D, subst (HaveIn F D) (sym gives.1) held)
desks-keep F D lasts old (Revive p) (Given o) new gives held asked = (
  Have-unit F D o (reborn-has F D lasts p (All-head D p [] asked.1) (ended_in old.phase) o (λ x. ended-has F old.phase old.joiners x held.0) gives.0),
  subst (HaveIn F D) (sym gives.1) (out-has F D old held),
)
desks-keep F D lasts old (Revive p) (Coded code.UnitState) new gives held asked = (Have-nothing F D, subst (HaveIn F D) (sym gives.1) held)
desks-keep F D lasts old (SetMigratable allowed) (Coded code.Ok) new gives held asked = (Have-nothing F D, subst (HaveIn F D) (sym gives.1) held)
desks-keep F D lasts old (SetMigratable allowed) (Coded code.NotMigratable) new gives held asked = (Have-nothing F D, subst (HaveIn F D) (sym gives.1) held)
desks-keep F D lasts old act answer new gives held asked = absurd gives

pub desks-keep-what-fits : DesksKeepWhatFits
desks-keep-what-fits W = desks-keep (Fits W) (IsPoolOf W) (Fits-lasts W)
