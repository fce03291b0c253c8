-- In alike states the codes are the same.
use Rattle.std.proofs.Common.{◌≡◌, ℕ, if◌then◌else◌, Bool, true, false, Option, Some, None, refl, ◌∙◌, ap, ◌⊎◌}
use Rattle.abt_machine.specs.declared.events.Code.{Code}
use Rattle.abt_machine.specs.declared.events.Code.TheVariants as code
use Rattle.abt_machine.specs.declared.events.Place.{Place}
use Rattle.abt_machine.specs.declared.events.Site.{Site}
use Rattle.abt_machine.specs.declared.events.Site.TheVariants as site
use Rattle.abt_machine.specs.declared.operations.Op.{Op}
use Rattle.abt_machine.specs.declared.operations.Op.TheVariants as op
use Rattle.abt_machine.specs.declared.workload.Parts.{Parts}
use Rattle.abt_machine.specs.Numbers.{unit_no}
use Rattle.abt_machine.specs.Access.{may_reach}
use Rattle.abt_machine.specs.Start.{start}
use Rattle.abt_machine.specs.Values.{Owned, owned_at}
use Rattle.abt_machine.specs.Plans.{Plan, denied, reached_plan}
use Rattle.abt_machine.specs.EventSites.{plan_site, op_site, site_at}
use Rattle.abt_machine.specs.State.{State, Desk}
use Rattle.abt_machine.specs.Codes.{unless, is_unborn, is_ended, is_alive, is_suspended, is_in_pool, code_of, code_at, reached_code}
use Rattle.abt_laws.specs.Footprint.{Within, holder}
use Rattle.abt_laws.proofs.Keeping.{unborn-seen, ended-seen, alive-seen, suspended-seen, in_pool-seen}
use Rattle.abt_laws.proofs.Alike.{IsAlike, seen-alike, seen-same}

module _ (W : Parts) (s : ℕ) (x : Option Site) (S T : State) (alike : IsAlike W s x S T) where
  -- the code of a test of a unit's place
  same-test : (test : Place → Bool) (other : Bool) (c rest : Code) (v : ℕ) → ((pl : Place) → Within s x (holder W v pl) ⊎ (test pl ≡ other)) → unless (test (S.place v)) c rest ≡ unless (test (T.place v)) c rest
  same-test test other c rest v seen = ap (λ b. unless b c rest) (seen-alike W s x S T alike test other v seen)

  same-migrate : (v : ℕ) → x ≡ Some (site.Desk (unit_no v)) → unless (is_alive (S.place v)) code.UnitState (unless (S.desk v).migratable code.NotMigratable code.Ok) ≡ unless (is_alive (T.place v)) code.UnitState (unless (T.desk v).migratable code.NotMigratable code.Ok)
  same-migrate v e =
      same-test is_alive true code.UnitState (unless (S.desk v).migratable code.NotMigratable code.Ok) v (λ pl. alive-seen W s x v pl e)
      ∙ ap (λ (d : Desk). unless (is_alive (T.place v)) code.UnitState (unless d.migratable code.NotMigratable code.Ok)) (alike.desk v e)

-- if the site is there only if a test holds, so that what comes behind the test is the same at it
unless-alike : (W : Parts) (s : ℕ) (S T : State) (may : Bool) (called refused : Plan) (c k l : Code) → (IsAlike W s (plan_site called) S T → k ≡ l) → IsAlike W s (plan_site (if may then called else refused)) S T → unless may c k ≡ unless may c l
unless-alike W s S T true called refused c k l same alike = same alike
unless-alike W s S T false called refused c k l same alike = refl

module _ (W : Parts) (s u : ℕ) (S T : State) where
  -- the unit as it is at the start, by whose plan the site is found
  abbrev fresh : Owned
  fresh = owned_at (start W) u

  -- the code of each operation whose pool the stream may reach
  own-alike : (o : Op) → IsAlike W s (plan_site (reached_plan W o fresh)) S T → reached_code W S u o ≡ reached_code W T u o
  own-alike (op.YieldTo v p) alike = same-test W s _ S T alike (is_in_pool p.0) false code.Absent code.Ok v.0 (λ pl. in_pool-seen W s _ v.0 p.0 pl refl)
  own-alike (op.Resume v) alike = same-test W s _ S T alike is_suspended false code.UnitState code.Ok v.0 (λ pl. suspended-seen W s _ v.0 pl refl)
  own-alike (op.Create v p) alike = same-test W s _ S T alike is_unborn false code.Exists code.Ok v.0 (λ pl. unborn-seen W s _ v.0 pl refl)
  own-alike (op.Cancel v) alike = same-test W s _ S T alike is_alive true code.UnitState code.Ok v.0 (λ pl. alive-seen W s _ v.0 pl refl)
  own-alike (op.Migrate v p) alike = same-migrate W s _ S T alike v.0 refl
  own-alike (op.MigrateTo v r) alike = same-migrate W s _ S T alike v.0 refl
  own-alike (op.Revive v p) alike = same-test W s _ S T alike is_ended false code.UnitState code.Ok v.0 (λ pl. ended-seen W s _ v.0 pl refl)
  -- one part at the site is all that is read
  own-alike o alike = λ i. reached_code W (seen-same W s (plan_site (reached_plan W o fresh)) S T alike i) u o

  -- the code of each operation
  code-alike : (o : Op) → IsAlike W s (op_site W s u o) S T → code_of W S s u o ≡ code_of W T s u o
  code-alike o alike = unless-alike W s S T (may_reach W s o) (reached_plan W o fresh) (denied fresh) code.PoolAccess _ _ (own-alike o) alike

  pub code_at-alike : (o : Option Op) → IsAlike W s (site_at W s u o) S T → code_at W S s u o ≡ code_at W T s u o
  code_at-alike None alike = refl
  code_at-alike (Some o) alike = code-alike o alike
