-- A stream calls the site of its event, if the event has one.
use Rattle.std.proofs.Common.{◌≡◌, ℕ, Bool, true, false, Option, refl, sym, ◌∙◌, ap}
use Rattle.std.specs.Prelude.{if◌then◌else◌}
use Rattle.abt_machine.specs.declared.events.Code.{Code}
use Rattle.abt_machine.specs.declared.events.What.{What}
use Rattle.abt_machine.specs.declared.events.What.TheVariants as what
use Rattle.abt_machine.specs.declared.operations.Op.{Op}
use Rattle.abt_machine.specs.declared.operations.Op.TheVariants as op
use Rattle.abt_machine.specs.Stored.{Stored}
use Rattle.abt_machine.specs.declared.workload.Parts.{Parts}
use Rattle.abt_machine.specs.Access.{may_reach}
use Rattle.abt_machine.specs.EventSites.{op_site, plan_site, site_at, what_site}
use Rattle.abt_machine.specs.Start.{start}
use Rattle.abt_machine.specs.Values.{Owned, Held, owned_at}
use Rattle.abt_machine.specs.Plans.{Plan, Does, Calls, Exits, denied, plan_of, reached_plan}
use Rattle.abt_machine.specs.Turns.{Heard, Performs, Steps}
use Rattle.abt_simulation.specs.Simulation.{site_heard}

-- the site that an operation's plan calls is the operation's, whatever its unit carries; the last line is checked for each operation
-- by itself
reached-site : (W : Parts) (a : Op) (o : Owned) → plan_site (reached_plan W a o) ≡ plan_site (reached_plan W a (owned_at (start W) o.number))
reached-site W op.Yield o = refl
reached-site W _ o = refl

plan-site : (W : Parts) (s : ℕ) (a : Op) (o : Owned) → plan_site (plan_of W s a o) ≡ op_site W s o.number a
plan-site W s a o = by (may_reach W s a)
  where
    fresh : Owned
    fresh = owned_at (start W) o.number

    by : (may : Bool) → plan_site (if may then reached_plan W a o else denied o) ≡ plan_site (if may then reached_plan W a fresh else denied fresh)
    by true = reached-site W a o
    by false = refl

-- what is heard comes from the site of the plan
performs-site : (old : Held) (plan : Plan) (heard : Option Heard) (c : Code) (new : Held) → Performs old plan heard c new → site_heard heard ≡ plan_site plan
performs-site old (Does e) heard c new st = ap site_heard st.0
performs-site old (Calls x asked brings) heard c new st = ap site_heard st.1
performs-site old (Exits o) heard c new st = ap site_heard st.0

-- the site that is called by an event is the event's
pub steps-site : (W : Parts) (Z : Stored) (s : ℕ) (old : Held) (w : What) (heard : Option Heard) (new : Held) → Steps W Z s old w heard new → site_heard heard ≡ what_site W s w
steps-site W Z s old (what.Miss p) heard new st = ap site_heard st.2
steps-site W Z s old (what.Take p u) heard new st = ap site_heard st.4
steps-site W Z s old (what.Look u) heard new st = ap site_heard st.6
steps-site W Z s old (what.Step u k c) heard new st =
    performs-site old (plan_of W s st.5 st.1) heard c new st.7 ∙ (plan-site W s st.5 st.1 ∙ (ap (λ n. op_site W s n st.5) st.3 ∙ ap (site_at W s u.0) (sym st.6)))
steps-site W Z s old (what.Call u k n) heard new st = ap site_heard st.6
steps-site W Z s old (what.Put u p) heard new st = ap site_heard st.6
steps-site W Z s old (what.End u c) heard new st = ap site_heard st.5
steps-site W Z s old (what.Enter u) heard new st = ap site_heard st.4
steps-site W Z s old (what.Leave u) heard new st = ap site_heard st.5
