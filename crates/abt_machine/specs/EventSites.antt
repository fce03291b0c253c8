-- Which shared object an operation and an event touch.
use Rattle.std.specs.Prelude.{ℕ, Option, Some, None}
use Rattle.abt_machine.specs.declared.operations.Op.{Op}
use Rattle.abt_machine.specs.declared.events.Site.{Site}
use Rattle.abt_machine.specs.declared.events.Site.TheVariants as site
use Rattle.abt_machine.specs.declared.events.What.{What}
use Rattle.abt_machine.specs.declared.events.What.TheVariants as what
use Rattle.abt_machine.specs.declared.events.Event.{Event}
use Rattle.abt_machine.specs.declared.workload.Parts.{Parts}
use Rattle.abt_machine.specs.Workloads.{op_at}
use Rattle.abt_machine.specs.Start.{start}
use Rattle.abt_machine.specs.Values.{owned_at}
use Rattle.abt_machine.specs.Plans.{Plan, Does, Calls, Exits, plan_of}

-- the site that a plan calls, if it calls one
abbrev pub plan_site : Plan → Option Site
plan_site (Does e) = None
plan_site (Calls x asked brings) = Some x
plan_site (Exits o) = None

-- the site of an operation of unit u that stream s makes: none if it is local, if it yields, or if s must not reach the pool that it
-- names. The site depends on the unit's number alone, so the plan is that of the unit at the start
abbrev pub op_site : Parts → ℕ → ℕ → Op → Option Site
op_site W s u o = plan_site (plan_of W s o (owned_at (start W) u))

abbrev pub site_at : Parts → ℕ → ℕ → Option Op → Option Site
site_at W s u None = None
site_at W s u (Some o) = op_site W s u o

-- the site of the step of unit u at position k that stream s makes
abbrev pub step_site : Parts → ℕ → ℕ → ℕ → Option Site
step_site W s u k = site_at W s u (op_at W u k)

-- the site of what stream s does
abbrev pub what_site : Parts → ℕ → What → Option Site
what_site W s (what.Miss p) = Some (site.Pool p)
what_site W s (what.Take p u) = Some (site.Pool p)
what_site W s (what.Look u) = Some (site.Desk u)
what_site W s (what.Step u k c) = step_site W s u.0 k
what_site W s (what.Call u k n) = None
what_site W s (what.Put u p) = Some (site.Pool p)
what_site W s (what.End u c) = Some (site.Desk u)
what_site W s (what.Enter u) = None
what_site W s (what.Leave u) = None

-- the site of an event
abbrev pub event_site : Parts → Event → Option Site
event_site W e = what_site W e.stream.0 e.what
