-- What a fleet leaves.
use Rattle.std.proofs.Common.{length, sym, ◌∙◌, ap, subst}
use Rattle.abt_merge.specs.Logs.{AreLogs}
use Rattle.abt_drain.specs.Crews.{AllKeep, CrewValue}
use Rattle.abt_drain.specs.Ends.{logs_in}
use Rattle.abt_drain.proofs.Closing.{all-fit, left-many}
use Rattle.abt_waves.specs.Ends.{LeavesLogs}
use Rattle.abt_waves.specs.Waves.{HasEnded, IsFleetOf}
use Rattle.abt_waves.proofs.Fleets.{fleet-leaves, fleet-logs, fleet_of}
use Rattle.abt_waves.proofs.fleet.Fleet.end.Goals as goal

pub leave-requires-clause-keeps : goal.leave-requires-clause-keeps
leave-requires-clause-keeps g c = subst (λ (v : CrewValue). AllKeep v.keeps v.streams) (sym c.self.view_is) c.requires.ended.1.fleet_is.kept

pub leave-requires-clause-logs : goal.leave-requires-clause-logs
leave-requires-clause-logs g c = subst (λ (v : CrewValue). AreLogs (logs_in v.streams)) (sym c.self.view_is)
    (fleet-logs g.L.Locked.lock g.L.Locked.clock c.args.self.workload c.requires.ended.0 c.args.self.steps c.args.self c.requires.ended.1.fleet_is)

pub picture-requires-clause-streams : goal.picture-requires-clause-streams
picture-requires-clause-streams g c =
    left-many c.self.inside.streams.items c.in_ok-journal.field-0.parts.items c.in_ok-journal.ensures.have
    ∙ (ap (λ (v : CrewValue). length v.streams) c.self.view_is ∙ (c.requires.ended.1.fleet_is.fleet_is.streams_are.many ∙ ap (λ (v : CrewValue). v.workload.streams) (sym c.self.view_is)))

pub picture-requires-clause-fits : goal.picture-requires-clause-fits
picture-requires-clause-fits g c =
    let is : IsFleetOf g.L.Locked.lock g.L.Locked.clock c.self.inside.w.now c.requires.ended.0 c.self.inside.steps (fleet_of c.self.inside.w.now c.self.inside.steps c.self.inside.keeps c.self.inside.objects c.self.inside.streams.items) =
    subst (λ (v : CrewValue). IsFleetOf g.L.Locked.lock g.L.Locked.clock v.workload c.requires.ended.0 v.steps v) (sym c.self.view_is) c.requires.ended.1.fleet_is in
    all-fit c.self.inside.w.now c.self.inside.streams.items c.in_ok-journal.field-0.parts.items c.in_ok-journal.ensures.have (λ s stream at. (is.fleet_is.streams_are.own s stream at).fits)

pub returns : goal.returns
returns g c = λ Z ended.
    let own = subst (λ (v : CrewValue). HasEnded g.L.Locked.lock g.L.Locked.clock v.workload Z v.steps v c.args.outcome) (sym c.self.view_is) ended in
    let rests = c.in_ok-journal.field-0 in
    let rows = c.in_ok-picture.picture in
    subst (λ (v : CrewValue). LeavesLogs g.L.Locked.lock v.workload Z v.steps v.keeps v.streams (record { journal = rests.journal; steps = rests.steps; picture = rows; outcome = c.args.outcome })) c.self.view_is
    (fleet-leaves g.L.Locked.lock g.L.Locked.clock c.self.inside.w.now Z c.self.inside.steps (fleet_of c.self.inside.w.now c.self.inside.steps c.self.inside.keeps c.self.inside.objects c.self.inside.streams.items) c.args.outcome own
    rests c.in_ok-journal.ensures rows c.in_ok-picture.ensures.units c.in_ok-picture.ensures.words)
