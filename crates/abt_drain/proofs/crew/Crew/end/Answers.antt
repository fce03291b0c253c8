-- What a crew leaves.
use Rattle.std.proofs.Common.{◌≡◌, length, refl, sym, ◌∙◌, ap, subst}
use Rattle.std.specs.List.{All}
use Rattle.abt_merge.specs.Logs.{AreLogs}
use Rattle.abt_report.specs.Pictures.{SaysWordsOf}
use Rattle.abt_drain.specs.Crews.{AllKeep, CrewValue, IsCrew}
use Rattle.abt_drain.specs.Ends.{AreLeft, logs_in}
use Rattle.abt_drain.specs.Pictures.{ShowsUnits}
use Rattle.abt_drain.proofs.Closing.{all-fit, are-logs, crew-leaves, left-many, only-one}
use Rattle.abt_drain.proofs.crew.Crew.end.Goals as goal

pub leave-requires : goal.leave-requires
leave-requires c = record {
  logs = subst (λ (v : CrewValue). AreLogs (logs_in v.streams)) (sym c.self.view_is) (are-logs c.args.self.workload c.requires.crew.0 c.args.self.steps c.args.self c.requires.crew.1);
  keeps = subst (λ (v : CrewValue). AllKeep v.keeps v.streams) (sym c.self.view_is) c.requires.crew.1.kept;
}

pub picture-requires-clause-streams : goal.picture-requires-clause-streams
picture-requires-clause-streams c =
    left-many c.self.inside.streams.items c.in_ok-rests.rests.parts.items c.in_ok-rests.ensures.have
    ∙ (ap (λ (v : CrewValue). length v.streams) c.self.view_is ∙ (c.requires.crew.1.streams.many ∙ ap (λ (v : CrewValue). v.workload.streams) (sym c.self.view_is)))

pub picture-requires-clause-fits : goal.picture-requires-clause-fits
picture-requires-clause-fits c =
    let is = subst (λ (v : CrewValue). IsCrew v.workload c.requires.crew.0 v.steps v) (sym c.self.view_is) c.requires.crew.1 in
    all-fit c.self.inside.w.now c.self.inside.streams.items c.in_ok-rests.rests.parts.items c.in_ok-rests.ensures.have (λ s stream at. (is.streams.own s stream at).fits)

pub returns : goal.returns
returns c =
    let closed : c.close-objects.result ≡ c.self.inside.pass = only-one c.close-objects.result c.self.inside.pass c.in_ok-vec.field-0.items c.close-objects.ensures.leaves c.in_ok-vec.ensures.items in
    let rests = c.in_ok-rests.rests in
    λ Z crew stopped. crew-leaves c.args.self.workload Z c.args.self.steps c.args.self crew _ rests stopped
    (subst (λ (v : CrewValue). AreLeft v.keeps v.streams rests) c.self.view_is c.in_ok-rests.ensures) refl refl
    (subst (λ (v : CrewValue). ShowsUnits v.workload rests.parts.items v.objects c.in_ok-picture.picture) c.self.view_is
    (subst (λ objects. ShowsUnits c.self.inside.w.now rests.parts.items objects c.in_ok-picture.picture) closed c.in_ok-picture.ensures.units))
    (subst (λ (v : CrewValue). All (SaysWordsOf v.workload) c.in_ok-picture.picture) c.self.view_is c.in_ok-picture.ensures.words)
