use Rattle.std.proofs.Common.{◌∙◌, inl, map, refl, string_bytes, subst, sym}
use Rattle.abt_words.specs.declared.commands.Command.TheVariants as command
use Rattle.abt_words.specs.Commands.{Says}
use Rattle.abt_shell.proofs.Calls.{if-refused, if-unread}
use Rattle.abt_run.proofs.Preparing.{named, no-file, one-file}
use Rattle.abt_run.proofs.Stepping.{exceeds-same}
use Rattle.abt_run.proofs.program.prepare.Goals as goal

pub returns-in-Ok-Run-clause-done : goal.returns-in-Ok-Run-clause-done
returns-in-Ok-Run-clause-done g c = λ file_of agree.
    c.prepare_file.ensures.done file_of agree _
    (subst (λ f. Says (map string_bytes c.args.words.now) (command.Run (record c.in-Ok-Run.asked { file = f }))) (sym c.as_str.ensures)
    (subst (Says (map string_bytes c.args.words.now)) c.in-Ok-Run.field-0-is c.in-Ok-Run.ensures.said))

pub returns-in-Ok-Run-clause-stop : goal.returns-in-Ok-Run-clause-stop
returns-in-Ok-Run-clause-stop g c = λ file_of agree.
    c.prepare_file.ensures.stop file_of agree _
    (subst (λ f. Says (map string_bytes c.args.words.now) (command.Run (record c.in-Ok-Run.asked { file = f }))) (sym c.as_str.ensures)
    (subst (Says (map string_bytes c.args.words.now)) c.in-Ok-Run.field-0-is c.in-Ok-Run.ensures.said))

pub returns-in-Ok-SelfRun-clause-done : goal.returns-in-Ok-SelfRun-clause-done
returns-in-Ok-SelfRun-clause-done g c = λ file_of agree.
    c.prepare_self.ensures.done _ _ (subst (Says (map string_bytes c.args.words.now)) c.in-Ok-SelfRun.field-0-is c.in-Ok-SelfRun.ensures.said)

pub returns-in-Ok-Check-clause-done : goal.returns-in-Ok-Check-clause-done
returns-in-Ok-Check-clause-done g c = λ file_of agree.
    c.prepare_check.ensures.done file_of agree c.args.keep (map string_bytes c.args.words.now)
    (subst (λ w. Says (map string_bytes c.args.words.now) (command.Check (record { workload = w; journal = c.as_str-in-Ok-Check-2.result.now; shows = c.in-Ok-Check.asked.shows }))) (sym c.as_str-in-Ok-Check.ensures)
    (subst (λ j. Says (map string_bytes c.args.words.now) (command.Check (record { workload = c.in-Ok-Check.asked.workload; journal = j; shows = c.in-Ok-Check.asked.shows }))) (sym c.as_str-in-Ok-Check-2.ensures)
    (subst (Says (map string_bytes c.args.words.now)) c.in-Ok-Check.field-0-is c.in-Ok-Check.ensures.said)))

pub returns-in-Ok-CheckOutput-clause-done : goal.returns-in-Ok-CheckOutput-clause-done
returns-in-Ok-CheckOutput-clause-done g c = λ file_of agree.
    c.prepare_output.ensures.done file_of agree c.args.keep (map string_bytes c.args.words.now)
    (subst (λ w. Says (map string_bytes c.args.words.now) (command.CheckOutput (record { workload = w; output = c.as_str-in-Ok-CheckOutput-2.result.now; why = c.in-Ok-CheckOutput.asked.why }))) (sym c.as_str-in-Ok-CheckOutput.ensures)
    (subst (λ j. Says (map string_bytes c.args.words.now) (command.CheckOutput (record { workload = c.in-Ok-CheckOutput.asked.workload; output = j; why = c.in-Ok-CheckOutput.asked.why }))) (sym c.as_str-in-Ok-CheckOutput-2.ensures)
    (subst (Says (map string_bytes c.args.words.now)) c.in-Ok-CheckOutput.field-0-is c.in-Ok-CheckOutput.ensures.said)))

pub returns-in-Ok-Check-clause-stop : goal.returns-in-Ok-Check-clause-stop
returns-in-Ok-Check-clause-stop g c = λ file_of agree.
    c.prepare_check.ensures.stop file_of agree (map string_bytes c.args.words.now)
    (subst (λ w. Says (map string_bytes c.args.words.now) (command.Check (record { workload = w; journal = c.as_str-in-Ok-Check-2.result.now; shows = c.in-Ok-Check.asked.shows }))) (sym c.as_str-in-Ok-Check.ensures)
    (subst (λ j. Says (map string_bytes c.args.words.now) (command.Check (record { workload = c.in-Ok-Check.asked.workload; journal = j; shows = c.in-Ok-Check.asked.shows }))) (sym c.as_str-in-Ok-Check-2.ensures)
    (subst (Says (map string_bytes c.args.words.now)) c.in-Ok-Check.field-0-is c.in-Ok-Check.ensures.said)))

pub returns-in-Ok-CheckOutput-clause-stop : goal.returns-in-Ok-CheckOutput-clause-stop
returns-in-Ok-CheckOutput-clause-stop g c = λ file_of agree.
    c.prepare_output.ensures.stop file_of agree (map string_bytes c.args.words.now)
    (subst (λ w. Says (map string_bytes c.args.words.now) (command.CheckOutput (record { workload = w; output = c.as_str-in-Ok-CheckOutput-2.result.now; why = c.in-Ok-CheckOutput.asked.why }))) (sym c.as_str-in-Ok-CheckOutput.ensures)
    (subst (λ j. Says (map string_bytes c.args.words.now) (command.CheckOutput (record { workload = c.in-Ok-CheckOutput.asked.workload; output = j; why = c.in-Ok-CheckOutput.asked.why }))) (sym c.as_str-in-Ok-CheckOutput-2.ensures)
    (subst (Says (map string_bytes c.args.words.now)) c.in-Ok-CheckOutput.field-0-is c.in-Ok-CheckOutput.ensures.said)))

pub returns-in-Ok-Flow-clause-done : goal.returns-in-Ok-Flow-clause-done
returns-in-Ok-Flow-clause-done g c = λ file_of agree.
    c.prepare_flow.ensures.done file_of agree c.args.keep _ _ refl
    (subst (λ f. Says (map string_bytes c.args.words.now) (command.Flow f)) (sym c.as_str-in-Ok-Flow.ensures)
    (subst (Says (map string_bytes c.args.words.now)) c.in-Ok-Flow.field-0-is c.in-Ok-Flow.ensures.said))

pub returns-in-Ok-Flow-clause-stop : goal.returns-in-Ok-Flow-clause-stop
returns-in-Ok-Flow-clause-stop g c = λ file_of agree.
    c.prepare_flow.ensures.stop file_of agree _ _ refl
    (subst (λ f. Says (map string_bytes c.args.words.now) (command.Flow f)) (sym c.as_str-in-Ok-Flow.ensures)
    (subst (Says (map string_bytes c.args.words.now)) c.in-Ok-Flow.field-0-is c.in-Ok-Flow.ensures.said))

pub returns-in-Ok-Explore-clause-done : goal.returns-in-Ok-Explore-clause-done
returns-in-Ok-Explore-clause-done g c = λ file_of agree.
    c.prepare_explore.ensures.done file_of agree c.args.keep (map string_bytes c.args.words.now)
    (subst (λ f. Says (map string_bytes c.args.words.now) (command.Explore (record c.in-Ok-Explore.asked { file = f }))) (sym c.as_str-in-Ok-Explore.ensures)
    (subst (Says (map string_bytes c.args.words.now)) c.in-Ok-Explore.field-0-is c.in-Ok-Explore.ensures.said))

pub returns-in-Ok-Explore-clause-stop : goal.returns-in-Ok-Explore-clause-stop
returns-in-Ok-Explore-clause-stop g c = λ file_of agree.
    c.prepare_explore.ensures.stop file_of agree _
    (subst (λ f. Says (map string_bytes c.args.words.now) (command.Explore (record c.in-Ok-Explore.asked { file = f }))) (sym c.as_str-in-Ok-Explore.ensures)
    (subst (Says (map string_bytes c.args.words.now)) c.in-Ok-Explore.field-0-is c.in-Ok-Explore.ensures.said))

pub returns-in-Ok-Help-clause-done : goal.returns-in-Ok-Help-clause-done
returns-in-Ok-Help-clause-done g c = λ file_of agree.
    c.prepare_help.ensures.done _ c.args.keep (subst (Says (map string_bytes c.args.words.now)) c.in-Ok-Help.field-0-is c.in-Ok-Help.ensures.said)

pub returns-in-Ok-Version-clause-done : goal.returns-in-Ok-Version-clause-done
returns-in-Ok-Version-clause-done g c = λ file_of agree.
    c.prepare_version.ensures.done _ c.args.keep (subst (Says (map string_bytes c.args.words.now)) c.in-Ok-Version.field-0-is c.in-Ok-Version.ensures.said)

pub returns-in-Ok-Run-clause-absent : goal.returns-in-Ok-Run-clause-absent
returns-in-Ok-Run-clause-absent g c = λ d file says names gone.
    inl (c.prepare_file.ensures.absent (subst (g.F.Files.absent c.args.files.now) (one-file (map string_bytes c.args.words.now) d _ file _ says
    (subst (λ f. Says (map string_bytes c.args.words.now) (command.Run (record c.in-Ok-Run.asked { file = f }))) (sym c.as_str.ensures)
    (subst (Says (map string_bytes c.args.words.now)) c.in-Ok-Run.field-0-is c.in-Ok-Run.ensures.said)) names refl) gone))

pub returns-in-Ok-Flow-clause-absent : goal.returns-in-Ok-Flow-clause-absent
returns-in-Ok-Flow-clause-absent g c = λ d file says names gone.
    inl (c.prepare_flow.ensures.absent (subst (g.F.Files.absent c.args.files.now) (one-file (map string_bytes c.args.words.now) d _ file _ says
    (subst (λ f. Says (map string_bytes c.args.words.now) (command.Flow f)) (sym c.as_str-in-Ok-Flow.ensures)
    (subst (Says (map string_bytes c.args.words.now)) c.in-Ok-Flow.field-0-is c.in-Ok-Flow.ensures.said)) names refl) gone))

pub returns-in-Ok-Explore-clause-absent : goal.returns-in-Ok-Explore-clause-absent
returns-in-Ok-Explore-clause-absent g c = λ d file says names gone.
    inl (c.prepare_explore.ensures.absent (subst (g.F.Files.absent c.args.files.now) (one-file (map string_bytes c.args.words.now) d _ file _ says
    (subst (λ f. Says (map string_bytes c.args.words.now) (command.Explore (record c.in-Ok-Explore.asked { file = f }))) (sym c.as_str-in-Ok-Explore.ensures)
    (subst (Says (map string_bytes c.args.words.now)) c.in-Ok-Explore.field-0-is c.in-Ok-Explore.ensures.said)) names refl) gone))

pub returns-in-Ok-SelfRun-clause-absent : goal.returns-in-Ok-SelfRun-clause-absent
returns-in-Ok-SelfRun-clause-absent g c = λ d file says names gone.
    absurd (no-file (map string_bytes c.args.words.now) d _ file says (subst (Says (map string_bytes c.args.words.now)) c.in-Ok-SelfRun.field-0-is c.in-Ok-SelfRun.ensures.said) names refl)

pub returns-in-Ok-Help-clause-absent : goal.returns-in-Ok-Help-clause-absent
returns-in-Ok-Help-clause-absent g c = λ d file says names gone.
    absurd (no-file (map string_bytes c.args.words.now) d _ file says (subst (Says (map string_bytes c.args.words.now)) c.in-Ok-Help.field-0-is c.in-Ok-Help.ensures.said) names refl)

pub returns-in-Ok-Version-clause-absent : goal.returns-in-Ok-Version-clause-absent
returns-in-Ok-Version-clause-absent g c = λ d file says names gone.
    absurd (no-file (map string_bytes c.args.words.now) d _ file says (subst (Says (map string_bytes c.args.words.now)) c.in-Ok-Version.field-0-is c.in-Ok-Version.ensures.said) names refl)

pub returns-in-Ok-Run-clause-missing : goal.returns-in-Ok-Run-clause-missing
returns-in-Ok-Run-clause-missing g c = λ file_of agree w says gone.
    (let same = c.in-Ok-Run.ensures.only (command.Check w) says ∙ c.in-Ok-Run.field-0-is in absurd (cc))

pub returns-in-Ok-SelfRun-clause-missing : goal.returns-in-Ok-SelfRun-clause-missing
returns-in-Ok-SelfRun-clause-missing g c = λ file_of agree w says gone.
    (let same = c.in-Ok-SelfRun.ensures.only (command.Check w) says ∙ c.in-Ok-SelfRun.field-0-is in absurd (cc))

pub returns-in-Ok-CheckOutput-clause-missing : goal.returns-in-Ok-CheckOutput-clause-missing
returns-in-Ok-CheckOutput-clause-missing g c = λ file_of agree w says gone.
    (let same = c.in-Ok-CheckOutput.ensures.only (command.Check w) says ∙ c.in-Ok-CheckOutput.field-0-is in absurd (cc))

pub returns-in-Ok-Flow-clause-missing : goal.returns-in-Ok-Flow-clause-missing
returns-in-Ok-Flow-clause-missing g c = λ file_of agree w says gone.
    (let same = c.in-Ok-Flow.ensures.only (command.Check w) says ∙ c.in-Ok-Flow.field-0-is in absurd (cc))

pub returns-in-Ok-Explore-clause-missing : goal.returns-in-Ok-Explore-clause-missing
returns-in-Ok-Explore-clause-missing g c = λ file_of agree w says gone.
    (let same = c.in-Ok-Explore.ensures.only (command.Check w) says ∙ c.in-Ok-Explore.field-0-is in absurd (cc))

pub returns-in-Ok-Help-clause-missing : goal.returns-in-Ok-Help-clause-missing
returns-in-Ok-Help-clause-missing g c = λ file_of agree w says gone.
    (let same = c.in-Ok-Help.ensures.only (command.Check w) says ∙ c.in-Ok-Help.field-0-is in absurd (cc))

pub returns-in-Ok-Version-clause-missing : goal.returns-in-Ok-Version-clause-missing
returns-in-Ok-Version-clause-missing g c = λ file_of agree w says gone.
    (let same = c.in-Ok-Version.ensures.only (command.Check w) says ∙ c.in-Ok-Version.field-0-is in absurd (cc))

pub returns-in-Ok-Run-clause-lost : goal.returns-in-Ok-Run-clause-lost
returns-in-Ok-Run-clause-lost g c = λ file_of agree w says gone.
    (let same = c.in-Ok-Run.ensures.only (command.CheckOutput w) says ∙ c.in-Ok-Run.field-0-is in absurd (cc))

pub returns-in-Ok-SelfRun-clause-lost : goal.returns-in-Ok-SelfRun-clause-lost
returns-in-Ok-SelfRun-clause-lost g c = λ file_of agree w says gone.
    (let same = c.in-Ok-SelfRun.ensures.only (command.CheckOutput w) says ∙ c.in-Ok-SelfRun.field-0-is in absurd (cc))

pub returns-in-Ok-Check-clause-lost : goal.returns-in-Ok-Check-clause-lost
returns-in-Ok-Check-clause-lost g c = λ file_of agree w says gone.
    (let same = c.in-Ok-Check.ensures.only (command.CheckOutput w) says ∙ c.in-Ok-Check.field-0-is in absurd (cc))

pub returns-in-Ok-Flow-clause-lost : goal.returns-in-Ok-Flow-clause-lost
returns-in-Ok-Flow-clause-lost g c = λ file_of agree w says gone.
    (let same = c.in-Ok-Flow.ensures.only (command.CheckOutput w) says ∙ c.in-Ok-Flow.field-0-is in absurd (cc))

pub returns-in-Ok-Explore-clause-lost : goal.returns-in-Ok-Explore-clause-lost
returns-in-Ok-Explore-clause-lost g c = λ file_of agree w says gone.
    (let same = c.in-Ok-Explore.ensures.only (command.CheckOutput w) says ∙ c.in-Ok-Explore.field-0-is in absurd (cc))

pub returns-in-Ok-Help-clause-lost : goal.returns-in-Ok-Help-clause-lost
returns-in-Ok-Help-clause-lost g c = λ file_of agree w says gone.
    (let same = c.in-Ok-Help.ensures.only (command.CheckOutput w) says ∙ c.in-Ok-Help.field-0-is in absurd (cc))

pub returns-in-Ok-Version-clause-lost : goal.returns-in-Ok-Version-clause-lost
returns-in-Ok-Version-clause-lost g c = λ file_of agree w says gone.
    (let same = c.in-Ok-Version.ensures.only (command.CheckOutput w) says ∙ c.in-Ok-Version.field-0-is in absurd (cc))

pub returns-in-Ok-Run-clause-exceeds : goal.returns-in-Ok-Run-clause-exceeds
returns-in-Ok-Run-clause-exceeds g c = λ file_of agree w says known.
    let same = c.in-Ok-Run.ensures.only (command.Run w) says ∙ c.in-Ok-Run.field-0-is in
    c.prepare_file.ensures.exceeds file_of agree (exceeds-same file_of w c.in-Ok-Run.asked _ same (sym c.as_str.ensures) known)

pub returns-in-Ok-SelfRun-clause-exceeds : goal.returns-in-Ok-SelfRun-clause-exceeds
returns-in-Ok-SelfRun-clause-exceeds g c = λ file_of agree w says known.
    (let same = c.in-Ok-SelfRun.ensures.only (command.Run w) says ∙ c.in-Ok-SelfRun.field-0-is in absurd (cc))

pub returns-in-Ok-Check-clause-exceeds : goal.returns-in-Ok-Check-clause-exceeds
returns-in-Ok-Check-clause-exceeds g c = λ file_of agree w says known.
    (let same = c.in-Ok-Check.ensures.only (command.Run w) says ∙ c.in-Ok-Check.field-0-is in absurd (cc))

pub returns-in-Ok-CheckOutput-clause-exceeds : goal.returns-in-Ok-CheckOutput-clause-exceeds
returns-in-Ok-CheckOutput-clause-exceeds g c = λ file_of agree w says known.
    (let same = c.in-Ok-CheckOutput.ensures.only (command.Run w) says ∙ c.in-Ok-CheckOutput.field-0-is in absurd (cc))

pub returns-in-Ok-Flow-clause-exceeds : goal.returns-in-Ok-Flow-clause-exceeds
returns-in-Ok-Flow-clause-exceeds g c = λ file_of agree w says known.
    (let same = c.in-Ok-Flow.ensures.only (command.Run w) says ∙ c.in-Ok-Flow.field-0-is in absurd (cc))

pub returns-in-Ok-Explore-clause-exceeds : goal.returns-in-Ok-Explore-clause-exceeds
returns-in-Ok-Explore-clause-exceeds g c = λ file_of agree w says known.
    (let same = c.in-Ok-Explore.ensures.only (command.Run w) says ∙ c.in-Ok-Explore.field-0-is in absurd (cc))

pub returns-in-Ok-Help-clause-exceeds : goal.returns-in-Ok-Help-clause-exceeds
returns-in-Ok-Help-clause-exceeds g c = λ file_of agree w says known.
    (let same = c.in-Ok-Help.ensures.only (command.Run w) says ∙ c.in-Ok-Help.field-0-is in absurd (cc))

pub returns-in-Ok-Version-clause-exceeds : goal.returns-in-Ok-Version-clause-exceeds
returns-in-Ok-Version-clause-exceeds g c = λ file_of agree w says known.
    (let same = c.in-Ok-Version.ensures.only (command.Run w) says ∙ c.in-Ok-Version.field-0-is in absurd (cc))

pub returns-in-Ok-Run-clause-named : goal.returns-in-Ok-Run-clause-named
returns-in-Ok-Run-clause-named g c =
    if-unread c.prepare_file.result _ (named (map string_bytes c.args.words.now) _ _
    (subst (λ f. Says (map string_bytes c.args.words.now) (command.Run (record c.in-Ok-Run.asked { file = f }))) (sym c.as_str.ensures)
    (subst (Says (map string_bytes c.args.words.now)) c.in-Ok-Run.field-0-is c.in-Ok-Run.ensures.said)) c.prepare_file.ensures.begun)

pub returns-in-Ok-SelfRun-clause-named : goal.returns-in-Ok-SelfRun-clause-named
returns-in-Ok-SelfRun-clause-named g c = if-refused c.prepare_self.result _ c.prepare_self.ensures.stop

pub returns-in-Ok-Check-clause-named : goal.returns-in-Ok-Check-clause-named
returns-in-Ok-Check-clause-named g c =
    if-unread c.prepare_check.result _ (named (map string_bytes c.args.words.now) _ _
    (subst (λ w. Says (map string_bytes c.args.words.now) (command.Check (record { workload = w; journal = c.as_str-in-Ok-Check-2.result.now; shows = c.in-Ok-Check.asked.shows }))) (sym c.as_str-in-Ok-Check.ensures)
    (subst (λ j. Says (map string_bytes c.args.words.now) (command.Check (record { workload = c.in-Ok-Check.asked.workload; journal = j; shows = c.in-Ok-Check.asked.shows }))) (sym c.as_str-in-Ok-Check-2.ensures)
    (subst (Says (map string_bytes c.args.words.now)) c.in-Ok-Check.field-0-is c.in-Ok-Check.ensures.said))) c.prepare_check.ensures.begun)

pub returns-in-Ok-CheckOutput-clause-named : goal.returns-in-Ok-CheckOutput-clause-named
returns-in-Ok-CheckOutput-clause-named g c =
    if-unread c.prepare_output.result _ (named (map string_bytes c.args.words.now) _ _
    (subst (λ w. Says (map string_bytes c.args.words.now) (command.CheckOutput (record { workload = w; output = c.as_str-in-Ok-CheckOutput-2.result.now; why = c.in-Ok-CheckOutput.asked.why }))) (sym c.as_str-in-Ok-CheckOutput.ensures)
    (subst (λ j. Says (map string_bytes c.args.words.now) (command.CheckOutput (record { workload = c.in-Ok-CheckOutput.asked.workload; output = j; why = c.in-Ok-CheckOutput.asked.why }))) (sym c.as_str-in-Ok-CheckOutput-2.ensures)
    (subst (Says (map string_bytes c.args.words.now)) c.in-Ok-CheckOutput.field-0-is c.in-Ok-CheckOutput.ensures.said))) c.prepare_output.ensures.begun)

pub returns-in-Ok-Flow-clause-named : goal.returns-in-Ok-Flow-clause-named
returns-in-Ok-Flow-clause-named g c =
    if-unread c.prepare_flow.result _ (named (map string_bytes c.args.words.now) _ _
    (subst (λ f. Says (map string_bytes c.args.words.now) (command.Flow f)) (sym c.as_str-in-Ok-Flow.ensures)
    (subst (Says (map string_bytes c.args.words.now)) c.in-Ok-Flow.field-0-is c.in-Ok-Flow.ensures.said)) c.prepare_flow.ensures.begun)

pub returns-in-Ok-Explore-clause-named : goal.returns-in-Ok-Explore-clause-named
returns-in-Ok-Explore-clause-named g c =
    if-unread c.prepare_explore.result _ (named (map string_bytes c.args.words.now) _ _
    (subst (λ f. Says (map string_bytes c.args.words.now) (command.Explore (record c.in-Ok-Explore.asked { file = f }))) (sym c.as_str-in-Ok-Explore.ensures)
    (subst (Says (map string_bytes c.args.words.now)) c.in-Ok-Explore.field-0-is c.in-Ok-Explore.ensures.said)) c.prepare_explore.ensures.begun)

pub returns-in-Ok-Help-clause-named : goal.returns-in-Ok-Help-clause-named
returns-in-Ok-Help-clause-named g c = if-refused c.prepare_help.result _ c.prepare_help.ensures.stop

pub returns-in-Ok-Version-clause-named : goal.returns-in-Ok-Version-clause-named
returns-in-Ok-Version-clause-named g c = if-refused c.prepare_version.result _ c.prepare_version.ensures.stop
