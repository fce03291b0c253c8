use Rattle.std.proofs.Common.{sym, subst}
use Rattle.abt_shell.proofs.Calls.{if-err, if-ok, if-refused}
use Rattle.abt_view.specs.Call.{StopsView}
use Rattle.abt_view.proofs.Concluding.{about-prints, viewed}
use Rattle.abt_view.proofs.Requests.{asks-none}
use Rattle.abt_view.proofs.program.prepare.Goals as goal

pub returns-in-Some-clause-done : goal.returns-in-Some-clause-done
returns-in-Some-clause-done g c = λ file_of agree.
    if-ok c.prepare_topic.result _ _ (λ it known. about-prints _ _ it.conclusion it.text.items c.in-Some.topic c.in-Some.ensures known.0 known.1) c.prepare_topic.ensures.done

pub returns-in-Some-clause-stop : goal.returns-in-Some-clause-stop
returns-in-Some-clause-stop g c = λ file_of agree. if-err c.prepare_topic.result _ _ (λ stop is. subst (StopsView _ _ _) (sym is) tt) c.prepare_topic.ensures.stop

pub returns-in-Some-clause-missing : goal.returns-in-Some-clause-missing
returns-in-Some-clause-missing g c = λ q file asks names gone. absurd (asks-none _ c.in-Some.topic q c.in-Some.ensures asks)

pub returns-in-Some-clause-absent : goal.returns-in-Some-clause-absent
returns-in-Some-clause-absent g c = λ file_of agree q asks gone. absurd (asks-none _ c.in-Some.topic q c.in-Some.ensures asks)

pub returns-in-None-clause-done : goal.returns-in-None-clause-done
returns-in-None-clause-done g c = λ file_of agree. if-ok c.prepare_asked.result _ _ (λ it view. viewed _ _ it.conclusion it.text.items view) (c.prepare_asked.ensures.done file_of agree)

pub returns-in-Some-clause-named : goal.returns-in-Some-clause-named
returns-in-Some-clause-named g c = if-refused c.prepare_topic.result _ c.prepare_topic.ensures.stop
