-- The first word chooses the command.
use Rattle.std.proofs.Common.{◌∙◌, ap, sym, map, string_bytes}
use Rattle.abt_words.proofs.OneCommand.{by-bad, by-only}
use Rattle.abt_words.proofs.command.words.Goals as goal

pub returns-in-run-clause-only : goal.returns-in-run-clause-only
returns-in-run-clause-only c = by-only _ _ _ (ap (map string_bytes) c.in-Some.ensures.cases.0) _ (sym c.as_str.ensures.value ∙ c.in-run.is) c.run.result c.run.ensures.said

pub returns-in-run-clause-bad : goal.returns-in-run-clause-bad
returns-in-run-clause-bad c = λ bad. by-bad _ _ _ (ap (map string_bytes) c.in-Some.ensures.cases.0) _ (sym c.as_str.ensures.value ∙ c.in-run.is) (c.run.ensures.bad bad)

pub returns-in-self-clause-only : goal.returns-in-self-clause-only
returns-in-self-clause-only c = by-only _ _ _ (ap (map string_bytes) c.in-Some.ensures.cases.0) _ (sym c.as_str.ensures.value ∙ c.in-self.is) c.self_run.result c.self_run.ensures.said

pub returns-in-self-clause-bad : goal.returns-in-self-clause-bad
returns-in-self-clause-bad c = λ bad. by-bad _ _ _ (ap (map string_bytes) c.in-Some.ensures.cases.0) _ (sym c.as_str.ensures.value ∙ c.in-self.is) (c.self_run.ensures.bad bad)

pub returns-in-check-clause-only : goal.returns-in-check-clause-only
returns-in-check-clause-only c = by-only _ _ _ (ap (map string_bytes) c.in-Some.ensures.cases.0) _ (sym c.as_str.ensures.value ∙ c.in-check.is) c.check.result c.check.ensures.said

pub returns-in-check-clause-bad : goal.returns-in-check-clause-bad
returns-in-check-clause-bad c = λ bad. by-bad _ _ _ (ap (map string_bytes) c.in-Some.ensures.cases.0) _ (sym c.as_str.ensures.value ∙ c.in-check.is) (c.check.ensures.bad bad)

pub returns-in-flow-clause-only : goal.returns-in-flow-clause-only
returns-in-flow-clause-only c = by-only _ _ _ (ap (map string_bytes) c.in-Some.ensures.cases.0) _ (sym c.as_str.ensures.value ∙ c.in-flow.is) c.flow.result c.flow.ensures.said

pub returns-in-flow-clause-bad : goal.returns-in-flow-clause-bad
returns-in-flow-clause-bad c = λ bad. by-bad _ _ _ (ap (map string_bytes) c.in-Some.ensures.cases.0) _ (sym c.as_str.ensures.value ∙ c.in-flow.is) (c.flow.ensures.bad bad)

pub returns-in-explore-clause-only : goal.returns-in-explore-clause-only
returns-in-explore-clause-only c = by-only _ _ _ (ap (map string_bytes) c.in-Some.ensures.cases.0) _ (sym c.as_str.ensures.value ∙ c.in-explore.is) c.explore.result c.explore.ensures.said

pub returns-in-explore-clause-bad : goal.returns-in-explore-clause-bad
returns-in-explore-clause-bad c = λ bad. by-bad _ _ _ (ap (map string_bytes) c.in-Some.ensures.cases.0) _ (sym c.as_str.ensures.value ∙ c.in-explore.is) (c.explore.ensures.bad bad)
