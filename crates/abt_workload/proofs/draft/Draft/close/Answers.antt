use Rattle.std.proofs.Common.{◌≡◌, ◌<◌, ◌+◌, ◌*◌, ◌^◌, ◌∙◌, ℕ, All, Option, ap, arith, flat_map, length, rules, subst, sym}
use Rattle.abt_machine.specs.Declaring.{Above}
use Rattle.abt_machine.specs.Operations.{said_by}
use Rattle.abt_machine.specs.Workloads.{ops_of}
use Rattle.abt_machine.specs.declared.workload.UnitPart.{UnitPart}
use Rattle.abt_workload.specs.Declarable.{last_ops}
use Rattle.abt_workload.proofs.Copies.{words-later, words-length}
use Rattle.abt_workload.proofs.draft.Draft.close.Goals as goal

pub overflow_cast-each : goal.overflow_cast-each
overflow_cast-each c =
    let few = c.requires.few_said in
    let said = ap (λ (a : Above). length a.said) c.self.view_is in
    let count : c.len-each.result ≡ length c.self.inside.said.items = search rules in
    omega (arith, few, said, count)

pub push_alike-requires-clause-words : goal.push_alike-requires-clause-words
push_alike-requires-clause-words c =
    let a : Above = c.args.self.now in
    let ns = flat_map said_by (ops_of c.in-Some.part.body) in
    let last = sym (ap (λ (b : Above). b.last) c.self.view_is) ∙ (sym c.take.ensures.value ∙ c.in-Some.is) in
    let said = sym (ap (λ (o : Option UnitPart). flat_map said_by (last_ops o)) last) ∙ c.requires.said in
    let whole = words-length a in
    let few = c.requires.few_words in
    let all = words-later a.copies (length a.words) (length a.said) ns said c.requires.few_said (omega (arith, whole, few)) in
    let count : c.len-each.result ≡ length c.self.inside.said.items = search rules in
    let same = sym (ap (λ (b : Above). b.copies * length b.said) c.self.view_is) ∙ ap (λ (n : ℕ). c.self.inside.copies * n) (sym count) in
    subst (λ (n : ℕ). All (λ w. w + n < 2 ^ 32) ns) same all
