use Rattle.std.proofs.Common.{◌≡◌, IfOk, subst, sym, ◌∙◌}
use Rattle.abt_machine.specs.declared.workload.Parts.{Parts}
use Rattle.abt_machine.specs.Valid.{IsValid}
use Rattle.abt_generate.proofs.GeneratedParts.{IsValid-generated, parts-generated}
use Rattle.abt_generate.proofs.generated.generate.Goals as goal

pub new-requires-8 : goal.new-requires-8
new-requires-8 c =
    subst IsValid (sym (parts-generated c.args.n c.new.result c.new-2.result c.new-3.result c.new-4.result c.new-5.result c.new-7.result
    (c.new.ensures ∙ c.in_ok-vec.ensures.items) (c.new-2.ensures ∙ c.in_ok-scheds.ensures) (c.new-3.ensures ∙ c.in_ok-mains.ensures.items)
    (c.new-4.ensures ∙ c.in_ok-vec-2.ensures.items) (c.new-5.ensures ∙ c.in_ok-units.ensures) (c.new-7.ensures ∙ c.new-6.ensures.items)))
    (IsValid-generated c.args.n c.requires.1)

pub returns : goal.returns
returns c =
    subst (λ (parts : Parts). IfOk c.new-8.result (λ w. w ≡ parts)) (parts-generated c.args.n c.new.result c.new-2.result c.new-3.result c.new-4.result c.new-5.result c.new-7.result
    (c.new.ensures ∙ c.in_ok-vec.ensures.items) (c.new-2.ensures ∙ c.in_ok-scheds.ensures) (c.new-3.ensures ∙ c.in_ok-mains.ensures.items)
    (c.new-4.ensures ∙ c.in_ok-vec-2.ensures.items) (c.new-5.ensures ∙ c.in_ok-units.ensures) (c.new-7.ensures ∙ c.new-6.ensures.items))
    c.new-8.ensures
