use Rattle.std.proofs.Common.{◌≡◌, ◌==◌, ◌&&◌, ◌∙◌, Bool, true, false, ap, flat_map, nat_lt, option_to_list, sym}
use Rattle.std.specs.List.{list_any}
use Rattle.std.proofs.lemmas.Bool.{le-ltb, lt-ltb}
use Rattle.abt_machine.specs.Declaring.{Above}
use Rattle.abt_machine.specs.Valid.{sched_in}
use Rattle.abt_machine.specs.declared.workload.UnitPart.{UnitPart}
use Rattle.abt_workload.proofs.Copies.{last-any}
use Rattle.abt_workload.proofs.draft.Draft.is_last.Goals as goal

pub returns-then-self-gt0 : goal.returns-then-self-gt0
returns-then-self-gt0 c =
    let g = c.args.g in
    let some : nat_lt 0 c.self.inside.copies ≡ true = lt-ltb 0 c.self.inside.copies c.if-self-gt0.true in
    c.is_body_of_last.ensures
    ∙ (sym (ap (λ (b : Bool). b && list_any (λ h. h == g) (flat_map (λ (p : UnitPart). sched_in p.body) (option_to_list c.self.inside.last))) some)
    ∙ (ap (λ (a : Above). nat_lt 0 a.copies && list_any (λ h. h == g) (flat_map (λ (p : UnitPart). sched_in p.body) (option_to_list a.last))) c.self.view_is
    ∙ sym (last-any c.args.self.now g)))

pub returns-else-self-gt0 : goal.returns-else-self-gt0
returns-else-self-gt0 c =
    let g = c.args.g in
    let none : nat_lt 0 c.self.inside.copies ≡ false = le-ltb 0 c.self.inside.copies c.if-self-gt0.false in
    none
    ∙ (sym (ap (λ (b : Bool). b && list_any (λ h. h == g) (flat_map (λ (p : UnitPart). sched_in p.body) (option_to_list c.self.inside.last))) none)
    ∙ (ap (λ (a : Above). nat_lt 0 a.copies && list_any (λ h. h == g) (flat_map (λ (p : UnitPart). sched_in p.body) (option_to_list a.last))) c.self.view_is
    ∙ sym (last-any c.args.self.now g)))
