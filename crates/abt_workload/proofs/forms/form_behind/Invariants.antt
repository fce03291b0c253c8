use Rattle.std.proofs.Common.{◌≡◌, drop, find, map}
use Rattle.abt_workload.specs.Slots.{has_rest}
use Rattle.abt_workload.proofs.forms.form_behind.Given as goal

abbrev pub invariant-loop-form : goal.invariant-loop-form
invariant-loop-form l = find (has_rest l.format (map (λ w. w.now) l.rest)) (drop l.form-index l.group) ≡ find (has_rest l.format (map (λ w. w.now) l.rest)) l.group
