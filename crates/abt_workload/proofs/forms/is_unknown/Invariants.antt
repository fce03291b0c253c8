use Rattle.std.proofs.Common.{◌≡◌, ◌&&◌, drop, map, not}
use Rattle.std.specs.List.{list_any}
use Rattle.abt_machine.specs.Faults.{is_unknown}
use Rattle.abt_machine.specs.Forms.{begins_with, is_in, slots}
use Rattle.abt_workload.proofs.forms.is_unknown.Given as goal

abbrev pub invariant-loop-form : goal.invariant-loop-form
invariant-loop-form l = not (list_any (λ f. is_in l.format f && begins_with (slots f) (map (λ w. w.now) l.words)) (drop l.form-index l.form-items)) ≡ is_unknown l.format (map (λ w. w.now) l.words)
