use Rattle.std.proofs.Common.{◌≡◌, ◌&&◌, drop, find, map}
use Rattle.abt_machine.specs.Forms.{fits, form_of, is_in, slots}
use Rattle.abt_workload.proofs.forms.form_among.Given as goal

abbrev pub invariant-loop-form : goal.invariant-loop-form
invariant-loop-form l = find (λ f. is_in l.format f && fits (slots f) (map (λ w. w.now) l.words)) (drop l.form-index l.form-items) ≡ form_of l.format (map (λ w. w.now) l.words)
