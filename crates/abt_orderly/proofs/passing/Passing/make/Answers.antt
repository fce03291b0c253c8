use Rattle.std.proofs.Common.{◌∙◌, ap, false, replicate}
use Rattle.abt_orderly.proofs.Keeping.{begins}
use Rattle.abt_orderly.proofs.passing.Passing.make.Goals as goal

pub returns : goal.returns
returns c =
    begins c.args.w.now (record { done = c.in_ok-vec.field-0; standing = c.in_ok-standings.field-0; met = c.in_ok-vec-2.field-0; waiting = c.in_ok-wait_lists.field-0; ready = c.in_ok-all_units.field-0 })
    (c.in_ok-vec.ensures.items_if_clones_equal (λ y e. e) ∙ ap (λ n. replicate n 0) c.units.ensures)
    (c.in_ok-vec-2.ensures.items_if_clones_equal (λ y e. e) ∙ ap (λ n. replicate n false) c.needs_count.ensures)
    c.in_ok-standings.ensures c.in_ok-wait_lists.ensures c.in_ok-all_units.ensures
