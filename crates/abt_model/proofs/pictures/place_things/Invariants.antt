use Rattle.std.proofs.Common.{◌≡◌, length, slice_get}
use Rattle.abt_machine.specs.Workloads.{thing_at}
use Rattle.abt_model.specs.Pictures.{placed, rows_below, rows_of_thing}
use Rattle.abt_model.proofs.pictures.place_things.Given as goal

abbrev pub invariant-loop-x : goal.invariant-loop-x
invariant-loop-x l = record {
  rows : l.rows.items ≡ placed (rows_below (λ x. rows_of_thing l.w x (thing_at l.w x) (slice_get l.slots x)) l.x) l.fn.rows.items;
  end : l.x-end ≡ length l.w.objects;
}
