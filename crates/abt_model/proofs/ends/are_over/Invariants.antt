-- The units before are unborn or ended.
use Rattle.std.proofs.Common.{ℕ, ◌≡◌, ◌<◌, length}
use Rattle.abt_machine.specs.declared.events.Site.TheVariants as site
use Rattle.abt_machine.specs.Numbers.{unit_no}
use Rattle.abt_outcomes.specs.Values.{IsOverAt}
use Rattle.abt_replay.specs.Objects.{object_at}
use Rattle.abt_model.proofs.ends.are_over.Given as goal

abbrev pub invariant-loop-u : goal.invariant-loop-u
invariant-loop-u l = record {
  over : (v : ℕ) → v < l.u → IsOverAt (object_at l.objects (site.Desk (unit_no v)));
  end : l.u-end ≡ length l.w.units;
}
