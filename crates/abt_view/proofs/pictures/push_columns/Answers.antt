use Rattle.std.proofs.Common.{refl}
use Rattle.abt_view.specs.Picture.{column_text}
use Rattle.abt_view.proofs.Ranges.{one-more}
use Rattle.abt_view.proofs.pictures.push_columns.Goals as goal

pub loop-i-preserved : goal.loop-i-preserved
loop-i-preserved c = one-more column_text _ c.loop-i.out.items c.push_column.new.out.items _ c.loop-i.i _ refl c.loop-i.invariant c.in_ok-push_column.ensures
