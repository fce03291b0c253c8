use Rattle.std.proofs.Common.{◌≡◌, ◌++◌, flat_map}
use Rattle.std.specs.List.{range_with_len}
use Rattle.abt_view.specs.Picture.{band_text}
use Rattle.abt_view.proofs.pictures.push_bands.Given as goal

abbrev pub invariant-loop-n : goal.invariant-loop-n
invariant-loop-n l = l.out.items ≡ l.fn.out.items ++ flat_map (band_text l.names l.pieces l.journal) (range_with_len 0 l.n)
