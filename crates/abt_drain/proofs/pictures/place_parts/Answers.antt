-- The four kinds of units that a stream leaves.
use Rattle.abt_drain.proofs.Placing.{four-put, frames-below, next-below, tray-below}
use Rattle.abt_drain.proofs.pictures.place_parts.Goals as goal

pub place_some-requires-2 : goal.place_some-requires-2
place_some-requires-2 c = next-below c.args.parts c.args.shown _ _ c.place_some.ensures c.requires

pub place_all-requires : goal.place_all-requires
place_all-requires c = tray-below c.args.parts c.args.shown _ _ c.place_some.ensures _ c.place_some-2.ensures c.requires

pub place_frames-requires : goal.place_frames-requires
place_frames-requires c = frames-below c.args.parts c.args.shown _ _ c.place_some.ensures _ c.place_some-2.ensures _ c.place_all.ensures c.requires

pub returns : goal.returns
returns c = four-put c.args.parts c.args.shown _ _ c.place_some.ensures _ c.place_some-2.ensures _ c.place_all.ensures _ c.place_frames.ensures
