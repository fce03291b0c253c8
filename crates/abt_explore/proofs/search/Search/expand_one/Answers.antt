-- The first stream whose event may be tried alone.
use Rattle.abt_model.specs.Stored.{stored_with}
use Rattle.abt_explore.proofs.Searching.{grows-on}
use Rattle.abt_explore.proofs.search.Search.expand_one.Goals as goal

pub loop-stream-preserved : goal.loop-stream-preserved
loop-stream-preserved g c =
    let W = c.args.w.now in
    let Z = stored_with c.args.z.now (g.P.Work.returns c.args.work.now) in
    let before = c.loop-stream.invariant in
    record {
      grows = grows-on c.args.self.now c.loop-stream.self c.try_stream.new.self before.grows c.in_ok-try_stream.ensures.grows;
      met = c.in_ok-try_stream.ensures.grows.met W Z c.args.found.now before.met;
      searching = c.in_ok-try_stream.ensures.searching;
    }
