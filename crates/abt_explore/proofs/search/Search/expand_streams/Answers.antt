-- All that may come of all streams.
use Rattle.std.proofs.Common.{ℕ, MatchOption, Option, below_more, subst}
use Rattle.abt_model.specs.Stored.{stored_with}
use Rattle.abt_explore.specs.Explored.{MayCallAny}
use Rattle.abt_explore.specs.Searches.{SeesNext}
use Rattle.abt_explore.proofs.Following.{next-grown}
use Rattle.abt_explore.proofs.Searching.{grows-on}
use Rattle.abt_explore.proofs.search.Search.expand_streams.Goals as goal

pub loop-s-preserved : goal.loop-s-preserved
loop-s-preserved g c =
    let W = c.args.w.now in
    let Z = stored_with c.args.z.now (g.P.Work.returns c.args.work.now) in
    let old = c.loop-s.self in
    let new = c.expand_stream.new.self in
    let found = c.args.found.now in
    let before = c.loop-s.invariant in
    let grows = c.in_ok-function.ensures.grows in
    let here : SeesNext W Z new found.model c.loop-s.s =
    subst (λ (any : Option ℕ). MatchOption any (SeesNext W Z new found.model c.loop-s.s) (MayCallAny W Z)) c.in-None.is c.in_ok-function.ensures.all in
    record {
      grows = grows-on c.args.self.now old new before.grows grows;
      met = grows.met W Z found before.met;
      searching = c.in_ok-function.ensures.searching;
      next = below_more (λ (s : ℕ). SeesNext W Z new found.model s) c.loop-s.s (λ s below. next-grown W Z old new found.model s grows (before.next s below)) here;
    }
