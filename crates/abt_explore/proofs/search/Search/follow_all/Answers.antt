-- All hints.
use Rattle.std.proofs.Common.{◌≡◌, ◌<◌, ℕ, List, Some, arith, below_more, length, refl, subst, sym}
use Rattle.std.specs.List.{slice_get}
use Rattle.std.proofs.lemmas.Option.{slice_get_read}
use Rattle.abt_machine.specs.declared.events.What.{What}
use Rattle.abt_model.specs.Stored.{stored_with}
use Rattle.abt_explore.specs.Searches.{SeesAfter}
use Rattle.abt_explore.proofs.Following.{after-grown}
use Rattle.abt_explore.proofs.Searching.{grows-on}
use Rattle.abt_explore.proofs.search.Search.follow_all.Goals as goal

pub loop-hint-preserved : goal.loop-hint-preserved
loop-hint-preserved g c =
    let W = c.args.w.now in
    let Z = stored_with c.args.z.now (g.P.Work.returns c.args.work.now) in
    let old = c.loop-hint.self in
    let new = c.follow.new.self in
    let found = c.args.found.now in
    let hints : List What = c.args.hints.now in
    let at : ℕ = c.loop-hint.hint-index in
    let item : What = c.hint-item.result in
    let before = c.loop-hint.invariant in
    let grows = c.in_ok-follow.ensures.grows in
    let within : at < length hints = c.loop-hint-test.true in
    let is : slice_get hints at ≡ Some item = slice_get_read hints (length hints) at item refl within c.hint-item.is in
    record {
      grows = grows-on c.args.self.now old new before.grows grows;
      met = grows.met W Z found before.met;
      searching = c.in_ok-follow.ensures.searching;
      sees = λ k hint l here. below_more (λ (n : ℕ). (h : What) → slice_get hints n ≡ Some h → SeesAfter W Z new found.model c.args.s.0 h) at
          (λ n below h there. after-grown W Z old new found.model c.args.s.0 h grows (before.sees n h below there))
          (λ h there. let same : item ≡ h = cc in subst (λ (x : What). SeesAfter W Z new found.model c.args.s.0 x) same c.in_ok-follow.ensures.sees)
          k l hint here;
    }

pub returns-clause-all : goal.returns-clause-all
returns-clause-all g c hint here =
    let hints : List What = c.args.hints.now in
    let within : here.0 < length hints = here.1 in
    c.loop-hint.invariant.sees here.0 hint (omega arith) (slice_get_read hints (length hints) here.0 hint refl within (sym here.2))
