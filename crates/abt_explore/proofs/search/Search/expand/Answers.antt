-- One model.
use Rattle.std.specs.Bool.{OnTrue}
use Rattle.std.proofs.Common.{Bool, Some, inl, inr, subst}
use Rattle.abt_model.specs.Stored.{stored_with}
use Rattle.abt_explore.specs.Explored.{MayCallAny}
use Rattle.abt_explore.specs.Searches.{Grows, SeesAll, SeesOne}
use Rattle.abt_explore.proofs.Finding.{any-if, done-if, listed-grown, looked, searching-expanded}
use Rattle.abt_explore.proofs.Searching.{grows-on}
use Rattle.abt_explore.proofs.search.Search.expand.Goals as goal

pub expand_one-requires-clause-met : goal.expand_one-requires-clause-met
expand_one-requires-clause-met g c =
    let W = c.args.w.now in
    let Z = stored_with c.args.z.now (g.P.Work.returns c.args.work.now) in
    let found = c.args.found.now in
    let mid = looked W Z c.requires.valid c.requires.stored c.requires.keeps_order (Some found.model) c.args.self.now found c.note_if_quiet.new.self c.requires.met
    c.requires.searching (c.in_ok-note_if_quiet.ensures Z) in
    mid.grows.met W Z found c.requires.met

pub expand_one-requires-clause-searching : goal.expand_one-requires-clause-searching
expand_one-requires-clause-searching g c =
    let W = c.args.w.now in
    let Z = stored_with c.args.z.now (g.P.Work.returns c.args.work.now) in
    let found = c.args.found.now in
    (looked W Z c.requires.valid c.requires.stored c.requires.keeps_order
    (Some found.model) c.args.self.now found c.note_if_quiet.new.self c.requires.met c.requires.searching (c.in_ok-note_if_quiet.ensures Z)).searching

pub expand_streams-requires-clause-met : goal.expand_streams-requires-clause-met
expand_streams-requires-clause-met g c =
    let W = c.args.w.now in
    let Z = stored_with c.args.z.now (g.P.Work.returns c.args.work.now) in
    let found = c.args.found.now in
    let mid = looked W Z c.requires.valid c.requires.stored c.requires.keeps_order (Some found.model) c.args.self.now found c.note_if_quiet.new.self c.requires.met
    c.requires.searching (c.in_ok-note_if_quiet.ensures Z) in
    c.in_ok-expand_one.ensures.grows.met W Z found (mid.grows.met W Z found c.requires.met)

pub expand_streams-requires-clause-searching : goal.expand_streams-requires-clause-searching
expand_streams-requires-clause-searching g c = c.in_ok-expand_one.ensures.searching

pub returns-then-branch-clause-grows : goal.returns-then-branch-clause-grows
returns-then-branch-clause-grows g c =
    let W = c.args.w.now in
    let Z = stored_with c.args.z.now (g.P.Work.returns c.args.work.now) in
    let found = c.args.found.now in
    let mid = c.note_if_quiet.new.self in
    let one = c.expand_one.new.self in
    let before = looked W Z c.requires.valid c.requires.stored c.requires.keeps_order (Some found.model) c.args.self.now found mid c.requires.met c.requires.searching (c.in_ok-note_if_quiet.ensures Z) in
    let tried = c.in_ok-expand_one.ensures in
    grows-on c.args.self.now mid one before.grows tried.grows

pub returns-then-branch-clause-searching : goal.returns-then-branch-clause-searching
returns-then-branch-clause-searching g c =
    let W = c.args.w.now in
    let Z = stored_with c.args.z.now (g.P.Work.returns c.args.work.now) in
    let found = c.args.found.now in
    let mid = c.note_if_quiet.new.self in
    let one = c.expand_one.new.self in
    let before = looked W Z c.requires.valid c.requires.stored c.requires.keeps_order (Some found.model) c.args.self.now found mid c.requires.met c.requires.searching (c.in_ok-note_if_quiet.ensures Z) in
    let tried = c.in_ok-expand_one.ensures in
    let alone : SeesOne W Z one found.model = subst (λ (b : Bool). OnTrue b (SeesOne W Z one found.model)) c.if-branch.true tried.one in
    searching-expanded W Z c.requires.valid c.requires.stored c.requires.keeps_order one found.model tried.searching
    (record { next = inr alone; listed = listed-grown W Z mid one found.model tried.grows before.listed })

pub returns : goal.returns
returns g c =
    let W = c.args.w.now in
    let Z = stored_with c.args.z.now (g.P.Work.returns c.args.work.now) in
    let found = c.args.found.now in
    let old = c.args.self.now in
    let mid = c.note_if_quiet.new.self in
    let one = c.expand_one.new.self in
    let before = looked W Z c.requires.valid c.requires.stored c.requires.keeps_order (Some found.model) old found mid c.requires.met c.requires.searching (c.in_ok-note_if_quiet.ensures Z) in
    let tried = c.in_ok-expand_one.ensures in
    let new = c.expand_streams.new.self in
    let any = c.in_ok-any.any in
    let after = c.in_ok-any.ensures in
    let grows : Grows mid new = grows-on mid one new tried.grows after.grows in
    record {
      grows = grows-on old mid new before.grows grows;
      searching = done-if (MayCallAny W Z) any after.all
          (λ (next : SeesAll W Z new found.model).
          searching-expanded W Z c.requires.valid c.requires.stored c.requires.keeps_order new found.model after.searching
          (record { next = inl next; listed = listed-grown W Z mid new found.model grows before.listed }));
      any = any-if (SeesAll W Z new found.model) (MayCallAny W Z) any after.all;
    }
