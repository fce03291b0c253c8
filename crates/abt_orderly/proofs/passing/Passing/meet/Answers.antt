use Rattle.std.proofs.Common.{◌≡◌, ◌<◌, ◌++◌, ◌∙◌, length, Some, arith, ap, refl}
use Rattle.std.specs.Prelude.{slice_get, slice_index_or}
use Rattle.abt_orderly.specs.declared.scanning.Standing.TheVariants as standing
use Rattle.abt_orderly.specs.Needs.{needs_in}
use Rattle.abt_orderly.specs.Passing.{done_at}
use Rattle.abt_orderly.proofs.Entries.{read-at}
use Rattle.abt_orderly.proofs.Looking.{seen-met, units-met}
use Rattle.abt_orderly.proofs.Meeting.{lists-more, met-more, met-same, wait-more}
use Rattle.abt_orderly.proofs.Needing.{meets-declared}
use Rattle.abt_orderly.proofs.Work.{same-listed}
use Rattle.abt_orderly.proofs.passing.Passing.meet.Goals as goal

pub index-requires : goal.index-requires
index-requires c =
    let l : c.in-Some.i < needs_in c.args.w.now = meets-declared c.args.w.now c.args.u.0 (done_at c.args.self.now.done.items c.args.u.0) c.in-Some.i c.known.ensures c.requires.unit c.in-Some.ensures.1 in
    let e = c.requires.passes.lists.all in omega arith

pub index_mut-requires : goal.index_mut-requires
index_mut-requires c =
    let l : c.in-Some.i < needs_in c.args.w.now = meets-declared c.args.w.now c.args.u.0 (done_at c.args.self.now.done.items c.args.u.0) c.in-Some.i c.known.ensures c.requires.unit c.in-Some.ensures.1 in
    let e = c.requires.passes.lists.all in omega arith

pub index_mut-requires-in-Some : goal.index_mut-requires-in-Some
index_mut-requires-in-Some c =
    let l : c.in-Some.i < needs_in c.args.w.now = meets-declared c.args.w.now c.args.u.0 (done_at c.args.self.now.done.items c.args.u.0) c.in-Some.i c.known.ensures c.requires.unit c.in-Some.ensures.1 in
    let e = c.requires.passes.met.all in omega arith

pub returns-in_ok-extend_from_slice-in-Some : goal.returns-in_ok-extend_from_slice-in-Some
returns-in_ok-extend_from_slice-in-Some c =
    let l : c.in-Some.i < needs_in c.args.w.now = meets-declared c.args.w.now c.args.u.0 (done_at c.args.self.now.done.items c.args.u.0) c.in-Some.i c.known.ensures c.requires.unit c.in-Some.ensures.1 in
    let there : c.in-Some.i < length c.args.self.now.met.items = (let e = c.requires.passes.met.all in omega arith) in
    let inside : c.in-Some.i < length c.args.self.now.waiting.items = (let e = c.requires.passes.lists.all in omega arith) in
    let below : c.args.u.0 < length c.args.self.now.done.items = (let e = c.requires.passes.all in let u = c.requires.unit in omega arith) in
    let at : slice_get c.args.self.now.waiting.items c.in-Some.i ≡ Some c.index.result.now = read-at c.args.self.now.waiting.items c.in-Some.i c.index.result.now inside c.index.ensures in
    let more : c.extend_from_slice.new.self.items ≡ c.args.self.now.ready.items ++ c.index.result.now.items = c.in_ok-extend_from_slice-in-Some.ensures.items ∙ ap
    (λ us. c.args.self.now.ready.items ++ us) c.deref.ensures.value in
    record {
      done = refl;
      standing = refl;
      met = met-more c.args.w.now c.args.self.now.done.items c.args.u.0 below c.args.self.now.met.items c.requires.passes.met c.in-Some.ensures.0 c.in-Some.i c.in-Some.ensures.1 there;
      lists = lists-more c.args.w.now c.args.self.now.met.items c.args.self.now.waiting.items c.in-Some.i there c.clear.new.self c.clear.ensures.items inside c.requires.passes.lists;
      waits = wait-more c.args.w.now c.args.self.now.met.items c.args.self.now.waiting.items c.in-Some.i there c.clear.new.self c.clear.ensures.items c.requires.passes.waits;
      ready = units-met c.args.w.now c.args.self.now.met.items c.args.self.now.waiting.items c.in-Some.i c.index.result.now c.args.self.now.ready.items
          c.extend_from_slice.new.self.items at more c.requires.passes.lists c.requires.passes.ready;
      others = λ v declared other. seen-met c.args.w.now c.args.self.now.met.items c.args.self.now.waiting.items c.in-Some.i c.index.result.now c.args.self.now.ready.items
          c.extend_from_slice.new.self.items at more c.requires.passes.waits v (done_at c.args.self.now.done.items v)
          (slice_index_or c.args.self.now.standing.items v standing.Unborn) (c.requires.others v declared other);
      left = same-listed c.args.self.now.ready.items c.extend_from_slice.new.self.items c.args.self.now.waiting.items c.in-Some.i c.index.result.now c.clear.new.self at more c.clear.ensures.items;
    }

pub returns-in-None : goal.returns-in-None
returns-in-None c =
    let below : c.args.u.0 < length c.args.self.now.done.items = (let e = c.requires.passes.all in let u = c.requires.unit in omega arith) in
    record {
      done = refl;
      standing = refl;
      met = met-same c.args.w.now c.args.self.now.done.items c.args.u.0 below c.args.self.now.met.items c.requires.passes.met c.in-None.ensures;
      lists = c.requires.passes.lists;
      waits = c.requires.passes.waits;
      ready = c.requires.passes.ready;
      others = c.requires.others;
      left = refl;
    }
