use Rattle.std.proofs.Common.{Vec, ℕ, Bool, List, ◌≡◌, ◌<◌, ◌∙◌, length, None, Some, arith, ap, refl, sym}
use Rattle.std.specs.declared.alloc.Global.{Global}
use Rattle.abt_machine.specs.declared.numbers.UnitNo.{UnitNo}
use Rattle.std.specs.Prelude.{slice_get, slice_index_or}
use Rattle.abt_orderly.specs.declared.scanning.Standing.TheVariants as standing
use Rattle.abt_orderly.specs.Needs.{creates_at}
use Rattle.abt_orderly.specs.Passing.{done_at}
use Rattle.abt_orderly.proofs.Entries.{read-at, read-is}
use Rattle.abt_orderly.proofs.Looking.{seen-created, units-more}
use Rattle.abt_orderly.proofs.Needing.{creates-declared}
use Rattle.abt_orderly.proofs.Standing.{standing-more, standing-same}
use Rattle.abt_orderly.proofs.Work.{one-longer}
use Rattle.abt_orderly.proofs.passing.Passing.create.Goals as goal

pub returns-in_ok-push-in-Some : goal.returns-in_ok-push-in-Some
returns-in_ok-push-in-Some c =
    let below : c.args.u.0 < length c.args.self.now.done.items = (let e = c.requires.all in let u = c.requires.unit in omega arith) in
    let stands : c.args.u.0 < length c.args.self.now.standing.items = (let e = c.requires.standing.all in let u = c.requires.unit in omega arith) in
    let is : creates_at c.args.w.now c.args.u.0 (done_at c.args.self.now.done.items c.args.u.0) ≡ Some c.in-Some.v = ap (creates_at c.args.w.now c.args.u.0)
    (read-is c.args.self.now.done.items c.args.u.0 c.index.result.now 0 below c.index.ensures) ∙ sym c.in-Some.ensures in
    let declared : c.in-Some.v.0 < length c.args.w.now.units = creates-declared c.args.w.now c.args.u.0 (done_at c.args.self.now.done.items c.args.u.0) c.in-Some.v c.known.ensures is in
    let there : c.in-Some.v.0 < length c.args.self.now.standing.items = (let e = c.requires.standing.all in omega arith) in
    let at : slice_get c.args.self.now.standing.items c.args.u.0 ≡ Some c.index-in-Some.result.now = read-at c.args.self.now.standing.items c.args.u.0 c.index-in-Some.result.now stands c.index-in-Some.ensures in
    let same : slice_index_or c.args.self.now.standing.items c.args.u.0 standing.Unborn ≡ c.index-in-Some.result.now = read-is c.args.self.now.standing.items c.args.u.0
    c.index-in-Some.result.now standing.Unborn stands c.index-in-Some.ensures in
    record {
      done = refl {A = List ℕ};
      met = refl {A = List Bool};
      waiting = refl {A = List (Vec UnitNo Global)};
      standing = standing-more c.args.w.now c.args.self.now.done.items c.args.u.0 below c.requires.confluent c.in-Some.v is c.args.self.now.standing.items c.index-in-Some.result.now there at
          (λ unborn. c.requires.born (same ∙ unborn)) c.requires.standing;
      ready = units-more c.args.w.now c.in-Some.v c.args.self.now.ready.items c.push.new.self.items c.in_ok-push-in-Some.ensures.items declared c.requires.ready;
      others = λ v l other. seen-created c.args.w.now c.in-Some.v c.args.self.now.ready.items c.push.new.self.items c.in_ok-push-in-Some.ensures.items c.args.self.now.met.items
          c.args.self.now.standing.items c.index-in-Some.result.now v (done_at c.args.self.now.done.items v) (c.requires.others v l other);
      left = (let e = one-longer c.args.self.now.ready.items c.push.new.self.items c.in-Some.v c.in_ok-push-in-Some.ensures.items in omega arith);
    }

pub returns-in-None : goal.returns-in-None
returns-in-None c =
    let below : c.args.u.0 < length c.args.self.now.done.items = (let e = c.requires.all in let u = c.requires.unit in omega arith) in
    let none : creates_at c.args.w.now c.args.u.0 (done_at c.args.self.now.done.items c.args.u.0) ≡ None = ap (creates_at c.args.w.now c.args.u.0)
    (read-is c.args.self.now.done.items c.args.u.0 c.index.result.now 0 below c.index.ensures) ∙ sym c.in-None.ensures in
    record {
      done = refl {A = List ℕ};
      met = refl {A = List Bool};
      waiting = refl {A = List (Vec UnitNo Global)};
      standing = standing-same c.args.w.now c.args.self.now.done.items c.args.u.0 below c.args.self.now.standing.items none c.requires.standing;
      ready = c.requires.ready;
      others = c.requires.others;
      left = omega arith;
    }
