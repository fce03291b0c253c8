-- A hall is closed.
use Rattle.std.proofs.Common.{◌≡◌, sym, ◌∙◌, subst}
use Rattle.std.specs.List.{All}
use Rattle.abt_booth.specs.Seats.{IsSeatOf, number_of, seats_of}
use Rattle.abt_booth.proofs.Seats.{all-seats}
use Rattle.abt_commons.specs.AllPasses.{AreAll}
use Rattle.abt_commons.specs.Halls.{HallLeft, HallValue}
use Rattle.abt_commons.proofs.HallSights.{hall-left}
use Rattle.abt_commons.proofs.hall.Hall.close.Goals as goal

pub close-closed-requires : goal.close-closed-requires
close-closed-requires g c =
    let passes = subst (λ (h : HallValue). AreAll (IsSeatOf h.booth) number_of (seats_of h.booth) c.args.passes.items) (sym c.self.view_is) c.requires.passes in
    all-seats c.self.inside.booth c.args.passes.items passes.many passes.each passes.in_order

pub returns : goal.returns
returns g c =
    let passes = subst (λ (h : HallValue). AreAll (IsSeatOf h.booth) number_of (seats_of h.booth) c.args.passes.items) (sym c.self.view_is) c.requires.passes in
    record {
      leaves = subst (λ (h : HallValue). HallLeft h.booth h.clock c.args.passes.items c.with_clock.result) c.self.view_is
          (hall-left c.self.inside.booth c.self.inside.clock c.args.passes.items c.close-closed.result.object c.close-closed.result.clock c.with_clock.result passes c.close-closed.ensures
          c.with_clock.ensures.workload c.with_clock.ensures.objects (λ x is. c.with_clock.ensures.clocks x is ∙ c.max.ensures)
          (subst (λ n. All (λ clock. clock ≡ n) c.with_clock.result.clocks) c.max.ensures c.with_clock.ensures.every));
    }
