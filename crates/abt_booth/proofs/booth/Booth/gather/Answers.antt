use Rattle.std.proofs.Common.{rules, ◌<◌, arith, sym, subst}
use Rattle.abt_booth.specs.Rule.{SeatState, all_known}
use Rattle.abt_booth.specs.Seats.{HasNumber, number_of, opening_of, IsSeatOf, AreGatheredOf, gathered_of, seen_of}
use Rattle.abt_booth.proofs.Gathering.{gathers, number-gathered, numbers-kept}
use Rattle.abt_booth.proofs.booth.Booth.gather.Goals as goal

pub join_seat-requires : goal.join_seat-requires
unfolding opening_of IsSeatOf AreGatheredOf
join_seat-requires g c =
    let k = c.args.self.now.table.shared in
    let x = c.args.gathered.now in
    let s = c.args.seat in
    let lv : x.raw.me.0.number < x.raw.me.0.next = omega (arith, x.rests.1) in
    let lw : s.raw.me.0.number < s.raw.me.0.next = omega (arith, s.rests.2) in (
      c.requires.gathered.0,
      c.requires.seat.0,
      s.rests.0,
      search rules,
      gathers g.O.Object.does k.key.object.value k.key.seats x.raw.id s.raw.id x.raw.me.0 s.raw.me.0 lv lw x.rests.0 s.rests.1,
    )

pub returns-clause-number : goal.returns-clause-number
unfolding number_of gathered_of
returns-clause-number g c =
    subst (λ (m : SeatState g.row.O.Denot g.row.O-Act.Denot g.row.O-Answer.Denot). HasNumber (number_of c.args.seat) (all_known m.0)) (sym c.join_seat.ensures.2)
    (number-gathered c.args.gathered.now.raw.me.0 c.args.seat.raw.me.0)

pub returns-clause-others : goal.returns-clause-others
unfolding gathered_of
returns-clause-others g c number has =
    subst (λ (m : SeatState g.row.O.Denot g.row.O-Act.Denot g.row.O-Answer.Denot). HasNumber number (all_known m.0)) (sym c.join_seat.ensures.2)
    (numbers-kept c.args.gathered.now.raw.me.0 c.args.seat.raw.me.0 number has)

pub returns-clause-booth : goal.returns-clause-booth
unfolding AreGatheredOf
returns-clause-booth g c = search rules

pub returns-clause-seats : goal.returns-clause-seats
unfolding number_of seen_of gathered_of
returns-clause-seats g c = search rules
