use Rattle.std.proofs.Common.{rules, ◌≡◌, ◌++◌, [], List, ℕ, Some, map, ap, sym, subst, ◌∙◌}
use Rattle.std.proofs.lemmas.List.{append-nil}
use Rattle.std.proofs.lemmas.List.Elements.{All-pop}
use Rattle.abt_interleave.specs.declared.entries.Entry.{Entry}
use Rattle.abt_booth.specs.Seats.{known_of, gathered_of, seats_of, IsSeatOf, HasEachNumber}
use Rattle.abt_booth.proofs.Gathering.{known-pop}
use Rattle.abt_booth.proofs.booth.Booth.close.Goals as goal

pub loop-seat-init : goal.loop-seat-init
loop-seat-init g c =
    let rest = c.pop.new.self.items in
    let seats = c.args.seats.items in
    let t = All-pop (IsSeatOf c.args.self) seats rest (Some c.in-Some.last) c.in-Some.ensures.items c.requires.0 in record {
      left = t.0;
      gathered = c.retire-gathered.ensures.booth c.args.self t.1;
      known = ap (λ l. map known_of rest ++ l) c.retire-gathered.ensures.seats ∙ (known-pop seats rest c.in-Some.last [] c.in-Some.ensures.items ∙ append-nil (map known_of seats));
    }

pub gather-requires-clause-seat : goal.gather-requires-clause-seat
gather-requires-clause-seat g c = (All-pop (IsSeatOf c.args.self) c.loop-seat.seats.items c.pop-in-loop-seat.new.self.items (Some c.in-Some-pop.seat) c.in-Some-pop.ensures.items c.loop-seat.invariant.left).1

pub loop-seat-preserved : goal.loop-seat-preserved
loop-seat-preserved g c =
    let rest = c.pop-in-loop-seat.new.self.items in
    let seats = c.loop-seat.seats.items in record {
      left = (All-pop (IsSeatOf c.args.self) seats rest (Some c.in-Some-pop.seat) c.in-Some-pop.ensures.items c.loop-seat.invariant.left).0;
      gathered = c.gather.ensures.booth;
      known = ap (λ l. map known_of rest ++ l) c.gather.ensures.seats ∙ (known-pop seats rest c.in-Some-pop.seat (gathered_of c.loop-seat.gathered) c.in-Some-pop.ensures.items ∙ c.loop-seat.invariant.known);
    }

pub finish-requires-clause-seats : goal.finish-requires-clause-seats
finish-requires-clause-seats g c =
    let none : c.loop-seat.seats.items ≡ [] = search rules in
    let all : gathered_of c.loop-seat.gathered ≡ map known_of c.args.seats.items = ap (λ l. map known_of l ++ gathered_of c.loop-seat.gathered) (sym none) ∙ c.loop-seat.invariant.known in
    subst (λ (l : List (ℕ × List (Entry g.row.O-Act.Denot g.row.O-Answer.Denot))). HasEachNumber (seats_of c.args.self) l) (sym all) c.requires.1

pub unreachable-requires : goal.unreachable-requires
unfolding seats_of
unreachable-requires g c = search rules
