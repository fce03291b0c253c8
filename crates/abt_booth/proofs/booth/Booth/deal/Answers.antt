use Rattle.std.proofs.Common.{rules, ◌≡◌, ◌<◌, ◌+◌, suc, ℕ, [], length, length-append, ap, sym, subst, ◌∙◌, arith}
use Rattle.std.specs.List.{All}
use Rattle.std.proofs.lemmas.List.Elements.{All-nil, All-push}
use Rattle.abt_booth.specs.Rule.{SeatState, keeping, left}
use Rattle.abt_booth.specs.Seats.{opening_of, seen_of, IsSeatOf, AreInOrder, number_of, seats_of}
use Rattle.abt_booth.specs.declared.booth.Seat.{Seat}
use Rattle.abt_booth.proofs.Dealing.{deals}
use Rattle.abt_booth.proofs.Seats.{in-order-push}
use Rattle.abt_booth.proofs.booth.Booth.deal.Goals as goal

pub loop-i-init : goal.loop-i-init
loop-i-init g c = let S = Seat g.row.O.Denot g.row.O-Act.Denot g.row.O-Answer.Denot g.O.Object in let none = sym c.requires.room.0 in record {
  table = c.requires.first.0;
  left = c.requires.first.1;
  many = ap length c.requires.room.0;
  len = c.requires.room.1;
  roomy = c.requires.room.2;
  each = subst (All (IsSeatOf c.args.self.now)) none (All-nil (IsSeatOf c.args.self.now));
  in_order = λ i d lt. absurd (let none : length c.args.room.items ≡ 0 = ap length c.requires.room.0 in omega arith);
  fresh = subst (All (λ (s : S). seen_of s ≡ [])) none (All-nil (λ (s : S). seen_of s ≡ []));
}

pub split_seat-raw-requires : goal.split_seat-raw-requires
unfolding opening_of
split_seat-raw-requires g c = let inv = c.loop-i.invariant in let k = c.args.self.now.table.shared in
    let lt : c.loop-i.first.me.0.number < c.loop-i.first.me.0.next = subst (λ (m : SeatState g.row.O.Denot g.row.O-Act.Denot g.row.O-Answer.Denot). m.0.number < m.0.next) (sym inv.left) (omega arith) in
    (inv.table, search rules, deals g.O.Object.does k.key.object.value k.key.seats c.loop-i.first.id c.loop-i.first.me.0 lt (ap (λ m. m.0.holds) inv.left) (ap (λ m. m.0.taken) inv.left))

pub push_reserved-requires : goal.push_reserved-requires
push_reserved-requires g c = let inv = c.loop-i.invariant in let lt = c.loop-i-test.true in omega (arith, inv.len, inv.roomy)

pub loop-i-preserved : goal.loop-i-preserved
unfolding opening_of number_of seen_of IsSeatOf
loop-i-preserved g c =
    let S = Seat g.row.O.Denot g.row.O-Act.Denot g.row.O-Answer.Denot g.O.Object in
    let inv = c.loop-i.invariant in
    let b = c.args.self.now in
    let xs = c.loop-i.room.items in
    let p = c.push_reserved.ensures in
    let r = c.split_seat-raw.ensures in
    let more : suc c.loop-i.i ≡ c.loop-i.i + 1 = omega arith in
    let now = sym p.items in record {
      table = r.0 ∙ inv.table;
      left = r.2 ∙ ((λ i. (left (inv.left i).0, (inv.left i).1)) ∙ ap (λ (z : ℕ). (keeping (opening_of b) z c.args.seats, [])) more);
      many = ap length p.items ∙ (length-append xs _ ∙ ap (λ (z : ℕ). z + 1) inv.many);
      len = p.len ∙ ap (λ (z : ℕ). z + 1) inv.len;
      roomy = omega (arith, p.capacity, inv.roomy);
      each = subst (All (IsSeatOf b)) now (All-push (IsSeatOf b) xs _ inv.each (r.3 ∙ inv.table, ap (λ m. m.0.opening) r.4 ∙ ap (λ m. m.0.opening) inv.left));
      in_order = subst AreInOrder now (in-order-push xs _ inv.in_order (ap (λ m. m.0.number) r.4 ∙ (ap (λ m. m.0.number) inv.left ∙ sym inv.many)));
      fresh = subst (All (λ (s : S). seen_of s ≡ [])) now (All-push (λ (s : S). seen_of s ≡ []) xs _ inv.fresh (ap (λ m. m.0.seen) r.4 ∙ ap (λ m. m.0.seen) inv.left));
    }

pub returns : goal.returns
unfolding number_of seen_of seats_of opening_of IsSeatOf
returns g c =
    let S = Seat g.row.O.Denot g.row.O-Act.Denot g.row.O-Answer.Denot g.O.Object in
    let inv = c.loop-i.invariant in
    let b = c.args.self.now in
    let xs = c.loop-i.room.items in
    let p = c.push_reserved-2.ensures in
    let n : c.loop-i.i + 1 ≡ c.args.seats = omega (arith, c.requires.seats.0, c.loop-i-test.false, c.loop-i.auto.i-end) in
    let now = sym p.items in record {
      many = ap length p.items ∙ (length-append xs _ ∙ (ap (λ (z : ℕ). z + 1) inv.many ∙ (n ∙ sym c.requires.seats.1)));
      each = subst (All (IsSeatOf b)) now (All-push (IsSeatOf b) xs _ inv.each (inv.table, ap (λ m. m.0.opening) inv.left));
      in_order = subst AreInOrder now (in-order-push xs _ inv.in_order (ap (λ m. m.0.number) inv.left ∙ sym inv.many));
      fresh = subst (All (λ (s : S). seen_of s ≡ [])) now (All-push (λ (s : S). seen_of s ≡ []) xs _ inv.fresh (ap (λ m. m.0.seen) inv.left));
    }
