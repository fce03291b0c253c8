use Rattle.std.proofs.Common.{rules, ◌+◌, ◌*◌, ◌/◌, ◌%◌, ℕ, List, ap, subst, sym, ◌∙◌}
use Rattle.atomic_table.specs.Table.{Allows, rest, step}
use mathlib.Core.Option.{none}
use Rattle.abt_booth.specs.Holders.{sight_of, IsTaken}
use Rattle.abt_booth.specs.Rule.{turn_word, Kept, KeptLot, resting, released}
use Rattle.abt_booth.specs.Seats.{opening_of}
use Rattle.abt_booth.proofs.Keeps.{releases}
use Rattle.abt_booth.proofs.booth.Booth.release.Goals as goal

pub store-requires : goal.store-requires
unfolding opening_of
store-requires g c =
    let does = g.O.Object.does in
    let k = c.args.self.now.table.shared.key in
    let slots = c.args.self.now.table.shared.table_id.slots in
    let seat = c.args.seat.now in
    let n = c.peek.result / 2 % 4611686018427387904 + 1 in
    let turn = c.requires.turn in (
      search rules,
      search rules,
      subst (λ (xs : List (ℕ × KeptLot g.row.O.Denot g.row.O-Act.Denot g.row.O-Answer.Denot)). IsTaken does k.object.value (sight_of (seat.me.0, xs)) turn.0
          → Allows (Kept does k.object.value k.seats) slots seat.id (seat.me.0, xs) turn_word (λ _. 2 * n) (λ _. released (step slots turn_word (2 * n) 0 none) (seat.me.0, xs) (2 * n))) (sym turn.1)
          (releases does k.object.value k.seats slots seat.id seat.me.0 turn.0 n turn.2 c.requires.alone.0 c.requires.alone.1) turn.3,
    )

pub returns-clause-view : goal.returns-clause-view
returns-clause-view g c =
    let me = c.args.seat.now.me in
    c.store.ensures.2 ∙ ap (λ (xs : List (ℕ × KeptLot g.row.O.Denot g.row.O-Act.Denot g.row.O-Answer.Denot)). (resting me.0 (sight_of me), rest xs)) c.requires.turn.1
