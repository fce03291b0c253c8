use Rattle.std.proofs.Common.{ℕ, length, slice_index_or, subst}
use Rattle.abt_booth.specs.declared.booth.Seat.{Seat}
use Rattle.abt_booth.specs.Seats.{number_of, seen_of}
use Rattle.booth_caller.specs.Calling.{AsksMore}
use Rattle.abt_callbacks.specs.declared.acts.FutureAct.{FutureAct}
use Rattle.abt_callbacks.specs.declared.acts.FutureAnswer.{FutureAnswer}
use Rattle.abt_callbacks.specs.declared.future.CalledFuture.{CalledFuture}
use Rattle.abt_callbacks.specs.Runs.{sets_of}
use denote.Param.Send.{sendable}
use Rattle.abt_booth.proofs.Crosses.{booth_crosses}
use Rattle.abt_callbacks.proofs.Crosses.{CalledFuture-send}
use Rattle.abt_callbacks.proofs.folding.set_on_threads.Goals as goal

pub for_each_mut-requires-send-T : goal.for_each_mut-requires-send-T
for_each_mut-requires-send-T g c κs within = search (booth_crosses, CalledFuture-send, sendable) depth 20

pub for_each_mut-requires-sync-F : goal.for_each_mut-requires-sync-F
for_each_mut-requires-sync-F g c κs within = search (booth_crosses, CalledFuture-send, sendable) depth 20

pub returns-clause-asked : goal.returns-clause-asked
returns-clause-asked g c i d lt =
    let S = Seat (CalledFuture g.row.F.Denot) FutureAct FutureAnswer _ in
    let acts = sets_of (length c.args.seats.now) c.args.n i in
    let old = slice_index_or c.args.seats.now i d in
    let t = (c.for_each_mut.ensures i d lt).1 in
    let asked : AsksMore (number_of t.argument.now) acts (seen_of t.argument.now) (seen_of t.after_call.now) = t.call.2 in
    let first = subst (λ (s : S). AsksMore (number_of s) acts (seen_of s) (seen_of t.after_call.now)) t.argument_is asked in
    let mine = subst (λ (k : ℕ). AsksMore k acts (seen_of old) (seen_of t.after_call.now)) (c.requires.order i d lt) first in
    subst (λ (s : S). AsksMore i acts (seen_of old) (seen_of s)) t.left mine
