use Rattle.std.proofs.Common.{◌≡◌, ◌≤◌, ◌+◌, ◌∙◌, Ok, Err, OnErr, length, true, false, arith, rules}
use Rattle.abt_source.specs.Seen.{held}
use Rattle.abt_source.specs.Source.{LeavesAnEnd}
use Rattle.abt_source.proofs.Pieces.{nothing-is-an-end, split-end, split-take}
use Rattle.abt_source.proofs.Seen.{agree-reads, ends, grows-by, grows-closed, grows-gave, nothing-taken}
use Rattle.abt_source.proofs.reading.read_all.Goals as goal

-- Nothing is left of a file that was not begun.
pub returns-in_err-begin-clause-stands : goal.returns-in_err-begin-clause-stands
returns-in_err-begin-clause-stands g c =
    let P : Type 0 = LeavesAnEnd (held (g.F.Files.seen c.args.files.now) c.args.name.now) (g.F.Files.left c.begin.new.self) in
    let end : P = nothing-is-an-end _ _ c.in_err-begin.ensures.nothing in
    elim c.from_residual.result as (λ r. OnErr r P) [ Ok v ↦ tt | Err e ↦ end ]

pub returns-in_err-begin-clause-grows : goal.returns-in_err-begin-clause-grows
returns-in_err-begin-clause-grows g c = grows-closed _ _ c.in_err-begin.ensures.closed

pub returns-in-Ok-eq0-clause-grows : goal.returns-in-Ok-eq0-clause-grows
returns-in-Ok-eq0-clause-grows g c = grows-by _ _ _ _ _ _ c.loop-piece.invariant.seen c.in-Ok-eq0.ensures.seen

pub returns-in_err-extend_from_slice-in-Ok-clause-grows : goal.returns-in_err-extend_from_slice-in-Ok-clause-grows
returns-in_err-extend_from_slice-in-Ok-clause-grows g c = grows-by _ _ _ _ _ _ c.loop-piece.invariant.seen c.in-Ok.ensures.seen

pub returns-in-Err-clause-grows : goal.returns-in-Err-clause-grows
returns-in-Err-clause-grows g c = grows-gave _ _ _ (c.in-Err.ensures.unseen ∙ c.loop-piece.invariant.seen)

pub returns-clause-grows : goal.returns-clause-grows
returns-clause-grows g c = grows-gave _ _ _ c.loop-piece.invariant.seen

pub returns-in-Ok-eq0-clause-bytes : goal.returns-in-Ok-eq0-clause-bytes
returns-in-Ok-eq0-clause-bytes g c = λ file_of agree.
    let short : length c.loop-piece.bytes.items ≤ c.args.most = search rules in
    let none : c.in-Ok-eq0.field-0 ≡ 0 = search rules in
    agree-reads c.args.most c.args.name.now c.loop-piece.bytes.items true _ _ file_of (ends _ _ _ _ _ _ c.loop-piece.invariant.seen c.in-Ok-eq0.ensures.seen (nothing-taken _ _ none))
    (split-end _ _ _ c.loop-piece.bytes.items _ _ c.args.most c.loop-piece.invariant.split c.in-Ok-eq0.ensures.gives none short) (omega (arith, short)) (λ (no : true ≡ false). absurd (cc)) agree

pub returns-clause-bytes : goal.returns-clause-bytes
returns-clause-bytes g c = λ file_of agree.
    let all : length c.loop-piece.bytes.items ≡ c.args.most + 1 = search rules in
    agree-reads c.args.most c.args.name.now c.loop-piece.bytes.items false _ _ file_of c.loop-piece.invariant.seen
    (split-take _ _ c.loop-piece.bytes.items c.args.most c.loop-piece.invariant.split all) (omega (arith, all)) (λ _. all) agree
