use Rattle.std.proofs.Common.{◌≡◌, ◌∙◌, false, map, sym}
use Rattle.abt_machine.specs.Faults.{is_skipped}
use Rattle.abt_workload.proofs.Firm.{declarable}
use Rattle.abt_workload.proofs.Taken.{judged, taken}
use Rattle.abt_workload.proofs.draft.Draft.take_line.Goals as goal

pub declare-requires : goal.declare-requires
declare-requires c =
    let j = judged c.args.self.now c.args.line.now (map (λ w. w.now) c.args.words.now) c.in-Sound.form c.judge.new.numbers.items _ c.in-Sound.is c.in_ok-fault.ensures in
    let skips : is_skipped (map (λ w. w.now) c.args.words.now) ≡ false = sym c.is_skipped.ensures ∙ c.if-is_skipped.false in
    declarable c.args.self.now c.args.line.now (map (λ w. w.now) c.args.words.now) c.in-Sound.form c.deref.result.now c.requires.firm c.requires.words skips j.0 j.1 (c.deref.ensures.value ∙ j.2)

pub returns-in_ok-declare-in-Sound-clause-declared : goal.returns-in_ok-declare-in-Sound-clause-declared
returns-in_ok-declare-in-Sound-clause-declared c = λ _.
    let j = judged c.args.self.now c.args.line.now (map (λ w. w.now) c.args.words.now) c.in-Sound.form c.judge.new.numbers.items _ c.in-Sound.is c.in_ok-fault.ensures in
    let skips : is_skipped (map (λ w. w.now) c.args.words.now) ≡ false = sym c.is_skipped.ensures ∙ c.if-is_skipped.false in
    taken c.args.self.now c.declare.new.self c.args.line.now (map (λ w. w.now) c.args.words.now) c.in-Sound.form c.deref.result.now c.requires.words skips j.0 j.1 (c.deref.ensures.value ∙ j.2) c.in_ok-declare-in-Sound.ensures
