use Rattle.std.proofs.Common.{◌≡◌, ◌∙◌, ◌∷◌, [], arith, below_more, drop, sym}
use Rattle.abt_machine.specs.Spelling.{lines_of}
use Rattle.abt_workload.proofs.Seen.{all-taken, declared-more, drop-more, fault-here, faultless-end, lines-none, refuses-end, refuses-line, within-more}
use Rattle.abt_workload.proofs.reading.read_lines.Goals as goal

pub loop-rest-preserved : goal.loop-rest-preserved
loop-rest-preserved c =
    let i = c.loop-rest.invariant in
    let e : drop c.loop-rest.line (lines_of c.args.bytes.now) ≡ c.in-Ok.cut.line.now ∷ lines_of c.in-Ok.cut.after.now = i.left ∙ c.in-Ok.ensures.line in
    let none = c.in-Ok-None.field-0-is in
    record {
      left = drop-more (lines_of c.args.bytes.now) c.loop-rest.line _ _ e;
      declared = declared-more (lines_of c.args.bytes.now) c.loop-rest.line _ _ c.loop-rest.draft _ e i.declared (c.in-Ok-None.ensures.declared none);
      least = below_more _ _ i.least (fault-here (lines_of c.args.bytes.now) c.loop-rest.line _ _ c.loop-rest.draft e i.declared ∙ (sym c.in-Ok-None.ensures.fault ∙ none));
      within = within-more (lines_of c.args.bytes.now) c.loop-rest.line _ _ e;
      counted = let h = c.in-Ok.ensures.shorter in omega (arith, h);
    }

pub returns-in-Ok-Some-clause-refused : goal.returns-in-Ok-Some-clause-refused
returns-in-Ok-Some-clause-refused c =
    let i = c.loop-rest.invariant in
    let e : drop c.loop-rest.line (lines_of c.args.bytes.now) ≡ c.in-Ok.cut.line.now ∷ lines_of c.in-Ok.cut.after.now = i.left ∙ c.in-Ok.ensures.line in
    refuses-line c.args.bytes.now c.loop-rest.line _ _ c.loop-rest.draft _ _ c.requires e i.declared i.least c.in-Ok-Some.ensures.fault c.in-Ok-Some.field-0-is

pub returns-then-not-has_ended-clause-refused : goal.returns-then-not-has_ended-clause-refused
returns-then-not-has_ended-clause-refused c =
    let i = c.loop-rest.invariant in
    let none : drop c.loop-rest.line (lines_of c.args.bytes.now) ≡ [] = i.left ∙ lines-none c.loop-rest.rest.now (sym c.is_empty.ensures ∙ c.loop-rest-test.false) in
    let all = all-taken (lines_of c.args.bytes.now) c.loop-rest.line c.loop-rest.draft none i.within i.declared in
    refuses-end c.args.bytes.now c.loop-rest.line c.loop-rest.draft c.requires all.0 all.1 i.least (sym c.has_ended.ensures ∙ c.if-not-has_ended.true)

pub returns-clause-ok : goal.returns-clause-ok
returns-clause-ok c =
    let i = c.loop-rest.invariant in
    let none : drop c.loop-rest.line (lines_of c.args.bytes.now) ≡ [] = i.left ∙ lines-none c.loop-rest.rest.now (sym c.is_empty.ensures ∙ c.loop-rest-test.false) in
    let all = all-taken (lines_of c.args.bytes.now) c.loop-rest.line c.loop-rest.draft none i.within i.declared in
    record { declared = all.1; faultless = faultless-end (lines_of c.args.bytes.now) c.loop-rest.line c.loop-rest.draft all.0 all.1 i.least (sym c.has_ended.ensures ∙ c.if-not-has_ended.false); ended = sym c.has_ended.ensures ∙ c.if-not-has_ended.false }
