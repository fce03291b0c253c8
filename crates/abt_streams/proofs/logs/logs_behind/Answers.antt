-- One log more.
use Rattle.std.proofs.Common.{◌≡◌, ◌∙◌, ◌+◌, ◌<◌, ◌++◌, [], ◌∷◌, suc, List, length, drop, take, get_or, ap, sym, arith}
use Rattle.abt_machine.specs.declared.events.Event.{Event}
use Rattle.abt_streams.specs.Cutting.{behind}
use Rattle.abt_streams.proofs.Behind.{behind-more}
use Rattle.abt_streams.proofs.logs.logs_behind.Goals as goal

pub loop-s-preserved : goal.loop-s-preserved
loop-s-preserved c =
    let streams = c.args.streams.now in
    let ns = c.args.lengths.now in
    let s = c.loop-s.s in
    let next : s + 1 ≡ suc s = omega arith in
    let lt : s < length streams = omega (arith, c.loop-s-test.true) in
    let log : c.in_ok-log_behind.field-0 ≡ drop (get_or ns s 0) c.index-streams-s.result.log = c.in_ok-log_behind.ensures ∙ ap (λ (log : List Event). drop (get_or ns s 0) log) c.kept_log.ensures in
    record {
      logs = c.in_ok-push.ensures.items ∙ (ap (λ (logs : List (List Event)). logs ++ c.in_ok-log_behind.field-0 ∷ []) c.loop-s.invariant.logs
          ∙ (ap (λ (log : List Event). behind (take s streams) (take s ns) ++ log ∷ []) log ∙ sym (behind-more streams ns s (s + 1) c.index-streams-s.result next lt c.requires.lengths c.index-streams-s.is)));
      end = c.loop-s.invariant.end;
    }
