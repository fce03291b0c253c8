-- One stream more.
use Rattle.std.proofs.Common.{rules, ◌≡◌, true, ◌∷◌, ◌++◌, [], List, length, sym, ◌∙◌, ap, subst, arith}
use Rattle.std.specs.Vec.Iter.{into_iter_items}
use Rattle.std.proofs.lemmas.List.{append_assoc}
use Rattle.abt_machine.specs.declared.events.Event.{Event}
use Rattle.abt_stream.specs.Streams.{StreamValue}
use Rattle.abt_drain.specs.Ends.{HaveLeft, logs_kept}
use Rattle.abt_drain.proofs.Closing.{left-push}
use Rattle.abt_drain.proofs.Kept.{keeps-middle, logs-push}
use Rattle.abt_drain.proofs.streams.split_logs.Goals as goal

pub split_log-requires : goal.split_log-requires
split_log-requires c =
    let at = c.streams in
    let stream = c.in-Some.stream in
    let left = into_iter_items c.next.new.self in
    let is : into_iter_items at.stream-iterator ≡ stream ∷ left = c.in-Some.ensures.steps.0 in
    let done = at.invariant.split.done in
    let whole : into_iter_items c.into_iter-stream-iterator.result ≡ c.args.streams.items = search rules in
    let all : done ++ stream ∷ left ≡ c.args.streams.items = ap (λ (xs : List StreamValue). done ++ xs) (sym is) ∙ (at.invariant.split.all ∙ whole) in
    λ e. keeps-middle true c.args.streams.items done stream left all (c.requires e)

pub streams-preserved : goal.streams-preserved
streams-preserved c =
    let at = c.streams in
    let stream = c.in-Some.stream in
    let left = into_iter_items c.next.new.self in
    let is : into_iter_items at.stream-iterator ≡ stream ∷ left = c.in-Some.ensures.steps.0 in
    let done = at.invariant.split.done in
    record {
      next = tt;
      finite = tt;
      split = record {
        done = done ++ stream ∷ [];
        all = append_assoc done (stream ∷ []) left ∙ (ap (λ (xs : List StreamValue). done ++ xs) (sym is) ∙ at.invariant.split.all);
        logs_are = c.in_ok-parts.ensures.logs ∙ (ap (λ (logs : List (List Event)). logs ++ logs_kept c.args.keeps (stream.log ∷ [])) at.invariant.split.logs_are ∙ logs-push c.args.keeps done stream);
        have = subst (HaveLeft (done ++ stream ∷ [])) (sym c.in_ok-push.ensures.items) (left-push done at.rest.items stream c.in_ok-parts.parts at.invariant.split.have c.in_ok-parts.ensures.parts);
      };
      left = (let were = at.invariant.left in let gone = c.in-Some.ensures.steps.1 in let fewer = ap (λ (ps : List StreamValue). length ps) is in omega (arith, were, gone, fewer));
    }
