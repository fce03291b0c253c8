use Rattle.std.proofs.Common.{◌∙◌, ap, inl, map, refl, rules, string_bytes, subst}
use Rattle.abt_shell.specs.More.{more_text, usage_text}
use Rattle.abt_shell.specs.Status.{number_of_stop}
use Rattle.abt_shell.proofs.Calls.{adds-known, concluded, if-some, missing-ends, not-stopped, refused-words, stopped, stopped-by}
use Rattle.abt_compute.specs.Program.{IsNamed, usage}
use Rattle.abt_compute.specs.Questions.{Names, question_of}
use Rattle.abt_compute.proofs.Asking.{one-question}
use Rattle.abt_compute.proofs.Ended.{answered, refused}
use Rattle.abt_compute.proofs.Stopping.{prevented-stops}
use Rattle.abt_compute.proofs.Within.{streams-within, within}
use Rattle.abt_compute.proofs.program.compute.Goals as goal

pub answer-requires : goal.answer-requires
answer-requires g c =
    (search rules, (within _ (question_of c.in-Some.asked) c.in-Some.streams c.in-Some.ensures.asks, streams-within _ (question_of c.in-Some.asked) c.in-Some.streams c.in-Some.ensures.asks))

pub returns-in-None : goal.returns-in-None
returns-in-None g c = λ file_of agree.
    refused _ _ c.in-None.ensures.asks c.requires (c.number.ensures ∙ ap number_of_stop (c.stop_by.ensures.words refl))
    (refused-words _ _ c.stop_by.result (usage_text usage) _ (c.in-None.ensures.asks, c.requires) refl c.number.ensures (search rules) c.stop_by.ensures.told (c.stop_by.ensures.words refl)) refl

pub returns-in-Ok : goal.returns-in-Ok
returns-in-Ok g c = λ file_of agree.
    answered _ _ (question_of c.in-Some.asked) c.in-Some.streams c.in-Some.ensures.asks (concluded _ _ tt c.in-Ok.text.items 0 _ (inl
    (record { question = question_of c.in-Some.asked; streams = c.in-Some.streams; asks = c.in-Some.ensures.asks; is = c.in-Ok.ensures.done file_of agree })) refl
    (rw c.deref.ensures.value at c.write_out.ensures))
    (λ q streams file asks named gone. absurd (c.in-Ok.ensures.absent file (subst (λ u. Names u file) (one-question _ q (question_of c.in-Some.asked) streams c.in-Some.streams asks c.in-Some.ensures.asks) named) gone))
    (λ fault. absurd (not-stopped _ _ (c.in-Ok.ensures.faulty fault)))

pub returns-in-Err : goal.returns-in-Err
returns-in-Err g c = λ file_of agree.
    answered _ _ (question_of c.in-Some.asked) c.in-Some.streams c.in-Some.ensures.asks (stopped _ _ c.in-Err.stop c.stop_by-in-Err.result (more_text c.more_of-more.result) _ (
      prevented-stops _ _
          (question_of c.in-Some.asked) c.in-Some.streams c.in-Some.ensures.asks c.in-Err.stop _ (c.in-Err.ensures.stop file_of agree),
      c.requires,
    ) (tt, c.requires)
    (adds-known usage _ (IsNamed (map string_bytes c.args.words.now)) _ c.fault.result c.in-Err.stop _ refl
    (λ stops. if-some _ (Names (question_of c.in-Some.asked)) (IsNamed (map string_bytes c.args.words.now)) (λ file its. record { question = question_of c.in-Some.asked; streams = c.in-Some.streams; asks = c.in-Some.ensures.asks; is = its }) (c.in-Err.ensures.named stops))
    c.fault.ensures c.more_of-more.ensures) refl c.number-in-Err.ensures (search rules) c.stop_by-in-Err.ensures.told)
    (λ q streams file asks named gone. missing-ends _ c.in-Err.stop c.stop_by-in-Err.result (c.in-Err.ensures.absent file (subst (λ u. Names u file) (one-question _ q (question_of c.in-Some.asked) streams c.in-Some.streams asks c.in-Some.ensures.asks) named) gone) c.number-in-Err.ensures c.stop_by-in-Err.ensures.same)
    (λ fault. missing-ends _ c.in-Err.stop c.stop_by-in-Err.result (inl (stopped-by _ _ (c.in-Err.ensures.faulty fault))) c.number-in-Err.ensures c.stop_by-in-Err.ensures.same)
