use Rattle.std.proofs.Common.{arith, ◌+◌, ◌∷◌, ◌++◌, [], refl, ap, ◌∙◌}
use Rattle.std.proofs.lemmas.List.{map-append}
use Rattle.abt_booth.specs.Rule.{entry_of, entries_of}
use Rattle.abt_booth.proofs.calls.answer.Goals as goal

pub returns-then-greater-eq-LAST_STAMP : goal.returns-then-greater-eq-LAST_STAMP
returns-then-greater-eq-LAST_STAMP g c = record { same = refl; returned = refl; worn = omega (arith, c.if-greater-eq-LAST_STAMP.true, c.max-greater.ensures) }

pub returns : goal.returns
returns g c =
    let stamp = c.max-greater.result + 1 in record {
      done = c.run-answer.ensures;
      stamped = omega (arith, c.max-greater.ensures);
      capped = omega (arith, c.if-greater-eq-LAST_STAMP.false, c.requires.at, c.requires.clock, c.max-greater.ensures);
      clock = refl;
      noted = λ number. ap (entries_of number) c.one_more.ensures
          ∙ (map-append (entry_of number) c.replace-before.result.value (record { stamp = stamp; act = c.of-asked.result; answer = c.of.result } ∷ [])
          ∙ (λ i. entries_of number (c.replace-before.ensures.value i).value ++ record { stamp = stamp; caller = number; act = c.of-asked.ensures i; answer = c.of.ensures i } ∷ []));
    }
