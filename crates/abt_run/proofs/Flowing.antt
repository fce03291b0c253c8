-- What the command `flow` prints of what was found.
use Rattle.std.proofs.Common.{◌≡◌, List, Option, None, codes, refl, sym, subst}
use Rattle.abt_machine.specs.declared.events.Event.{Event}
use Rattle.abt_machine.specs.declared.events.Piece.{Piece}
use Rattle.abt_machine.specs.declared.workload.Parts.{Parts}
use Rattle.abt_machine.specs.Words.{Text}
use Rattle.abt_flow.specs.declared.confluence.Violation.{Violation}
use Rattle.abt_flow.specs.Confluent.{Confluent}
use Rattle.abt_flow.specs.Flow.{Functions, IsFlow}
use Rattle.abt_flow.specs.Violations.{IsFirstViolation}
use Rattle.abt_words.specs.declared.commands.Command.TheVariants as command
use Rattle.abt_words.specs.Commands.{Says}
use Rattle.abt_run.specs.Given.{Given, IsReadFrom}
use Rattle.abt_run.specs.Printed.{Prints, ShowsFlow, violation_text}
use Rattle.abt_run.specs.declared.keeping.Keep.{Keep}
use Rattle.abt_run.specs.declared.status.Conclusion.{Conclusion}
use Rattle.abt_run.specs.declared.status.Conclusion.TheVariants.{Flows, NotConfluent, Undefined}

module _ (g : Given) (keep : Keep) (d : Conclusion) (answered : Option (List Event)) (printed : Text) where
  -- what a conclusion prints without a journal is printed
  told-as : (c : Conclusion) (text : Text) → d ≡ c → answered ≡ None → printed ≡ text → Prints g keep c None text → Prints g keep d answered printed
  told-as c text concludes none same prints =
      subst (λ (k : Conclusion). Prints g keep k answered printed) (sym concludes)
      (subst (λ (L : Option (List Event)). Prints g keep c L printed) (sym none) (subst (Prints g keep c None) (sym same) prints))

  -- a flow
  pub prints-flow : (W : Parts) (file text : Text) (R : Functions) (rows : List (List Piece)) → d ≡ Flows → answered ≡ None → printed ≡ text → Says g.words (command.Flow file)
      → IsReadFrom g file W → g.stored.returns ≡ R → Confluent W → IsFlow W R rows → ShowsFlow W rows text → Prints g keep d answered printed
  prints-flow W file text R rows concludes none same says reads returns confluent flow shows =
      told-as Flows text concludes none same (
        record {
          workload = W;
          asks = record { file = file; says = says; reads = reads };
          confluent = confluent;
          rows = rows;
          flow = subst (λ (S : Functions). IsFlow W S rows) (sym returns) flow;
          output = shows;
        },
        refl,
      )

  -- an operation by which the workload is not confluent
  pub prints-violation : (W : Parts) (file text : Text) (v : Violation) → d ≡ NotConfluent → answered ≡ None → printed ≡ text → Says g.words (command.Flow file) → IsReadFrom g file W
      → (Confluent W → ⊥) → IsFirstViolation W v → text ≡ violation_text W v → Prints g keep d answered printed
  prints-violation W file text v concludes none same says reads other first shows =
      told-as NotConfluent text concludes none same (
        record {
          workload = W;
          asks = record { file = file; says = says; reads = reads };
          other = other;
          violation = v;
          first = first;
          output = shows;
        },
        refl,
      )

  -- that there is no flow
  pub prints-no-flow : (W : Parts) (file text : Text) (R : Functions) → d ≡ Undefined → answered ≡ None → printed ≡ text → Says g.words (command.Flow file) → IsReadFrom g file W
      → g.stored.returns ≡ R → Confluent W → ((rows : List (List Piece)) → IsFlow W R rows → ⊥) → text ≡ codes "undefined\n" → Prints g keep d answered printed
  prints-no-flow W file text R concludes none same says reads returns confluent never shows =
      told-as Undefined text concludes none same (
        record {
          workload = W;
          asks = record { file = file; says = says; reads = reads };
          confluent = confluent;
          none = subst (λ (S : Functions). (rows : List (List Piece)) → IsFlow W S rows → ⊥) (sym returns) never;
        },
        shows,
        refl,
      )
