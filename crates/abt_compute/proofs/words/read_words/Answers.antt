use Rattle.std.proofs.Common.{rules, ◌≡◌, ◌∷◌, None, subst, sym, map, string_bytes}
use Rattle.std.specs.Prelude.{MatchOption}
use Rattle.abt_compute.specs.Questions.{Asks, AsksNothing, question_of}
use Rattle.abt_compute.proofs.Asking.{no-streams}
use Rattle.abt_compute.proofs.words.read_words.Goals as goal

pub returns-in_err-streams : goal.returns-in_err-streams
returns-in_err-streams c =
    let none : AsksNothing (string_bytes c.in_ok-name.name.now ∷ map string_bytes c.in_ok-name.words.now) =
    no-streams (string_bytes c.in_ok-name.name.now) (map string_bytes c.in_ok-name.words.now) c.in_ok-kernel.kernel (search rules) (question_of c.in_ok-asked.asked) (map string_bytes c.in_ok-asked.words.now) c.in_ok-asked.ensures.0 c.in_ok-asked.ensures.1 (search rules) in
    let whole : (string_bytes c.in_ok-name.name.now ∷ map string_bytes c.in_ok-name.words.now) ≡ map string_bytes c.args.words.now = search rules in
    let gone : c.from_residual-in_err-streams.result ≡ None = search rules in
    record { asks = subst (λ r. MatchOption r (AsksNothing (map string_bytes c.args.words.now)) (λ found. Asks (map string_bytes c.args.words.now) (question_of found.0) found.1)) (sym gone) (subst AsksNothing whole none) }
