use Rattle.std.proofs.Common.{◌≡◌, ◌∙◌, ap, subst}
use Rattle.abt_streams.specs.declared.life.Life.{Life}
use Rattle.abt_streams.specs.Lives.{MayFollow}
use Rattle.abt_streams.specs.Texts.{life_line}
use Rattle.abt_streams.proofs.Words.{short}
use Rattle.abt_streams.proofs.reading.read_life.Goals as goal

pub returns-in_default : goal.returns-in_default
returns-in_default c = λ life may is.
    let guessed = c.in_default.ensures life (short c.args.w.now c.args.before.now life c.known.ensures may) is in
    cc

pub returns-then-not-may_follow : goal.returns-then-not-may_follow
returns-then-not-may_follow c = λ life may is.
    let guessed = c.in-Some.ensures life (short c.args.w.now c.args.before.now life c.known.ensures may) is in
    let same : life ≡ c.in-Some.life = cc in
    let follows = c.may_follow.ensures.1 (subst (λ (l : Life). MayFollow c.args.w.now c.args.before.now l) same may) in
    cc

pub returns : goal.returns
returns c = λ life may is.
    let guessed = c.in-Some.ensures life (short c.args.w.now c.args.before.now life c.known.ensures may) is in
    let same : c.in-Some.life ≡ life = cc in
    let other = rw c.if-branch.false at c.in_ok-is_line_of.ensures in
    other (ap life_line same ∙ is)
