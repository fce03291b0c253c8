use Rattle.std.proofs.Common.{rules, ◌<◌, ◌≤◌, length, inl, inr, refl}
use Rattle.abt_source.proofs.Seen.{agree-first, agree-then}
use Rattle.abt_compute.specs.Files.{text_limit}
use Rattle.abt_compute.proofs.Fetching.{has-whole, is-long}
use Rattle.abt_compute.proofs.texts.two_texts.Goals as goal
use Rattle.abt_compute.proofs.texts.two_texts.Goals.{then-len-gt-TEXT_LIMIT-via-then-len-gt-TEXT_LIMIT, then-len-gt-TEXT_LIMIT-via-else-len-gt-TEXT_LIMIT+then-len-gt-TEXT_LIMIT-2}

pub returns-then-len-gt-TEXT_LIMIT-clause-stop : goal.returns-then-len-gt-TEXT_LIMIT-clause-stop
returns-then-len-gt-TEXT_LIMIT-clause-stop g c = λ file_of agree. elim c.then-len-gt-TEXT_LIMIT.branch [
  | then-len-gt-TEXT_LIMIT-via-then-len-gt-TEXT_LIMIT w ↦
      let long : text_limit < length c.in_ok-one.one.items = search rules in
      let first = agree-first _ _ _ file_of c.in_ok-one.ensures.grows c.in_ok-other.ensures.grows agree in
      inl (is-long text_limit _ c.in_ok-one.one.items (c.in_ok-one.ensures.bytes file_of first) long _ (refl, refl))
  | then-len-gt-TEXT_LIMIT-via-else-len-gt-TEXT_LIMIT+then-len-gt-TEXT_LIMIT-2 w ↦
      let long : text_limit < length c.in_ok-other.other.items = search rules in
      let then = agree-then _ _ _ file_of c.in_ok-one.ensures.grows c.in_ok-other.ensures.grows agree in
      inr (is-long text_limit _ c.in_ok-other.other.items (c.in_ok-other.ensures.bytes file_of then) long _ (refl, refl))
]

pub returns-clause-first : goal.returns-clause-first
returns-clause-first g c = λ file_of agree.
    let short : length c.in_ok-one.one.items ≤ text_limit = search rules in
    let first = agree-first _ _ _ file_of c.in_ok-one.ensures.grows c.in_ok-other.ensures.grows agree in
    has-whole text_limit _ c.in_ok-one.one.items (c.in_ok-one.ensures.bytes file_of first) short

pub returns-clause-second : goal.returns-clause-second
returns-clause-second g c = λ file_of agree.
    let short : length c.in_ok-other.other.items ≤ text_limit = search rules in
    let then = agree-then _ _ _ file_of c.in_ok-one.ensures.grows c.in_ok-other.ensures.grows agree in
    has-whole text_limit _ c.in_ok-other.other.items (c.in_ok-other.ensures.bytes file_of then) short
