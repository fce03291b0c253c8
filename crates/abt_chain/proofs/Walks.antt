-- The links that counted calls walk.
use Rattle.std.proofs.Common.{◌≡◌, ◌≤◌, ◌+◌, inl, inr, ℕ, zero, suc, ap, arith}
use Rattle.abt_chain.specs.Links.{Walk, IsCounted, Calls, CallsWalkFewLinks}

same-le : (before after : Walk) → after ≡ before → after.walked + after.owed ≤ before.walked + before.owed
same-le before after same = let w = ap (λ x. x.walked) same in let o = ap (λ x. x.owed) same in omega arith

counted-le : (before after : Walk) → IsCounted before after → after.walked + after.owed ≤ before.walked + before.owed + 1
counted-le before after (inl rises) = omega arith
counted-le before after (inr same) = let le = same-le before after same in omega arith

-- the links walked and owed rise together by at most the number of calls
calls-le : (m : ℕ) (before after : Walk) → Calls m before after → after.walked + after.owed ≤ before.walked + before.owed + m
calls-le zero before after same = let le = same-le before after same in omega arith
calls-le (suc m) before after (between, one, others) =
    let first = counted-le before between one in let later = calls-le m between after others in omega arith

pub calls-walk-few-links : CallsWalkFewLinks
calls-walk-few-links m before after none calls = let both = calls-le m before after calls in omega arith
