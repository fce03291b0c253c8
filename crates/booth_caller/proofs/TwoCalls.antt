-- What a tray answers to two calls of which one stands behind the other.
use Rattle.std.proofs.Common.{◌≡◌, ℕ, List, [], ◌∷◌, ◌++◌, Box, Some, None, Option, sym, ap, subst, ◌∙◌}
use Rattle.std.specs.declared.alloc.Global.{Global}
use Rattle.abt_interleave.specs.declared.entries.Entry.{Entry}
use Rattle.abt_interleave.specs.Histories.{Extends, Leads}
use Rattle.abt_booth.specs.declared.booth.Booth.{Booth}
use Rattle.abt_booth.specs.declared.booth.Called.{Called}
use Rattle.abt_booth.specs.declared.booth.Called.TheVariants as called
use Rattle.abt_booth.specs.Seats.{added_by, opening_of, IsReply}
use Rattle.abt_booth.proofs.Answered.{reply-earlier}
use Rattle.booth_caller.specs.declared.letters.Letter.{Letter}
use Rattle.booth_caller.specs.declared.letters.Tray.{Tray}
use Rattle.booth_caller.specs.declared.letters.Ask.{Ask}
use Rattle.booth_caller.specs.declared.letters.Ask.TheVariants as ask
use Rattle.booth_caller.specs.declared.letters.Reply.{Reply}
use Rattle.booth_caller.specs.declared.letters.Reply.TheVariants as reply
use Rattle.booth_caller.specs.Trays.{TrayAnswers, Does}
use Rattle.booth_caller.specs.Turns.{ComesOut, GoesThrough}

-- the last two calls of a history, with the object between them
last-two : {O A R : Type 0} (does : O → A → R → O → Type 0) (o q : O) (h : List (Entry A R)) (a b : Entry A R) → Leads does o ((h ++ a ∷ []) ++ b ∷ []) q
    → (x : O) × (y : O) × (z : O) × does x a.act a.answer y × does y b.act b.answer z
last-two does o q [] a b l = (o, l.0, l.2.0, l.1, l.2.1)
last-two does o q (x ∷ xs) a b l = last-two does l.0 q xs a b l.2

-- a letter that was stored is in the tray
stored : (letter : Box Letter Global) (old new : Option (Box Letter Global)) → TrayAnswers old (ask.Put letter) reply.Stored new → new ≡ Some letter
stored letter None new t = t.1
stored letter (Some other) new t = absurd (let e = t.0 in cc)

-- so it comes out of the next call
pub comes-out : (opening : Tray) (number : ℕ) (before between after : List (Entry Ask Reply)) (letter : Box Letter Global) (put taken : Called Tray Ask Reply)
    → IsReply Does opening number before between 0 (ask.Put letter) put → IsReply Does opening number between after 0 ask.Take taken → after ≡ between ++ added_by number ask.Take taken → ComesOut letter put taken
comes-out opening number before between after letter (called.Done stamp reply.Stored) (called.Done stamp' answer) p t next =
    let E = Entry Ask Reply in
    let a : E = record { stamp = stamp; caller = number; act = ask.Put letter; answer = reply.Stored } in
    let b : E = record { stamp = stamp'; caller = number; act = ask.Take; answer = answer } in
    let whole = subst (λ (h : List E). Leads Does opening h t.left) (next ∙ ap (λ (h : List E). h ++ b ∷ []) p.entered) t.legal.1 in
    let two = last-two Does opening t.left p.met a b whole in
    let there = stored letter two.0.letter two.1.letter two.3 in
    (subst (λ (l : Option (Box Letter Global)). TrayAnswers l ask.Take answer two.2.letter) there two.4).0
comes-out opening number before between after letter (called.Done stamp reply.Stored) (called.Worn back) p t next = tt
comes-out opening number before between after letter (called.Done stamp (reply.Full back)) taken p t next = tt
comes-out opening number before between after letter (called.Done stamp (reply.Given other)) taken p t next = tt
comes-out opening number before between after letter (called.Done stamp reply.Empty) taken p t next = tt
comes-out opening number before between after letter (called.Worn back) taken p t next = tt

-- the two calls of a holder that had seen less before it took the turn
pub goes-through : (booth : Booth Tray Ask Reply) (n n' : ℕ) (before met between last after : List (Entry Ask Reply)) (letter : Box Letter Global) (put taken : Called Tray Ask Reply)
    → n' ≡ n → Extends n before met → IsReply Does (opening_of booth) n' met between 0 (ask.Put letter) put → IsReply Does (opening_of booth) n' between last 0 ask.Take taken
    → last ≡ between ++ added_by n' ask.Take taken → after ≡ last → GoesThrough booth n before after letter put taken
goes-through booth n n' before met between last after letter put taken same x p t next is =
    let E = Entry Ask Reply in
    let o = opening_of booth in
    let p' = subst (λ (k : ℕ). IsReply Does o k met between 0 (ask.Put letter) put) same p in
    let t' = subst (λ (z : ℕ × List E). IsReply Does o z.0 between z.1 0 ask.Take taken) (λ i. (same i, sym is i)) t in
    let next' = is ∙ (next ∙ ap (λ (k : ℕ). between ++ added_by k ask.Take taken) same) in record {
      between = between;
      put_reply = reply-earlier Does o n before met between 0 (ask.Put letter) put x p';
      taken_reply = t';
      next = next';
      out = comes-out o n met between after letter put taken p' t' next';
    }
