-- What a call adds to what its seat had seen.
use Rattle.std.proofs.Common.{◌≡◌, ℕ, List, [], ◌∷◌, ◌++◌, cond, eq-eqb, refl, sym, ap, ◌∙◌}
use Rattle.std.proofs.lemmas.List.{append_assoc, append-nil}
use Rattle.std.proofs.lemmas.List.Elements.{filter-append}
use Rattle.std.specs.Prelude.{◌==◌}
use Rattle.abt_interleave.specs.declared.entries.Entry.{Entry}
use Rattle.abt_interleave.specs.Histories.{calls_of, Extends}
use Rattle.abt_interleave.proofs.Prefixes.{extends-then, prefix-then}
use Rattle.abt_booth.specs.declared.booth.Called.{Called}
use Rattle.abt_booth.specs.declared.booth.Called.TheVariants as called
use Rattle.abt_booth.specs.Calls.{IsAnswered, IsWorn, GrowsBy}
use Rattle.abt_booth.specs.Seats.{added_by, IsReply}

module _ {O A R : Type 0} (does : O → A → R → O → Type 0) (opening : O) (number : ℕ) (before after : List (Entry A R)) (at : ℕ) (act : A) where
  -- the seat's calls are those before it, and this one
  pub calls-answered : (stamp : ℕ) (answer : R) → IsAnswered does opening number before after at act stamp answer
      → calls_of number after ≡ calls_of number before ++ record { stamp = stamp; caller = number; act = act; answer = answer } ∷ []
  calls-answered stamp answer a =
      let e : Entry A R = record { stamp = stamp; caller = number; act = act; answer = answer } in
      ap (calls_of number) a.entered ∙ (filter-append (λ (x : Entry A R). x.caller == number) a.met (e ∷ []) ∙ ((λ i. a.extends.1 i ++ cond (eq-eqb number number refl i) (e ∷ []) [])))

  -- an answered call adds itself
  pub grows-answered : (stamp : ℕ) (answer : R) → IsAnswered does opening number before after at act stamp answer → GrowsBy number before after (record { stamp = stamp; caller = number; act = act; answer = answer } ∷ [])
  grows-answered stamp answer a =
      let e : Entry A R = record { stamp = stamp; caller = number; act = act; answer = answer } in
      let p = a.extends.0 in record {
        prefix = (p.0 ++ e ∷ [], sym (append_assoc before p.0 (e ∷ [])) ∙ (ap (λ (l : List (Entry A R)). l ++ e ∷ []) p.1 ∙ sym a.entered));
        calls = calls-answered stamp answer a;
      }

  -- a call that found the clock worn adds nothing
  pub grows-worn : (back : A) → IsWorn does opening number before after at act back → GrowsBy number before after []
  grows-worn back w = record { prefix = w.extends.0; calls = w.extends.1 ∙ sym (append-nil (calls_of number before)) }

module _ {O A R : Type 0} (does : O → A → R → O → Type 0) (opening : O) (number : ℕ) where
  -- what a call adds to the seat's calls is what it answered
  pub grows-reply : (before after : List (Entry A R)) (at : ℕ) (act : A) (reply : Called O A R) → IsReply does opening number before after at act reply → GrowsBy number before after (added_by number act reply)
  grows-reply before after at act (called.Done stamp answer) a = grows-answered does opening number before after at act stamp answer a
  grows-reply before after at act (called.Worn back) w = grows-worn does opening number before after at act back w

  -- a seat that had seen less was answered the same
  pub reply-earlier : (seen before after : List (Entry A R)) (at : ℕ) (act : A) (reply : Called O A R) → Extends number seen before → IsReply does opening number before after at act reply → IsReply does opening number seen after at act reply
  reply-earlier seen before after at act (called.Done stamp answer) x a = record {
    met = a.met;
    left = a.left;
    extends = extends-then number seen before a.met x a.extends;
    entered = a.entered;
    legal = a.legal;
    stamped = a.stamped;
    capped = a.capped;
  }
  reply-earlier seen before after at act (called.Worn back) x w = record { left = w.left; returned = w.returned; extends = extends-then number seen before after x w.extends; legal = w.legal; worn = w.worn }

  -- so what its calls grew by is the same
  pub grows-earlier : (seen before after added : List (Entry A R)) → Extends number seen before → GrowsBy number before after added → GrowsBy number seen after added
  grows-earlier seen before after added x g = record { prefix = prefix-then seen before after x.0 g.prefix; calls = g.calls ∙ ap (λ (l : List (Entry A R)). l ++ added) x.1 }
