-- Laws of histories.
use Rattle.std.proofs.Common.{◌≡◌, ℕ, ◌+◌, ◌<◌, ◌≤◌, List, [], ◌∷◌, ◌++◌, length, cond, ne_eqb, refl, sym, ap, ◌∙◌, subst, arith}
use Rattle.std.proofs.lemmas.List.{append_assoc, append-nil}
use Rattle.std.proofs.lemmas.List.Elements.{filter-append}
use Rattle.std.specs.Prelude.{◌==◌}
use Rattle.abt_interleave.specs.declared.entries.Entry.{Entry}
use Rattle.abt_interleave.specs.Histories.{calls_of, last_from, RisesAbove, Extends, Leads, entry_stamps}
use Rattle.abt_booth.specs.declared.made.Call.{Call}
use Rattle.abt_booth.specs.Rule.{entry_of, entries_of}

module _ {A R : Type 0} where
  -- one more call, at a greater stamp
  pub rises-more : (s : ℕ) (h : List (Entry A R)) (e : Entry A R) → RisesAbove s (entry_stamps h) → last_from s (entry_stamps h) < e.stamp → RisesAbove s (entry_stamps (h ++ e ∷ []))
  rises-more s [] e r l = (l, tt)
  rises-more s (x ∷ xs) e r l = (r.0, rises-more x.stamp xs e r.1 l)

  -- the last stamp is that of the last call
  pub last-more : (s : ℕ) (h : List (Entry A R)) (e : Entry A R) → last_from s (entry_stamps (h ++ e ∷ [])) ≡ e.stamp
  last-more s [] e = refl
  last-more s (x ∷ xs) e = last-more x.stamp xs e

  -- there are at most as many calls as the last stamp says
  pub length-below : (s : ℕ) (h : List (Entry A R)) → RisesAbove s (entry_stamps h) → s + length h ≤ last_from s (entry_stamps h)
  length-below s [] r = omega arith
  length-below s (x ∷ xs) r = let l = length-below x.stamp xs r.1 in let m = r.0 in omega arith

  -- calls of another seat are no calls of this one
  calls-others : (k n : ℕ) (calls : List (Call A R)) → ¬ (n ≡ k) → calls_of k (entries_of n calls) ≡ []
  calls-others k n [] ne = refl
  calls-others k n (x ∷ xs) ne = ap (λ b. cond b (entry_of n x ∷ calls_of k (entries_of n xs)) (calls_of k (entries_of n xs))) (ne_eqb n k ne) ∙ calls-others k n xs ne

  -- calls of another seat extend what this one had seen
  pub extends-others : (k n : ℕ) (l h : List (Entry A R)) (calls : List (Call A R)) → ¬ (n ≡ k) → Extends k l h → Extends k l (h ++ entries_of n calls)
  extends-others k n l h calls ne x =
      let es = entries_of n calls in (
        (x.0.0 ++ es, sym (append_assoc l x.0.0 es) ∙ ap (λ (y : List (Entry A R)). y ++ es) x.0.1),
        filter-append (λ (e : Entry A R). e.caller == k) h es ∙ (ap (λ (y : List (Entry A R)). calls_of k h ++ y) (calls-others k n calls ne) ∙ (append-nil (calls_of k h) ∙ x.1)),
      )

module _ {O A R : Type 0} (does : O → A → R → O → Type 0) where
  -- one more act
  pub leads-more : (o : O) (h : List (Entry A R)) (o' : O) (e : Entry A R) (o'' : O) → Leads does o h o' → does o' e.act e.answer o'' → Leads does o (h ++ e ∷ []) o''
  leads-more o [] o' e o'' l d = (o'', subst (λ (x : O). does x e.act e.answer o'') (sym l) d, refl)
  leads-more o (x ∷ xs) o' e o'' l d = (l.0, l.1, leads-more l.0 xs o' e o'' l.2 d)

  -- what may be asked of the first object may be asked of each later one
  pub allowed-after : (allowed : O → A → Type 0) → ((b : O) (a : A) (r : R) (c : O) (x : A) → does b a r c → allowed b x → allowed c x)
      → (o : O) (h : List (Entry A R)) (o' : O) (x : A) → Leads does o h o' → allowed o x → allowed o' x
  allowed-after allowed keeps o [] o' x l ok = subst (λ (z : O). allowed z x) l ok
  allowed-after allowed keeps o (e ∷ es) o' x l ok = allowed-after allowed keeps l.0 es o' x l.2 (keeps o e.act e.answer l.0 x l.1 ok)
