-- Lists by number.
use Rattle.std.proofs.Common.{◌≡◌, ◌≢◌, ◌∙◌, ℕ, ◌+◌, ◌<◌, List, [], ◌∷◌, ◌++◌, Result, Ok, Some, ap, arith, get_or, get_or-set_same, inl, inr, length, refl, slice_set, subst, sym}
use Rattle.std.proofs.lemmas.Bool.{cases_lt}
use Rattle.std.proofs.lemmas.List.{get_or-set_other, get_or_append_left, get_or_push, length-set, length_push}
use Rattle.std.proofs.lemmas.Option.{get_or_from_slice_get, slice_get-get_or}
use Rattle.abt_model.specs.Lists.{AreMade, AreNumbered}

module _ {A : Type 0} (item : ℕ → A) where
  -- what stands at a number
  pub numbered-at : (n k : ℕ) (xs : List A) (d : A) → AreNumbered n item xs → k < n → get_or xs k d ≡ item k
  numbered-at n k xs d h l = get_or_from_slice_get xs k (item k) d (h.own k l)

  -- another item in its place
  pub numbered-set : (n s : ℕ) (xs : List A) (x : A) (other : ℕ → A) → AreNumbered n item xs → s < n → x ≡ other s → ((k : ℕ) → k ≢ s → other k ≡ item k) → AreNumbered n other (slice_set xs s x)
  numbered-set n s xs x other h within is others =
      let many : length xs ≡ n = h.many in
      let long : length (slice_set xs s x) ≡ length xs = length-set xs s x in
      let here : s < length xs = omega arith in
      let same : (k : ℕ) → k ≡ s → get_or (slice_set xs s x) k x ≡ other k = λ k e. rw e (get_or-set_same xs s x x here ∙ is) in
      let differ : (k : ℕ) → k < n → k ≢ s → get_or (slice_set xs s x) k x ≡ other k = λ k l d. get_or-set_other xs s k x x d ∙ (numbered-at n k xs x h l ∙ sym (others k d)) in
      record {
        many = long ∙ many;
        own = λ k l.
            slice_get-get_or (slice_set xs s x) k x (omega arith) ∙ ap (λ y. Some y) (elim (cases_lt k s) [
              | inl below ↦ differ k l (λ e. omega arith)
              | inr above ↦ elim (cases_lt s k) [
                | inl over ↦ differ k l (λ e. omega arith)
                | inr under ↦ same k (omega arith)
              ]
            ]);
      }

module _ {A E : Type 0} (makes : ℕ → Result A E → Type 0) where
  pub made-none : AreMade makes 0 []
  made-none = record { many = refl; own = λ k l. absurd (omega arith) }

  -- one item more
  pub made-push : (n : ℕ) (xs ys : List A) (x : A) → ys ≡ xs ++ x ∷ [] → AreMade makes n xs → makes n (Ok x) → AreMade makes (n + 1) ys
  made-push n xs ys x e h is =
      let more : length (xs ++ x ∷ []) ≡ length xs + 1 = length_push xs x in
      let many : length xs ≡ n = h.many in
      rw e (record {
        many = omega arith;
        own = λ k l. elim (cases_lt k n) [
          | inl below ↦
              let old = h.own k below in
              (old.0, slice_get-get_or (xs ++ x ∷ []) k x (omega arith) ∙ ap (λ y. Some y) (get_or_append_left xs (x ∷ []) x k (omega arith) ∙ get_or_from_slice_get xs k old.0 x old.1), old.2)
          | inr above ↦
              let there : n ≡ k = omega arith in
              (x, slice_get-get_or (xs ++ x ∷ []) k x (omega arith) ∙ ap (λ y. Some y) (get_or_push xs x x k (many ∙ there)), subst (λ j. makes j (Ok x)) there is)
        ];
      })

  -- items that can only be made so
  pub made-numbered : (item : ℕ → A) (m n : ℕ) (xs : List A) → m ≡ n → ((k : ℕ) (x : A) → makes k (Ok x) → x ≡ item k) → AreMade makes m xs → AreNumbered n item xs
  made-numbered item m n xs e so h = record {
    many = h.many ∙ e;
    own = λ k l. (let it = h.own k (subst (λ c. k < c) (sym e) l) in it.1 ∙ ap (λ y. Some y) (so k it.0 it.2));
  }
