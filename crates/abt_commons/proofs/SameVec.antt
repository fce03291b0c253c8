-- A Vec in which an item was set to itself is the same Vec.
use Rattle.std.proofs.Common.{◌≡◌, ℕ, List, set, length, get_or, sym, ◌∙◌, ap, subst, length-set}
use Rattle.std.proofs.Math.Nat.{ℕ_set}
use Rattle.std.proofs.lemmas.List.{set-get_or}
use Rattle.std.specs.Global.{Vec}
use Rattle.std.specs.Vec.{with_item}

module _ {X : Type 0} (v : Vec X) where
  -- whatever proves that it has as many items as it says
  same-items : (items : List X) → v.items ≡ items → (many : v.len ≡ length items) → record v { items = items; ok = (many, v.ok.1) } ≡ v
  same-items items is = subst (λ us. (many : v.len ≡ length us) → record v { items = us; ok = (many, v.ok.1) } ≡ v) is (λ many i. record v { ok = (ℕ_set _ _ many v.ok.0 i, v.ok.1) })

  pub same-vec : (i : ℕ) (old new : X) → old ≡ get_or v.items i old → new ≡ old → with_item v i new ≡ v
  same-vec i old new here same =
      same-items (set v.items i new) (sym (ap (set v.items i) (same ∙ here) ∙ set-get_or v.items i old)) (v.ok.0 ∙ sym (length-set v.items i new))
