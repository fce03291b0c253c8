use Rattle.std.proofs.Common.{◌≡◌, ℕ, List, Bool, true, false, refl, sym}
use Rattle.std.specs.Str.{is_utf8, IsUtf8}
use Rattle.std.proofs.lemmas.Str.{is_utf8-from_IsUtf8, IsUtf8-from_is_utf8}
use Rattle.abt_workload.proofs.text.bytes_are_utf8.Goals as goal

not-utf8 : (bs : List ℕ) → (IsUtf8 bs → ⊥) → false ≡ is_utf8 bs
not-utf8 bs none = go (is_utf8 bs) refl
  where
    go : (b : Bool) → is_utf8 bs ≡ b → false ≡ is_utf8 bs
    go true e = absurd (none (IsUtf8-from_is_utf8 bs e))
    go false e = sym e

pub returns-in-Ok : goal.returns-in-Ok
returns-in-Ok c = sym (is_utf8-from_IsUtf8 c.args.line.now c.in-Ok.ensures.cases.1)

pub returns-in-Err : goal.returns-in-Err
returns-in-Err c = not-utf8 c.args.line.now c.in-Err.ensures.cases.0
