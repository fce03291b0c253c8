-- An error that `?` passes on.
use Rattle.std.proofs.Common.{◌≡◌, ◌∙◌, ap, sym}
use Rattle.std.specs.Prelude.{IsErrAnd, Result, Ok, Err}
use Rattle.abt_words.specs.declared.fault.WordFault.{WordFault}

err-is : {T : Type 0} (a b : WordFault) → ◌≡◌ {A = Result T WordFault} (Err a) (Err b) → a ≡ b
err-is a b e = cc

pub passed-on : {S T : Type 0} (r : Result T WordFault) (e b : WordFault) → IsErrAnd r (λ y. y ≡ e) → r ≡ Err b → ◌≡◌ {A = Result S WordFault} (Err e) (Err b)
passed-on (Err y) e b same is = ap (λ (f : WordFault). Err f) (sym same ∙ err-is y b is)
passed-on (Ok x) e b same is = absurd same
