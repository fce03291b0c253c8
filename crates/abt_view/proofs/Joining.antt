-- Texts that grow piece by piece.
use Rattle.std.proofs.Common.{◌≡◌, ◌∙◌, ◌++◌, ap, append_assoc}
use Rattle.abt_machine.specs.Words.{Text}

-- by two pieces
pub two : (o a b r s : Text) → r ≡ o ++ a → s ≡ r ++ b → s ≡ o ++ (a ++ b)
two o a b r s first second = second ∙ (ap (λ x. x ++ b) first ∙ append_assoc o a b)

-- by three
pub three : (o a b c r s t : Text) → r ≡ o ++ a → s ≡ r ++ b → t ≡ s ++ c → t ≡ o ++ (a ++ (b ++ c))
three o a b c r s t first second third = two o a (b ++ c) r t first (two r b c s t second third)

-- by four
pub four : (o a b c d r s t u : Text) → r ≡ o ++ a → s ≡ r ++ b → t ≡ s ++ c → u ≡ t ++ d → u ≡ o ++ (a ++ (b ++ (c ++ d)))
four o a b c d r s t u first second third fourth = two o a (b ++ (c ++ d)) r u first (three r b c d s t u second third fourth)

-- by five
pub five : (o a b c d e r s t u v : Text) → r ≡ o ++ a → s ≡ r ++ b → t ≡ s ++ c → u ≡ t ++ d → v ≡ u ++ e → v ≡ o ++ (a ++ (b ++ (c ++ (d ++ e))))
five o a b c d e r s t u v first second third fourth fifth = two o a (b ++ (c ++ (d ++ e))) r v first (four r b c d e s t u v second third fourth fifth)

-- by six
pub six : (o a b c d e f r s t u v w : Text) → r ≡ o ++ a → s ≡ r ++ b → t ≡ s ++ c → u ≡ t ++ d → v ≡ u ++ e → w ≡ v ++ f → w ≡ o ++ (a ++ (b ++ (c ++ (d ++ (e ++ f)))))
six o a b c d e f r s t u v w first second third fourth fifth sixth = two o a (b ++ (c ++ (d ++ (e ++ f)))) r w first (five r b c d e f s t u v w second third fourth fifth sixth)
