use Rattle.std.proofs.Common.{◌≡◌, ◌∙◌, ◌+◌, ◌*◌, ◌/◌, ◌%◌, ◌<◌, ℕ, [], ◌∷◌, ◌++◌, ap, append_assoc, arith, decimal, refl, sym}
use Rattle.std.proofs.lemmas.Fmt.{decimal_digit, decimal_step}
use Rattle.abt_machine.specs.Words.{Text}
use Rattle.abt_report.proofs.glances.number.Goals as goal

-- a digit behind the digits of a number
one-digit-more : (n d : ℕ) → 0 < n → n < 1000000000000000000 → d < 10 → decimal (n * 10 + d) ≡ decimal n ++ (48 + d) ∷ []
one-digit-more n d some short digit =
    let front : (n * 10 + d) / 10 ≡ n = omega arith in
    let last : (n * 10 + d) % 10 ≡ d = omega arith in
    rw (decimal_step (n * 10 + d) (omega arith) (omega arith), front, last) refl

-- a text that begins with a digit begins with its number
begins : (n byte : ℕ) (rest text : Text) → text ≡ byte ∷ rest → 48 + n ≡ byte → n < 10 → decimal n ++ rest ≡ text
begins n byte rest text at is digit = rw (decimal_digit n digit, is, at) refl

-- a text that begins with the digits of a number and one more begins with the number of them all
goes-on : (n d byte : ℕ) (rest more text : Text) → decimal n ++ rest ≡ text → rest ≡ byte ∷ more → 48 + d ≡ byte → 0 < n →
    n < 1000000000000000000 → d < 10 → decimal (n * 10 + d) ++ more ≡ text
goes-on n d byte rest more text before at is some short digit =
    let here : (48 + d) ∷ more ≡ rest = ap (λ (b : ℕ). b ∷ more) is ∙ sym at in
    ap (λ (front : Text). front ++ more) (one-digit-more n d some short digit) ∙
    (append_assoc (decimal n) ((48 + d) ∷ []) more ∙ (ap (λ (end : Text). decimal n ++ end) here ∙ before))

pub loop-byte-init : goal.loop-byte-init
loop-byte-init c =
    begins c.in_ok-n.n c.in_ok-first.first.now c.in_ok-first.rest.now c.args.text.now c.in_ok-first.ensures.cases.0 c.in_ok-n.ensures.0 c.in_ok-n.ensures.1

pub loop-byte-preserved : goal.loop-byte-preserved
loop-byte-preserved c =
    let other = c.if-n-eq0.false in
    let short = c.if-n-ge-LONG.false in
    goes-on c.loop-byte.n c.in-Some-digit.next c.in-Some.byte.now c.loop-byte.rest.now c.in-Some.more.now c.args.text.now c.loop-byte.invariant
    c.in-Some.ensures.cases.0 c.in-Some-digit.ensures.0 (omega (arith, other)) (omega (arith, short)) c.in-Some-digit.ensures.1
