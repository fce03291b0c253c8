-- Cutting a part in two.
use Rattle.std.proofs.Common.{◌≡◌, ◌≤◌, ◌+◌, ◌*◌, ◌++◌, List, [], reverse, length, ap, ◌∙◌, sym, arith}
use Rattle.std.proofs.lemmas.List.{length-append, length-reverse, reverse-reverse}
use Rattle.std.proofs.lemmas.Grind.{common_steps, reverse_onto}

pub ruleset halves = (common_steps, reverse_onto, length-append, length-reverse, reverse-reverse, arith)
