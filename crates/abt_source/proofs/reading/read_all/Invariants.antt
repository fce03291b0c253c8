use Rattle.std.proofs.Common.{◌≡◌, ◌≤◌, ◌+◌, ◌-◌, ℕ, List, false, length}
use Rattle.std.specs.Prelude.{IfSome}
use Rattle.abt_source.specs.Seen.{gave, held, reading}
use Rattle.abt_source.proofs.Pieces.{IsSplit}
use Rattle.abt_source.proofs.reading.read_all.Given as goal

abbrev pub invariant-loop-piece : goal.invariant-loop-piece
invariant-loop-piece g l = record {
  in_range : length l.bytes.items ≤ l.most + 1;
  seen : g.F.Files.seen l.files ≡ gave (reading l.name l.bytes.items false) (g.F.Files.seen l.fn.files);
  missing : (n : List ℕ) → g.F.Files.absent l.fn.files n → g.F.Files.absent l.files n;
  begun : IfSome (g.F.Files.begun l.files) (λ n. n ≡ l.name);
  split : IsSplit (held (g.F.Files.seen l.fn.files) l.name) l.bytes.items (g.F.Files.left l.files);
  later : g.F.Files.faults l.fn.files ≤ g.F.Files.faults l.files;
  quiet : g.F.Files.faults l.files ≡ g.F.Files.faults l.fn.files;
}

abbrev pub decreases-loop-piece : goal.decreases-loop-piece
decreases-loop-piece g l = l.most + 1 - length l.bytes.items
