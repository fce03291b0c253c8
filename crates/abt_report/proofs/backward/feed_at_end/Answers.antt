use Rattle.std.proofs.Common.{◌≡◌, ◌≤◌, [], drop, length, arith, rules}
use Rattle.std.proofs.lemmas.List.{drop-set, drop_all}
use Rattle.abt_report.proofs.backward.feed_at_end.Goals as goal

pub returns-clause-written : goal.returns-clause-written
returns-clause-written c =
    let block = c.args.block.now in
    let short : length block ≤ 128 = search rules in
    let nothing : drop 128 block ≡ [] = drop_all 128 block short in
    rw (drop-set block 127 10 (search rules), nothing)
