use Rattle.std.proofs.Common.{◌≡◌, ◌++◌, flat_map, take}
use Rattle.abt_view.specs.Args.{json_byte}
use Rattle.abt_view.proofs.args.push_json.Given as goal

abbrev pub invariant-loop-b : goal.invariant-loop-b
invariant-loop-b l = l.out.items ≡ l.fn.out.items ++ flat_map json_byte (take l.b-index l.text)
