use Rattle.std.proofs.Common.{rules, ◌≡◌, [], map, string_bytes, inr, codes, length}
use Rattle.abt_compute.proofs.Asking.{none-left}
use Rattle.abt_compute.proofs.words.streams_of.Goals as goal

pub returns : goal.returns
returns c =
    let option : c.as_str.result.now ≡ codes "--streams" = search rules in
    let few : length c.in_ok-digits.words.now ≡ 0 = search rules in
    let last : map string_bytes c.in_ok-digits.words.now ≡ [] = none-left string_bytes c.in_ok-digits.words.now few in
    inr (record { digits = c.as_str-2.result.now; are = search rules; number = search rules })
