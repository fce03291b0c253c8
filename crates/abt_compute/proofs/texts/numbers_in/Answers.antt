use Rattle.std.proofs.Common.{rules, ◌<◌, ◌≤◌, length, refl}
use Rattle.abt_shell.proofs.Calls.{if-err, if-ok}
use Rattle.abt_compute.specs.Files.{list_limit}
use Rattle.abt_compute.proofs.Fetching.{has-whole, list-too-long, wrong-line-stops}
use Rattle.abt_compute.proofs.texts.numbers_in.Goals as goal

pub returns-then-len-gt-LIST_LIMIT-clause-stop : goal.returns-then-len-gt-LIST_LIMIT-clause-stop
returns-then-len-gt-LIST_LIMIT-clause-stop g c = λ file_of agree.
    let long : list_limit < length c.in_ok-bytes.bytes.items = search rules in
    list-too-long _ c.in_ok-bytes.bytes.items (c.in_ok-bytes.ensures.bytes file_of agree) long _ (refl, refl)

pub returns-clause-lists : goal.returns-clause-lists
returns-clause-lists g c = λ file_of agree.
    let short : length c.in_ok-bytes.bytes.items ≤ list_limit = search rules in
    if-ok c.read_numbers.result _ _ (λ numbers lists. record {
      bytes = c.in_ok-bytes.bytes.items;
      has = has-whole list_limit _ c.in_ok-bytes.bytes.items
          (c.in_ok-bytes.ensures.bytes file_of agree) short;
      lists = lists;
    }) (rw c.deref.ensures.value at c.read_numbers.ensures.lists)

pub returns-clause-stop : goal.returns-clause-stop
returns-clause-stop g c = λ file_of agree.
    let short : length c.in_ok-bytes.bytes.items ≤ list_limit = search rules in
    if-err c.read_numbers.result _ _ (λ s h. wrong-line-stops _ c.in_ok-bytes.bytes.items (c.in_ok-bytes.ensures.bytes file_of agree) short s _ (h _))
    (rw c.deref.ensures.value at c.read_numbers.ensures.stop)
