-- What `clap` found is the rest.
use Rattle.abt_words.specs.Asked.{options_of}
use Rattle.abt_words.proofs.Found.{rest-is, takes-all}
use Rattle.abt_words.proofs.Rules.{simple-app}
use Rattle.abt_words.proofs.Passed.{passed-on}
use Rattle.abt_words.proofs.options.read.Goals as goal

pub returns-in_err-found-clause-bad : goal.returns-in_err-found-clause-bad
returns-in_err-found-clause-bad c = λ bad none.
    c.in_err-found.ensures.bad (passed-on c.from_residual-in_err-found.result c.in_err-found.field-0.0 _ c.from_residual-in_err-found.ensures.1 bad)
    (takes-all (options_of c.args.options.now) c.args.rest.now _ c.in_ok-command.ensures c.requires none)

pub returns-clause-found : goal.returns-clause-found
returns-clause-found c =
    rest-is (options_of c.args.options.now) c.args.rest.now _ c.in_ok-command.ensures c.requires c.in_ok-found.found c.in_ok-found.ensures.takes c.in_ok-found.ensures.finds

pub found_by-requires : goal.found_by-requires
found_by-requires c = simple-app (options_of c.args.options.now) _ c.in_ok-command.ensures
