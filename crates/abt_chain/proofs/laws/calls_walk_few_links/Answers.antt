use Rattle.abt_chain.proofs.Walks.{calls-walk-few-links}
use Rattle.abt_chain.proofs.laws.calls_walk_few_links.Goals as goal

pub returns : goal.returns
returns c = calls-walk-few-links
