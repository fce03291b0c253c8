use Rattle.abt_rows.proofs.calls.calls_where_it_steps.Goals as goal

pub returns : goal.returns
returns c h = h.2.2.2.1.3
