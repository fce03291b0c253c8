use Rattle.abt_rows.proofs.calls.step_where_it_calls.Goals as goal

pub returns : goal.returns
returns c h = h.2.2.1.4
