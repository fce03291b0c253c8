use Rattle.std.proofs.Common.{◌-◌, refl}
use Rattle.std.proofs.lemmas.List.Elements.{All-drop, All-take}
use Rattle.abt_workload.specs.Slots.{IsHead}
use Rattle.abt_workload.proofs.Groups.{table-heads}
use Rattle.abt_workload.proofs.forms.heads_of.Goals as goal

pub returns : goal.returns
returns c =
    let all = table-heads _ _ c.as_slice-heads.ensures refl refl in
    All-take IsHead (c.heads_at-from.result.1 - c.heads_at-from.result.0) _ (All-drop IsHead c.heads_at-from.result.0 c.as_slice-heads.result.now all)
