use Rattle.std.proofs.Common.{[], inl, inr, rules, refl}
use Rattle.abt_shell.specs.declared.status.Stop.TheVariants.{OutOfMemory}
use Rattle.abt_shell.specs.More.{usage_text}
use Rattle.abt_shell.proofs.Calls.{concluded, refused-words, stopped}
use Rattle.abt_callbacks.specs.Program.{AsksSum, usage}
use Rattle.abt_callbacks.proofs.Ended.{answered}
use Rattle.abt_callbacks.proofs.program.abtfold.Goals as goal

pub returns-in-Some : goal.returns-in-Some
returns-in-Some g c =
    answered _ _ _ _ _ (concluded _ _ tt c.about_text.result.now 0 _ (inr (record { topic = c.in-Some.topic; asks = c.in-Some.ensures; says = c.about_text.ensures })) refl c.write_out.ensures)

pub returns-in_default-asked : goal.returns-in_default-asked
returns-in_default-asked g c = answered _ _ _ _ _ (refused-words _ _ c.stop_by.result (usage_text usage) _ (c.in_default-asked.ensures, c.in_default.ensures) refl c.number.ensures (search rules) c.stop_by.ensures.told (c.stop_by.ensures.words refl))

pub returns-in_default-line : goal.returns-in_default-line
returns-in_default-line g c =
    let sum : AsksSum _ = record { workers = c.in-Some-asked.workers; numbers = c.in-Some-asked.n; asks = c.in-Some-asked.ensures } in
    answered _ _ _ _ _ (stopped _ _ OutOfMemory c.stop_by-in_default-line.result [] _ sum sum refl refl c.number-in_default-line.ensures (search rules) c.stop_by-in_default-line.ensures.told)

pub returns : goal.returns
returns g c =
    let sum : AsksSum _ = record { workers = c.in-Some-asked.workers; numbers = c.in-Some-asked.n; asks = c.in-Some-asked.ensures } in
    answered _ _ _ _ _ (concluded _ _ tt c.in-Ok.line.items 0 _ (inl (record { asked = sum; made = c.in-Ok.ensures })) refl (rw c.deref.ensures.value at c.write_out-2.ensures))
