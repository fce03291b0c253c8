use Rattle.abt_model.proofs.Telling.{keys-tell-models, model-told}
use Rattle.abt_model.proofs.copies.models_are_told.Goals as goal

pub returns-clause-told : goal.returns-clause-told
returns-clause-told c = model-told

pub returns-clause-one : goal.returns-clause-one
returns-clause-one c = keys-tell-models
