-- The bytes of a model tell it.
use Rattle.std.proofs.Common.{refl}
use Rattle.abt_replay.specs.Keys.{IsPrefixCode}
use Rattle.abt_replay.proofs.Telling.{along, injective, list, pair}
use Rattle.abt_replay.proofs.Told.{lane, objects}
use Rattle.abt_model.specs.Keys.{KeysTellModels, model_key}
use Rattle.abt_model.specs.Models.{ModelValue}

pub model-told : IsPrefixCode model_key
model-told = along (λ (m : ModelValue). (m.lanes, m.objects)) (λ p. record { lanes = p.0; objects = p.1 }) (λ m. refl) (pair (list lane) objects)

pub keys-tell-models : KeysTellModels
keys-tell-models a b same = injective model-told a b same
