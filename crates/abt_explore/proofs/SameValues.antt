-- What a model stands for without the numbers of rounds, and how a state ends without them.
use Rattle.std.proofs.Common.{◌≡◌, ◌↔◌, ℕ, List, [], ◌∷◌, map, Option, Some, refl, ap, sym, ◌∙◌, option_map}
use Rattle.std.proofs.lemmas.List.{length-map}
use Rattle.std.proofs.lemmas.Option.{slice_get-map}
use Rattle.abt_machine.specs.declared.events.Site.{Site}
use Rattle.abt_machine.specs.declared.events.Site.TheVariants as site
use Rattle.abt_machine.specs.declared.operations.Thing.{Thing}
use Rattle.abt_machine.specs.declared.operations.Thing.TheVariants as thing
use Rattle.abt_machine.specs.declared.workload.Parts.{Parts}
use Rattle.abt_machine.specs.Outcomes.{Quiet}
use Rattle.abt_machine.specs.State.{Frame, State}
use Rattle.abt_machine.specs.Values.{barrier_at, eventual_at, future_at, monitor_at, object_of, rwlock_at}
use Rattle.abt_machine.specs.Workloads.{thing_at}
use Rattle.abt_model.specs.Models.{ModelValue, StandsFor}
use Rattle.abt_replay.specs.Unnumbered.{unnumbered_frame, unnumbered_held}
use Rattle.abt_model.specs.Keys.{unnumbered_model}
use Rattle.abt_explore.specs.Unnumbered.{unnumbered_state}

-- Objects.

module _ (W : Parts) (S : State) where
  monitor-same : (x : ℕ) (t : Option Thing) → monitor_at W (unnumbered_state S) x t ≡ monitor_at W S x t
  monitor-same x (Some thing.Mutex) = refl
  monitor-same x t = refl

  eventual-same : (x : ℕ) (t : Option Thing) → eventual_at W (unnumbered_state S) x t ≡ eventual_at W S x t
  eventual-same x (Some thing.Eventual) = refl
  eventual-same x t = refl

  future-same : (x : ℕ) (t : Option Thing) → future_at W (unnumbered_state S) x t ≡ future_at W S x t
  future-same x (Some (thing.Future n c)) = refl
  future-same x t = refl

  barrier-same : (x : ℕ) (t : Option Thing) → barrier_at W (unnumbered_state S) x t ≡ barrier_at W S x t
  barrier-same x (Some (thing.Barrier n)) = refl
  barrier-same x t = refl

  rwlock-same : (x : ℕ) (t : Option Thing) → rwlock_at W (unnumbered_state S) x t ≡ rwlock_at W S x t
  rwlock-same x (Some thing.RwLock) = refl
  rwlock-same x t = refl

  object-same : (x : Site) → object_of W (unnumbered_state S) x ≡ object_of W S x
  object-same (site.Pool p) = refl
  object-same (site.Desk u) = refl
  object-same (site.Monitor x) = monitor-same x.0 (thing_at W x.0)
  object-same (site.Eventual x) = eventual-same x.0 (thing_at W x.0)
  object-same (site.Future x) = future-same x.0 (thing_at W x.0)
  object-same (site.Barrier x) = barrier-same x.0 (thing_at W x.0)
  object-same (site.Rw x) = rwlock-same x.0 (thing_at W x.0)

  -- Models.

  -- a model that stands for a state does so without numbers
  pub stands-forgotten : (model : ModelValue) → StandsFor W S model → StandsFor W (unnumbered_state S) (unnumbered_model model)
  stands-forgotten model stands = record {
    lanes = record {
      many = length-map model.lanes unnumbered_held ∙ stands.lanes.many;
      own = λ k l. slice_get-map unnumbered_held model.lanes k ∙ ap (option_map unnumbered_held) (stands.lanes.own k l);
    };
    objects = λ x is. stands.objects x is ∙ sym (object-same x);
    places = stands.places;
  }

-- Ends.

-- no frame with numbers, no frame without
none-numbered : (fs : List Frame) → map unnumbered_frame fs ≡ [] → fs ≡ []
none-numbered [] e = refl
none-numbered (f ∷ fs) e = cc

pub quiet-same : (W : Parts) (S : State) → Quiet W S ↔ Quiet W (unnumbered_state S)
quiet-same W S = (
  λ quiet. record {
    trays = quiet.trays;
    nexts = quiet.nexts;
    hands = quiet.hands;
    frames = λ s l. ap (map unnumbered_frame) (quiet.frames s l);
    pools = quiet.pools;
  },
  λ quiet. record {
    trays = quiet.trays;
    nexts = quiet.nexts;
    hands = quiet.hands;
    frames = λ s l. none-numbered (S.stream s).below (quiet.frames s l);
    pools = quiet.pools;
  },
)
