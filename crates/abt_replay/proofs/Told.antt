-- What is written of each value tells it.
use Rattle.std.proofs.Common.{ℕ, zero, suc, ◌≡◌, ◌++◌, List, [], ◌∷◌, true, false, Option, Some, None, refl, ap, get_or, reverse}
use Rattle.std.specs.Bool.{⊤}
use Rattle.std.proofs.lemmas.List.{reverse-reverse}
use Rattle.abt_machine.specs.declared.events.Cause.{Cause}
use Rattle.abt_machine.specs.declared.events.Cause.TheVariants as cause
use Rattle.abt_machine.specs.declared.events.Code.{Code}
use Rattle.abt_machine.specs.declared.events.Code.TheVariants as code
use Rattle.abt_machine.specs.declared.events.Piece.{Piece}
use Rattle.abt_machine.specs.declared.events.Piece.TheVariants as piece
use Rattle.abt_machine.specs.declared.events.Wish.{Wish}
use Rattle.abt_machine.specs.declared.events.Wish.TheVariants as wish
use Rattle.abt_machine.specs.declared.operations.Combine.{Combine}
use Rattle.abt_machine.specs.declared.operations.Combine.TheVariants as combine
use Rattle.abt_machine.specs.declared.operations.Kind.{Kind}
use Rattle.abt_machine.specs.declared.operations.Kind.TheVariants as kind
use Rattle.abt_machine.specs.State.{Carried, Frame, Mark, Plain, Asked, Left, Exited, Stream}
use Rattle.abt_machine.specs.Values.{Owned, Held, PoolValue, Phase, Unborn, Out, Suspended, Ended, DeskValue, MonitorValue, EventualValue, FutureValue, BarrierValue, RwLockValue}
use Rattle.abt_machine.specs.Values.{Object, PoolIs, DeskIs, MonitorIs, EventualIs, FutureIs, BarrierIs, RwLockIs, NotHere}
use Rattle.abt_replay.specs.Keys.{IsPrefixCode, number_key, option_key, list_key, tag_key, bool_tag, cause_tag, code_tag, combine_tag, kind_tag, mark_tag, wish_tag}
use Rattle.abt_replay.specs.Keys.{piece_key, carried_key, unit_key, frame_key, stream_key, lane_key, pool_key, phase_key, desk_key, monitor_key, eventual_key, future_key, barrier_key, rwlock_key}
use Rattle.abt_replay.specs.Keys.{object_key, objects_key}
use Rattle.abt_replay.specs.Objects.{ObjectsValue}
use Rattle.abt_replay.proofs.Telling.{along, choice, list, number, pair, tagged}

-- Choices without parts.

boolean : IsPrefixCode (tag_key bool_tag)
boolean = tagged bool_tag (λ n. get_or (false ∷ true ∷ []) n false) (elim [ false ↦ refl | true ↦ refl ])

abbrev causes : List Cause
causes = cause.Done ∷ cause.Asked ∷ cause.Access ∷ cause.Own ∷ []

cause-told : IsPrefixCode (tag_key cause_tag)
cause-told = tagged cause_tag (λ n. get_or causes n cause.Done) by where
  by : (c : Cause) → get_or causes (cause_tag c) cause.Done ≡ c
  by cause.Done = refl
  by cause.Asked = refl
  by cause.Access = refl
  by cause.Own = refl

abbrev codes : List Code
codes =
    code.Ok ∷ code.PoolAccess ∷ code.Exists ∷ code.UnitState ∷ code.NotMigratable ∷ code.Absent ∷ code.MutexLocked ∷ code.NotOwner ∷ code.EventualSet
    ∷ code.FutureFull ∷ code.RwHeld ∷ code.RwFull ∷ code.NotHolder ∷ []

code-told : IsPrefixCode (tag_key code_tag)
code-told = tagged code_tag (λ n. get_or codes n code.Ok) by where
  by : (c : Code) → get_or codes (code_tag c) code.Ok ≡ c
  by code.Ok = refl
  by code.PoolAccess = refl
  by code.Exists = refl
  by code.UnitState = refl
  by code.NotMigratable = refl
  by code.Absent = refl
  by code.MutexLocked = refl
  by code.NotOwner = refl
  by code.EventualSet = refl
  by code.FutureFull = refl
  by code.RwHeld = refl
  by code.RwFull = refl
  by code.NotHolder = refl

abbrev marks : List Mark
marks = Plain ∷ Asked ∷ Left ∷ Exited ∷ []

mark-told : IsPrefixCode (tag_key mark_tag)
mark-told = tagged mark_tag (λ n. get_or marks n Plain) by where
  by : (m : Mark) → get_or marks (mark_tag m) Plain ≡ m
  by Plain = refl
  by Asked = refl
  by Left = refl
  by Exited = refl

abbrev combines : List Combine
combines = combine.Sum ∷ combine.Max ∷ combine.Count ∷ []

combine-told : IsPrefixCode (tag_key combine_tag)
combine-told = tagged combine_tag (λ n. get_or combines n combine.Sum) by where
  by : (c : Combine) → get_or combines (combine_tag c) combine.Sum ≡ c
  by combine.Sum = refl
  by combine.Max = refl
  by combine.Count = refl

kind-told : IsPrefixCode (tag_key kind_tag)
kind-told = tagged kind_tag (λ n. get_or (kind.Fifo ∷ kind.Deque ∷ []) n kind.Fifo) by where
  by : (k : Kind) → get_or (kind.Fifo ∷ kind.Deque ∷ []) (kind_tag k) kind.Fifo ≡ k
  by kind.Fifo = refl
  by kind.Deque = refl

wish-told : IsPrefixCode (tag_key wish_tag)
wish-told = tagged wish_tag (λ n. get_or (wish.Read ∷ wish.Write ∷ []) n wish.Read) by where
  by : (w : Wish) → get_or (wish.Read ∷ wish.Write ∷ []) (wish_tag w) wish.Read ≡ w
  by wish.Read = refl
  by wish.Write = refl

-- Options.

-- what the form of that number has besides
abbrev OptionPart : Type 0 → ℕ → Type 0
OptionPart A zero = ⊤
OptionPart A (suc n) = A

-- a form without parts
nothing : IsPrefixCode (λ (t : ⊤). [])
nothing = record { tells = λ a b xs ys e. (refl, e) }

pub option : {A : Type 0} {key : A → List ℕ} → IsPrefixCode key → IsPrefixCode (option_key key)
option {A} {key} told = choice part_key tag part whole is keys forms where
  part_key : (n : ℕ) → OptionPart A n → List ℕ
  part_key zero none = []
  part_key (suc n) a = key a

  tag : Option A → ℕ
  tag None = 0
  tag (Some a) = 1

  part : (o : Option A) → OptionPart A (tag o)
  part None = tt
  part (Some a) = a

  whole : (n : ℕ) → OptionPart A n → Option A
  whole zero none = None
  whole (suc n) a = Some a

  is : (o : Option A) → whole (tag o) (part o) ≡ o
  is None = refl
  is (Some a) = refl

  keys : (o : Option A) → option_key key o ≡ tag o ∷ part_key (tag o) (part o)
  keys None = refl
  keys (Some a) = refl

  forms : (n : ℕ) → IsPrefixCode (part_key n)
  forms zero = nothing
  forms (suc n) = told

-- Units.

-- what the form of that number has besides
abbrev PiecePart : ℕ → Type 0
PiecePart zero = ℕ
PiecePart (suc zero) = ℕ
PiecePart (suc (suc n)) = Code

piece-told : IsPrefixCode piece_key
piece-told = choice part_key tag part whole is keys forms where
  part_key : (n : ℕ) → PiecePart n → List ℕ
  part_key zero word = number_key word
  part_key (suc zero) value = number_key value
  part_key (suc (suc n)) c = tag_key code_tag c

  tag : Piece → ℕ
  tag (piece.Said word) = 0
  tag (piece.Number value) = 1
  tag (piece.Refused c) = 2

  part : (p : Piece) → PiecePart (tag p)
  part (piece.Said word) = word
  part (piece.Number value) = value
  part (piece.Refused c) = c

  whole : (n : ℕ) → PiecePart n → Piece
  whole zero word = piece.Said word
  whole (suc zero) value = piece.Number value
  whole (suc (suc n)) c = piece.Refused c

  is : (p : Piece) → whole (tag p) (part p) ≡ p
  is (piece.Said word) = refl
  is (piece.Number value) = refl
  is (piece.Refused c) = refl

  keys : (p : Piece) → piece_key p ≡ tag p ∷ part_key (tag p) (part p)
  keys (piece.Said word) = refl
  keys (piece.Number value) = refl
  keys (piece.Refused c) = refl

  forms : (n : ℕ) → IsPrefixCode (part_key n)
  forms zero = number
  forms (suc zero) = number
  forms (suc (suc n)) = code-told

carried : IsPrefixCode carried_key
carried =
    along (λ (c : Carried). ((((c.position, c.acc), c.keys), c.home), c.output))
    (λ p. record { position = p.0.0.0.0; acc = p.0.0.0.1; keys = p.0.0.1; home = p.0.1; output = p.1 }) (λ c. refl)
    (pair (pair (pair (pair number number) (list number)) number) (list piece-told))

pub unit : IsPrefixCode unit_key
unit = along (λ (o : Owned). (o.number, o.carried)) (λ p. record { number = p.0; carried = p.1 }) (λ o. refl) (pair number carried)

units : IsPrefixCode (list_key unit_key)
units = list unit

-- Streams.

frame : IsPrefixCode frame_key
unfolding frame_key
frame =
    along (λ (f : Frame). (((f.sched, f.round), f.seen), f.empty)) (λ p. record { sched = p.0.0.0; round = p.0.0.1; seen = p.0.1; empty = p.1 }) (λ f. refl)
    (pair (pair (pair number number) (list number)) boolean)

stream : IsPrefixCode stream_key
unfolding stream_key
stream =
    along (λ (own : Stream). ((own.mark, own.top), reverse own.below)) (λ p. record { mark = p.0.0; top = p.0.1; below = reverse p.1 })
    (λ own. ap (λ (fs : List Frame). record { mark = own.mark; top = own.top; below = fs }) (reverse-reverse own.below))
    (pair (pair mark-told frame) (list frame))

pub lane : IsPrefixCode lane_key
lane =
    along (λ (h : Held). ((((h.own, h.hand), h.next), h.tray), h.framed)) (λ p. record { own = p.0.0.0.0; hand = p.0.0.0.1; next = p.0.0.1; tray = p.0.1; framed = p.1 })
    (λ h. refl) (pair (pair (pair (pair stream (option unit)) (option unit)) units) units)

-- Objects.

pool : IsPrefixCode pool_key
pool = along (λ (p : PoolValue). (p.kind, p.units)) (λ p. record { kind = p.0; units = p.1 }) (λ p. refl) (pair kind-told units)

-- what the form of that number has besides
abbrev PhasePart : ℕ → Type 0
PhasePart zero = Owned
PhasePart (suc zero) = ⊤
PhasePart (suc (suc zero)) = Owned
PhasePart (suc (suc (suc n))) = Owned × Cause

phase : IsPrefixCode phase_key
phase = choice part_key tag part whole is keys forms where
  part_key : (n : ℕ) → PhasePart n → List ℕ
  part_key zero o = unit_key o
  part_key (suc zero) none = []
  part_key (suc (suc zero)) o = unit_key o
  part_key (suc (suc (suc n))) p = unit_key p.0 ++ tag_key cause_tag p.1

  tag : Phase → ℕ
  tag (Unborn o) = 0
  tag Out = 1
  tag (Suspended o) = 2
  tag (Ended o c) = 3

  part : (p : Phase) → PhasePart (tag p)
  part (Unborn o) = o
  part Out = tt
  part (Suspended o) = o
  part (Ended o c) = (o, c)

  whole : (n : ℕ) → PhasePart n → Phase
  whole zero o = Unborn o
  whole (suc zero) none = Out
  whole (suc (suc zero)) o = Suspended o
  whole (suc (suc (suc n))) p = Ended p.0 p.1

  is : (p : Phase) → whole (tag p) (part p) ≡ p
  is (Unborn o) = refl
  is Out = refl
  is (Suspended o) = refl
  is (Ended o c) = refl

  keys : (p : Phase) → phase_key p ≡ tag p ∷ part_key (tag p) (part p)
  keys (Unborn o) = refl
  keys Out = refl
  keys (Suspended o) = refl
  keys (Ended o c) = refl

  forms : (n : ℕ) → IsPrefixCode (part_key n)
  forms zero = unit
  forms (suc zero) = nothing
  forms (suc (suc zero)) = unit
  forms (suc (suc (suc n))) = pair unit cause-told

desk : IsPrefixCode desk_key
desk =
    along (λ (d : DeskValue). ((((((d.number, d.sched), d.phase), d.joiners), d.cancel), d.migrate), d.migratable))
    (λ p. record {
      number = p.0.0.0.0.0.0;
      sched = p.0.0.0.0.0.1;
      phase = p.0.0.0.0.1;
      joiners = p.0.0.0.1;
      cancel = p.0.0.1;
      migrate = p.0.1;
      migratable = p.1;
    })
    (λ d. refl) (pair (pair (pair (pair (pair (pair number boolean) phase) units) boolean) (option number)) boolean)

monitor : IsPrefixCode monitor_key
monitor =
    along (λ (m : MonitorValue). (((m.owner, m.number), m.waiters), m.conds)) (λ p. record { owner = p.0.0.0; number = p.0.0.1; waiters = p.0.1; conds = p.1 }) (λ m. refl)
    (pair (pair (pair (option number) number) units) (list units))

eventual : IsPrefixCode eventual_key
eventual = along (λ (e : EventualValue). (e.value, e.waiters)) (λ p. record { value = p.0; waiters = p.1 }) (λ e. refl) (pair (option number) units)

future : IsPrefixCode future_key
future =
    along (λ (f : FutureValue). ((((f.size, f.combine), f.filled), f.value), f.waiters))
    (λ p. record { size = p.0.0.0.0; combine = p.0.0.0.1; filled = p.0.0.1; value = p.0.1; waiters = p.1 }) (λ f. refl)
    (pair (pair (pair (pair number combine-told) number) number) units)

barrier : IsPrefixCode barrier_key
barrier = along (λ (b : BarrierValue). (b.size, b.waiters)) (λ p. record { size = p.0; waiters = p.1 }) (λ b. refl) (pair number units)

rwlock : IsPrefixCode rwlock_key
rwlock =
    along (λ (l : RwLockValue). ((((l.lock.writer, l.lock.counts), l.lock.wishes), l.lock.number), l.waiters))
    (λ p. record { lock = record { writer = p.0.0.0.0; counts = p.0.0.0.1; wishes = p.0.0.1; number = p.0.1 }; waiters = p.1 }) (λ l. refl)
    (pair (pair (pair (pair (option number) (list number)) (list wish-told)) number) units)

-- what the form of that number has besides
abbrev ObjectPart : ℕ → Type 0
ObjectPart zero = PoolValue
ObjectPart (suc zero) = DeskValue
ObjectPart (suc (suc zero)) = MonitorValue
ObjectPart (suc (suc (suc zero))) = EventualValue
ObjectPart (suc (suc (suc (suc zero)))) = FutureValue
ObjectPart (suc (suc (suc (suc (suc zero))))) = BarrierValue
ObjectPart (suc (suc (suc (suc (suc (suc zero)))))) = RwLockValue
ObjectPart (suc (suc (suc (suc (suc (suc (suc n))))))) = ⊤

object : IsPrefixCode object_key
object = choice part_key tag part whole is keys forms where
  part_key : (n : ℕ) → ObjectPart n → List ℕ
  part_key zero p = pool_key p
  part_key (suc zero) d = desk_key d
  part_key (suc (suc zero)) m = monitor_key m
  part_key (suc (suc (suc zero))) e = eventual_key e
  part_key (suc (suc (suc (suc zero)))) f = future_key f
  part_key (suc (suc (suc (suc (suc zero))))) b = barrier_key b
  part_key (suc (suc (suc (suc (suc (suc zero)))))) l = rwlock_key l
  part_key (suc (suc (suc (suc (suc (suc (suc n))))))) none = []

  tag : Object → ℕ
  tag (PoolIs p) = 0
  tag (DeskIs d) = 1
  tag (MonitorIs m) = 2
  tag (EventualIs e) = 3
  tag (FutureIs f) = 4
  tag (BarrierIs b) = 5
  tag (RwLockIs l) = 6
  tag NotHere = 7

  part : (o : Object) → ObjectPart (tag o)
  part (PoolIs p) = p
  part (DeskIs d) = d
  part (MonitorIs m) = m
  part (EventualIs e) = e
  part (FutureIs f) = f
  part (BarrierIs b) = b
  part (RwLockIs l) = l
  part NotHere = tt

  whole : (n : ℕ) → ObjectPart n → Object
  whole zero p = PoolIs p
  whole (suc zero) d = DeskIs d
  whole (suc (suc zero)) m = MonitorIs m
  whole (suc (suc (suc zero))) e = EventualIs e
  whole (suc (suc (suc (suc zero)))) f = FutureIs f
  whole (suc (suc (suc (suc (suc zero))))) b = BarrierIs b
  whole (suc (suc (suc (suc (suc (suc zero)))))) l = RwLockIs l
  whole (suc (suc (suc (suc (suc (suc (suc n))))))) none = NotHere

  is : (o : Object) → whole (tag o) (part o) ≡ o
  is (PoolIs p) = refl
  is (DeskIs d) = refl
  is (MonitorIs m) = refl
  is (EventualIs e) = refl
  is (FutureIs f) = refl
  is (BarrierIs b) = refl
  is (RwLockIs l) = refl
  is NotHere = refl

  keys : (o : Object) → object_key o ≡ tag o ∷ part_key (tag o) (part o)
  keys (PoolIs p) = refl
  keys (DeskIs d) = refl
  keys (MonitorIs m) = refl
  keys (EventualIs e) = refl
  keys (FutureIs f) = refl
  keys (BarrierIs b) = refl
  keys (RwLockIs l) = refl
  keys NotHere = refl

  forms : (n : ℕ) → IsPrefixCode (part_key n)
  forms zero = pool
  forms (suc zero) = desk
  forms (suc (suc zero)) = monitor
  forms (suc (suc (suc zero))) = eventual
  forms (suc (suc (suc (suc zero)))) = future
  forms (suc (suc (suc (suc (suc zero))))) = barrier
  forms (suc (suc (suc (suc (suc (suc zero)))))) = rwlock
  forms (suc (suc (suc (suc (suc (suc (suc n))))))) = nothing

pub objects : IsPrefixCode objects_key
objects =
    along (λ (o : ObjectsValue). ((o.pools, o.desks), o.slots)) (λ p. record { pools = p.0.0; desks = p.0.1; slots = p.1 }) (λ o. refl)
    (pair (pair (list pool) (list desk)) (list object))
