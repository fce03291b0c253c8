-- A stream with a life.
use Rattle.std.proofs.Common.{◌≡◌, ◌∙◌, ◌&&◌, ℕ, Bool, true, not, inl, ap, sym}
use Rattle.abt_machine.specs.declared.events.Site.TheVariants as site
use Rattle.abt_machine.specs.Numbers.{object_no}
use Rattle.abt_commons.specs.Held.{object_at}
use Rattle.abt_commons.specs.Reading.{is_ready}
use Rattle.abt_streams.specs.Living.{life_of, lives_by}
use Rattle.abt_streams.proofs.Alive.{declared-life}
use Rattle.abt_streams.proofs.living.is_live.Goals as goal

pub is_ready-requires : goal.is_ready-requires
is_ready-requires c = inl (declared-life c.args.objects.now.workload c.args.lives.now c.args.s.0 c.in-Some.life c.requires (sym c.in-Some.ensures)).0

pub is_ready-requires-then-is_ready : goal.is_ready-requires-then-is_ready
is_ready-requires-then-is_ready c = inl (declared-life c.args.objects.now.workload c.args.lives.now c.args.s.0 c.in-Some.life c.requires (sym c.in-Some.ensures)).1

pub returns-then-is_ready : goal.returns-then-is_ready
returns-then-is_ready c =
    let ready : ℕ → Bool = λ x. is_ready (object_at c.args.objects.now (site.Eventual (object_no x))) in
    let both = declared-life c.args.objects.now.workload c.args.lives.now c.args.s.0 c.in-Some.life c.requires (sym c.in-Some.ensures) in
    let begins : ready c.in-Some.life.begins.0 ≡ true = sym (c.is_ready.ensures.eventual both.0) ∙ c.if-is_ready.true in
    let ends : c.is_ready-then-is_ready.result ≡ ready c.in-Some.life.ends.0 = c.is_ready-then-is_ready.ensures.eventual both.1 in
    let whole : lives_by ready (life_of c.args.lives.now c.args.s.0) ≡ not (ready c.in-Some.life.ends.0) =
    ap (lives_by ready) (sym c.in-Some.ensures) ∙ ap (λ b. b && not (ready c.in-Some.life.ends.0)) begins in
    ap not ends ∙ sym whole
