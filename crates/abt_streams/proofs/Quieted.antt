-- Nothing is left to do on lives, by parts and objects.
use Rattle.std.proofs.Common.{◌≡◌, ℕ, ◌<◌, ◌∙◌, true, List, [], map, sym, ap, subst}
use Rattle.std.specs.Prelude.{◌↔◌, Contains}
use Rattle.abt_machine.specs.declared.events.Site.{Site}
use Rattle.abt_machine.specs.declared.events.Site.TheVariants as site
use Rattle.abt_machine.specs.declared.workload.Parts.{Parts}
use Rattle.abt_machine.specs.Lines.{InHand, InNext, InPool, InTray, standing}
use Rattle.abt_machine.specs.Numbers.{pool_no}
use Rattle.abt_machine.specs.Outcomes.{Quiet}
use Rattle.abt_machine.specs.Queues.{first}
use Rattle.abt_machine.specs.State.{State}
use Rattle.abt_machine.specs.Values.{Held, Object, object_of, owned_at, part_of}
use Rattle.abt_machine.specs.Workloads.{main_of, pools_of}
use Rattle.abt_outcomes.specs.Values.{IsEmptyPool, IsIdle, StandFor}
use Rattle.abt_outcomes.proofs.Seen.{first-none, owned-none}
use Rattle.abt_streams.specs.declared.life.Life.{Life}
use Rattle.abt_streams.specs.Ends.{QuietOn}
use Rattle.abt_streams.specs.Lives.{AreLives}
use Rattle.abt_streams.specs.Looks.{LooksQuietOn, is_live_with}
use Rattle.abt_streams.specs.Living.{is_live}
use Rattle.abt_streams.proofs.Alive.{live-same}

-- if nothing at all is left to do, nothing is on any lives
pub quiet-on : (W : Parts) (lives : List Life) (S : State) → Quiet W S → QuietOn W lives S
quiet-on W lives S quiet = record { trays = quiet.trays; nexts = quiet.nexts; hands = quiet.hands; frames = quiet.frames; pools = λ s p lt live listed. quiet.pools s p lt listed }

module _ (W : Parts) (lives : List Life) (are : AreLives W lives) (S : State) (parts : ℕ → Held) (objects : Site → Object) (stand : StandFor W S parts objects) where
  lives-same : (s : ℕ) → is_live_with objects lives s ≡ is_live lives S s
  lives-same = live-same W lives are S objects stand.sites

  pub quiet-on-seen : QuietOn W lives S ↔ LooksQuietOn W lives parts objects
  quiet-on-seen = (to, from) where
    idle-part : (s : ℕ) → standing W S (InTray s) ≡ [] → standing W S (InNext s) ≡ [] → standing W S (InHand s) ≡ [] → (S.stream s).below ≡ [] → IsIdle (part_of W S s)
    idle-part s tray next hand frames = record {
      tray = ap (map (owned_at S)) tray;
      next = ap (λ us. first (map (owned_at S) us)) next;
      hand = ap (λ us. first (map (owned_at S) us)) hand;
      frames = frames;
    }

    to : QuietOn W lives S → LooksQuietOn W lives parts objects
    to quiet = record {
      idle = λ s l. subst IsIdle (stand.streams s l) (idle-part s (quiet.trays s l) (quiet.nexts s l) (quiet.hands s l) (quiet.frames s l));
      pools = λ s p l live listed. subst IsEmptyPool (stand.sites (site.Pool (pool_no p))) (ap (map (owned_at S)) (quiet.pools s p l (subst (λ b. b ≡ true) (lives-same s) live) listed));
    }

    is-idle : LooksQuietOn W lives parts objects → (s : ℕ) → s < W.streams → IsIdle (part_of W S s)
    is-idle looks s l = subst IsIdle (sym (stand.streams s l)) (looks.idle s l)

    is-empty : LooksQuietOn W lives parts objects → (s p : ℕ) → s < W.streams → is_live lives S s ≡ true → Contains (pools_of W (main_of W s)) p → IsEmptyPool (object_of W S (site.Pool (pool_no p)))
    is-empty looks s p l live listed = subst IsEmptyPool (sym (stand.sites (site.Pool (pool_no p)))) (looks.pools s p l (lives-same s ∙ live) listed)

    from : LooksQuietOn W lives parts objects → QuietOn W lives S
    from looks = record {
      trays = λ s l. (let idle = is-idle looks s l in owned-none S (standing W S (InTray s)) idle.tray);
      nexts = λ s l. (let idle = is-idle looks s l in first-none S (standing W S (InNext s)) idle.next);
      hands = λ s l. (let idle = is-idle looks s l in first-none S (standing W S (InHand s)) idle.hand);
      frames = λ s l. (let idle = is-idle looks s l in idle.frames);
      pools = λ s p l live listed. owned-none S (standing W S (InPool p)) (is-empty looks s p l live listed);
    }
