-- The stamps of a merged journal are those of its deeds.
use Rattle.std.proofs.Common.{◌≡◌, ℕ, List, [], ◌∷◌, map, Option, Some, None, refl, sym, ◌∙◌, ap, subst, inl, inr}
use Rattle.std.specs.Prelude.{option_map}
use Rattle.abt_machine.specs.declared.events.Site.{Site}
use Rattle.abt_machine.specs.Stored.{Stored}
use Rattle.abt_machine.specs.declared.workload.Parts.{Parts}
use Rattle.abt_machine.specs.Numbers.{stream_no}
use Rattle.abt_machine.specs.EventSites.{event_site}
use Rattle.abt_machine.specs.Stamps.{Lamport, Stamped, stamp_of, stream_of}
use Rattle.abt_machine.specs.Values.{Held, Object}
use Rattle.abt_machine.specs.Turns.{Heard, Steps}
use Rattle.abt_interleave.specs.Deeds.{Does}
use Rattle.abt_interleave.specs.Logs.{IsSorted}
use Rattle.abt_interleave.specs.Machines.{Gathered}
use Rattle.abt_interleave.specs.Stamps.{place_of}
use Rattle.abt_interleave.proofs.Members.{Among, from-among, to-among}
use Rattle.abt_interleave.proofs.Merged.{log-declared}
use Rattle.abt_interleave.proofs.SeenStamps.{Agrees, lamport-seen, stamped-seen}
use Rattle.abt_interleave.proofs.Stamping.{stamps-close, stamps-are-lamports}
use Rattle.abt_simulation.specs.Simulation.{site_heard}
use Rattle.abt_simulation.specs.Merging.{machine_of, StreamDeed, SiteEntry, event_of, MergedIsStamped, MergedIsLamport}
use Rattle.abt_simulation.proofs.CalledSites.{steps-site}
use Rattle.abt_simulation.proofs.Merged.{deeds-of}

-- a deed calls the site of its event, or nothing if that has none
abbrev pub CallsSite : Parts → StreamDeed → Type 0
CallsSite W d = Agrees event_of stamp_of stream_of (event_site W) place_of d

-- the place of what is heard is its site
place-heard : (heard : Option Heard) → option_map (λ h. h.0) heard ≡ site_heard heard
place-heard None = refl
place-heard (Some h) = refl

-- so does each deed of a course
pub does-call : (W : Parts) (Z : Stored) (s : ℕ) (p q : Held) (log : List StreamDeed) → Does (Steps W Z) s p log q → (d : StreamDeed) → Among d log → CallsSite W d
does-call W Z s p q [] c d m = absurd m
does-call W Z s p q (e ∷ es) c d m =
    elim m [
      | inl same ↦ subst (CallsSite W) (sym same) (place-heard e.heard ∙ (steps-site W Z s p e.what e.heard c.1 c.2 ∙ ap (λ r. event_site W (record { stamp = e.stamp; stream = stream_no r; what = e.what })) (sym c.0)))
      | inr later ↦ does-call W Z s c.1 q es c.3 d later
    ]

module _ (W : Parts) (Z : Stored) (parts : ℕ → Held) (objects : Site → Object) (logs : ℕ → List StreamDeed) (histories : Site → List SiteEntry) (ends : ℕ → Held) (finals : Site → Object)
    (gathered : Gathered (machine_of W Z) parts objects logs histories ends finals) where
  -- each deed of the sorted list calls the site of its event
  sorted-call : (ds : List StreamDeed) → IsSorted logs ds → (d : StreamDeed) → Among d ds → CallsSite W d
  sorted-call ds sorted d m =
      let there : Among d (logs d.stream) = to-among (logs d.stream) d (sorted.only d (from-among ds d m)) in
      does-call W Z d.stream (parts d.stream) (ends d.stream) (logs d.stream) (gathered.courses d.stream (log-declared (machine_of W Z) parts objects logs histories ends finals gathered d.stream d there)).1 d there

-- the merged journal is stamped
pub merged-is-stamped : (W : Parts) (Z : Stored) → MergedIsStamped W Z
merged-is-stamped W Z parts objects logs histories ends finals J gathered gapless sorted =
    let l : (ds : List StreamDeed) × IsSorted logs ds × (map event_of ds ≡ J) = deeds-of W Z parts objects logs histories ends finals J gathered sorted in
    subst (Stamped W) l.2 (stamped-seen event_of stamp_of stream_of (event_site W) place_of l.0 (sorted-call W Z parts objects logs histories ends finals gathered l.0 l.1) (stamps-close (machine_of W Z) parts objects logs histories ends finals l.0 gathered gapless l.1))

-- its stamps are Lamport's
pub merged-is-lamport : (W : Parts) (Z : Stored) → MergedIsLamport W Z
merged-is-lamport W Z parts objects logs histories ends finals J gathered timed sorted =
    let l : (ds : List StreamDeed) × IsSorted logs ds × (map event_of ds ≡ J) = deeds-of W Z parts objects logs histories ends finals J gathered sorted in
    subst (Lamport W) l.2 (lamport-seen event_of stamp_of stream_of (event_site W) place_of l.0 (sorted-call W Z parts objects logs histories ends finals gathered l.0 l.1) (stamps-are-lamports (machine_of W Z) parts objects logs histories ends finals l.0 gathered timed l.1))
