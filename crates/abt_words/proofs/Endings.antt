-- A walk of a command without subcommands, from any place on: its faults, and the rows that its matches have.
use Rattle.std.proofs.Common.{◌≡◌, ◌≢◌, ℕ, suc, false, refl, sym, ap, ◌∙◌, List, [], ◌∷◌, arith}
use Rattle.std.specs.Prelude.{fold, ⊤}
use Rattle.std.specs.Str.{IsUtf8}
use Rattle.clap.specs.Faults.{check_fault, defaults_fault, settle_fault, turn_fault, walk_fault}
use Rattle.clap.specs.Kinds.{Kinds, or_else}
use Rattle.clap.specs.Simple.{Shape}
use Rattle.clap.specs.Walk.{Row, Walk, finished, settled, walked}
use Rattle.clap.specs.declared.error.kind.ErrorKind.{ErrorKind}
use Rattle.clap.proofs.FaultLemmas.{past}
use Rattle.abt_machine.specs.Words.{Text}

-- the words are texts
abbrev pub AllTexts : List Text → Type 0
AllTexts [] = ⊤
AllTexts (w ∷ ws) = IsUtf8 w × AllTexts ws

pub no-cons : (k : ErrorKind) (ks : Kinds) → k ∷ ks ≡ [] → ⊥
no-cons k ks e = cc

pub no-more : (n : ℕ) → suc n ≡ 0 → ⊥
no-more n e = omega arith

or-else-assoc : (a b c : Kinds) → or_else (or_else a b) c ≡ or_else a (or_else b c)
or-else-assoc [] b c = refl
or-else-assoc (k ∷ ks) b c = refl

module _ (s : Shape) where
  abbrev pub walked_all : Walk → List Text → Walk
  walked_all = fold (walked s.rules [])

  -- the faults on the way and at the end
  abbrev pub ending : Walk → List Text → Kinds
  ending w words =
      let end = (walked_all w words).held in
      or_else (walk_fault s [] w words)
      (or_else (settle_fault s.rules s.args_override_self end) (or_else (defaults_fault (settled s.rules end).rows s.rules) (check_fault s (finished s.rules end) false)))

  abbrev pub last : Walk → List Text → List Row
  last w words = finished s.rules (walked_all w words).held

  turned : (w : Walk) (x : Text) (words : List Text) → ending w (x ∷ words) ≡ or_else (turn_fault s [] w x) (ending (walked s.rules [] w x) words)
  unfolding walk_fault
  turned w x words = or-else-assoc (turn_fault s [] w x) _ _

  -- a word that passes
  pub goes : (w next : Walk) (x : Text) (words : List Text) → turn_fault s [] w x ≡ [] → walked s.rules [] w x ≡ next → ending w (x ∷ words) ≡ ending next words
  goes w next x words e f = turned w x words ∙ past _ _ e ∙ ap (λ (m : Walk). ending m words) f

  pub lasts : (w next : Walk) (x : Text) (words : List Text) → walked s.rules [] w x ≡ next → last w (x ∷ words) ≡ last next words
  lasts w next x words f = ap (λ (m : Walk). last m words) f

  -- a word that fails
  pub fails : (w : Walk) (x : Text) (words : List Text) (k : ErrorKind) (ks : Kinds) → turn_fault s [] w x ≡ k ∷ ks → ending w (x ∷ words) ≢ []
  fails w x words k ks e h = no-cons k _ (sym (turned w x words ∙ ap (λ (l : Kinds). or_else l (ending (walked s.rules [] w x) words)) e) ∙ h)
