-- Which status a call answers if its cause is at hand.
use Rattle.std.proofs.Common.{◌≡◌, ◌⊎◌, ℕ, List, [], ◌∷◌, inl, inr, refl, subst, sym, ◌∙◌, arith}
use Rattle.std.specs.Prelude.{⊤}
use Rattle.abt_machine.specs.Words.{Text}
use Rattle.abt_shell.specs.declared.status.Stop.TheVariants.{BadWords, BadLine, CannotRead, OutOfMemory}
use Rattle.abt_shell.specs.Calls.{EndsBy, Holds}
use Rattle.abt_shell.specs.Status.{Status, Concluded, Stopped, CannotWrite, number_of}
use Rattle.abt_shell.proofs.Calls.{writes-well}
use Rattle.abt_shell.specs.Told.{Grew}
use Rattle.abt_words.specs.declared.itself.Topic.{Topic}
use Rattle.abt_words.specs.About.{AsksAbout, about_word}
use Rattle.abt_callbacks.specs.declared.fold.FoldShape.{FoldShape}
use Rattle.abt_callbacks.specs.Program.{AsksNothing, AsksSum, Call, Explains, IsAnswered, IsSumLine, program}

-- words that ask for a sum do not ask for nothing
nothing-asked : (c : Call) → AsksSum c.words → AsksNothing c.words → ⊥
nothing-asked c sum nothing = nothing.0 sum.workers sum.numbers sum.asks

-- nor about the program
sum-or-about : (words : List Text) → AsksSum words → (topic : Topic) → AsksAbout words topic → ⊥
sum-or-about words sum topic about = two-or-one sum.asks.first (about_word topic) sum.asks.second (sym about ∙ sum.asks.two) where
  two-or-one : (a b c : Text) → b ∷ [] ≡ a ∷ c ∷ [] → ⊥
  two-or-one a b c e = cc

module _ {F : Type 0} (shape_of : F → FoldShape) (May : F → List ℕ → ℕ → Type 0) (fold : F) where
  -- what was printed was asked for
  printed-asked : (c : Call) (text : Text) → IsSumLine shape_of May fold c.words text ⊎ Explains c.words text → AsksNothing c.words → ⊥
  printed-asked c text prints nothing = elim prints [ inl sum ↦ nothing-asked c sum.asked nothing | inr says ↦ nothing.1 says.topic says.asks ]

  -- words that ask for nothing are refused
  refuses-words : (s : Status ⊤) (c : Call) → Holds (program shape_of May fold c) c.left s → AsksNothing c.words → number_of (λ _. 0) s ≡ 2
  refuses-words (Concluded said) c h nothing = absurd (printed-asked c h.text h.prints nothing)
  refuses-words (Stopped BadWords) c h nothing = refl
  refuses-words (Stopped (BadLine line w)) c h nothing = absurd h.cause
  refuses-words (Stopped CannotRead) c h nothing = absurd h.cause
  refuses-words (Stopped OutOfMemory) c h nothing = absurd (nothing-asked c h.cause nothing)
  refuses-words CannotWrite c h nothing = absurd (printed-asked c h.text h.prints nothing)

  -- and those that ask about the program are answered
  explains : (s : Status ⊤) (c : Call) (topic : Topic) → Holds (program shape_of May fold c) c.left s → AsksAbout c.words topic → (Grew c.left.out_faults → ⊥) → number_of (λ _. 0) s ≡ 0
  explains (Concluded said) c topic h about quiet = refl
  explains (Stopped BadWords) c topic h about quiet = absurd (h.cause.1 topic about)
  explains (Stopped (BadLine line w)) c topic h about quiet = absurd h.cause
  explains (Stopped CannotRead) c topic h about quiet = absurd h.cause
  explains (Stopped OutOfMemory) c topic h about quiet = absurd (sum-or-about c.words h.cause topic about)
  explains CannotWrite c topic h about quiet = absurd (quiet h.faults)

  -- so a call that ended by a cause is answered as it should be
  pub answered : (n : ℕ) (c : Call) → EndsBy (program shape_of May fold c) c.left n → IsAnswered shape_of May fold n c
  answered n c ends =
      let s = ends.0 in
      let h = ends.2 in
      subst (λ m. IsAnswered shape_of May fold m c) (sym ends.1) (record {
        cause = (s, refl, h);
        words = λ nothing. refuses-words s c h nothing;
        explains = λ topic about quiet. explains s c topic h about quiet;
        writes = writes-well (program shape_of May fold c) c.left (λ v e. absurd (omega arith)) s h;
      })
