-- Texts, cut behind their first line feed.
use Rattle.std.proofs.Common.{◌≡◌, ◌<◌, ◌+◌, ◌∙◌, ℕ, [], ◌∷◌, ◌++◌, length, take, drop, get_or, refl, ap, sym, arith, append_assoc, length-append, inl, inr}
use Rattle.std.specs.List.{All}
use Rattle.std.proofs.Math.Seq.{get_or-append_seam}
use Rattle.std.proofs.lemmas.List.{append-nil, take-append-drop, take_more}
use Rattle.abt_machine.specs.Words.{Text, ended}
use Rattle.abt_streams.specs.Texts.{IsCut, IsNoFeed}

-- a line with its line feed, and what follows
pub ended-front : (line more text : Text) → ended line ++ more ≡ text → line ++ 10 ∷ more ≡ text
ended-front line more text is = sym (append_assoc line (10 ∷ []) more) ∙ is

-- a text without line feeds has no ended line
pub no-feed : (line more text : Text) → ended line ++ more ≡ text → All IsNoFeed text → ⊥
no-feed line more text is plain =
    let split : line ++ 10 ∷ more ≡ text = ended-front line more text is in
    plain (length line) 0 (omega (arith, ap length split, length-append line (10 ∷ more))) (ap (λ (t : Text). get_or t (length line) 0) (sym split) ∙ get_or-append_seam line 10 more 0)

-- a text is cut behind its first line feed
pub cut-at : (text line whole rest : Text) (i : ℕ) → i < length text → All IsNoFeed (take i text) → get_or text i 0 ≡ 10 → line ≡ take i text → whole ≡ take (i + 1) text → rest ≡ drop (i + 1) text →
    IsCut text line whole rest
cut-at text line whole rest i lt before at front cut behind = record {
  joined = rw (cut, behind) (take-append-drop (i + 1) text);
  plain = rw front before;
  ends = inl (cut ∙ (take_more text i 0 lt ∙ (ap (λ b. take i text ++ b ∷ []) at ∙ ap ended (sym front))));
}

-- or is one line
pub cut-nowhere : (text : Text) → All IsNoFeed text → IsCut text text text []
cut-nowhere text plain = record { joined = append-nil text; plain = plain; ends = inr (refl, refl) }
