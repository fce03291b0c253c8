-- What a text tells, line by line.
use Rattle.std.proofs.Common.{◌≡◌, ◌<◌, ◌==◌, ◌∙◌, Bool, true, false, List, [], ◌∷◌, ◌++◌, length, length-append, refl, sym, ap, arith, append_assoc, flat_map, inl, inr}
use Rattle.std.specs.List.{All}
use Rattle.std.proofs.lemmas.Bool.Decides.{nat_tests}
use Rattle.std.proofs.lemmas.Grind.{flat_map-append}
use Rattle.std.proofs.lemmas.List.{append-nil}
use Rattle.std.proofs.lemmas.List.Splits.{length-slice_split, slice_split_none}
use Rattle.abt_machine.specs.Words.{Text, ended}
use Rattle.abt_streams.proofs.Cutting.{first-part}
use Rattle.abt_streams.specs.Texts.{IsCut, IsNoFeed, is_skipped_line, parts_of, told, told_by, told_in}

-- a text has a first line
some-part : (text : Text) → (line : Text) × (lines : List Text) × (parts_of text ≡ line ∷ lines)
some-part text = by (parts_of text) refl where
  by : (parts : List Text) → parts_of text ≡ parts → (line : Text) × (lines : List Text) × (parts_of text ≡ line ∷ lines)
  by [] e = let long = length-slice_split (λ b. b == 10) text in absurd (omega (arith, ap length e, long))
  by (line ∷ lines) e = (line, lines, e)

-- the lines of a text are its first, and those of what follows it
pub parts-ended : (line rest : Text) → All IsNoFeed line → parts_of (ended line ++ rest) ≡ line ∷ parts_of rest
parts-ended line rest plain = ap parts_of (append_assoc line (10 ∷ []) rest) ∙ first-part 10 line rest plain

-- or the first is the only one
pub parts-last : (line : Text) → All IsNoFeed line → parts_of line ≡ line ∷ []
parts-last line plain = slice_split_none (λ b. b == 10) line (λ k d lt. let other = plain k d lt in grind (arith, nat_tests))

told-more : (line : Text) (lines : List Text) (next : Text) (more : List Text) → lines ≡ next ∷ more → told_in (line ∷ lines) ≡ told_by line ++ told_in lines
told-more line lines next more e = rw e refl

told-ended : (line rest : Text) → All IsNoFeed line → told (ended line ++ rest) ≡ told_by line ++ told rest
told-ended line rest plain = let next = some-part rest in ap told_in (parts-ended line rest plain) ∙ told-more line (parts_of rest) next.0 next.1 next.2

told-last : (line : Text) → All IsNoFeed line → told line ≡ told_in (line ∷ [])
told-last line plain = ap told_in (parts-last line plain)

-- nothing tells nothing
pub told-nil : told [] ≡ []
told-nil = by (is_skipped_line []) refl where
  by : (b : Bool) → is_skipped_line [] ≡ b → told_in ([] ∷ []) ≡ []
  by true e = rw e refl
  by false e = rw e refl

module _ (text line whole rest : Text) (cut : IsCut text line whole rest) where
  -- behind a line that is skipped a text tells as much
  pub told-skip : is_skipped_line line ≡ true → told text ≡ told rest
  told-skip skips = elim cut.ends [
    | inl e ↦ ap told (sym cut.joined ∙ ap (λ (w : Text). w ++ rest) e) ∙ (told-ended line rest cut.plain ∙ rw skips refl)
    | inr e ↦ ap told (sym cut.joined ∙ (ap (λ (r : Text). whole ++ r) e.1 ∙ (append-nil whole ∙ e.0))) ∙ (told-last line cut.plain ∙ (rw skips refl ∙ (sym told-nil ∙ ap told (sym e.1))))
  ]

  -- any other line is told
  pub told-keep : is_skipped_line line ≡ false → told text ≡ whole ++ told rest
  told-keep keeps = elim cut.ends [
    | inl e ↦ ap told (sym cut.joined ∙ ap (λ (w : Text). w ++ rest) e) ∙ (told-ended line rest cut.plain ∙ (rw keeps refl ∙ ap (λ (w : Text). w ++ told rest) (sym e)))
    | inr e ↦ ap told (sym cut.joined ∙ (ap (λ (r : Text). whole ++ r) e.1 ∙ (append-nil whole ∙ e.0))) ∙ (told-last line cut.plain ∙ (rw keeps refl ∙ (sym e.0 ∙ (sym (append-nil whole) ∙ ap (λ (t : Text). whole ++ t) (sym told-nil ∙ ap told (sym e.1))))))
  ]

  -- a line has a byte where the text has one
  pub some-byte : 0 < length text → 0 < length whole
  some-byte some = elim cut.ends [
    | inl e ↦ rw e (omega (arith, length-append line (10 ∷ [])))
    | inr e ↦ (let same : whole ≡ text = sym (append-nil whole) ∙ (ap (λ (r : Text). whole ++ r) (sym e.1) ∙ cut.joined) in rw same some)
  ]

  -- behind it there is more only where it has its line feed
  pub parts-more : 0 < length rest → (whole ≡ ended line) × (parts_of text ≡ line ∷ parts_of rest)
  parts-more more = elim cut.ends [
    | inl e ↦ (e, ap parts_of (sym cut.joined ∙ ap (λ (w : Text). w ++ rest) e) ∙ parts-ended line rest cut.plain)
    | inr e ↦ absurd (omega (arith, more, ap length e.1))
  ]

-- what one line more tells
pub told-push : (above : List Text) (line : Text) → flat_map told_by (above ++ line ∷ []) ≡ flat_map told_by above ++ told_by line
told-push above line = flat_map-append told_by above (line ∷ []) ∙ ap (λ (t : Text). flat_map told_by above ++ t) (append-nil (told_by line))
