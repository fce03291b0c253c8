-- Where the reader of lives stands in its text.
use Rattle.std.proofs.Common.{◌≡◌, ◌≢◌, ◌<◌, ◌≤◌, ◌+◌, ◌∙◌, ℕ, true, false, List, [], ◌∷◌, ◌++◌, length, length-append, flat_map, ap, refl, subst, sym, arith, append_assoc, inl, inr}
use Rattle.std.specs.List.{All}
use Rattle.std.proofs.lemmas.List.{append-nil}
use Rattle.abt_machine.specs.declared.workload.Parts.{Parts}
use Rattle.abt_machine.specs.Valid.{IsValid}
use Rattle.abt_machine.specs.Words.{Text, ended, line_of}
use Rattle.abt_report.specs.declared.text_fault.TextFault.TheVariants.{Bad}
use Rattle.abt_streams.specs.declared.life.Life.{Life}
use Rattle.abt_streams.specs.Lives.{AreLives, MayFollow}
use Rattle.abt_streams.specs.Texts.{IsBadLifeAt, IsCut, IsLivesCause, IsNoFeed, IsNoLife, IsTextOfLives, Takes, is_skipped_line, life_words, lives_text, parts_of, told, told_by}
use Rattle.abt_streams.proofs.Cutting.{cut-same}
use Rattle.abt_streams.proofs.FirstLines.{ended-front, no-feed}
use Rattle.abt_streams.proofs.NoLives.{BeginsNoLife, lines-push, lives-push, no-lives, text-push}
use Rattle.abt_streams.proofs.Telling.{parts-ended, parts-last, parts-more, some-byte, told-keep, told-nil, told-push, told-skip}
use Rattle.abt_streams.proofs.Words.{plain-line, short}

-- no life's line begins what a text tells whose first line is none
no-line : (W : Parts) (before : List Life) (text line whole rest : Text) → IsValid W → IsCut text line whole rest → is_skipped_line line ≡ false → IsNoLife W before whole → BeginsNoLife W before (told text)
no-line W before text line whole rest valid cut keeps none life more may begins =
    let words : Text = line_of (life_words life) in
    let plain : All IsNoFeed words = plain-line life (short W before life valid may) in
    let split : ended words ++ more ≡ whole ++ told rest = begins ∙ told-keep text line whole rest cut keeps in
    elim cut.ends [
      | inl e ↦
          (let same = cut-same 10 words line more (told rest) plain cut.plain (ended-front words more (ended line ++ told rest) (split ∙ ap (λ (w : Text). w ++ told rest) e) ∙ append_assoc line (10 ∷ []) (told rest)) in
          none life may (ap ended same.0 ∙ sym e))
      | inr e ↦
          no-feed words more line (split ∙ (ap (λ (r : Text). whole ++ told r) e.1 ∙ (ap (λ (t : Text). whole ++ t) told-nil ∙ (append-nil whole ∙ e.0)))) cut.plain
    ]

-- Behind n lines the reader has these lives, and the rest is still to be read.
pub record Stands (W : Parts) (bytes : Text) (lives : List Life) (n : ℕ) (rest : Text) : Type 0 where
  pub are : AreLives W lives
  pub text : lives_text lives ++ told rest ≡ told bytes
  pub few : n + length rest ≤ length bytes
  pub place : 0 < length rest → (above : List Text) × (parts_of bytes ≡ above ++ parts_of rest) × (length above ≡ n) × (lives_text lives ≡ flat_map told_by above)

pub begins : (W : Parts) (bytes : Text) → Stands W bytes [] 0 bytes
begins W bytes = record { are = tt; text = refl; few = omega arith; place = λ some. ([], refl, refl, refl) }

-- at the end all is told
pub ends : (W : Parts) (bytes : Text) (lives : List Life) (n : ℕ) (rest : Text) → Stands W bytes lives n rest → length rest ≡ 0 → IsTextOfLives lives bytes
ends W bytes lives n [] stands none = sym (append-nil (lives_text lives)) ∙ (ap (λ (t : Text). lives_text lives ++ t) (sym told-nil) ∙ stands.text)
ends W bytes lives n (b ∷ bs) stands none = absurd (omega arith)

module _ (W : Parts) (bytes : Text) (lives : List Life) (n : ℕ) (text line whole rest : Text) (valid : IsValid W) (stands : Stands W bytes lives n text) (some : 0 < length text) (cut : IsCut text line whole rest) where
  -- why the bytes are the text of no lives
  pub bad : is_skipped_line line ≡ false → IsNoLife W lives whole → IsLivesCause W bytes (Bad (n + 1))
  bad keeps none =
      let place = stands.place some in
      let begins = no-line W lives text line whole rest valid cut keeps none in
      let byte = some-byte text line whole rest cut some in
      let tells = told-keep text line whole rest cut keeps in
      let filled : told text ≢ [] = λ e. absurd (omega (arith, byte, ap length tells, ap length e, length-append whole (told rest))) in (
        bad-place place.0 place.1 place.2 place.3,
        λ others are' same. no-lives W [] lives lives others (told text) (told bytes) valid refl stands.are stands.text filled begins are' same,
      ) where
        found : (above below : List Text) → parts_of bytes ≡ above ++ line ∷ below → length above ≡ n → lives_text lives ≡ flat_map told_by above →
            ((life : Life) → MayFollow W lives life → line_of (life_words life) ≡ line → below ≡ []) → IsBadLifeAt W bytes (n + 1)
        found above below parts number tells apart = record {
          above = above;
          line = line;
          below = below;
          parts = parts;
          number = omega (arith, number);
          before = lives;
          lives = stands.are;
          text = tells;
          told = keeps;
          none = apart;
        }

        bad-place : (above : List Text) → parts_of bytes ≡ above ++ parts_of text → length above ≡ n → lives_text lives ≡ flat_map told_by above → IsBadLifeAt W bytes (n + 1)
        bad-place above parts number tells = elim cut.ends [
          | inl e ↦
              found above (parts_of rest) (parts ∙ ap (λ (ls : List Text). above ++ ls) (ap parts_of (sym cut.joined ∙ ap (λ (w : Text). w ++ rest) e) ∙ parts-ended line rest cut.plain)) number tells
              (λ life may is. absurd (none life may (ap ended is ∙ sym e)))
          | inr e ↦
              found above [] (parts ∙ ap (λ (ls : List Text). above ++ ls) (ap parts_of (sym cut.joined ∙ (ap (λ (r : Text). whole ++ r) e.1 ∙ (append-nil whole ∙ e.0))) ∙ parts-last line cut.plain)) number tells (λ life may is. refl)
        ]

  -- a line further
  further : (after : List Life) → AreLives W after → lives_text after ++ told rest ≡ told bytes → (whole ≡ ended line → lives_text after ≡ lives_text lives ++ told_by line) → Stands W bytes after (n + 1) rest
  further after are at more = record {
    are = are;
    text = at;
    few = (let byte = some-byte text line whole rest cut some in omega (arith, stands.few, byte, ap length cut.joined, length-append whole rest));
    place = (λ some'.
        let place = stands.place some in
        let parts = parts-more text line whole rest cut some' in (
          place.0 ++ line ∷ [],
          place.1 ∙ (ap (λ (ls : List Text). place.0 ++ ls) parts.1 ∙ sym (append_assoc place.0 (line ∷ []) (parts_of rest))),
          length-append place.0 (line ∷ []) ∙ ap (λ k. k + 1) place.2,
          more parts.0 ∙ (ap (λ (t : Text). t ++ told_by line) place.3 ∙ sym (told-push place.0 line)),
        ));
  }

  -- behind a line that breaks no rule
  pub goes-on : (after : List Life) → Takes W lives line whole true after → Stands W bytes after (n + 1) rest
  goes-on after takes = elim takes [
    | inl skips ↦
        subst (λ (ls : List Life). Stands W bytes ls (n + 1) rest) (sym skips.1)
        (further lives stands.are (ap (λ (t : Text). lives_text lives ++ t) (sym (told-skip text line whole rest cut skips.0)) ∙ stands.text)
        (λ e. rw skips.0 (sym (append-nil (lives_text lives)))))
    | inr adds ↦
        (let life = adds.1.0 in
        let may = adds.1.1 in
        subst (λ (ls : List Life). Stands W bytes ls (n + 1) rest) (sym adds.1.3)
        (further (lives ++ life ∷ []) (lives-push W lives life stands.are may)
        (text-push lives life (told bytes) (told text) whole (told rest) stands.text (sym (told-keep text line whole rest cut adds.0)) adds.1.2)
        (λ e. lines-push lives life ∙ ap (λ (t : Text). lives_text lives ++ t) (adds.1.2 ∙ (e ∙ rw adds.0 refl)))))
  ]
