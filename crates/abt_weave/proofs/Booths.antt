-- Booths make lines.
use Rattle.std.proofs.Common.{◌≡◌, ℕ, suc, max, ◌<◌, ◌==◌, Bool, true, false, cond, List, [], ◌∷◌, ◌++◌, map, Some, refl, sym, ◌∙◌, ap, subst, inl, inr}
use Rattle.std.specs.Prelude.{Contains}
use Rattle.std.proofs.lemmas.Bool.{cond-true}
use Rattle.std.proofs.lemmas.List.{map-append}
use Rattle.std.proofs.lemmas.List.Elements.{All-map, All-contains}
use Rattle.abt_booth.specs.Calls.{IsAnswered, IsWorn, IsClosed}
use Rattle.abt_interleave.specs.declared.entries.Entry.{Entry}
use Rattle.abt_interleave.specs.Histories.{Leads, RisesAbove, last_stamp, entry_stamps, calls_of, Extends}
use Rattle.abt_interleave.specs.Deeds.{Heard}
use Rattle.abt_interleave.specs.Machines.{Machine, DeedOf, EntryOf, TellsPlaces}
use Rattle.abt_interleave.specs.Laws.{at_place, AllGive}
use Rattle.abt_interleave.specs.Lines.{IsLine, CallOf, Sees}
use Rattle.abt_interleave.specs.Weaving.{TellsLocks}
use Rattle.abt_interleave.proofs.Histories.{leads-at}
use Rattle.abt_interleave.proofs.Prefixes.{extends-self}
use Rattle.abt_weave.specs.Seen.{call_seen, line_seen}
use Rattle.abt_weave.specs.Laws.{ChangesAt, AnswersShow, SeesWorn, WornShows, OneIsLeft, AllAreLeft}

-- one item more or not, seen
kept-seen : {A B : Type 0} (f : A → B) (b : Bool) (x : A) (ys : List A) (zs : List B) → zs ≡ map f ys → cond b (f x ∷ zs) zs ≡ map f (cond b (x ∷ ys) ys)
kept-seen f true x ys zs e = ap (λ (us : List _). f x ∷ us) e
kept-seen f false x ys zs e = e

module _ (M : Machine) {A R : Type 0} (asks : A → M.Place × M.Act) (tells : R → M.Answer) where
  -- A history and the line that it is seen as: the stamps are the same, and so are the calls of each caller.

  stamps-seen : (h : List (Entry A R)) → entry_stamps (line_seen M asks tells h) ≡ entry_stamps h
  stamps-seen [] = refl
  stamps-seen (e ∷ es) = ap (λ (ts : List ℕ). e.stamp ∷ ts) (stamps-seen es)

  calls-seen : (s : ℕ) (h : List (Entry A R)) → calls_of s (line_seen M asks tells h) ≡ line_seen M asks tells (calls_of s h)
  calls-seen s [] = refl
  calls-seen s (e ∷ es) = kept-seen (call_seen M asks tells) (e.caller == s) e (calls_of s es) (calls_of s (line_seen M asks tells es)) (calls-seen s es)

  extends-seen : (s : ℕ) (seen h : List (Entry A R)) → Extends s seen h → Extends s (line_seen M asks tells seen) (line_seen M asks tells h)
  extends-seen s seen h x = (
    (line_seen M asks tells x.0.0, sym (map-append (call_seen M asks tells) seen x.0.0) ∙ ap (line_seen M asks tells) x.0.1),
    calls-seen s h ∙ (ap (line_seen M asks tells) x.1 ∙ sym (calls-seen s seen)),
  )

  module _ {O : Type 0} (does : O → A → R → O → Type 0) (opening : O) where
    module _ {Lock : Type 0} where
      show : (lock : M.Place → Lock) (carried : Lock → ℕ) (old new : Lock → List (CallOf M)) (s clock at : ℕ) (before after : List (Entry A R)) (act : A) (stamp : ℕ) (answer : R) (d : DeedOf M) →
          ChangesAt M asks tells (lock (asks act).0) old new before after → at ≡ max clock (carried (lock (asks act).0)) →
          IsAnswered does opening s before after at act stamp answer → d.stamp ≡ stamp → d.stream ≡ s →
          Sees M lock carried s old clock d (Some ((asks act).0, (asks act).1, tells answer)) new
      show lock carried old new s clock at before after act stamp answer d change raised a when who =
          let l : Lock = lock (asks act).0 in
          let h : Heard M.Place M.Act M.Answer = ((asks act).0, (asks act).1, tells answer) in
          let met : List (CallOf M) = line_seen M asks tells a.met in (
            (λ k ne. subst (Extends s (old k)) (sym (change.elsewhere k ne)) (extends-self s (old k))),
            met,
            subst (λ line. Extends s line met) (sym change.old_here) (extends-seen s before a.met a.extends),
            change.new_here ∙ (ap (line_seen M asks tells) a.entered ∙ (map-append (call_seen M asks tells) a.met (record { stamp = stamp; caller = s; act = act; answer = answer } ∷ [])
                ∙ (λ i. met ++ record { stamp = sym when i; caller = sym who i; act = asks act; answer = tells answer } ∷ []))),
            when ∙ (a.stamped ∙ (λ i. suc (max (raised i) (last_stamp (sym (stamps-seen a.met) i))))),
          )

      worn : TellsLocks Lock → (l : Lock) (old new : Lock → List (CallOf M)) (s at : ℕ) (before after : List (Entry A R)) (act back : A) →
          ChangesAt M asks tells l old new before after → IsWorn does opening s before after at act back → SeesWorn M l s at old new
      worn locks l old new s at before after act back change w = record {
        extends = λ k. elim (locks l k) [
          | inl e ↦ subst (λ m. Extends s (old m) (new m)) e (subst (λ line. Extends s line (new l)) (sym change.old_here) (subst (Extends s (line_seen M asks tells before)) (sym change.new_here) (extends-seen s before after w.extends)))
          | inr ne ↦ subst (Extends s (old k)) (sym (change.elsewhere k ne)) (extends-self s (old k))
        ];
        worn = (λ i. max at (last_stamp (entry_stamps (change.new_here i)))) ∙ ((λ i. max at (last_stamp (stamps-seen after i))) ∙ w.worn);
      }

    line-left : (n : ℕ) (known : List (ℕ × List (Entry A R))) (object : O) (clock : ℕ) (knew : ℕ → List (Entry A R)) →
        (closed : IsClosed does opening n known object clock) → ((s : ℕ) → s < n → Contains known (s, knew s)) → IsLine M n (λ s. line_seen M asks tells (knew s)) (line_seen M asks tells closed.history)
    line-left n known object clock knew closed there = record {
      rises = subst (RisesAbove 0) (sym (stamps-seen closed.history)) closed.legal.0;
      of_streams = All-map (λ (c : CallOf M). c.caller < n) (call_seen M asks tells) closed.history closed.of_seats;
      seen = λ s lt. extends-seen s (knew s) closed.history (All-contains (λ (k : ℕ × List (Entry A R)). Extends k.0 k.1 closed.history) known (s, knew s) closed.seen (there s lt));
    }

  -- Objects.

  module _ {O : Type 0} (does : O → A → R → O → Type 0) where
    one : TellsPlaces M → (x : M.Place) (object_of : O → M.Object) → ((a : A) → (asks a).0 ≡ x) → ((o : O) (a : A) (r : R) (p : O) → does o a r p → M.Gives (object_of o) (asks a).1 (tells r) (object_of p)) →
        (o p : O) (history : List (Entry A R)) → Leads does o history p → Leads M.Gives (object_of o) (at_place M x (line_seen M asks tells history)) (object_of p)
    one places x object_of here gives o p [] l = ap object_of l
    one places x object_of here gives o p (e ∷ es) l =
        let entry : EntryOf M = record { stamp = e.stamp; caller = e.caller; act = (asks e.act).1; answer = tells e.answer } in
        let rest : List (EntryOf M) = at_place M x (line_seen M asks tells es) in
        subst (λ fs. Leads M.Gives (object_of o) fs (object_of p)) (sym (cond-true (M.same (asks e.act).0 x) (entry ∷ rest) rest ((places (asks e.act).0 x).1 (here e.act))))
        (object_of l.0, gives o e.act e.answer l.0 l.1, one places x object_of here gives l.0 p es l.2)

    together : (objects_of : O → M.Place → M.Object) → ((o : O) (a : A) (r : R) (p : O) → does o a r p → AllGive M (objects_of o) (asks a) (tells r) (objects_of p)) →
        (o p : O) (history : List (Entry A R)) → Leads does o history p → Leads (AllGive M) (objects_of o) (line_seen M asks tells history) (objects_of p)
    together objects_of gives o p [] l = ap objects_of l
    together objects_of gives o p (e ∷ es) l = (objects_of l.0, gives o e.act e.answer l.0 l.1, together objects_of gives l.0 p es l.2)

module _ (M : Machine) {O A R : Type 0} (does : O → A → R → O → Type 0) where
  pub answers-show : (Lock : Type 0) → AnswersShow M does Lock
  answers-show Lock asks tells opening lock carried old new s clock at before after act stamp answer d change raised a when who = show M asks tells does opening lock carried old new s clock at before after act stamp answer d change raised a when who

  pub worn-shows : (Lock : Type 0) → WornShows M does Lock
  worn-shows Lock locks asks tells opening l old new s at before after act back change w = worn M asks tells does opening locks l old new s at before after act back change w

  pub one-is-left : (Lock : Type 0) → OneIsLeft M does Lock
  one-is-left Lock places lock x alone object_of asks tells here gives opening object n known clock knew objects finals closed there begins ends = record {
    line = line_seen M asks tells closed.history;
    is_line = line-left M asks tells does opening n known object clock knew closed there;
    last = closed.last ∙ ap last_stamp (sym (stamps-seen M asks tells closed.history));
    leads = λ y same. subst (λ z. Leads M.Gives (objects z) (at_place M z (line_seen M asks tells closed.history)) (finals z)) (sym (alone y same))
        (subst (λ q. Leads M.Gives (objects x) (at_place M x (line_seen M asks tells closed.history)) q) ends
        (subst (λ q. Leads M.Gives q (at_place M x (line_seen M asks tells closed.history)) (object_of object)) begins
        (one M asks tells does places x object_of here gives opening object closed.history closed.legal.1)));
  }

  pub all-are-left : (Lock : Type 0) → AllAreLeft M does Lock
  all-are-left Lock places lock l objects_of asks tells gives opening object n known clock knew objects finals closed there same = record {
    line = line_seen M asks tells closed.history;
    is_line = line-left M asks tells does opening n known object clock knew closed there;
    last = closed.last ∙ ap last_stamp (sym (stamps-seen M asks tells closed.history));
    leads = λ x here. subst (λ q. Leads M.Gives (objects x) (at_place M x (line_seen M asks tells closed.history)) q) (same x here).1
        (subst (λ q. Leads M.Gives q (at_place M x (line_seen M asks tells closed.history)) (objects_of object x)) (same x here).0
        (leads-at M places x (line_seen M asks tells closed.history) (objects_of opening) (objects_of object) (together M asks tells does objects_of gives opening object closed.history closed.legal.1)));
  }
