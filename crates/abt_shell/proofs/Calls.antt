-- How a call ends, by what was prepared and written.
use Rattle.std.proofs.Common.{◌≡◌, ◌≢◌, ◌⊎◌, ◌∙◌, ◌++◌, ℕ, [], append-nil, codes, Option, Some, None, option_map, Result, Ok, Err, inl, inr, refl, sym, ap, subst, arith}
use Rattle.std.specs.Prelude.{IfErr, IfOk, IfSome, IsErrOf}
use Rattle.abt_machine.specs.Words.{Text}
use Rattle.abt_source.specs.Fault.{blame_of}
use Rattle.abt_source.specs.declared.fault.Blamed.{Blamed}
use Rattle.abt_source.specs.declared.fault.Reason.{Reason}
use Rattle.abt_shell.specs.declared.status.Stop.{Stop}
use Rattle.abt_shell.specs.declared.status.Stop.TheVariants.{BadWords, BadLine, CannotRead, OutOfMemory}
use Rattle.abt_shell.specs.Calls.{EndsBy, Holds, Left, Program}
use Rattle.abt_shell.specs.More.{Adds, IsBlame, IsStopTold, blame_text, more_after}
use Rattle.abt_shell.specs.Status.{Status, Concluded, Stopped, CannotWrite, number_of, number_of_stop, stop_text}
use Rattle.abt_shell.specs.Told.{Gained, Grew, IsTold, WroteAll, WrotePart}

-- what is known if it went well
pub if-ok : {A E : Type 0} (r : Result A E) (P Q : A → Type 0) → ((a : A) → P a → Q a) → IfOk r P → IfOk r Q
if-ok (Ok a) P Q more known = more a known
if-ok (Err e) P Q more known = known

-- and if it did not
pub if-err : {A E : Type 0} (r : Result A E) (P Q : E → Type 0) → ((e : E) → P e → Q e) → IfErr r P → IfErr r Q
if-err (Ok a) P Q more known = known
if-err (Err e) P Q more known = more e known

bad-words-have-memory : BadWords ≡ OutOfMemory → ⊥
bad-words-have-memory e = cc

memory-reads : OutOfMemory ≡ CannotRead → ⊥
memory-reads e = cc

-- what is known if there is a value
pub if-some : {A : Type 0} (o : Option A) (P Q : A → Type 0) → ((a : A) → P a → Q a) → IfSome o P → IfSome o Q
if-some None P Q more known = known
if-some (Some a) P Q more known = more a known

-- What is said after the line of a stop.

-- what is said of a file that is to blame
blamed-adds : (Names : Text → Type 0) (blame : Option (Text × Reason)) → IfSome blame (λ b. Names b.0) → (blame_text blame ≡ []) ⊎ IsBlame Names (blame_text blame)
blamed-adds Names None named = inl refl
blamed-adds Names (Some blame) named = inr (blame.0, named, (blame.1, refl))

-- what is said after a line may be said there, if the file that is to blame is one of these
after-adds : (usage : Text) (Names : Text → Type 0) (blame : Option (Text × Reason)) (s : Stop) → (s ≡ CannotRead → IfSome blame (λ b. Names b.0)) → Adds usage Names s (more_after usage blame s)
after-adds usage Names blame BadWords named = refl
after-adds usage Names blame (BadLine line w) named = refl
after-adds usage Names blame CannotRead named = blamed-adds Names blame (named refl)
after-adds usage Names blame OutOfMemory named = refl

-- the file that was begun last is to blame
begun-named : (Names : Text → Type 0) (begun : Option Text) (fault : Option Blamed) → IfSome begun Names → IfSome fault (λ blamed. begun ≡ Some blamed.name.now) → IfSome (option_map blame_of fault) (λ b. Names b.0)
begun-named Names begun None known its = tt
begun-named Names begun (Some blamed) known its = subst (λ (o : Option Text). IfSome o Names) its known

-- so what `more_of` gives may be said, if that file is one that the words name
pub adds-known : (usage said : Text) (Names : Text → Type 0) (begun : Option Text) (fault : Option Blamed) (s : Stop) (more : Text) → said ≡ usage → (s ≡ CannotRead → IfSome begun Names)
    → IfSome fault (λ blamed. begun ≡ Some blamed.name.now) → more ≡ more_after said (option_map blame_of fault) s → Adds usage Names s more
adds-known usage said Names begun fault s more same named its is =
    subst (Adds usage Names s) (sym (is ∙ ap (λ (u : Text). more_after u (option_map blame_of fault) s) same))
    (after-adds usage Names (option_map blame_of fault) s (λ stops. begun-named Names begun fault (named stops) its))

-- and if no file is
pub adds-usage : (usage said : Text) (s : Stop) (more : Text) → said ≡ usage → more ≡ more_after said None s → Adds usage (λ file. ⊥) s more
adds-usage usage said s more same is = subst (Adds usage (λ file. ⊥) s) (sym (is ∙ ap (λ (u : Text). more_after u None s) same)) (after-adds usage (λ file. ⊥) None s (λ stops. tt))

-- what is known of the file that was begun last is known of a call that cannot read
pub if-unread : {A : Type 0} (r : Result A Stop) (P : Type 0) → P → IfErr r (λ s. s ≡ CannotRead → P)
if-unread (Ok a) P known = tt
if-unread (Err s) P known = λ stops. known

-- which reads nothing, if memory alone can be refused
pub if-refused : {A : Type 0} (r : Result A Stop) (P : Type 0) → IfErr r (λ s. s ≡ OutOfMemory) → IfErr r (λ s. s ≡ CannotRead → P)
if-refused (Ok a) P memory = tt
if-refused (Err s) P memory = λ stops. absurd (memory-reads (sym memory ∙ stops))

module _ {C : Type 0} (P : Program C) (left : Left) where
  -- what was prepared was written, or a prefix of it
  pub concluded : (conclusion : C) (text : Text) (number n : ℕ) → P.Prints conclusion text → number ≡ P.number conclusion
      → ((n ≡ number) × WroteAll left.out left.err text) ⊎ ((n ≡ 6) × WrotePart left.out left.out_faults left.err left.err_faults text (P.name ++ codes ": cannot write\n")) → EndsBy P left n
  concluded conclusion text number n prints is wrote = elim wrote [
    | inl all ↦ (Concluded conclusion, all.0 ∙ is, record { text = text; prints = prints; out = all.1.whole; err = all.1.silent })
    | inr part ↦ (CannotWrite, part.0, record { conclusion = conclusion; text = text; prints = prints; out = part.1.prefix; faults = part.1.faults; err = part.1.told })
  ]

  -- or the message of what stopped the call, and what is said after its line
  pub stopped : (cause stop : Stop) (more : Text) (n : ℕ) → P.Stops cause → P.Stops OutOfMemory → P.Adds cause more → P.Adds OutOfMemory [] → n ≡ number_of_stop stop → Gained left.out []
      → IsStopTold left.err left.err_faults P.name cause more stop → EndsBy P left n
  stopped cause stop more n stops memory adds none is out told = elim told [
    | inl same ↦ (Stopped cause, is ∙ ap number_of_stop same.0, record { cause = stops; out = out; more = more; adds = adds; err = same.1 })
    | inr refused ↦ (
      Stopped OutOfMemory,
      is ∙ ap number_of_stop refused.0,
      record { cause = memory; out = out; more = []; adds = none; err = subst (λ (text : Text). IsTold left.err left.err_faults (P.name ++ text)) (sym (append-nil (stop_text OutOfMemory))) refused.1 },
    )
  ]

  -- which no memory was refused to, if the words were bad
  pub refused-words : (stop : Stop) (more : Text) (n : ℕ) → P.Stops BadWords → P.Adds BadWords more → n ≡ number_of_stop stop → Gained left.out []
      → IsStopTold left.err left.err_faults P.name BadWords more stop → stop ≡ BadWords → EndsBy P left n
  refused-words stop more n stops adds is out told words = elim told [
    | inl same ↦ (Stopped BadWords, is ∙ ap number_of_stop same.0, record { cause = stops; out = out; more = more; adds = adds; err = same.1 })
    | inr refused ↦ let never : BadWords ≡ OutOfMemory = sym words ∙ refused.0 in absurd (bad-words-have-memory never)
  ]

  -- without a fault of reading the status is not 5
  pub reads-well : ((conclusion : C) → P.number conclusion ≢ 5) → (P.Stops CannotRead → Grew left.read_faults) → (s : Status C) → Holds P left s → (Grew left.read_faults → ⊥) → number_of P.number s ≢ 5
  reads-well other grew (Concluded conclusion) h still = other conclusion
  reads-well other grew (Stopped BadWords) h still = λ e. absurd (omega arith)
  reads-well other grew (Stopped (BadLine line w)) h still = λ e. absurd (omega arith)
  reads-well other grew (Stopped CannotRead) h still = absurd (still (grew h.cause))
  reads-well other grew (Stopped OutOfMemory) h still = λ e. absurd (omega arith)
  reads-well other grew CannotWrite h still = λ e. absurd (omega arith)

  -- and without one of writing it is not 6
  pub writes-well : ((conclusion : C) → P.number conclusion ≢ 6) → (s : Status C) → Holds P left s → (Grew left.out_faults → ⊥) → number_of P.number s ≢ 6
  writes-well other (Concluded conclusion) h still = other conclusion
  writes-well other (Stopped BadWords) h still = λ e. absurd (omega arith)
  writes-well other (Stopped (BadLine line w)) h still = λ e. absurd (omega arith)
  writes-well other (Stopped CannotRead) h still = λ e. absurd (omega arith)
  writes-well other (Stopped OutOfMemory) h still = λ e. absurd (omega arith)
  writes-well other CannotWrite h still = absurd (still h.faults)

-- what went well did not stop, and what stopped did so for one reason
pub not-stopped : {A : Type 0} (a : A) (stop : Stop) → IsErrOf (Ok a) stop → ⊥
not-stopped a stop e = cc

pub stopped-by : {A : Type 0} (cause stop : Stop) → IsErrOf {T = A} (Err cause) stop → cause ≡ stop
stopped-by cause stop e = cc

-- a call that could not read ends with 5, or with 7 if memory was refused
pub missing-ends : (n : ℕ) (cause stop : Stop) → (cause ≡ CannotRead) ⊎ (cause ≡ OutOfMemory) → n ≡ number_of_stop stop → (stop ≡ cause) ⊎ (stop ≡ OutOfMemory) → (n ≡ 5) ⊎ (n ≡ 7)
missing-ends n cause stop (inl why) is (inl same) = inl (is ∙ ap number_of_stop (same ∙ why))
missing-ends n cause stop (inr why) is (inl same) = inr (is ∙ ap number_of_stop (same ∙ why))
missing-ends n cause stop why is (inr none) = inr (is ∙ ap number_of_stop none)
