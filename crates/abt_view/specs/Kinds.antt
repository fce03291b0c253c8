-- The kinds of events, each as a word, and counts of a journal.
use Rattle.std.specs.Prelude.{ℕ, Bool, true, false, List, codes, count_by, fold, max}
use Rattle.abt_machine.specs.declared.events.Code.{Code}
use Rattle.abt_machine.specs.declared.events.Code.TheVariants as code
use Rattle.abt_machine.specs.declared.events.Event.{Event}
use Rattle.abt_machine.specs.declared.events.What.{What}
use Rattle.abt_machine.specs.declared.events.What.TheVariants as what
use Rattle.abt_machine.specs.Texts.{cause_name}
use Rattle.abt_machine.specs.Words.{Text}

-- a step that was refused is a kind of its own
abbrev pub step_word : Code → Text
step_word code.Ok = codes "step"
step_word _ = codes "refused"

-- the kind of an event; an end has its cause
abbrev pub kind_word : What → Text
kind_word (what.Miss p) = codes "miss"
kind_word (what.Take p u) = codes "take"
kind_word (what.Look u) = codes "look"
kind_word (what.Step u k c) = step_word c
kind_word (what.Call u k n) = codes "call"
kind_word (what.Put u p) = codes "put"
kind_word (what.End u c) = cause_name c
kind_word (what.Enter u) = codes "enter"
kind_word (what.Leave u) = codes "leave"

-- whether a step with this code was refused
abbrev pub is_refusal : Code → Bool
is_refusal code.Ok = false
is_refusal _ = true

abbrev pub is_refused : What → Bool
is_refused (what.Step u k c) = is_refusal c
is_refused _ = false

-- how many steps of a journal were refused
abbrev pub refused_in : List Event → ℕ
refused_in J = count_by (λ (e : Event). is_refused e.what) J

-- the greatest stamp of a journal, or 0 if it has no event
abbrev pub greatest_stamp : List Event → ℕ
greatest_stamp J = fold (λ n (e : Event). max n e.stamp) 0 J
