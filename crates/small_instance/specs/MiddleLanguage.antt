-- The meaning of the middle language.
use Rattle.std.specs.Prelude.{ℕ, zero, suc, ◌+◌, Bool, true, false, if◌then◌else◌, List, slice_get, Option, Some, None}
use Rattle.simulation.specs.Machine.{Sorts, Event, Goes, Ends, Calls, Answers, Breaks, Enters, Lang}
use Rattle.small_instance.specs.declared.lowered.Atom.{Atom}
use Rattle.small_instance.specs.declared.lowered.Atom.TheVariants.{Constant, Load, Temporary}
use Rattle.small_instance.specs.declared.lowered.Passed.{Passed}
use Rattle.small_instance.specs.declared.lowered.Passed.TheVariants.{Cell, Slot}
use Rattle.small_instance.specs.declared.lowered.Step.{Step}
use Rattle.small_instance.specs.declared.lowered.Step.TheVariants.{Select, Keep, Fill, Pass, Put, Unless, Jump, Call, Back, Halt}
use Rattle.small_instance.specs.Store.{Ending, Plain, Stopped, Fault, OutOfBlock, NoStatement, NoUnit, IsActive, Store, Bound, Called, Value, Is, Bad, Tied, Ties, Untied, set_cell, cell_of, defined, fetch, tie_cell, tie_value, with_fresh, without_fresh}

pub record View : Type 0 where
  pub at : ℕ
  pub bound : Bound
  -- which name it was called by
  pub by_second : Bool
  -- the temporaries, and the slots for values
  pub saved : Option ℕ
  pub answer : Option ℕ
  pub first_slot : Option ℕ
  pub second_slot : Option ℕ

abbrev pub middle_sorts : Sorts
middle_sorts = record { Code = List Step; View = View; Shared = Store; Name = Called; Arg = Bound; Ans = ℕ; Fault = Fault }

abbrev pub MiddleEvent : Type 0
MiddleEvent = Event Ending middle_sorts

abbrev pub then_value : Value → (ℕ → MiddleEvent) → MiddleEvent
then_value (Is x) next = next x
then_value (Bad f) next = Breaks f

abbrev pub then_cell : Option ℕ → (ℕ → MiddleEvent) → MiddleEvent
then_cell (Some c) next = next c
then_cell None next = Breaks OutOfBlock

abbrev pub then_tied : Tied → (ℕ → Option ℕ → MiddleEvent) → MiddleEvent
then_tied (Ties c x) next = next c x
then_tied (Untied f) next = Breaks f

abbrev pub temporary : View → Bool → Option ℕ
temporary v false = v.saved
temporary v true = v.answer

abbrev pub slot : View → Bool → Option ℕ
slot v false = v.first_slot
slot v true = v.second_slot

abbrev pub value_of : View → Store → Atom → Value
value_of v s (Constant n) = Is n
value_of v s (Load p) = fetch v.bound s p
value_of v s (Temporary k) = defined (temporary v k)

abbrev pub tie : View → ℕ → Bool → Passed → Tied
tie v fresh k (Cell p) = tie_cell (cell_of v.bound p)
tie v fresh k Slot = tie_value fresh (defined (slot v k))

abbrev pub with_temporary : Bool → ℕ → View → View
with_temporary false x v = record v { saved = Some x }
with_temporary true x v = record v { answer = Some x }

abbrev pub with_slot : Bool → ℕ → View → View
with_slot false x v = record v { first_slot = Some x }
with_slot true x v = record v { second_slot = Some x }

abbrev pub goes_to : View → ℕ → Store → MiddleEvent
goes_to v n s = Goes (record v { at = n }) s

abbrev pub branch : View → ℕ → Store → ℕ → MiddleEvent
branch v n s zero = goes_to v n s
branch v n s (suc x) = goes_to v (v.at + 1) s

abbrev pub calling_unit : View → Store → Called → Passed → Passed → MiddleEvent
calling_unit v s callee a b =
    then_tied (tie v s.height false a) (λ c x.
    then_tied (tie v (s.height + 1) true b) (λ d y.
    Calls v (with_fresh x y s) callee (record { first = c; second = d })))

abbrev pub deed : Option Step → View → Store → MiddleEvent
deed None v s = Breaks NoStatement
deed (Some (Select n)) v s = goes_to v (if v.by_second then n else v.at + 1) s
deed (Some (Keep k a)) v s = then_value (value_of v s a) (λ x. goes_to (with_temporary k x v) (v.at + 1) s)
deed (Some (Fill k a)) v s = then_value (value_of v s a) (λ x. goes_to (with_slot k x v) (v.at + 1) s)
deed (Some Pass) v s = goes_to v (v.at + 1) s
deed (Some (Put p a b)) v s = then_value (value_of v s a) (λ x. then_value (value_of v s b) (λ y. then_cell (cell_of v.bound p) (λ c. goes_to v (v.at + 1) (set_cell c (x + y) s))))
deed (Some (Unless p n)) v s = then_value (fetch v.bound s p) (branch v n s)
deed (Some (Jump n)) v s = goes_to v n s
deed (Some (Call unit by_second a b)) v s = calling_unit v s (record { unit = unit; by_second = by_second }) a b
deed (Some (Back a)) v s = then_value (value_of v s a) (λ x. Answers s x)
deed (Some Halt) v s = Ends Stopped v s

abbrev pub middle_language : Lang Ending
middle_language = record {
  sorts = middle_sorts;
  step = λ u v s. deed (slice_get u v.at) v s;
  start = λ u n b s. Enters (record { at = 0; bound = b; by_second = n.by_second; saved = None; answer = None; first_slot = None; second_slot = None }) s;
  resume = λ u v r s. Enters (record v { at = v.at + 1; answer = Some r; first_slot = None; second_slot = None }) (without_fresh s);
  missing = NoUnit;
  busy = IsActive;
  plain = Plain;
}
