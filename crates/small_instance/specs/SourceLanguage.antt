-- The meaning of the source language.
use Rattle.std.specs.Prelude.{ℕ, zero, suc, ◌+◌, nat_lt, if◌then◌else◌, List, [], length, slice_get, Option, Some, None, unwrap_or}
use Rattle.simulation.specs.Machine.{Sorts, Event, Goes, Ends, Calls, Answers, Breaks, Entry, Enters, Refused, Lang, Program}
use Rattle.small_instance.specs.declared.source.Place.{Place}
use Rattle.small_instance.specs.declared.source.Operand.{Operand}
use Rattle.small_instance.specs.declared.source.Operand.TheVariants.{Constant, Of}
use Rattle.small_instance.specs.declared.source.Argument.{Argument}
use Rattle.small_instance.specs.declared.source.Argument.TheVariants.{ByReference, ByValue}
use Rattle.small_instance.specs.declared.source.Statement.{Statement}
use Rattle.small_instance.specs.declared.source.Statement.TheVariants.{Set, SetCalling, Unless, GoTo, Give, Stop}
use Rattle.small_instance.specs.declared.source.Unit.{Unit as SourceUnit}
use Rattle.small_instance.specs.Store.{Ending, Plain, Stopped, Fault, OutOfBlock, NoStatement, NoUnit, IsActive, Store, Bound, Called, Value, Is, Bad, Tied, Ties, Untied, set_cell, cell_of, fetch, tie_cell, tie_value, with_fresh, without_fresh}

-- a unit as a list of statements
pub record Text : Type 0 where
  -- the statement at which it begins under its second name
  pub second : ℕ
  pub body : List Statement

abbrev pub text_of : SourceUnit → Text
text_of u = record { second = u.second; body = u.body.items }

-- what an active unit is about: a statement, the answer to the call in it, with the left operand, or
-- their sum
pub data Doing : Type 0 where
  Begins : Doing
  Awaits : ℕ → Doing
  Sums : ℕ → ℕ → Doing

pub record View : Type 0 where
  pub at : ℕ
  pub bound : Bound
  pub doing : Doing

abbrev pub source_sorts : Sorts
source_sorts = record { Code = Text; View = View; Shared = Store; Name = Called; Arg = Bound; Ans = ℕ; Fault = Fault }

abbrev pub SourceEvent : Type 0
SourceEvent = Event Ending source_sorts

abbrev pub then_value : Value → (ℕ → SourceEvent) → SourceEvent
then_value (Is x) next = next x
then_value (Bad f) next = Breaks f

abbrev pub then_cell : Option ℕ → (ℕ → SourceEvent) → SourceEvent
then_cell (Some c) next = next c
then_cell None next = Breaks OutOfBlock

abbrev pub then_tied : Tied → (ℕ → Option ℕ → SourceEvent) → SourceEvent
then_tied (Ties c x) next = next c x
then_tied (Untied f) next = Breaks f

abbrev pub value_of : Bound → Store → Operand → Value
value_of b s (Constant n) = Is n
value_of b s (Of p) = fetch b s p

abbrev pub tie : Bound → Store → ℕ → Argument → Tied
tie b s fresh (ByReference p) = tie_cell (cell_of b p)
tie b s fresh (ByValue o) = tie_value fresh (value_of b s o)

-- the next statement, or another
abbrev pub goes_to : View → ℕ → Store → SourceEvent
goes_to v n s = Goes (record { at = n; bound = v.bound; doing = Begins }) s

abbrev pub put : View → Store → Place → ℕ → SourceEvent
put v s p x = then_cell (cell_of v.bound p) (λ c. goes_to v (v.at + 1) (set_cell c x s))

-- the left operand is valued first, then the arguments
abbrev pub calling_unit : View → Store → Operand → Called → Argument → Argument → SourceEvent
calling_unit v s l callee a b =
    then_value (value_of v.bound s l) (λ x.
    then_tied (tie v.bound s s.height a) (λ c y.
    then_tied (tie v.bound s (s.height + 1) b) (λ d z.
    Calls (record { at = v.at; bound = v.bound; doing = Awaits x }) (with_fresh y z s) callee (record { first = c; second = d }))))

abbrev pub set_calling : Doing → View → Store → Place → Operand → Called → Argument → Argument → SourceEvent
set_calling Begins v s p l callee a b = calling_unit v s l callee a b
set_calling (Awaits x) v s p l callee a b = Breaks NoStatement
set_calling (Sums x y) v s p l callee a b = put v s p (x + y)

abbrev pub branch : View → ℕ → Store → ℕ → SourceEvent
branch v n s zero = goes_to v n s
branch v n s (suc x) = goes_to v (v.at + 1) s

abbrev pub deed : Option Statement → View → Store → SourceEvent
deed None v s = Breaks NoStatement
deed (Some (Set p l r)) v s = then_value (value_of v.bound s l) (λ x. then_value (value_of v.bound s r) (λ y. put v s p (x + y)))
deed (Some (SetCalling p l unit by_second a b)) v s = set_calling v.doing v s p l (record { unit = unit; by_second = by_second }) a b
deed (Some (Unless p n)) v s = then_value (fetch v.bound s p) (branch v n s)
deed (Some (GoTo n)) v s = goes_to v n s
deed (Some (Give o)) v s = then_value (value_of v.bound s o) (λ x. Answers s x)
deed (Some Stop) v s = Ends Stopped v s

abbrev pub answered : Doing → View → ℕ → Store → Entry source_sorts
answered (Awaits x) v r s = Enters (record { at = v.at; bound = v.bound; doing = Sums x r }) (without_fresh s)
answered Begins v r s = Refused NoStatement
answered (Sums x y) v r s = Refused NoStatement

abbrev pub source_language : Lang Ending
source_language = record {
  sorts = source_sorts;
  step = λ u v s. deed (slice_get u.body v.at) v s;
  start = λ u n b s. Enters (record { at = (if n.by_second then u.second else 0); bound = b; doing = Begins }) s;
  resume = λ u v r s. answered v.doing v r s;
  missing = NoUnit;
  busy = IsActive;
  plain = Plain;
}

abbrev pub source_program : List Text → Program source_sorts
source_program us = record {
  find = λ n. if nat_lt n.unit (length us) then Some n.unit else None;
  text = λ i. unwrap_or (slice_get us i) (record { second = 0; body = [] });
}
