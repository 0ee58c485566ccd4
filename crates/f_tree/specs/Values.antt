-- Values, places of storage, and the acts of which nothing is said.
-- ANSI X3.9-1978, sections 2.11 (definition status), 4 (types) and 15.9.3 (association of arguments).
use Rattle.std.specs.Prelude.{ℕ, ℤ, pos, negsuc, int_le, ◌&&◌, Bool, List, if◌then◌else◌}
use Rattle.f_tree.specs.declared.names.Basic.{Basic}

abbrev pub Bytes : Type 0
Bytes = List ℕ

-- A variable, an array, an element or a substring, as it stands in storage. The first unit and the
-- extent are counted in character units: a character takes one, an integer or a logical four.
pub record Spot : Type 0 where
  pub basic : Basic
  pub sequence : ℕ
  pub first : ℕ
  -- how much of the sequence from the first unit on belongs to what was named or passed
  pub extent : ℕ
  -- the units of one element
  pub width : ℕ

-- what an expression, an actual argument or a place comes to
pub data Datum : Type 0 where
  IsInt : ℤ → Datum
  IsLog : Bool → Datum
  IsText : Bytes → Datum
  IsSpot : Spot → Datum
  -- a procedure, by its name
  IsProc : Bytes → Datum
  -- a statement label
  IsLabel : ℕ → Datum
  -- no value: what a subroutine answers, or a place in a substring that is not written
  Nothing : Datum

-- An act from which on nothing is said of a run.
pub data Act : Type 0 where
  -- an integer past 32 bits
  Overflow : Act
  -- a division by zero, also as 0 to a negative power
  ZeroDivide : Act
  -- a read of a unit that has no value of the type
  NoValue : Act
  -- a subscript or a place of a substring outside its declared bounds: the variable, and the number
  OutOfBounds : Bytes → ℤ → Act
  -- a dimension whose upper bound is below its lower, or that is past 2147483647
  BadDimension : Act
  -- a place past the extent of the actual argument
  PastExtent : Act
  -- a step of 0 in a DO
  ZeroStep : Act
  -- a DO variable that does not hold at its increment what the loop gave it
  LoopVariableChanged : Act
  -- an assigned GO TO to a label of another unit, outside its list or into a block
  BadAssignedLabel : Act
  -- a call of a procedure that is active
  ActiveProcedure : Act
  -- a call that disagrees in the number, the kind, the type or the length of its arguments
  Disagreement : Act
  -- a define of a unit that may only be read
  DefinesReadOnly : Act
  -- a use of a dummy argument that is not one of the entry that was called
  NotOfThisEntry : Act
  -- a return from a function without its result
  NoResult : Act
  -- a character position both defined and referenced by one assignment
  DefinedAndReferenced : Act
  -- CHAR of a number outside 0 to 255
  BadCharacterCode : Act
  -- a shift of a bit function outside -32 to 32, or a position outside 0 to 31
  BadBit : Act
  -- an edit descriptor for another type than the item's
  WrongDescriptor : Act
  -- a format that ends too early
  FormatEndsEarly : Act
  -- a transfer, or OPEN and its kin, inside a transfer
  TransferInTransfer : Act
  -- a call of a procedure that no unit of the set defines
  MissingProcedure : Act
  -- the form has no meaning here: no act of a program that is accepted
  NoMeaning : Act

-- an answer, or the act that stands in its way
pub data Checked (A : Type 0) : Type 0 where
  Gives : A → Checked A
  Fails : Act → Checked A

unfoldable pub given_that : {A B : Type 0} → Checked A → (A → Checked B) → Checked B
given_that (Gives a) go = go a
given_that (Fails act) go = Fails act

-- the integers of a numeric storage unit
unfoldable pub in_range : ℤ → Bool
in_range z = int_le (negsuc 2147483647) z && int_le z (pos 2147483647)

-- an integer that fits its unit
unfoldable pub checked : ℤ → Checked Datum
checked z = if in_range z then Gives (IsInt z) else Fails Overflow

unfoldable pub values_opened : Unit {0}
unfolding given_that in_range checked
values_opened = tt
