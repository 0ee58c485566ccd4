-- The intrinsic functions, each with the type that it wants of its operands, how many it wants, and the type that it gives (15.10).
use Rattle.std.specs.Prelude.{ℕ, max, true, false, List, [], ◌∷◌, bytes_eq, Option, Some, None, if◌then◌else◌}
use Rattle.f_tree.specs.declared.names.Basic.{Basic}
use Rattle.f_tree.specs.declared.names.Basic.TheVariants.{Integer, Logical, Character}
use Rattle.f_tree.specs.Values.{Bytes}
use Rattle.f_tree.specs.Terms.{Function, Power, Truncation, Magnitude, Remainder, SignTransfer, PositiveDifference, Largest, Smallest, CharacterCode, CharacterOfCode, TextLength, IndexOf, LexicallyGreaterOrEqual, LexicallyGreater, LexicallyLessOrEqual, LexicallyLess, Front, Fitted, InclusiveOr, LogicalProduct, ExclusiveOr, BitComplement, BitShift, BitTest, BitSet, BitClear}
use Rattle.f_tree.specs.Reading.{intrinsics, Intrinsic as NamedFunction}
use Rattle.expression_judge.specs.declared.intrinsics.Intrinsic.{Intrinsic}
use Rattle.expression_judge.specs.declared.intrinsics.NamedIntrinsic.{NamedIntrinsic}

unfoldable pub takes : Basic → ℕ → Basic → Intrinsic
takes wants count gives = record { wants = wants; count = count; or_more = false; gives = gives }

unfoldable pub takes_two_or_more : Intrinsic
takes_two_or_more = record { wants = Integer; count = 2; or_more = true; gives = Integer }

unfoldable pub intrinsic_of : Function → Intrinsic
intrinsic_of Power = takes Integer 2 Integer
intrinsic_of Truncation = takes Integer 1 Integer
intrinsic_of Magnitude = takes Integer 1 Integer
intrinsic_of Remainder = takes Integer 2 Integer
intrinsic_of SignTransfer = takes Integer 2 Integer
intrinsic_of PositiveDifference = takes Integer 2 Integer
intrinsic_of Largest = takes_two_or_more
intrinsic_of Smallest = takes_two_or_more
intrinsic_of CharacterCode = takes Character 1 Integer
intrinsic_of CharacterOfCode = takes Integer 1 Character
intrinsic_of TextLength = takes Character 1 Integer
intrinsic_of IndexOf = takes Character 2 Integer
intrinsic_of LexicallyGreaterOrEqual = takes Character 2 Logical
intrinsic_of LexicallyGreater = takes Character 2 Logical
intrinsic_of LexicallyLessOrEqual = takes Character 2 Logical
intrinsic_of LexicallyLess = takes Character 2 Logical
intrinsic_of (Front k) = takes Character 1 Character
intrinsic_of (Fitted k) = takes Character 1 Character
intrinsic_of InclusiveOr = takes Integer 2 Integer
intrinsic_of LogicalProduct = takes Integer 2 Integer
intrinsic_of ExclusiveOr = takes Integer 2 Integer
intrinsic_of BitComplement = takes Integer 1 Integer
intrinsic_of BitShift = takes Integer 2 Integer
intrinsic_of BitTest = takes Integer 2 Logical
intrinsic_of BitSet = takes Integer 2 Integer
intrinsic_of BitClear = takes Integer 2 Integer

-- how many operands one wants where so many stand
unfoldable pub operands_wanted : Intrinsic → ℕ → ℕ
operands_wanted i n = if i.or_more then max i.count n else i.count

unfoldable pub intrinsic_in : List NamedFunction → Bytes → Option Intrinsic
intrinsic_in [] x = None
intrinsic_in (i ∷ is) x = if bytes_eq i.name x then Some (intrinsic_of i.function) else intrinsic_in is x

-- the intrinsic function with a name
unfoldable pub intrinsic_named : Bytes → Option Intrinsic
intrinsic_named x = intrinsic_in intrinsics x

-- the same in a table as the code has it
unfoldable pub named_in : List NamedIntrinsic → Bytes → Option Intrinsic
named_in [] x = None
named_in (i ∷ is) x = if bytes_eq i.name.now x then Some i.intrinsic else named_in is x
