-- The table of refusals: the number and the words of each row. A message prints a row as F and two
-- digits, a blank and the words.
use Rattle.std.specs.Prelude.{◌≡◌, ℕ, ◌≤◌, List, codes}
use Rattle.f_tree.specs.declared.refusals.Refusal.{Refusal}
use Rattle.f_tree.specs.declared.refusals.Kind.{Kind}
use Rattle.f_tree.specs.declared.refusals.Kind.TheVariants.{CharacterOutsideSet, BadLabelField, TooManyContinuations, ContinuationWithoutStatement, TextPastColumn72, NoEnd, FileTooLong, UnknownStatement, SyntaxError, IntegerTooLarge, NameTooLong, BadCharacterConstant, TypeNotSupported, StatementOrSpecifierNotSupported, NestingTooDeep, NameHasTypeReal, NameNotDeclared, ConflictingAttributes, BoundNotConstant, ArrayOfNoElement, StatementOutOfOrder, BadParameterValue, LabelMissingOrTwice, BranchIntoBlock, BadDoNest, BadIfNest, OperandTypes, NumberOfSubscripts, NotAssignable, BadData, EquivalenceContradiction, CommonJoinedOrExtended, CommonInitialised, UseOfAssumedLength, BadStatementFunction, BadEntry, CharacterFunctionAsArgument, TwoShapesOfCall, BadFormat, EditDescriptorNotSupported, NumericPlaceNotOnAWord, EndOrIncludeInAnIncludedFile, CommonLengthsDiffer, GlobalNameTwice, TwoMainPrograms, StorageTooLarge, CommonInitialisedTwice, NotBuiltYet}

-- The number of a row.
abbrev pub number_of : Kind → ℕ
number_of CharacterOutsideSet = 1
number_of BadLabelField = 2
number_of TooManyContinuations = 3
number_of ContinuationWithoutStatement = 4
number_of TextPastColumn72 = 5
number_of NoEnd = 6
number_of FileTooLong = 7
number_of UnknownStatement = 10
number_of SyntaxError = 11
number_of IntegerTooLarge = 12
number_of NameTooLong = 13
number_of BadCharacterConstant = 14
number_of TypeNotSupported = 15
number_of StatementOrSpecifierNotSupported = 16
number_of NestingTooDeep = 17
number_of NameHasTypeReal = 20
number_of NameNotDeclared = 21
number_of ConflictingAttributes = 22
number_of BoundNotConstant = 23
number_of ArrayOfNoElement = 24
number_of StatementOutOfOrder = 25
number_of BadParameterValue = 26
number_of LabelMissingOrTwice = 27
number_of BranchIntoBlock = 28
number_of BadDoNest = 29
number_of BadIfNest = 30
number_of OperandTypes = 31
number_of NumberOfSubscripts = 32
number_of NotAssignable = 33
number_of BadData = 34
number_of EquivalenceContradiction = 35
number_of CommonJoinedOrExtended = 36
number_of CommonInitialised = 38
number_of UseOfAssumedLength = 39
number_of BadStatementFunction = 40
number_of BadEntry = 41
number_of CharacterFunctionAsArgument = 42
number_of TwoShapesOfCall = 43
number_of BadFormat = 44
number_of EditDescriptorNotSupported = 45
number_of NumericPlaceNotOnAWord = 46
number_of EndOrIncludeInAnIncludedFile = 47
number_of CommonLengthsDiffer = 50
number_of GlobalNameTwice = 51
number_of TwoMainPrograms = 52
number_of StorageTooLarge = 53
number_of CommonInitialisedTwice = 54
number_of NotBuiltYet = 99

-- The words of a row.
abbrev pub text_of : Kind → List ℕ
text_of CharacterOutsideSet = codes "character outside the set"
text_of BadLabelField = codes "bad label field"
text_of TooManyContinuations = codes "more than 19 continuations"
text_of ContinuationWithoutStatement = codes "continuation without statement"
text_of TextPastColumn72 = codes "text past column 72"
text_of NoEnd = codes "no END"
text_of FileTooLong = codes "file too long"
text_of UnknownStatement = codes "unknown statement"
text_of SyntaxError = codes "syntax error"
text_of IntegerTooLarge = codes "integer too large"
text_of NameTooLong = codes "name too long"
text_of BadCharacterConstant = codes "bad character constant"
text_of TypeNotSupported = codes "type not supported"
text_of StatementOrSpecifierNotSupported = codes "statement or specifier not supported"
text_of NestingTooDeep = codes "nesting too deep"
text_of NameHasTypeReal = codes "name has type REAL"
text_of NameNotDeclared = codes "name not declared"
text_of ConflictingAttributes = codes "conflicting attributes"
text_of BoundNotConstant = codes "bound not constant"
text_of ArrayOfNoElement = codes "array of no element"
text_of StatementOutOfOrder = codes "statement out of order"
text_of BadParameterValue = codes "bad PARAMETER value"
text_of LabelMissingOrTwice = codes "label missing or twice"
text_of BranchIntoBlock = codes "branch into a block"
text_of BadDoNest = codes "bad DO nest"
text_of BadIfNest = codes "bad IF nest"
text_of OperandTypes = codes "operand types"
text_of NumberOfSubscripts = codes "number of subscripts"
text_of NotAssignable = codes "not assignable"
text_of BadData = codes "bad DATA"
text_of EquivalenceContradiction = codes "EQUIVALENCE contradiction"
text_of CommonJoinedOrExtended = codes "common joined or extended"
text_of CommonInitialised = codes "common initialised"
text_of UseOfAssumedLength = codes "use of (*)"
text_of BadStatementFunction = codes "bad statement function"
text_of BadEntry = codes "bad ENTRY"
text_of CharacterFunctionAsArgument = codes "character function as argument"
text_of TwoShapesOfCall = codes "two shapes of call"
text_of BadFormat = codes "bad format"
text_of EditDescriptorNotSupported = codes "edit descriptor not supported"
text_of NumericPlaceNotOnAWord = codes "numeric place not on a word"
text_of EndOrIncludeInAnIncludedFile = codes "END or INCLUDE in an included file"
text_of CommonLengthsDiffer = codes "common lengths differ"
text_of GlobalNameTwice = codes "global name twice"
text_of TwoMainPrograms = codes "two main programs"
text_of StorageTooLarge = codes "storage too large"
text_of CommonInitialisedTwice = codes "common initialised twice"
text_of NotBuiltYet = codes "not built yet"

-- Refusals go by file, then card, then number: the first is not after the second.
pub record IsNotAfter (r q : Refusal) : Type 0 where
  pub file : r.file ≤ q.file
  pub card : q.file ≡ r.file → r.card ≤ q.card
  pub number : q.file ≡ r.file → q.card ≡ r.card → number_of r.kind ≤ number_of q.kind
