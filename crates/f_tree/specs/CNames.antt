-- The names that entities of a FORTRAN file have in the C text.
-- Source: Feldman, Gay, Maimone and Schryer, "A Fortran-to-C Converter" (CSTR 149), in this project's
-- profile: the words that take two underscores, and the made names, are the project's own.
-- A name is its bytes, letters in lower case.
--     external_name      of a procedure or a common block
--     variable_name      of a variable, an array or a dummy procedure
--     MadeName, made_name      what the translator names by itself
--     result_of, parameters_of      the result type and the parameters of a function
use Rattle.std.specs.Prelude.{ℕ, ◌<◌, ◌^◌, nat_le, ℤ, pos, negsuc, nat_abs, Bool, ◌&&◌, ◌||◌, ◌==◌, if◌then◌else◌, List, [], ◌∷◌, ◌++◌, codes, bytes_eq, decimal, suc}
use Rattle.std.specs.List.{list_any, list_all}

-- a name in C or in FORTRAN
abbrev pub Bytes : Type 0
Bytes = List ℕ

-- whether the byte may stand in a name: a letter in lower case, a digit or an underscore
unfoldable pub is_name_byte : ℕ → Bool
is_name_byte byte =
    (nat_le 97 byte && nat_le byte 122) || (nat_le 48 byte && nat_le byte 57) || byte == 95

-- whether all bytes may stand in a name of a FORTRAN file
unfoldable pub is_name : Bytes → Bool
is_name name = list_all is_name_byte name

-- ## Procedures and common blocks

-- whether an underscore stands in the name
unfoldable pub has_underscore : Bytes → Bool
has_underscore name = list_any (λ byte. byte == 95) name

-- one underscore more at the end, or two where the name has one already
unfoldable pub external_name : Bytes → Bytes
external_name name = if has_underscore name then name ++ codes "__" else name ++ codes "_"

-- the main program, whatever its PROGRAM statement calls it
unfoldable pub main_name : Bytes
main_name = codes "MAIN__"

-- blank common
unfoldable pub blank_common_name : Bytes
blank_common_name = codes "_BLNK__"

-- the function of a unit with entries, of which the unit's own name and each entry's are wrappers
unfoldable pub entries_name : Bytes → Bytes
entries_name name = name ++ codes "_0_"

-- ## Variables, arrays and dummy procedures

-- the 32 words of C89
unfoldable pub c_keywords : List Bytes
c_keywords =
    codes "auto" ∷ codes "break" ∷ codes "case" ∷ codes "char" ∷ codes "const" ∷ codes "continue"
    ∷ codes "default" ∷ codes "do" ∷ codes "double" ∷ codes "else" ∷ codes "enum" ∷ codes "extern"
    ∷ codes "float" ∷ codes "for" ∷ codes "goto" ∷ codes "if" ∷ codes "int" ∷ codes "long"
    ∷ codes "register" ∷ codes "return" ∷ codes "short" ∷ codes "signed" ∷ codes "sizeof"
    ∷ codes "static" ∷ codes "struct" ∷ codes "switch" ∷ codes "typedef" ∷ codes "union"
    ∷ codes "unsigned" ∷ codes "void" ∷ codes "volatile" ∷ codes "while" ∷ []

-- what the include line declares, and the types of pointers to functions
unfoldable pub built_in_names : List Bytes
built_in_names =
    codes "integer" ∷ codes "logical" ∷ codes "ftnlen" ∷ codes "ftnint" ∷ codes "flag"
    ∷ codes "address" ∷ codes "VOID" ∷ codes "TRUE_" ∷ codes "FALSE_" ∷ codes "max" ∷ codes "min"
    ∷ codes "abs" ∷ codes "cilist" ∷ codes "icilist" ∷ codes "olist" ∷ codes "cllist" ∷ codes "alist"
    ∷ codes "S_fp" ∷ codes "I_fp" ∷ codes "L_fp" ∷ codes "U_fp" ∷ []

-- the fields of the lists
unfoldable pub field_names : List Bytes
field_names =
    codes "cierr" ∷ codes "ciunit" ∷ codes "ciend" ∷ codes "cifmt" ∷ codes "cirec"
    ∷ codes "icierr" ∷ codes "iciunit" ∷ codes "iciend" ∷ codes "icifmt" ∷ codes "icirlen"
    ∷ codes "icirnum" ∷ codes "oerr" ∷ codes "ounit" ∷ codes "ofnm" ∷ codes "ofnmlen"
    ∷ codes "osta" ∷ codes "oacc" ∷ codes "ofm" ∷ codes "orl" ∷ codes "oblnk"
    ∷ codes "cerr" ∷ codes "cunit" ∷ codes "csta" ∷ codes "aerr" ∷ codes "aunit" ∷ []

-- the single letters that are not left to variables
unfoldable pub single_letters : List Bytes
single_letters =
    codes "c" ∷ codes "d" ∷ codes "g" ∷ codes "h" ∷ codes "i" ∷ codes "r" ∷ codes "z" ∷ []

-- whether the name is one of the words
abbrev pub is_among : List Bytes → Bytes → Bool
is_among words name = list_any (λ word. bytes_eq word name) words

-- whether the name is a word that no variable keeps
unfoldable pub is_reserved : Bytes → Bool
is_reserved name =
    is_among c_keywords name || is_among built_in_names name || is_among field_names name
    || is_among single_letters name

-- Whether a variable's name takes two underscores. A made name has an underscore or a capital letter,
-- so no variable keeps one either.
unfoldable pub takes_underscores : Bytes → Bool
takes_underscores name = has_underscore name || is_reserved name

-- a variable, array or dummy procedure keeps its name, or gets two underscores at its end
unfoldable pub variable_name : Bytes → Bytes
variable_name name = if takes_underscores name then name ++ codes "__" else name

-- ## Made names

-- What the translator names by itself. The number of a temporary, a list, a dimension or a made label
-- counts from 1, that of an EQUIVALENCE class from 0; a dummy is given by its C name.
pub data MadeName : Type 0 where
  EntryNumber : MadeName
  FunctionResult : MadeName
  ResultLength : MadeName
  NumberTemporary : ℕ → MadeName
  TextTemporary : ℕ → MadeName
  PiecesTemporary : ℕ → MadeName
  ConstantOf : ℤ → MadeName
  ControlList : ℕ → MadeName
  FormatText : ℕ → MadeName
  EquivalenceClass : ℕ → MadeName
  StatementLabel : ℕ → MadeName
  EntryLabel : Bytes → MadeName
  MadeLabel : ℕ → MadeName
  LengthOf : Bytes → MadeName
  DimensionOf : Bytes → ℕ → MadeName
  LowerBoundOf : Bytes → ℕ → MadeName

-- a constant goes by its digits, a negative one by those of its opposite behind an n
unfoldable pub constant_name : ℤ → Bytes
constant_name (pos n) = codes "c__" ++ decimal n
constant_name (negsuc n) = codes "c_n" ++ decimal (suc n)

unfoldable pub made_name : MadeName → Bytes
made_name EntryNumber = codes "n__"
made_name FunctionResult = codes "ret_val"
made_name ResultLength = codes "ret_val_len"
made_name (NumberTemporary k) = codes "i__" ++ decimal k
made_name (TextTemporary k) = codes "ch__" ++ decimal k
made_name (PiecesTemporary k) = codes "a__" ++ decimal k
made_name (ConstantOf z) = constant_name z
made_name (ControlList k) = codes "io___" ++ decimal k
made_name (FormatText label) = codes "fmt_" ++ decimal label
made_name (EquivalenceClass k) = codes "equiv_" ++ decimal k
made_name (StatementLabel label) = codes "L" ++ decimal label
made_name (EntryLabel entry) = codes "L_" ++ entry
made_name (MadeLabel k) = codes "L__" ++ decimal k
made_name (LengthOf dummy) = dummy ++ codes "_len"
made_name (DimensionOf dummy k) = dummy ++ codes "_dim" ++ decimal k
made_name (LowerBoundOf dummy k) = dummy ++ codes "_low" ++ decimal k

-- Numbers in made names are below 2 ^ 64, as every number of a file is.
abbrev pub IsNumbered : MadeName → Type 0
IsNumbered EntryNumber = Unit {0}
IsNumbered FunctionResult = Unit {0}
IsNumbered ResultLength = Unit {0}
IsNumbered (NumberTemporary k) = k < 2 ^ 64
IsNumbered (TextTemporary k) = k < 2 ^ 64
IsNumbered (PiecesTemporary k) = k < 2 ^ 64
IsNumbered (ConstantOf z) = nat_abs z < 2 ^ 64
IsNumbered (ControlList k) = k < 2 ^ 64
IsNumbered (FormatText label) = label < 2 ^ 64
IsNumbered (EquivalenceClass k) = k < 2 ^ 64
IsNumbered (StatementLabel label) = label < 2 ^ 64
IsNumbered (EntryLabel entry) = Unit {0}
IsNumbered (MadeLabel k) = k < 2 ^ 64
IsNumbered (LengthOf dummy) = Unit {0}
IsNumbered (DimensionOf dummy k) = k < 2 ^ 64
IsNumbered (LowerBoundOf dummy k) = k < 2 ^ 64

-- ## Functions

-- what a unit or an entry gives back to its caller
pub data Gives : Type 0 where
  GivesNothing : Gives
  GivesInteger : Gives
  GivesLogical : Gives
  GivesText : Gives

-- the result type of a function: int, integer, logical, VOID
pub data ResultType : Type 0 where
  IntResult : ResultType
  IntegerResult : ResultType
  LogicalResult : ResultType
  VoidResult : ResultType

-- A main program and a subroutine are int: a subroutine returns the number of the alternate return.
-- A character function is VOID and writes where its first parameter points.
unfoldable pub result_of : Gives → ResultType
result_of GivesNothing = IntResult
result_of GivesInteger = IntegerResult
result_of GivesLogical = LogicalResult
result_of GivesText = VoidResult

-- what a dummy of a unit stands for; a procedure is one that is called as a subroutine, referenced as a
-- function of a type, or only passed on
pub data DummyUse : Type 0 where
  IntegerDummy : DummyUse
  LogicalDummy : DummyUse
  TextDummy : DummyUse
  AlternateReturn : DummyUse
  CalledDummy : DummyUse
  IntegerFunctionDummy : DummyUse
  LogicalFunctionDummy : DummyUse
  PassedDummy : DummyUse

pub record Dummy : Type 0 where
  pub name : Bytes
  pub use_of : DummyUse

-- the type of a parameter: integer *, logical *, char *, ftnlen, int, S_fp, I_fp, L_fp, U_fp
pub data ParameterType : Type 0 where
  IntegerPointer : ParameterType
  LogicalPointer : ParameterType
  CharPointer : ParameterType
  LengthValue : ParameterType
  IntValue : ParameterType
  SubroutinePointer : ParameterType
  IntegerFunctionPointer : ParameterType
  LogicalFunctionPointer : ParameterType
  UntypedPointer : ParameterType

pub record Parameter : Type 0 where
  pub type_of : ParameterType
  pub called : Bytes

-- arguments go by address; an alternate return is no parameter
unfoldable pub parameter_of : Bytes → DummyUse → List Parameter
parameter_of name IntegerDummy = record { type_of = IntegerPointer; called = variable_name name } ∷ []
parameter_of name LogicalDummy = record { type_of = LogicalPointer; called = variable_name name } ∷ []
parameter_of name TextDummy = record { type_of = CharPointer; called = variable_name name } ∷ []
parameter_of name AlternateReturn = []
parameter_of name CalledDummy = record { type_of = SubroutinePointer; called = variable_name name } ∷ []
parameter_of name IntegerFunctionDummy =
    record { type_of = IntegerFunctionPointer; called = variable_name name } ∷ []
parameter_of name LogicalFunctionDummy =
    record { type_of = LogicalFunctionPointer; called = variable_name name } ∷ []
parameter_of name PassedDummy = record { type_of = UntypedPointer; called = variable_name name } ∷ []

-- the length of a character dummy goes by value
unfoldable pub length_parameter_of : Bytes → DummyUse → List Parameter
length_parameter_of name TextDummy =
    record { type_of = LengthValue; called = made_name (LengthOf (variable_name name)) } ∷ []
length_parameter_of name _ = []

unfoldable pub parameters_of_all : List Dummy → List Parameter
parameters_of_all [] = []
parameters_of_all (dummy ∷ rest) = parameter_of dummy.name dummy.use_of ++ parameters_of_all rest

unfoldable pub length_parameters_of_all : List Dummy → List Parameter
length_parameters_of_all [] = []
length_parameters_of_all (dummy ∷ rest) =
    length_parameter_of dummy.name dummy.use_of ++ length_parameters_of_all rest

-- where a character function puts its result, and how long that is
unfoldable pub result_parameters_of : Gives → List Parameter
result_parameters_of GivesText =
    record { type_of = CharPointer; called = made_name FunctionResult }
    ∷ record { type_of = LengthValue; called = made_name ResultLength } ∷ []
result_parameters_of _ = []

-- the result's parameters, the dummies in their order, then the lengths of all character dummies
unfoldable pub parameters_of : Gives → List Dummy → List Parameter
parameters_of gives dummies =
    result_parameters_of gives ++ parameters_of_all dummies ++ length_parameters_of_all dummies

-- the parameters of the function of a unit with entries, over all dummies in first-seen order: the
-- number of the entry stands first
unfoldable pub entries_parameters_of : Gives → List Dummy → List Parameter
entries_parameters_of gives dummies =
    record { type_of = IntValue; called = made_name EntryNumber } ∷ parameters_of gives dummies
