-- The functions and the external objects that the C text of a FORTRAN file has: of each function its name, what it gives and its
-- parameters; of each common block the name. Source: CSTR 149; ANSI X3.9-1978, sections 8.3, 15.5 to 15.7.
use Rattle.std.specs.Prelude.{◌≡◌, ℕ, Bool, true, false, List, [], ◌∷◌, ◌++◌, map, flat_map, filter, if◌then◌else◌}
use Rattle.std.specs.List.{list_any}
use Rattle.f_tree.specs.declared.names.Basic.{Basic}
use Rattle.f_tree.specs.declared.names.Basic.TheVariants.{Integer, Logical, Character, Untyped}
use Rattle.f_tree.specs.declared.names.Class.TheVariants as class
use Rattle.f_tree.specs.declared.names.Options.{Options}
use Rattle.f_tree.specs.declared.units.Unit.{Unit as WrittenUnit}
use Rattle.f_tree.specs.declared.units.File.{File}
use Rattle.f_tree.specs.Facts.{Attribute, Formal, Named, Alternate, UnitKind, MainProgram, FunctionUnit, BlockDataUnit, EntryPoint, Block, ProgramUnit}
use Rattle.f_tree.specs.Uses.{Use, uses_of_statements}
use Rattle.f_tree.specs.Attributes.{Described, is_used_as, called, with_list, arrays_of, all_described}
use Rattle.f_tree.specs.Lines.{same_block, unit_read}
use Rattle.f_tree.specs.CNames as names
use Rattle.f_tree.specs.CNames.{Dummy, DummyUse, IntegerDummy, LogicalDummy, TextDummy, CalledDummy, IntegerFunctionDummy, LogicalFunctionDummy, PassedDummy, Gives, GivesNothing, GivesInteger, GivesLogical, GivesText, external_name, main_name, entries_name, parameters_of, entries_parameters_of}
use Rattle.c_tree.specs.declared.types.ResultType.{ResultType}
use Rattle.c_tree.specs.declared.types.ResultType.TheVariants as result
use Rattle.c_tree.specs.declared.types.ParameterType.{ParameterType}
use Rattle.c_tree.specs.declared.types.ParameterType.TheVariants as parameter
use Rattle.c_tree.specs.declared.types.FunctionType.TheVariants as to
use Rattle.c_tree.specs.declared.file.CFunction.{CFunction}
use Rattle.c_tree.specs.declared.file.CFile.{CFile}
use Rattle.c_tree.specs.Linking as linking
use Rattle.faithful.specs.StorageImage.{block_name}

-- ## Functions

pub record Parameter : Type 0 where
  pub type : ParameterType
  pub name : List ℕ

pub record Signature : Type 0 where
  pub name : List ℕ
  pub gives : ResultType
  pub parameters : List Parameter

-- the types of C that the names of a function speak of
unfoldable pub result_type : names.ResultType → ResultType
result_type names.IntResult = result.Int
result_type names.IntegerResult = result.Integer
result_type names.LogicalResult = result.Logical
result_type names.VoidResult = result.Void

unfoldable pub parameter_type : names.ParameterType → ParameterType
parameter_type names.IntegerPointer = parameter.Integers
parameter_type names.LogicalPointer = parameter.Logicals
parameter_type names.CharPointer = parameter.Chars
parameter_type names.LengthValue = parameter.Length
parameter_type names.IntValue = parameter.Int
parameter_type names.SubroutinePointer = parameter.Function to.Subroutine
parameter_type names.IntegerFunctionPointer = parameter.Function to.Integer
parameter_type names.LogicalFunctionPointer = parameter.Function to.Logical
parameter_type names.UntypedPointer = parameter.Function to.Unknown

unfoldable pub signature : List ℕ → Gives → List names.Parameter → Signature
signature name gives parameters = record {
  name = name;
  gives = result_type (names.result_of gives);
  parameters = map (λ p. record { type = parameter_type p.type_of; name = p.called }) parameters;
}

-- a dummy procedure goes by its use: called, referenced as a function of its type, or only passed on
unfoldable pub function_dummy : Basic → DummyUse
function_dummy Logical = LogicalFunctionDummy
function_dummy _ = IntegerFunctionDummy

unfoldable pub procedure_dummy : List Use → Basic → List ℕ → DummyUse
procedure_dummy uses basic x =
    if is_used_as called x uses then CalledDummy else if is_used_as with_list x uses then function_dummy basic else PassedDummy

unfoldable pub variable_dummy : Basic → DummyUse
variable_dummy Integer = IntegerDummy
variable_dummy Logical = LogicalDummy
variable_dummy Character = TextDummy
variable_dummy Untyped = PassedDummy

unfoldable pub dummy_of : List Use → (List ℕ → Attribute) → List ℕ → Dummy
dummy_of uses attribute x = record {
  name = x;
  use_of = elim (attribute x).class [ class.DummyProcedure ↦ procedure_dummy uses (attribute x).basic x | _ ↦ variable_dummy (attribute x).basic ];
}

-- the dummies of an entry in their order; an alternate return is no parameter
unfoldable pub named_formals : List Formal → List (List ℕ)
named_formals [] = []
named_formals (Named x ∷ formals) = x ∷ named_formals formals
named_formals (Alternate ∷ formals) = named_formals formals

-- all dummies of a unit in first-seen order
unfoldable pub is_dummy : Described → Bool
is_dummy d = elim d.attribute.class [ class.Dummy ↦ true | class.DummyProcedure ↦ true | _ ↦ false ]

unfoldable pub gives_type : Basic → Gives
gives_type Integer = GivesInteger
gives_type Logical = GivesLogical
gives_type Character = GivesText
gives_type Untyped = GivesNothing

-- what a call of an entry gives
unfoldable pub gives_of : ProgramUnit → EntryPoint → Gives
gives_of unit entry = elim unit.kind [ FunctionUnit ↦ gives_type (unit.attribute entry.name).basic | _ ↦ GivesNothing ]

-- the function of a name by which the unit is called
unfoldable pub entry_signature : ProgramUnit → (List ℕ → Dummy) → EntryPoint → Signature
entry_signature unit dummy entry =
    signature (external_name entry.name) (gives_of unit entry) (parameters_of (gives_of unit entry) (map dummy (named_formals entry.formals)))

-- a unit with entries has one function for all of them, and behind it a wrapper for each name
unfoldable pub procedure_signatures : ProgramUnit → (List ℕ → Dummy) → List (List ℕ) → List EntryPoint → List Signature
procedure_signatures unit dummy all [] = []
procedure_signatures unit dummy all (only ∷ []) = entry_signature unit dummy only ∷ []
procedure_signatures unit dummy all (own ∷ entry ∷ later) =
    signature (entries_name own.name) (gives_of unit own) (entries_parameters_of (gives_of unit own) (map dummy all))
    ∷ map (entry_signature unit dummy) (own ∷ entry ∷ later)

-- BLOCK DATA gives no function
unfoldable pub signatures_by : UnitKind → ProgramUnit → List Use → List Described → List Signature
signatures_by MainProgram unit uses described = signature main_name GivesNothing [] ∷ []
signatures_by BlockDataUnit unit uses described = []
signatures_by kind unit uses described =
    procedure_signatures unit (dummy_of uses unit.attribute) (map (λ d. d.name) (filter is_dummy described)) unit.entries

unfoldable pub unit_signatures : Options → WrittenUnit → List Signature
unit_signatures options u = signatures_by (unit_read options u).kind (unit_read options u) (uses_of_statements (arrays_of u) u.statements) (all_described u)

-- the functions of the text of a file, in their order
unfoldable pub file_signatures : Options → File → List Signature
file_signatures options file = flat_map (unit_signatures options) file.units

abbrev pub signature_of : CFunction → Signature
signature_of function = record {
  name = function.name;
  gives = function.result;
  parameters = map (λ p. record { type = p.of; name = p.name }) function.params;
}

-- ## Common blocks

unfoldable pub blocks_added : List Block → List Block → List Block
blocks_added seen [] = seen
blocks_added seen (block ∷ later) =
    blocks_added (if list_any (λ known. same_block known.name block.name) seen then seen else seen ++ block ∷ []) later

-- the names of the external objects of the text of a file: its common blocks in first-seen order
unfoldable pub file_blocks : Options → File → List (List ℕ)
file_blocks options file = map (λ block. block_name block.name) (blocks_added [] (flat_map (λ u. (unit_read options u).blocks) file.units))

abbrev pub object_names : CFile → List (List ℕ)
object_names text = map (λ object. (linking.external object).name) text.objects

-- ## Texts

-- a text has exactly the functions and the external objects of its file
pub record HasSignatures (options : Options) (file : File) (text : CFile) : Type 0 where
  pub functions : map signature_of text.functions ≡ file_signatures options file
  pub objects : object_names text ≡ file_blocks options file

-- one text for each file
pub data EachHasSignatures (options : Options) : List File → List CFile → Type 0 where
  none : EachHasSignatures options [] []
  more : (file : File) (text : CFile) (files : List File) (texts : List CFile) → HasSignatures options file text
      → EachHasSignatures options files texts → EachHasSignatures options (file ∷ files) (text ∷ texts)
