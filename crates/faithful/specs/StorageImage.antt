-- Where the storage of a FORTRAN run stands in the objects of the C run. Storage that lasts: a common block in the external
-- object of its name, an EQUIVALENCE class outside common in its `equiv_` object, any other local in the static object of its
-- name, each place at as many bytes from the start as it stands units from the start of its sequence. A defined unit is one
-- byte: of an integer one of four, the low one first, true being 1, false 0 and a label its number; a character its byte.
-- Source: Feldman, Gay, Maimone and Schryer, "A Fortran-to-C Converter" (CSTR 149); ANSI X3.9-1978, sections 8.2, 8.3 and 17.1.
use Rattle.std.specs.Prelude.{◌≡◌, ℕ, suc, ◌+◌, ◌-◌, nat_eq, ℤ, pos, Bool, true, false, ◌&&◌, ◌||◌, List, [], ◌∷◌, ◌++◌, length, position, find, filter_map, Option, Some, None, option_map, option_and_then, is_none, bytes_eq, slice_get, if◌then◌else◌}
use Rattle.std.specs.List.{list_any}
use Rattle.f_tree.specs.Store.{Store, Sequence, Cell, Undefined, Chr, Part, Whole, Number, Truth, Label}
use Rattle.f_tree.specs.Facts.{Home, Member, Block, Tie, MainProgram, BlockDataUnit, UnitKind, EntryPoint, ProgramUnit}
use Rattle.f_tree.specs.Setting.{Setting, HasUnit, IsIn, unit_home}
use Rattle.f_tree.specs.CNames.{external_name, main_name, blank_common_name, entries_name, variable_name, made_name, EquivalenceClass}
use Rattle.c_tree.specs.declared.file.CFile.{CFile}
use Rattle.c_tree.specs.declared.file.CFunction.{CFunction}
use Rattle.c_tree.specs.Objects.{Object, Bytes, Values, bytes_of_number}
use Rattle.c_tree.specs.Declarations.{Declared, declared_statics}
use Rattle.c_tree.specs.FlatForm.{whole_body}
use Rattle.c_tree.specs.Linking as linking

-- ## Units and bytes

-- the number that stands for a value
abbrev pub number_for : Whole → ℤ
number_for (Number value) = value
number_for (Truth true) = pos 1
number_for (Truth false) = pos 0
number_for (Label owner label) = pos label

-- the byte that stands for a unit; none for one that is undefined
unfoldable pub byte_for : Cell → Option ℕ
byte_for Undefined = None
byte_for (Chr character) = Some character
byte_for (Part whole place) = slice_get (bytes_of_number (number_for whole)) place

-- the byte of an object at an offset, where it is set
unfoldable pub byte_of_object : Option Object → ℕ → Option ℕ
byte_of_object None offset = None
byte_of_object (Some (Values values)) offset = None
byte_of_object (Some (Bytes bytes)) offset = option_and_then (λ byte. byte) (slice_get bytes offset)

abbrev pub cell_of : Option Sequence → ℕ → Option Cell
cell_of None place = None
cell_of (Some sequence) place = slice_get sequence.cells place

-- ## Functions

-- the name of a unit's function; a unit with entries has one function for all of them
abbrev pub name_of_entries : List EntryPoint → List ℕ
name_of_entries [] = []
name_of_entries (only ∷ []) = external_name only.name
name_of_entries (own ∷ entry ∷ later) = entries_name own.name

unfoldable pub function_name : ProgramUnit → List ℕ
function_name unit = elim unit.kind [ MainProgram ↦ main_name | _ ↦ name_of_entries unit.entries ]

-- the number of the function of a name
abbrev pub number_named : List CFile → List ℕ → Option ℕ
number_named texts name = position (bytes_eq name) (linking.function_names (linking.all_functions texts))

-- the number of the unit's function
abbrev pub function_number : List CFile → ProgramUnit → Option ℕ
function_number texts unit = number_named texts (function_name unit)

-- ## Objects that last

abbrev pub block_name : Option (List ℕ) → List ℕ
block_name None = blank_common_name
block_name (Some name) = external_name name

-- the objects that last and the strings of a function stand before its frame
abbrev pub lasting_objects : CFunction → List Declared
lasting_objects function = declared_statics function.locals

abbrev pub first_lasting : CFunction → linking.Function → ℕ
first_lasting function linked =
    linked.frame
    - (length (lasting_objects function)
    + length (linking.strings_of (lasting_objects function) ++ (whole_body function.body).items.strings))

-- the static object of a name
abbrev pub static_object : List ℕ → CFunction → linking.Function → Option ℕ
static_object name function linked =
    option_map (λ place. first_lasting function linked + place)
    (position (λ declared. bytes_eq declared.name name) (lasting_objects function))

abbrev pub static_object_at : List ℕ → Option CFunction → Option linking.Function → Option ℕ
static_object_at name (Some function) (Some linked) = static_object name function linked
static_object_at name _ _ = None

-- the static object of a name in the function of a unit
abbrev pub local_object : List CFile → ProgramUnit → List ℕ → Option ℕ
local_object texts unit name =
    option_and_then
    (λ number. static_object_at name (slice_get (linking.all_functions texts) number) (slice_get (linking.program texts).functions number))
    (function_number texts unit)

-- ## Where a sequence stands

abbrev pub is_sequence : ℕ → Option Home → Bool
is_sequence sequence None = false
is_sequence sequence (Some home) = nat_eq home.sequence sequence

-- the common block that stands in a sequence, where one does: a block of a unit of the set, one of whose items is there
unfoldable pub block_from : ℕ → List ProgramUnit → Setting → ℕ → Option Block
block_from k [] setting sequence = None
block_from k (unit ∷ later) setting sequence =
    linking.or_else
    (find (λ block. list_any (λ member. is_sequence sequence (unit_home setting k unit member.name)) block.members) unit.blocks)
    (block_from (suc k) later setting sequence)

unfoldable pub block_of : List ProgramUnit → Setting → ℕ → Option Block
block_of units setting sequence = block_from 0 units setting sequence

-- a name that an EQUIVALENCE statement names
unfoldable pub is_tied : List Tie → List ℕ → Bool
is_tied ties name = list_any (λ tie. bytes_eq tie.one.name name || bytes_eq tie.other.name name) ties

-- the sequence of a name that is in an EQUIVALENCE class outside common
unfoldable pub class_of : List ProgramUnit → Setting → List Tie → List ℕ → Option Home → Option ℕ
class_of units setting ties name None = None
class_of units setting ties name (Some home) =
    if is_tied ties name && is_none (block_of units setting home.sequence) then Some home.sequence else None

unfoldable pub each_once : List ℕ → List ℕ → List ℕ
each_once seen [] = seen
each_once seen (n ∷ later) = each_once (if list_any (nat_eq n) seen then seen else seen ++ n ∷ []) later

-- the sequences of a unit's EQUIVALENCE classes outside common, in first-seen order
unfoldable pub classes : List ProgramUnit → Setting → ℕ → ProgramUnit → List ℕ
classes units setting k unit =
    each_once [] (filter_map (λ member. class_of units setting unit.ties member.name (unit_home setting k unit member.name)) unit.stored)

-- the name of the static object of a name outside common, given the number of its class
abbrev pub static_name : List ℕ → Option ℕ → List ℕ
static_name name None = variable_name name
static_name name (Some class) = made_name (EquivalenceClass class)

-- the object of a stored name of a unit, whose home is given: that of the block in its sequence, else of its class, else its own
abbrev pub object_of : List CFile → ProgramUnit → List ℕ → Option Block → Option ℕ → Option ℕ
object_of texts unit name (Some block) class = linking.external_number (linking.externals texts) (block_name block.name)
object_of texts unit name None class = local_object texts unit (static_name name class)

unfoldable pub object_for : List ProgramUnit → Setting → List CFile → ℕ → ProgramUnit → List ℕ → Home → Option ℕ
object_for units setting texts k unit name home =
    object_of texts unit name (block_of units setting home.sequence) (position (nat_eq home.sequence) (classes units setting k unit))

-- names of BLOCK DATA that stand in no block are no part of a run
unfoldable pub takes_part : UnitKind → Option Block → Bool
takes_part BlockDataUnit None = false
takes_part kind block = true

-- ## The image of storage

-- in which object each sequence stands, from its start on; none for one that is no part of the run
abbrev pub Homes : Type 0
Homes = ℕ → Option ℕ

-- the sequence of a stored name stands in the object of the name
pub record StandsInItsObject (units : List ProgramUnit) (setting : Setting) (texts : List CFile) (homes : Homes) (k : ℕ) (unit : ProgramUnit) (name : List ℕ) : Type 0 where
  pub home : Home
  pub is : unit_home setting k unit name ≡ Some home
  pub object : takes_part unit.kind (block_of units setting home.sequence) ≡ true
      → (number : ℕ) × (object_for units setting texts k unit name home ≡ Some number) × (homes home.sequence ≡ Some number)

-- each stored name of each unit stands in its object
abbrev pub NamesStand : List ProgramUnit → Setting → List CFile → Homes → Type 0
NamesStand units setting texts homes =
    (k : ℕ) (unit : ProgramUnit) (member : Member) → HasUnit units k unit → IsIn member unit.stored
    → StandsInItsObject units setting texts homes k unit member.name

-- every defined unit of every sequence stands there by its byte
abbrev pub UnitsStand : Store → List Object → Homes → Type 0
UnitsStand store objects homes =
    (n number place byte : ℕ) (cell : Cell) → homes n ≡ Some number → cell_of (slice_get store n) place ≡ Some cell
    → byte_for cell ≡ Some byte → byte_of_object (slice_get objects number) place ≡ Some byte
