-- The text of the declarations of a C file and of its functions (C89, 3.5), in the parts of the house form.
use Rattle.std.specs.Prelude.{ℕ, ℤ, Bool, true, false, List, [], ◌∷◌, ◌++◌, codes, decimal, Option, Some, None, if◌then◌else◌}
use Rattle.std.specs.List.{flat_map}
use Rattle.c_tree.specs.declared.types.ArgumentType.{ArgumentType}
use Rattle.c_tree.specs.declared.types.NumberType.{NumberType}
use Rattle.c_tree.specs.declared.types.ResultType.{ResultType}
use Rattle.c_tree.specs.declared.types.ListType.{ListType}
use Rattle.c_tree.specs.declared.declaration.CParam.{CParam}
use Rattle.c_tree.specs.declared.declaration.CField.{CField}
use Rattle.c_tree.specs.declared.declaration.CField.TheVariants as field
use Rattle.c_tree.specs.declared.declaration.CLocal.{CLocal}
use Rattle.c_tree.specs.declared.declaration.CLocal.TheVariants as declared
use Rattle.c_tree.specs.declared.file.CObject.{CObject}
use Rattle.c_tree.specs.declared.file.CObject.TheVariants as object
use Rattle.c_tree.specs.declared.file.CConstant.{CConstant}
use Rattle.c_text.specs.declared.local.Part.{Part}
use Rattle.c_text.specs.declared.local.Part.TheVariants as part
use Rattle.c_text.specs.declared.phrase.Phrase.TheVariants as is
use Rattle.c_text.specs.Phrases.{letters}
use Rattle.c_text.specs.Types.{number_word, result_word, block_word, parameter_front, argument_word, printed_value}
use Rattle.c_text.specs.Strings.{quoted}
use Rattle.c_text.specs.Lists.{between_commas, braced}

-- what stands behind the name of an array
abbrev pub bounds : ℕ → List ℕ
bounds length = 91 ∷ (decimal length ++ 93 ∷ [])

unfoldable pub bounds_or_none : Option ℕ → List ℕ
bounds_or_none None = codes "[]"
bounds_or_none (Some length) = bounds length

-- the values that an object starts with, where they are written
unfoldable pub first_value : Option ℤ → List ℕ
first_value None = []
first_value (Some value) = codes " = " ++ printed_value value

unfoldable pub first_values : Option (List ℤ) → List ℕ
first_values None = []
first_values (Some values) = codes " = " ++ braced printed_value values

unfoldable pub first_string : Option (List ℕ) → List ℕ
first_string None = []
first_string (Some bytes) = codes " = " ++ quoted bytes

unfoldable pub printed_field : CField → List ℕ
printed_field (field.Number number) = printed_value number
printed_field (field.Str bytes) = quoted bytes
printed_field (field.Name name) = name

abbrev pub printed_param : CParam → List ℕ
printed_param param = parameter_front param.of ++ param.name

unfoldable pub printed_params : List CParam → List ℕ
printed_params [] = codes "void"
printed_params (first ∷ later) = between_commas printed_param (first ∷ later)

unfoldable pub printed_types : List ArgumentType → List ℕ
printed_types [] = codes "void"
printed_types (first ∷ later) = between_commas argument_word (first ∷ later)

-- each form of a declaration at the head of a function, without its semicolon
unfoldable pub printed_extern : ResultType → List ℕ → List ArgumentType → List ℕ
printed_extern result name types =
    letters is.Extern ++ (result_word result ++ (32 ∷ (name ++ (40 ∷ (printed_types types ++ 41 ∷ [])))))

abbrev pub number_name : NumberType → List ℕ → List ℕ
number_name of name = number_word of ++ (32 ∷ name)

unfoldable pub printed_static : NumberType → List ℕ → Option ℤ → List ℕ
printed_static of name value = letters is.Static ++ (number_name of name ++ first_value value)

unfoldable pub printed_statics : NumberType → List ℕ → ℕ → Option (List ℤ) → List ℕ
printed_statics of name length values =
    letters is.Static ++ (number_name of name ++ (bounds length ++ first_values values))

unfoldable pub printed_static_chars : List ℕ → Option ℕ → Option (List ℕ) → List ℕ
printed_static_chars name length bytes =
    letters is.StaticChars ++ (name ++ (bounds_or_none length ++ first_string bytes))

unfoldable pub printed_list : ListType → List ℕ → List CField → List ℕ
printed_list of name fields =
    letters is.Static ++ (block_word of ++ (32 ∷ (name ++ (codes " = " ++ braced printed_field fields))))

abbrev pub printed_array : List ℕ → List ℕ → ℕ → List ℕ
printed_array word name length = word ++ (32 ∷ (name ++ bounds length))

-- a declaration at the head of a function, without its semicolon
unfoldable pub printed_local : CLocal → List ℕ
printed_local (declared.Extern result name types) = printed_extern result name types
printed_local (declared.StaticNumber of name value) = printed_static of name value
printed_local (declared.StaticNumbers of name length values) = printed_statics of name length values
printed_local (declared.StaticChars name length bytes) = printed_static_chars name length bytes
printed_local (declared.StaticList of name fields) = printed_list of name fields
printed_local (declared.Number of name) = number_name of name
printed_local (declared.Numbers of name length) = printed_array (number_word of) name length
printed_local (declared.Chars name length) = printed_array (codes "char") name length
printed_local (declared.Addresses name length) = printed_array (codes "address") name length

-- the part of a function's head to which a declaration belongs; a string without a written length is a format
unfoldable pub part_of : CLocal → Part
part_of (declared.Extern result name types) = part.Builtin
part_of (declared.StaticNumber of name value) = part.Variables
part_of (declared.StaticNumbers of name length values) = part.Variables
part_of (declared.StaticChars name None bytes) = part.Blocks
part_of (declared.StaticChars name (Some length) bytes) = part.Variables
part_of (declared.StaticList of name fields) = part.Blocks
part_of (declared.Number of name) = part.System
part_of (declared.Numbers of name length) = part.System
part_of (declared.Chars name length) = part.System
part_of (declared.Addresses name length) = part.System

unfoldable pub part_heading : Part → List ℕ
part_heading part.System = codes "    /* System generated locals */\n"
part_heading part.Builtin = codes "    /* Builtin functions */\n"
part_heading part.Variables = codes "    /* Local variables */\n"
part_heading part.Blocks = codes "    /* Fortran I/O blocks */\n"

unfoldable pub is_part : Part → Part → Bool
is_part part.System part.System = true
is_part part.Builtin part.Builtin = true
is_part part.Variables part.Variables = true
is_part part.Blocks part.Blocks = true
is_part _ _ = false

-- what stands before a declaration of a part: the part's heading where it begins there, after an empty line
-- where another part ends
unfoldable pub heading_after : Option Part → Part → List ℕ
heading_after None next = part_heading next
heading_after (Some before) next = if is_part before next then [] else 10 ∷ part_heading next

unfoldable pub local_line : CLocal → List ℕ
local_line local = codes "    " ++ (printed_local local ++ codes ";\n")

-- the empty line that ends the last part
unfoldable pub parts_end : Option Part → List ℕ
parts_end None = []
parts_end (Some before) = 10 ∷ []

-- the declarations in order, given the part of the one before them
unfoldable pub locals_after : Option Part → List CLocal → List ℕ
locals_after before [] = parts_end before
locals_after before (local ∷ later) =
    heading_after before (part_of local) ++ (local_line local ++ locals_after (Some (part_of local)) later)

-- an external object
unfoldable pub object_line : CObject → List ℕ
object_line (object.Integers name length values) =
    printed_array (codes "integer") name length ++ (first_values values ++ codes ";\n")
object_line (object.Chars name length bytes) =
    printed_array (codes "char") name length ++ (first_string bytes ++ codes ";\n")

-- the external objects, under their heading where there is one
unfoldable pub printed_objects : List CObject → List ℕ
printed_objects [] = []
printed_objects (first ∷ later) =
    letters is.Objects ++ flat_map object_line (first ∷ later)

unfoldable pub constant_line : CConstant → List ℕ
constant_line constant =
    letters is.StaticInteger ++ (constant.name ++ (codes " = " ++ (printed_value constant.value ++ codes ";\n")))

-- the constants, under their heading where there is one
unfoldable pub printed_constants : List CConstant → List ℕ
printed_constants [] = []
printed_constants (first ∷ later) =
    letters is.Constants ++ flat_map constant_line (first ∷ later)
