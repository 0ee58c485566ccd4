-- One part of a file, with the names of the file and the parts that were read behind it (C89, 3.7).
use Rattle.std.specs.Prelude.{ℕ, Bool, true, false, List, [], ◌∷◌, Option}
use Rattle.c_tree.specs.declared.file.CObject.{CObject}
use Rattle.c_tree.specs.declared.file.CConstant.{CConstant}
use Rattle.c_tree.specs.declared.file.CFunction.{CFunction}
use Rattle.c_tree.specs.declared.file.CFile.{CFile}
use Rattle.c_tree.specs.CExpressionText.{Scope}
use Rattle.c_tree.specs.CDeclarationText.{with_object, with_array, with_function}
use Rattle.c_file_readers.specs.c_readers.Readers.{Tokens, Outcome, Reader, found, ◌>>=◌}
use Rattle.c_file_readers.specs.c_readers.DeclarationReader.{is_new}
use Rattle.c_file_readers.specs.ObjectReader.{Named, an_object, a_constant}
use Rattle.c_file_readers.specs.FileReader as reader
use Rattle.c_file_readers.specs.FileReader.{a_function, may_be_object, may_be_constant, with_one_object, with_one_constant, with_one_function}
use Rattle.c_file_reader.specs.declared.parts.Part.{Part}
use Rattle.c_file_reader.specs.declared.parts.Part.TheVariants as part

unfoldable pub seen_part : Part → reader.Part
seen_part part.Objects = reader.Objects
seen_part part.Constants = reader.Constants
seen_part part.Functions = reader.Functions

-- What stands behind a part: what may follow, the scope and the names of the file, and the parts so far.
abbrev pub Place : Type 0
Place = reader.Part × Scope × List (List ℕ) × CFile

-- What is declared, with the scope and the names of the file behind it.
abbrev pub Declared : Type 0 → Type 0
Declared A = A × Scope × List (List ℕ)

abbrev pub object_declared : Scope → List (List ℕ) → Named → Declared CObject
object_declared scope here one = (one.0, with_array one.1 scope, one.1 ∷ here)

unfoldable pub object_in : Scope → List (List ℕ) → Reader (Declared CObject)
object_in scope here tokens = an_object (is_new here) tokens >>= (λ one. found (object_declared scope here one))

abbrev pub constant_declared : Scope → List (List ℕ) → CConstant → Declared CConstant
constant_declared scope here one = (one, with_object one.name scope, one.name ∷ here)

unfoldable pub constant_in : Scope → List (List ℕ) → Reader (Declared CConstant)
constant_in scope here tokens = a_constant (is_new here) tokens >>= (λ one. found (constant_declared scope here one))

abbrev pub behind_object : CFile → Declared CObject → Place
behind_object file one = (reader.Objects, one.1, one.2, with_one_object one.0 file)

unfoldable pub object_part : Scope → List (List ℕ) → CFile → Reader Place
object_part scope here file tokens = object_in scope here tokens >>= (λ one. found (behind_object file one))

abbrev pub behind_constant : CFile → Declared CConstant → Place
behind_constant file one = (reader.Constants, one.1, one.2, with_one_constant one.0 file)

unfoldable pub constant_part : Scope → List (List ℕ) → CFile → Reader Place
constant_part scope here file tokens = constant_in scope here tokens >>= (λ one. found (behind_constant file one))

abbrev pub behind_function : Scope → List (List ℕ) → CFile → CFunction → Place
behind_function scope here file one = (reader.Functions, with_function one.name scope, one.name ∷ here, with_one_function one file)

unfoldable pub function_part : ℕ → Scope → List (List ℕ) → CFile → Reader Place
function_part nests scope here file tokens = a_function nests scope (is_new here) tokens >>= (λ one. found (behind_function scope here file one))

unfoldable pub part_by : ℕ → Scope → List (List ℕ) → CFile → Tokens → Bool → Bool → Option (Outcome Place)
part_by nests scope here file tokens true constant = object_part scope here file tokens
part_by nests scope here file tokens false true = constant_part scope here file tokens
part_by nests scope here file tokens false false = function_part nests scope here file tokens

-- The part that stands first.
unfoldable pub one_part : ℕ → reader.Part → Scope → List (List ℕ) → CFile → Reader Place
one_part nests at scope here file tokens = part_by nests scope here file tokens (may_be_object at tokens) (may_be_constant at tokens)

-- No token is left.
abbrev pub is_end : Tokens → Bool
is_end [] = true
is_end (token ∷ more) = false
