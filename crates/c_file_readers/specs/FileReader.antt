-- The readers of the functions of a C file, and of a whole file (C89, 3.7): the include line, the external objects, the constants, the functions.
use Rattle.std.specs.Prelude.{ℕ, zero, suc, Bool, true, false, ◌&&◌, List, [], ◌∷◌, ◌++◌, codes, bytes_eq, Option, None, if◌then◌else◌}
use Rattle.c_statement_readers.specs.c_tree.declared.types.ResultType.{ResultType}
use Rattle.c_statement_readers.specs.c_tree.declared.statement.CStmt.{CStmt}
use Rattle.c_statement_readers.specs.c_tree.declared.file.CObject.{CObject}
use Rattle.c_statement_readers.specs.c_tree.declared.file.CConstant.{CConstant}
use Rattle.c_statement_readers.specs.c_tree.declared.file.CFunction.{CFunction}
use Rattle.c_statement_readers.specs.c_tree.declared.file.CFile.{CFile}
use Rattle.c_statement_readers.specs.c_tree.Tokens.{Word, Sign, Including}
use Rattle.c_statement_readers.specs.c_tree.CExpressionText.{Scope}
use Rattle.c_statement_readers.specs.c_tree.CDeclarationText.{with_object, with_array, with_function}
use Rattle.c_statement_readers.specs.c_tree.CText.{no_names}
use Rattle.c_statement_readers.specs.c_readers.Readers.{Tokens, Outcome, Reader, found, refused, ◌>>=◌, a_sign, a_name}
use Rattle.c_statement_readers.specs.c_readers.ValueReader.{a_word_of}
use Rattle.c_statement_readers.specs.c_readers.TypeReader.{result_words}
use Rattle.c_statement_readers.specs.c_readers.DeclarationReader.{is_new}
use Rattle.c_statement_readers.specs.c_readers.HeadReader.{Parameters, parameter_list, Locals, locals}
use Rattle.c_statement_readers.specs.StatementReader.{body}
use Rattle.c_file_readers.specs.ObjectReader.{an_object, a_constant}

-- ## Functions (C89, 3.7.1)

abbrev pub function_of : ResultType → List ℕ → Parameters → Locals → List CStmt → CFunction
function_of of name head made inner = record { result = of; name = name; params = head.0; locals = made.0; body = inner }

-- Behind the head of a function: its declarations and its statements, in braces.
unfoldable pub function_body : ℕ → ResultType → List ℕ → Parameters → Reader CFunction
function_body nests of name head tokens =
    a_sign (codes "{") tokens
    >>= (λ u. λ p. locals nests nests head.1 head.2 [] p
    >>= (λ made. λ q. body made.1 nests nests q >>= (λ inner. found (function_of of name head made inner))))

-- Behind the name of a function, which is declared from its parameters on.
unfoldable pub function_behind : ℕ → Scope → ResultType → List ℕ → Reader CFunction
function_behind nests scope of name tokens =
    a_sign (codes "(") tokens >>= (λ u. λ p. parameter_list nests (with_function name scope) [] p >>= function_body nests of name)

-- A function whose name passes a test.
unfoldable pub a_function : ℕ → Scope → (List ℕ → Bool) → Reader CFunction
a_function nests scope new tokens = a_word_of result_words tokens >>= (λ of. λ p. a_name new p >>= function_behind nests scope of)

-- ## The parts of a file

-- What stands at a place of a file, given what stood before it: external objects come first, then constants, then functions.
pub data Part : Type 0 where
  Objects : Part
  Constants : Part
  Functions : Part

-- A name with an opening bracket behind it.
abbrev pub names_array : Tokens → Bool
names_array (Word name ∷ Sign text ∷ more) = bytes_eq text (codes "[")
names_array other = false

-- An external object begins: `char`, or `integer` with a name and an opening bracket behind it.
abbrev pub begins_object : Tokens → Bool
begins_object (Word text ∷ more) = if bytes_eq text (codes "char") then true else (bytes_eq text (codes "integer") && names_array more)
begins_object other = false

-- A constant begins.
abbrev pub begins_constant : Tokens → Bool
begins_constant (Word text ∷ more) = bytes_eq text (codes "static")
begins_constant other = false

abbrev pub may_be_object : Part → Tokens → Bool
may_be_object Objects tokens = begins_object tokens
may_be_object Constants tokens = false
may_be_object Functions tokens = false

abbrev pub may_be_constant : Part → Tokens → Bool
may_be_constant Objects tokens = begins_constant tokens
may_be_constant Constants tokens = begins_constant tokens
may_be_constant Functions tokens = false

-- What was read of a file.
abbrev pub with_one_object : CObject → CFile → CFile
with_one_object one file = record file { objects = file.objects ++ (one ∷ []) }

abbrev pub with_one_constant : CConstant → CFile → CFile
with_one_constant one file = record file { constants = file.constants ++ (one ∷ []) }

abbrev pub with_one_function : CFunction → CFile → CFile
with_one_function one file = record file { functions = file.functions ++ (one ∷ []) }

abbrev pub no_parts : CFile
no_parts = record { objects = []; constants = []; functions = [] }

-- What is read behind a part, with the names of the file and the parts that were read.
abbrev pub Further : Type 0
Further = Part → Scope → List (List ℕ) → CFile → Reader CFile

unfoldable pub an_object_and_more : Further → Scope → List (List ℕ) → CFile → Reader CFile
an_object_and_more again scope here file tokens =
    an_object (is_new here) tokens >>= (λ one. again Objects (with_array one.1 scope) (one.1 ∷ here) (with_one_object one.0 file))

unfoldable pub a_constant_and_more : Further → Scope → List (List ℕ) → CFile → Reader CFile
a_constant_and_more again scope here file tokens =
    a_constant (is_new here) tokens >>= (λ one. again Constants (with_object one.name scope) (one.name ∷ here) (with_one_constant one file))

unfoldable pub a_function_and_more : ℕ → Further → Scope → List (List ℕ) → CFile → Reader CFile
a_function_and_more nests again scope here file tokens =
    a_function nests scope (is_new here) tokens
    >>= (λ one. again Functions (with_function one.name scope) (one.name ∷ here) (with_one_function one file))

unfoldable pub by_part : ℕ → Further → Scope → List (List ℕ) → CFile → Tokens → Bool → Bool → Option (Outcome CFile)
by_part nests again scope here file tokens true constant = an_object_and_more again scope here file tokens
by_part nests again scope here file tokens false true = a_constant_and_more again scope here file tokens
by_part nests again scope here file tokens false false = a_function_and_more nests again scope here file tokens

-- The parts of a file, up to its end, where these ones were read before: so many, and so many nests in each, at most.
unfoldable pub parts : ℕ → ℕ → Further
parts nests zero part scope here file tokens = None
parts nests (suc count) part scope here file [] = found file []
parts nests (suc count) part scope here file (token ∷ more) =
    by_part nests (parts nests count) scope here file (token ∷ more) (may_be_object part (token ∷ more)) (may_be_constant part (token ∷ more))

-- A file (C89, 3.7): the include line, and what stands behind it.
unfoldable pub a_file : ℕ → Reader CFile
a_file nests [] = refused []
a_file nests (Including ∷ more) = parts nests nests Objects no_names [] no_parts more
a_file nests (token ∷ more) = refused (token ∷ more)
