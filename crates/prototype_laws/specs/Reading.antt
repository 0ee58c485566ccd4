-- A reader of prototype files that keeps no derivation: each line is read by its words, and has to be the line of what is read.
use Rattle.std.specs.Prelude.{ℕ, suc, ◌+◌, nat_le, Bool, true, false, ◌&&◌, List, [], ◌∷◌, ◌++◌, length, codes, Option, Some, None, Result, Ok, Err, bytes_eq, if◌then◌else◌}
use Rattle.prototypes.specs.c_tree.declared.declaration.CParam.{CParam}
use Rattle.prototypes.specs.c_tree.declared.types.ResultType.{ResultType}
use Rattle.prototypes.specs.c_tree.declared.types.ResultType.TheVariants as result
use Rattle.prototypes.specs.c_tree.declared.types.ParameterType.{ParameterType}
use Rattle.prototypes.specs.c_tree.declared.types.ParameterType.TheVariants as parameter
use Rattle.prototypes.specs.c_tree.declared.types.FunctionType.TheVariants as function
use Rattle.prototypes.specs.c_tree.Tokens.{begins_with, is_word_byte}
use Rattle.prototypes.specs.fortran_text.Lines.{lines}
use Rattle.prototypes.specs.declared.prototype.Prototype.{Prototype}
use Rattle.prototypes.specs.PrototypeText.{prototype_line, is_prototype, most_bytes}

-- a byte before words, which begins the first of them where that follows at once
unfoldable pub before_words : Bool → ℕ → List (List ℕ) → List (List ℕ)
before_words true b [] = (b ∷ []) ∷ []
before_words true b (word ∷ more) = (b ∷ word) ∷ more
before_words false b words = (b ∷ []) ∷ words

-- the words of a line: its longest runs of letters, digits and underscores
unfoldable pub words : List ℕ → List (List ℕ)
words [] = []
words (b ∷ rest) = if is_word_byte b then before_words (begins_with is_word_byte rest) b (words rest) else words rest

-- what a function gives, by its word
unfoldable pub result_named : List ℕ → Option ResultType
result_named word =
    if bytes_eq word (codes "int") then Some result.Int
    else (if bytes_eq word (codes "integer") then Some result.Integer
    else (if bytes_eq word (codes "logical") then Some result.Logical
    else (if bytes_eq word (codes "VOID") then Some result.Void else None)))

-- a pointer to a function, by its word
unfoldable pub function_named : List ℕ → Option ParameterType
function_named word =
    if bytes_eq word (codes "S_fp") then Some (parameter.Function function.Subroutine)
    else (if bytes_eq word (codes "I_fp") then Some (parameter.Function function.Integer)
    else (if bytes_eq word (codes "L_fp") then Some (parameter.Function function.Logical)
    else (if bytes_eq word (codes "U_fp") then Some (parameter.Function function.Unknown) else None)))

-- the type of a parameter, by its word
unfoldable pub type_named : List ℕ → Option ParameterType
type_named word =
    if bytes_eq word (codes "integer") then Some parameter.Integers
    else (if bytes_eq word (codes "logical") then Some parameter.Logicals
    else (if bytes_eq word (codes "char") then Some parameter.Chars
    else (if bytes_eq word (codes "ftnlen") then Some parameter.Length
    else (if bytes_eq word (codes "int") then Some parameter.Int else function_named word))))

-- what follows a type, where there is one
abbrev pub behind_type : (ParameterType → Option (List CParam)) → Option ParameterType → Option (List CParam)
behind_type next None = None
behind_type next (Some type) = next type

-- the parameters that pairs of words tell, behind those that are read; the word that stands alone where there is none is judged with its line
unfoldable pub params_behind : List CParam → List (List ℕ) → Option (List CParam)
params_behind done [] = Some done
params_behind done (alone ∷ []) = Some done
params_behind done (word ∷ name ∷ more) = behind_type (λ type. params_behind (done ++ record { of = type; name = name } ∷ []) more) (type_named word)

abbrev pub with_parts : Option ResultType → List ℕ → Option (List CParam) → Option Prototype
with_parts None name params = None
with_parts (Some gives) name None = None
with_parts (Some gives) name (Some params) = Some (record { result = gives; name = name; params = params })

-- the prototype that the words of a line tell
unfoldable pub prototype_in : List (List ℕ) → Option Prototype
prototype_in [] = None
prototype_in (extern ∷ []) = None
prototype_in (extern ∷ gives ∷ []) = None
prototype_in (extern ∷ gives ∷ name ∷ more) = with_parts (result_named gives) name (params_behind [] more)

-- it counts where the line is its line, and says what a line may say
unfoldable pub if_told : List ℕ → Option Prototype → Option Prototype
if_told line None = None
if_told line (Some p) = if is_prototype p && bytes_eq (prototype_line p) line then Some p else None

unfoldable pub line_prototype : List ℕ → Option Prototype
line_prototype line = if_told line (prototype_in (words line))

-- a line behind so many bytes, within the limit
unfoldable pub prototype_within : ℕ → List ℕ → Option Prototype
prototype_within size line = if nat_le (size + length line) most_bytes then line_prototype line else None

abbrev pub behind_line : ℕ → (Prototype → Result (List Prototype) ℕ) → Option Prototype → Result (List Prototype) ℕ
behind_line line next None = Err line
behind_line line next (Some p) = next p

-- the prototypes of lines, behind those that are read, given the number of the first line and how many bytes stand before it; or the number of the
-- first line that is refused
unfoldable pub prototypes_behind : List Prototype → ℕ → ℕ → List (List ℕ) → Result (List Prototype) ℕ
prototypes_behind done number size [] = Ok done
prototypes_behind done number size (line ∷ more) =
    behind_line number (λ p. prototypes_behind (done ++ p ∷ []) (suc number) (size + length line) more) (prototype_within size line)

-- the prototypes of a file, or the line at which it is refused
unfoldable pub reading : List ℕ → Result (List Prototype) ℕ
reading bytes = prototypes_behind [] 1 0 (lines bytes)
