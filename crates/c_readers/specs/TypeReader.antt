-- The readers of types (C89, 3.5.2), by the words that they begin with.
use Rattle.std.specs.Prelude.{ℕ, Bool, true, false, List, [], ◌∷◌, codes, bytes_eq, drop, Option}
use Rattle.c_tree.specs.declared.types.NumberType.{NumberType}
use Rattle.c_tree.specs.declared.types.NumberType.TheVariants as number
use Rattle.c_tree.specs.declared.types.ResultType.{ResultType}
use Rattle.c_tree.specs.declared.types.ResultType.TheVariants as result
use Rattle.c_tree.specs.declared.types.FunctionType.TheVariants as pointer
use Rattle.c_tree.specs.declared.types.ListType.{ListType}
use Rattle.c_tree.specs.declared.types.ListType.TheVariants as list
use Rattle.c_tree.specs.declared.types.ParameterType.{ParameterType}
use Rattle.c_tree.specs.declared.types.ParameterType.TheVariants as parameter
use Rattle.c_tree.specs.declared.types.ArgumentType.{ArgumentType}
use Rattle.c_tree.specs.declared.types.ArgumentType.TheVariants as argument
use Rattle.c_tree.specs.Tokens.{Word}
use Rattle.c_tree.specs.CWords.{parameter_tokens, argument_tokens}
use Rattle.c_readers.specs.Readers.{Tokens, Outcome, Reader, found, ◌>>=◌, a_sign, all_stand}
use Rattle.c_readers.specs.ListReader.{separated}
use Rattle.c_readers.specs.ValueReader.{a_word_of}

abbrev pub result_words : List (List ℕ × ResultType)
result_words = (codes "int", result.Int) ∷ (codes "integer", result.Integer) ∷ (codes "logical", result.Logical) ∷ (codes "VOID", result.Void) ∷ []

abbrev pub parameter_words : List (List ℕ × ParameterType)
parameter_words =
    (codes "integer", parameter.Integers) ∷ (codes "logical", parameter.Logicals) ∷ (codes "char", parameter.Chars)
    ∷ (codes "ftnlen", parameter.Length) ∷ (codes "int", parameter.Int) ∷ (codes "S_fp", parameter.Function pointer.Subroutine)
    ∷ (codes "I_fp", parameter.Function pointer.Integer) ∷ (codes "L_fp", parameter.Function pointer.Logical)
    ∷ (codes "U_fp", parameter.Function pointer.Unknown) ∷ []

abbrev pub argument_words : List (List ℕ × ArgumentType)
argument_words =
    (codes "integer", argument.Parameter parameter.Integers) ∷ (codes "logical", argument.Parameter parameter.Logicals)
    ∷ (codes "char", argument.Parameter parameter.Chars) ∷ (codes "ftnlen", argument.Parameter parameter.Length)
    ∷ (codes "int", argument.Parameter parameter.Int) ∷ (codes "S_fp", argument.Parameter (parameter.Function pointer.Subroutine))
    ∷ (codes "I_fp", argument.Parameter (parameter.Function pointer.Integer))
    ∷ (codes "L_fp", argument.Parameter (parameter.Function pointer.Logical))
    ∷ (codes "U_fp", argument.Parameter (parameter.Function pointer.Unknown)) ∷ (codes "cilist", argument.List list.Transfer)
    ∷ (codes "icilist", argument.List list.Internal) ∷ (codes "olist", argument.List list.Open) ∷ (codes "cllist", argument.List list.Close)
    ∷ (codes "alist", argument.List list.Position) ∷ (codes "address", argument.Addresses) ∷ []

-- The type of a parameter.
unfoldable pub parameter_type : Reader ParameterType
parameter_type tokens = a_word_of parameter_words tokens >>= (λ of. λ more. all_stand (drop 1 (parameter_tokens of)) more >>= (λ u. found of))

-- The type of an argument of a declared function.
unfoldable pub argument_type : Reader ArgumentType
argument_type tokens = a_word_of argument_words tokens >>= (λ of. λ more. all_stand (drop 1 (argument_tokens of)) more >>= (λ u. found of))

unfoldable pub by_void : ℕ → List ℕ → Tokens → Bool → Option (Outcome (List ArgumentType))
by_void count text more true = a_sign (codes ")") more >>= (λ u. found [])
by_void count text more false = separated argument_type (codes ")") count [] (Word text ∷ more)

-- The types of the arguments of a declared function, up to the closing parenthesis: so many at most.
unfoldable pub argument_types : ℕ → Reader (List ArgumentType)
argument_types count [] = separated argument_type (codes ")") count [] []
argument_types count (Word text ∷ more) = by_void count text more (bytes_eq text (codes "void"))
argument_types count (token ∷ more) = separated argument_type (codes ")") count [] (token ∷ more)
