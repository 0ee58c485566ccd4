-- The reader of calls (C89, 3.3.2.2): by the name of a function, or through a parameter that points to one.
use Rattle.std.specs.Prelude.{ℕ, Bool, true, false, ◌&&◌, List, [], ◌∷◌, codes, bytes_eq, Option, Some, None, if◌then◌else◌}
use Rattle.c_tree.specs.declared.expression.CExpr.{CExpr}
use Rattle.c_tree.specs.declared.expression.CCall.{CCall}
use Rattle.c_tree.specs.Tokens.{Token, Word, Digits, Quoted, Sign, Including, Bad}
use Rattle.c_tree.specs.CWords.{is_among}
use Rattle.c_tree.specs.CExpressionText.{Scope}
use Rattle.c_readers.specs.Readers.{Tokens, Outcome, Reader, found, refused, ◌>>=◌, a_sign, a_name}
use Rattle.c_readers.specs.ListReader.{separated}
use Rattle.c_readers.specs.ExpressionReader.{expression}

unfoldable pub by_closing : Scope → ℕ → ℕ → List ℕ → Tokens → Bool → Option (Outcome (List CExpr))
by_closing scope nests count text more true = found [] more
by_closing scope nests count text more false = separated (expression scope nests 0) (codes ")") count [] (Sign text ∷ more)

-- The arguments of a call, up to the closing parenthesis: so many at most.
unfoldable pub arguments : Scope → ℕ → ℕ → Reader (List CExpr)
arguments scope nests count [] = separated (expression scope nests 0) (codes ")") count [] []
arguments scope nests count (Sign text ∷ more) = by_closing scope nests count text more (bytes_eq text (codes ")"))
arguments scope nests count (token ∷ more) = separated (expression scope nests 0) (codes ")") count [] (token ∷ more)

-- What stands behind the name of a function that is called, or behind the parenthesis that closes the name of a parameter.
unfoldable pub called : Scope → ℕ → ℕ → Bool → List ℕ → Reader CCall
called scope nests count through name tokens =
    a_sign (codes "(") tokens
    >>= (λ u. λ more. arguments scope nests count more >>= (λ given. found (record { through = through; name = name; arguments = given })))

-- Behind the opening parenthesis and the star of a call through a parameter: its name, the closing parenthesis, and the arguments.
unfoldable pub through_a_parameter : Scope → ℕ → ℕ → Reader CCall
through_a_parameter scope nests count tokens =
    a_name (λ name. is_among name scope.pointers) tokens
    >>= (λ name. λ more. a_sign (codes ")") more >>= (λ u. called scope nests count true name))

-- Behind the opening parenthesis.
unfoldable pub starred : Scope → ℕ → ℕ → Reader CCall
starred scope nests count tokens = a_sign (codes "*") tokens >>= (λ u. through_a_parameter scope nests count)

abbrev pub has_some : List (List ℕ) → Bool
has_some [] = false
has_some (name ∷ more) = true

unfoldable pub by_function : Scope → ℕ → ℕ → List ℕ → Tokens → Bool → Option (Outcome CCall)
by_function scope nests count name more true = called scope nests count false name more
by_function scope nests count name more false = refused (Word name ∷ more)

unfoldable pub by_opening : Scope → ℕ → ℕ → List ℕ → Tokens → Bool → Option (Outcome CCall)
by_opening scope nests count text more true = starred scope nests count more
by_opening scope nests count text more false = refused (Sign text ∷ more)

-- A call.
unfoldable pub call : Scope → ℕ → ℕ → Reader CCall
call scope nests count [] = refused []
call scope nests count (Word name ∷ more) = by_function scope nests count name more (is_among name scope.functions)
call scope nests count (Sign text ∷ more) = by_opening scope nests count text more (bytes_eq text (codes "(") && has_some scope.pointers)
call scope nests count (token ∷ more) = refused (token ∷ more)
