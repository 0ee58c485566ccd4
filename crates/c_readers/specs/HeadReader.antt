-- The readers of what stands at the head of a function: its parameters and its declarations (C89, 3.5 and 3.7.1).
use Rattle.std.specs.Prelude.{ℕ, zero, suc, Bool, true, false, List, [], ◌∷◌, ◌++◌, codes, bytes_eq, Option, Some, None}
use Rattle.c_tree.specs.declared.types.ParameterType.{ParameterType}
use Rattle.c_tree.specs.declared.declaration.CParam.{CParam}
use Rattle.c_tree.specs.declared.declaration.CLocal.{CLocal}
use Rattle.c_tree.specs.Tokens.{Word, Sign}
use Rattle.c_tree.specs.CExpressionText.{Scope}
use Rattle.c_tree.specs.CDeclarationText.{with_declared, with_parameter}
use Rattle.c_readers.specs.Readers.{Tokens, Outcome, Reader, found, refused, ◌>>=◌, lookup, a_sign, a_name}
use Rattle.c_readers.specs.ListReader.{Separator, Closes, Goes, Neither, separator}
use Rattle.c_readers.specs.TypeReader.{parameter_type}
use Rattle.c_readers.specs.DeclarationReader.{is_new, Declared, LocalLead, local_words, local_by}

-- ## Parameters

-- Parameters, with the scope and the names behind them.
abbrev pub Parameters : Type 0
Parameters = List CParam × Scope × List (List ℕ)

abbrev pub a_parameter : ParameterType → List ℕ → CParam
a_parameter of name = record { of = of; name = name }

abbrev pub parameters_by : Reader Parameters → Parameters → List ℕ → Tokens → Separator → Option (Outcome Parameters)
parameters_by again made text more Closes = found made more
parameters_by again made text more Goes = again more
parameters_by again made text more Neither = refused (Sign text ∷ more)

-- Behind a parameter, where these ones were read.
unfoldable pub behind_parameter : Reader Parameters → Parameters → Reader Parameters
behind_parameter again made [] = refused []
behind_parameter again made (Sign text ∷ more) = parameters_by again made text more (separator (codes ")") text)
behind_parameter again made (token ∷ more) = refused (token ∷ more)

-- One parameter or more, up to the closing parenthesis, where these ones were read before: so many at most.
unfoldable pub parameters : ℕ → Scope → List (List ℕ) → List CParam → Reader Parameters
parameters zero scope here items tokens = None
parameters (suc count) scope here items tokens =
    parameter_type tokens
    >>= (λ of. λ p. a_name (is_new here) p
    >>= (λ name.
    behind_parameter (parameters count (with_parameter of name scope) (name ∷ here) (items ++ (a_parameter of name ∷ [])))
    (items ++ (a_parameter of name ∷ []), with_parameter of name scope, name ∷ here)))

unfoldable pub parameters_or_none : ℕ → Scope → List (List ℕ) → List ℕ → Tokens → Bool → Option (Outcome Parameters)
parameters_or_none count scope here text more true = a_sign (codes ")") more >>= (λ u. found ([], scope, here))
parameters_or_none count scope here text more false = parameters count scope here [] (Word text ∷ more)

-- The parameters of a function, up to the closing parenthesis.
unfoldable pub parameter_list : ℕ → Scope → List (List ℕ) → Reader Parameters
parameter_list count scope here [] = parameters count scope here [] []
parameter_list count scope here (Word text ∷ more) = parameters_or_none count scope here text more (bytes_eq text (codes "void"))
parameter_list count scope here (token ∷ more) = parameters count scope here [] (token ∷ more)

-- ## Declarations

-- Declarations, with the scope behind them.
abbrev pub Locals : Type 0
Locals = List CLocal × Scope

unfoldable pub locals_by : (Declared → Reader Locals) → ℕ → Scope → List (List ℕ) → List CLocal → List ℕ → Tokens → Option LocalLead → Option (Outcome Locals)
locals_by again most scope here items text more (Some lead) = local_by scope (is_new here) most more lead >>= again
locals_by again most scope here items text more None = found (items, scope) (Word text ∷ more)

-- The declarations of a function, where these ones were read before: so many, and so many types in one, at most.
unfoldable pub locals : ℕ → ℕ → Scope → List (List ℕ) → List CLocal → Reader Locals
locals most zero scope here items tokens = None
locals most (suc count) scope here items [] = found (items, scope) []
locals most (suc count) scope here items (Word text ∷ more) =
    locals_by (λ d. locals most count (with_declared d.0 d.1 scope) (d.1 ∷ here) (items ++ (d.0 ∷ []))) most scope here items text more (lookup text local_words)
locals most (suc count) scope here items (token ∷ more) = found (items, scope) (token ∷ more)
