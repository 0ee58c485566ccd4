-- What stands at the head of a function, one part at a time (C89, 3.5 and 3.7.1).
use Rattle.std.specs.Prelude.{ℕ, Bool, List, [], ◌∷◌, Option, None, option_map}
use Rattle.c_tree.specs.declared.declaration.CParam.{CParam}
use Rattle.c_tree.specs.declared.declaration.CLocal.{CLocal}
use Rattle.c_tree.specs.Tokens.{Word}
use Rattle.c_tree.specs.CExpressionText.{Scope}
use Rattle.c_tree.specs.CDeclarationText.{with_declared}
use Rattle.c_readers.specs.Readers.{Tokens, Outcome, Reader, found, ◌>>=◌, lookup, a_name}
use Rattle.c_readers.specs.TypeReader.{parameter_type}
use Rattle.c_readers.specs.DeclarationReader.{Declared, LocalLead, local_words}
use Rattle.c_readers.specs.HeadReader.{a_parameter}

-- A parameter whose name passes a test.
unfoldable pub one_parameter : (List ℕ → Bool) → Reader CParam
one_parameter new tokens = parameter_type tokens >>= (λ of. λ p. a_name new p >>= (λ name. found (a_parameter of name)))

-- The declaration that tokens begin, if they begin one, with the tokens behind its first word.
unfoldable pub lead_in : Tokens → Option (LocalLead × Tokens)
lead_in [] = None
lead_in (Word text ∷ more) = option_map (λ lead. (lead, more)) (lookup text local_words)
lead_in (token ∷ more) = None

-- What was declared, with the scope and the names behind it.
abbrev pub One : Type 0
One = CLocal × Scope × List (List ℕ)

unfoldable pub declared_in : Scope → List (List ℕ) → Option (Outcome Declared) → Option (Outcome One)
declared_in scope here given = given >>= (λ d. found (d.0, with_declared d.0 d.1 scope, d.1 ∷ here))
