-- What a reading of tokens gives.
use Rattle.std.specs.Prelude.{◌≡◌, List, [], ◌∷◌, Option, Some, Result, Ok, Err}
use Rattle.c_lexer.specs.declared.token.PlacedCToken.{PlacedCToken}
use Rattle.c_lexer.specs.SeenTokens.{seen}
use Rattle.c_readers.specs.Readers.{Tokens, Outcome}
use Rattle.c_expression_reader.specs.declared.failure.Failure.{Failure}
use Rattle.c_expression_reader.specs.declared.failure.Failure.TheVariants.{Memory, NotC}

-- The tokens without their lines.
unfoldable pub shown : List PlacedCToken → Tokens
shown [] = []
shown (one ∷ more) = seen one.token ∷ shown more

-- A result is what a reader gives: what was found, with the tokens behind it, or the tokens from the offending one on. Want of memory says nothing.
abbrev pub Gives : {A B : Type 0} → (A → B × Tokens) → Result A Failure → Option (Outcome B) → Type 0
Gives found (Ok x) given = given ≡ Some (Ok (found x))
Gives found (Err (NotC rest)) given = given ≡ Some (Err (shown rest.now))
Gives found (Err Memory) given = Unit {0}
