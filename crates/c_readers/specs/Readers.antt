-- Readers of the tokens of a C text (C89, 3): what stands first in tokens, with the tokens behind it, or the tokens from the first one on with
-- which nothing goes on.
use Rattle.std.specs.Prelude.{ℕ, Bool, List, [], ◌∷◌, bytes_eq, Option, Some, None, Result, Ok, Err, if◌then◌else◌}
use Rattle.grammar.specs.Readers as grammar
pub use Rattle.grammar.specs.Readers.{found, refused, ◌>>=◌}
use Rattle.c_tree.specs.Tokens.{Token, Word, Sign}

abbrev pub Tokens : Type 0
Tokens = List Token

-- What was found, with the tokens behind it, or the tokens from the offending one on.
abbrev pub Outcome : Type 0 → Type 0
Outcome A = grammar.Outcome Token A

-- A reader gives nothing where more nests are open than it may open.
abbrev pub Reader : Type 0 → Type 0
Reader A = grammar.Reader Token A

-- What stands beside a text in a table.
abbrev pub lookup : {A : Type 0} → List ℕ → List (List ℕ × A) → Option A
lookup text [] = None
lookup text (row ∷ more) = if bytes_eq text row.0 then Some row.1 else lookup text more

-- A sign.
unfoldable pub a_sign : List ℕ → Reader (Unit {0})
a_sign text [] = refused []
a_sign text (Sign found_text ∷ more) = if bytes_eq found_text text then found tt more else refused (Sign found_text ∷ more)
a_sign text (token ∷ more) = refused (token ∷ more)

-- A word.
unfoldable pub a_word : List ℕ → Reader (Unit {0})
a_word text [] = refused []
a_word text (Word found_text ∷ more) = if bytes_eq found_text text then found tt more else refused (Word found_text ∷ more)
a_word text (token ∷ more) = refused (token ∷ more)

-- A name that passes a test.
unfoldable pub a_name : (List ℕ → Bool) → Reader (List ℕ)
a_name passes [] = refused []
a_name passes (Word text ∷ more) = if passes text then found text more else refused (Word text ∷ more)
a_name passes (token ∷ more) = refused (token ∷ more)

-- Words and signs, one behind the other.
unfoldable pub all_stand : Tokens → Reader (Unit {0})
all_stand [] tokens = found tt tokens
all_stand (Word text ∷ wanted) tokens = a_word text tokens >>= (λ u. all_stand wanted)
all_stand (Sign text ∷ wanted) tokens = a_sign text tokens >>= (λ u. all_stand wanted)
all_stand (token ∷ wanted) tokens = refused tokens
