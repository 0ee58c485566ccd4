-- Readers of tokens, whatever the language: what stands first in tokens, with the tokens behind it, or the tokens from the first one on with
-- which nothing goes on.
use Rattle.std.specs.Prelude.{List, Option, Some, None, Result, Ok, Err}

-- What was found, with the tokens behind it, or the tokens from the offending one on.
abbrev pub Outcome : Type 0 → Type 0 → Type 0
Outcome Token A = Result (A × List Token) (List Token)

-- A reader gives nothing where more nests are open than it may open.
abbrev pub Reader : Type 0 → Type 0 → Type 0
Reader Token A = List Token → Option (Outcome Token A)

abbrev pub found : {Token A : Type 0} → A → Reader Token A
found x tokens = Some (Ok (x, tokens))

abbrev pub refused : {Token A : Type 0} → Reader Token A
refused tokens = Some (Err tokens)

infixl 1 ◌>>=◌
-- What is read behind what was read.
abbrev pub ◌>>=◌ : {Token A B : Type 0} → Option (Outcome Token A) → (A → Reader Token B) → Option (Outcome Token B)
None >>= next = None
Some (Err rest) >>= next = Some (Err rest)
Some (Ok p) >>= next = next p.0 p.1
