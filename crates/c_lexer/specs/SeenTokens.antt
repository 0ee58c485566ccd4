-- The tokens that those of the code stand for (C89, 3.1).
use Rattle.std.specs.Prelude.{ℕ, List, map, codes}
use Rattle.c_tree.specs.Tokens.{Token, Placed}
use Rattle.c_tree.specs.Tokens as c
use Rattle.c_lexer.specs.declared.token.CSign.{CSign}
use Rattle.c_lexer.specs.declared.token.CSign.TheVariants as sign
use Rattle.c_lexer.specs.declared.token.CToken.{CToken}
use Rattle.c_lexer.specs.declared.token.CToken.TheVariants as token
use Rattle.c_lexer.specs.declared.token.PlacedCToken.{PlacedCToken}

-- the bytes of a sign
unfoldable pub sign_codes : CSign → List ℕ
sign_codes sign.OpenParenthesis = codes "("
sign_codes sign.CloseParenthesis = codes ")"
sign_codes sign.OpenBracket = codes "["
sign_codes sign.CloseBracket = codes "]"
sign_codes sign.OpenBrace = codes "{"
sign_codes sign.CloseBrace = codes "}"
sign_codes sign.Comma = codes ","
sign_codes sign.Semicolon = codes ";"
sign_codes sign.Colon = codes ":"
sign_codes sign.Question = codes "?"
sign_codes sign.Period = codes "."
sign_codes sign.Assign = codes "="
sign_codes sign.AddAssign = codes "+="
sign_codes sign.Increment = codes "++"
sign_codes sign.Decrement = codes "--"
sign_codes sign.Plus = codes "+"
sign_codes sign.Minus = codes "-"
sign_codes sign.Star = codes "*"
sign_codes sign.Slash = codes "/"
sign_codes sign.Percent = codes "%"
sign_codes sign.Ampersand = codes "&"
sign_codes sign.Exclamation = codes "!"
sign_codes sign.Or = codes "||"
sign_codes sign.And = codes "&&"
sign_codes sign.Equal = codes "=="
sign_codes sign.Unequal = codes "!="
sign_codes sign.Less = codes "<"
sign_codes sign.LessOrEqual = codes "<="
sign_codes sign.Greater = codes ">"
sign_codes sign.GreaterOrEqual = codes ">="

unfoldable pub seen : CToken → Token
seen token.Including = c.Including
seen (token.Word bytes) = c.Word bytes
seen (token.Digits value) = c.Digits value
seen (token.Quoted bytes) = c.Quoted bytes
seen (token.Sign spelled) = c.Sign (sign_codes spelled)
seen token.Bad = c.Bad

unfoldable pub placed : PlacedCToken → Placed
placed found = record { token = seen found.token; line = found.line }

abbrev pub all_placed : List PlacedCToken → List Placed
all_placed tokens = map placed tokens
