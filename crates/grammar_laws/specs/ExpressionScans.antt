-- What may stand in the pieces of an expression, and the scan that tells an implied DO list from an expression in parentheses. ANSI X3.9-1978,
-- sections 6 and 12.8.2.3.
use Rattle.std.specs.Prelude.{◌≡◌, ℕ, zero, suc, Bool, true, false, [], ◌∷◌}
use Rattle.fortran_grammar.specs.f_tree.declared.expressions.BinaryOp.TheVariants as operator
use Rattle.fortran_grammar.specs.fortran_lexemes.Lexemes.{Lexeme, Lexemes, Name, Number, Quoted, Infix, Negation, Truth, Mark}
use Rattle.fortran_grammar.specs.fortran_lexemes.declared.signs.Sign.TheVariants as sign

-- A piece that an expression may hold, apart from parentheses; commas and colons stand within parentheses only.
unfoldable pub may_stand : Bool → Lexeme → Bool
may_stand within (Name x) = true
may_stand within (Number digits value) = true
may_stand within (Quoted characters) = true
may_stand within (Infix o) = true
may_stand within Negation = true
may_stand within (Truth b) = true
may_stand within (Mark sign.Comma) = within
may_stand within (Mark sign.Colon) = within
may_stand within other = false

-- From one place in pieces to another: parentheses match, and each other piece may stand there.
pub data Passes : Bool → Lexemes → Lexemes → Type 0 where
  ended : (within : Bool) (after : Lexemes) → Passes within after after
  passed : (within : Bool) (piece : Lexeme) (before after : Lexemes) → may_stand within piece ≡ true → Passes within before after → Passes within (piece ∷ before) after
  nested : (within : Bool) (before behind after : Lexemes) → Passes true before (Mark sign.Close ∷ behind) → Passes within behind after
      → Passes within (Mark sign.Open ∷ before) after

-- What an expression begins with.
unfoldable pub begins_expression : Lexemes → Bool
begins_expression (Name x ∷ more) = true
begins_expression (Number digits value ∷ more) = true
begins_expression (Quoted characters ∷ more) = true
begins_expression (Truth b ∷ more) = true
begins_expression (Negation ∷ more) = true
begins_expression (Infix operator.Plus ∷ more) = true
begins_expression (Infix operator.Minus ∷ more) = true
begins_expression (Mark sign.Open ∷ more) = true
begins_expression other = false

-- An `=` stands before the parenthesis that closes so many, and in no inner ones.
unfoldable pub equals_ahead : ℕ → Lexemes → Bool
equals_ahead depth [] = false
equals_ahead depth (Mark sign.Open ∷ more) = equals_ahead (suc depth) more
equals_ahead zero (Mark sign.Close ∷ more) = false
equals_ahead (suc depth) (Mark sign.Close ∷ more) = equals_ahead depth more
equals_ahead zero (Mark sign.Equals ∷ more) = true
equals_ahead depth (piece ∷ more) = equals_ahead depth more
