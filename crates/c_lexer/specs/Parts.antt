-- What the parts of the reader give, in the words of the definition of tokens (C89, 3.1).
use Rattle.std.specs.Prelude.{◌≡◌, ◌≤◌, ℕ, true, false, List, Option, Some, None, length, take, drop, if◌then◌else◌}
use Rattle.std.specs.Str.Parse.{digits_value}
use Rattle.c_tree.specs.Tokens.{Cut, is_number, is_sign}
use Rattle.c_lexer.specs.declared.token.CSign.{CSign}
use Rattle.c_lexer.specs.SeenTokens.{sign_codes}

-- the first bytes of a text, and the others
abbrev pub cut_at : List ℕ → ℕ → Cut
cut_at text len = record { front = take len text; rest = drop len text }

-- the value of a number, where a text is one
abbrev pub as_number : List ℕ → Option ℕ
as_number text = if is_number text then Some (digits_value 10 text) else None

-- a sign and the bytes that spell it
pub record Spells (text : List ℕ) (sign : CSign) : Type 0 where
  pub spelling : sign_codes sign ≡ text
  pub known : is_sign text ≡ true

-- the sign that bytes spell, or none
abbrev pub IsSign : List ℕ → Option CSign → Type 0
IsSign text None = is_sign text ≡ false
IsSign text (Some sign) = Spells text sign

-- the sign of the first two bytes of a text, or none
pub record SpellsLong (text : List ℕ) (sign : CSign) : Type 0 where
  pub enough : 2 ≤ length text
  pub spells : Spells (take 2 text) sign

abbrev pub IsLongSign : List ℕ → Option CSign → Type 0
IsLongSign text None = 2 ≤ length text → is_sign (take 2 text) ≡ false
IsLongSign text (Some sign) = SpellsLong text sign
