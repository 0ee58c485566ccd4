-- Where the reader of a string stands, in the words of the definition (C89, 3.1.4).
use Rattle.std.specs.Prelude.{◌≡◌, ◌<◌, ◌≤◌, ℕ, suc, List, [], Option, Some, None, length, drop, get_or}
use Rattle.c_tree.specs.Tokens.{Cut, longer_if, string_from}
use Rattle.c_tree.specs.Tokens as c
use Rattle.c_lexer.specs.declared.strings.Awaited.{Awaited}
use Rattle.c_lexer.specs.declared.strings.Awaited.TheVariants as awaited
use Rattle.c_lexer.specs.declared.strings.Effect.{Effect}
use Rattle.c_lexer.specs.declared.strings.Effect.TheVariants as effect
use Rattle.c_lexer.specs.declared.strings.StringEnd.{StringEnd}
use Rattle.c_lexer.specs.declared.strings.StringEnd.TheVariants as end

unfoldable pub seen_awaited : Awaited → c.Awaited
seen_awaited awaited.Plain = c.Plain
seen_awaited awaited.Escape = c.Escape
seen_awaited (awaited.SecondDigit value) = c.Octal 1 value
seen_awaited (awaited.ThirdDigit value) = c.Octal 0 value

-- the digits before are those of a byte
abbrev pub IsWithin : Awaited → Type 0
IsWithin awaited.Plain = Unit {0}
IsWithin awaited.Escape = Unit {0}
IsWithin (awaited.SecondDigit value) = value < 4
IsWithin (awaited.ThirdDigit value) = value < 32

-- the string from a byte on, by what the byte does and what follows it
unfoldable pub continued : Effect → List ℕ → Option Cut
continued effect.Ends later = Some (record { front = []; rest = later })
continued effect.Fails later = None
continued (effect.Awaits next) later = string_from (seen_awaited next) later
continued (effect.Gives byte) later = longer_if byte (string_from c.Plain later)

abbrev pub StaysWithin : Effect → Type 0
StaysWithin effect.Ends = Unit {0}
StaysWithin effect.Fails = Unit {0}
StaysWithin (effect.Awaits next) = IsWithin next
StaysWithin (effect.Gives byte) = Unit {0}

-- a byte that ends what stands for a byte, or the string
abbrev pub NeedsNoMore : Effect → Type 0
NeedsNoMore effect.Ends = Unit {0}
NeedsNoMore effect.Fails = Unit {0}
NeedsNoMore (effect.Awaits next) = ⊥
NeedsNoMore (effect.Gives byte) = Unit {0}

-- no quote among the first bytes begins a string
abbrev pub BeginNone : List ℕ → ℕ → Type 0
BeginNone text count = (at : ℕ) → at < count → get_or text at 0 ≡ 34 → string_from c.Plain (drop (suc at) text) ≡ None

-- the bytes of a string behind its first quote, and how many bytes of a text it takes
pub record IsClosed (text bytes : List ℕ) (len : ℕ) : Type 0 where
  pub value : string_from c.Plain text ≡ Some (record { front = bytes; rest = drop len text })
  pub within : len ≤ length text

-- a text that is no string behind its first quote; the quotes among its first bytes begin none either
pub record IsUnclosed (text : List ℕ) (count : ℕ) : Type 0 where
  pub value : string_from c.Plain text ≡ None
  pub quotes : BeginNone text count
  pub within : count ≤ length text

abbrev pub IsStringEnd : List ℕ → StringEnd → Type 0
IsStringEnd text (end.Closed bytes len) = IsClosed text bytes len
IsStringEnd text (end.Unclosed count) = IsUnclosed text count
