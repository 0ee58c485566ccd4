-- The pieces that tokens stand for.
use Rattle.std.specs.Prelude.{◌≡◌, ◌≤◌, ◌+◌, min, ℕ, suc, length, ◌∷◌, List, take, drop, map, option_map}
use Rattle.fortran_text.specs.declared.characters.Character.{Character}
use Rattle.fortran_lexemes.specs.Lexemes.{Lexeme, Lexemes}
use Rattle.fortran_lexemes.specs.Lexemes as piece
use Rattle.fortran_lexemes.specs.PiecesOfText as pieces_of_text
use Rattle.fortran_lexemes.specs.PiecesOfText.{codes_of, undoubled}
use Rattle.fortran_lexemes.specs.PiecesOfStatements as pieces_of_statements
use Rattle.stmt_lex.specs.declared.token.Cut.{Cut}
use Rattle.stmt_lex.specs.declared.token.Span.{Span}
use Rattle.stmt_lex.specs.declared.token.Step.{Step}
use Rattle.stmt_lex.specs.declared.token.Token.{Token}
use Rattle.stmt_lex.specs.declared.token.Token.TheVariants as token

-- The characters of a span.
abbrev pub spanned : List Character → Span → List Character
spanned text span = take span.len (drop span.from text)

-- The piece of a token.
unfoldable pub lexeme_of : List Character → Token → Lexeme
lexeme_of text (token.Name span) = piece.Name (codes_of (spanned text span))
lexeme_of text token.LongName = piece.LongName
lexeme_of text (token.Number span value) = piece.Number (codes_of (spanned text span)) value
lexeme_of text token.TooLarge = piece.TooLarge
lexeme_of text (token.Quoted span) = piece.Quoted (undoubled (spanned text span))
lexeme_of text token.BadQuote = piece.BadQuote
lexeme_of text (token.Infix op) = piece.Infix op
lexeme_of text token.Negation = piece.Negation
lexeme_of text (token.Truth value) = piece.Truth value
lexeme_of text (token.Mark sign) = piece.Mark sign
lexeme_of text (token.Word kind) = piece.Word kind
lexeme_of text token.To = piece.To
lexeme_of text token.Then = piece.Then
lexeme_of text (token.FormatText span) = piece.FormatText (codes_of (spanned text span))
lexeme_of text (token.Other code) = piece.Other code

-- The pieces of tokens.
unfoldable pub seen : List Character → List Token → Lexemes
seen text tokens = map (lexeme_of text) tokens

-- A cut at the beginning of a text.
unfoldable pub seen_cut : List Character → Cut → pieces_of_text.Cut
seen_cut text cut = record { piece = lexeme_of text cut.token; rest = drop cut.len text }

-- A step at the beginning of a text.
unfoldable pub seen_step : List Character → Step → pieces_of_statements.Step
seen_step text step = record { piece = option_map (lexeme_of text) step.token; rest = drop step.len text; next = step.next }

-- A step in code is one of the definitions, and goes no further than the text.
pub record IsStep (c : Character) (rest : List Character) (wanted : pieces_of_statements.Step) (step : Step) : Type 0 where
  pub value : seen_step (c ∷ rest) step ≡ wanted
  pub within : step.len ≤ suc (length rest)

-- A token that stands so many characters further on; past the greatest number of the code there is no text.
abbrev pub shifted_span : ℕ → Span → Span
shifted_span at span = record { from = min (at + span.from) 18446744073709551615; len = span.len }

abbrev pub shifted : ℕ → Token → Token
shifted at (token.Name span) = token.Name (shifted_span at span)
shifted at token.LongName = token.LongName
shifted at (token.Number span value) = token.Number (shifted_span at span) value
shifted at token.TooLarge = token.TooLarge
shifted at (token.Quoted span) = token.Quoted (shifted_span at span)
shifted at token.BadQuote = token.BadQuote
shifted at (token.Infix op) = token.Infix op
shifted at token.Negation = token.Negation
shifted at (token.Truth value) = token.Truth value
shifted at (token.Mark sign) = token.Mark sign
shifted at (token.Word kind) = token.Word kind
shifted at token.To = token.To
shifted at token.Then = token.Then
shifted at (token.FormatText span) = token.FormatText (shifted_span at span)
shifted at (token.Other code) = token.Other code
