-- Pieces that are wanted, whatever their text.
use Rattle.std.specs.Prelude.{ℕ, Bool, ◌&&◌, nat_le, nat_lt, List, [], ◌∷◌, length, Option, Some, None, if◌then◌else◌}
use Rattle.fortran_lexemes.specs.Lexemes.{Lexeme, Lexemes}
use Rattle.fortran_grammar.specs.Forms.{Sort, sort, behind}
use Rattle.fortran_grammar.specs.Forms as piece
use Rattle.grammar_laws.specs.FormReading.{same}
use Rattle.expression_parse.specs.declared.forms.Wanted.{Wanted}
use Rattle.expression_parse.specs.declared.forms.Wanted.TheVariants as wanted

unfoldable pub sort_of : Wanted → Sort
sort_of wanted.Open = piece.Open
sort_of wanted.Close = piece.Close
sort_of wanted.Comma = piece.Comma
sort_of wanted.Equals = piece.Equals
sort_of wanted.Colon = piece.Colon
sort_of wanted.Star = piece.Star
sort_of wanted.Slash = piece.Slash
sort_of wanted.TwoSlashes = piece.TwoSlashes
sort_of wanted.Plus = piece.Plus
sort_of wanted.Minus = piece.Minus
sort_of wanted.To = piece.ToWord
sort_of wanted.Then = piece.ThenWord

unfoldable pub is_of_sort : Sort → Lexeme → Bool
is_of_sort k lexeme = same k (sort (lexeme ∷ []))

-- The pieces behind a piece of a sort.
unfoldable pub taken : Sort → Lexemes → Option Lexemes
taken k pieces = if same k (sort pieces) then Some (behind pieces) else None

unfoldable pub is_label : List ℕ → ℕ → Bool
is_label digits value = nat_le (length digits) 5 && nat_lt 0 value
