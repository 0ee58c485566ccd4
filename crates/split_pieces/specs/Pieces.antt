-- The pieces of a file: one for each program unit, with the comments before it. ANSI X3.9-1978, section 11.14: the END statement ends a
-- program unit, and is written on one initial card; 3.2: cards are the lines of a file.
use Rattle.std.specs.Prelude.{◌≡◌, ℕ, Bool, true, false, ◌&&◌, List, [], ◌∷◌, ◌++◌, map, replicate, Some, if◌then◌else◌}
use Rattle.std.specs.List.{list_any, concat}
use Rattle.fortran_lexemes.specs.f_tree.declared.refusals.Kind.{Kind}
use Rattle.fortran_lexemes.specs.f_tree.declared.refusals.Kind.TheVariants.{FileTooLong}
use Rattle.fortran_lexemes.specs.fortran_text.Cards.{columns_of}
use Rattle.fortran_lexemes.specs.fortran_text.CharactersOfText.{is_end}
use Rattle.fortran_lexemes.specs.fortran_text.FirstFault.{too_long}
use Rattle.fortran_lexemes.specs.fortran_text.KindsOfCards.{kind_of, text_of}
use Rattle.fortran_lexemes.specs.fortran_text.Lines.{lines}
use Rattle.fortran_lexemes.specs.fortran_text.declared.source.CardKind.{CardKind}
use Rattle.fortran_lexemes.specs.fortran_text.declared.source.CardKind.TheVariants.{Comment, Initial, Continuation}
use Rattle.split_pieces.specs.WantedNames.{wanted_of}
use Rattle.split_pieces.specs.declared.wanted.WantedName.{WantedName}

-- An initial card, which begins a statement.
abbrev pub is_initial_kind : CardKind → Bool
is_initial_kind Comment = false
is_initial_kind Initial = true
is_initial_kind Continuation = false

unfoldable pub is_initial : List ℕ → Bool
is_initial line = is_initial_kind (kind_of (columns_of line))

-- An END card: an initial card whose text without its blanks is END.
unfoldable pub is_end_card : List ℕ → Bool
is_end_card line = is_initial line && is_end (text_of (columns_of line))

-- A line before pieces: it begins the first of them.
unfoldable pub before_pieces : List ℕ → List (List ℕ) → List (List ℕ)
before_pieces line [] = line ∷ []
before_pieces line (piece ∷ more) = (line ++ piece) ∷ more

-- The lines are cut behind each END card. What follows the last one and has no statement belongs to the last piece.
unfoldable pub pieces_of_lines : List (List ℕ) → List (List ℕ)
pieces_of_lines [] = []
pieces_of_lines (line ∷ more) =
    if is_end_card line then (if list_any is_initial more then line ∷ pieces_of_lines more else (line ++ concat more) ∷ [])
    else before_pieces line (pieces_of_lines more)

unfoldable pub texts_of : List ℕ → List (List ℕ)
texts_of bytes = pieces_of_lines (lines bytes)

-- A piece: its text, and the name that it asks for.
pub record Piece : Type 0 where
  pub text : List ℕ
  pub wanted : WantedName

-- The texts of pieces.
abbrev pub texts_in : List Piece → List (List ℕ)
texts_in pieces = map (λ (p : Piece). p.text) pieces

abbrev pub piece_of : List ℕ → Piece
piece_of text = record { text = text; wanted = wanted_of text }

unfoldable pub pieces_of : List ℕ → List Piece
pieces_of bytes = map piece_of (texts_of bytes)

-- A text that has one END card, its last card.
pub record EndsWithEnd (text : List ℕ) : Type 0 where
  pub before : ℕ
  pub one_end : map is_end_card (lines text) ≡ replicate before false ++ true ∷ []

-- Each of some texts but the last has one END card, its last card.
abbrev pub AllButLastEnd : List (List ℕ) → Type 0
AllButLastEnd [] = Unit {0}
AllButLastEnd (text ∷ []) = Unit {0}
AllButLastEnd (text ∷ next ∷ more) = EndsWithEnd text × AllButLastEnd (next ∷ more)

-- The only fault for which a file is not cut: it is too long, at a card.
abbrev pub IsPastLimit : List ℕ → ℕ → Kind → Type 0
IsPastLimit bytes card kind = (too_long bytes ≡ Some card) × (kind ≡ FileTooLong)
